-- A run over the lines of a script shows no more ends of sessions than its lines ask for, behind each line.
use Rattle.std.proofs.Common.{◌≡◌, refl, sym, ap, subst, ◌∙◌, inl, inr, arith, ◌<◌, ◌≤◌, ◌-◌, ◌+◌, ℕ, zero, suc, Bool, true, false, ◌==◌, length, List, [], ◌∷◌, ◌++◌, Option, Some, None, append-nil, append_assoc}
use Rattle.std.specs.Prelude.{nat_lt, slice_get, take}
use Rattle.std.specs.List.{list_any}
use Rattle.std.proofs.lemmas.List.{length-append}
use Rattle.std.proofs.lemmas.Bool.{or_from}
use Rattle.ec_plain.specs.declared.call.Call.{Call}
use Rattle.ec_history.specs.Placing.{EachLine, is_numbered}
use Rattle.ec_history.specs.declared.shown.Shown.{Shown}
use Rattle.ec_history.specs.declared.shown.Shown.TheVariants as show
use Rattle.ec_protocol.specs.Drill.{Ending, Fates, Ran, Read, reads, unfit, BadLine, Done, IsSpent, TooMany, bound, carry_out, close, ending_of, ends, first_fates, last_restart, later_fates, line_happens, max_pending, on_message, onward, piece_before, rest_fates, run_from, settle, this_fate}
use Rattle.ec_protocol.specs.World as world
use Rattle.ec_protocol.specs.World.{Fate, Moving, due, find, forget, happen, moving, pending, restart, runs, show_line}
use Rattle.ec_protocol.specs.declared.script.Line.{Line}
use Rattle.ec_protocol.specs.declared.script.Line.TheVariants as line
use Rattle.ec_protocol.specs.declared.server.Server.{Server}
use Rattle.ec_protocol.specs.declared.world.Event.{Event}
use Rattle.ec_protocol.specs.declared.world.Event.TheVariants as event
use Rattle.ec_protocol.specs.declared.world.World.{World}
use Rattle.ec_protocol.specs.declared.world.WorldFault.{WorldFault}
use Rattle.ec_coherence.specs.System.{System}
use Rattle.ec_coherence.specs.Steps.{Stands, call_of}
use Rattle.ec_coherence.specs.StandLaws.{lined}
use Rattle.ec_lawful.specs.Headline.{AreEndsAsked, ArePieces, IsPiece, Lines, Pieces, joined, may_end}
use Rattle.ec_lawful.specs.Calls.{AreOf, IsOf, TellsLines}
use Rattle.ec_lawful.specs.Drills.{lines_in}
use Rattle.ec_lawful.specs.DrillRuns.{AreFit, IsCallIn, IsFit, Sofar}
use Rattle.ec_lawful.specs.Steps.{HoldsIn, IsNewIn, MayHappen, StepsKeep}
use Rattle.ec_lawful.proofs.CallsShown.{MayBe, deliver-tells, event-tells, line-tells, quiet-tells, restart-tells}
use Rattle.ec_lawful.proofs.Drills.{drills-on, more-call, slice-last}
use Rattle.ec_lawful.proofs.Events.{deliver-holds, event-holds, restart-holds}
use Rattle.ec_lawful.proofs.ForWhole.Frames.{forgotten-stands, lined-stands}
use Rattle.ec_lawful.specs.Asked.{AsksAgree, EndsAsked, allows, asked_by, ended_by, with_event}
use Rattle.ec_lawful.specs.AskedLaws.{StandsAsked, CallsLined, IsFresh, RestsKeep, RunAsks}
use Rattle.ec_lawful.proofs.Numbers.{IsKnown, Two, behind-lines, known-piece, one-lines, other-lines, own-known, pieces-push, two-lines}
use Rattle.ec_lawful.proofs.ForAsked.Opened.{opened-agrees, opened-asks}
use Rattle.ec_lawful.proofs.ForAsked.Agreeing.{asks-keep}
use Rattle.ec_lawful.proofs.ForAsked.EventsAsk.{deliver-asks, event-asks}
use Rattle.ec_lawful.proofs.Fronts.{asked-line, fronts-more, fronts-push, joined-push}
use Rattle.ec_lawful.proofs.ForAsked.Reading.{alike-asks, ended-line}
use Rattle.ec_lawful.proofs.ForAsked.ServingAsks.{line-alike, restart-asks, weaken}
use Rattle.ec_lawful.proofs.ForAsked.Shown.{asked-show}
use Rattle.ec_base.specs.Bools.{one_if}
use Rattle.ec_base.proofs.Options.{none_some}

-- Calls of the lines so far are calls of more lines.

own-call : (lines : Lines) (c : ℕ) (cl : Call) → IsCallIn (lines ++ line.Call c cl ∷ []) (length lines + 1) c cl
own-call lines c cl = (
  omega arith,
  subst (λ n. length lines + 1 ≤ n) (sym (length-append lines (line.Call c cl ∷ []))) (omega arith),
  ap (slice_get (lines ++ line.Call c cl ∷ [])) (less-one (length lines)) ∙ slice-last lines (line.Call c cl),
)
  where
    less-one : (n : ℕ) → (n + 1) - 1 ≡ n
    less-one n = omega arith

more-line : (lines : Lines) (x : Line) (s : Shown) → IsOf (IsCallIn lines) s → IsOf (IsCallIn (lines ++ x ∷ [])) s
more-line lines x (show.Waits l c cl) e = more-call lines x l c cl e
more-line lines x (show.Answered l c cl a op) e = more-call lines x l c cl e
more-line lines x _ e = tt

more-lines : (lines : Lines) (x : Line) (ss : List Shown) → EachLine (IsOf (IsCallIn lines)) ss → EachLine (IsOf (IsCallIn (lines ++ x ∷ []))) ss
more-lines lines x [] e = tt
more-lines lines x (s ∷ ss) e = (more-line lines x s e.0, more-lines lines x ss e.1)

of-more : (lines : Lines) (x : Line) (w : World) → AreOf (IsCallIn lines) w → AreOf (IsCallIn (lines ++ x ∷ [])) w
of-more lines x w a = record { calls = λ c n l cl q. more-call lines x l c cl (a.calls c n l cl q); shown = more-lines lines x w.shown a.shown }

-- The next number is new.

other : (l n : ℕ) → l ≤ n → (l == n + 1) ≡ false
other l n p = grind arith

not-this : (lines : Lines) (s : Shown) → IsOf (IsCallIn lines) s → is_numbered (length lines + 1) s ≡ false
not-this lines (show.Waits l c cl) e = other l (length lines) e.1
not-this lines (show.Answered l c cl a op) e = other l (length lines) e.1
not-this lines _ e = refl

not-numbered : (lines : Lines) (ss : List Shown) → EachLine (IsOf (IsCallIn lines)) ss → list_any (is_numbered (length lines + 1)) ss ≡ false
not-numbered lines [] e = refl
not-numbered lines (s ∷ ss) e = or_from (is_numbered (length lines + 1) s) _ (not-this lines s e.0) (not-numbered lines ss e.1)

new-line : (lines : Lines) (w : World) → AreOf (IsCallIn lines) w → IsNewIn w (length lines + 1)
new-line lines w a = record { unshown = not-numbered lines w.shown a.shown; unused = λ c m k cl q. below k (length lines) (a.calls c m k cl q).1 }
  where
    below : (k n : ℕ) → k ≤ n → k < n + 1
    below k n p = omega (arith, p)

module _ (first : ℕ → ℕ) (F : System → Type 0) (keep : StepsKeep F) (rest : RestsKeep F) (has-line : CallsLined F) where
  abbrev pub Both : System → Type 0
  Both g = F g × AsksAgree first g

  both : StepsKeep Both
  both = asks-keep first F keep rest

  asks-hold : (w : World) → HoldsIn Both w → HoldsIn (StandsAsked first) w
  asks-hold w (g, h, st) = (g, (keep.agrees g h.0, h.1), st)

  -- each call under way has its line
  holds-lined : (w : World) → HoldsIn Both w → (c n l : ℕ) (cl : Call) → call_of c n w.calls ≡ Some (l, cl) → list_any (is_numbered l) w.shown ≡ true
  holds-lined w (g, h, st) c n l cl q = ap (list_any (is_numbered l)) st.shown ∙ has-line g h.0 c n l cl (sym (ap (call_of c n) st.calls) ∙ q)

  -- so it is known before a line of this number
  all-known : (w : World) → HoldsIn Both w → (k : ℕ) → AreOf (IsKnown w.shown k) w
  all-known w h k = record { calls = λ c n l cl q. inr (holds-lined w h c n l cl q); shown = own-known w.shown k w.shown (λ l e. e) }

  -- Steps from a world.
  record Moves (P : ℕ → ℕ → Call → Type 0) (asked : ℕ → ℕ) (w : World) (m : Moving) : Type 0 where
    holds : HoldsIn Both m.world
    tells : TellsLines P w m
    asks : EndsAsked first asked m.world

  module _ (P : ℕ → ℕ → Call → Type 0) (asked : ℕ → ℕ) (w : World) where
    onward-moves : (m x : Moving) → Moves P asked w m → (x.fault ≡ None → Moves P asked m.world x) → Moves P asked w (onward m x)
    onward-moves m x a f = go x.fault f
      where
        go : (o : Option WorldFault) → (o ≡ None → Moves P asked m.world x) → Moves P asked w (elim o as (λ z. Moving) [ Some g ↦ record m { fault = Some g } | None ↦ record { world = x.world; shown = m.shown ++ x.shown; fault = None } ])
        go (Some g) f = record { holds = a.holds; tells = record { lines = (a.tells).lines; of = (a.tells).of }; asks = record { within = (a.asks).within } }
        go None f =
            let b = f refl in
            record {
              holds = b.holds;
              tells = record { lines = (b.tells).lines ∙ ap (λ y. y ++ x.shown) (a.tells).lines ∙ append_assoc w.shown m.shown x.shown; of = (b.tells).of };
              asks = b.asks;
            }

    unsettled-moves : (m : Moving) → Moves P asked w m → Moves P asked w (show_line show.Unsettled m)
    unsettled-moves m a = record {
      holds = more (a.holds);
      tells = line-tells P w m a.tells show.Unsettled tt;
      asks = alike-asks first asked m.world (show_line show.Unsettled m).world (line-alike m.world (show_line show.Unsettled m).world refl refl refl refl (λ c. ended-line c m.world.shown show.Unsettled)) a.asks;
    }
      where
        more : HoldsIn Both m.world → HoldsIn Both (show_line show.Unsettled m).world
        more (g, h, st) = (lined g show.Unsettled, both.unsettled g h, lined-stands m.world g st show.Unsettled)

    settle-moves : (k : ℕ) (fates : Fates) (m : Moving) → Moves P asked w m → Moves P asked w (settle k fates m)
    settle-moves zero fates m a = go (due m.world)
      where
        go : (o : Option ℕ) → Moves P asked w (elim o as (λ z. Moving) [ None ↦ m | Some i ↦ show_line show.Unsettled m ])
        go None = a
        go (Some i) = unsettled-moves m a
    settle-moves (suc k) fates m a = go (due m.world) (λ f x b. settle-moves k f x b)
      where
        next : (i : ℕ) → Moves P asked w (onward m (world.deliver (this_fate fates) i m.world))
        next i = onward-moves m (world.deliver (this_fate fates) i m.world) a (λ f. record {
          holds = deliver-holds Both both (this_fate fates) i m.world a.holds f;
          tells = deliver-tells P (this_fate fates) i m.world (a.tells).of f;
          asks = deliver-asks first asked (this_fate fates) i m.world (asks-hold m.world a.holds) a.asks f;
        })

        on : (i : ℕ) (o : Option WorldFault) → ((f : Fates) (x : Moving) → Moves P asked w x → Moves P asked w (settle k f x))
            → Moves P asked w (elim o as (λ z. Moving) [ Some f ↦ onward m (world.deliver (this_fate fates) i m.world) | None ↦ settle k (later_fates fates) (onward m (world.deliver (this_fate fates) i m.world)) ])
        on i (Some f) more = next i
        on i None more = more (later_fates fates) (onward m (world.deliver (this_fate fates) i m.world)) (next i)

        go : (o : Option ℕ) → ((f : Fates) (x : Moving) → Moves P asked w x → Moves P asked w (settle k f x)) → Moves P asked w (elim o as (λ z. Moving) [
          | None ↦ m
          | Some i ↦ elim (onward m (world.deliver (this_fate fates) i m.world)).fault as (λ z. Moving) [
            | Some f ↦ onward m (world.deliver (this_fate fates) i m.world)
            | None ↦ settle k (later_fates fates) (onward m (world.deliver (this_fate fates) i m.world))
          ]
        ])
        go None more = a
        go (Some i) more = on i (onward m (world.deliver (this_fate fates) i m.world)).fault more

  -- The event of a line, which is the next of the script.
  module _ (lines : Lines) (asked : ℕ → ℕ) (w : World) (holds : HoldsIn Both w) (of : AreOf (IsCallIn lines) w) (asks : EndsAsked first asked w) (column : ℕ) where
    abbrev now : Line → ℕ → ℕ
    now l c = asked c + one_if (may_end c l)

    -- behind it
    abbrev P : Line → ℕ → ℕ → Call → Type 0
    P l = Two (IsCallIn (lines ++ l ∷ [])) (IsKnown w.shown (length lines + 1))

    of-two : (l : Line) → AreOf (P l) w
    of-two l =
        let a = of-more lines l w of in
        let b = all-known w holds (length lines + 1) in
        record { calls = λ c n k cl q. (a.calls c n k cl q, b.calls c n k cl q); shown = two-lines (IsCallIn (lines ++ l ∷ [])) (IsKnown w.shown (length lines + 1)) w.shown a.shown b.shown }

    abbrev Goes : Line → Moving → Type 0
    Goes l m = m.fault ≡ None → Moves (P l) (now l) w m

    event-goes : (fate : Fate) (l : Line) (e : Event) → ((c : ℕ) → allows e c ≤ one_if (may_end c l)) → MayHappen w e → MayBe (P l) e → Goes l (happen fate e w)
    event-goes fate l e less may is f = record {
      holds = event-holds Both both fate e w holds may f;
      tells = event-tells (P l) fate e w (of-two l) is f;
      asks = weaken first (with_event e asked) (now l) (happen fate e w).world (λ c. more (asked c) (allows e c) (one_if (may_end c l)) (less c)) (event-asks first asked fate w (asks-hold w holds) asks e f);
    }
      where
        more : (a b d : ℕ) → b ≤ d → a + b ≤ a + d
        more a b d p = omega (arith, p)

    message-goes : (fate : Fate) (l : Line) (f : ℕ → Event) → ((i c : ℕ) → allows (f i) c ≤ one_if (may_end c l)) → ((i : ℕ) → MayHappen w (f i)) → ((i : ℕ) → MayBe (P l) (f i)) → (o : Option ℕ) → Goes l (on_message fate f o w)
    message-goes fate l f less may is None g = absurd (none_some (sym g))
    message-goes fate l f less may is (Some i) g = event-goes fate l (f i) (less i) (may i) (is i) g

    zero-less : (c : ℕ) → 0 ≤ 0
    zero-less c = omega arith

    same-less : (z : ℕ) → z ≤ z
    same-less z = omega arith

    begins : (l : Line) → Moves (P l) (now l) w (moving w)
    begins l = record {
      holds = holds;
      tells = quiet-tells (P l) w (of-two l) w refl refl;
      asks = weaken first asked (now l) w (λ c. less (asked c) (one_if (may_end c l))) asks;
    }
      where
        less : (a b : ℕ) → a ≤ a + b
        less a b = omega arith

    line-goes : (fate : Fate) (l : Line) → IsFit (reads l column) → Goes l (line_happens fate (length lines + 1) l w)
    line-goes fate line.Comment p f = begins line.Comment
    line-goes fate (line.Call c cl) p f = event-goes fate (line.Call c cl) (event.Call c (length lines + 1) cl) zero-less (new-line lines w of, p.0, p.1) (own-call lines c cl, inl refl) f
    line-goes fate (line.Push c i) p f = event-goes fate (line.Push c i) (event.Push c i) zero-less tt tt f
    line-goes fate (line.Cut c) p f = event-goes fate (line.Cut c) (event.Cut c) zero-less tt tt f
    line-goes fate (line.Uncut c) p f = event-goes fate (line.Uncut c) (event.Uncut c) zero-less tt tt f
    line-goes fate (line.Drop c k i) p f = message-goes fate (line.Drop c k i) event.Drop (λ j d. zero-less d) (λ j. tt) (λ j. tt) (find c k i w) f
    line-goes fate (line.Repeat c k i) p f = message-goes fate (line.Repeat c k i) event.Repeat (λ j d. zero-less d) (λ j. tt) (λ j. tt) (find c k i w) f
    line-goes fate (line.Deliver c k i) p f = message-goes fate (line.Deliver c k i) event.Deliver (λ j d. zero-less d) (λ j. tt) (λ j. tt) (find c k i w) f
    line-goes fate (line.Resend c) p f = event-goes fate (line.Resend c) (event.Resend c) zero-less tt tt f
    line-goes fate (line.Crash c) p f = event-goes fate (line.Crash c) (event.Crash c) (λ d. same-less (one_if (d == c))) tt tt f
    line-goes fate (line.End c) p f = event-goes fate (line.End c) (event.End c) (λ d. same-less (one_if (d == c))) tt tt f
    line-goes fate line.Stop p f = event-goes fate line.Stop event.Stop zero-less tt tt f
    line-goes fate (line.Arm i ch) p f = event-goes fate (line.Arm i ch) (event.Arm i ch) zero-less tt tt f
    line-goes fate line.Restart p f = event-goes fate line.Restart event.Restart zero-less tt tt f

    -- the whole line
    carried : (k : ℕ) (fates : Fates) (l : Line) → IsFit (reads l column) → Moves (P l) (now l) w (carry_out k fates (length lines + 1) l w)
    carried k fates l p = go m.fault
      where
        m : Moving
        m = onward (moving w) (line_happens (this_fate fates) (length lines + 1) l w)

        one : Moves (P l) (now l) w m
        one = onward-moves (P l) (now l) w (moving w) (line_happens (this_fate fates) (length lines + 1) l w) (begins l) (line-goes (this_fate fates) l p)

        go : (o : Option WorldFault) → Moves (P l) (now l) w (elim o as (λ z. Moving) [ Some f ↦ m | None ↦ settle k (later_fates fates) m ])
        go (Some f) = one
        go None = settle-moves (P l) (now l) w k (later_fates fates) m one

  -- The lines, one behind the other.

  -- A world behind these lines of the script, which gave these pieces: no more ends are shown than they ask for.
  record Stood (lines : Lines) (pieces : Pieces) (w : World) : Type 0 where
    sofar : Sofar Both lines pieces w
    asks : EndsAsked first (asked_by lines) w
    fronts : AreEndsAsked lines pieces
    numbered : ArePieces 1 [] pieces
    counted : length lines ≤ length pieces

  -- the rest of the script was carried out as far as it goes
  record Comes (lines : Lines) (pieces : Pieces) (ls : List Read) (r : Ran) (n : ℕ) : Type 0 where
    more : Lines
    front : more ≡ take (length more) (lines_in ls)
    stood : Stood (lines ++ more) (pieces ++ r.pieces) r.world
    counted : length r.pieces ≤ length more + n

  -- one piece more, behind a world whose lines are told
  stood-more : (lines : Lines) (pieces : Pieces) (w v : World) (more : Lines) (p : List Shown) → Stood lines pieces w → IsPiece (length pieces + 1) w.shown p → length (lines ++ more) ≤ length pieces + 1 → HoldsIn Both v → AreOf (IsCallIn (lines ++ more)) v
      → EndsAsked first (asked_by (lines ++ more)) v → v.shown ≡ w.shown ++ p → Stood (lines ++ more) (pieces ++ p ∷ []) v
  stood-more lines pieces w v more p s i few h o a q = record {
    sofar = record { holds = h; of = o; shown = now };
    asks = a;
    fronts = fronts-push (lines ++ more) pieces p (fronts-more lines more pieces s.fronts) few (λ c. subst (λ x. ended_by c x ≤ asked_by (lines ++ more) c) now (asked-show first (asked_by (lines ++ more)) v a c));
    numbered = pieces-push 1 (length pieces + 1) [] pieces p (turn (length pieces)) s.numbered (subst (λ x. IsPiece (length pieces + 1) x p) (s.sofar).shown i);
    counted = subst (λ n. length (lines ++ more) ≤ n) (sym (length-append pieces (p ∷ []))) few;
  }
    where
      turn : (n : ℕ) → n + 1 ≡ 1 + n
      turn n = omega arith

      now : v.shown ≡ joined (pieces ++ p ∷ [])
      now = q ∙ ap (λ x. x ++ p) (s.sofar).shown ∙ sym (joined-push pieces p)

  one-line-more : (lines : Lines) (pieces : Pieces) (l : Line) → length lines ≤ length pieces → length (lines ++ l ∷ []) ≤ length pieces + 1
  one-line-more lines pieces l p = subst (λ n. n ≤ length pieces + 1) (sym (length-append lines (l ∷ []))) (one (length lines) (length pieces) p)
    where
      one : (n m : ℕ) → n ≤ m → n + 1 ≤ m + 1
      one n m p = omega (arith, p)

  -- behind the same lines
  same-stood : (lines : Lines) (pieces : Pieces) (w v : World) (p : List Shown) → Stood lines pieces w → IsPiece (length pieces + 1) w.shown p → HoldsIn Both v → AreOf (IsCallIn lines) v → EndsAsked first (asked_by lines) v → v.shown ≡ w.shown ++ p → Stood lines (pieces ++ p ∷ []) v
  same-stood lines pieces w v p s i h o a q = subst (λ x. Stood x (pieces ++ p ∷ []) v) (append-nil lines)
      (stood-more lines pieces w v [] p s i (subst (λ x. length x ≤ length pieces + 1) (sym (append-nil lines)) (few (length lines) (length pieces) s.counted)) h (subst (λ x. AreOf (IsCallIn x) v) (sym (append-nil lines)) o)
      (subst (λ x. EndsAsked first (asked_by x) v) (sym (append-nil lines)) a) q)
    where
      few : (n m : ℕ) → n ≤ m → n ≤ m + 1
      few n m p = omega (arith, p)

  -- and behind one more
  line-stood : (lines : Lines) (pieces : Pieces) (w : World) → Stood lines pieces w → length pieces ≡ length lines → (l : Line) (m : Moving)
      → Moves (Two (IsCallIn (lines ++ l ∷ [])) (IsKnown w.shown (length lines + 1))) (λ c. asked_by lines c + one_if (may_end c l)) w m → Stood (lines ++ l ∷ []) (pieces ++ m.shown ∷ []) m.world
  line-stood lines pieces w s even l m a = stood-more lines pieces w m.world (l ∷ []) m.shown s piece (one-line-more lines pieces l s.counted) a.holds of
      (weaken first (λ c. asked_by lines c + one_if (may_end c l)) (asked_by (lines ++ l ∷ [])) m.world (λ c. same (asked_by (lines ++ l ∷ []) c) (asked_by lines c + one_if (may_end c l)) (asked-line c lines l)) a.asks) (a.tells).lines
    where
      same : (a b : ℕ) → a ≡ b → b ≤ a
      same a b p = omega (arith, p)

      of : AreOf (IsCallIn (lines ++ l ∷ [])) m.world
      of = record { calls = λ c n k cl q. (((a.tells).of).calls c n k cl q).0; shown = one-lines (IsCallIn (lines ++ l ∷ [])) (IsKnown w.shown (length lines + 1)) m.world.shown ((a.tells).of).shown }

      known : EachLine (IsOf (IsKnown w.shown (length lines + 1))) m.world.shown
      known = other-lines (IsCallIn (lines ++ l ∷ [])) (IsKnown w.shown (length lines + 1)) m.world.shown ((a.tells).of).shown

      piece : IsPiece (length pieces + 1) w.shown m.shown
      piece = subst (λ n. IsPiece n w.shown m.shown) (sym (ap (λ n. n + 1) even)) (subst (λ x. IsPiece (length lines + 1) x m.shown) (append-nil w.shown)
          (known-piece (length lines + 1) w.shown [] m.shown (behind-lines (IsOf (IsKnown w.shown (length lines + 1))) w.shown m.shown (subst (EachLine (IsOf (IsKnown w.shown (length lines + 1)))) (a.tells).lines known))))

  abbrev carry : ℕ → List Fates → Lines → Line → World → Moving
  carry k fs lines l w = carry_out k (first_fates fs) (length lines + 1) l w

  -- the line was carried out, and the run ended there
  ends-here : (ls : List Read) (lines : Lines) (pieces : Pieces) (l : Line) (column : ℕ) (m : Moving) (e : Ending) → Stood (lines ++ l ∷ []) (pieces ++ m.shown ∷ []) m.world → Comes lines pieces (reads l column ∷ ls) (ends m.world m.shown e) 1
  ends-here ls lines pieces l column m e s = record { more = l ∷ []; front = refl; stood = s; counted = omega arith }

  -- or it went on behind it
  goes-on : (ls : List Read) (lines : Lines) (pieces : Pieces) (l : Line) (column : ℕ) (piece : List Shown) (r : Ran) → Comes (lines ++ l ∷ []) (pieces ++ piece ∷ []) ls r 1 → Comes lines pieces (reads l column ∷ ls) (piece_before piece r) 1
  goes-on ls lines pieces l column piece r c = record {
    more = l ∷ c.more;
    front = ap (λ x. l ∷ x) c.front;
    stood = subst (λ x. Stood x (pieces ++ piece ∷ r.pieces) r.world) (append_assoc lines (l ∷ []) c.more) (subst (λ x. Stood ((lines ++ l ∷ []) ++ c.more) x r.world) (append_assoc pieces (piece ∷ []) r.pieces) c.stood);
    counted = omega (arith, c.counted);
  }

  run-on : (k : ℕ) (ls : List Read) (fs : List Fates) (lines : Lines) (pieces : Pieces) (w : World) → Stood lines pieces w → length pieces ≡ length lines → AreFit ls → Comes lines pieces ls (run_from k (length lines + 1) ls fs w) 1
  run-on k [] fs lines pieces w s even p = record {
    more = [];
    front = refl;
    stood = subst (λ x. Stood x (pieces ++ []) w) (sym (append-nil lines)) (subst (λ x. Stood lines x w) (sym (append-nil pieces)) s);
    counted = omega arith;
  }
  run-on k (unfit column ∷ ls) fs lines pieces w s even p = record {
    more = [];
    front = refl;
    stood = subst (λ x. Stood x (pieces ++ [] ∷ []) w) (sym (append-nil lines)) (same-stood lines pieces w w [] s tt (s.sofar).holds (s.sofar).of s.asks (sym (append-nil w.shown)));
    counted = omega arith;
  }
  run-on k (reads l column ∷ ls) fs lines pieces w s even p = go (carry k fs lines l w).fault (λ t. run-on k ls (rest_fates fs) (lines ++ l ∷ []) (pieces ++ (carry k fs lines l w).shown ∷ []) (forget (carry k fs lines l w).world) t evener p.1)
    where
      evener : length (pieces ++ (carry k fs lines l w).shown ∷ []) ≡ length (lines ++ l ∷ [])
      evener = length-append pieces ((carry k fs lines l w).shown ∷ []) ∙ ap (λ n. n + 1) even ∙ sym (length-append lines (l ∷ []))

      m : Moving
      m = carry k fs lines l w

      moved : Stood (lines ++ l ∷ []) (pieces ++ m.shown ∷ []) m.world
      moved = line-stood lines pieces w s even l m (carried lines (asked_by lines) w (s.sofar).holds (s.sofar).of s.asks column k (first_fates fs) l p.0)

      forgotten : Stood (lines ++ l ∷ []) (pieces ++ m.shown ∷ []) (forget m.world)
      forgotten = record {
        sofar = record { holds = less (moved.sofar).holds; of = record { calls = ((moved.sofar).of).calls; shown = ((moved.sofar).of).shown }; shown = (moved.sofar).shown };
        asks = record { within = (moved.asks).within };
        fronts = moved.fronts;
        numbered = moved.numbered;
        counted = moved.counted;
      }
        where
          less : HoldsIn Both m.world → HoldsIn Both (forget m.world)
          less (g, h, st) = (g, h, forgotten-stands m.world g st)

      More : Type 0
      More = Stood (lines ++ l ∷ []) (pieces ++ m.shown ∷ []) (forget m.world) → Comes (lines ++ l ∷ []) (pieces ++ m.shown ∷ []) ls (run_from k (length (lines ++ l ∷ []) + 1) ls (rest_fates fs) (forget m.world)) 1

      rest-on : (b : Bool) → More → Comes lines pieces (reads l column ∷ ls) (elim b as (λ z. Ran) [
        | true ↦ ends m.world m.shown (TooMany (pending m.world))
        | false ↦ piece_before m.shown (run_from k (length lines + 1 + 1) ls (rest_fates fs) (forget m.world))
      ]) 1
      rest-on true more = ends-here ls lines pieces l column m (TooMany (pending m.world)) moved
      rest-on false more = goes-on ls lines pieces l column m.shown (run_from k (length lines + 1 + 1) ls (rest_fates fs) (forget m.world))
          (subst (λ n. Comes (lines ++ l ∷ []) (pieces ++ m.shown ∷ []) ls (run_from k (n + 1) ls (rest_fates fs) (forget m.world)) 1) (length-append lines (l ∷ [])) (more forgotten))

      go : (o : Option WorldFault) → More → Comes lines pieces (reads l column ∷ ls) (elim o as (λ z. Ran) [
        | Some f ↦ ends m.world m.shown (ending_of (length lines + 1) column f)
        | None ↦ elim (nat_lt max_pending (pending m.world)) as (λ z. Ran) [
          | true ↦ ends m.world m.shown (TooMany (pending m.world))
          | false ↦ piece_before m.shown (run_from k (length lines + 1 + 1) ls (rest_fates fs) (forget m.world))
        ]
      ]) 1
      go (Some f) more = ends-here ls lines pieces l column m (ending_of (length lines + 1) column f) moved
      go None more = rest-on (nat_lt max_pending (pending m.world)) more

  -- The end: a stopped server is restarted.

  closes : (lines : Lines) (pieces : Pieces) (ls : List Read) (r : Ran) → Comes lines pieces ls r 1 → Comes lines pieces ls (close r.ending r) 2
  closes lines pieces ls r c = by r.ending
    where
      same : Comes lines pieces ls r 2
      same = record { more = c.more; front = c.front; stood = c.stood; counted = omega (arith, c.counted) }

      stood-same : (e : Ending) → Stood (lines ++ c.more) (pieces ++ r.pieces) r.world
      stood-same e = c.stood

      faulty : (e : Ending) → Comes lines pieces ls (record r { ending = e }) 2
      faulty e = record { more = c.more; front = c.front; stood = stood-same e; counted = omega (arith, c.counted) }

      restarted : r.world.server ≡ None → (restart runs r.world).fault ≡ None → Comes lines pieces ls (record r { world = (restart runs r.world).world; pieces = r.pieces ++ (restart runs r.world).shown ∷ [] }) 2
      restarted q f =
          let t = restart-tells (IsCallIn (lines ++ c.more)) runs r.world ((c.stood).sofar).of f in
          record {
            more = c.more;
            front = c.front;
            stood = subst (λ x. Stood (lines ++ c.more) x (restart runs r.world).world) (append_assoc pieces r.pieces ((restart runs r.world).shown ∷ []))
                (same-stood (lines ++ c.more) (pieces ++ r.pieces) r.world (restart runs r.world).world (restart runs r.world).shown c.stood (piece f) (restart-holds Both both runs r.world ((c.stood).sofar).holds q f) t.of
                (restart-asks first (asked_by (lines ++ c.more)) r.world (c.stood).asks runs f) t.lines);
            counted = subst (λ n. n ≤ length c.more + 2) (sym (length-append r.pieces ((restart runs r.world).shown ∷ []))) (one-more (length r.pieces) (length c.more) c.counted);
          }
        where
          piece : (restart runs r.world).fault ≡ None → IsPiece (length (pieces ++ r.pieces) + 1) r.world.shown (restart runs r.world).shown
          piece f =
              let u = restart-tells (IsKnown r.world.shown (length (pieces ++ r.pieces) + 1)) runs r.world (all-known r.world ((c.stood).sofar).holds (length (pieces ++ r.pieces) + 1)) f in
              subst (λ x. IsPiece (length (pieces ++ r.pieces) + 1) x (restart runs r.world).shown) (append-nil r.world.shown)
              (known-piece (length (pieces ++ r.pieces) + 1) r.world.shown [] (restart runs r.world).shown (behind-lines (IsOf (IsKnown r.world.shown (length (pieces ++ r.pieces) + 1))) r.world.shown (restart runs r.world).shown
              (subst (EachLine (IsOf (IsKnown r.world.shown (length (pieces ++ r.pieces) + 1)))) u.lines (u.of).shown)))

          one-more : (a b : ℕ) → a ≤ b + 1 → a + 1 ≤ b + 2
          one-more a b p = omega (arith, p)

      last : r.world.server ≡ None → (o : Option WorldFault) → (restart runs r.world).fault ≡ o → Comes lines pieces ls (elim o as (λ z. Ran) [
        | Some f ↦ record r { ending = ending_of 0 0 f }
        | None ↦ record r { world = (restart runs r.world).world; pieces = r.pieces ++ (restart runs r.world).shown ∷ [] }
      ]) 2
      last q (Some f) p = faulty (ending_of 0 0 f)
      last q None p = restarted q p

      stopped : (o : Option Server) → r.world.server ≡ o → Comes lines pieces ls (elim (elim o as (λ z. Bool) [ None ↦ true | Some s ↦ false ]) as (λ z. Ran) [ true ↦ last_restart r | false ↦ r ]) 2
      stopped (Some s) q = same
      stopped None q = last q (restart runs r.world).fault refl

      by : (e : Ending) → Comes lines pieces ls (close e r) 2
      by (IsSpent n) = same
      by Done = stopped r.world.server refl
      by (BadLine n k) = stopped r.world.server refl
      by (TooMany n) = stopped r.world.server refl

-- A whole run, from a world in which nothing happened yet.
module _ (F : System → Type 0) (keep : StepsKeep F) (rest : RestsKeep F) (has-line : CallsLined F) (ls : List Read) (fs : List Fates) (w : World) (g : System) (f : F g) (st : Stands w g) (fresh : IsFresh g) (no-calls : w.calls ≡ []) (no-lines : w.shown ≡ []) (fit : AreFit ls) where
  abbrev ran : Ran
  ran = run_from (bound ls) 1 ls fs w

  abbrev first : ℕ → ℕ
  first = g.first_boot

  at-first : Stood first F keep rest has-line [] [] w
  at-first = record {
    sofar = record {
      holds = (g, (f, opened-agrees w g st fresh), st);
      of = record { calls = λ d n l cl x. absurd (none_some (sym (ap (λ y. call_of d n y) no-calls) ∙ x)); shown = subst (EachLine (IsOf (IsCallIn []))) (sym no-lines) tt };
      shown = no-lines;
    };
    asks = opened-asks w g st fresh;
    fronts = λ d k x. none d k;
    numbered = tt;
    counted = omega arith;
  }
    where
      none : (d k : ℕ) → ended_by d (joined (take k [])) ≤ asked_by (take k []) d
      none d zero = omega arith
      none d (suc k) = omega arith

  comes : Comes first F keep rest has-line [] [] ls (close ran.ending ran) 2
  comes = closes first F keep rest has-line [] [] ls ran (run-on first F keep rest has-line (bound ls) ls fs [] [] w at-first refl fit)

  less : (v : World) → HoldsIn (λ h. F h × AsksAgree first h) v → HoldsIn F v
  less v (h, x, s) = (h, x.0, s)

  pub asked-drills : RunAsks F ls (close ran.ending ran)
  asked-drills = record {
    closed = record {
      more = comes.more;
      front = comes.front;
      sofar = record { holds = less (close ran.ending ran).world ((comes.stood).sofar).holds; of = ((comes.stood).sofar).of; shown = ((comes.stood).sofar).shown };
      counted = comes.counted;
      up = (drills-on F keep ls fs w (g, f, st) no-calls no-lines fit).up;
    };
    asked = (comes.stood).fronts;
    numbered = (comes.stood).numbered;
    least = (comes.stood).counted;
  }
