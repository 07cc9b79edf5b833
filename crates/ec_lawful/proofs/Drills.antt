-- A run over the lines of a script: the facts hold behind each line, and its lines are told.
use Rattle.std.proofs.Common.{◌≡◌, refl, sym, ap, subst, ◌∙◌, arith, ◌<◌, ◌≤◌, ◌-◌, ◌+◌, ℕ, zero, suc, T, Bool, true, false, ◌==◌, ◌||◌, cond, length, List, [], ◌∷◌, ◌++◌, Option, Some, None, append-nil, append_assoc}
use Rattle.std.specs.Prelude.{is_some, nat_lt, slice_get, take, ⊤}
use Rattle.std.specs.List.{list_any}
use Rattle.std.proofs.lemmas.List.{length-append}
use Rattle.std.proofs.lemmas.Bool.{or_from}
use Rattle.ec_plain.specs.declared.call.Call.{Call}
use Rattle.ec_history.specs.Placing.{EachLine, is_numbered}
use Rattle.ec_history.specs.declared.shown.Shown.{Shown}
use Rattle.ec_history.specs.declared.shown.Shown.TheVariants as show
use Rattle.ec_protocol.specs.Drill.{Ending, Fates, Ran, Read, reads, unfit, BadLine, Done, IsSpent, TooMany, bound, carry_out, close, last_restart, ending_of, ends, first_fates, later_fates, line_happens, max_pending, on_message, onward, piece_before, rest_fates, run_from, settle, this_fate}
use Rattle.ec_base.specs.declared.counter.Counter.{Counter}
use Rattle.ec_durable.specs.declared.record.Record.TheVariants as record_of
use Rattle.ec_protocol.specs.Server as server
use Rattle.ec_protocol.specs.declared.world.Noted.{Noted}
use Rattle.ec_protocol.specs.declared.world.Noted.TheVariants as noted_of
use Rattle.ec_protocol.specs.World as world
use Rattle.ec_protocol.specs.World.{Fate, Moving, due, find, forget, happen, moving, pending, restart, runs, show_line}
use Rattle.ec_protocol.specs.declared.script.Line.{Line}
use Rattle.ec_protocol.specs.declared.script.Line.TheVariants as line
use Rattle.ec_protocol.specs.declared.world.Event.{Event}
use Rattle.ec_protocol.specs.declared.world.Event.TheVariants as event
use Rattle.ec_protocol.specs.declared.server.Server.{Server}
use Rattle.ec_protocol.specs.declared.world.World.{World}
use Rattle.ec_protocol.specs.declared.world.WorldFault.{WorldFault}
use Rattle.ec_protocol.specs.declared.world.WorldFault.TheVariants as fault
use Rattle.ec_coherence.specs.System.{System}
use Rattle.ec_coherence.specs.Steps.{call_of}
use Rattle.ec_coherence.proofs.ForServer.Tables.{same_some}
use Rattle.ec_lawful.proofs.ForWhole.Pool.{sends-all}
use Rattle.ec_coherence.specs.StandLaws.{lined}
use Rattle.ec_lawful.specs.Headline.{Lines, Pieces, joined}
use Rattle.ec_lawful.specs.Calls.{AreOf, EachCall, IsOf, TellsLines}
use Rattle.ec_lawful.specs.Drills.{lines_in}
use Rattle.ec_lawful.specs.DrillRuns.{AreFit, Closed, Comes, IsCallIn, IsFit, IsUnspent, Sofar}
use Rattle.ec_lawful.specs.Steps.{HoldsIn, IsNewIn, MayHappen, StepsKeep}
use Rattle.ec_lawful.proofs.CallsShown.{MayBe, deliver-tells, event-tells, line-tells, quiet-tells, restart-tells}
use Rattle.ec_lawful.proofs.Events.{deliver-holds, event-holds, restart-holds}
use Rattle.ec_lawful.proofs.ForWhole.Frames.{forgotten-stands, lined-stands}
use Rattle.ec_base.proofs.Options.{none_some}
use Rattle.ec_base.proofs.Numbers.{longer}

-- Calls of the lines so far are calls of more lines.

pub slice-front : (xs ys : Lines) (n : ℕ) (x : Line) → slice_get xs n ≡ Some x → slice_get (xs ++ ys) n ≡ Some x
slice-front [] ys n x q = absurd (none_some q)
slice-front (z ∷ xs) ys zero x q = q
slice-front (z ∷ xs) ys (suc n) x q = slice-front xs ys n x q

pub slice-last : (xs : Lines) (x : Line) → slice_get (xs ++ x ∷ []) (length xs) ≡ Some x
slice-last [] x = refl
slice-last (z ∷ xs) x = slice-last xs x

pub more-call : (lines : Lines) (x : Line) (l c : ℕ) (cl : Call) → IsCallIn lines l c cl → IsCallIn (lines ++ x ∷ []) l c cl
more-call lines x l c cl p = (p.0, longer (length lines) 1 (length (lines ++ x ∷ [])) l (length-append lines (x ∷ [])) p.1, slice-front lines (x ∷ []) (l - 1) (line.Call c cl) p.2)

less-one : (n : ℕ) → (n + 1) - 1 ≡ n
less-one n = omega arith

own-call : (lines : Lines) (c : ℕ) (cl : Call) → IsCallIn (lines ++ line.Call c cl ∷ []) (length lines + 1) c cl
own-call lines c cl = (omega arith, subst (λ n. length lines + 1 ≤ n) (sym (length-append lines (line.Call c cl ∷ []))) (omega arith), ap (slice_get (lines ++ line.Call c cl ∷ [])) (less-one (length lines)) ∙ slice-last lines (line.Call c cl))

each-turn : (P Q : ℕ → ℕ → Call → Type 0) → ((l c : ℕ) (cl : Call) → P l c cl → Q l c cl) → (ss : List Shown) → EachLine (IsOf P) ss → EachLine (IsOf Q) ss
each-turn P Q f [] e = tt
each-turn P Q f (show.Waits l c cl ∷ ss) e = (f l c cl e.0, each-turn P Q f ss e.1)
each-turn P Q f (show.Answered l c cl a op ∷ ss) e = (f l c cl e.0, each-turn P Q f ss e.1)
each-turn P Q f (show.Durable c ns ∷ ss) e = (tt, each-turn P Q f ss e.1)
each-turn P Q f (show.Ended c ns ∷ ss) e = (tt, each-turn P Q f ss e.1)
each-turn P Q f (show.Unseen c ∷ ss) e = (tt, each-turn P Q f ss e.1)
each-turn P Q f (show.Told c ns ∷ ss) e = (tt, each-turn P Q f ss e.1)
each-turn P Q f (show.Crashed c ∷ ss) e = (tt, each-turn P Q f ss e.1)
each-turn P Q f (show.Stopped ∷ ss) e = (tt, each-turn P Q f ss e.1)
each-turn P Q f (show.Started ∷ ss) e = (tt, each-turn P Q f ss e.1)
each-turn P Q f (show.Nothing ∷ ss) e = (tt, each-turn P Q f ss e.1)
each-turn P Q f (show.Unsettled ∷ ss) e = (tt, each-turn P Q f ss e.1)
each-turn P Q f (show.Bad n k ∷ ss) e = (tt, each-turn P Q f ss e.1)
each-turn P Q f (show.DiskBad n ∷ ss) e = (tt, each-turn P Q f ss e.1)
each-turn P Q f (show.Limit n k ∷ ss) e = (tt, each-turn P Q f ss e.1)
each-turn P Q f (show.Spent n ∷ ss) e = (tt, each-turn P Q f ss e.1)

of-more : (lines : Lines) (x : Line) (w : World) → AreOf (IsCallIn lines) w → AreOf (IsCallIn (lines ++ x ∷ [])) w
of-more lines x w a = record {
  calls = λ c n l cl q. more-call lines x l c cl (a.calls c n l cl q);
  shown = each-turn (IsCallIn lines) (IsCallIn (lines ++ x ∷ [])) (more-call lines x) w.shown a.shown;
}

-- the next number is new
not-numbered : (lines : Lines) (ss : List Shown) → EachLine (IsOf (IsCallIn lines)) ss → list_any (is_numbered (length lines + 1)) ss ≡ false
not-numbered lines [] e = refl
not-numbered lines (show.Waits l c cl ∷ ss) e = or_from (l == length lines + 1) _ (other l (length lines) e.0.1) (not-numbered lines ss e.1)
  where
    other : (l n : ℕ) → l ≤ n → (l == n + 1) ≡ false
    other l n p = grind arith
not-numbered lines (show.Answered l c cl a op ∷ ss) e = or_from (l == length lines + 1) _ (other l (length lines) e.0.1) (not-numbered lines ss e.1)
  where
    other : (l n : ℕ) → l ≤ n → (l == n + 1) ≡ false
    other l n p = grind arith
not-numbered lines (show.Durable c ns ∷ ss) e = not-numbered lines ss e.1
not-numbered lines (show.Ended c ns ∷ ss) e = not-numbered lines ss e.1
not-numbered lines (show.Unseen c ∷ ss) e = not-numbered lines ss e.1
not-numbered lines (show.Told c ns ∷ ss) e = not-numbered lines ss e.1
not-numbered lines (show.Crashed c ∷ ss) e = not-numbered lines ss e.1
not-numbered lines (show.Stopped ∷ ss) e = not-numbered lines ss e.1
not-numbered lines (show.Started ∷ ss) e = not-numbered lines ss e.1
not-numbered lines (show.Nothing ∷ ss) e = not-numbered lines ss e.1
not-numbered lines (show.Unsettled ∷ ss) e = not-numbered lines ss e.1
not-numbered lines (show.Bad n k ∷ ss) e = not-numbered lines ss e.1
not-numbered lines (show.DiskBad n ∷ ss) e = not-numbered lines ss e.1
not-numbered lines (show.Limit n k ∷ ss) e = not-numbered lines ss e.1
not-numbered lines (show.Spent n ∷ ss) e = not-numbered lines ss e.1

new-line : (lines : Lines) (w : World) → AreOf (IsCallIn lines) w → IsNewIn w (length lines + 1)
new-line lines w a = record { unshown = not-numbered lines w.shown a.shown; unused = λ c n k cl q. below k (length lines) (a.calls c n k cl q).1 }
  where
    below : (k n : ℕ) → k ≤ n → k < n + 1
    below k n p = omega (arith, p)

module _ (F : System → Type 0) (keep : StepsKeep F) where
  -- Steps from a world.
  record Moves (P : ℕ → ℕ → Call → Type 0) (w : World) (m : Moving) : Type 0 where
    holds : HoldsIn F m.world
    tells : TellsLines P w m

  module _ (P : ℕ → ℕ → Call → Type 0) (w : World) where
    onward-moves : (m n : Moving) → Moves P w m → (n.fault ≡ None → Moves P m.world n) → Moves P w (onward m n)
    onward-moves m n a f = go n.fault f
      where
        go : (o : Option WorldFault) → (o ≡ None → Moves P m.world n) → Moves P w (elim o as (λ z. Moving) [ Some g ↦ record m { fault = Some g } | None ↦ record { world = n.world; shown = m.shown ++ n.shown; fault = None } ])
        go (Some g) f = record { holds = a.holds; tells = record { lines = (a.tells).lines; of = (a.tells).of } }
        go None f =
            let b = f refl in
            record {
              holds = b.holds;
              tells = record { lines = (b.tells).lines ∙ ap (λ x. x ++ n.shown) (a.tells).lines ∙ append_assoc w.shown m.shown n.shown; of = (b.tells).of };
            }

    unsettled-moves : (m : Moving) → Moves P w m → Moves P w (show_line show.Unsettled m)
    unsettled-moves m a = record { holds = more (a.holds); tells = line-tells P w m a.tells show.Unsettled tt }
      where
        more : HoldsIn F m.world → HoldsIn F (show_line show.Unsettled m).world
        more (g, h, st) = (lined g show.Unsettled, keep.unsettled g h, lined-stands m.world g st show.Unsettled)

    settle-moves : (k : ℕ) (fates : Fates) (m : Moving) → Moves P w m → Moves P w (settle k fates m)
    settle-moves zero fates m a = go (due m.world)
      where
        go : (o : Option ℕ) → Moves P w (elim o as (λ z. Moving) [ None ↦ m | Some n ↦ show_line show.Unsettled m ])
        go None = a
        go (Some n) = unsettled-moves m a
    settle-moves (suc k) fates m a = go (due m.world) (λ f x b. settle-moves k f x b)
      where
        next : (n : ℕ) → Moves P w (onward m (world.deliver (this_fate fates) n m.world))
        next n = onward-moves m (world.deliver (this_fate fates) n m.world) a (λ f. record { holds = deliver-holds F keep (this_fate fates) n m.world a.holds f; tells = deliver-tells P (this_fate fates) n m.world (a.tells).of f })

        on : (n : ℕ) (o : Option WorldFault) → ((f : Fates) (x : Moving) → Moves P w x → Moves P w (settle k f x))
            → Moves P w (elim o as (λ z. Moving) [ Some f ↦ onward m (world.deliver (this_fate fates) n m.world) | None ↦ settle k (later_fates fates) (onward m (world.deliver (this_fate fates) n m.world)) ])
        on n (Some f) more = next n
        on n None more = more (later_fates fates) (onward m (world.deliver (this_fate fates) n m.world)) (next n)

        go : (o : Option ℕ) → ((f : Fates) (x : Moving) → Moves P w x → Moves P w (settle k f x)) → Moves P w (elim o as (λ z. Moving) [
          | None ↦ m
          | Some n ↦ elim (onward m (world.deliver (this_fate fates) n m.world)).fault as (λ z. Moving) [
            | Some f ↦ onward m (world.deliver (this_fate fates) n m.world)
            | None ↦ settle k (later_fates fates) (onward m (world.deliver (this_fate fates) n m.world))
          ]
        ])
        go None more = a
        go (Some n) more = on n (onward m (world.deliver (this_fate fates) n m.world)).fault more

  -- The event of a line, which is the next of the script.
  module _ (lines : Lines) (w : World) (holds : HoldsIn F w) (of : AreOf (IsCallIn lines) w) (column : ℕ) where
    abbrev Goes : Line → Moving → Type 0
    Goes l m = m.fault ≡ None → Moves (IsCallIn (lines ++ l ∷ [])) w m

    event-goes : (fate : Fate) (l : Line) (e : Event) → MayHappen w e → MayBe (IsCallIn (lines ++ l ∷ [])) e → Goes l (happen fate e w)
    event-goes fate l e may is f = record { holds = event-holds F keep fate e w holds may f; tells = event-tells (IsCallIn (lines ++ l ∷ [])) fate e w (of-more lines l w of) is f }

    message-goes : (fate : Fate) (l : Line) (f : ℕ → Event) → ((n : ℕ) → MayHappen w (f n)) → ((n : ℕ) → MayBe (IsCallIn (lines ++ l ∷ [])) (f n)) → (o : Option ℕ) → Goes l (on_message fate f o w)
    message-goes fate l f may is None g = absurd (none_some (sym g))
    message-goes fate l f may is (Some n) g = event-goes fate l (f n) (may n) (is n) g

    line-goes : (fate : Fate) (l : Line) → IsFit (reads l column) → Goes l (line_happens fate (length lines + 1) l w)
    line-goes fate line.Comment p f = record { holds = holds; tells = quiet-tells (IsCallIn (lines ++ line.Comment ∷ [])) w (of-more lines line.Comment w of) w refl refl }
    line-goes fate (line.Call c cl) p f = event-goes fate (line.Call c cl) (event.Call c (length lines + 1) cl) (new-line lines w of, p.0, p.1) (own-call lines c cl) f
    line-goes fate (line.Push c n) p f = event-goes fate (line.Push c n) (event.Push c n) tt tt f
    line-goes fate (line.Cut c) p f = event-goes fate (line.Cut c) (event.Cut c) tt tt f
    line-goes fate (line.Uncut c) p f = event-goes fate (line.Uncut c) (event.Uncut c) tt tt f
    line-goes fate (line.Drop c k n) p f = message-goes fate (line.Drop c k n) event.Drop (λ i. tt) (λ i. tt) (find c k n w) f
    line-goes fate (line.Repeat c k n) p f = message-goes fate (line.Repeat c k n) event.Repeat (λ i. tt) (λ i. tt) (find c k n w) f
    line-goes fate (line.Deliver c k n) p f = message-goes fate (line.Deliver c k n) event.Deliver (λ i. tt) (λ i. tt) (find c k n w) f
    line-goes fate (line.Resend c) p f = event-goes fate (line.Resend c) (event.Resend c) tt tt f
    line-goes fate (line.Crash c) p f = event-goes fate (line.Crash c) (event.Crash c) tt tt f
    line-goes fate (line.End c) p f = event-goes fate (line.End c) (event.End c) tt tt f
    line-goes fate line.Stop p f = event-goes fate line.Stop event.Stop tt tt f
    line-goes fate (line.Arm n ch) p f = event-goes fate (line.Arm n ch) (event.Arm n ch) tt tt f
    line-goes fate line.Restart p f = event-goes fate line.Restart event.Restart tt tt f

    -- the whole line
    carried : (k : ℕ) (fates : Fates) (l : Line) → IsFit (reads l column) → Moves (IsCallIn (lines ++ l ∷ [])) w (carry_out k fates (length lines + 1) l w)
    carried k fates l p = go m.fault
      where
        m : Moving
        m = onward (moving w) (line_happens (this_fate fates) (length lines + 1) l w)

        begins : Moves (IsCallIn (lines ++ l ∷ [])) w (moving w)
        begins = record { holds = holds; tells = quiet-tells (IsCallIn (lines ++ l ∷ [])) w (of-more lines l w of) w refl refl }

        first : Moves (IsCallIn (lines ++ l ∷ [])) w m
        first = onward-moves (IsCallIn (lines ++ l ∷ [])) w (moving w) (line_happens (this_fate fates) (length lines + 1) l w) begins (line-goes (this_fate fates) l p)

        go : (o : Option WorldFault) → Moves (IsCallIn (lines ++ l ∷ [])) w (elim o as (λ z. Moving) [ Some f ↦ m | None ↦ settle k (later_fates fates) m ])
        go (Some f) = first
        go None = settle-moves (IsCallIn (lines ++ l ∷ [])) w k (later_fates fates) m first

  -- The lines, one behind the other.

  joined-push : (ps : Pieces) (p : List Shown) → joined (ps ++ p ∷ []) ≡ joined ps ++ p
  joined-push [] p = append-nil p
  joined-push (q ∷ ps) p = ap (λ x. q ++ x) (joined-push ps p) ∙ sym (append_assoc q (joined ps) p)

  sofar-line : (lines : Lines) (pieces : Pieces) (w : World) → Sofar F lines pieces w → (l : Line) (m : Moving) → Moves (IsCallIn (lines ++ l ∷ [])) w m → Sofar F (lines ++ l ∷ []) (pieces ++ m.shown ∷ []) m.world
  sofar-line lines pieces w s l m a = record { holds = a.holds; of = (a.tells).of; shown = (a.tells).lines ∙ ap (λ x. x ++ m.shown) s.shown ∙ sym (joined-push pieces m.shown) }

  abbrev carry : ℕ → List Fates → Lines → Line → World → Moving
  carry k fs lines l w = carry_out k (first_fates fs) (length lines + 1) l w

  -- the line was carried out, and the run ended there
  ends-here : (ls : List Read) (lines : Lines) (pieces : Pieces) (w : World) (l : Line) (column : ℕ) (m : Moving) (e : Ending) → Sofar F (lines ++ l ∷ []) (pieces ++ m.shown ∷ []) m.world → Comes F lines pieces (reads l column ∷ ls) (ends m.world m.shown e)
  ends-here ls lines pieces w l column m e s = record { more = l ∷ []; front = refl; sofar = s; counted = omega arith }

  -- or it went on behind it
  goes-on : (ls : List Read) (lines : Lines) (pieces : Pieces) (l : Line) (column : ℕ) (piece : List Shown) (r : Ran) → Comes F (lines ++ l ∷ []) (pieces ++ piece ∷ []) ls r → Comes F lines pieces (reads l column ∷ ls) (piece_before piece r)
  goes-on ls lines pieces l column piece r c = record {
    more = l ∷ c.more;
    front = ap (λ x. l ∷ x) c.front;
    sofar = subst (λ x. Sofar F x (pieces ++ piece ∷ r.pieces) r.world) (append_assoc lines (l ∷ []) c.more) (subst (λ x. Sofar F ((lines ++ l ∷ []) ++ c.more) x r.world) (append_assoc pieces (piece ∷ []) r.pieces) c.sofar);
    counted = omega (arith, c.counted);
  }

  pub runs-on : (k : ℕ) (ls : List Read) (fs : List Fates) (lines : Lines) (pieces : Pieces) (w : World) → Sofar F lines pieces w → AreFit ls → Comes F lines pieces ls (run_from k (length lines + 1) ls fs w)
  runs-on k [] fs lines pieces w s p = record {
    more = [];
    front = refl;
    sofar = subst (λ x. Sofar F x (pieces ++ []) w) (sym (append-nil lines)) (subst (λ x. Sofar F lines x w) (sym (append-nil pieces)) s);
    counted = omega arith;
  }
  runs-on k (unfit column ∷ ls) fs lines pieces w s p = record {
    more = [];
    front = refl;
    sofar = subst (λ x. Sofar F x (pieces ++ [] ∷ []) w) (sym (append-nil lines)) record { holds = s.holds; of = s.of; shown = s.shown ∙ sym (append-nil (joined pieces)) ∙ sym (joined-push pieces []) };
    counted = omega arith;
  }
  runs-on k (reads l column ∷ ls) fs lines pieces w s p = go (carry k fs lines l w).fault (λ t. runs-on k ls (rest_fates fs) (lines ++ l ∷ []) (pieces ++ (carry k fs lines l w).shown ∷ []) (forget (carry k fs lines l w).world) t p.1)
    where
      moved : Sofar F (lines ++ l ∷ []) (pieces ++ (carry k fs lines l w).shown ∷ []) (carry k fs lines l w).world
      moved = sofar-line lines pieces w s l (carry k fs lines l w) (carried lines w s.holds s.of column k (first_fates fs) l p.0)

      forgotten : Sofar F (lines ++ l ∷ []) (pieces ++ (carry k fs lines l w).shown ∷ []) (forget (carry k fs lines l w).world)
      forgotten = record { holds = less moved.holds; of = record { calls = (moved.of).calls; shown = (moved.of).shown }; shown = moved.shown }
        where
          less : HoldsIn F (carry k fs lines l w).world → HoldsIn F (forget (carry k fs lines l w).world)
          less (g, h, st) = (g, h, forgotten-stands (carry k fs lines l w).world g st)

      rest : (b : Bool) → (Sofar F (lines ++ l ∷ []) (pieces ++ (carry k fs lines l w).shown ∷ []) (forget (carry k fs lines l w).world)
          → Comes F (lines ++ l ∷ []) (pieces ++ (carry k fs lines l w).shown ∷ []) ls (run_from k (length (lines ++ l ∷ []) + 1) ls (rest_fates fs) (forget (carry k fs lines l w).world)))
          → Comes F lines pieces (reads l column ∷ ls) (elim b as (λ z. Ran) [
            | true ↦ ends (carry k fs lines l w).world (carry k fs lines l w).shown (TooMany (pending (carry k fs lines l w).world))
            | false ↦ piece_before (carry k fs lines l w).shown (run_from k (length lines + 1 + 1) ls (rest_fates fs) (forget (carry k fs lines l w).world))
          ])
      rest true more = ends-here ls lines pieces w l column (carry k fs lines l w) (TooMany (pending (carry k fs lines l w).world)) moved
      rest false more = goes-on ls lines pieces l column (carry k fs lines l w).shown (run_from k (length lines + 1 + 1) ls (rest_fates fs) (forget (carry k fs lines l w).world))
          (subst (λ n. Comes F (lines ++ l ∷ []) (pieces ++ (carry k fs lines l w).shown ∷ []) ls (run_from k (n + 1) ls (rest_fates fs) (forget (carry k fs lines l w).world))) (length-append lines (l ∷ [])) (more forgotten))

      go : (o : Option WorldFault) → (Sofar F (lines ++ l ∷ []) (pieces ++ (carry k fs lines l w).shown ∷ []) (forget (carry k fs lines l w).world)
          → Comes F (lines ++ l ∷ []) (pieces ++ (carry k fs lines l w).shown ∷ []) ls (run_from k (length (lines ++ l ∷ []) + 1) ls (rest_fates fs) (forget (carry k fs lines l w).world)))
          → Comes F lines pieces (reads l column ∷ ls) (elim o as (λ z. Ran) [
            | Some f ↦ ends (carry k fs lines l w).world (carry k fs lines l w).shown (ending_of (length lines + 1) column f)
            | None ↦ elim (nat_lt max_pending (pending (carry k fs lines l w).world)) as (λ z. Ran) [
              | true ↦ ends (carry k fs lines l w).world (carry k fs lines l w).shown (TooMany (pending (carry k fs lines l w).world))
              | false ↦ piece_before (carry k fs lines l w).shown (run_from k (length lines + 1 + 1) ls (rest_fates fs) (forget (carry k fs lines l w).world))
            ]
          ])
      go (Some f) more = ends-here ls lines pieces w l column (carry k fs lines l w) (ending_of (length lines + 1) column f) moved
      go None more = rest (nat_lt max_pending (pending (carry k fs lines l w).world)) more

  -- The end: a stopped server is restarted.

  -- a restart that isn't refused brings the server up
  comes-up : (w : World) → (restart runs w).fault ≡ None → T (is_some (restart runs w).world.server)
  comes-up w f = by (server.start w.durable).spent f
    where
      by : (o : Option Counter) → (elim o as (λ z. Moving) [ Some n ↦ world.fails (fault.Spent n) w | None ↦ world.restarted runs (server.start w.durable) w ]).fault ≡ None
          → T (is_some (elim o as (λ z. Moving) [ Some n ↦ world.fails (fault.Spent n) w | None ↦ world.restarted runs (server.start w.durable) w ]).world.server)
      by (Some n) f = absurd (none_some (sym f))
      by None f =
          let t = server.start w.durable in
          let x = record ((show_line show.Started (world.show_noted w.unshown (moving w))).world) { unshown = None; records = (show_line show.Started (world.show_noted w.unshown (moving w))).world.records ++ record_of.Epoch t.server.durable.epoch ∷ [] } in
          subst (λ o. T (is_some o)) (sym (sends-all t.sent (record x { server = Some t.server; durable = t.server.durable })).server) tt

  -- where it is refused, a counter is spent
  refused : (w : World) (f : WorldFault) → (restart runs w).fault ≡ Some f → IsUnspent (ending_of 0 0 f) → ⊥
  refused w f q u = by (server.start w.durable).spent q
    where
      by : (o : Option Counter) → (elim o as (λ z. Moving) [ Some n ↦ world.fails (fault.Spent n) w | None ↦ world.restarted runs (server.start w.durable) w ]).fault ≡ Some f → ⊥
      by (Some n) q = subst (λ x. IsUnspent (ending_of 0 0 x)) (same_some (sym q)) u
      by None q = none_some (sym (noted-fault w.unshown (moving w) refl) ∙ q)
        where
          noted-fault : (o : Option Noted) (m : Moving) → m.fault ≡ None → (world.show_noted o m).fault ≡ None
          noted-fault None m e = e
          noted-fault (Some (noted_of.Durable c ns)) m e = e
          noted-fault (Some (noted_of.Ended c b)) m e = e

  closes : (lines : Lines) (pieces : Pieces) (ls : List Read) (r : Ran) → Comes F lines pieces ls r → Closed F lines pieces ls (close r.ending r)
  closes lines pieces ls r c = by r.ending refl
    where
      same : (IsUnspent r.ending → T (is_some r.world.server)) → Closed F lines pieces ls r
      same up = record { more = c.more; front = c.front; sofar = c.sofar; counted = omega (arith, c.counted); up = up }

      faulty : (f : WorldFault) → (restart runs r.world).fault ≡ Some f → Closed F lines pieces ls (record r { ending = ending_of 0 0 f })
      faulty f q = record {
        more = c.more;
        front = c.front;
        sofar = record { holds = (c.sofar).holds; of = (c.sofar).of; shown = (c.sofar).shown };
        counted = omega (arith, c.counted);
        up = λ u. absurd (refused r.world f q u);
      }

      restarted : r.world.server ≡ None → (restart runs r.world).fault ≡ None → Closed F lines pieces ls (record r { world = (restart runs r.world).world; pieces = r.pieces ++ (restart runs r.world).shown ∷ [] })
      restarted q f =
          let t = restart-tells (IsCallIn (lines ++ c.more)) runs r.world (c.sofar).of f in
          record {
            more = c.more;
            front = c.front;
            sofar = record {
              holds = restart-holds F keep runs r.world (c.sofar).holds q f;
              of = t.of;
              shown = t.lines ∙ ap (λ x. x ++ (restart runs r.world).shown) (c.sofar).shown ∙ sym (joined-push (pieces ++ r.pieces) (restart runs r.world).shown) ∙ ap joined (append_assoc pieces r.pieces ((restart runs r.world).shown ∷ []));
            };
            counted = subst (λ n. n ≤ length c.more + 2) (sym (length-append r.pieces ((restart runs r.world).shown ∷ []))) (one-more (length r.pieces) (length c.more) c.counted);
            up = λ u. comes-up r.world f;
          }
        where
          one-more : (a b : ℕ) → a ≤ b + 1 → a + 1 ≤ b + 2
          one-more a b p = omega (arith, p)

      last : r.world.server ≡ None → (o : Option WorldFault) → (restart runs r.world).fault ≡ o → Closed F lines pieces ls (elim o as (λ z. Ran) [
        | Some f ↦ record r { ending = ending_of 0 0 f }
        | None ↦ record r { world = (restart runs r.world).world; pieces = r.pieces ++ (restart runs r.world).shown ∷ [] }
      ])
      last q (Some f) p = faulty f p
      last q None p = restarted q p

      stopped : (o : Option Server) → r.world.server ≡ o → Closed F lines pieces ls (elim (elim o as (λ z. Bool) [ None ↦ true | Some s ↦ false ]) as (λ z. Ran) [ true ↦ last_restart r | false ↦ r ])
      stopped (Some s) q = same (λ u. subst (λ o. T (is_some o)) (sym q) tt)
      stopped None q = last q (restart runs r.world).fault refl

      by : (e : Ending) → r.ending ≡ e → Closed F lines pieces ls (close e r)
      by (IsSpent n) q = same (λ u. absurd (subst IsUnspent q u))
      by Done q = stopped r.world.server refl
      by (BadLine n k) q = stopped r.world.server refl
      by (TooMany n) q = stopped r.world.server refl

  pub drills-on : (ls : List Read) (fs : List Fates) (w : World) → HoldsIn F w → w.calls ≡ [] → w.shown ≡ [] → AreFit ls → let ran = run_from (bound ls) 1 ls fs w in Closed F [] [] ls (close ran.ending ran)
  drills-on ls fs w h q r p = closes [] [] ls (run_from (bound ls) 1 ls fs w) (runs-on (bound ls) ls fs [] [] w record {
    holds = h;
    of = record { calls = λ c n l cl x. absurd (none_some (sym (ap (λ y. call_of c n y) q) ∙ x)); shown = subst (EachLine (IsOf (IsCallIn []))) (sym r) tt };
    shown = r;
  } p)
