-- At each moment of a run all facts hold of its world, and so its volume has the shape that durable lines leave.
use Rattle.std.proofs.Common.{◌≡◌, ◌≤◌, ◌+◌, ◌-◌, ℕ, zero, suc, T, Bool, true, false, List, [], ◌∷◌, ◌++◌, Option, Some, None, refl, sym, ap, subst, ◌∙◌, arith, append-nil, append_assoc}
use Rattle.std.specs.Prelude.{length, nat_lt, slice_get, drop, take, Ok}
use Rattle.std.proofs.lemmas.List.{length-append, take-append-drop}
use Rattle.ec_volume.specs.Volume.{images}
use Rattle.ec_volume.specs.declared.image.Image.TheVariants.{Gone}
use Rattle.ec_history.specs.Lines.{IsStored}
use Rattle.ec_history.specs.Placing.{EachLine}
use Rattle.ec_history.specs.declared.shown.Shown.{Shown}
use Rattle.ec_history.specs.declared.shown.Shown.TheVariants as show
use Rattle.ec_history.proofs.OfLaws.ForPlacing.Numbers.{each-back, each-front}
use Rattle.ec_plain.specs.BoundedCalls.{is_bounded}
use Rattle.ec_plain.specs.declared.call.Call.{Call}
use Rattle.ec_durable.specs.WellFormed.{WellFormed}
use Rattle.ec_durable.specs.declared.state.Durable.{Durable}
use Rattle.ec_protocol.specs.Drill.{Ending, Fates, Ran, Read, reads, unfit, BadLine, Done, IsSpent, TooMany, bound, carry_out, close, ending_of, ends, first_fates, last_line, max_pending, piece_before, rest_fates, run_from}
use Rattle.ec_protocol.specs.Drill as machine
use Rattle.ec_protocol.specs.World.{Moving, forget, moving, open_world, pending, show_noted}
use Rattle.ec_protocol.specs.declared.script.Line.{Line}
use Rattle.ec_protocol.specs.declared.script.Line.TheVariants as line
use Rattle.ec_protocol.specs.declared.world.Noted.{Noted}
use Rattle.ec_protocol.specs.declared.world.Noted.TheVariants as noted_of
use Rattle.ec_protocol.specs.declared.world.World.{World}
use Rattle.ec_protocol.specs.declared.world.WorldFault.{WorldFault}
use Rattle.ec_coherence.specs.Steps.{call_of}
use Rattle.ec_coherence.proofs.ForServer.Tables.{same_some}
use Rattle.ec_lawful.specs.Headline.{IsGreatest, Lines, Pieces}
use Rattle.ec_lawful.specs.Headline as headline
use Rattle.ec_lawful.specs.Calls.{AreOf, IsOf}
use Rattle.ec_lawful.specs.Drills.{lines_in}
use Rattle.ec_lawful.specs.DrillRuns.{AreFit, Closed, Comes, IsCallIn, IsFit, Sofar}
use Rattle.ec_lawful.specs.Steps.{HoldsIn}
use Rattle.ec_lawful.proofs.Drills.{drills-on, runs-on}
use Rattle.ec_drill.specs.Left.{Moment, behind_lines, in_line, at_end, fates_behind}
use Rattle.ec_lawful.specs.Reached.{IsInOrder}
use Rattle.ec_drill.specs.Drill.{end_of}
use Rattle.ec_lawful.proofs.Worlds.{F, in-order-of, kept-by, no-calls, no-lines, opened-holds}
use Rattle.ec_drill.specs.OfPromise.Left.{IsStoredIn, SaysWhy, in_doubt}
use Rattle.ec_drill.proofs.OfPromise.Left.{stored-in}
use Rattle.ec_base.proofs.Options.{none_some}

-- Lines.

-- calls of these lines are calls of more lines
slice-front : (xs ys : Lines) (n : ℕ) (x : Line) → slice_get xs n ≡ Some x → slice_get (xs ++ ys) n ≡ Some x
slice-front [] ys n x q = absurd (none_some q)
slice-front (z ∷ xs) ys zero x q = q
slice-front (z ∷ xs) ys (suc n) x q = slice-front xs ys n x q

longer-call : (lines more : Lines) (l c : ℕ) (cl : Call) → IsCallIn lines l c cl → IsCallIn (lines ++ more) l c cl
longer-call lines more l c cl p = (p.0, longer (length lines) (length more) (length (lines ++ more)) l (length-append lines more) p.1, slice-front lines more (l - 1) (line.Call c cl) p.2)
  where
    longer : (a b n l : ℕ) → n ≡ a + b → l ≤ a → l ≤ n
    longer a b n l q p = omega (arith, q, p)

of-another : (P Q : ℕ → ℕ → Call → Type 0) → ((l c : ℕ) (cl : Call) → P l c cl → Q l c cl) → (s : Shown) → IsOf P s → IsOf Q s
of-another P Q to (show.Waits l c cl) p = to l c cl p
of-another P Q to (show.Answered l c cl a op) p = to l c cl p
of-another P Q to (show.Durable c ns) p = tt
of-another P Q to (show.Ended c ns) p = tt
of-another P Q to (show.Unseen c) p = tt
of-another P Q to (show.Told c ns) p = tt
of-another P Q to (show.Crashed c) p = tt
of-another P Q to show.Stopped p = tt
of-another P Q to show.Started p = tt
of-another P Q to show.Nothing p = tt
of-another P Q to show.Unsettled p = tt
of-another P Q to (show.Bad n k) p = tt
of-another P Q to (show.DiskBad n) p = tt
of-another P Q to (show.Limit n k) p = tt
of-another P Q to (show.Spent n) p = tt

shown-of : (P Q : ℕ → ℕ → Call → Type 0) → ((l c : ℕ) (cl : Call) → P l c cl → Q l c cl) → (ss : List Shown) → EachLine (IsOf P) ss → EachLine (IsOf Q) ss
shown-of P Q to [] e = tt
shown-of P Q to (s ∷ ss) e = (of-another P Q to s e.0, shown-of P Q to ss e.1)

longer-of : (lines more : Lines) (w : World) → AreOf (IsCallIn lines) w → AreOf (IsCallIn (lines ++ more)) w
longer-of lines more w a = record { calls = λ c n l cl q. longer-call lines more l c cl (a.calls c n l cl q); shown = shown-of (IsCallIn lines) (IsCallIn (lines ++ more)) (longer-call lines more) w.shown a.shown }

abbrev comments : ℕ → Lines
comments zero = []
comments (suc n) = line.Comment ∷ comments n

count-comments : (n : ℕ) → length (comments n) ≡ n
count-comments zero = refl
count-comments (suc n) = let q = count-comments n in omega (arith, q)

few-taken : (n : ℕ) (xs : Lines) → length (take n xs) ≤ length xs
few-taken zero xs = omega arith
few-taken (suc n) [] = omega arith
few-taken (suc n) (x ∷ xs) = let q = few-taken n xs in omega (arith, q)

few-lines : (ls : List Read) → length (lines_in ls) ≤ length ls
few-lines [] = omega arith
few-lines (reads l column ∷ ls) = let q = few-lines ls in omega (arith, q)
few-lines (unfit column ∷ ls) = let q = few-lines ls in omega (arith, q)

-- What is stored.

-- the pool of messages is nothing to it
forget-doubt : (w : World) → in_doubt (forget w) ≡ in_doubt w
forget-doubt w = go w.unshown
  where
    go : (o : Option Noted) → (show_noted o (moving (forget w))).shown ≡ (show_noted o (moving w)).shown
    go None = refl
    go (Some (noted_of.Durable c ns)) = refl
    go (Some (noted_of.Ended c b)) = refl

forgotten : (d : Durable) (w : World) (shown : List Shown) → IsStoredIn d (forget w) shown → IsStoredIn d w shown
forgotten d w shown s = record {
  last = s.last;
  told = s.told;
  at_most_one = s.at_most_one;
  why = s.why;
  top = s.top;
  greatest = s.greatest;
  fronts = subst (λ ss. headline.FrontsAreLawful (headline.placed_on (images d.volume) s.top) d.max_objects (w.shown ++ ss)) (forget-doubt w) s.fronts;
  formed = s.formed;
  stored = subst (λ ss. IsStored (headline.placed_on (images d.volume) s.top) (w.shown ++ ss) (images w.durable.volume)) (forget-doubt w) s.stored;
}

pub one-last : (e : Ending) → (length (last_line e) ≤ 1) × EachLine SaysWhy (last_line e)
one-last Done = (omega arith, tt)
one-last (BadLine n k) = (omega arith, (tt, tt))
one-last (TooMany n) = (omega arith, (tt, tt))
one-last (IsSpent n) = (omega arith, (tt, tt))

-- a last line more
with-last : (d : Durable) (w : World) (e : Ending) (shown : List Shown) → w.shown ++ last_line e ≡ shown → IsStoredIn d w w.shown → IsStoredIn d w shown
with-last d w e shown q s = record { last = last_line e; told = sym q; at_most_one = (one-last e).0; why = (one-last e).1; top = s.top; greatest = s.greatest; fronts = s.fronts; formed = s.formed; stored = s.stored }

same-joined : (pieces : Pieces) → headline.joined pieces ≡ machine.joined pieces
same-joined [] = refl
same-joined (p ∷ ps) = ap (λ (ls : List Shown). p ++ ls) (same-joined ps)

joined-push : (ps : Pieces) (p : List Shown) → machine.joined (ps ++ p ∷ []) ≡ machine.joined ps ++ p
joined-push [] p = append-nil p
joined-push (q ∷ ps) p = ap (λ x. q ++ x) (joined-push ps p) ∙ sym (append_assoc q (machine.joined ps) p)

module _ (d : Durable) (wf : WellFormed d) (sixteen : length d.sessions ≡ 16) (gone : images d.volume 0 ≡ Gone) (top : ℕ) (greatest : IsGreatest (images d.volume) top) (start : World) (q : open_world d ≡ Ok start) where
  -- behind these lines, with these pieces
  abbrev Behind : Lines → Pieces → World → Type 0
  Behind = Sofar (F d wf sixteen gone)

  begins : Behind [] [] start
  begins = record {
    holds = opened-holds d wf sixteen gone start q;
    of = record { calls = λ c k l cl x. absurd (none_some (sym (ap (λ y. call_of c k y) (no-calls d wf sixteen gone start q)) ∙ x)); shown = subst (EachLine (IsOf (IsCallIn []))) (sym (no-lines d wf sixteen gone start q)) tt };
    shown = no-lines d wf sixteen gone start q;
  }

  stored-behind : (w : World) → HoldsIn (F d wf sixteen gone) w → IsStoredIn d w w.shown
  stored-behind w (g, f, st) = stored-in (images d.volume) d.max_objects g f w st d refl refl top greatest

  shows : (w : World) (shown : List Shown) → w.shown ≡ shown → IsStoredIn d w w.shown → IsStoredIn d w shown
  shows w shown e s = subst (IsStoredIn d w) e s

  -- Behind some lines of the script, and with a piece for each line where the run came to their end.
  module _ (k : ℕ) (done : List Read) (fs : List Fates) (fit : AreFit done) where
    abbrev r : Ran
    r = run_from k 1 done fs start

    come : Comes (F d wf sixteen gone) [] [] done r
    come = runs-on (F d wf sixteen gone) (kept-by d wf sixteen gone) k done fs [] [] start begins fit

    pub behind-stored : (shown : List Shown) → machine.joined r.pieces ≡ shown → IsStoredIn d r.world shown
    behind-stored shown e = shows r.world shown ((come.sofar).shown ∙ same-joined r.pieces ∙ e) (stored-behind r.world (come.sofar).holds)

    -- as many lines of a script as were read, of which the first ones were carried out
    padded : (lines : Lines) × (length lines ≡ length done) × Behind lines r.pieces r.world
    padded =
        let more = comments (length done - length come.more) in
        let most : length come.more ≤ length (lines_in done) = subst (λ ls. length ls ≤ length (lines_in done)) (sym come.front) (few-taken (length come.more) (lines_in done)) in (
          come.more ++ more,
          length-append come.more more ∙ ap (λ n. length come.more + n) (count-comments (length done - length come.more)) ∙ up (length come.more) (length (lines_in done)) (length done) most (few-lines done),
          record { holds = (come.sofar).holds; of = longer-of come.more more r.world (come.sofar).of; shown = (come.sofar).shown },
        )
      where
        up : (a b c : ℕ) → a ≤ b → b ≤ c → a + (c - a) ≡ c
        up a b c p q = omega (arith, p, q)

    -- Behind the event of the next line and so many of the messages that are delivered after it: it's the end of a run over that line alone, with this bound.
    module _ (l : Line) (column : ℕ) (fit-line : IsFit (reads l column)) (j : ℕ) (f : Fates) where
      abbrev n : ℕ
      n = length done + 1

      abbrev m : Moving
      m = carry_out j f n l r.world

      next : Comes (F d wf sixteen gone) padded.0 r.pieces (reads l column ∷ []) (run_from j n (reads l column ∷ []) (f ∷ []) r.world)
      next = subst (λ i. Comes (F d wf sixteen gone) padded.0 r.pieces (reads l column ∷ []) (run_from j (i + 1) (reads l column ∷ []) (f ∷ []) r.world)) padded.1
          (runs-on (F d wf sixteen gone) (kept-by d wf sixteen gone) j (reads l column ∷ []) (f ∷ []) padded.0 r.pieces r.world padded.2 (fit-line, tt))

      abbrev IsStoredBy : Ran → Type 0
      IsStoredBy x = IsStoredIn d x.world (machine.joined (r.pieces ++ x.pieces))

      next-stored : IsStoredBy (run_from j n (reads l column ∷ []) (f ∷ []) r.world)
      next-stored =
          let x = run_from j n (reads l column ∷ []) (f ∷ []) r.world in
          shows x.world (machine.joined (r.pieces ++ x.pieces)) ((next.sofar).shown ∙ same-joined (r.pieces ++ x.pieces)) (stored-behind x.world (next.sofar).holds)

      pub line-stored : IsStoredIn d m.world (machine.joined r.pieces ++ m.shown)
      line-stored = by m.fault next-stored
        where
          pushed : (w : World) → IsStoredIn d w (machine.joined (r.pieces ++ m.shown ∷ [])) → IsStoredIn d w (machine.joined r.pieces ++ m.shown)
          pushed w s = subst (IsStoredIn d w) (joined-push r.pieces m.shown) s

          many : (b : Bool) → IsStoredBy (elim b as (λ z. Ran) [
            | true ↦ ends m.world m.shown (TooMany (pending m.world))
            | false ↦ piece_before m.shown (record { world = forget m.world; pieces = []; ending = Done })
          ]) → IsStoredIn d m.world (machine.joined r.pieces ++ m.shown)
          many true s = pushed m.world s
          many false s = forgotten d m.world (machine.joined r.pieces ++ m.shown) (pushed (forget m.world) s)

          by : (o : Option WorldFault) → IsStoredBy (elim o as (λ z. Ran) [
            | Some x ↦ ends m.world m.shown (ending_of n column x)
            | None ↦ elim (nat_lt max_pending (pending m.world)) as (λ z. Ran) [
              | true ↦ ends m.world m.shown (TooMany (pending m.world))
              | false ↦ piece_before m.shown (record { world = forget m.world; pieces = []; ending = Done })
            ]
          ]) → IsStoredIn d m.world (machine.joined r.pieces ++ m.shown)
          by (Some x) s = pushed m.world s
          by None s = many (nat_lt max_pending (pending m.world)) s

  module _ (all : List Read) (fs : List Fates) (fit : AreFit all) where
    -- Behind the last restart.
    end-stored : (r : Ran) → run_from (bound all) 1 all fs start ≡ r → (shown : List Shown) → machine.joined (close r.ending r).pieces ++ last_line (close r.ending r).ending ≡ shown → IsStoredIn d (close r.ending r).world shown
    end-stored r e shown told =
        let c = subst (λ x. Closed (F d wf sixteen gone) [] [] all (close x.ending x)) e (drills-on (F d wf sixteen gone) (kept-by d wf sixteen gone) all fs start (opened-holds d wf sixteen gone start q) (no-calls d wf sixteen gone start q) (no-lines d wf sixteen gone start q) fit) in
        let end = close r.ending r in
        with-last d end.world end.ending shown (ap (λ ss. ss ++ last_line end.ending) ((c.sofar).shown ∙ same-joined end.pieces) ∙ told) (stored-behind end.world (c.sofar).holds)

    done-fit : (done ahead : List Read) → done ++ ahead ≡ all → AreFit done
    done-fit done ahead e = each-front IsFit done ahead (subst AreFit (sym e) fit)

    next-fit : (done ahead : List Read) (l : Line) (column : ℕ) → done ++ reads l column ∷ ahead ≡ all → IsFit (reads l column)
    next-fit done ahead l column e = (each-back IsFit done (reads l column ∷ ahead) (subst AreFit (sym e) fit)).0

    pub moment-stored : (w : World) (shown : List Shown) → Moment (bound all) all fs start w shown → IsStoredIn d w shown
    moment-stored w shown (behind_lines done ahead e r is at told) =
        subst (λ v. IsStoredIn d v shown) (ap (λ (x : Ran). x.world) is ∙ at) (behind-stored (bound all) done fs (done-fit done ahead e) shown (ap (λ (x : Ran). machine.joined x.pieces) is ∙ told))
    moment-stored w shown (in_line done ahead l column e v pieces is j few at told) =
        let f = fates_behind (length done) fs in
        subst (λ x. IsStoredIn d x shown) at
        (subst (IsStoredIn d (carry_out j f (length done + 1) l v).world) told
        (subst (λ (x : Ran). IsStoredIn d (carry_out j f (length done + 1) l x.world).world (machine.joined x.pieces ++ (carry_out j f (length done + 1) l x.world).shown)) is
        (line-stored (bound all) done fs (done-fit done (reads l column ∷ ahead) e) l column (next-fit done ahead l column e) j f)))
    moment-stored w shown (at_end r is at told) = subst (λ v. IsStoredIn d v shown) at (end-stored r is shown told)

-- Behind the restart at the end the world is in order.

abbrev IsWithin : ℕ → ℕ → Call → Type 0
IsWithin l c cl = T (is_bounded cl)

-- a call of lines that fit is within its bounds
at-fit : (rs : List Read) → AreFit rs → (i c : ℕ) (cl : Call) → slice_get (lines_in rs) i ≡ Some (line.Call c cl) → T (is_bounded cl)
at-fit [] a i c cl q = absurd (none_some q)
at-fit (reads l column ∷ rs) a zero c cl q = (subst (λ x. IsFit (reads x column)) (same_some q) a.0).1
at-fit (reads l column ∷ rs) a (suc i) c cl q = at-fit rs a.1 i c cl q
at-fit (unfit column ∷ rs) a i c cl q = at-fit rs a.1 i c cl q

module _ (d : Durable) (wf : WellFormed d) (sixteen : length d.sessions ≡ 16) (gone : images d.volume 0 ≡ Gone) (start : World) (q : open_world d ≡ Ok start) (ls : List Read) (fs : List Fates) (fit : AreFit ls) where
  abbrev ran : Ran
  ran = run_from (bound ls) 1 ls fs start

  closes : Closed (F d wf sixteen gone) [] [] ls (close ran.ending ran)
  closes = drills-on (F d wf sixteen gone) (kept-by d wf sixteen gone) ls fs start (opened-holds d wf sixteen gone start q) (no-calls d wf sixteen gone start q) (no-lines d wf sixteen gone start q) fit

  bounded : (l c : ℕ) (cl : Call) → IsCallIn closes.more l c cl → IsWithin l c cl
  bounded l c cl p =
      let n = length closes.more in
      let first = subst (λ xs. slice_get xs (l - 1) ≡ Some (line.Call c cl)) closes.front p.2 in
      at-fit ls fit (l - 1) c cl
      (subst (λ xs. slice_get xs (l - 1) ≡ Some (line.Call c cl)) (take-append-drop n (lines_in ls)) (slice-front (take n (lines_in ls)) (drop n (lines_in ls)) (l - 1) (line.Call c cl) first))

  pub end-in-order : IsInOrder (images d.volume) d.max_objects (end_of ls fs start)
  end-in-order = in-order-of d wf sixteen gone (close ran.ending ran).world (closes.sofar).holds (shown-of (IsCallIn closes.more) IsWithin bounded (close ran.ending ran).world.shown ((closes.sofar).of).shown)
