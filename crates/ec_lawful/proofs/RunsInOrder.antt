-- Behind each line of a script the world is in order.
use Rattle.std.proofs.Common.{◌≡◌, sym, ap, subst, ◌∙◌, ◌-◌, ℕ, zero, suc, T, List, [], ◌∷◌, Some}
use Rattle.std.specs.Prelude.{length, slice_get, take, Ok, ⊤}
use Rattle.ec_volume.specs.Volume.{images}
use Rattle.ec_volume.specs.declared.image.Image.TheVariants.{Gone}
use Rattle.ec_plain.specs.BoundedCalls.{is_bounded}
use Rattle.ec_plain.specs.declared.call.Call.{Call}
use Rattle.ec_history.specs.History.{Each}
use Rattle.ec_history.specs.Placing.{EachLine}
use Rattle.ec_history.specs.declared.shown.Shown.{Shown}
use Rattle.ec_history.specs.declared.shown.Shown.TheVariants as show
use Rattle.ec_durable.specs.WellFormed.{WellFormed}
use Rattle.ec_durable.specs.declared.state.Durable.{Durable}
use Rattle.ec_protocol.specs.Drill.{Fates, Ran, Read, reads, unfit, bound, run_from}
use Rattle.ec_protocol.specs.World.{open_world}
use Rattle.ec_protocol.specs.declared.script.Line.{Line}
use Rattle.ec_protocol.specs.declared.script.Line.TheVariants as line
use Rattle.ec_protocol.specs.declared.world.World.{World}
use Rattle.ec_coherence.proofs.ForServer.Tables.{same_some}
use Rattle.ec_coherence.specs.Steps.{call_of}
use Rattle.ec_lawful.specs.Headline.{Lines}
use Rattle.ec_lawful.specs.Calls.{IsOf}
use Rattle.ec_lawful.specs.Drills.{lines_in}
use Rattle.ec_lawful.specs.DrillRuns.{AreFit, Comes, IsCallIn, IsFit}
use Rattle.ec_lawful.proofs.Drills.{runs-on}
use Rattle.ec_lawful.specs.Reached.{IsInOrder}
use Rattle.ec_lawful.proofs.Bounded.{IsBounded}
use Rattle.ec_lawful.proofs.Worlds.{F, in-order-of, kept-by, no-calls, no-lines, opened-holds}
use Rattle.ec_base.proofs.Options.{none_some}
use Rattle.ec_coherence.proofs.ForClerk.Evict.{each-front}

-- Calls of a script that fits are within their bounds.

abbrev IsBoundedLine : Line → Type 0
IsBoundedLine (line.Call c cl) = T (is_bounded cl)
IsBoundedLine _ = ⊤

one-bounded : (column : ℕ) (l : Line) → IsFit (reads l column) → IsBoundedLine l
one-bounded column (line.Call c cl) p = p.1
one-bounded column line.Comment p = tt
one-bounded column (line.Push c n) p = tt
one-bounded column (line.Cut c) p = tt
one-bounded column (line.Uncut c) p = tt
one-bounded column (line.Drop c k n) p = tt
one-bounded column (line.Repeat c k n) p = tt
one-bounded column (line.Deliver c k n) p = tt
one-bounded column (line.Resend c) p = tt
one-bounded column (line.Crash c) p = tt
one-bounded column (line.End c) p = tt
one-bounded column line.Stop p = tt
one-bounded column (line.Arm n ch) p = tt
one-bounded column line.Restart p = tt

lines-bounded : (ls : List Read) → AreFit ls → Each IsBoundedLine (lines_in ls)
lines-bounded [] a = tt
lines-bounded (reads l column ∷ ls) a = (one-bounded column l a.0, lines-bounded ls a.1)
lines-bounded (unfit column ∷ ls) a = lines-bounded ls a.1

at-bounded : (ls : Lines) → Each IsBoundedLine ls → (i : ℕ) (l : Line) → slice_get ls i ≡ Some l → IsBoundedLine l
at-bounded [] a i l q = absurd (none_some q)
at-bounded (k ∷ ls) a zero l q = subst IsBoundedLine (same_some q) a.0
at-bounded (k ∷ ls) a (suc i) l q = at-bounded ls a.1 i l q

-- so are those that lines show
bounded-lines : (ls : Lines) → ((l c : ℕ) (cl : Call) → IsCallIn ls l c cl → IsBounded l c cl) → (ss : List Shown) → EachLine (IsOf (IsCallIn ls)) ss → EachLine (IsOf IsBounded) ss
bounded-lines ls f [] e = tt
bounded-lines ls f (show.Waits l c cl ∷ ss) e = (f l c cl e.0, bounded-lines ls f ss e.1)
bounded-lines ls f (show.Answered l c cl a op ∷ ss) e = (f l c cl e.0, bounded-lines ls f ss e.1)
bounded-lines ls f (show.Durable c ns ∷ ss) e = (tt, bounded-lines ls f ss e.1)
bounded-lines ls f (show.Ended c ns ∷ ss) e = (tt, bounded-lines ls f ss e.1)
bounded-lines ls f (show.Unseen c ∷ ss) e = (tt, bounded-lines ls f ss e.1)
bounded-lines ls f (show.Told c ns ∷ ss) e = (tt, bounded-lines ls f ss e.1)
bounded-lines ls f (show.Crashed c ∷ ss) e = (tt, bounded-lines ls f ss e.1)
bounded-lines ls f (show.Stopped ∷ ss) e = (tt, bounded-lines ls f ss e.1)
bounded-lines ls f (show.Started ∷ ss) e = (tt, bounded-lines ls f ss e.1)
bounded-lines ls f (show.Nothing ∷ ss) e = (tt, bounded-lines ls f ss e.1)
bounded-lines ls f (show.Unsettled ∷ ss) e = (tt, bounded-lines ls f ss e.1)
bounded-lines ls f (show.Bad n k ∷ ss) e = (tt, bounded-lines ls f ss e.1)
bounded-lines ls f (show.DiskBad n ∷ ss) e = (tt, bounded-lines ls f ss e.1)
bounded-lines ls f (show.Limit n k ∷ ss) e = (tt, bounded-lines ls f ss e.1)
bounded-lines ls f (show.Spent n ∷ ss) e = (tt, bounded-lines ls f ss e.1)

module _ (d : Durable) (wf : WellFormed d) (sixteen : length d.sessions ≡ 16) (gone : images d.volume 0 ≡ Gone) (w : World) (q : open_world d ≡ Ok w) (ls : List Read) (fs : List Fates) (fit : AreFit ls) (n : ℕ) where
  abbrev r : Ran
  r = run_from (bound ls) 1 (take n ls) fs w

  come : Comes (F d wf sixteen gone) [] [] (take n ls) r
  come = runs-on (F d wf sixteen gone) (kept-by d wf sixteen gone) (bound ls) (take n ls) fs [] [] w
      record {
        holds = opened-holds d wf sixteen gone w q;
        of = record { calls = λ c k l cl x. absurd (none_some (sym (ap (λ y. call_of c k y) (no-calls d wf sixteen gone w q)) ∙ x)); shown = subst (EachLine (IsOf (IsCallIn []))) (sym (no-lines d wf sixteen gone w q)) tt };
        shown = no-lines d wf sixteen gone w q;
      }
      (each-front IsFit n ls fit)

  bounded : Each IsBoundedLine come.more
  bounded = subst (Each IsBoundedLine) (sym come.front) (each-front IsBoundedLine (length come.more) (lines_in (take n ls)) (lines-bounded (take n ls) (each-front IsFit n ls fit)))

  pub run-in-order : IsInOrder (images d.volume) d.max_objects r.world
  run-in-order = in-order-of d wf sixteen gone r.world (come.sofar).holds (bounded-lines come.more (λ l c cl p. at-bounded come.more bounded (l - 1) (line.Call c cl) p.2) r.world.shown ((come.sofar).of).shown)
