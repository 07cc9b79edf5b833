-- What a run that was cut off left of its disk.
use Rattle.std.specs.Prelude.{◌≡◌, ◌+◌, ◌≤◌, ℕ, List, ◌∷◌, ◌++◌, length, drop, Result, Ok, Err}
use Rattle.ec_base.specs.declared.counter.Counter.{Counter}
use Rattle.ec_disk.specs.Disk.{View}
use Rattle.ec_durable.specs.declared.state.Durable.{Durable}
use Rattle.ec_history.specs.declared.shown.Shown.{Shown}
use Rattle.ec_stands.specs.Stands.{StandsFor}
use Rattle.ec_protocol.specs.Drill.{Fates, Read, reads, Ran, Done, first_fates, carry_out, run_from, bound, joined, close, last_line}
use Rattle.ec_protocol.specs.declared.script.Line.{Line}
use Rattle.ec_protocol.specs.declared.world.World.{World}

-- P holds of each image that a crash may leave
abbrev pub EachLeft : View → (List ℕ → Type 0) → Type 0
EachLeft now P = (image : List ℕ) → now.may_leave image → P image

-- the fates of the line behind so many others
abbrev pub fates_behind : ℕ → List Fates → Fates
fates_behind n fates = first_fates (drop n fates)

-- A moment of a run over these lines, with the lines shown by then: behind some lines of the script; behind some, the event of the next one and
-- so many of the messages that are delivered after it; or behind the last restart. Where more messages are due then, the machine's line `unsettled`
-- stands behind those shown.
pub data Moment (k : ℕ) (all : List Read) (fates : List Fates) (start v : World) (shown : List Shown) : Type 0 where
  behind_lines : (done ahead : List Read) → done ++ ahead ≡ all → (r : Ran) → run_from k 1 done fates start ≡ r → r.world ≡ v → joined r.pieces ≡ shown → Moment k all fates start v shown
  in_line : (done ahead : List Read) (l : Line) (column : ℕ) → done ++ reads l column ∷ ahead ≡ all
      → (w : World) (pieces : List (List Shown)) → run_from k 1 done fates start ≡ record { world = w; pieces = pieces; ending = Done }
      → (j : ℕ) → j ≤ k → (carry_out j (fates_behind (length done) fates) (length done + 1) l w).world ≡ v
      → joined pieces ++ (carry_out j (fates_behind (length done) fates) (length done + 1) l w).shown ≡ shown → Moment k all fates start v shown
  at_end : (r : Ran) → run_from k 1 all fates start ≡ r → (close r.ending r).world ≡ v → joined (close r.ending r).pieces ++ last_line (close r.ending r).ending ≡ shown → Moment k all fates start v shown

-- The image stands for the durable state at a moment of the run, by which all these lines had been shown.
pub record IsOfMoment (k : ℕ) (all : List Read) (fates : List Fates) (start : World) (written : List Shown) (image : List ℕ) : Type 0 where
  pub world : World
  pub shown : List Shown
  pub moment : Moment k all fates start world shown
  pub rest : List Shown
  pub holds : shown ≡ written ++ rest
  pub stands : StandsFor image world.durable

-- What is left behind a run on this state, which came to this when it was opened. Where that would have spent a counter, nothing was changed.
abbrev pub LeavesOf : View → List Read → List Fates → Durable → Result World Counter → List Shown → Type 0
LeavesOf now all fates d (Err n) written = EachLeft now (λ image. StandsFor image d)
LeavesOf now all fates d (Ok start) written = EachLeft now (IsOfMoment (bound all) all fates start written)
