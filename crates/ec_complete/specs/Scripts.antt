-- Scripts without faults: each line goes on in the world behind those before it, as contracts name it.
use Rattle.std.specs.Prelude.{◌≡◌, ◌≤◌, ◌+◌, ℕ, T, List, [], ◌∷◌, length, Ok, ⊤}
use Rattle.ec_base.specs.Tables.{once}
use Rattle.ec_volume.specs.Update.{member}
use Rattle.ec_volume.specs.Volume.{Images, images}
use Rattle.ec_history.specs.History.{Each}
use Rattle.ec_history.specs.Placing.{EachLine}
use Rattle.ec_durable.specs.Durable.{formatted}
use Rattle.ec_durable.specs.WellFormed.{WellFormed}
use Rattle.ec_protocol.specs.Drill.{Fates, Read, bound, drill, line_happens, named_in, reads, settle, unfit}
use Rattle.ec_protocol.specs.World.{forget, open_world, runs}
use Rattle.ec_protocol.specs.declared.world.World.{World}
use Rattle.ec_lawful.specs.Drills.{lines_in}
use Rattle.ec_lawful.specs.DrillRuns.{AreFit}
use Rattle.ec_quiet.specs.OfDeliveries.Runs.{AllRun}
use Rattle.ec_complete.specs.Begins.{EachBegins, bound_for}
use Rattle.ec_complete.specs.Complete.{IsComplete, IsFaultlessRead}
use Rattle.ec_complete.specs.SettledRuns.{EachSettles, HasRoom}
use Rattle.ec_complete.specs.Goes.{GoesThrough, PushGoes}
use Rattle.ec_complete.specs.Ready.{IsReady}
use Rattle.ec_complete.specs.Worlds.{new_outset}

-- In a run on a new disk each line from this number on goes through, in the world behind those before it.
abbrev pub EachGoesOn : Images → ℕ → List ℕ → ℕ → List Read → World → Type 0
EachGoesOn v most names number [] w = IsReady new_outset v most names number w
EachGoesOn v most names number (unfit column ∷ ls) w = ⊥
EachGoesOn v most names number (reads l column ∷ ls) w =
    (q : IsReady new_outset v most names number w) × GoesThrough new_outset v most names number l w q × EachGoesOn v most names (number + 1) ls (forget (settle (bound_for (length (once names))) [] (line_happens runs number l w)).world)

-- no push of these lines meets a fault, with so many deliveries behind each line at most
abbrev pub EachPushGoes : ℕ → ℕ → List Read → World → Type 0
EachPushGoes k number [] w = ⊤
EachPushGoes k number (unfit column ∷ ls) w = ⊤
EachPushGoes k number (reads l column ∷ ls) w = PushGoes number l w × EachPushGoes k (number + 1) ls (forget (settle k [] (line_happens runs number l w)).world)

-- the clerks of these lines have these names
abbrev pub AreNamed : List ℕ → List Read → Type 0
AreNamed names ls = Each (λ c. T (member c names)) (named_in ls)

abbrev pub ScriptsGoOn : Type 0
ScriptsGoOn = (v : Images) (most : ℕ) (names : List ℕ) (number : ℕ) (ls : List Read) (w : World) → IsReady new_outset v most names number w → length (once names) ≤ 16 → 1 ≤ number → number + length ls ≤ 65537 → Each IsFaultlessRead ls → AreFit ls
    → AreNamed names ls → EachPushGoes (bound_for (length (once names))) number ls w → EachGoesOn v most names number ls w

-- then each begins, and settles
abbrev pub ScriptsSettle : Type 0
ScriptsSettle = (v : Images) (most : ℕ) (names : List ℕ) (number : ℕ) (ls : List Read) (w : World) → EachGoesOn v most names number ls w
    → EachBegins (length (once names)) number ls w × EachSettles (bound_for (length (once names))) number ls w

-- A script of at most 65,536 lines without faults and of at most 16 clerks is answered plainly on a new disk, where no push meets a fault and no call is
-- refused for want of room.
abbrev pub ScriptsArePlain : Type 0
ScriptsArePlain = (most : ℕ) → WellFormed (formatted most) → (w : World) → open_world (formatted most) ≡ Ok w → (ls : List Read) (fs : List Fates) → length ls ≤ 65536 → length (once (named_in ls)) ≤ 16 → AreFit ls → Each IsFaultlessRead ls
    → Each AllRun fs → EachPushGoes (bound ls) 1 ls w → EachLine HasRoom (drill ls fs (formatted most)).0 → IsComplete (images (formatted most).volume) (lines_in ls) (drill ls fs (formatted most)).0 (drill ls fs (formatted most)).1
