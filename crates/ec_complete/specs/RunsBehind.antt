-- Runs and drills that write behind.
use Rattle.std.specs.Prelude.{◌≡◌, ◌≤◌, ◌+◌, ℕ, T, not, List, [], length, Ok, is_some}
use Rattle.ec_base.specs.Tables.{once}
use Rattle.ec_volume.specs.Image.{is_gone}
use Rattle.ec_volume.specs.Volume.{Images, WellFormed, images}
use Rattle.ec_volume.specs.declared.image.Image.TheVariants.{Gone}
use Rattle.ec_history.specs.History.{Base, Each}
use Rattle.ec_history.specs.declared.shown.Shown.{Shown}
use Rattle.ec_durable.specs.WellFormed as states
use Rattle.ec_durable.specs.declared.state.Durable.{Durable}
use Rattle.ec_protocol.specs.Drill.{Fates, Ran, Read, bound, close, named_in, run_from}
use Rattle.ec_protocol.specs.World.{open_world}
use Rattle.ec_protocol.specs.declared.world.World.{World}
use Rattle.ec_lawful.specs.Headline.{Lines, placed_on}
use Rattle.ec_lawful.specs.Drills.{lines_in}
use Rattle.ec_lawful.specs.DrillRuns.{AreFit}
use Rattle.ec_quiet.specs.OfDeliveries.Runs.{AllRun}
use Rattle.ec_complete.specs.Begins.{bound_for}
use Rattle.ec_complete.specs.Complete.{IsFaultlessRead}
use Rattle.ec_complete.specs.Worlds.{Outset}
use Rattle.ec_complete.specs.Ready.{IsReady}
use Rattle.ec_complete.specs.Scripts.{AreNamed}
use Rattle.ec_complete.specs.Pieces.{ArePiecesBehind}

-- a run writes behind, and its server runs at the end
pub record WritesBehind (base : Base) (ls : Lines) (past : List Shown) (r : Ran) : Type 0 where
  pub pieces : ArePiecesBehind base ls past r.pieces
  pub up : T (is_some r.world.server)

-- So does each run over lines without faults from a world that is ready for them, also where a step would spend a counter, which ends it.
abbrev pub RunsWriteBehind : Type 0
RunsWriteBehind = (outset : Outset) (v : Images) (most : ℕ) (names : List ℕ) (top number : ℕ) (ls : List Read) (fs : List Fates) (w : World) → WellFormed v → ((x : ℕ) → T (not (is_gone (v x))) → x ≤ top) → IsReady outset v most names number w → length (once names) ≤ 16 → 1 ≤ number
    → number + length ls ≤ 65537 → Each IsFaultlessRead ls → AreFit ls → AreNamed names ls → Each AllRun fs → WritesBehind (placed_on v top) (lines_in ls) w.shown (run_from (bound_for (length (once names))) number ls fs w)

-- and each drill on a disk that stands for a well-formed state
abbrev pub DrillsWriteBehind : Type 0
DrillsWriteBehind = (d : Durable) → states.WellFormed d → length d.sessions ≡ 16 → images d.volume 0 ≡ Gone → (w : World) → open_world d ≡ Ok w → (top : ℕ) → ((x : ℕ) → T (not (is_gone (images d.volume x))) → x ≤ top) → (ls : List Read) (fs : List Fates)
    → length ls ≤ 65536 → length (once (named_in ls)) ≤ 16 → AreFit ls → Each IsFaultlessRead ls → Each AllRun fs
    → let ran = run_from (bound ls) 1 ls fs w in WritesBehind (placed_on (images d.volume) top) (lines_in ls) [] ran × (close ran.ending ran ≡ ran)
