-- Lines whose first steps lead to phases from which they can settle, as contracts name it.
use Rattle.std.specs.Prelude.{◌≡◌, ◌≤◌, ◌<◌, ◌⊎◌, ◌+◌, ◌*◌, ◌^◌, ℕ, List, [], ◌∷◌, length, None, ⊤}
use Rattle.ec_history.specs.History.{Each}
use Rattle.ec_protocol.specs.Drill.{Read, line_happens, reads, settle, unfit}
use Rattle.ec_protocol.specs.World.{Moving, forget, runs}
use Rattle.ec_protocol.specs.declared.world.World.{World}
use Rattle.ec_quiet.specs.Measure.{sum, unsent_by}
use Rattle.ec_quiet.specs.Quiet.{IsIdle}
use Rattle.ec_quiet.specs.Scenes.{IsScene, Scene}
use Rattle.ec_quiet.specs.Works.{Work}
use Rattle.ec_quiet.specs.Bounds.{other_rows}
use Rattle.ec_quiet.specs.First.{HasFirst}
use Rattle.ec_quiet.specs.OfDeliveries.Runs.{CanSettle}
use Rattle.ec_complete.specs.Complete.{IsFaultlessRead}
use Rattle.ec_complete.specs.SettledRuns.{EachSettles}

-- so many messages are far below the limits of counters
abbrev pub most_sent : ℕ
most_sent = 2 ^ 40

-- The line's work is in a phase in which lines begin, from which it can settle; fewer than k other sessions have tokens, and few operations are undurable.
pub record BeginsLine (k : ℕ) (m : Moving) : Type 0 where
  pub work : Work
  pub scene : Scene
  pub stands : IsScene m.world scene
  pub first : HasFirst work scene
  pub can : CanSettle work m most_sent
  pub few : length work.touched ≤ 137
  pub rows : other_rows work.session scene.server.tokens < k
  pub unsent : sum (unsent_by work) scene.clerks ≤ 65535

-- or it did nothing, and all is idle
abbrev pub IsBegun : ℕ → Moving → Type 0
IsBegun k m = BeginsLine k m ⊎ ((sc : Scene) × IsScene m.world sc × IsIdle sc)

-- how many messages are delivered behind a line
abbrev pub bound_for : ℕ → ℕ
bound_for k = 4096 * (k + 1)

-- So does each line from this number on, in the world behind those before it.
abbrev pub EachBegins : ℕ → ℕ → List Read → World → Type 0
EachBegins k number [] w = ⊤
EachBegins k number (unfit column ∷ ls) w = ⊥
EachBegins k number (reads l column ∷ ls) w =
    ((line_happens runs number l w).fault ≡ None) × IsBegun k (line_happens runs number l w) × EachBegins k (number + 1) ls (forget (settle (bound_for k) [] (line_happens runs number l w)).world)

-- Then each settles: a script of at most 65,536 lines and 16 clerks, in a world that sent nothing yet.
abbrev pub RunsSettle : Type 0
RunsSettle = (k : ℕ) (ls : List Read) (w : World) (sc : Scene) → k ≤ 16 → length ls ≤ 65536 → w.sent ≡ 0 → IsScene w sc → IsIdle sc → Each IsFaultlessRead ls → EachBegins k 1 ls w → EachSettles (bound_for k) 1 ls w
