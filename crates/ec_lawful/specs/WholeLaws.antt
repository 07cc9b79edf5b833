-- What is proved of all facts together, as contracts name it.
use Rattle.std.specs.Prelude.{◌≡◌, ℕ, Contains, None, Some}
use Rattle.ec_wire.specs.declared.msg.Msg.{Msg}
use Rattle.ec_durable.specs.declared.record.Record.{Record}
use Rattle.ec_history.specs.declared.shown.Shown.TheVariants.{Nothing, Unsettled}
use Rattle.ec_protocol.specs.Server.{Serving, end, start, take}
use Rattle.ec_protocol.specs.World.{Fate, committed, restart, stops_with, stops_without}
use Rattle.ec_protocol.specs.declared.server.Server.{Server}
use Rattle.ec_protocol.specs.declared.world.World.{World}
use Rattle.ec_coherence.specs.System.{System}
use Rattle.ec_coherence.specs.Steps.{Stands}
use Rattle.ec_coherence.specs.StandLaws.{crashed, lined, stopped}
use Rattle.ec_lawful.specs.Steps.{HoldsIn, IsServed, IsStep}
use Rattle.ec_lawful.specs.Whole.{Whole}

-- behind each step of a running server, with its record and its messages
abbrev pub ServersKeep : Type 0
ServersKeep = (g : System) (v : Server) → Whole g → g.server ≡ Some v → ((c : ℕ) (m : Msg) → Contains g.pool (c, m) → IsServed Whole g (take c m v)) × ((c : ℕ) → IsServed Whole g (end c v))

-- behind a stop between two steps, and one in a step, without its record or with it
abbrev pub StopsKeep : Type 0
StopsKeep = (g : System) (v : Server) → Whole g → g.server ≡ Some v → Whole (stopped g)

abbrev pub DoubtsKeep : Type 0
DoubtsKeep = (w : World) (g : System) → Whole g → Stands w g → (v : Server) → g.server ≡ Some v → (t : Serving) → IsStep g v t → (r : Record) → t.rec ≡ Some r → t.spent ≡ None
    → HoldsIn Whole (committed stops_without r t w).world × HoldsIn Whole (committed stops_with r t w).world

-- behind a restart, whatever the disk does in it
abbrev pub RestartsKeep : Type 0
RestartsKeep = (w : World) (g : System) → Whole g → Stands w g → w.server ≡ None → (start w.durable).spent ≡ None → (fate : Fate) → HoldsIn Whole (restart fate w).world

-- behind a crash, and lines that say nothing of nodes
abbrev pub CrashesKeep : Type 0
CrashesKeep = (g : System) → Whole g → (c : ℕ) → Whole (crashed g c)

abbrev pub LinesKeep : Type 0
LinesKeep = (g : System) → Whole g → Whole (lined g Nothing) × Whole (lined g Unsettled)
