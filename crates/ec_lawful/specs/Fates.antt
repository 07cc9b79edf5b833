-- Stops and restarts, for the world that stands in a system, and for each fate of the disk.
use Rattle.std.specs.Prelude.{◌≡◌, None, Some}
use Rattle.ec_durable.specs.declared.record.Record.{Record}
use Rattle.ec_history.specs.declared.shown.Shown.TheVariants.{Stopped}
use Rattle.ec_protocol.specs.Server.{Serving, start}
use Rattle.ec_protocol.specs.World.{committed, restart, runs, stops_with, stops_without}
use Rattle.ec_protocol.specs.declared.server.Server.{Server}
use Rattle.ec_protocol.specs.declared.world.World.{World}
use Rattle.ec_coherence.specs.System.{System}
use Rattle.ec_coherence.specs.Steps.{Stands}
use Rattle.ec_coherence.specs.CommitLaws.{AllAgree}
use Rattle.ec_coherence.specs.StandLaws.{lined, stopped}
use Rattle.ec_lawful.specs.Doubts.{doubted}
use Rattle.ec_lawful.specs.Founds.{found_state, shown_in, started_in}

-- the disk stops in a step of the server that commits a record, without it or with it
abbrev pub StopsInStepsAreSuch : Type 0
StopsInStepsAreSuch = (w : World) (g : System) → Stands w g → (v : Server) → w.server ≡ Some v → (r : Record) (t : Serving) → Stands (committed stops_without r t w).world (stopped g) × Stands (committed stops_with r t w).world (doubted g r)

-- a restart in which the disk stops, without the raised epoch or with it
abbrev pub StoppedRestartsAreSuch : Type 0
StoppedRestartsAreSuch = (w : World) (g : System) → Stands w g → w.server ≡ None → (start w.durable).spent ≡ None → Stands (restart stops_without w).world (lined g Stopped) × Stands (restart stops_with w).world (lined g Stopped)

-- a restart that comes up
abbrev pub RestartsAreSuch : Type 0
RestartsAreSuch = (w : World) (g : System) → Stands w g → AllAgree g → w.server ≡ None → (start w.durable).spent ≡ None
    → (w.durable ≡ found_state g w.durable.epoch) × Stands (restart runs w).world (started_in (shown_in g g.unshown) (start (found_state g w.durable.epoch)))
