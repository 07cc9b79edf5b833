-- What a drill with leases promises of the lines that it wrote. It's told by the lines, the script and the volumes of the disk alone.
use Rattle.std.specs.Prelude.{◌≡◌, ◌≤◌, List, ◌++◌, length, map, Ok, ⊤}
use Rattle.ec_volume.specs.Volume.{images}
use Rattle.ec_durable.specs.declared.state.Durable.{Durable}
use Rattle.ec_history.specs.Placing.{EachLine}
use Rattle.ec_history.specs.declared.shown.Shown.{Shown}
use Rattle.ec_history.specs.declared.shown.Shown.TheVariants.{Bad, DiskBad, Limit, Spent}
use Rattle.ec_protocol.specs.World.{open_world}
use Rattle.ec_protocol.specs.declared.world.World.{World}
use Rattle.ec_lease_machine.specs.Drill.{LeaseRead}
use Rattle.ec_lease_machine.specs.OfLeaseWorlds.Lines.{unheld}
use Rattle.ec_lease_machine.specs.OfLeaseWorlds.Runs.{AreLeased}
use Rattle.ec_lease_machine.specs.declared.world.LeaseShown.{LeaseShown}
use Rattle.ec_lease_machine.specs.declared.world.LeaseShown.TheVariants.{Line}
use Rattle.ec_lease.specs.OfDrill.Drill.{LeaseOutside, IsSeenAll}

-- the line says why a run ended early
abbrev pub SaysEnd : Shown → Type 0
SaysEnd (Bad number column) = ⊤
SaysEnd (DiskBad place) = ⊤
SaysEnd (Limit name n) = ⊤
SaysEnd (Spent n) = ⊤
SaysEnd _ = ⊥

-- The lines that a run over this script wrote, on a disk that stood for this state. But those that say that a session doesn't end yet they are of calls of the
-- script and lawful, and each front of them is legal in the order in which they were printed.
pub record AreLegalOn (reads : List LeaseRead) (state : Durable) (shown : List LeaseShown) : Type 0 where
  -- all but the last one, where that says why the run ended early
  pub told : List LeaseShown
  pub why : List Shown
  pub written : shown ≡ told ++ map Line why
  pub at_most_one : length why ≤ 1
  pub says : EachLine SaysEnd why
  pub leased : AreLeased reads (images state.volume) state.max_objects (unheld told)

-- so it is where it's known what the disk did, of a run that began
abbrev pub IsLegalRun : LeaseOutside → List LeaseRead → Durable → List LeaseShown → Type 0
IsLegalRun w reads state shown = IsSeenAll w → (start : World) → open_world state ≡ Ok start → ∥ AreLegalOn reads state shown ∥₁
