-- Runs of the machine: a script with leases, and all that it shows.
use Rattle.std.specs.Prelude.{◌≡◌, ℕ, List, []}
use Rattle.ec_durable.specs.Durable.{formatted}
use Rattle.ec_lease_machine.specs.Drill.{LeaseRead, drill}
use Rattle.ec_lease_machine.specs.declared.world.LeaseShown.{LeaseShown}

-- how long Leases run, by how much clocks may differ, the lines of a script, and the lines and the status that they lead to on a formatted disk
pub record LeaseRun : Type 0 where
  pub length : ℕ
  pub most : ℕ
  pub lines : List LeaseRead
  pub shown : List LeaseShown
  pub status : ℕ

-- the machine shows exactly these lines, and ends with this status
abbrev pub Shows : LeaseRun → Type 0
Shows r = drill r.length r.most r.lines [] (formatted 1024) ≡ (r.shown, r.status)
