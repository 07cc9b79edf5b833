-- How a server ends that opens its disk first.
use Rattle.std.proofs.Common.{◌≡◌, ◌≤◌, ℕ, length, Result, Err}
use Rattle.ec_disk.specs.Disk.{View, Counts}
use Rattle.ec_disk.specs.Effects.{Counted}
use Rattle.ec_durable.specs.declared.state.Durable.{Durable}
use Rattle.ec_stands.specs.Stands.{IsBadAt}
use Rattle.ec_store.specs.declared.fault.StoreFault.{StoreFault}
use Rattle.ec_store.specs.declared.fault.StoreFault.TheVariants as store
use Rattle.ec_serve.specs.Serve.{Outside, Opens, Serves}
use Rattle.ec_serve.specs.ServerRuns.{ServesOn}
use Rattle.ec_serve.specs.Endings.{unopened}
use Rattle.ec_serve.specs.declared.ending.Ending.{Ending}
use Rattle.ec_serve.specs.declared.ending.Ending.TheVariants as ending
use Rattle.ec_base.proofs.OutsideLemmas.{rose_later}

-- what was opened is served
pub serves_on : (count : ℕ) (e : Ending) (d : Durable) (w : Outside) (mid : View) (between : Counts) → Opens w.tells w.disk.gives d → w.counts.faults ≤ between.faults → ServesOn d count e (record w { disk = mid; counts = between }) → Serves count e w
serves_on count ending.Done d w mid between opens le ran = (d, opens, ran.0, ran.1)
serves_on count ending.DiskFailed d w mid between opens le ran = rose_later w.counts.faults between.faults w.counts_after.faults le ran
serves_on count (ending.BadDisk place) d w mid between opens le ran = absurd ran
serves_on count ending.NetFailed d w mid between opens le ran = ((d, opens), ran)
serves_on count ending.NoMemory d w mid between opens le ran = tt
serves_on count ending.NotStarted d w mid between opens le ran = ((d, opens), ran)
serves_on count (ending.Spent n) d w mid between opens le ran = (d, opens, ran)

-- nothing was opened
pub serves_not : {A : Type 0} (count : ℕ) (f : StoreFault) (r : Result A StoreFault) (w : Outside) (Stopping : Type 0) → r ≡ Err f → ((place : ℕ) → r ≡ Err (store.BadDisk place) → w.tells → (length w.disk.gives ≡ 0 → ⊥) × IsBadAt w.disk.gives place × (w.disk_after.gives ≡ w.disk.gives))
    → Counted w.counts w.counts_after (r ≡ Err store.DiskFailed) Stopping → Serves count (unopened f) w
serves_not count (store.BadDisk place) r w Stopping is bad counted = bad place is
serves_not count store.DiskFailed r w Stopping is bad counted = counted.failed is
serves_not count store.DiskStopped r w Stopping is bad counted = tt
serves_not count (store.Refused f) r w Stopping is bad counted = tt
serves_not count store.NoMemory r w Stopping is bad counted = tt
