use Rattle.ec_lease.specs.Worlds.{ClocksGoOn, IsInStep, leased}
use Rattle.ec_lease.specs.OfDrill.Steps.{AreLater}
use Rattle.ec_lease.proofs.OfDrill.Carried.{Settling}
use Rattle.ec_lease.proofs.drill.carrying.settle.Given as goal

abbrev pub invariant-settling : goal.invariant-settling
invariant-settling g l =
    Settling g.D.Disk.tells (g.D.Disk.counts l.fn.disk).stops (g.D.Disk.counts l.disk).stops l.means.bound l.left (leased l.fn.world) (leased l.world) l.fn.piece.items l.piece.items
    × IsInStep g.D.Disk.tells (g.D.Disk.view l.disk) l.world
    × AreLater (g.D.Disk.counts l.fn.disk) (g.D.Disk.counts l.disk) ⊥
    × ClocksGoOn 0 (leased l.fn.world) (leased l.world)

abbrev pub decreases-settling : goal.decreases-settling
decreases-settling g l = l.left
