use Rattle.std.proofs.Common.{Bool, false}
use Rattle.std.specs.Prelude.{IsSome}
use Rattle.ec_world.specs.Worlds.{view_of, IsInStep}
use Rattle.ec_drill.specs.ArmedSteps.{IsCalm, heard}
use Rattle.ec_drill.specs.Steps.{IsLater}
use Rattle.ec_drill.proofs.Carried.{Settling}
use Rattle.ec_drill.proofs.carrying.settle.Given as goal

abbrev pub invariant-settling : goal.invariant-settling
invariant-settling g l =
    ((may_stop : Bool) → IsCalm may_stop false (g.D.Disk.counts l.fn.disk)
    → Settling g.D.Disk.tells (heard may_stop (g.D.Disk.counts l.fn.disk)).stops (heard may_stop (g.D.Disk.counts l.disk)).stops l.bound l.left (g.D.Disk.counts l.fn.disk).armed (g.D.Disk.counts l.disk).armed (view_of l.fn.world) (view_of l.world) l.fn.piece.items l.piece.items)
    × IsInStep g.D.Disk.tells (g.D.Disk.view l.disk) l.world
    × IsLater (g.D.Disk.counts l.fn.disk) (g.D.Disk.counts l.disk) ⊥
    × (IsSome (g.D.Disk.counts l.disk).armed → IsSome (g.D.Disk.counts l.fn.disk).armed)

abbrev pub decreases-settling : goal.decreases-settling
decreases-settling g l = l.left
