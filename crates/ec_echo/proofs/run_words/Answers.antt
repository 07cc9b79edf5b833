use Rattle.std.proofs.Common.{refl, inl, inr}
use Rattle.ec_echo.specs.declared.command.Command.TheVariants.{Drill, Check, Make, Soak, Serve, Mount, Leases, MountTable}
use Rattle.ec_echo.specs.declared.status.Status.TheVariants as status
use Rattle.ec_echo.specs.OfNamed.Seen.{stream}
use Rattle.ec_drill.proofs.OfPromise.Completes.{drills-complete}
use Rattle.ec_drill.proofs.OfPromise.Lawful.{drills-lawful}
use Rattle.ec_drill.proofs.OfPromise.Rooms.{drills-told}
use Rattle.ec_drill.proofs.OfPromise.Spent.{drills-spent}
use Rattle.ec_machine_laws.proofs.OfNodeLaws.Claims.{claims-first}
use Rattle.ec_echo.proofs.Greeting.{mounts-greet}
use Rattle.ec_echo.proofs.Soaks.{soaked_over}
use Rattle.ec_echo.proofs.Starts.{starts_later}
use Rattle.ec_echo.proofs.Usage.{answers-usage}
use Rattle.ec_echo.proofs.run_words.Goals as goal

pub returns-in-Drill-clause-echoes : goal.returns-in-Drill-clause-echoes
returns-in-Drill-clause-echoes g c =
    let lawful = drills-lawful _ c.drill.result _ c.drill.ensures.drilled in
    (c.of_drill.result, c.code-in-Drill.ensures, inr (Drill c.in-Drill.max_objects, rw c.in-Drill.is at c.in-Some.ensures, ((c.drill.result, c.of_drill.ensures, c.drill.ensures.drilled, lawful, drills-complete _ c.drill.result _ c.drill.ensures.drilled lawful, drills-told _ c.drill.result _ c.drill.ensures.drilled, drills-spent _ c.drill.result _ c.drill.ensures.drilled, claims-first), refl)))

pub returns-in-Drill-clause-usage : goal.returns-in-Drill-clause-usage
returns-in-Drill-clause-usage g c = answers-usage _ _ _ _ _ (returns-in-Drill-clause-echoes g c)

pub returns-in-Check-clause-echoes : goal.returns-in-Check-clause-echoes
returns-in-Check-clause-echoes g c =
    (c.check.result, c.code-in-Check.ensures, inr (Check c.in-Check.max_objects, rw c.in-Check.is at c.in-Some.ensures, ((c.check.ensures.judged, record { gives = refl; crash = λ image h. h; counts = refl }), refl)))

pub returns-in-Check-clause-usage : goal.returns-in-Check-clause-usage
returns-in-Check-clause-usage g c = answers-usage _ _ _ _ _ (returns-in-Check-clause-echoes g c)

pub returns-in-Make-clause-echoes : goal.returns-in-Make-clause-echoes
returns-in-Make-clause-echoes g c =
    (c.make.result, c.code-in-Make.ensures, inr (Make c.in-Make.number, rw c.in-Make.is at c.in-Some.ensures, ((c.make.ensures.made, record { left = refl; reads = refl }, record { gives = refl; crash = λ image h. h; counts = refl }), refl)))

pub returns-in-Make-clause-usage : goal.returns-in-Make-clause-usage
returns-in-Make-clause-usage g c = answers-usage _ _ _ _ _ (returns-in-Make-clause-echoes g c)

pub returns-in-Soak-clause-echoes : goal.returns-in-Soak-clause-echoes
returns-in-Soak-clause-echoes g c =
    (c.soak.result, c.code-in-Soak.ensures, inr (Soak c.in-Soak.number, rw c.in-Soak.is at c.in-Some.ensures, ((soaked_over _ _ _ (stream g.S.Source.left g.S.Source.faults c.args.source.now c.args.source.now) c.soak.ensures.soaked, record { left = refl; reads = refl }), refl)))

pub returns-in-Soak-clause-usage : goal.returns-in-Soak-clause-usage
returns-in-Soak-clause-usage g c = answers-usage _ _ _ _ _ (returns-in-Soak-clause-echoes g c)

pub returns-in_default-clause-echoes : goal.returns-in_default-clause-echoes
returns-in_default-clause-echoes g c =
    (status.Usage, c.code.ensures, inl (refl, c.in_default.ensures, record { source = record { left = refl; reads = refl }; held = refl; writes = refl; disk = record { gives = refl; crash = λ image h. h; counts = refl } }, refl))

pub returns-in_default-clause-usage : goal.returns-in_default-clause-usage
returns-in_default-clause-usage g c = answers-usage _ _ _ _ _ (returns-in_default-clause-echoes g c)

pub returns-in-Serve-clause-echoes : goal.returns-in-Serve-clause-echoes
returns-in-Serve-clause-echoes g c =
    (c.serve.result, c.code-in-Serve.ensures, inr (Serve c.in-Serve.count, rw c.in-Serve.is at c.in-Some.ensures, (c.serve.ensures.served, record { left = refl; reads = refl })))

pub returns-in-Serve-clause-usage : goal.returns-in-Serve-clause-usage
returns-in-Serve-clause-usage g c = answers-usage _ _ _ _ _ (returns-in-Serve-clause-echoes g c)

pub returns-in-Mount-clause-echoes : goal.returns-in-Mount-clause-echoes
returns-in-Mount-clause-echoes g c =
    (c.of_mount.result, c.code-in-Mount.ensures, inr (Mount c.in-Mount.clerk, rw c.in-Mount.is at c.in-Some.ensures, (c.mount.result, c.of_mount.ensures, c.mount.ensures.mounted, mounts-greet _ _ c.mount.result _ c.mount.ensures.mounted, record { gives = refl; crash = λ image h. h; counts = refl }, c.mount.ensures.starts)))

pub returns-in-Mount-clause-usage : goal.returns-in-Mount-clause-usage
returns-in-Mount-clause-usage g c = answers-usage _ _ _ _ _ (returns-in-Mount-clause-echoes g c)

pub returns-in-Mount-clause-net : goal.returns-in-Mount-clause-net
returns-in-Mount-clause-net g c = (c.mount.ensures.later.2, starts_later c.mount.result _ _ c.mount.ensures.starts)

pub returns-in-Leases-clause-echoes : goal.returns-in-Leases-clause-echoes
returns-in-Leases-clause-echoes g c =
    (c.of_leases.result, c.code-in-Leases.ensures, inr (Leases c.in-Leases.length c.in-Leases.most, rw c.in-Leases.is at c.in-Some.ensures, ((c.lease_drill.result, c.of_leases.ensures, c.lease_drill.ensures.drilled), refl)))

pub returns-in-Leases-clause-usage : goal.returns-in-Leases-clause-usage
returns-in-Leases-clause-usage g c = answers-usage _ _ _ _ _ (returns-in-Leases-clause-echoes g c)

pub returns-in-MountTable-clause-echoes : goal.returns-in-MountTable-clause-echoes
returns-in-MountTable-clause-echoes g c =
    (c.of_mount-in-MountTable.result, c.code-in-MountTable.ensures, inr (MountTable c.in-MountTable.clerk, rw c.in-MountTable.is at c.in-Some.ensures, (c.mount_all.result, c.of_mount-in-MountTable.ensures, (c.mount_all.ensures.mounted, record { gives = refl; crash = λ image h. h; counts = refl }, c.mount_all.ensures.starts))))

pub returns-in-MountTable-clause-usage : goal.returns-in-MountTable-clause-usage
returns-in-MountTable-clause-usage g c = answers-usage _ _ _ _ _ (returns-in-MountTable-clause-echoes g c)

pub returns-in-MountTable-clause-net : goal.returns-in-MountTable-clause-net
returns-in-MountTable-clause-net g c = (c.mount_all.ensures.later.2, starts_later c.mount_all.result _ _ c.mount_all.ensures.starts)
