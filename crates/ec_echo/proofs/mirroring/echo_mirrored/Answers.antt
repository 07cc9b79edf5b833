use Rattle.std.proofs.Common.{refl, sym, subst}
use Rattle.ec_mirror.specs.Disks.{StandsOver, mirror_view, standing}
use Rattle.ec_echo.proofs.Mirrors.{over-moved}
use Rattle.ec_echo.proofs.mirroring.echo_mirrored.Goals as goal

pub echo_pinned-status-requires-clause-pinned : goal.echo_pinned-status-requires-clause-pinned
echo_pinned-status-requires-clause-pinned g c κs within = record { first_is = refl; second_is = refl; first_one = c.requires.first; second_one = c.requires.second; first_failed = refl; second_failed = refl }

pub is_over_its_disks-requires-clause-first : goal.is_over_its_disks-requires-clause-first
is_over_its_disks-requires-clause-first g c = c.echo_pinned-status.ensures.pinned.first_one

pub is_over_its_disks-requires-clause-second : goal.is_over_its_disks-requires-clause-second
is_over_its_disks-requires-clause-second g c = c.echo_pinned-status.ensures.pinned.second_one

pub returns-clause-ran : goal.returns-clause-ran
returns-clause-ran g c = record {
  ended = c.echo_pinned-status.result.1;
  promised = c.echo_pinned-status.ensures.promised;
  standing = standing c.echo_pinned-status.result.1;
  over = over-moved (g.A.Disk.tells × g.B.Disk.tells) (standing c.echo_pinned-status.result.1) c.echo_pinned-status.result.1.parts.tally.faults _ _ _ _ (mirror_view g.A.Disk.view g.B.Disk.view c.echo_pinned-status.result.1) g.A.Disk.view g.B.Disk.view g.A.Disk.counts g.B.Disk.counts _ _ _ _ c.is_over_its_disks.ensures c.echo_pinned-status.ensures.pinned.first_failed c.echo_pinned-status.ensures.pinned.second_failed (sym c.into_disks-first.ensures.first.1) (sym c.into_disks-first.ensures.second.1);
}
