use Rattle.ec_mirror.specs.Disks.{faults_in}
use Rattle.ec_echo.proofs.mirroring.echo_mirrored.Given as goal

abbrev pub ghosts-echo_pinned : goal.ghosts-echo_pinned
ghosts-echo_pinned g a = record {
  first = a.mirror.parts.present.pair.first.disk.ghost_name;
  second = a.mirror.parts.present.pair.second.disk.ghost_name;
  first_faults = faults_in g.A.Disk.counts a.mirror.parts.present.pair.first.from.items;
  second_faults = faults_in g.B.Disk.counts a.mirror.parts.present.pair.second.from.items;
}
