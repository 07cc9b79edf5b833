use Rattle.std.proofs.Common.{◌≤◌, length}
use Rattle.ec_mount.specs.Run.{NetSeen}
use Rattle.ec_mount_table.proofs.Volumes.{Volumes}
use Rattle.ec_mount_table.proofs.reach.reach_all.Given as goal

abbrev pub invariant-words : goal.invariant-words
invariant-words g l =
    let start : NetSeen = record { faults = g.N.Net.faults l.fn.net; bad = g.N.Net.bad l.fn.net; ended = g.N.Net.ended l.fn.net } in
    let now : NetSeen = record { faults = g.N.Net.faults l.net; bad = g.N.Net.bad l.net; ended = g.N.Net.ended l.net } in
    (start.faults ≤ now.faults)
    × (l.word-index ≤ length l.volumes.words.now)
    × Volumes (λ c. c.lock) g.N.Link.Link.given g.N.Link.Link.got l.volumes.clerk l.volumes.boot l.word-index start now l.list.items
