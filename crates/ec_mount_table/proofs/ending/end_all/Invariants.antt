use Rattle.std.proofs.Common.{◌≡◌, None, map, vec_len}
use Rattle.ec_lock.specs.PassViews.{first}
use Rattle.ec_mounts.specs.Mounts.{AreSeated}
use Rattle.ec_mount_table.specs.Runs.{Each}
use Rattle.ec_mount_table.proofs.Partings.{Left}
use Rattle.ec_mount_table.proofs.ending.end_all.Given as goal

abbrev pub invariant-volumes : goal.invariant-volumes
invariant-volumes g l =
    AreSeated (map (λ c. c.lock) l.clerks.items) (map (λ p. p.pass) l.parts.items)
    × Each l.clerks.items (λ place clerk. (first clerk.lock).linker ≡ None)
    × (g.N.Net.faults l.net ≡ g.N.Net.faults l.fn.net)
    × Left g.N.Link.Link.given g.N.Link.Link.got l.is_done (record { faults = g.N.Net.faults l.fn.net; bad = g.N.Net.bad l.fn.net; ended = g.N.Net.ended l.fn.net })
    (record { faults = g.N.Net.faults l.net; bad = g.N.Net.bad l.net; ended = g.N.Net.ended l.net })
    (map (λ c. c.lock) l.fn.clerks.items) (map (λ c. c.lock) l.clerks.items) (map (λ p. p.pass) l.fn.parts.items) (map (λ p. p.pass) l.parts.items) l.all

abbrev pub decreases-volumes : goal.decreases-volumes
decreases-volumes g l = vec_len l.clerks
