use Rattle.std.proofs.Common.{◌≡◌, length, map, take}
use Rattle.ec_mounts.specs.Mounts.{AreSeated}
use Rattle.ec_mount_table.proofs.Sofar.{Sofar}
use Rattle.ec_mount_table.proofs.rows.make_rows.Given as goal

abbrev pub invariant-rows : goal.invariant-rows
invariant-rows g l =
    AreSeated (map (λ c. c.lock) l.clerks) (map (λ p. p.pass) l.parts)
    × (length l.parts ≡ length l.fn.parts)
    × Sofar l.table (take l.row-index l.rows) l.mets.items (map (λ p. p.pass) l.parts)
