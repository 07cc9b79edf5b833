use Rattle.std.proofs.Common.{◌≡◌, ◌++◌, drop, map}
use Rattle.ec_mount_table.specs.Shown.{all_told_text}
use Rattle.ec_mount_table.proofs.shown.put_all_told.Given as goal

abbrev pub invariant-table : goal.invariant-table
invariant-table l = l.text.items ++ all_told_text (drop l.path-index l.table) (map (λ v. v.items) l.left) ≡ l.fn.text.items ++ all_told_text l.table (map (λ v. v.items) l.told)
