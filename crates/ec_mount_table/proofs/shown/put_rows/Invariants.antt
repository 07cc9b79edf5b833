use Rattle.std.proofs.Common.{◌≡◌, ◌++◌, drop}
use Rattle.ec_mount_table.specs.Shown.{rows_text}
use Rattle.ec_mount_table.proofs.shown.put_rows.Given as goal

abbrev pub invariant-rows : goal.invariant-rows
invariant-rows l = l.text.items ++ rows_text l.table (drop l.row-index l.rows) l.left ≡ l.fn.text.items ++ rows_text l.table l.rows l.mets
