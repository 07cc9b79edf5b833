use Rattle.std.proofs.Common.{◌≡◌, ◌++◌, drop}
use Rattle.ec_mount_table.specs.Shown.{syncs_text}
use Rattle.ec_mount_table.proofs.shown.put_syncs.Given as goal

abbrev pub invariant-table : goal.invariant-table
invariant-table l = l.text.items ++ syncs_text l.front (drop l.path-index l.table) l.left ≡ l.fn.text.items ++ syncs_text l.front l.table l.replies
