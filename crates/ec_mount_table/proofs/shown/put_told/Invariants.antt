use Rattle.std.proofs.Common.{◌≡◌, ◌++◌, drop}
use Rattle.std.specs.List.{flat_map}
use Rattle.ec_mount_table.specs.Shown.{told_text}
use Rattle.ec_mount_table.proofs.shown.put_told.Given as goal

abbrev pub invariant-lists : goal.invariant-lists
invariant-lists l = l.text.items ++ flat_map (told_text l.path) (drop l.ops-index l.lists) ≡ l.fn.text.items ++ flat_map (told_text l.path) l.lists
