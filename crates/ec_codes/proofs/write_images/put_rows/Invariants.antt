use Rattle.std.proofs.Common.{◌≡◌, ◌++◌, take, true}
use Rattle.std.specs.List.{flat_map, list_all}
use Rattle.ec_codes.specs.Images.{entry_spell}
use Rattle.ec_codes.specs.EntryLaws.{is_entry}
use Rattle.ec_codes.proofs.write_images.put_rows.Given as goal

abbrev pub invariant-loop-place : goal.invariant-loop-place
invariant-loop-place l =
    (l.out.items ≡ l.fn.out.items ++ flat_map entry_spell (take l.place l.entries)) × (list_all is_entry (take l.place l.entries) ≡ true)
