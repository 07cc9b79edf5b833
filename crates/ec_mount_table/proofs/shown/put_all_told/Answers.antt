use Rattle.std.proofs.Common.{◌+◌, ◌++◌, ◌∙◌, drop, map, ap, List, ℕ}
use Rattle.std.specs.Prelude.{Vec}
use Rattle.std.specs.declared.alloc.Global.{Global}
use Rattle.std.specs.List.{flat_map}
use Rattle.ec_mount.proofs.Texts.{drop_one}
use Rattle.ec_mount_table.specs.Shown.{all_told_text, told_text}
use Rattle.ec_mount_table.proofs.Pieces.{told_next, text_step}
use Rattle.ec_mount_table.proofs.shown.put_all_told.Goals as goal

pub table-preserved : goal.table-preserved
table-preserved c =
    let table = c.args.table.now in
    let items_of : Vec (List ℕ) Global → List (List ℕ) = λ v. v.items in
    let path = c.path-item.result in
    let rest = drop (c.table.path-index + 1) table in
    let here = drop_one table c.table.path-index path c.table-test.true c.path-item.is in
    text_step c.table.text.items c.put_told.new.text.items (flat_map (told_text path) c.in-Some.lists.now.items) _ (all_told_text rest (map items_of c.in-Some.rest.now)) _ (c.in_ok-put_told.ensures ∙ ap (λ l. c.table.text.items ++ flat_map (told_text path) l) c.deref.ensures.value)
    (told_next (drop c.table.path-index table) rest path (map items_of c.table.left.now) (map items_of c.in-Some.rest.now) c.in-Some.lists.now.items here (ap (map items_of) c.in-Some.ensures.cases.0)) c.table.invariant
