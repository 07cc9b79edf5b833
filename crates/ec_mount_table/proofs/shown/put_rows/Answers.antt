use Rattle.std.proofs.Common.{◌+◌, drop}
use Rattle.ec_mount.proofs.Texts.{drop_one}
use Rattle.ec_mount_table.specs.Shown.{seen_text, rows_text}
use Rattle.ec_mount_table.proofs.Pieces.{rows_next, text_step}
use Rattle.ec_mount_table.proofs.shown.put_rows.Goals as goal

pub rows-preserved : goal.rows-preserved
rows-preserved c =
    let rows = c.args.rows.now in
    let table = c.args.table.now in
    let row = c.row-item.result in
    let rest = drop (c.rows.row-index + 1) rows in
    let here = drop_one rows c.rows.row-index row c.rows-test.true c.row-item.is in
    text_step c.rows.text.items c.put_seen.new.text.items (seen_text table row c.in-Some.met.now) _ (rows_text table rest c.in-Some.rest.now) _ c.in_ok-put_seen.ensures
    (rows_next table (drop c.rows.row-index rows) rest row c.rows.left.now c.in-Some.rest.now c.in-Some.met.now here c.in-Some.ensures.cases.0) c.rows.invariant
