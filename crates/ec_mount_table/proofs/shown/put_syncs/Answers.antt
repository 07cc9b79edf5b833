use Rattle.std.proofs.Common.{◌+◌, drop}
use Rattle.ec_mount.proofs.Texts.{drop_one}
use Rattle.ec_mount_table.specs.Shown.{sync_text, syncs_text}
use Rattle.ec_mount_table.proofs.Pieces.{syncs_next, text_step}
use Rattle.ec_mount_table.proofs.shown.put_syncs.Goals as goal

pub table-preserved : goal.table-preserved
table-preserved c =
    let table = c.args.table.now in
    let front = c.args.front.now in
    let path = c.path-item.result in
    let rest = drop (c.table.path-index + 1) table in
    let here = drop_one table c.table.path-index path c.table-test.true c.path-item.is in
    text_step c.table.text.items c.put_sync.new.text.items (sync_text front path c.in-Some.reply.now) _ (syncs_text front rest c.in-Some.rest.now) _ c.in_ok-put_sync.ensures
    (syncs_next front (drop c.table.path-index table) rest path c.table.left.now c.in-Some.rest.now c.in-Some.reply.now here c.in-Some.ensures.cases.0) c.table.invariant
