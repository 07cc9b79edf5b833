use Rattle.std.proofs.Common.{◌+◌, drop, ap}
use Rattle.std.specs.List.{flat_map}
use Rattle.ec_mount.proofs.Texts.{drop_one}
use Rattle.ec_mount_table.specs.Shown.{told_text}
use Rattle.ec_mount_table.proofs.Pieces.{text_step}
use Rattle.ec_mount_table.proofs.shown.put_told.Goals as goal

pub lists-preserved : goal.lists-preserved
lists-preserved c =
    let lists = c.args.lists.now in
    let text_of = told_text c.args.path.now in
    let ops = c.ops-item.result in
    text_step c.lists.text.items c.put_lost.new.text.items (text_of ops) _ (flat_map text_of (drop (c.lists.ops-index + 1) lists)) _ c.in_ok-put_lost.ensures
    (ap (flat_map text_of) (drop_one lists c.lists.ops-index ops c.lists-test.true c.ops-item.is)) c.lists.invariant
