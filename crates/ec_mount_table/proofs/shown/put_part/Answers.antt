use Rattle.std.proofs.Common.{◌≡◌, ◌++◌, ◌∙◌, drop, length, ap, sym}
use Rattle.std.proofs.lemmas.Bool.{ltb-false, ltb-true}
use Rattle.ec_mount.proofs.Texts.{drop_all, drop_one}
use Rattle.ec_mount_table.specs.Shown.{line_text, part_text, syncs_text}
use Rattle.ec_mount_table.proofs.Pieces.{on_ok, part_none}
use Rattle.ec_mount_table.proofs.shown.put_part.Goals as goal

pub returns-in-Some : goal.returns-in-Some
returns-in-Some c =
    let rows = c.args.rows.now in
    let table = c.args.table.now in
    let replies = c.args.replies.now in
    let row = c.in-Some.row.now in
    let old = c.args.text.now.items in
    let new = c.put_row_syncs.new.text.items in
    let here = drop_one rows c.args.place row (ltb-true c.args.place (length rows) (sym c.in-Some.ensures.lookup.0)) c.in-Some.ensures.lookup.1 in
    on_ok c.put_row_syncs.result (new ≡ old ++ syncs_text (line_text row) table replies) (new ≡ old ++ part_text table (drop c.args.place rows) replies) (λ e. e ∙ ap (λ l. old ++ part_text table l replies) (sym here)) c.put_row_syncs.ensures

pub returns-in-None : goal.returns-in-None
returns-in-None c =
    let rows = c.args.rows.now in
    part_none c.args.text.now.items c.args.table.now (drop c.args.place rows) c.args.replies.now (drop_all rows c.args.place (ltb-false c.args.place (length rows) (sym c.in-None.ensures.lookup.0)))
