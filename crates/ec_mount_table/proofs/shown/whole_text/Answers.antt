use Rattle.std.proofs.Common.{◌++◌, ◌∙◌, List, ℕ, codes, map, ap}
use Rattle.std.specs.Prelude.{Vec}
use Rattle.std.specs.declared.alloc.Global.{Global}
use Rattle.ec_clerknode.specs.LaneRuns.{lists_of}
use Rattle.ec_mount_table.specs.Shown.{all_told_text, rows_text, syncs_text}
use Rattle.ec_mount_table.proofs.Pieces.{whole_pieces}
use Rattle.ec_mount_table.proofs.shown.whole_text.Goals as goal

pub returns : goal.returns
returns c =
    let a = c.args.answers.now in
    let table = c.args.table.now in
    let rows = c.args.rows.now in
    let none = c.new-text.result.items in
    let first = c.put_rows.new.text.items in
    let second = c.put_all_told.new.text.items in
    whole_pieces (rows_text table rows a.mets.items) (all_told_text table (lists_of a.told)) (syncs_text (codes "end ") table c.args.lasts.now) none first second c.put_syncs.new.text.items c.new-text.ensures.items
    (c.in_ok-put_rows.ensures ∙ ap (λ l. none ++ rows_text table rows l) c.deref.ensures.value)
    (c.in_ok-put_all_told.ensures ∙ ap (λ (l : List (Vec (List ℕ) Global)). first ++ all_told_text table (map (λ (v : Vec (List ℕ) Global). v.items) l)) c.deref-2.ensures.value) c.in_ok-put_syncs.ensures
