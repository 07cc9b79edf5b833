use Rattle.std.proofs.Common.{◌≡◌, ◌++◌, ◌∙◌, IfOk, List, ℕ, drop, length, map, ap, subst}
use Rattle.std.specs.Prelude.{Vec}
use Rattle.std.specs.declared.alloc.Global.{Global}
use Rattle.ec_clerknode.specs.LaneRuns.{lists_of}
use Rattle.ec_mount_table.specs.Shown.{all_told_text, part_text, rows_text}
use Rattle.ec_mount_table.proofs.Pieces.{came_pieces}
use Rattle.ec_mount_table.proofs.shown.came_line.Goals as goal

pub returns : goal.returns
returns c t is =
    let a = c.args.answers.now in
    let table = c.args.table.now in
    let rows = c.args.rows.now in
    let none = c.new-text.result.items in
    let first = c.put_rows.new.text.items in
    let second = c.put_part.new.text.items in
    let third = c.put_all_told.new.text.items in
    let done = c.len-done.ensures ∙ a.mets.ok.0 in
    let line : c.deref-4.result.now ≡ t = c.deref-4.ensures.value ∙ subst (λ l. IfOk l (λ (last : Vec ℕ Global). last.items ≡ t)) c.in_ok-last.was is in
    came_pieces (rows_text table rows a.mets.items) (part_text table (drop (length a.mets.items) rows) a.replies.items) (all_told_text table (lists_of a.told)) t none first second third c.extend_from_slice.new.self.items c.new-text.ensures.items
    (c.in_ok-put_rows.ensures ∙ ap (λ l. none ++ rows_text table rows l) c.deref.ensures.value)
    (c.in_ok-put_part.ensures ∙ (ap (λ n. first ++ part_text table (drop n rows) c.deref-2.result.now) done ∙ ap (λ l. first ++ part_text table (drop (length a.mets.items) rows) l) c.deref-2.ensures.value))
    (c.in_ok-put_all_told.ensures ∙ ap (λ (l : List (Vec (List ℕ) Global)). second ++ all_told_text table (map (λ (v : Vec (List ℕ) Global). v.items) l)) c.deref-3.ensures.value)
    (c.in_ok-extend_from_slice.ensures.items ∙ ap (λ l. third ++ l) line)
