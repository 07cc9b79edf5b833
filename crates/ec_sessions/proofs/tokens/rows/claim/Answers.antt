use Rattle.std.proofs.Common.{◌≡◌, ap, sym, ◌∙◌, cond}
use Rattle.std.proofs.lemmas.List.{drop_all}
use Rattle.std.proofs.lemmas.Result.{on_ok_weaker}
use Rattle.std.specs.Ordering.{nat_cmp}
use Rattle.std.specs.FinMap.{put}
use Rattle.ec_base.specs.Sorted.{without}
use Rattle.ec_sessions.specs.OfTokens.Tokens.{row, claimed_in, with_row}
use Rattle.ec_sessions.proofs.tokens.rows.claim.Goals as goal
use Rattle.ec_sessions.proofs.tokens.rows.claim.Goals.{After-insert-2}

-- The row with all tokens of the list.
whole : (c : After-insert-2) → c.loop-obj.row ≡ claimed_in c.args.list.now (row c.args.rows.now c.args.s)
whole c = ap (λ l. claimed_in l c.loop-obj.row) (sym (drop_all c.loop-obj.obj-index c.args.list.now c.loop-obj-test.false)) ∙ c.loop-obj.invariant

pub returns-clause-ok : goal.returns-clause-ok
returns-clause-ok c =
    let rows = c.args.rows.now in
    let r = c.loop-obj.row in
    on_ok_weaker c.insert-2.result
    (λ e. e ∙ ap (λ b. cond b (without nat_cmp c.args.s rows) (put nat_cmp c.args.s r rows)) (sym c.if-is_empty.false ∙ c.is_empty.ensures) ∙ ap (λ q. with_row c.args.s q rows) (whole c))
    c.insert-2.ensures.ok
