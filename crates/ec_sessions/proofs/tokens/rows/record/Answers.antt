use Rattle.std.proofs.Common.{◌≡◌, ap, sym, ◌∙◌}
use Rattle.std.proofs.lemmas.Result.{on_ok_weaker, on_err_weaker}
use Rattle.std.specs.Ordering.{nat_cmp}
use Rattle.std.specs.Cmp.{nat_cmp_total}
use Rattle.std.specs.FinMap.{put}
use Rattle.ec_base.specs.SortedLaws.{put-found}
use Rattle.ec_sessions.specs.OfTokens.Tokens.{row_of}
use Rattle.ec_sessions.proofs.OfTokens.RowLemmas.{given}
use Rattle.ec_sessions.proofs.tokens.rows.record.Goals as goal

pub returns-in_default-clause-ok : goal.returns-in_default-clause-ok
returns-in_default-clause-ok c =
    let made = c.in_ok-insert.ensures.ok ∙ ap (put nat_cmp c.args.obj c.args.token) c.new-row.ensures ∙ ap (λ o. put nat_cmp c.args.obj c.args.token (row_of o)) c.in_default.ensures.value in
    on_ok_weaker c.insert-in_default.result (λ e. e ∙ (λ i. put nat_cmp c.args.s (made i) (c.in_default.ensures.none i))) c.insert-in_default.ensures.ok

back : (c : goal.Joined-replace-2) → c.replace-2.new.self ≡ put nat_cmp c.args.s c.insert-done.new.self c.args.rows.now
back c = given c.args.s c.new.result c.insert-done.new.self c.args.rows.now c.replace.new.self c.replace-2.new.self c.replace-2.result c.in-Some.ensures.some c.replace-2.ensures.value c.replace-2.ensures.some

pub returns-clause-ok : goal.returns-clause-ok
returns-clause-ok c =
    on_ok_weaker c.insert-done.result (λ e. back c ∙ ap (λ r. put nat_cmp c.args.s r c.args.rows.now) (e ∙ ap (λ o. put nat_cmp c.args.obj c.args.token (row_of o)) c.in-Some.ensures.value)) c.insert-done.ensures.ok

pub returns-clause-err : goal.returns-clause-err
returns-clause-err c =
    let rows = c.args.rows.now in
    on_err_weaker c.insert-done.result (λ e. back c ∙ ap (λ r. put nat_cmp c.args.s r rows) e ∙ put-found nat_cmp nat_cmp_total c.args.s c.in-Some.row rows c.requires (sym c.in-Some.ensures.value)) c.insert-done.ensures.err
