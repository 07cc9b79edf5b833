use Rattle.std.proofs.Common.{◌≡◌, ap, sym, ◌∙◌, true}
use Rattle.std.proofs.lemmas.Bool.{OnTrue_at, OnTrue_from, OnFalse_at, OnFalse_from}
use Rattle.std.specs.Ordering.{nat_cmp}
use Rattle.std.specs.FinMap.{find}
use Rattle.std.specs.Prelude.{is_some}
use Rattle.ec_sessions.specs.OfTokens.Tokens.{row_of, lowered_in, with_row}
use Rattle.ec_sessions.proofs.OfTokens.RowLemmas.{taken_out, with_row-put, with_row-found, put_there}
use Rattle.ec_sessions.proofs.tokens.rows.give_back.Goals as goal
use Rattle.ec_sessions.proofs.tokens.rows.give_back.Goals.{After-put_back}

pub put_back-requires : goal.put_back-requires
put_back-requires c =
    let taken = taken_out c.args.s c.new.result c.in-Some.row c.args.rows.now c.replace.new.self c.replace.result c.in-Some.is c.replace.ensures.some in
    ap (λ l. is_some (find nat_cmp c.args.s l)) taken ∙ put_there c.args.s c.new.result c.args.rows.now

back : (c : After-put_back) → c.put_back.new.rows ≡ with_row c.args.s c.lower-fits.new.row c.args.rows.now
back c =
    let taken = taken_out c.args.s c.new.result c.in-Some.row c.args.rows.now c.replace.new.self c.replace.result c.in-Some.is c.replace.ensures.some in
    c.put_back.ensures ∙ ap (with_row c.args.s c.lower-fits.new.row) taken ∙ with_row-put c.args.s c.new.result c.lower-fits.new.row c.args.rows.now

pub returns-clause-lowered : goal.returns-clause-lowered
returns-clause-lowered c =
    OnTrue_from _ _ (λ t. back c ∙ ap (λ r. with_row c.args.s r c.args.rows.now) (OnTrue_at t c.lower-fits.ensures.lowered ∙ ap (λ o. lowered_in c.args.obj c.args.to c.args.number (row_of o)) c.in-Some.ensures.value))

pub returns-clause-kept : goal.returns-clause-kept
returns-clause-kept c =
    let rows = c.args.rows.now in
    OnFalse_from _ _ (λ t. back c ∙ ap (λ r. with_row c.args.s r rows) (OnFalse_at t c.lower-fits.ensures.kept) ∙ with_row-found c.args.s c.in-Some.row rows c.requires (sym c.in-Some.ensures.value))
