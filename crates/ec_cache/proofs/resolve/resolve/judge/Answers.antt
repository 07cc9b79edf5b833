use Rattle.std.proofs.Common.{◌≡◌, ◌∙◌, None, Some}
use Rattle.std.proofs.lemmas.Result.{IfOk-weaker}
use Rattle.ec_cache.specs.OfResolve.Resolve as resolve
use Rattle.ec_cache.proofs.OfResolve.Making.{goes_on}
use Rattle.ec_cache.proofs.resolve.resolve.judge.Goals as goal

pub returns-in-Ok-None : goal.returns-in-Ok-None
returns-in-Ok-None c =
    let k = c.args.cache.now in
    let fresh = c.args.fresh.now in
    let out = c.args.outcome in
    let idless = c.lacks_id-idless.result in
    IfOk-weaker c.lacking.result (λ v. v ≡ resolve.lacking k idless out) (λ v. v ≡ resolve.judged k c.args.owed.now c.args.call.now fresh out)
    (λ v e. e ∙ goes_on k c.args.owed.now c.args.call.now fresh out idless None c.lacks_id-idless.ensures (rw c.in-Ok-None.field-0-is at c.in-Ok-None.ensures))
    c.lacking.ensures

pub returns-in-Ok-Some : goal.returns-in-Ok-Some
returns-in-Ok-Some c = goes_on c.args.cache.now c.args.owed.now c.args.call.now c.args.fresh.now c.args.outcome c.lacks_id-idless.result (Some c.in-Ok-Some.verdict) c.lacks_id-idless.ensures (rw c.in-Ok-Some.field-0-is at c.in-Ok-Some.ensures)
