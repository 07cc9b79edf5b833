use Rattle.std.proofs.Common.{◌≡◌, ◌∙◌, ap}
use Rattle.std.proofs.lemmas.Result.{IfOk-weaker}
use Rattle.ec_cache.specs.Cache.{images_held}
use Rattle.ec_plain.specs.Plain.{plain}
use Rattle.ec_cache.specs.OfResolve.Resolve as resolve
use Rattle.ec_cache.proofs.OfResolve.Making.{judged_alike}
use Rattle.ec_cache.proofs.resolve.resolve.evaluate.Goals as goal

pub returns : goal.returns
returns c =
    let k = c.args.cache.now in
    let owed = c.args.owed.now in
    let cl = c.args.call.now in
    IfOk-weaker c.judge.result (λ v. v ≡ resolve.judged k owed cl c.args.fresh c.in_ok-outcome.outcome) (λ v. v ≡ resolve.evaluate k owed cl c.args.fresh)
    (λ v e. e ∙ ap (resolve.judged k owed cl c.args.fresh) (c.in_ok-outcome.ensures ∙ ap (plain (images_held k) cl) c.stand_in-id.ensures) ∙ judged_alike k owed cl c.args.fresh)
    c.judge.ensures
