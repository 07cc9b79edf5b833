use Rattle.std.proofs.Common.{◌≤◌, ℕ, subst}
use Rattle.std.specs.Prelude.{T, is_some}
use Rattle.ec_base.specs.Tables.{at}
use Rattle.ec_log.specs.OfChains.Chains.{Places}
use Rattle.ec_log.proofs.OfChains.Taken.{last-taken}
use Rattle.ec_log.proofs.chains.walking.take_last.Goals as goal

pub returns-clause-some : goal.returns-clause-some
returns-clause-some c =
    let place = c.in_ok-place.place in
    let last = subst (λ (es : Places). T (is_some (at place es)) × ((k : ℕ) → T (is_some (at k es)) → k ≤ place)) c.items.ensures.value c.in_ok-place.ensures in
    last-taken place c.args.places.now c.remove.new.self last.0 last.1 c.remove.ensures.others
