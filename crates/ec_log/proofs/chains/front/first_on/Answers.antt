use Rattle.std.proofs.Common.{sym, ◌∙◌}
use Rattle.ec_log.proofs.OfChains.Emptied.{some-place}
use Rattle.ec_log.proofs.OfChains.Firsts.{first-none, first-found}
use Rattle.ec_log.proofs.chains.front.first_on.Goals as goal

pub returns-then-is_some : goal.returns-then-is_some
returns-then-is_some c =
    let found = some-place _ _ c.place_on.result c.place_on.ensures (sym c.is_some.ensures ∙ c.if-is_some.true) in
    first-found c.args.obj c.args.chain.now c.args.held.now c.each.op-index c.each.invariant c.op-item.result c.op-item.is found.0 c.requires.sorted c.requires.rising found.1

pub returns : goal.returns
returns c = first-none c.args.obj c.args.chain.now c.args.held.now c.each.op-index c.each.invariant c.each-test.false
