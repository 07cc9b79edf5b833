use Rattle.std.proofs.lemmas.Result.{on_ok_weaker}
use Rattle.ec_log.proofs.OfChains.Taken.{both-awaited}
use Rattle.ec_log.specs.OfChains.Slots.{placed}
use Rattle.ec_log.proofs.chains.walking.+await_all.Goals as goal
use Rattle.ec_base.proofs.Lists.{split_first}

pub returns-in_ok-await_one-in-len1-up : goal.returns-in_ok-await_one-in-len1-up
returns-in_ok-await_one-in-len1-up t c =
    on_ok_weaker c.await_all.result
    (λ rest. both-awaited c.obj-item.result _ c.args.objs.now (placed c.args.held.now) c.args.places.now c.await_one.new.places c.await_all.new.places (split_first c.args.objs.now c.obj-item.result c.obj-item.is c.in-len1-up.len_at_least) c.in_ok-await_one-in-len1-up.ensures rest)
    c.await_all.ensures
