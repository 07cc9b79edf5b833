use Rattle.std.proofs.lemmas.Result.{on_ok_weaker}
use Rattle.ec_order.proofs.OfNeeded.Maps.{noted_first}
use Rattle.ec_pending.proofs.outside.outside.+note_all.Goals as goal
use Rattle.ec_base.proofs.Lists.{split_first}

pub returns-in_ok-insert-in-len1-up : goal.returns-in_ok-insert-in-len1-up
returns-in_ok-insert-in-len1-up t c =
    on_ok_weaker c.note_all.result
    (λ rest. noted_first c.args.objs.now _ c.obj-item.result c.args.known.now c.insert.new.self c.note_all.new.known (split_first c.args.objs.now c.obj-item.result c.obj-item.is c.in-len1-up.len_at_least) c.in_ok-insert-in-len1-up.ensures.ok rest)
    c.note_all.ensures
