use Rattle.ec_pending.proofs.OfOwes.Ended.{ended-more}
use Rattle.ec_pending.proofs.owes.spans.+take_out.Goals as goal
use Rattle.ec_base.proofs.Lists.{split_first}

pub returns-in-len1-up : goal.returns-in-len1-up
returns-in-len1-up t c =
    ended-more c.args.objs.now _ c.obj-item.result c.args.end c.replace.result c.args.spans.now c.replace.new.self c.take_out.new.spans (split_first c.args.objs.now c.obj-item.result c.obj-item.is c.in-len1-up.len_at_least)
    c.replace.ensures.value c.replace.ensures.some c.replace.ensures.none c.take_out.ensures
