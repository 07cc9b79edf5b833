use Rattle.std.proofs.lemmas.Result.{on_ok_weaker}
use Rattle.ec_order.proofs.OfNeeded.Maps.{noted_first}
use Rattle.ec_judge.specs.Carried.{is_noted}
use Rattle.ec_judge.proofs.Restored.{one-restored, one-noted}
use Rattle.ec_judge.proofs.rebuilt.+restore_each.Goals as goal
use Rattle.ec_base.proofs.Lists.{split_first}

pub returns-in_ok-insert-in-len1-up-clause-noted : goal.returns-in_ok-insert-in-len1-up-clause-noted
returns-in_ok-insert-in-len1-up-clause-noted t c =
    on_ok_weaker c.restore_each.result
    (λ rest. noted_first c.args.objs.now _ c.obj-item.result c.args.noted.now c.insert.new.self c.restore_each.new.noted (split_first c.args.objs.now c.obj-item.result c.obj-item.is c.in-len1-up.len_at_least) c.in_ok-insert-in-len1-up.ensures.ok rest)
    c.restore_each.ensures.noted

pub returns-in_ok-insert-in-len1-up-clause-restored : goal.returns-in_ok-insert-in-len1-up-clause-restored
returns-in_ok-insert-in-len1-up-clause-restored t c =
    let done = c.in_ok-restore-in-len1-up.ensures in
    on_ok_weaker c.restore_each.result
    (λ rest v r. rest v (one-restored v c.args.volume.now c.restore.new.self c.obj-item.result (is_noted c.args.noted.now) (is_noted c.insert.new.self) (one-noted c.obj-item.result c.args.noted.now c.insert.new.self c.in_ok-insert-in-len1-up.ensures.ok) done.images done.own done.laid done.under r))
    c.restore_each.ensures.restored
