use Rattle.std.proofs.Common.{T, subst}
use Rattle.std.proofs.lemmas.Result.{on_ok_weaker}
use Rattle.ec_volume.specs.Update.{member}
use Rattle.ec_log.proofs.OfChains.Fronts.{noted-old, noted-new}
use Rattle.ec_log.proofs.chains.front.+note_all.Goals as goal
use Rattle.ec_base.proofs.Lists.{split_first}

pub returns-in_ok-insert-in-len1-up-clause-old : goal.returns-in_ok-insert-in-len1-up-clause-old
returns-in_ok-insert-in-len1-up-clause-old t c o n l b = noted-old c.obj-item.result c.args.op o n c.args.shared.now c.insert.new.self c.note_all.new.shared c.in_ok-insert-in-len1-up.ensures.ok c.note_all.ensures.old l b

pub returns-in_ok-insert-in-len1-up-clause-new : goal.returns-in_ok-insert-in-len1-up-clause-new
returns-in_ok-insert-in-len1-up-clause-new t c =
    on_ok_weaker c.note_all.result
    (λ rest o m. noted-new c.obj-item.result c.args.op o _ c.args.shared.now c.insert.new.self c.note_all.new.shared c.in_ok-insert-in-len1-up.ensures.ok c.note_all.ensures.old rest
    (subst (λ l. T (member o l)) (split_first c.args.objs.now c.obj-item.result c.obj-item.is c.in-len1-up.len_at_least) m))
    c.note_all.ensures.new
