use Rattle.ec_store.proofs.Members.{forget_more}
use Rattle.ec_store.proofs.store.forget.Goals as goal

pub ids-preserved : goal.ids-preserved
ids-preserved c = forget_more c.args.kept.now c.ids.kept c.remove.new.self c.args.ids.now c.ids.id-index c.id-item.result c.ids-test.true c.id-item.is c.ids.invariant c.remove.ensures.others
