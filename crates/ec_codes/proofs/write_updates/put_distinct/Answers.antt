use Rattle.std.proofs.lemmas.Result.{on_ok_weaker}
use Rattle.ec_codes.specs.SoundLaws.{order_fit}
use Rattle.ec_codes.proofs.write_updates.put_distinct.Goals as goal

pub returns-clause-fit : goal.returns-clause-fit
returns-clause-fit c = on_ok_weaker c.put_ids.result (λ f. order_fit c.args.ids.now f c.requires) c.put_ids.ensures.fit
