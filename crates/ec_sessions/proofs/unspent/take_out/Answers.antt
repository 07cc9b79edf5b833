use Rattle.std.proofs.Common.{◌∙◌}
use Rattle.std.specs.Prelude.{Ok, Err}
use Rattle.ec_sessions.specs.IdLaws.{taken_out}
use Rattle.ec_sessions.proofs.unspent.take_out.Goals as goal

pub returns-in-Ok-clause-rest : goal.returns-in-Ok-clause-rest
returns-in-Ok-clause-rest c = c.remove.ensures.items ∙ taken_out c.args.id c.args.ids.now.items c.deref.result.now (Ok c.in-Ok.at) c.deref.ensures.value c.requires c.in-Ok.ensures.position

pub returns-in-Err-clause-answer : goal.returns-in-Err-clause-answer
returns-in-Err-clause-answer c = (taken_out c.args.id c.args.ids.now.items c.deref.result.now (Err c.in-Err.field-0) c.deref.ensures.value c.requires c.in-Err.ensures.position).0

pub returns-in-Err-clause-rest : goal.returns-in-Err-clause-rest
returns-in-Err-clause-rest c = (taken_out c.args.id c.args.ids.now.items c.deref.result.now (Err c.in-Err.field-0) c.deref.ensures.value c.requires c.in-Err.ensures.position).1
