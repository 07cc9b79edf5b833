use Rattle.std.proofs.Common.{refl}
use Rattle.std.specs.Prelude.{Err}
use Rattle.ec_sessions.specs.IdLaws.{seen_there, taken_out}
use Rattle.ec_sessions.proofs.unspent.is_there.Goals as goal

pub returns-in-Ok : goal.returns-in-Ok
returns-in-Ok c = seen_there c.args.id c.args.ids.now c.in-Ok.field-0 c.requires c.in-Ok.ensures.position

pub returns-in-Err : goal.returns-in-Err
returns-in-Err c = (taken_out c.args.id c.args.ids.now c.args.ids.now (Err c.in-Err.field-0) refl c.requires c.in-Err.ensures.position).0
