use Rattle.ec_sessions.specs.IdLaws.{with_ids-behind}
use Rattle.ec_sessions.proofs.laws.ids_behind.Goals as goal

pub returns : goal.returns
returns c = with_ids-behind
