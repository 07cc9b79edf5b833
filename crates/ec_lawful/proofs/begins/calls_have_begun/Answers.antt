use Rattle.std.specs.List.{list_any}
use Rattle.std.specs.Prelude.{◌+◌}
use Rattle.ec_protocol.specs.Clerk.{begin}
use Rattle.ec_protocol.specs.World.{is_answer_to}
use Rattle.ec_lawful.proofs.ForBegins.Called.{begun-cuts, has-begun}
use Rattle.ec_lawful.proofs.ForBegins.First.{first-begun, first-counts, first-cuts}
use Rattle.ec_lawful.proofs.begins.calls_have_begun.Goals as goal

pub returns-clause-call : goal.returns-clause-call
returns-clause-call z g all q rest c b k run there l cl new bounded = (
  has-begun g all q rest c b k run there l cl new bounded (list_any (is_answer_to (k.calls + 1)) (begin cl k).outs),
  begun-cuts g all q rest c b k run there l cl new bounded (list_any (is_answer_to (k.calls + 1)) (begin cl k).outs),
)

pub returns-clause-start : goal.returns-clause-start
returns-clause-start z g all q counts c small down l cl new bounded = (
  first-begun g all q counts c small down l cl new bounded,
  first-counts g all q counts c small down l cl new bounded,
  first-cuts g all q counts c small down l cl new bounded,
)
