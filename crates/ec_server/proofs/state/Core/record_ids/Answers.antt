use Rattle.std.proofs.Common.{refl}
use Rattle.ec_server.specs.Laws.{records_ids}
use Rattle.ec_server.specs.Steps.{under}
use Rattle.ec_server.proofs.state.Core.record_ids.Goals as goal

pub returns-clause-does : goal.returns-clause-does
returns-clause-does c = λ d.
    records_ids c.args.session c.args.first c.in_ok-number.number (under d c.args.self.now) (under d c.next_number.new.self) _ c.add_ids.new.tokens c.insert.new.self
    (c.in_ok-number.ensures.next d) c.in_ok-number.ensures.ok c.in_ok-add_ids.ensures c.in_ok-insert.ensures.ok refl
