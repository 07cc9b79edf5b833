use Rattle.ec_echo.proofs.Soaks.{last_told}
use Rattle.ec_echo.proofs.soaking.tell_last.Goals as goal

pub returns-clause-told : goal.returns-clause-told
returns-clause-told g c =
    last_told c.last_text.result (λ t. t.items) c.args.transcript.now c.args.status c.write_made.result (g.K.Sink.held c.args.sink.now) (g.K.Sink.held c.write_made.new.sink) (g.K.Sink.faults c.args.sink.now) (g.K.Sink.faults c.write_made.new.sink) c.last_text.ensures c.write_made.ensures.written
