use Rattle.ec_echo.proofs.Judging.{made}
use Rattle.ec_echo.proofs.making.make.Goals as goal

pub returns-clause-made : goal.returns-clause-made
returns-clause-made g c =
    made c.script.result (λ t. t.items) c.args.number c.write_made.result (g.K.Sink.held c.args.sink.now) (g.K.Sink.held c.write_made.new.sink) (g.K.Sink.faults c.args.sink.now) (g.K.Sink.faults c.write_made.new.sink) c.script.ensures c.write_made.ensures.written
