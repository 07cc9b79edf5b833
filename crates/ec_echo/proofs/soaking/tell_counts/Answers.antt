use Rattle.ec_echo.proofs.Soaks.{counts_told}
use Rattle.ec_echo.proofs.soaking.tell_counts.Goals as goal

pub returns-clause-told : goal.returns-clause-told
returns-clause-told g c =
    counts_told c.summary.result (λ t. t.items) c.args.number c.args.transcript.now c.write_made.result (g.K.Sink.held c.args.sink.now) (g.K.Sink.held c.write_made.new.sink) (g.K.Sink.faults c.args.sink.now) (g.K.Sink.faults c.write_made.new.sink) c.summary.ensures c.write_made.ensures.written
