use Rattle.std.proofs.Common.{sym, ap}
use Rattle.ec_history.specs.declared.shown.LimitName.TheVariants as limit
use Rattle.ec_history.specs.declared.shown.Shown.TheVariants.{Bad, Limit, Spent}
use Rattle.ec_protocol.specs.Drill.{last_line, status as number_of}
use Rattle.ec_drill.specs.Steps.{ending_of}
use Rattle.ec_drill.specs.declared.running.Ending.{Ending}
use Rattle.ec_drill.specs.declared.status.Status.TheVariants as status
use Rattle.ec_drill.proofs.Closings.{nothing_told, last_told}
use Rattle.ec_drill.proofs.closing.tell_last.Goals as goal

pub returns-in-Done-clause-told : goal.returns-in-Done-clause-told
returns-in-Done-clause-told g c =
    nothing_told (ending_of c.args.ending) status.Done (g.K.Sink.held c.args.sink.now)
    (ap (λ (x : Ending). last_line (ending_of x)) c.in-Done.is) (sym (ap (λ (x : Ending). number_of (ending_of x)) c.in-Done.is)) tt

pub returns-in-BadLine-clause-told : goal.returns-in-BadLine-clause-told
returns-in-BadLine-clause-told g c =
    last_told c.tell.result (ending_of c.args.ending) (Bad c.in-BadLine.number c.in-BadLine.column) status.BadLine
    (g.K.Sink.held c.args.sink.now) (g.K.Sink.held c.tell.new.sink) (g.K.Sink.faults c.args.sink.now) (g.K.Sink.faults c.tell.new.sink)
    (ap (λ (x : Ending). last_line (ending_of x)) c.in-BadLine.is) (sym (ap (λ (x : Ending). number_of (ending_of x)) c.in-BadLine.is)) tt c.tell.ensures.told

pub returns-in-TooMany-clause-told : goal.returns-in-TooMany-clause-told
returns-in-TooMany-clause-told g c =
    last_told c.tell-in-TooMany.result (ending_of c.args.ending) (Limit limit.Pending c.in-TooMany.pending) status.Limit
    (g.K.Sink.held c.args.sink.now) (g.K.Sink.held c.tell-in-TooMany.new.sink) (g.K.Sink.faults c.args.sink.now) (g.K.Sink.faults c.tell-in-TooMany.new.sink)
    (ap (λ (x : Ending). last_line (ending_of x)) c.in-TooMany.is) (sym (ap (λ (x : Ending). number_of (ending_of x)) c.in-TooMany.is)) tt c.tell-in-TooMany.ensures.told

pub returns-in-Spent-clause-told : goal.returns-in-Spent-clause-told
returns-in-Spent-clause-told g c =
    last_told c.tell-in-Spent.result (ending_of c.args.ending) (Spent c.in-Spent.counter) status.Spent
    (g.K.Sink.held c.args.sink.now) (g.K.Sink.held c.tell-in-Spent.new.sink) (g.K.Sink.faults c.args.sink.now) (g.K.Sink.faults c.tell-in-Spent.new.sink)
    (ap (λ (x : Ending). last_line (ending_of x)) c.in-Spent.is) (sym (ap (λ (x : Ending). number_of (ending_of x)) c.in-Spent.is)) tt c.tell-in-Spent.ensures.told
