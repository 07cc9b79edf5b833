use Rattle.std.proofs.Common.{ap}
use Rattle.ec_history.specs.declared.shown.LimitName.TheVariants as limit
use Rattle.ec_history.specs.declared.shown.Shown.TheVariants.{Bad, Limit, Spent}
use Rattle.ec_protocol.specs.Drill.{last_line, status as number_of}
use Rattle.ec_lease.specs.OfDrill.Steps.{own_ending}
use Rattle.ec_lease.specs.declared.drill.running.Ending.{Ending}
use Rattle.ec_lease.specs.declared.drill.status.Status.TheVariants as status
use Rattle.ec_lease.proofs.OfDrill.Closings.{none_told, one_told}
use Rattle.ec_lease.proofs.drill.closing.tell_last.Goals as goal

pub returns-in-Done-clause-told : goal.returns-in-Done-clause-told
returns-in-Done-clause-told g c =
    none_told (own_ending c.args.ending) status.Done (g.K.Sink.held c.args.sink.now)
    (ap (λ (x : Ending). last_line (own_ending x)) c.in-Done.is) (ap (λ (x : Ending). number_of (own_ending x)) c.in-Done.is)

pub returns-in-BadLine-clause-told : goal.returns-in-BadLine-clause-told
returns-in-BadLine-clause-told g c =
    one_told c.tell.result (own_ending c.args.ending) (Bad c.in-BadLine.number c.in-BadLine.column) status.BadLine
    (g.K.Sink.held c.args.sink.now) (g.K.Sink.held c.tell.new.sink) (g.K.Sink.faults c.args.sink.now) (g.K.Sink.faults c.tell.new.sink)
    (ap (λ (x : Ending). last_line (own_ending x)) c.in-BadLine.is) (ap (λ (x : Ending). number_of (own_ending x)) c.in-BadLine.is) c.tell.ensures.told

pub returns-in-TooMany-clause-told : goal.returns-in-TooMany-clause-told
returns-in-TooMany-clause-told g c =
    one_told c.tell-in-TooMany.result (own_ending c.args.ending) (Limit limit.Pending c.in-TooMany.pending) status.Limit
    (g.K.Sink.held c.args.sink.now) (g.K.Sink.held c.tell-in-TooMany.new.sink) (g.K.Sink.faults c.args.sink.now) (g.K.Sink.faults c.tell-in-TooMany.new.sink)
    (ap (λ (x : Ending). last_line (own_ending x)) c.in-TooMany.is) (ap (λ (x : Ending). number_of (own_ending x)) c.in-TooMany.is) c.tell-in-TooMany.ensures.told

pub returns-in-Spent-clause-told : goal.returns-in-Spent-clause-told
returns-in-Spent-clause-told g c =
    one_told c.tell-in-Spent.result (own_ending c.args.ending) (Spent c.in-Spent.counter) status.Spent
    (g.K.Sink.held c.args.sink.now) (g.K.Sink.held c.tell-in-Spent.new.sink) (g.K.Sink.faults c.args.sink.now) (g.K.Sink.faults c.tell-in-Spent.new.sink)
    (ap (λ (x : Ending). last_line (own_ending x)) c.in-Spent.is) (ap (λ (x : Ending). number_of (own_ending x)) c.in-Spent.is) c.tell-in-Spent.ensures.told
