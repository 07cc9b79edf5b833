use Rattle.ec_lease.specs.Worlds.{leased}
use Rattle.ec_lease.specs.OfDrill.Steps.{own_ending}
use Rattle.ec_lease.proofs.OfDrill.Closings.{tells_last}
use Rattle.ec_lease.proofs.drill.closing.close.Goals as goal

pub returns-in-Ok-clause-closed : goal.returns-in-Ok-clause-closed
returns-in-Ok-clause-closed g c =
    tells_last c.tell_last.result (leased c.args.world.now) (leased c.restart_at_end.new.world) (own_ending c.args.ending) (own_ending c.in-Ok.ending)
    (g.K.Sink.held c.args.sink.now) (g.K.Sink.held c.restart_at_end.new.sink) (g.K.Sink.held c.tell_last.new.sink)
    (g.K.Sink.faults c.args.sink.now) (g.K.Sink.faults c.restart_at_end.new.sink) (g.K.Sink.faults c.tell_last.new.sink) (g.D.Disk.counts c.args.disk.now).faults (g.D.Disk.counts c.restart_at_end.new.disk).faults
    c.in-Ok.ensures.closed c.in-Ok.ensures.later c.tell_last.ensures.told
