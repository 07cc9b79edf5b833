use Rattle.std.proofs.Common.{refl}
use Rattle.ec_lease.proofs.Queued.{call_not, call_shows, keeps_on, wants_alone}
use Rattle.ec_lease.proofs.world.LeaseWorld.begin_call.Goals as goal

pub returns-in-Ok-clause-ok : goal.returns-in-Ok-clause-ok
returns-in-Ok-clause-ok c =
    call_shows c.show_all.result c.args.clerk c.args.line c.args.call c.args.self.now c.resume.new.self c.in-Ok.shown.items c.show_all.new.self
    c.in-Ok.ensures.ok c.show_all.ensures.world c.show_all.ensures.book c.show_all.ensures.piece

pub returns-in-Ok-clause-err : goal.returns-in-Ok-clause-err
returns-in-Ok-clause-err c = wants_alone c.show_all.result _ c.show_all.new.self c.show_all.ensures.err

pub returns-in-Ok-clause-same : goal.returns-in-Ok-clause-same
returns-in-Ok-clause-same c = keeps_on c.args.self.now c.show_all.new.self c.resume.new.self c.resume.ensures.same c.show_all.ensures.world

pub returns-in-Err-clause-err : goal.returns-in-Err-clause-err
returns-in-Err-clause-err c =
    call_not c.of_world.result c.in-Err.fault c.args.clerk c.args.line c.args.call c.args.self.now (record c.args.self.now { world = c.resume.new.self })
    c.of_world.ensures c.in-Err.ensures.err refl refl
