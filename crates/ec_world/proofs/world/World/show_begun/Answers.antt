use Rattle.std.proofs.Common.{refl}
use Rattle.ec_world.specs.StepEnds.{under}
use Rattle.ec_world.specs.Worlds.{view_of}
use Rattle.ec_world.proofs.Outs.{begun_shown}
use Rattle.ec_world.proofs.world.World.show_begun.Goals as goal

pub returns-clause-ok : goal.returns-clause-ok
returns-clause-ok c =
    begun_shown c.come_out-2.result c.args.asked.now.clerk c.args.asked.now.no c.args.asked.now.line c.args.asked.now.call.now c.args.asked.now.call.now c.args.before.items c.args.outs.items c.deref.result.now (view_of c.args.self.now) c.args.self.now.piece.items c.add_copy.new.calls
    (under c.show_waits.new.self) (under c.come_out.new.self) (under c.come_out-2.new.self)
    refl c.deref.ensures.value c.in_ok-add_copy.ensures c.in_ok-show_waits.ensures.ok c.in_ok-come_out.ensures.ok c.come_out-2.ensures.ok
