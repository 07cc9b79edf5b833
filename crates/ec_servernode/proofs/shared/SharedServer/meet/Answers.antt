use Rattle.std.proofs.Common.{refl}
use Rattle.ec_lock.specs.PassViews.{first, front, note_view}
use Rattle.ec_servernode.specs.TurnSteps.{RunsFrom}
use Rattle.ec_servernode.proofs.Fronts.{still, either}
use Rattle.ec_servernode.proofs.shared.SharedServer.meet.Goals as goal

pub returns-clause-pass : goal.returns-clause-pass
returns-clause-pass g c =
    let own = c.args.pass.now in
    let pass = own.pass in
    let lock = c.args.self.now.lock in
    still g.K.Keeper.kept lock own (record own { pass = c.meet.new.pass }) c.requires.pass c.meet.ensures.pass c.meet.ensures.number
    (either (RunsFrom g.K.Keeper.kept (first lock)) (front pass) (note_view c.args.note.note).front (front c.meet.new.pass) c.meet.ensures.front c.requires.pass.run c.requires.note.1) (c.meet.ensures.own pass.number c.requires.pass.is_pass.1) refl
