use Rattle.std.proofs.Common.{refl, sym, ap, subst}
use Rattle.ec_lock.specs.PassViews.{first}
use Rattle.ec_lock.specs.Steps.{of}
use Rattle.ec_servernode.specs.Run.{number_of}
use Rattle.ec_servernode.specs.TurnSteps.{RunsFrom}
use Rattle.ec_servernode.proofs.Fronts.{still}
use Rattle.ec_servernode.proofs.shared.SharedServer.note.Goals as goal

pub returns-clause-pass : goal.returns-clause-pass
returns-clause-pass g c =
    let own = c.args.pass.now in
    let lock = c.args.self.now.lock in
    still g.K.Keeper.kept lock own (record own { pass = c.note-note.new.pass }) c.requires.pass c.note-note.ensures.pass c.note-note.ensures.same.0 (subst (RunsFrom g.K.Keeper.kept (first lock)) (sym c.note-note.ensures.front) c.requires.pass.run)
    (ap (of number_of own.pass.number) (sym c.note-note.ensures.front)) refl

pub returns-clause-note : goal.returns-clause-note
returns-clause-note g c = (
  (c.note-note.ensures.note.0, subst (RunsFrom g.K.Keeper.kept (first c.args.self.now.lock)) (sym c.note-note.ensures.note.1) c.requires.pass.run),
  c.note-note.ensures.note.1,
)
