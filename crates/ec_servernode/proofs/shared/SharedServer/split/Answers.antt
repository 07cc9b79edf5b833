use Rattle.std.proofs.Common.{refl}
use Rattle.ec_lock.specs.PassViews.{first, front}
use Rattle.ec_servernode.proofs.Fronts.{still, begins_as, reached_run}
use Rattle.ec_servernode.proofs.shared.SharedServer.split.Goals as goal

pub returns-in_err-new-clause-pass : goal.returns-in_err-new-clause-pass
returns-in_err-new-clause-pass g c =
    let pass = c.args.pass.now in
    let run = reached_run g.K.Keeper.kept g.K.Keeper.counts g.K.Keeper.did g.K.Keeper.broke (first c.args.self.now.lock) (front c.split.new.pass) c.split.ensures.reached in
    still g.K.Keeper.kept c.args.self.now.lock pass (record pass { pass = c.split.new.pass }) c.requires.pass c.split.ensures.pass c.split.ensures.same.0 run (c.split.ensures.own pass.pass.number c.requires.pass.is_pass.1) refl

pub returns-clause-pass : goal.returns-clause-pass
returns-clause-pass g c =
    let pass = c.args.pass.now in
    let run = reached_run g.K.Keeper.kept g.K.Keeper.counts g.K.Keeper.did g.K.Keeper.broke (first c.args.self.now.lock) (front c.split.new.pass) c.split.ensures.reached in
    still g.K.Keeper.kept c.args.self.now.lock pass (record pass { pass = c.split.new.pass }) c.requires.pass c.split.ensures.pass c.split.ensures.same.0 run (c.split.ensures.own pass.pass.number c.requires.pass.is_pass.1) refl

pub returns-clause-new : goal.returns-clause-new
returns-clause-new g c =
    let run = reached_run g.K.Keeper.kept g.K.Keeper.counts g.K.Keeper.did g.K.Keeper.broke (first c.args.self.now.lock) (front c.split.new.pass) c.split.ensures.reached in
    begins_as g.K.Keeper.kept c.args.self.now.lock _ (front c.split.new.pass) c.in_ok-new.ensures.new c.in_ok-new.ensures.new_front.0 run c.in_ok-new.ensures.new_number.0 c.nobody.ensures.value
