use Rattle.std.proofs.Common.{[], refl, ap}
use Rattle.ec_lock.specs.PassViews.{first}
use Rattle.ec_servernode.specs.Run.{put_all, for_clerk}
use Rattle.ec_servernode.specs.Node.{queue_at, state_of}
use Rattle.ec_servernode.proofs.Runs.{no_run}
use Rattle.ec_servernode.proofs.Fronts.{begins, begins_as}
use Rattle.ec_servernode.proofs.shared.SharedServer.over.Goals as goal

pub new-requires-2-clause-empty : goal.new-requires-2-clause-empty
new-requires-2-clause-empty g c = c.new.ensures

pub new-requires-2-clause-begins : goal.new-requires-2-clause-begins
new-requires-2-clause-begins g c = begins g.K.Keeper.kept g.K.Keeper.counts g.K.Keeper.did g.K.Keeper.broke _ c.new.ensures refl refl refl c.requires c.in-Ok.ensures.sized c.in-Ok.ensures.owners

pub returns-in-Ok-new-clause-pass : goal.returns-in-Ok-new-clause-pass
returns-in-Ok-new-clause-pass g c =
    let start = first c.in-Ok-new.lock in
    begins_as g.K.Keeper.kept c.in-Ok-new.lock _ [] c.in-Ok-new.ensures.pass (ap (λ v. v.front) c.in-Ok-new.ensures.view.0) (no_run (state_of g.K.Keeper.kept start) (queue_at start.boxes.items)) refl c.nobody.ensures.value
