use Rattle.std.proofs.Common.{sym}
use Rattle.std.proofs.lemmas.Result.{on_ok_weaker}
use Rattle.ec_protocol.specs.Resumes.{open_session}
use Rattle.ec_world.specs.Worlds as worlds
use Rattle.ec_lease.proofs.Happening.{grant_is, told_ok}
use Rattle.ec_lease.proofs.world.LeaseWorld.grant.Goals as goal

pub returns-in-Some-clause-ok : goal.returns-in-Some-clause-ok
returns-in-Some-clause-ok c =
    let x = c.args.self.now in
    let w = worlds.view_of x.world in
    grant_is c.told.result c.args.clerk c.in-Some.session (open_session c.args.clerk w) x (record x { book = c.issue.new.self }) (sym c.in-Some.ensures.value) c.requires
    (told_ok c.told.result c.issue.result _ c.told.ensures.ok (on_ok_weaker c.issue.result (λ e. e w) c.issue.ensures))
