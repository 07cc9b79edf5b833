use Rattle.std.proofs.Common.{ap, ◌∙◌}
use Rattle.ec_history.specs.declared.shown.Shown.TheVariants.{Nothing}
use Rattle.ec_world.specs.Worlds as worlds
use Rattle.ec_lease.proofs.Lines.{shows_one}
use Rattle.ec_lease.proofs.Queued.{keeps_on}
use Rattle.ec_lease.proofs.world.LeaseWorld.nothing.Goals as goal

pub returns-in-Ok-clause-ok : goal.returns-in-Ok-clause-ok
returns-in-Ok-clause-ok c =
    shows_one c.show.result Nothing c.in-Ok.line (worlds.view_of c.args.self.now.world) c.args.self.now.book c.args.self.now.piece.items c.show.new.self
    c.in-Ok.ensures.line (ap worlds.view_of c.show.ensures.world ∙ c.in-Ok.ensures.value) c.show.ensures.book c.requires c.show.ensures.piece

pub returns-in-Ok-clause-same : goal.returns-in-Ok-clause-same
returns-in-Ok-clause-same c = keeps_on c.args.self.now c.show.new.self c.show_none.new.self c.show_none.ensures.same c.show.ensures.world
