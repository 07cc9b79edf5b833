use Rattle.std.proofs.Common.{[], sym, ◌∙◌}
use Rattle.std.proofs.lemmas.Result.{on_ok_weaker}
use Rattle.ec_base.specs.Tables.{at_or}
use Rattle.ec_lease_machine.specs.Leases.{nth}
use Rattle.ec_world.specs.Worlds as worlds
use Rattle.ec_lease.proofs.Happening.{hand_is, told_ok}
use Rattle.ec_lease.proofs.world.LeaseWorld.hand.Goals as goal

pub returns-clause-ok : goal.returns-clause-ok
returns-clause-ok c =
    let x = c.args.self.now in
    let w = worlds.view_of x.world in
    hand_is c.told.result c.args.clerk c.in-Some.lease (nth c.args.nth (at_or [] c.args.clerk x.book.issued)) x (record x { book = c.receive.new.self })
    (sym c.in-Some.ensures) (sym c.may_receive.ensures ∙ c.if-not-may_receive.false) c.requires
    (told_ok c.told.result c.receive.result _ c.told.ensures.ok (on_ok_weaker c.receive.result (λ e. e w) c.receive.ensures))
