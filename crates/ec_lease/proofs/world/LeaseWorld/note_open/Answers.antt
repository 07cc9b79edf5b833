use Rattle.std.proofs.Common.{◌∙◌, sym, ap, inr}
use Rattle.ec_world.specs.Leases.{HasSlots}
use Rattle.ec_world.specs.Worlds as worlds
use Rattle.ec_world.specs.declared.world.World.{World}
use Rattle.std.proofs.Common.{subst}
use Rattle.ec_lease.specs.Worlds.{leased}
use Rattle.ec_lease.proofs.Noting.{notes_next}
use Rattle.ec_lease.proofs.world.LeaseWorld.note_open.Goals as goal

pub clerks-preserved : goal.clerks-preserved
clerks-preserved c =
    let same = c.clerks.invariant.world in
    let slots = subst (λ (w : World). HasSlots (worlds.view_of w).server) same c.in_ok-note_of.ensures.slots in
    record {
      notes = notes_next (leased c.args.self.now).world.server c.clerks.number (leased c.clerks.self) (leased c.note_of.new.self) _ (ap (λ (w : World). (worlds.view_of w).server) (sym same)) slots c.clerks-test.true c.in_ok-note_of.ensures.ok c.clerks.invariant.notes;
      slots = inr slots;
      world = c.in_ok-note_of.ensures.world ∙ same;
      piece = c.in_ok-note_of.ensures.piece ∙ c.clerks.invariant.piece;
    }
