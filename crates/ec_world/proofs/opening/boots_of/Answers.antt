use Rattle.std.proofs.Common.{refl}
use Rattle.ec_world.proofs.Boots.{boots_next, boots_same, boots_all, past}
use Rattle.ec_world.proofs.opening.boots_of.Goals.{in-Some+in-Some-slot+in_ok-insert, in-Some+in_default-slot, in_default}
use Rattle.ec_world.proofs.opening.boots_of.Goals as goal

pub clerks-preserved : goal.clerks-preserved
clerks-preserved c =
    elim c.match-new.branch [
      | in-Some+in-Some-slot+in_ok-insert w ↦ (boots_next _ _ _ _ _ _ _ w.boots-is w.in_ok-insert.ensures.ok c.clerks.invariant.0 w.in-Some.ensures.some w.in-Some-slot.ensures.slot, λ _. w.slot.ensures.table.sixteen)
      | in-Some+in_default-slot w ↦ (boots_same _ _ _ _ _ w.boots-is c.clerks.invariant.0 w.in-Some.ensures.some w.in_default-slot.ensures.slot, λ _. w.slot.ensures.table.sixteen)
      | in_default w ↦ absurd (past c.clerks.number (w.in_default.ensures.none.0 refl) c.clerks-test.true)
    ]

pub returns : goal.returns
returns c = boots_all c.clerks.number c.args.state.now.sessions c.clerks.boots c.clerks.invariant.0 c.clerks.invariant.1 c.clerks-test.false c.clerks.auto.number-end
