use Rattle.std.proofs.Common.{◌∙◌, sym, subst}
use Rattle.std.specs.Prelude.{IsSome}
use Rattle.ec_disk.specs.Effects.{IsUnarmed}
use Rattle.ec_disk.proofs.TurnLaws.{counted, stops_where_due, stopped_armed, stopped_over}
use Rattle.ec_disk.proofs.turns.Turns.next_len.Goals as goal

pub returns-clause-counts : goal.returns-clause-counts
returns-clause-counts c =
    counted _ _ _ c.count.ensures.faults c.count.ensures.stops c.count.ensures.later.0 c.count.ensures.later.1
    (λ is. stopped_armed _ (sym c.eq-has_stopped.ensures ∙ stops_where_due _ _ (sym c.count.ensures.turn ∙ is)))
    (λ is. subst IsSome c.count.ensures.armed is)
    (λ over. subst IsUnarmed (sym c.count.ensures.armed) over)
    (λ is. subst IsUnarmed (sym c.count.ensures.armed) (stopped_over _ (sym c.eq-has_stopped.ensures ∙ stops_where_due _ _ (sym c.count.ensures.turn ∙ is))))
