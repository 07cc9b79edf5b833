use Rattle.std.proofs.Common.{◌≤◌, ◌∙◌, ap, sym, subst}
use Rattle.std.specs.Prelude.{IsSome}
use Rattle.ec_disk.specs.declared.turns.Turns.{Turns}
use Rattle.ec_disk.specs.Effects.{IsUnarmed}
use Rattle.ec_disk.specs.Turns.{faults_after, stops_after}
use Rattle.ec_disk.proofs.TurnLaws.{counted, stops_where_due, due_armed, due_over, less_armed, less_over}
use Rattle.ec_disk.proofs.turns.Turns.next.Goals as goal

pub returns-clause-counts : goal.returns-clause-counts
returns-clause-counts c =
    let after = c.count_down-is_due.ensures.after in
    counted _ _ _ (c.count.ensures.faults ∙ ap (λ (t : Turns). faults_after c.count.result t.faults) after) (c.count.ensures.stops ∙ ap (λ (t : Turns). stops_after c.count.result t.stops) after)
    (subst (λ (t : Turns). t.faults ≤ c.count.new.self.faults) after c.count.ensures.later.0) (subst (λ (t : Turns). t.stops ≤ c.count.new.self.stops) after c.count.ensures.later.1)
    (λ is. due_armed _ (sym c.count_down-is_due.ensures.due ∙ stops_where_due _ _ (sym c.count.ensures.turn ∙ is)))
    (λ is. less_armed _ (subst IsSome (c.count.ensures.armed ∙ ap (λ (t : Turns). t.armed) after) is))
    (λ over. subst IsUnarmed (sym (c.count.ensures.armed ∙ ap (λ (t : Turns). t.armed) after)) (less_over _ over))
    (λ is. subst IsUnarmed (sym (c.count.ensures.armed ∙ ap (λ (t : Turns). t.armed) after)) (due_over _ (sym c.count_down-is_due.ensures.due ∙ stops_where_due _ _ (sym c.count.ensures.turn ∙ is))))
