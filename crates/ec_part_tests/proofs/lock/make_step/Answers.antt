use Rattle.std.proofs.Common.{◌≡◌, ◌<◌, [], ◌∷◌, ◌++◌, length, MatchBool, sym, ap, ◌∙◌, subst}
use Rattle.ec_lock.specs.Laws.{steps_of}
use Rattle.ec_part_tests.proofs.Rows.{others_kept, own_added, longer_by_one}
use Rattle.ec_part_tests.proofs.lock.make_step.Goals as goal

pub leave-requires-clause-own : goal.leave-requires-clause-own
leave-requires-clause-own g c n differ =
    ap (steps_of n) c.enter-turn.ensures.front
    ∙ others_kept n c.number-number.result c.enter-turn.result.value.steps.items c.add-made.new.row.steps.items c.add-made.result c.add-made.ensures (λ e. differ (e ∙ (c.number-number.ensures ∙ sym c.enter-turn.ensures.same.0)))

pub returns-clause-step : goal.returns-clause-step
returns-clause-step g c made =
    let number = c.args.pass.now.number in
    let xs = c.enter-turn.result.value.steps.items in
    let ys = c.add-made.new.row.steps.items in
    let added = subst (λ m. MatchBool c.add-made.result (ys ≡ xs ++ m ∷ []) (ys ≡ xs)) c.number-number.ensures c.add-made.ensures in
    ap (steps_of number) c.leave.ensures.front ∙ (own_added number xs ys c.add-made.result added made ∙ ap (λ l. l ++ number ∷ []) (sym (c.enter-turn.ensures.own number c.requires.1)))

pub returns-clause-long : goal.returns-clause-long
returns-clause-long g c made =
    let ys = c.add-made.new.row.steps.items in
    subst (λ l. 0 < length l) (sym c.leave.ensures.front) (longer_by_one c.number-number.result c.enter-turn.result.value.steps.items ys c.add-made.result c.add-made.ensures made)
