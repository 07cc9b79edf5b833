use Rattle.std.proofs.Common.{[], ◌∷◌, ◌++◌, ap, ◌∙◌, ⊎_elim, inl, inr}
use Rattle.ec_lock.specs.Laws.{steps_of}
use Rattle.ec_lock.specs.PassViews.{front}
use Rattle.ec_part_tests.proofs.Rows.{known_by}
use Rattle.ec_part_tests.proofs.lock.make_and_meet.Goals as goal

pub returns-clause-one : goal.returns-clause-one
returns-clause-one g c made =
    let number = c.args.one.now.number in
    ap (steps_of number) c.note-note.ensures.front ∙ (c.make_step-made.ensures.step made ∙ ap (λ l. steps_of number l ++ number ∷ []) c.requires.one.1)

pub returns-clause-other : goal.returns-clause-other
returns-clause-other g c made =
    let number = c.args.one.now.number in
    let known = ap (steps_of number) c.note-note.ensures.note.1 ∙ (c.make_step-made.ensures.step made ∙ ap (λ l. steps_of number l ++ number ∷ []) c.requires.one.1) in
    known_by number c.note-note.result.seat.me.0.front (front c.meet.new.pass) known (⊎_elim (λ e. inl (e ∙ c.requires.other.1)) (λ e. inr e) c.meet.ensures.front) c.meet.ensures.other
