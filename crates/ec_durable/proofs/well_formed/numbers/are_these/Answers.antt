use Rattle.std.proofs.Common.{◌≡◌, ◌∙◌, ℕ, List, sym, ap}
use Rattle.std.proofs.lemmas.Bool.Decides.{Decides-eqb}
use Rattle.std.proofs.lemmas.Slice.Eq.{slice_eq-Decides}
use Rattle.ec_sessions.specs.WindowMarks.{times}
use Rattle.ec_durable.proofs.OfWellFormed.Sorting.{same_ascending}
use Rattle.ec_durable.proofs.OfWellFormed.Deciding.{tells}
use Rattle.ec_durable.proofs.well_formed.numbers.are_these.Goals as goal

pub returns : goal.returns
returns c =
    let xs = c.in_ok-numbers.numbers.items in
    let ys = c.args.others.now in
    let same = slice_eq-Decides Decides-eqb c.as_slice.result.now ys c.eq.result c.eq.ensures in
    tells c.eq.result ((n : ℕ) → times n c.args.numbers.items ≡ times n ys)
    (λ is n. sym (c.in_ok-numbers.ensures.same n) ∙ ap (λ (l : List ℕ). times n l) (sym c.as_slice.ensures.value ∙ same.0 is))
    (λ all. same.1 (c.as_slice.ensures.value ∙ same_ascending xs ys c.in_ok-numbers.ensures.ascends c.requires (λ n. c.in_ok-numbers.ensures.same n ∙ all n)))
