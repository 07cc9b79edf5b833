use Rattle.std.proofs.Common.{◌∙◌, ap, arith, inl, inr, refl, sym, subst}
use Rattle.std.specs.Prelude.{Err}
use Rattle.ec_base.proofs.OutsideLemmas.{rose_later}
use Rattle.ec_half.specs.Headers.{IsFoundOf, number_of}
use Rattle.ec_half.specs.OfSlots.Contents.{content}
use Rattle.ec_half.proofs.opening.generations_of.Goals as goal

pub returns-in-Err-clause-bad_first : goal.returns-in-Err-clause-bad_first
returns-in-Err-clause-bad_first g c place is tells = (c.in-Err.ensures.bad 1 place (ap Err is)).1 tells

pub returns-in-Err-clause-first_rests : goal.returns-in-Err-clause-first_rests
returns-in-Err-clause-first_rests g c k place is tells = c.look_at.ensures.rests tells

pub returns-in-Err-clause-second_rests : goal.returns-in-Err-clause-second_rests
returns-in-Err-clause-second_rests g c k place is tells = record {
  gives = refl;
  crash = λ image left. left;
  time = record { later = omega arith; nothing_else = λ since image le left. inl left; keeps = λ since image le left. left };
}

pub returns-in-Err-clause-failed : goal.returns-in-Err-clause-failed
returns-in-Err-clause-failed g c is = inl (c.in-Err.ensures.counts.failed (ap Err is))

pub returns-in-Err-look_at-clause-bad_second : goal.returns-in-Err-look_at-clause-bad_second
returns-in-Err-look_at-clause-bad_second g c place is tells = (c.in-Err-look_at.ensures.bad 2 place (ap Err is)).1 tells

pub returns-in-Err-look_at-clause-first_rests : goal.returns-in-Err-look_at-clause-first_rests
returns-in-Err-look_at-clause-first_rests g c k place is tells = c.look_at.ensures.rests tells

pub returns-in-Err-look_at-clause-second_rests : goal.returns-in-Err-look_at-clause-second_rests
returns-in-Err-look_at-clause-second_rests g c k place is tells = c.look_at-2.ensures.rests tells

pub returns-in-Err-look_at-clause-failed : goal.returns-in-Err-look_at-clause-failed
returns-in-Err-look_at-clause-failed g c is = inr (c.in-Err-look_at.ensures.counts.failed (ap Err is))

pub returns-in-Err-begun-clause-failed : goal.returns-in-Err-begun-clause-failed
returns-in-Err-begun-clause-failed g c is = inl (rose_later _ _ _ c.look_at.ensures.counts.faults_later (c.in-Err-begun.ensures.failed is))

pub returns-in-Err-begun-2-clause-failed : goal.returns-in-Err-begun-2-clause-failed
returns-in-Err-begun-2-clause-failed g c is = inr (rose_later _ _ _ c.look_at-2.ensures.counts.faults_later (c.in-Err-begun-2.ensures.failed is))

pub returns-clause-both_are_good : goal.returns-clause-both_are_good
returns-clause-both_are_good g c = (λ tells. c.in-Ok.ensures.ok refl tells, λ tells. c.in-Ok-look_at.ensures.ok refl tells)

pub returns-clause-first_number : goal.returns-clause-first_number
returns-clause-first_number g c tells =
    let rests = (c.look_at.ensures.rests tells).gives in
    c.in-Ok-begun.ensures.number tells (subst (λ x. IsFoundOf c.in-Ok.found x) (sym rests) (c.in-Ok.ensures.found tells)) ∙ ap number_of rests

pub returns-clause-second_number : goal.returns-clause-second_number
returns-clause-second_number g c tells =
    let rests = (c.look_at-2.ensures.rests tells).gives in
    c.in-Ok-begun-2.ensures.number tells (subst (λ x. IsFoundOf c.in-Ok-look_at.found x) (sym rests) (c.in-Ok-look_at.ensures.found tells)) ∙ ap number_of rests

pub returns-clause-first_header : goal.returns-clause-first_header
returns-clause-first_header g c tells =
    c.in-Ok-begun.ensures.header tells (subst (λ x. IsFoundOf c.in-Ok.found x) (sym (c.look_at.ensures.rests tells).gives) (c.in-Ok.ensures.found tells))

pub returns-clause-second_header : goal.returns-clause-second_header
returns-clause-second_header g c tells =
    c.in-Ok-begun-2.ensures.header tells (subst (λ x. IsFoundOf c.in-Ok-look_at.found x) (sym (c.look_at-2.ensures.rests tells).gives) (c.in-Ok-look_at.ensures.found tells))

pub returns-clause-first_content : goal.returns-clause-first_content
returns-clause-first_content g c tells =
    let rests = (c.look_at.ensures.rests tells).gives in
    c.in-Ok-begun.ensures.content tells (subst (λ x. IsFoundOf c.in-Ok.found x) (sym rests) (c.in-Ok.ensures.found tells)) ∙ ap content rests

pub returns-clause-second_content : goal.returns-clause-second_content
returns-clause-second_content g c tells =
    let rests = (c.look_at-2.ensures.rests tells).gives in
    c.in-Ok-begun-2.ensures.content tells (subst (λ x. IsFoundOf c.in-Ok-look_at.found x) (sym rests) (c.in-Ok-look_at.ensures.found tells)) ∙ ap content rests
