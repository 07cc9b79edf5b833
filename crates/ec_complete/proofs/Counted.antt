-- The answers name as many operations as the plain volume issues.
use Rattle.std.proofs.Common.{◌≡◌, refl, arith, ◌+◌, ℕ, Bool, true, false, ◌==◌, ◌&&◌, List, [], ◌∷◌}
use Rattle.std.specs.Prelude.{Option, None, Some, drop, is_some}
use Rattle.ec_volume.specs.Volume.{Images}
use Rattle.ec_volume.specs.declared.update.Update.{Update}
use Rattle.ec_machine_laws.specs.Answers.{Asking, Plainly, after_call, answers_to, first_number, none_yet, operation_number, outcome_on}
use Rattle.ec_complete.specs.Ids.{AnswersTellOperations, behind_calls, operations_in}

-- one more call
counted : (s : Plainly) (c d : ℕ) (u : Option Update) → s.issued c + elim ((c == d) && is_some (operation_number s d u)) as (λ z. ℕ) [ true ↦ 1 | false ↦ 0 ] ≡ (after_call s d u).issued c
counted s c d None = go (c == d)
  where
    go : (b : Bool) → s.issued c + elim (b && false) as (λ z. ℕ) [ true ↦ 1 | false ↦ 0 ] ≡ s.issued c
    go true = omega arith
    go false = omega arith
counted s c d (Some u) = go (c == d)
  where
    go : (b : Bool) → s.issued c + elim (b && true) as (λ z. ℕ) [ true ↦ 1 | false ↦ 0 ] ≡ elim b as (λ z. ℕ) [ true ↦ s.issued c + 1 | false ↦ s.issued c ]
    go true = refl
    go false = omega arith

module _ (v : Images) where
  tells : (qs : List Asking) (s : Plainly) (ids : List ℕ) (c : ℕ) → s.issued c + operations_in c (answers_to v s ids qs) ≡ (behind_calls v s ids qs).issued c
  tells [] s ids c = omega arith
  tells (q ∷ qs) s ids c =
      let u : Option Update = (outcome_on v s q.2 (first_number ids)).update in
      omega (arith, counted s c q.1 u, tells qs (after_call s q.1 u) (drop 1 ids) c)

pub tells-all : AnswersTellOperations
tells-all v ids qs c = omega (arith, tells v qs none_yet ids c)
