-- Steps that are the numbers of their passes, and a floor that counts them.
use Rattle.std.proofs.Common.{ℕ, ◌≤◌, List, length, Some, sym, ap, ◌∙◌, arith, length-append}
use mathlib.Core.List.{IsPrefix}
use Rattle.ec_lock.specs.Steps.{of}

-- a list is no shorter than its beginnings
pub length_grows : {A : Type 0} (xs ys : List A) → IsPrefix xs ys → length xs ≤ length ys
length_grows xs ys p = omega (arith, sym (ap length p.1) ∙ length-append xs p.0)

-- the steps of this number, where each step is the number of its pass
abbrev pub steps_of : ℕ → List ℕ → List ℕ
steps_of = of (λ number. Some number)
