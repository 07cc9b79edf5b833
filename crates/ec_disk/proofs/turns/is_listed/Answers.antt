use Rattle.std.proofs.Common.{◌≡◌, inl, inr, ℕ, ◌<◌, ◌≤◌, List, length, get_or, false, Result, Ok, Err, MatchResult, nat_eq, sym, ◌∙◌, arith}
use Rattle.std.specs.List.{list_any}
use Rattle.std.specs.Result.{is_ok}
use Rattle.std.proofs.lemmas.Bool.{cases_lt}
use Rattle.std.proofs.lemmas.Bool.Decides.{nat_tests}
use Rattle.std.proofs.lemmas.List.Elements.{All-from_get_or}
use Rattle.std.proofs.lemmas.List.Sorted.{searched}
use Rattle.std.proofs.lemmas.List.Folds.{list_any_at, list_any_none}
use Rattle.ec_disk.proofs.turns.is_listed.Goals as goal

listed : (numbers : List ℕ) (x : ℕ) (r : Result ℕ ℕ)
    → MatchResult r (λ i. (i < length numbers) × (get_or numbers i 0 ≡ x)) (λ i. (i ≤ length numbers) × ((k : ℕ) → k < i → get_or numbers k 0 < x) × ((k : ℕ) → i ≤ k → k < length numbers → x < get_or numbers k 0))
    → is_ok r ≡ list_any (λ n. nat_eq n x) numbers
listed numbers x (Ok i) found = sym (list_any_at (λ n. nat_eq n x) numbers i 0 found.0 (grind (arith, nat_tests, found.1)))
listed numbers x (Err i) missed = sym (list_any_none (λ n. nat_eq n x) numbers (All-from_get_or (λ n. nat_eq n x ≡ false) numbers 0 other))
  where
    other : (k : ℕ) → k < length numbers → nat_eq (get_or numbers k 0) x ≡ false
    other k lt = elim (cases_lt k i) [ inl below ↦ grind (arith, nat_tests, missed.1 k below) | inr above ↦ grind (arith, nat_tests, missed.2 k above lt) ]

pub returns : goal.returns
returns c = c.is_ok.ensures.value ∙ listed c.args.numbers.now c.args.number c.binary_search.result (searched _ _ _ c.binary_search.ensures.position (λ i j le lt. c.requires i j 0 le lt))
