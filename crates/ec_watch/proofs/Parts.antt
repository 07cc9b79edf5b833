-- Lists of which one is a part of the other.
use Rattle.std.proofs.Common.{◌≡◌, refl, sym, ap, subst, ◌∙◌, arith, ◌<◌, ◌≤◌, ◌+◌, ℕ, zero, suc, Bool, true, false, ◌==◌, ◌&&◌, ◌||◌, List, [], ◌∷◌, ◌++◌, length, take, get_or}
use Rattle.std.specs.List.{list_all}
use Rattle.std.proofs.lemmas.Bool.Decides.{nat_tests}
use Rattle.std.proofs.lemmas.List.{take_more, take_all}
use Rattle.std.proofs.lemmas.List.Folds.{list_all-append}
use Rattle.ec_volume.specs.Update.{member}

member-at : (xs : List ℕ) (i n : ℕ) → i < length xs → n ≡ get_or xs i n → member n xs ≡ true
member-at [] i n l e = absurd (omega (arith, l))
member-at (x ∷ xs) zero n l e = ap (λ b. b || member n xs) (ap (λ m. n == m) (sym e) ∙ itself n)
  where
    itself : (n : ℕ) → (n == n) ≡ true
    itself n = grind (arith, nat_tests)
member-at (x ∷ xs) (suc i) n l e = ap (λ b. (n == x) || b) (member-at xs i n (omega (arith, l)) e) ∙ either (n == x)
  where
    either : (b : Bool) → (b || true) ≡ true
    either true = refl
    either false = refl

-- one more of the first ones is there
pub part-more : (ops others : List ℕ) (k i m n : ℕ) → list_all (λ n. member n others) (take k ops) ≡ true → k < length ops → m ≡ get_or ops k m → i < length others → n ≡ get_or others i n → m ≡ n → list_all (λ n. member n others) (take (k + 1) ops) ≡ true
part-more ops others k i m n h l is within at same =
    ap (list_all (λ n. member n others)) (take_more ops k m l ∙ ap (λ x. take k ops ++ x ∷ []) (sym is))
    ∙ list_all-append (λ n. member n others) (take k ops) (m ∷ [])
    ∙ ap (λ b. b && (member m others && true)) h
    ∙ ap (λ b. b && true) (ap (λ x. member x others) same ∙ member-at others i n within at)

pub part-all : (ops others : List ℕ) (k : ℕ) → list_all (λ n. member n others) (take k ops) ≡ true → k ≡ length ops → list_all (λ n. member n others) ops ≡ true
part-all ops others k h e = sym (ap (list_all (λ n. member n others)) (take_all k ops (omega (arith, e)))) ∙ h
