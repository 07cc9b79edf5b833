-- The numbers of a start's operations.
use Rattle.std.proofs.Common.{◌≡◌, refl, sym, ap, ◌∙◌, ◌<◌, ◌+◌, arith, ℕ, Bool, true, false, ◌==◌, ◌&&◌, ◌||◌, cond, map, List, [], ◌∷◌, ◌++◌, length, take, get_or, append-nil}
use Rattle.std.specs.List.{filter, list_any, list_all}
use Rattle.std.proofs.lemmas.List.{take_more}
use Rattle.std.proofs.lemmas.List.Elements.{filter-append}
use Rattle.std.proofs.lemmas.Bool.Decides.{nat_tests}
use Rattle.ec_volume.specs.Update.{member}
use Rattle.ec_history.specs.History.{of_start}
use Rattle.ec_judge.specs.declared.carried.Kept.{Kept}
use Rattle.ec_judge.specs.Carried.{op_of, is_among}

-- the numbers of the start's operations
pub own-member : (c b n : ℕ) (ks : List Kept) → list_any (λ k. is_among c b (n ∷ []) k) ks ≡ member n (map (λ k. k.number) (filter (λ k. of_start c b (op_of k)) ks))
own-member c b n [] = refl
own-member c b n (k ∷ ks) = go (of_start c b (op_of k)) (own-member c b n ks)
  where
    turned : (m : ℕ) → (m == n) ≡ (n == m)
    turned m = grind (arith, nat_tests)

    one : (b : Bool) → (b || false) ≡ b
    one true = refl
    one false = refl

    go : (x : Bool) → list_any (λ k. is_among c b (n ∷ []) k) ks ≡ member n (map (λ k. k.number) (filter (λ k. of_start c b (op_of k)) ks))
        → ((x && ((k.number == n) || false)) || list_any (λ k. is_among c b (n ∷ []) k) ks) ≡ member n (map (λ k. k.number) (cond x (k ∷ filter (λ k. of_start c b (op_of k)) ks) (filter (λ k. of_start c b (op_of k)) ks)))
    go true r = ap (λ z. z || list_any (λ k. is_among c b (n ∷ []) k) ks) (one (k.number == n) ∙ turned k.number) ∙ ap (λ z. (n == k.number) || z) r
    go false r = r

pub all-own : (c b : ℕ) (ks : List Kept) (ms ns : List ℕ) → ms ≡ map (λ k. k.number) (filter (λ k. of_start c b (op_of k)) ks) → list_all (λ n. member n ms) ns ≡ list_all (λ n. list_any (λ k. is_among c b (n ∷ []) k) ks) ns
all-own c b ks ms [] e = refl
all-own c b ks ms (n ∷ ns) e = ap (λ z. z && list_all (λ n. member n ms) ns) (ap (member n) e ∙ sym (own-member c b n ks)) ∙ ap (λ z. list_any (λ k. is_among c b (n ∷ []) k) ks && z) (all-own c b ks ms ns e)

-- one operation of the start more
own-front : (c b : ℕ) (ks : List Kept) (i : ℕ) (k : Kept) → i < length ks → k ≡ get_or ks i k
    → map (λ k. k.number) (filter (λ k. of_start c b (op_of k)) (take (i + 1) ks)) ≡ map (λ k. k.number) (filter (λ k. of_start c b (op_of k)) (take i ks)) ++ map (λ k. k.number) (cond (of_start c b (op_of k)) (k ∷ []) [])
own-front c b ks i k within is =
    ap (λ l. map (λ k. k.number) (filter (λ k. of_start c b (op_of k)) l)) (take_more ks i k within ∙ ap (λ x. take i ks ++ x ∷ []) (sym is))
    ∙ ap (map (λ k. k.number)) (filter-append (λ k. of_start c b (op_of k)) (take i ks) (k ∷ []))
    ∙ map-append (filter (λ k. of_start c b (op_of k)) (take i ks)) (cond (of_start c b (op_of k)) (k ∷ []) [])
  where
    map-append : (xs ys : List Kept) → map {B = ℕ} (λ k. k.number) (xs ++ ys) ≡ map (λ k. k.number) xs ++ map (λ k. k.number) ys
    map-append [] ys = refl
    map-append (x ∷ xs) ys = ap (λ z. x.number ∷ z) (map-append xs ys)

pub own-takes : (c b : ℕ) (ks : List Kept) (i : ℕ) (k : Kept) (old new : List ℕ) → i < length ks → k ≡ get_or ks i k → of_start c b (op_of k) ≡ true → old ≡ map (λ k. k.number) (filter (λ k. of_start c b (op_of k)) (take i ks)) → new ≡ old ++ k.number ∷ []
    → new ≡ map (λ k. k.number) (filter (λ k. of_start c b (op_of k)) (take (i + 1) ks))
own-takes c b ks i k old new within is own h e = e ∙ ap (λ l. l ++ k.number ∷ []) h ∙ sym (own-front c b ks i k within is ∙ ap (λ x. map (λ k. k.number) (filter (λ k. of_start c b (op_of k)) (take i ks)) ++ map (λ k. k.number) (cond x (k ∷ []) [])) own)

pub own-skips : (c b : ℕ) (ks : List Kept) (i : ℕ) (k : Kept) (old : List ℕ) → i < length ks → k ≡ get_or ks i k → of_start c b (op_of k) ≡ false → old ≡ map (λ k. k.number) (filter (λ k. of_start c b (op_of k)) (take i ks))
    → old ≡ map (λ k. k.number) (filter (λ k. of_start c b (op_of k)) (take (i + 1) ks))
own-skips c b ks i k old within is own h = h ∙ sym (own-front c b ks i k within is ∙ ap (λ x. map (λ k. k.number) (filter (λ k. of_start c b (op_of k)) (take i ks)) ++ map (λ k. k.number) (cond x (k ∷ []) [])) own ∙ append-nil _)
