-- Lists of numbers: members, rising lists, and each number once.
use Rattle.std.proofs.Common.{◌≡◌, ◌<◌, refl, sym, ap, ◌∙◌, arith, inl, inr, ℕ, zero, suc, Bool, true, false, not, ◌&&◌, ◌||◌, cond, List, [], ◌∷◌, ◌++◌, length, get_or, filter}
use Rattle.std.specs.Prelude.{◌==◌, Contains}
use Rattle.std.proofs.lemmas.Bool.{eq-eqb, ne_eqb, eqb-true, eqb-false, cases_Bool, cases_eq}
use Rattle.std.proofs.lemmas.List.{append_assoc}
use Rattle.ec_base.specs.Tables.{once}
use Rattle.ec_volume.specs.Update.{member}
use Rattle.ec_cache.specs.OfReport.Index.{without_object, fresh}
use Rattle.ec_base.proofs.Numbers.{same-number, turned}
use Rattle.ec_base.proofs.Lists.{Above, Rises}

pub member-append : (n : ℕ) (xs ys : List ℕ) → member n (xs ++ ys) ≡ (member n xs || member n ys)
member-append n [] ys = refl
member-append n (x ∷ xs) ys = grind (arith, member-append n xs ys)

pub member_of : (n : ℕ) (xs : List ℕ) → Contains xs n → member n xs ≡ true
member_of n [] c = absurd (omega (arith, c.1))
member_of n (x ∷ xs) c = go c.0 c.1 c.2 (member_of n xs)
  where
    go : (k : ℕ) → k < length (x ∷ xs) → get_or (x ∷ xs) k n ≡ n → (Contains xs n → member n xs ≡ true) → member n (x ∷ xs) ≡ true
    go zero l e f = ap (λ b. b || member n xs) (eq-eqb n x (sym e))
    go (suc k) l e f = let later : member n xs ≡ true = f (k, omega (arith, l), e) in grind (arith, later)

pub of_member : (n : ℕ) (xs : List ℕ) → member n xs ≡ true → Contains xs n
of_member n [] m = absurd (grind (arith, m))
of_member n (x ∷ xs) m = go (n == x) refl m (of_member n xs)
  where
    go : (b : Bool) → (n == x) ≡ b → (b || member n xs) ≡ true → (member n xs ≡ true → Contains xs n) → Contains (x ∷ xs) n
    go true e m f = (0, omega arith, sym (eqb-true n x e))
    go false e m f = let c = f m in (suc c.0, omega (arith, c.1), c.2)

pub member_alike : (n : ℕ) (xs ys : List ℕ) → (Contains xs n → Contains ys n) → (Contains ys n → Contains xs n) → member n xs ≡ member n ys
member_alike n xs ys to back = go (member n xs) (member n ys) refl refl
  where
    go : (a b : Bool) → member n xs ≡ a → member n ys ≡ b → a ≡ b
    go true true p q = refl
    go false false p q = refl
    go true false p q = absurd (grind (arith, member_of n ys (to (of_member n xs p)), q))
    go false true p q = absurd (grind (arith, member_of n xs (back (of_member n ys q)), p))

-- One number left out.

pub member-without : (n x : ℕ) (xs : List ℕ) → member n (without_object x xs) ≡ (member n xs && not (n == x))
member-without n x [] = refl
member-without n x (y ∷ ys) = go (y == x) refl (member-without n x ys)
  where
    go : (b : Bool) → (y == x) ≡ b → member n (without_object x ys) ≡ (member n ys && not (n == x)) → member n (cond (not b) (y ∷ without_object x ys) (without_object x ys)) ≡ (member n (y ∷ ys) && not (n == x))
    go true e r = r ∙ grind (arith, eqb-true y x e)
    go false e r = ap (λ b. (n == y) || b) r ∙ grind (arith, eqb-false y x e)

pub without_absent : (x : ℕ) (xs : List ℕ) → member x xs ≡ false → without_object x xs ≡ xs
without_absent x [] m = refl
without_absent x (y ∷ ys) m = go (y == x) (turned y x) m (without_absent x ys)
  where
    go : (b : Bool) → b ≡ (x == y) → ((x == y) || member x ys) ≡ false → (member x ys ≡ false → without_object x ys ≡ ys) → cond (not b) (y ∷ without_object x ys) (without_object x ys) ≡ y ∷ ys
    go true e m f = absurd (grind (arith, e, m))
    go false e m f = ap (λ l. y ∷ l) (f (grind (arith, m)))

pub without_twice : (x : ℕ) (xs : List ℕ) → without_object x (without_object x xs) ≡ without_object x xs
without_twice x xs = without_absent x (without_object x xs) (member-without x x xs ∙ ap (λ b. member x xs && not b) (same-number x) ∙ grind arith)

-- Rising lists.

pub above_absent : (n : ℕ) (xs : List ℕ) → Above n xs → member n xs ≡ false
above_absent n [] h = refl
above_absent n (x ∷ xs) h = ap (λ b. b || member n xs) (ne_eqb n x (λ e. absurd (omega (arith, h.0, e)))) ∙ above_absent n xs h.1

above_lower : (m n : ℕ) (xs : List ℕ) → m < n → Above n xs → Above m xs
above_lower m n [] l h = tt
above_lower m n (x ∷ xs) l h = (omega (arith, h.0), above_lower m n xs l h.1)

-- rising lists with the same members are one
pub same_rising : (xs ys : List ℕ) → Rises xs → Rises ys → ((n : ℕ) → member n xs ≡ member n ys) → xs ≡ ys
same_rising [] [] r s f = refl
same_rising [] (y ∷ ys) r s f = absurd (grind (arith, f y, same-number y))
same_rising (x ∷ xs) [] r s f = absurd (grind (arith, f x, same-number x))
same_rising (x ∷ xs) (y ∷ ys) r s f =
    let heads : x ≡ y = elim (cases_eq x y) [
      | inl e ↦ e
      | inr d ↦ absurd (apart d)
    ] in
    (λ i. heads i ∷ same_rising xs ys r.1 s.1 (λ n. tails n heads) i)
  where
    apart : (x ≡ y → ⊥) → ⊥
    apart d =
        let off : (x == y) ≡ false = ne_eqb x y d in
        let in_ys : member x ys ≡ true = grind (arith, f x, same-number x, off) in
        let in_xs : member y xs ≡ true = grind (arith, f y, same-number y, off, turned x y) in
        below in_ys in_xs
      where
        least : (n m : ℕ) (l : List ℕ) → Above n l → member m l ≡ true → n < m
        least n m [] h e = absurd (grind (arith, e))
        least n m (z ∷ zs) h e = elim (cases_Bool (m == z)) [
          | inl q ↦ omega (arith, h.0, eqb-true m z q)
          | inr q ↦ least n m zs h.1 (grind (arith, e, q))
        ]

        below : member x ys ≡ true → member y xs ≡ true → ⊥
        below a b = omega (arith, least y x ys s.0 a, least x y xs r.0 b)

    tails : (n : ℕ) → x ≡ y → member n xs ≡ member n ys
    tails n e = elim (cases_Bool (n == x)) [
      | inl q ↦ ap (λ m. member m xs) (eqb-true n x q) ∙ above_absent x xs r.0 ∙ sym (ap (λ m. member m ys) (eqb-true n x q ∙ e) ∙ above_absent y ys s.0)
      | inr q ↦ grind (arith, f n, q, ap (λ z. n == z) e)
    ]

-- The numbers of a list, each once, but those that were seen.

pub fresh_more : (seen : List ℕ) (x : ℕ) (xs : List ℕ) → fresh seen (x ∷ xs) ≡ cond (member x seen) (fresh seen xs) (x ∷ fresh (seen ++ x ∷ []) xs)
fresh_more seen x xs = go (member x seen) refl (once xs)
  where
    old : member x seen ≡ true → (l : List ℕ) → filter (λ y. not (member y seen)) (filter (λ m. not (m == x)) l) ≡ filter (λ y. not (member y seen)) l
    old e [] = refl
    old e (y ∷ ys) = by (y == x) refl (member y seen) refl (old e ys)
      where
        by : (a : Bool) → (y == x) ≡ a → (b : Bool) → member y seen ≡ b → filter (λ y. not (member y seen)) (filter (λ m. not (m == x)) ys) ≡ filter (λ y. not (member y seen)) ys
            → filter (λ y. not (member y seen)) (cond (not a) (y ∷ filter (λ m. not (m == x)) ys) (filter (λ m. not (m == x)) ys)) ≡ cond (not b) (y ∷ filter (λ y. not (member y seen)) ys) (filter (λ y. not (member y seen)) ys)
        by true p true q r = r
        by true p false q r = absurd (grind (arith, e, q, eqb-true y x p))
        by false p b q r = ap (λ c. cond (not c) (y ∷ filter (λ y. not (member y seen)) (filter (λ m. not (m == x)) ys)) (filter (λ y. not (member y seen)) (filter (λ m. not (m == x)) ys))) q ∙ ap (λ l. cond (not b) (y ∷ l) l) r

    new : (l : List ℕ) → filter (λ y. not (member y seen)) (filter (λ m. not (m == x)) l) ≡ filter (λ y. not (member y (seen ++ x ∷ []))) l
    new [] = refl
    new (y ∷ ys) = by (y == x) refl (member y seen) refl (new ys)
      where
        by : (a : Bool) → (y == x) ≡ a → (b : Bool) → member y seen ≡ b → filter (λ y. not (member y seen)) (filter (λ m. not (m == x)) ys) ≡ filter (λ y. not (member y (seen ++ x ∷ []))) ys
            → filter (λ y. not (member y seen)) (cond (not a) (y ∷ filter (λ m. not (m == x)) ys) (filter (λ m. not (m == x)) ys))
            ≡ cond (not (member y (seen ++ x ∷ []))) (y ∷ filter (λ y. not (member y (seen ++ x ∷ []))) ys) (filter (λ y. not (member y (seen ++ x ∷ []))) ys)
        by true p b q r =
            let has : member y (seen ++ x ∷ []) ≡ true = member-append y seen (x ∷ []) ∙ grind (arith, p) in
            r ∙ ap (λ c. cond (not c) (y ∷ filter (λ y. not (member y (seen ++ x ∷ []))) ys) (filter (λ y. not (member y (seen ++ x ∷ []))) ys)) (sym has)
        by false p b q r =
            let has : member y (seen ++ x ∷ []) ≡ member y seen = member-append y seen (x ∷ []) ∙ grind (arith, p) in
            ap (λ c. cond (not c) (y ∷ filter (λ y. not (member y seen)) (filter (λ m. not (m == x)) ys)) (filter (λ y. not (member y seen)) (filter (λ m. not (m == x)) ys))) (sym has)
            ∙ ap (λ l. cond (not (member y (seen ++ x ∷ []))) (y ∷ l) l) r

    go : (b : Bool) → member x seen ≡ b → (l : List ℕ) → cond (not (member x seen)) (x ∷ filter (λ y. not (member y seen)) (filter (λ m. not (m == x)) l)) (filter (λ y. not (member y seen)) (filter (λ m. not (m == x)) l))
        ≡ cond b (filter (λ y. not (member y seen)) l) (x ∷ filter (λ y. not (member y (seen ++ x ∷ []))) l)
    go true e l = ap (λ c. cond (not c) (x ∷ filter (λ y. not (member y seen)) (filter (λ m. not (m == x)) l)) (filter (λ y. not (member y seen)) (filter (λ m. not (m == x)) l))) e ∙ old e l
    go false e l = ap (λ c. cond (not c) (x ∷ filter (λ y. not (member y seen)) (filter (λ m. not (m == x)) l)) (filter (λ y. not (member y seen)) (filter (λ m. not (m == x)) l))) e ∙ ap (λ r. x ∷ r) (new l)

pub fresh_none : (xs : List ℕ) → fresh [] xs ≡ once xs
fresh_none xs = go (once xs)
  where
    go : (l : List ℕ) → filter (λ y. not (member y [])) l ≡ l
    go [] = refl
    go (y ∷ ys) = ap (λ l. y ∷ l) (go ys)

pub fresh-append : (seen xs ys : List ℕ) → fresh seen (xs ++ ys) ≡ fresh seen xs ++ fresh (seen ++ fresh seen xs) ys
fresh-append seen [] ys = ap (λ l. fresh l ys) (sym (nil seen))
  where
    nil : (l : List ℕ) → l ++ [] ≡ l
    nil [] = refl
    nil (x ∷ xs) = ap (λ l. x ∷ l) (nil xs)
fresh-append seen (x ∷ xs) ys =
    fresh_more seen x (xs ++ ys) ∙ go (member x seen) (fresh-append seen xs ys) (fresh-append (seen ++ x ∷ []) xs ys) ∙ ap (λ l. l ++ fresh (seen ++ l) ys) (sym (fresh_more seen x xs))
  where
    go : (b : Bool) → fresh seen (xs ++ ys) ≡ fresh seen xs ++ fresh (seen ++ fresh seen xs) ys
        → fresh (seen ++ x ∷ []) (xs ++ ys) ≡ fresh (seen ++ x ∷ []) xs ++ fresh ((seen ++ x ∷ []) ++ fresh (seen ++ x ∷ []) xs) ys
        → cond b (fresh seen (xs ++ ys)) (x ∷ fresh (seen ++ x ∷ []) (xs ++ ys)) ≡ cond b (fresh seen xs) (x ∷ fresh (seen ++ x ∷ []) xs) ++ fresh (seen ++ cond b (fresh seen xs) (x ∷ fresh (seen ++ x ∷ []) xs)) ys
    go true r s = r
    go false r s = ap (λ l. x ∷ l) (s ∙ ap (λ l. fresh (seen ++ x ∷ []) xs ++ fresh l ys) (append_assoc seen (x ∷ []) (fresh (seen ++ x ∷ []) xs)))
