-- Numbers that a list has, each once, but those that were seen.
use Rattle.std.proofs.Common.{◌≡◌, refl, sym, ap, ◌∙◌, arith, ℕ, Bool, true, false, not, cond, List, [], ◌∷◌, ◌++◌, filter, append_assoc, append-nil}
use Rattle.std.specs.Prelude.{◌==◌}
use Rattle.std.proofs.lemmas.Bool.{eqb-true}
use Rattle.ec_base.specs.Tables.{once}
use Rattle.ec_drill.specs.Lines.{noted}
use Rattle.ec_volume.specs.Update.{member}
use Rattle.ec_cache.proofs.OfReport.Lists.{member-append}

abbrev pub fresh : List ℕ → List ℕ → List ℕ
fresh seen xs = filter (λ y. not (member y seen)) (once xs)

pub fresh_more : (seen : List ℕ) (x : ℕ) (xs : List ℕ) → fresh seen (x ∷ xs) ≡ cond (member x seen) (fresh seen xs) (x ∷ fresh (seen ++ x ∷ []) xs)
fresh_more seen x xs = go (member x seen) refl (once xs)
  where
    old : member x seen ≡ true → (l : List ℕ) → filter (λ y. not (member y seen)) (filter (λ m. not (m == x)) l) ≡ filter (λ y. not (member y seen)) l
    old e [] = refl
    old e (y ∷ ys) = by (y == x) refl (member y seen) refl (old e ys)
      where
        by : (a : Bool) → (y == x) ≡ a → (b : Bool) → member y seen ≡ b → filter (λ y. not (member y seen)) (filter (λ m. not (m == x)) ys) ≡ filter (λ y. not (member y seen)) ys
            → filter (λ y. not (member y seen)) (cond (not a) (y ∷ filter (λ m. not (m == x)) ys) (filter (λ m. not (m == x)) ys)) ≡ cond (not b) (y ∷ filter (λ y. not (member y seen)) ys) (filter (λ y. not (member y seen)) ys)
        by true p true q r = r
        by true p false q r = absurd (grind (arith, e, q, eqb-true y x p))
        by false p b q r = ap (λ c. cond (not c) (y ∷ filter (λ y. not (member y seen)) (filter (λ m. not (m == x)) ys)) (filter (λ y. not (member y seen)) (filter (λ m. not (m == x)) ys))) q ∙ ap (λ l. cond (not b) (y ∷ l) l) r

    new : (l : List ℕ) → filter (λ y. not (member y seen)) (filter (λ m. not (m == x)) l) ≡ filter (λ y. not (member y (seen ++ x ∷ []))) l
    new [] = refl
    new (y ∷ ys) = by (y == x) refl (member y seen) refl (new ys)
      where
        by : (a : Bool) → (y == x) ≡ a → (b : Bool) → member y seen ≡ b → filter (λ y. not (member y seen)) (filter (λ m. not (m == x)) ys) ≡ filter (λ y. not (member y (seen ++ x ∷ []))) ys
            → filter (λ y. not (member y seen)) (cond (not a) (y ∷ filter (λ m. not (m == x)) ys) (filter (λ m. not (m == x)) ys))
            ≡ cond (not (member y (seen ++ x ∷ []))) (y ∷ filter (λ y. not (member y (seen ++ x ∷ []))) ys) (filter (λ y. not (member y (seen ++ x ∷ []))) ys)
        by true p b q r =
            let has : member y (seen ++ x ∷ []) ≡ true = member-append y seen (x ∷ []) ∙ grind (arith, p) in
            r ∙ ap (λ c. cond (not c) (y ∷ filter (λ y. not (member y (seen ++ x ∷ []))) ys) (filter (λ y. not (member y (seen ++ x ∷ []))) ys)) (sym has)
        by false p b q r =
            let has : member y (seen ++ x ∷ []) ≡ member y seen = member-append y seen (x ∷ []) ∙ grind (arith, p) in
            ap (λ c. cond (not c) (y ∷ filter (λ y. not (member y seen)) (filter (λ m. not (m == x)) ys)) (filter (λ y. not (member y seen)) (filter (λ m. not (m == x)) ys))) (sym has)
            ∙ ap (λ l. cond (not (member y (seen ++ x ∷ []))) (y ∷ l) l) r

    go : (b : Bool) → member x seen ≡ b → (l : List ℕ) → cond (not (member x seen)) (x ∷ filter (λ y. not (member y seen)) (filter (λ m. not (m == x)) l)) (filter (λ y. not (member y seen)) (filter (λ m. not (m == x)) l))
        ≡ cond b (filter (λ y. not (member y seen)) l) (x ∷ filter (λ y. not (member y (seen ++ x ∷ []))) l)
    go true e l = ap (λ c. cond (not c) (x ∷ filter (λ y. not (member y seen)) (filter (λ m. not (m == x)) l)) (filter (λ y. not (member y seen)) (filter (λ m. not (m == x)) l))) e ∙ old e l
    go false e l = ap (λ c. cond (not c) (x ∷ filter (λ y. not (member y seen)) (filter (λ m. not (m == x)) l)) (filter (λ y. not (member y seen)) (filter (λ m. not (m == x)) l))) e ∙ ap (λ r. x ∷ r) (new l)

pub fresh_none : (xs : List ℕ) → fresh [] xs ≡ once xs
fresh_none xs = go (once xs)
  where
    go : (l : List ℕ) → filter (λ y. not (member y [])) l ≡ l
    go [] = refl
    go (y ∷ ys) = ap (λ l. y ∷ l) (go ys)

pub noted_is : (xs seen : List ℕ) → noted seen xs ≡ seen ++ fresh seen xs
noted_is [] seen = sym (append-nil seen)
noted_is (x ∷ xs) seen = by (member x seen) refl (noted_is xs seen) (noted_is xs (seen ++ x ∷ []))
  where
    by : (b : Bool) → member x seen ≡ b → noted seen xs ≡ seen ++ fresh seen xs → noted (seen ++ x ∷ []) xs ≡ (seen ++ x ∷ []) ++ fresh (seen ++ x ∷ []) xs → noted (cond (member x seen) seen (seen ++ x ∷ [])) xs ≡ seen ++ fresh seen (x ∷ xs)
    by true e old new = ap (λ (c : Bool). noted (cond c seen (seen ++ x ∷ [])) xs) e ∙ old ∙ ap (λ l. seen ++ l) (sym (fresh_more seen x xs ∙ ap (λ (c : Bool). cond c (fresh seen xs) (x ∷ fresh (seen ++ x ∷ []) xs)) e))
    by false e old new =
        ap (λ (c : Bool). noted (cond c seen (seen ++ x ∷ [])) xs) e ∙ new ∙ append_assoc seen (x ∷ []) (fresh (seen ++ x ∷ []) xs)
        ∙ ap (λ l. seen ++ l) (sym (fresh_more seen x xs ∙ ap (λ (c : Bool). cond c (fresh seen xs) (x ∷ fresh (seen ++ x ∷ []) xs)) e))

-- each number once
pub noted_once : (xs : List ℕ) → noted [] xs ≡ once xs
noted_once xs = noted_is xs [] ∙ fresh_none xs

pub noted-append : (seen xs ys : List ℕ) → noted seen (xs ++ ys) ≡ noted (noted seen xs) ys
noted-append seen [] ys = refl
noted-append seen (x ∷ xs) ys = noted-append (cond (member x seen) seen (seen ++ x ∷ [])) xs ys
