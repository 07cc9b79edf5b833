-- Numbers that a list has, each once, but those that were seen.
use Rattle.std.proofs.Common.{◌≡◌, sym, ap, ◌∙◌, ℕ, Bool, true, false, cond, List, [], ◌∷◌, ◌++◌, append_assoc, append-nil, refl}
use Rattle.ec_base.specs.Tables.{once}
use Rattle.ec_cache.proofs.OfReport.Lists.{fresh_more, fresh_none}
use Rattle.ec_cache.specs.OfReport.Index.{fresh}
use Rattle.ec_lease.specs.OfDrill.Lines.{each_noted}
use Rattle.ec_volume.specs.Update.{member}

pub noted_is : (xs seen : List ℕ) → each_noted seen xs ≡ seen ++ fresh seen xs
noted_is [] seen = sym (append-nil seen)
noted_is (x ∷ xs) seen = by (member x seen) refl (noted_is xs seen) (noted_is xs (seen ++ x ∷ []))
  where
    by : (b : Bool) → member x seen ≡ b → each_noted seen xs ≡ seen ++ fresh seen xs → each_noted (seen ++ x ∷ []) xs ≡ (seen ++ x ∷ []) ++ fresh (seen ++ x ∷ []) xs → each_noted (cond (member x seen) seen (seen ++ x ∷ [])) xs ≡ seen ++ fresh seen (x ∷ xs)
    by true e old new = ap (λ (c : Bool). each_noted (cond c seen (seen ++ x ∷ [])) xs) e ∙ old ∙ ap (λ l. seen ++ l) (sym (fresh_more seen x xs ∙ ap (λ (c : Bool). cond c (fresh seen xs) (x ∷ fresh (seen ++ x ∷ []) xs)) e))
    by false e old new =
        ap (λ (c : Bool). each_noted (cond c seen (seen ++ x ∷ [])) xs) e ∙ new ∙ append_assoc seen (x ∷ []) (fresh (seen ++ x ∷ []) xs)
        ∙ ap (λ l. seen ++ l) (sym (fresh_more seen x xs ∙ ap (λ (c : Bool). cond c (fresh seen xs) (x ∷ fresh (seen ++ x ∷ []) xs)) e))

-- each number once
pub noted_once : (xs : List ℕ) → each_noted [] xs ≡ once xs
noted_once xs = noted_is xs [] ∙ fresh_none xs

pub noted-append : (seen xs ys : List ℕ) → each_noted seen (xs ++ ys) ≡ each_noted (each_noted seen xs) ys
noted-append seen [] ys = refl
noted-append seen (x ∷ xs) ys = noted-append (cond (member x seen) seen (seen ++ x ∷ [])) xs ys
