-- Operations whose places rise: one more, and some of them.
use Rattle.std.proofs.Common.{◌≡◌, ◌⊎◌, inl, inr, refl, sym, ap, subst, ◌∙◌, arith, ◌<◌, ◌≤◌, ℕ, Bool, true, false, cond, [], ◌∷◌, ◌++◌}
use Rattle.std.specs.Prelude.{◌==◌, nat_lt, filter, Result, Ok, Err, OnOk, OnErr}
use Rattle.std.proofs.lemmas.Bool.{and_parts}
use Rattle.std.proofs.lemmas.Bool.Decides.{nat_tests}
use Rattle.ec_base.specs.Tables.{Table, at_or, put}
use Rattle.ec_volume.specs.declared.update.Update.{Update}
use Rattle.ec_order.specs.Order.{Issued, Holds}
use Rattle.ec_log.specs.OfChains.Held.{is_behind}
use Rattle.ec_log.proofs.OfChains.Fronts.{holds-last, holds-part}
use Rattle.ec_pending.specs.Pending.{AreRising, AreWithin}
use Rattle.ec_pending.proofs.Holding.{at_or-put, held-lower}

pub rising-part : (ps : Table ℕ) (p : ℕ × Update → Bool) (xs : Issued) → AreRising ps xs → AreRising ps (filter p xs)
rising-part ps p [] r = tt
rising-part ps p (x ∷ xs) r = go (p x) (rising-part ps p xs r.1)
  where
    go : (c : Bool) → AreRising ps (filter p xs) → AreRising ps (cond c (x ∷ filter p xs) (filter p xs))
    go true h = ((λ n u k. r.0 n u (holds-part p xs n u k)), h)
    go false h = h

module _ (op place : ℕ) (ps : Table ℕ) where
  other : (xs : Issued) → is_behind op xs ≡ true → (n : ℕ) (u : Update) → Holds xs n u → at_or 0 n (put op place ps) ≡ at_or 0 n ps
  other xs b n u h = at_or-put n op place ps ∙ ap (λ c. cond c place (at_or 0 n ps)) (apart (held-lower op n u xs b h))
    where
      apart : n < op → (n == op) ≡ false
      apart l = grind (arith, nat_tests)

  own : at_or 0 op (put op place ps) ≡ place
  own = at_or-put op op place ps ∙ ap (λ c. cond c place (at_or 0 op ps)) (self op)
    where
      self : (k : ℕ) → (k == k) ≡ true
      self k = grind (arith, nat_tests)

  pub rising-put : (xs : Issued) → is_behind op xs ≡ true → AreRising ps xs → AreRising (put op place ps) xs
  rising-put [] b r = tt
  rising-put (x ∷ xs) b r =
      let parts = and_parts (nat_lt x.0 op) (is_behind op xs) b in (
        (λ n u h. subst (λ k. k ≤ at_or 0 n (put op place ps)) (sym (other (x ∷ xs) b x.0 x.1 (inl (refl, refl)))) (subst (λ k. at_or 0 x.0 ps ≤ k) (sym (other xs parts.1 n u h)) (r.0 n u h))),
        rising-put xs parts.1 r.1,
      )

  pub rising-more : (w : Update) (xs : Issued) → is_behind op xs ≡ true → AreWithin place ps → AreRising ps xs → AreRising (put op place ps) (xs ++ (op, w) ∷ [])
  rising-more w [] b within r = ((λ n u h. absurd h), tt)
  rising-more w (x ∷ xs) b within r =
      let parts = and_parts (nat_lt x.0 op) (is_behind op xs) b in
      ((λ n u h. later n u parts.1 (holds-last xs (op, w) n u h)), rising-more w xs parts.1 within r.1)
    where
      later : (n : ℕ) (u : Update) → is_behind op xs ≡ true → Holds xs n u ⊎ ((op ≡ n) × (w ≡ u)) → at_or 0 x.0 (put op place ps) ≤ at_or 0 n (put op place ps)
      later n u c (inl h) = subst (λ k. k ≤ at_or 0 n (put op place ps)) (sym (other (x ∷ xs) b x.0 x.1 (inl (refl, refl)))) (subst (λ k. at_or 0 x.0 ps ≤ k) (sym (other xs c n u h)) (r.0 n u h))
      later n u c (inr e) = subst (λ k. k ≤ at_or 0 n (put op place ps)) (sym (other (x ∷ xs) b x.0 x.1 (inl (refl, refl)))) (subst (λ m. at_or 0 x.0 ps ≤ at_or 0 m (put op place ps)) e.0 (subst (λ k. at_or 0 x.0 ps ≤ k) (sym own) (within x.0)))

-- one more is held, or the memory ran out
pub rising-issued : {A E : Type 0} (r : Result A E) (op place last : ℕ) (u : Update) (ps : Table ℕ) (xs new : Issued) → is_behind op xs ≡ true → AreWithin last ps → last ≤ place → AreRising ps xs → OnOk r (new ≡ xs ++ (op, u) ∷ []) → OnErr r (new ≡ xs) → AreRising (put op place ps) new
rising-issued (Ok a) op place last u ps xs new b w l h ok err = subst (AreRising (put op place ps)) (sym ok) (rising-more op place ps u xs b (λ n. let k = w n in omega (arith, k, l)) h)
rising-issued (Err e) op place last u ps xs new b w l h ok err = subst (AreRising (put op place ps)) (sym err) (rising-put op place ps xs b h)
