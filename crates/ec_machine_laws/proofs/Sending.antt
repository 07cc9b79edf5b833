-- A new batch sends what was picked.
use Rattle.std.proofs.Common.{◌≡◌, refl, ap, subst, ◌∙◌, inl, inr, arith, ◌<◌, ℕ, zero, suc, T, Bool, true, false, ◌==◌, ◌||◌, cond, List, [], ◌∷◌, take}
use Rattle.std.specs.Ordering.{nat_cmp}
use Rattle.std.specs.FinMap.{is_sorted}
use Rattle.std.specs.FinMap.Entries.{below_all}
use Rattle.std.specs.List.{filter, list_any}
use Rattle.std.proofs.lemmas.Bool.{cases_Bool, eqb-true}
use Rattle.ec_base.specs.Tables.{keys, or_else}
use Rattle.ec_volume.specs.Update.{member}
use Rattle.ec_volume.specs.declared.update.Update.{Update}
use Rattle.ec_order.specs.Order.{Issued, closure, needs}
use Rattle.ec_history.proofs.OfLaws.ForPlacing.Least.{list-part}
use Rattle.ec_log.specs.Log.{asked_for, closure_of, pick, after_pick, batch}
use Rattle.ec_log.specs.declared.state.Asked.{Asked}
use Rattle.ec_log.specs.declared.state.Pick.TheVariants.{Batch}
use Rattle.ec_log.specs.declared.state.LogState.{LogState}
use Rattle.ec_machine_laws.specs.Picks.{IsPicked, Says}
use Rattle.ec_machine_laws.proofs.Holding.{held-by, take-holds, above-holds}
use Rattle.ec_machine_laws.proofs.Picking.{pick-says}
use Rattle.ec_machine_laws.proofs.Batches.{at-put_same}
use Rattle.ec_machine_laws.proofs.Losing.{filter-held}
use Rattle.ec_base.proofs.Numbers.{same-self}
use Rattle.ec_base.proofs.Bools.{first as left, right, on as holds}

none-in : (xs : Issued) → filter (λ y. member y.0 []) xs ≡ []
none-in [] = refl
none-in (x ∷ xs) = none-in xs

module _ (asked : ℕ → Bool) where
  -- the first is below all that follow
  not-later : (x : ℕ × Update) (xs : Issued) (k : ℕ) → T (below_all nat_cmp x.0 xs) → member x.0 (keys (take k (closure asked xs))) ≡ false
  not-later x xs k b = elim (cases_Bool (member x.0 (keys (take k (closure asked xs))))) [
    | inr e ↦ e
    | inl e ↦
        let f = held-by (take k (closure asked xs)) x.0 (holds e) in
        absurd (self x.0 (above-holds x.0 xs b x.0 f.0 (list-part xs asked x.0 f.0 (take-holds k (closure asked xs) x.0 f.0 f.1))))
  ]
    where
      self : (n : ℕ) → n < n → ⊥
      self n h = absurd (omega (arith, h))

  front-again : (xs : Issued) (k : ℕ) → T (is_sorted nat_cmp xs) → filter (λ y. member y.0 (keys (take k (closure asked xs)))) xs ≡ take k (closure asked xs)
  front-again [] zero s = refl
  front-again [] (suc k) s = refl
  front-again (x ∷ xs) k s =
      go (asked x.0 || list_any (λ y. needs x.1 y.1) (closure asked xs)) k (λ j. front-again xs j (right (below_all nat_cmp x.0 xs) (is_sorted nat_cmp xs) s))
    where
      below : T (below_all nat_cmp x.0 xs)
      below = left (below_all nat_cmp x.0 xs) (is_sorted nat_cmp xs) s

      -- the operations that follow have other numbers
      others : (ns : List ℕ) → filter (λ y. y.0 == x.0 || member y.0 ns) xs ≡ filter (λ y. member y.0 ns) xs
      others ns = filter-held (λ y. y.0 == x.0 || member y.0 ns) (λ y. member y.0 ns) xs (λ n u h. ap (λ b. b || member n ns) (apart n (above-holds x.0 xs below n u h)))
        where
          apart : (n : ℕ) → x.0 < n → (n == x.0) ≡ false
          apart n l = elim (cases_Bool (n == x.0)) [ inr e ↦ e | inl e ↦ absurd (omega (arith, l, eqb-true n x.0 e)) ]

      go : (b : Bool) (k : ℕ) → ((j : ℕ) → filter (λ y. member y.0 (keys (take j (closure asked xs)))) xs ≡ take j (closure asked xs))
          → filter (λ y. member y.0 (keys (take k (cond b (x ∷ closure asked xs) (closure asked xs))))) (x ∷ xs) ≡ take k (cond b (x ∷ closure asked xs) (closure asked xs))
      go true zero r = none-in (x ∷ xs)
      go true (suc k) r =
          ap (λ b. cond (b || member x.0 (keys (take k (closure asked xs)))) (x ∷ rest) rest) (same-self x.0)
          ∙ ap (λ ys. x ∷ ys) (others (keys (take k (closure asked xs))) ∙ r k)
        where
          rest : Issued
          rest = filter (λ y. y.0 == x.0 || member y.0 (keys (take k (closure asked xs)))) xs
      go false k r =
          ap (λ b. cond b (x ∷ filter (λ y. member y.0 (keys (take k (closure asked xs)))) xs) (filter (λ y. member y.0 (keys (take k (closure asked xs)))) xs)) (not-later x xs k below)
          ∙ r k

pub picked-sends : (a : Asked) (l : LogState) (b : ℕ) (ns : List ℕ) → T (is_sorted nat_cmp l.undurable) → pick a l ≡ Batch b ns → batch b (after_pick (pick a l) l) ≡ take 64 (closure_of a l)
picked-sends a l b ns s e =
    let p : IsPicked a l b ns = subst (Says a l) e (pick-says a l s) in
    ap (λ q. batch b (after_pick q l)) e
    ∙ ap (λ o. filter (λ op. member op.0 (or_else [] o)) l.undurable) (at-put_same b ns l.batches)
    ∙ ap (λ ms. filter (λ op. member op.0 ms) l.undurable) p.members
    ∙ front-again (λ n. member n (keys (asked_for a l))) l.undurable 64 s
