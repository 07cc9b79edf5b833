-- Held operations, with one more behind them and without some.
use Rattle.std.proofs.Common.{◌≡◌, ℕ, Bool, true, false, cond, [], ◌∷◌, ◌++◌}
use Rattle.std.specs.Prelude.{T, nat_lt}
use Rattle.std.specs.Ordering.{nat_cmp}
use Rattle.std.specs.FinMap.{is_sorted}
use Rattle.std.specs.FinMap.Entries.{below_all}
use Rattle.std.specs.List.{filter}
use Rattle.std.proofs.lemmas.Bool.{and_parts, ltb-true}
use Rattle.ec_base.specs.SortedLaws.{first, second, both}
use Rattle.ec_volume.specs.declared.update.Update.{Update}
use Rattle.ec_order.specs.Order.{Issued}
use Rattle.ec_log.specs.OfChains.Held.{is_behind}
use Rattle.ec_order.proofs.OrderLemmas.{below_more}

pub sorted_more : (xs : Issued) (n : ℕ) (u : Update) → T (is_sorted nat_cmp xs) → is_behind n xs ≡ true → T (is_sorted nat_cmp (xs ++ (n, u) ∷ []))
sorted_more [] n u s h = tt
sorted_more (x ∷ xs) n u s h =
    let p = and_parts (nat_lt x.0 n) (is_behind n xs) h in
    both _ _ (below_more x.0 xs (n, u) (first _ _ s) (ltb-true x.0 n p.0)) (sorted_more xs n u (second _ _ s) p.1)

module _ (q : ℕ × Update → Bool) where
  below_part : (m : ℕ) (xs : Issued) → T (below_all nat_cmp m xs) → T (below_all nat_cmp m (filter q xs))
  below_part m [] h = tt
  below_part m (x ∷ xs) h = go (q x) (below_part m xs (second _ _ h))
    where
      go : (b : Bool) → T (below_all nat_cmp m (filter q xs)) → T (below_all nat_cmp m (cond b (x ∷ filter q xs) (filter q xs)))
      go true k = both _ _ (first _ _ h) k
      go false k = k

  pub sorted_part : (xs : Issued) → T (is_sorted nat_cmp xs) → T (is_sorted nat_cmp (filter q xs))
  sorted_part [] h = tt
  sorted_part (x ∷ xs) h = go (q x) (sorted_part xs (second _ _ h))
    where
      go : (b : Bool) → T (is_sorted nat_cmp (filter q xs)) → T (is_sorted nat_cmp (cond b (x ∷ filter q xs) (filter q xs)))
      go true k = both _ _ (below_part x.0 xs (first _ _ h)) k
      go false k = k
