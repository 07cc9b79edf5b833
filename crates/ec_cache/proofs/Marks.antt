-- What slots that change show.
use Rattle.std.proofs.Common.{◌≡◌, ◌∙◌, ℕ, T, [], ◌∷◌, Option, None, Some, Bool, true, false, filter, refl, sym, ap}
use Rattle.std.specs.declared.cmp.Ordering.{Ordering}
use Rattle.std.specs.declared.cmp.Ordering.TheVariants.{Less, Equal, Greater}
use Rattle.std.specs.Ordering.{nat_cmp}
use Rattle.std.specs.Cmp.{nat_cmp_total}
use Rattle.std.specs.FinMap.Entries.{is_sorted, below_all}
use Rattle.ec_base.specs.Tables.{Table, at, put, without}
use Rattle.ec_base.specs.SortedLaws.{first, second, both, none_below, kept_below, below_tied, below_first}
use Rattle.ec_cache.specs.Marks.{with_mark, marks, joined}
use Rattle.ec_cache.proofs.Order.{without-none}
use Rattle.ec_base.proofs.Bools.{lower}
use Rattle.ec_base.proofs.Numbers.{tied}

module _ {Y : Type 0} where
  pub below-marks : (k : ℕ) (es : Table (Option Y)) → T (below_all nat_cmp k es) → T (below_all nat_cmp k (marks es))
  below-marks k [] h = tt
  below-marks k (e ∷ es) h = go e.1 (below-marks k es (second _ _ h))
    where
      go : (o : Option Y) → T (below_all nat_cmp k (marks es)) → T (below_all nat_cmp k (with_mark e.0 o (marks es)))
      go None rest = rest
      go (Some y) rest = both _ _ (first _ _ h) rest

  put-below : (k : ℕ) (y : Y) (es : Table Y) → T (below_all nat_cmp k es) → put k y es ≡ (k, y) ∷ es
  put-below k y [] h = refl
  put-below k y (e ∷ es) h = let l : nat_cmp k e.0 ≡ Less = lower _ (first _ _ h) in rw l

  -- a mode goes into a slot
  pub marks-put : (k : ℕ) (y : Y) (es : Table (Option Y)) → T (is_sorted nat_cmp es) → marks (put k (Some y) es) ≡ put k y (marks es)
  marks-put k y [] h = refl
  marks-put k y (e ∷ es) h = go (marks-put k y es (second _ _ h)) (nat_cmp k e.0) refl
    where
      under : (o : Option Y) → nat_cmp k e.0 ≡ Greater → marks (put k (Some y) es) ≡ put k y (marks es) → with_mark e.0 o (marks (put k (Some y) es)) ≡ put k y (with_mark e.0 o (marks es))
      under None p rest = rest
      under (Some z) p rest = rw p (ap (λ ts. (e.0, z) ∷ ts) rest)

      here : (o : Option Y) → nat_cmp k e.0 ≡ Equal → (e.0, y) ∷ marks es ≡ put k y (with_mark e.0 o (marks es))
      here None p =
          ap (λ j. (j, y) ∷ marks es) (sym (tied k e.0 p))
          ∙ sym (put-below k y (marks es) (below-marks k es (below_tied nat_cmp nat_cmp_total k e.0 es p (first _ _ h))))
      here (Some z) p = rw p

      go : marks (put k (Some y) es) ≡ put k y (marks es) → (r : Ordering) → nat_cmp k e.0 ≡ r → marks (put k (Some y) (e ∷ es)) ≡ put k y (marks (e ∷ es))
      go rest Less p = rw p (sym (put-below k y (marks (e ∷ es)) (below-marks k (e ∷ es) (below_first nat_cmp nat_cmp_total k e es p h))))
      go rest Equal p = rw p (here e.1 p)
      go rest Greater p = rw p (under e.1 p rest)

  -- nothing is left in a slot, new or old
  pub marks-clear : (k : ℕ) (es : Table (Option Y)) → T (is_sorted nat_cmp es) → marks (put k None es) ≡ without k (marks es)
  marks-clear k [] h = refl
  marks-clear k (e ∷ es) h = go (marks-clear k es (second _ _ h)) (nat_cmp k e.0) refl
    where
      under : (o : Option Y) → nat_cmp k e.0 ≡ Greater → marks (put k None es) ≡ without k (marks es) → with_mark e.0 o (marks (put k None es)) ≡ without k (with_mark e.0 o (marks es))
      under None p rest = rest
      under (Some z) p rest = rw p (ap (λ ts. (e.0, z) ∷ ts) rest)

      here : (o : Option Y) → nat_cmp k e.0 ≡ Equal → marks es ≡ without k (with_mark e.0 o (marks es))
      here None p = sym (kept_below nat_cmp k (marks es) (below-marks k es (below_tied nat_cmp nat_cmp_total k e.0 es p (first _ _ h))))
      here (Some z) p = rw p (sym (kept_below nat_cmp k (marks es) (below-marks k es (below_tied nat_cmp nat_cmp_total k e.0 es p (first _ _ h)))))

      go : marks (put k None es) ≡ without k (marks es) → (r : Ordering) → nat_cmp k e.0 ≡ r → marks (put k None (e ∷ es)) ≡ without k (marks (e ∷ es))
      go rest Less p = rw p (sym (kept_below nat_cmp k (marks (e ∷ es)) (below-marks k (e ∷ es) (below_first nat_cmp nat_cmp_total k e es p h))))
      go rest Equal p = rw p (here e.1 p)
      go rest Greater p = rw p (under e.1 p rest)

  -- only the slots of some ids stay
  pub marks-filter : (p : ℕ → Bool) (es : Table (Option Y)) → marks (filter (λ e. p e.0) es) ≡ filter (λ e. p e.0) (marks es)
  marks-filter p [] = refl
  marks-filter p (e ∷ es) = go (marks-filter p es) (p e.0) refl
    where
      stays : (o : Option Y) → p e.0 ≡ true → marks (filter (λ e. p e.0) es) ≡ filter (λ e. p e.0) (marks es) → with_mark e.0 o (marks (filter (λ e. p e.0) es)) ≡ filter (λ e. p e.0) (with_mark e.0 o (marks es))
      stays None t rest = rest
      stays (Some z) t rest = rw t (ap (λ ts. (e.0, z) ∷ ts) rest)

      goes : (o : Option Y) → p e.0 ≡ false → marks (filter (λ e. p e.0) es) ≡ filter (λ e. p e.0) (marks es) → marks (filter (λ e. p e.0) es) ≡ filter (λ e. p e.0) (with_mark e.0 o (marks es))
      goes None t rest = rest
      goes (Some z) t rest = rw t rest

      go : marks (filter (λ e. p e.0) es) ≡ filter (λ e. p e.0) (marks es) → (b : Bool) → p e.0 ≡ b → marks (filter (λ e. p e.0) (e ∷ es)) ≡ filter (λ e. p e.0) (marks (e ∷ es))
      go rest true t = rw t (stays e.1 t rest)
      go rest false t = rw t (goes e.1 t rest)

  -- what stands in a slot
  pub marks-at : (k : ℕ) (es : Table (Option Y)) → T (is_sorted nat_cmp es) → at k (marks es) ≡ joined (at k es)
  marks-at k [] h = refl
  marks-at k (e ∷ es) h = go (marks-at k es (second _ _ h)) (nat_cmp k e.0) refl
    where
      other : (o : Option Y) (r : Ordering) → nat_cmp k e.0 ≡ r → ¬ (r ≡ Equal) → at k (marks es) ≡ joined (at k es) → at k (with_mark e.0 o (marks es)) ≡ joined (at k es)
      other None r p n rest = rest
      other (Some z) Less p n rest = rw p rest
      other (Some z) Equal p n rest = absurd (n refl)
      other (Some z) Greater p n rest = rw p rest

      here : (o : Option Y) → nat_cmp k e.0 ≡ Equal → at k (with_mark e.0 o (marks es)) ≡ o
      here None p = none_below nat_cmp k (marks es) (below-marks k es (below_tied nat_cmp nat_cmp_total k e.0 es p (first _ _ h)))
      here (Some z) p = rw p

      go : at k (marks es) ≡ joined (at k es) → (r : Ordering) → nat_cmp k e.0 ≡ r → at k (marks (e ∷ es)) ≡ joined (at k (e ∷ es))
      go rest Less p = rw p (other e.1 Less p (λ q. cc) rest)
      go rest Equal p = rw p (here e.1 p)
      go rest Greater p = rw p (other e.1 Greater p (λ q. cc) rest)

  -- an object without a slot has no mode
  pub marks-absent : (k : ℕ) (es : Table (Option Y)) → T (is_sorted nat_cmp es) → at k es ≡ None → marks es ≡ without k (marks es)
  marks-absent k es h none = sym (without-none k (marks es) (marks-at k es h ∙ ap joined none))
