-- The numbers of a start's operations rise in a legal history: of all that it issued, and of those that are kept.
use Rattle.std.proofs.Common.{◌≡◌, sym, ap, subst, ◌∙◌, refl, arith, ◌≤◌, ◌<◌, ℕ, T, Bool, true, false, not, ◌==◌, ◌&&◌, cond, map, List, [], ◌∷◌, ◌++◌, Option, Some, None, append-nil, append_assoc}
use Rattle.std.specs.Ordering.{nat_cmp, is_lt}
use Rattle.std.specs.FinMap.{is_sorted}
use Rattle.std.specs.FinMap.Entries.{below_all}
use Rattle.std.specs.List.{filter}
use Rattle.std.proofs.lemmas.Bool.{and_parts, eqb-true}
use Rattle.std.proofs.lemmas.List.Elements.{filter-append}
use Rattle.ec_base.specs.SortedLaws.{first, second, both}
use Rattle.ec_volume.specs.declared.update.Update.{Update}
use Rattle.ec_order.specs.Order.{Issued}
use Rattle.ec_history.specs.History.{Base, History, Op, Throughout, Each, same_start, of_start, is_one_of, of_issue, outcome, kept, kept_next, issued, issued_by}
use Rattle.ec_history.specs.Legal.{IsLegal, IsLegalNext}
use Rattle.ec_history.specs.declared.entry.Answer.{Answer}
use Rattle.ec_history.specs.declared.entry.Entry.{Entry}
use Rattle.ec_history.specs.declared.entry.Entry.TheVariants as entry
use Rattle.ec_history.proofs.OfLaws.ForPlacing.Cuts.{legal-step}
use Rattle.ec_history.proofs.OfLaws.ForPlacing.More.{kept-step, issued-step}
use Rattle.ec_history.proofs.OfLaws.ForPlacing.Numbers.{count, IsUpTo, issued-up_to, kept-up_to}
use Rattle.ec_order.proofs.OrderLemmas.{below_more}

-- A list of operations whose numbers rise, with one more behind it.

abbrev IsLower : ℕ → ℕ × Update → Type 0
IsLower n x = x.0 < n

sorted-more : (xs : Issued) (y : ℕ × Update) → T (is_sorted nat_cmp xs) → Each (IsLower y.0) xs → T (is_sorted nat_cmp (xs ++ y ∷ []))
sorted-more [] y s h = tt
sorted-more (x ∷ xs) y s h = both _ _ (below_more x.0 xs y (first _ _ s) h.0) (sorted-more xs y (second _ _ s) h.1)

module _ (base : Base) (most : ℕ) where
  module _ (Q : History → Type 0) (more : (past : History) (e : ℕ × Entry) → IsLegal base most past → IsLegalNext base most past e → Q past → Q (past ++ e ∷ [])) where
    steps-from : (past h : History) → IsLegal base most past → Q past → Throughout (IsLegalNext base most) past h → Q (past ++ h)
    steps-from past [] l q t = subst Q (sym (append-nil past)) q
    steps-from past (e ∷ h) l q t = subst Q (append_assoc past (e ∷ []) h) (steps-from (past ++ e ∷ []) h (legal-step base most past e l t.0) (more past e l t.0 q) t.1)

    pub by-steps : Q [] → (h : History) → IsLegal base most h → Q h
    by-steps q h l = steps-from [] h tt q l

  -- a new operation is behind those of its start
  new-number : (past : History) (p c b l g : ℕ) (cl : _) (a : Answer) (n : ℕ) → IsLegalNext base most past (p, entry.Call c b l g cl a (Some n)) → count c b past < n
  new-number past p c b l g cl a n k = omega (arith, k.number)

  module _ (c b : ℕ) where
    all-lower : (m n : ℕ) (ks : List Op) → Each (IsUpTo c b m) ks → m < n → Each (IsLower n) (of_issue c b ks)
    all-lower m n [] u l = tt
    all-lower m n (k ∷ ks) u l = go (of_start c b k) refl (all-lower m n ks u.1 l)
      where
        go : (x : Bool) → of_start c b k ≡ x → Each (IsLower n) (of_issue c b ks) → Each (IsLower n) (map (λ j. (j.number, j.update)) (cond x (k ∷ filter (of_start c b) ks) (filter (of_start c b) ks)))
        go true e r = (omega (arith, u.0 e, l), r)
        go false e r = r

    issue-more : (ks : List Op) (j : Op) (m : ℕ) → T (is_sorted nat_cmp (of_issue c b ks)) → Each (IsUpTo c b m) ks → (of_start c b j ≡ true → m < j.number) → T (is_sorted nat_cmp (of_issue c b (ks ++ j ∷ [])))
    issue-more ks j m s u l = subst (λ x. T (is_sorted nat_cmp x)) (sym (split ks)) (go (of_start c b j) refl)
      where
        pair : Op → ℕ × Update
        pair k = (k.number, k.update)

        map-append : (xs ys : List Op) → map {B = ℕ × Update} (λ k. (k.number, k.update)) (xs ++ ys) ≡ map (λ k. (k.number, k.update)) xs ++ map (λ k. (k.number, k.update)) ys
        map-append [] ys = refl
        map-append (x ∷ xs) ys = ap (λ z. (x.number, x.update) ∷ z) (map-append xs ys)

        split : (xs : List Op) → of_issue c b (xs ++ j ∷ []) ≡ of_issue c b xs ++ of_issue c b (j ∷ [])
        split xs = ap (map (λ k. (k.number, k.update))) (filter-append (of_start c b) xs (j ∷ [])) ∙ map-append (filter (of_start c b) xs) (filter (of_start c b) (j ∷ []))

        go : (x : Bool) → of_start c b j ≡ x → T (is_sorted nat_cmp (of_issue c b ks ++ map (λ k. (k.number, k.update)) (cond x (j ∷ []) [])))
        go true e = sorted-more (of_issue c b ks) (j.number, j.update) s (all-lower m j.number ks u (l e))
        go false e = subst (λ x. T (is_sorted nat_cmp x)) (sym (append-nil (of_issue c b ks))) s

    issue-next : (past : History) (e : ℕ × Entry) → IsLegal base most past → IsLegalNext base most past e → T (is_sorted nat_cmp (of_issue c b (issued base past))) → T (is_sorted nat_cmp (of_issue c b (issued base past ++ issued_by base (kept base past) e)))
    issue-next past (p, entry.Loss d f ns) l k h = subst (λ ks. T (is_sorted nat_cmp (of_issue c b ks))) (sym (append-nil (issued base past))) h
    issue-next past (p, entry.Call d f li g cl a None) l k h = subst (λ ks. T (is_sorted nat_cmp (of_issue c b ks))) (sym (append-nil (issued base past))) h
    issue-next past (p, entry.Call d f li g cl a (Some n)) l k h = go ((outcome base (kept base past) p cl).update)
      where
        own : same_start c b d f ≡ true → count c b past < n
        own e =
            let parts = and_parts (c == d) (b == f) e in
            let same : count c b past ≡ count d f past = ap (λ x. count x b past) (eqb-true c d parts.0) ∙ ap (λ x. count d x past) (eqb-true b f parts.1) in
            omega (arith, k.number, same)

        go : (u : Option Update) → T (is_sorted nat_cmp (of_issue c b (issued base past ++ elim u [ None ↦ [] | Some w ↦ record { clerk = d; boot = f; number = n; place = p; update = w } ∷ [] ])))
        go None = subst (λ ks. T (is_sorted nat_cmp (of_issue c b ks))) (sym (append-nil (issued base past))) h
        go (Some w) = issue-more (issued base past) (record { clerk = d; boot = f; number = n; place = p; update = w }) (count c b past) h (issued-up_to base most c b past l) own

    pub issue-sorted : (h : History) → IsLegal base most h → T (is_sorted nat_cmp (of_issue c b (issued base h)))
    issue-sorted = by-steps (λ h. T (is_sorted nat_cmp (of_issue c b (issued base h)))) (λ past e l k h. subst (λ ks. T (is_sorted nat_cmp (of_issue c b ks))) (sym (issued-step base past e)) (issue-next past e l k h)) tt

    -- The same of those that are kept.

    abbrev pair-of : Op → ℕ × Update
    pair-of k = (k.number, k.update)

    below-filter : (m : ℕ) (q : Op → Bool) (ks : List Op) → T (below_all nat_cmp m (of_issue c b ks)) → T (below_all nat_cmp m (of_issue c b (filter q ks)))
    below-filter m q [] t = t
    below-filter m q (k ∷ ks) t = go (q k) (of_start c b k) refl t (below-filter m q ks)
      where
        own : List Op
        own = filter (of_start c b) ks

        left-own : List Op
        left-own = filter (of_start c b) (filter q ks)

        go : (x y : Bool) → of_start c b k ≡ y → T (below_all nat_cmp m (map pair-of (cond y (k ∷ own) own))) → (T (below_all nat_cmp m (map pair-of own)) → T (below_all nat_cmp m (map pair-of left-own))) → T (below_all nat_cmp m (map pair-of (filter (of_start c b) (cond x (k ∷ filter q ks) (filter q ks)))))
        go true true d u f = subst (λ z. T (below_all nat_cmp m (map pair-of (cond z (k ∷ left-own) left-own)))) (sym d) (both (is_lt (nat_cmp m k.number)) _ (first _ _ u) (f (second _ _ u)))
        go true false d u f = subst (λ z. T (below_all nat_cmp m (map pair-of (cond z (k ∷ left-own) left-own)))) (sym d) (f u)
        go false true d u f = f (second _ _ u)
        go false false d u f = f u

    sorted-filter : (q : Op → Bool) (ks : List Op) → T (is_sorted nat_cmp (of_issue c b ks)) → T (is_sorted nat_cmp (of_issue c b (filter q ks)))
    sorted-filter q [] t = t
    sorted-filter q (k ∷ ks) t = go (q k) (of_start c b k) refl t (sorted-filter q ks)
      where
        own : List Op
        own = filter (of_start c b) ks

        left-own : List Op
        left-own = filter (of_start c b) (filter q ks)

        go : (x y : Bool) → of_start c b k ≡ y → T (is_sorted nat_cmp (map pair-of (cond y (k ∷ own) own))) → (T (is_sorted nat_cmp (map pair-of own)) → T (is_sorted nat_cmp (map pair-of left-own))) → T (is_sorted nat_cmp (map pair-of (filter (of_start c b) (cond x (k ∷ filter q ks) (filter q ks)))))
        go true true d u f = subst (λ z. T (is_sorted nat_cmp (map pair-of (cond z (k ∷ left-own) left-own)))) (sym d) (both (below_all nat_cmp k.number (map pair-of left-own)) _ (below-filter k.number q ks (first _ _ u)) (f (second _ _ u)))
        go true false d u f = subst (λ z. T (is_sorted nat_cmp (map pair-of (cond z (k ∷ left-own) left-own)))) (sym d) (f u)
        go false true d u f = f (second _ _ u)
        go false false d u f = f u

    kept-sorted-next : (past : History) (e : ℕ × Entry) → IsLegal base most past → IsLegalNext base most past e → T (is_sorted nat_cmp (of_issue c b (kept base past))) → T (is_sorted nat_cmp (of_issue c b (kept_next base (kept base past) e)))
    kept-sorted-next past (p, entry.Loss d f ns) l k h = sorted-filter (λ j. not (is_one_of d f ns j)) (kept base past) h
    kept-sorted-next past (p, entry.Call d f li g cl a None) l k h = subst (λ ks. T (is_sorted nat_cmp (of_issue c b ks))) (sym (append-nil (kept base past))) h
    kept-sorted-next past (p, entry.Call d f li g cl a (Some n)) l k h = go ((outcome base (kept base past) p cl).update)
      where
        own : same_start c b d f ≡ true → count c b past < n
        own e =
            let parts = and_parts (c == d) (b == f) e in
            let same : count c b past ≡ count d f past = ap (λ x. count x b past) (eqb-true c d parts.0) ∙ ap (λ x. count d x past) (eqb-true b f parts.1) in
            omega (arith, k.number, same)

        go : (u : Option Update) → T (is_sorted nat_cmp (of_issue c b (kept base past ++ elim u [ None ↦ [] | Some w ↦ record { clerk = d; boot = f; number = n; place = p; update = w } ∷ [] ])))
        go None = subst (λ ks. T (is_sorted nat_cmp (of_issue c b ks))) (sym (append-nil (kept base past))) h
        go (Some w) = issue-more (kept base past) (record { clerk = d; boot = f; number = n; place = p; update = w }) (count c b past) h (kept-up_to base most c b past l) own

    pub kept-sorted : (h : History) → IsLegal base most h → T (is_sorted nat_cmp (of_issue c b (kept base h)))
    kept-sorted = by-steps (λ h. T (is_sorted nat_cmp (of_issue c b (kept base h)))) (λ past e l k h. subst (λ ks. T (is_sorted nat_cmp (of_issue c b ks))) (sym (kept-step base past e)) (kept-sorted-next past e l k h)) tt
