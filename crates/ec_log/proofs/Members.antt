-- The members of a batch rise, and each is found by itself.
use Rattle.std.proofs.Common.{◌≡◌, ◌<◌, ◌≤◌, ◌+◌, ◌∙◌, refl, sym, ap, subst, arith, ℕ, zero, suc, T, Bool, true, false, cond, List, [], ◌∷◌, ◌++◌, length, take, drop, drop-cons, append-nil, get_or, Option, None, Some}
use Rattle.std.specs.Prelude.{◌==◌, ◌||◌, not, nat_lt, filter}
use Rattle.std.specs.Cmp.{nat_cmp_total, unsigned_ties}
use Rattle.std.specs.List.{list_any, list_all}
use Rattle.std.specs.Ordering.{nat_cmp, is_lt, eq_by_cmp}
use Rattle.std.specs.declared.cmp.Ordering.{Ordering}
use Rattle.std.specs.declared.cmp.Ordering.TheVariants.{Less, Equal, Greater}
use Rattle.std.specs.FinMap.{is_sorted}
use Rattle.std.specs.FinMap.Entries.{below_all, by_order}
use Rattle.std.proofs.lemmas.Bool.{and_parts, and_from, lt-ltb, ltb-true}
use Rattle.std.proofs.lemmas.Bool.Decides.{nat_tests}
use Rattle.std.proofs.lemmas.List.{append_assoc, drop_all}
use Rattle.ec_base.specs.SortedLaws.{first, second, none_below, below_first}
use Rattle.ec_base.specs.Tables.{Table, at, put, without, keys}
use Rattle.ec_volume.specs.Update.{member}
use Rattle.ec_volume.specs.declared.update.Update.{Update}
use Rattle.ec_order.specs.Order.{Issued, needs, closure}
use Rattle.ec_sessions.specs.Limits.{max_batch_ops}
use Rattle.ec_log.specs.Chosen.{all_rise, chosen, new_batch, full_from, closure_in, IsFrontOf}
use Rattle.ec_log.specs.declared.state.Asked.{Asked}
use Rattle.ec_log.specs.declared.state.Pick.{Pick}
use Rattle.ec_log.specs.declared.state.Pick.TheVariants.{Batch, Settled, Behind, Window}
use Rattle.ec_base.specs.SmallLaws.{rises}
use Rattle.ec_base.proofs.Bools.{below}

-- Of rising operations the numbers of a closure rise.

module _ (q : ℕ → Bool) where
  above_closure : (m : ℕ) (xs : Issued) → T (below_all nat_cmp m xs) → list_all (λ k. nat_lt m k) (keys (closure q xs)) ≡ true
  above_closure m [] b = refl
  above_closure m (x ∷ xs) b = go (q x.0 || list_any (λ y. needs x.1 y.1) (closure q xs)) (above_closure m xs (second _ _ b))
    where
      go : (t : Bool) → list_all (λ k. nat_lt m k) (keys (closure q xs)) ≡ true → list_all (λ k. nat_lt m k) (keys (cond t (x ∷ closure q xs) (closure q xs))) ≡ true
      go true r = and_from (nat_lt m x.0) (list_all (λ k. nat_lt m k) (keys (closure q xs))) (lt-ltb m x.0 (below m x.0 (first _ _ b))) r
      go false r = r

  closure_rises : (xs : Issued) → T (is_sorted nat_cmp xs) → rises (keys (closure q xs)) ≡ true
  closure_rises [] s = refl
  closure_rises (x ∷ xs) s = go (q x.0 || list_any (λ y. needs x.1 y.1) (closure q xs)) (closure_rises xs (second _ _ s))
    where
      go : (t : Bool) → rises (keys (closure q xs)) ≡ true → rises (keys (cond t (x ∷ closure q xs) (closure q xs))) ≡ true
      go true r = and_from (list_all (λ k. nat_lt x.0 k) (keys (closure q xs))) (rises (keys (closure q xs))) (above_closure x.0 xs (first _ _ s)) r
      go false r = r

all_front : (p : ℕ → Bool) (k : ℕ) (ns : List ℕ) → list_all p ns ≡ true → list_all p (take k ns) ≡ true
all_front p zero ns h = refl
all_front p (suc k) [] h = refl
all_front p (suc k) (n ∷ ns) h = let e = and_parts (p n) (list_all p ns) h in and_from (p n) (list_all p (take k ns)) e.0 (all_front p k ns e.1)

front_rises : (k : ℕ) (ns : List ℕ) → rises ns ≡ true → rises (take k ns) ≡ true
front_rises zero ns h = refl
front_rises (suc k) [] h = refl
front_rises (suc k) (n ∷ ns) h =
    let e = and_parts (list_all (λ m. nat_lt n m) ns) (rises ns) h in
    and_from (list_all (λ m. nat_lt n m) (take k ns)) (rises (take k ns)) (all_front (λ m. nat_lt n m) k ns e.0) (front_rises k ns e.1)

-- So a new batch rises.

same_ops : {b c : ℕ} {ns ms : List ℕ} → ◌≡◌ {A = Pick} (Batch b ns) (Batch c ms) → ns ≡ ms
same_ops e = cc

no_batch : {X : Type 0} {b : ℕ} {ns : List ℕ} (p : Pick) → ◌≡◌ {A = Pick} (Batch b ns) p → p ≡ Settled → X
no_batch p e s = absurd (apart (e ∙ s))
  where
    apart : {b : ℕ} {ns : List ℕ} → ◌≡◌ {A = Pick} (Batch b ns) Settled → ⊥
    apart e = cc

chosen_ops : (ops ns : List ℕ) (next b : ℕ) (bs : Table (List ℕ)) (behind : Option ℕ) → ◌≡◌ {A = Pick} (Batch b ns) (chosen ops next bs behind) → ns ≡ take max_batch_ops ops
chosen_ops [] ns next b bs behind e = no_batch Settled e refl
chosen_ops (n ∷ rest) ns next b bs (Some c) e = absurd (apart e)
  where
    apart : ◌≡◌ {A = Pick} (Batch b ns) (Behind c) → ⊥
    apart e = cc
chosen_ops (n ∷ rest) ns next b bs None e = go (full_from next bs) e
  where
    go : (o : Option ℕ) → ◌≡◌ {A = Pick} (Batch b ns) (new_batch (n ∷ rest) next o) → ns ≡ take max_batch_ops (n ∷ rest)
    go None e = same_ops e
    go (Some c) e = absurd (apart e)
      where
        apart : ◌≡◌ {A = Pick} (Batch b ns) (Window c) → ⊥
        apart e = cc

pub batch_rises : (a : Asked) (xs : Issued) (ops ns : List ℕ) (next b : ℕ) (bs : Table (List ℕ)) (behind : Option ℕ) → T (is_sorted nat_cmp xs) → IsFrontOf a xs ops → ◌≡◌ {A = Pick} (Batch b ns) (chosen ops next bs behind) → rises ns ≡ true
batch_rises a xs ops ns next b bs behind s f e =
    ap rises (chosen_ops ops ns next b bs behind e ∙ f.first) ∙ front_rises max_batch_ops (keys (closure_in a xs)) (closure_rises _ xs s)

-- Batches that come and go.

pub all_rise_put : (b : ℕ) (ns : List ℕ) (bs : Table (List ℕ)) → rises ns ≡ true → all_rise bs ≡ true → all_rise (put b ns bs) ≡ true
all_rise_put b ns [] r h = and_from (rises ns) true r refl
all_rise_put b ns (c ∷ cs) r h =
    let p = and_parts (rises c.1) (all_rise cs) h in
    go (nat_cmp b c.0) p.0 p.1 (all_rise_put b ns cs r p.1)
  where
    go : (o : Ordering) → rises c.1 ≡ true → all_rise cs ≡ true → all_rise (put b ns cs) ≡ true → all_rise (by_order o ((b, ns) ∷ c ∷ cs) ((c.0, ns) ∷ cs) (c ∷ put b ns cs)) ≡ true
    go Less k l m = and_from (rises ns) (all_rise (c ∷ cs)) r h
    go Equal k l m = and_from (rises ns) (all_rise cs) r l
    go Greater k l m = and_from (rises c.1) (all_rise (put b ns cs)) k m

pub all_rise_without : (b : ℕ) (bs : Table (List ℕ)) → all_rise bs ≡ true → all_rise (without b bs) ≡ true
all_rise_without b [] h = refl
all_rise_without b (c ∷ cs) h = let p = and_parts (rises c.1) (all_rise cs) h in go (not (eq_by_cmp nat_cmp b c.0)) p.0 (all_rise_without b cs p.1)
  where
    go : (t : Bool) → rises c.1 ≡ true → all_rise (without b cs) ≡ true → all_rise (cond t (c ∷ without b cs) (without b cs)) ≡ true
    go true k l = and_from (rises c.1) (all_rise (without b cs)) k l
    go false k l = l

pub found_rises : (b : ℕ) (ns : List ℕ) (bs : Table (List ℕ)) → all_rise bs ≡ true → Some ns ≡ at b bs → rises ns ≡ true
found_rises b ns [] h e = absurd (apart e)
  where
    apart : ◌≡◌ {A = Option (List ℕ)} (Some ns) None → ⊥
    apart e = cc
found_rises b ns (c ∷ cs) h e = let p = and_parts (rises c.1) (all_rise cs) h in go (eq_by_cmp nat_cmp b c.0) e p.0 (found_rises b ns cs p.1)
  where
    same : ◌≡◌ {A = Option (List ℕ)} (Some ns) (Some c.1) → ns ≡ c.1
    same e = cc

    go : (t : Bool) → Some ns ≡ cond t (Some c.1) (at b cs) → rises c.1 ≡ true → (Some ns ≡ at b cs → rises ns ≡ true) → rises ns ≡ true
    go true e k l = ap rises (same e) ∙ k
    go false e k l = l e

-- One by one, those that are found.

abbrev pub with_one : ℕ → Option Update → Issued → Issued
with_one n None rest = rest
with_one n (Some u) rest = (n, u) ∷ rest

abbrev pub found : List ℕ → Issued → Issued
found [] ops = []
found (n ∷ ns) ops = with_one n (at n ops) (found ns ops)

abbrev those : List ℕ → Issued → Issued
those ns ops = filter (λ op. member op.0 ns) ops

none_of : (ops : Issued) → [] ≡ those [] ops
none_of [] = refl
none_of (x ∷ xs) = none_of xs

above_each : (n k : ℕ) (ns : List ℕ) → list_all (λ m. nat_lt n m) ns ≡ true → member k ns ≡ true → n < k
above_each n k [] a m = absurd (subst T (sym m) tt)
above_each n k (j ∷ js) a m = let p = and_parts (nat_lt n j) (list_all (λ i. nat_lt n i) js) a in go (k == j) refl m (ltb-true n j p.0) (above_each n k js p.1)
  where
    go : (t : Bool) → (k == j) ≡ t → (t || member k js) ≡ true → n < j → (member k js ≡ true → n < k) → n < k
    go true e h l r = grind (arith, nat_tests, e, l)
    go false e h l r = r h

module _ (n : ℕ) (ns : List ℕ) (above : list_all (λ m. nat_lt n m) ns ≡ true) where
  is_same : (m : ℕ) → (n == m) ≡ true → n ≡ m
  is_same m e = grind (arith, nat_tests, e)

  turned : (m : ℕ) (t : Bool) → (n == m) ≡ t → (m == n) ≡ t
  turned m true e = grind (arith, nat_tests, e)
  turned m false e = grind (arith, nat_tests, e)

  is_less : (m : ℕ) → n < m → nat_cmp n m ≡ Less
  is_less m l = grind (arith, nat_tests, l)

  both_ways : (m : ℕ) → n < m → n ≡ m → ⊥
  both_ways m l e = omega (arith, l, e)

  one_more : (ops : Issued) → T (is_sorted nat_cmp ops) → with_one n (at n ops) (those ns ops) ≡ those (n ∷ ns) ops
  one_more [] s = refl
  one_more (x ∷ xs) s = ap (λ b. with_one n (cond b (Some x.1) (at n xs)) (those ns (x ∷ xs))) (sym (unsigned_ties n x.0)) ∙ go (n == x.0) refl (member x.0 ns) refl (one_more xs (second _ _ s))
    where
      rest : with_one n (at n xs) (those ns xs) ≡ those (n ∷ ns) xs → at n xs ≡ None → those ns xs ≡ those (n ∷ ns) xs
      rest r e = ap (λ o. with_one n o (those ns xs)) (sym e) ∙ r

      behind : n < x.0 → at n xs ≡ None
      behind l = none_below nat_cmp n xs (second (is_lt (nat_cmp n x.0)) (below_all nat_cmp n xs) (below_first nat_cmp nat_cmp_total n x xs (is_less x.0 l) s))

      here : n ≡ x.0 → at n xs ≡ None
      here e = none_below nat_cmp n xs (subst (λ m. T (below_all nat_cmp m xs)) (sym e) (first (below_all nat_cmp x.0 xs) (is_sorted nat_cmp xs) s))

      go : (b : Bool) → (n == x.0) ≡ b → (t : Bool) → member x.0 ns ≡ t → with_one n (at n xs) (those ns xs) ≡ those (n ∷ ns) xs
          → with_one n (cond b (Some x.1) (at n xs)) (cond t (x ∷ those ns xs) (those ns xs)) ≡ cond (x.0 == n || t) (x ∷ those (n ∷ ns) xs) (those (n ∷ ns) xs)
      go true e true m r = absurd (both_ways x.0 (above_each n x.0 ns above m) (is_same x.0 e))
      go true e false m r =
          ap (λ (k : ℕ). (k, x.1) ∷ those ns xs) (is_same x.0 e)
          ∙ ap (λ l. x ∷ l) (rest r (here (is_same x.0 e)))
          ∙ ap (λ t. cond (t || false) (x ∷ those (n ∷ ns) xs) (those (n ∷ ns) xs)) (sym (turned x.0 true e))
      go false e true m r =
          let l = above_each n x.0 ns above m in
          ap (λ o. with_one n o (x ∷ those ns xs)) (behind l)
          ∙ ap (λ k. x ∷ k) (rest r (behind l))
          ∙ ap (λ t. cond (t || true) (x ∷ those (n ∷ ns) xs) (those (n ∷ ns) xs)) (sym (turned x.0 false e))
      go false e false m r =
          r ∙ ap (λ t. cond (t || false) (x ∷ those (n ∷ ns) xs) (those (n ∷ ns) xs)) (sym (turned x.0 false e))

found_those : (ns : List ℕ) (ops : Issued) → rises ns ≡ true → T (is_sorted nat_cmp ops) → found ns ops ≡ those ns ops
found_those [] ops r s = none_of ops
found_those (n ∷ ns) ops r s =
    let p = and_parts (list_all (λ m. nat_lt n m) ns) (rises ns) r in
    ap (with_one n (at n ops)) (found_those ns ops p.1 s) ∙ one_more n ns p.0 ops s

-- One more member.

module _ (ns : List ℕ) (i n : ℕ) (within : i < length ns) (is : n ≡ get_or ns i n) (ops : Issued) where
  next_one : drop i ns ≡ n ∷ drop (i + 1) ns
  next_one = drop-cons ns i n within ∙ ap (λ y. y ∷ drop (suc i) ns) (sym is) ∙ ap (λ k. n ∷ drop k ns) next_place
    where
      next_place : suc i ≡ i + 1
      next_place = omega arith

  pub found_one : (u : Update) (before after all : Issued) → Some u ≡ at n ops → after ≡ before ++ (n, u) ∷ [] → before ++ found (drop i ns) ops ≡ all → after ++ found (drop (i + 1) ns) ops ≡ all
  found_one u before after all e more h =
      ap (λ l. l ++ found (drop (i + 1) ns) ops) more
      ∙ append_assoc before ((n, u) ∷ []) (found (drop (i + 1) ns) ops)
      ∙ ap (λ o. before ++ with_one n o (found (drop (i + 1) ns) ops)) e
      ∙ ap (λ l. before ++ found l ops) (sym next_one)
      ∙ h

  pub found_no : (before all : Issued) → None ≡ at n ops → before ++ found (drop i ns) ops ≡ all → before ++ found (drop (i + 1) ns) ops ≡ all
  found_no before all e h = ap (λ o. before ++ with_one n o (found (drop (i + 1) ns) ops)) e ∙ ap (λ l. before ++ found l ops) (sym next_one) ∙ h

pub found_all : (ns : List ℕ) (ops before : Issued) (i : ℕ) → length ns ≤ i → rises ns ≡ true → T (is_sorted nat_cmp ops) → before ++ found (drop i ns) ops ≡ found ns ops → before ≡ filter (λ op. member op.0 ns) ops
found_all ns ops before i l r s h = sym (append-nil before) ∙ ap (λ d. before ++ found d ops) (sym (drop_all i ns l)) ∙ h ∙ found_those ns ops r s
