-- Held operations among places of which some are empty.
use Rattle.std.proofs.Common.{◌≡◌, ◌≤◌, ◌<◌, ◌-◌, ◌+◌, ◌∙◌, inl, inr, refl, sym, ap, subst, arith, ℕ, zero, suc, T, Bool, true, false, cond, not, List, [], ◌∷◌, ◌++◌, length, take, drop, append-nil, get_or, set, Option, None, Some}
use Rattle.std.specs.Prelude.{◌==◌, ◌||◌, is_some, nat_lt, filter, slice_get, Result, Ok, Err, MatchResult}
use Rattle.std.specs.Cmp.{nat_cmp_total, unsigned_ties}
use Rattle.std.specs.List.{list_any}
use Rattle.std.specs.List.Sorted.{IsSearchInRange, IsBinarySearchResult}
use Rattle.std.specs.Ordering.{nat_cmp, is_eq, is_lt}
use Rattle.std.specs.FinMap.{is_sorted}
use Rattle.std.specs.FinMap.Entries.{below_all}
use Rattle.std.proofs.lemmas.Bool.{and_from, lt-ltb, true≢false}
use Rattle.std.proofs.lemmas.Bool.Decides.{nat_tests}
use Rattle.std.proofs.lemmas.List.{take-take, take_all, take_more, drop_all}
use Rattle.std.proofs.Math.Seq.{take-append_seam}
use Rattle.std.proofs.lemmas.Option.{get_or_from_slice_get, slice_get_read}
use Rattle.ec_base.specs.SortedLaws.{first, second, both, searched}
use Rattle.ec_base.specs.Tables.{Table, at, keys}
use Rattle.ec_volume.specs.Update.{has_operand}
use Rattle.ec_volume.specs.declared.update.Update.{Update}
use Rattle.ec_volume.specs.declared.update.Update.TheVariants.{Order}
use Rattle.ec_order.specs.Order.{Issued, Holds, needs}
use Rattle.ec_log.specs.OfChains.Chains.{AreLinked, IsAt, IsOne, Places, AreAwaited}
use Rattle.ec_log.specs.OfChains.ClosureLaws.{above-held}
use Rattle.ec_log.specs.OfChains.Front.{Covers}
use Rattle.ec_log.specs.OfChains.Held.{is_behind, settle, first_number}
use Rattle.ec_log.specs.OfChains.SlotLaws.{live-next}
use Rattle.ec_log.specs.OfChains.Slots.{Slots, with_one, live, shown_update, placed, IsThere}
use Rattle.ec_log.specs.OfChains.Walk.{passes, walk}
use Rattle.ec_log.specs.declared.chains.closure.Ask.{Ask}
use Rattle.ec_log.specs.declared.chains.closure.Ask.TheVariants.{Object, Op, All}
use Rattle.ec_log.proofs.OfChains.Fronts.{split, keys-both}
use Rattle.ec_log.proofs.OfChains.Linked.{held-below}
use Rattle.ec_order.proofs.OfNeeded.Needs.{Plain, plain_needs}
use Rattle.ec_log.proofs.OfChains.Places.{no-item, same-item, at-holds, numbered, found-held}

-- The same places.

pub placed-length : (ss : Slots) → length (placed ss) ≡ length ss
placed-length [] = refl
placed-length (s ∷ ss) = ap suc (placed-length ss)

pub placed-take : (k : ℕ) (ss : Slots) → placed (take k ss) ≡ take k (placed ss)
placed-take zero ss = refl
placed-take (suc k) [] = refl
placed-take (suc k) (s ∷ ss) = ap (λ l. (s.0, shown_update s.1) ∷ l) (placed-take k ss)

pub placed-drop : (k : ℕ) (ss : Slots) → placed (drop k ss) ≡ drop k (placed ss)
placed-drop zero ss = refl
placed-drop (suc k) [] = refl
placed-drop (suc k) (s ∷ ss) = placed-drop k ss

pub placed-get : (ss : Slots) (i : ℕ) (x : ℕ × Option Update) → x ≡ get_or ss i x → (x.0, shown_update x.1) ≡ get_or (placed ss) i (x.0, shown_update x.1)
placed-get [] i x e = refl
placed-get (s ∷ ss) zero x e = ap (λ (y : ℕ × Option Update). (y.0, shown_update y.1)) e
placed-get (s ∷ ss) (suc i) x e = placed-get ss i x e

pub placed-has : (obj : ℕ) (ss : Slots) (i : ℕ) (x : ℕ × Option Update) → x ≡ get_or ss i x → has_operand obj (get_or (placed ss) i (x.0, shown_update x.1)).1 ≡ has_operand obj (shown_update (get_or ss i x).1)
placed-has obj ss i x e = ap (λ (y : ℕ × Update). has_operand obj y.1) (sym (placed-get ss i x e)) ∙ ap (λ (y : ℕ × Option Update). has_operand obj (shown_update y.1)) e

pub placed-read : (ss : Slots) (i : ℕ) (x : ℕ × Update) → slice_get (placed ss) i ≡ Some x → (y : ℕ × Option Update) × (slice_get ss i ≡ Some y) × (x ≡ (y.0, shown_update y.1))
placed-read [] i x e = absurd (no-item e)
placed-read (s ∷ ss) zero x e = (s, refl, sym (same-item e))
placed-read (s ∷ ss) (suc i) x e = placed-read ss i x e

pub placed-there : (ss : Slots) (i : ℕ) (y : ℕ × Option Update) → slice_get ss i ≡ Some y → slice_get (placed ss) i ≡ Some (y.0, shown_update y.1)
placed-there [] i y e = absurd (no-item e)
placed-there (s ∷ ss) zero y e = ap (λ (z : ℕ × Option Update). Some (z.0, shown_update z.1)) (same-item e)
placed-there (s ∷ ss) (suc i) y e = placed-there ss i y e

-- Parts.

pub live-both : (xs ys : Slots) → live (xs ++ ys) ≡ live xs ++ live ys
live-both [] ys = refl
live-both (x ∷ xs) ys = go x.1 (live-both xs ys)
  where
    go : (o : Option Update) → live (xs ++ ys) ≡ live xs ++ live ys → with_one x.0 o (live (xs ++ ys)) ≡ with_one x.0 o (live xs) ++ live ys
    go None e = e
    go (Some u) e = ap (λ l. (x.0, u) ∷ l) e

pub live-parts : (k : ℕ) (ss : Slots) → live ss ≡ live (take k ss) ++ live (drop k ss)
live-parts k ss = ap live (split k ss) ∙ live-both (take k ss) (drop k ss)

pub live-behind : (k : ℕ) (ss : Slots) → live (take k ss) ≡ [] → live (drop k ss) ≡ live ss
live-behind k ss e = sym (live-parts k ss ∙ ap (λ l. l ++ live (drop k ss)) e)

pub live-before : (k : ℕ) (ss : Slots) → live (drop k ss) ≡ [] → live (take k ss) ≡ live ss
live-before k ss e = sym (append-nil (live (take k ss))) ∙ sym (live-parts k ss ∙ ap (λ l. live (take k ss) ++ l) e)

none-left : (xs ys : Issued) → xs ++ ys ≡ [] → xs ≡ []
none-left [] ys e = refl
none-left (x ∷ xs) ys e = absurd (apart e)
  where
    apart : ◌≡◌ {A = Issued} (x ∷ xs ++ ys) [] → ⊥
    apart e = cc

pub live-fewer : (j k : ℕ) (ss : Slots) → j ≤ k → live (take k ss) ≡ [] → live (take j ss) ≡ []
live-fewer j k ss l e = ap live (sym (take-take j k ss l)) ∙ none-left (live (take j (take k ss))) (live (drop j (take k ss))) (sym (live-parts j (take k ss)) ∙ e)

-- the next place
pub live-more : (ss : Slots) (i : ℕ) (x : ℕ × Option Update) → i < length ss → x ≡ get_or ss i x → live (take (i + 1) ss) ≡ live (take i ss) ++ with_one x.0 x.1 []
live-more ss i x l is = ap live (take_more ss i x l ∙ ap (λ y. take i ss ++ y ∷ []) (sym is)) ∙ live-both (take i ss) (x ∷ [])

-- What is held is placed, and what is placed on an object is held.

pub live-placed : (ss : Slots) (n : ℕ) (u : Update) → Holds (live ss) n u → Holds (placed ss) n u
live-placed [] n u h = h
live-placed (s ∷ ss) n u h = go s.1 refl (live-placed ss n u) h
  where
    go : (o : Option Update) → s.1 ≡ o → (Holds (live ss) n u → Holds (placed ss) n u) → Holds (with_one s.0 o (live ss)) n u → Holds (placed (s ∷ ss)) n u
    go None e r k = inr (r k)
    go (Some w) e r (inl k) = inl (k.0, ap shown_update e ∙ k.1)
    go (Some w) e r (inr k) = inr (r k)

pub placed-live : (ss : Slots) (n : ℕ) (u : Update) (o : ℕ) → Holds (placed ss) n u → T (has_operand o u) → Holds (live ss) n u
placed-live [] n u o h t = h
placed-live (s ∷ ss) n u o h t = go s.1 h (λ k. placed-live ss n u o k t)
  where
    go : (w : Option Update) → Holds ((s.0, shown_update w) ∷ placed ss) n u → (Holds (placed ss) n u → Holds (live ss) n u) → Holds (with_one s.0 w (live ss)) n u
    go None (inl e) r = absurd (subst (λ v. T (has_operand o v)) (sym e.1) t)
    go None (inr k) r = r k
    go (Some w) (inl e) r = inl e
    go (Some w) (inr k) r = inr (r k)

pub linked-placed : (chains : Table (List ℕ)) (ss : Slots) → AreLinked chains (live ss) → AreLinked chains (placed ss)
linked-placed chains ss l o n u h t = l o n u (placed-live ss n u o h t) t

pub covers-placed : (shared : Table ℕ) (ss : Slots) → Covers shared (live ss) → Covers shared (placed ss)
covers-placed shared ss c n u h e o m = c n u (placed-live ss n u o h m) e o m

below-live : (m : ℕ) (ss : Slots) → T (below_all nat_cmp m (placed ss)) → T (below_all nat_cmp m (live ss))
below-live m [] b = tt
below-live m (s ∷ ss) b = go s.1 (below-live m ss (second _ _ b))
  where
    go : (o : Option Update) → T (below_all nat_cmp m (live ss)) → T (below_all nat_cmp m (with_one s.0 o (live ss)))
    go None r = r
    go (Some u) r = both _ _ (first _ _ b) r

pub sorted-live : (ss : Slots) → T (is_sorted nat_cmp (placed ss)) → T (is_sorted nat_cmp (live ss))
sorted-live [] s = tt
sorted-live (x ∷ xs) s = go x.1 (sorted-live xs (second _ _ s))
  where
    go : (o : Option Update) → T (is_sorted nat_cmp (live xs)) → T (is_sorted nat_cmp (with_one x.0 o (live xs)))
    go None r = r
    go (Some u) r = both _ _ (below-live x.0 xs (first _ _ s)) r

-- Where a search finds an operation.

below-slots : (m : ℕ) (ss : Slots) → T (below_all nat_cmp m (placed ss)) → T (below_all nat_cmp m ss)
below-slots m [] b = tt
below-slots m (s ∷ ss) b = both _ _ (first _ _ b) (below-slots m ss (second _ _ b))

sorted-slots : (ss : Slots) → T (is_sorted nat_cmp (placed ss)) → T (is_sorted nat_cmp ss)
sorted-slots [] s = tt
sorted-slots (x ∷ xs) s = both _ _ (below-slots x.0 xs (first _ _ s)) (sorted-slots xs (second _ _ s))

none-placed : (op : ℕ) (ss : Slots) → at op ss ≡ None → at op (placed ss) ≡ None
none-placed op [] e = refl
none-placed op (s ∷ ss) e = go (is_eq (nat_cmp op s.0)) e (none-placed op ss)
  where
    go : (b : Bool) → cond b (Some s.1) (at op ss) ≡ None → (at op ss ≡ None → at op (placed ss) ≡ None) → cond b (Some (shown_update s.1)) (at op (placed ss)) ≡ None
    go true e r = absurd (no-item (sym e))
    go false e r = r e

pub slotted : (op : ℕ) (held : Slots) (r : Result ℕ ℕ) → T (is_sorted nat_cmp (placed held)) → IsSearchInRange r (length held) → IsBinarySearchResult (λ e. nat_cmp e.0 op) held r
    → MatchResult r (IsAt op (placed held)) (λ _. (u : Update) → Holds (placed held) op u → ⊥)
slotted op held (Ok place) s within ties = (
  subst (λ n. place < n) (sym (placed-length held)) within,
  λ x e.
      let y = placed-read held place x e in
      ap (λ (z : ℕ × Update). z.0) y.2 ∙ numbered (y.0).0 op (ap (λ (z : ℕ × Option Update). nat_cmp z.0 op) (sym (get_or_from_slice_get held place y.0 y.0 y.1)) ∙ ties y.0),
)
slotted op held (Err place) s within parted = λ u h.
    no-item (sym (none-placed op held (searched nat_cmp nat_cmp_total op held (Err place) (sorted-slots held s) within parted).absent) ∙ found-held (placed held) op u s h)

none-held : (op : ℕ) (xs : Issued) → ((u : Update) → Holds xs op u → ⊥) → at op xs ≡ None
none-held op [] f = refl
none-held op (x ∷ xs) f = go (op == x.0) refl ∙ none-held op xs (λ u h. f u (inr h))
  where
    alike : (op == x.0) ≡ true → x.0 ≡ op
    alike e = grind (arith, nat_tests, e)

    go : (b : Bool) → (op == x.0) ≡ b → at op (x ∷ xs) ≡ at op xs
    go true e = absurd (f x.1 (inl (alike e, refl)))
    go false e = ap (λ t. cond t (Some x.1) (at op xs)) (sym (unsigned_ties op x.0) ∙ e)

pub absent-live : (op : ℕ) (held : Slots) → ((u : Update) → Holds (placed held) op u → ⊥) → None ≡ at op (live held)
absent-live op held f = sym (none-held op (live held) (λ u h. f u (live-placed held op u h)))

is-at : (op : ℕ) (x : ℕ × Update) (xs : Issued) → op ≡ x.0 → at op (x ∷ xs) ≡ Some x.1
is-at op x xs e = ap (λ t. cond t (Some x.1) (at op xs)) (sym (unsigned_ties op x.0) ∙ alike e)
  where
    alike : op ≡ x.0 → (op == x.0) ≡ true
    alike e = grind (arith, nat_tests, e)

is-later : (op : ℕ) (x : ℕ × Update) (xs : Issued) → x.0 < op → at op (x ∷ xs) ≡ at op xs
is-later op x xs l = ap (λ t. cond t (Some x.1) (at op xs)) (sym (unsigned_ties op x.0) ∙ other l)
  where
    other : x.0 < op → (op == x.0) ≡ false
    other l = grind (arith, nat_tests, l)

above-placed : (m : ℕ) (ss : Slots) → T (below_all nat_cmp m (placed ss)) → (u : Update) → Holds (live ss) m u → ⊥
above-placed m ss b u h = let l = above-held m (placed ss) b m u (live-placed ss m u h) in omega (arith, l)

number-at : (op : ℕ) (s : ℕ × Option Update) (ss : Slots) → IsAt op (placed (s ∷ ss)) 0 → op ≡ s.0
number-at op s ss p = sym (p.1 (s.0, shown_update s.1) refl)

behind-at : (op : ℕ) (s : ℕ × Option Update) (ss : Slots) (i : ℕ) → T (is_sorted nat_cmp (placed (s ∷ ss))) → IsAt op (placed (s ∷ ss)) (suc i) → IsAt op (placed ss) i × (s.0 < op)
behind-at op s ss i r p =
    let l = p.0 in
    let rest : IsAt op (placed ss) i = (omega (arith, l), λ x e. p.1 x e) in
    (rest, go (item (placed ss) i rest.0))
  where
    item : (xs : Issued) (i : ℕ) → i < length xs → (x : ℕ × Update) × (slice_get xs i ≡ Some x)
    item [] i l = absurd (omega (arith, l))
    item (x ∷ xs) zero l = (x, refl)
    item (x ∷ xs) (suc i) l = item xs i (omega (arith, l))

    go : (x : ℕ × Update) × (slice_get (placed ss) i ≡ Some x) → s.0 < op
    go q = subst (λ n. s.0 < n) (p.1 q.0 q.1) (above-held s.0 (placed ss) (first _ _ r) (q.0).0 (q.0).1 (at-holds (placed ss) i q.0 q.1))

-- what is at its place is what is found
pub live-at : (op : ℕ) (held : Slots) (place : ℕ) (x : ℕ × Option Update) → T (is_sorted nat_cmp (placed held)) → IsAt op (placed held) place → x ≡ get_or held place x → x.1 ≡ at op (live held)
live-at op [] place x s p e = absurd (let l = p.0 in omega (arith, l))
live-at op (y ∷ ys) zero x s p e = ap (λ (z : ℕ × Option Update). z.1) e ∙ go y.1
  where
    go : (o : Option Update) → o ≡ at op (with_one y.0 o (live ys))
    go None = sym (none-held op (live ys) (λ u h. above-placed y.0 ys (first _ _ s) u (subst (λ n. Holds (live ys) n u) (number-at op y ys p) h)))
    go (Some u) = sym (is-at op (y.0, u) (live ys) (number-at op y ys p))
live-at op (y ∷ ys) (suc i) x s p e = let r = behind-at op y ys i s p in live-at op ys i x (second _ _ s) r.0 e ∙ go y.1 r.1
  where
    go : (o : Option Update) → y.0 < op → at op (live ys) ≡ at op (with_one y.0 o (live ys))
    go None l = refl
    go (Some u) l = sym (is-later op (y.0, u) (live ys) l)

pub live-shorter : (ss : Slots) → length (live ss) ≤ length ss
live-shorter [] = omega arith
live-shorter (s ∷ ss) = go s.1 (live-shorter ss)
  where
    go : (o : Option Update) → length (live ss) ≤ length ss → length (with_one s.0 o (live ss)) ≤ length (s ∷ ss)
    go None l = omega (arith, l)
    go (Some u) l = omega (arith, l)

pub placed-last : (held : Slots) (x : ℕ × Option Update) → x ≡ get_or held (length held - 1) x → (x.0, shown_update x.1) ≡ get_or (placed held) (length (placed held) - 1) (x.0, shown_update x.1)
placed-last held x e = subst (λ n. (x.0, shown_update x.1) ≡ get_or (placed held) (n - 1) (x.0, shown_update x.1)) (sym (placed-length held)) (placed-get held (length held - 1) x e)

-- One leaves.

pub stays : (op : ℕ) (xs : Issued) → ((u : Update) → Holds xs op u → ⊥) → settle (op ∷ []) xs ≡ xs
stays op [] f = refl
stays op (x ∷ xs) f = go (x.0 == op) refl ∙ ap (λ l. x ∷ l) (stays op xs (λ u h. f u (inr h)))
  where
    alike : (x.0 == op) ≡ true → x.0 ≡ op
    alike e = grind (arith, nat_tests, e)

    go : (b : Bool) → (x.0 == op) ≡ b → settle (op ∷ []) (x ∷ xs) ≡ x ∷ settle (op ∷ []) xs
    go true e = absurd (f x.1 (inl (alike e, refl)))
    go false e = ap (λ t. cond (not (t || false)) (x ∷ settle (op ∷ []) xs) (settle (op ∷ []) xs)) e

pub absent-stays : (op : ℕ) (held : Slots) → ((u : Update) → Holds (placed held) op u → ⊥) → live held ≡ settle (op ∷ []) (live held)
absent-stays op held f = sym (stays op (live held) (λ u h. f u (live-placed held op u h)))

pub live-left : (op : ℕ) (held : Slots) (place : ℕ) (x : ℕ × Option Update) → T (is_sorted nat_cmp (placed held)) → IsAt op (placed held) place → live (set held place (x.0, None)) ≡ settle (op ∷ []) (live held)
live-left op [] place x s p = absurd (let l = p.0 in omega (arith, l))
live-left op (y ∷ ys) zero x s p = go y.1
  where
    none : (u : Update) → Holds (live ys) op u → ⊥
    none u h = above-placed y.0 ys (first _ _ s) u (subst (λ n. Holds (live ys) n u) (number-at op y ys p) h)

    alike : op ≡ y.0 → (y.0 == op) ≡ true
    alike e = grind (arith, nat_tests, e)

    go : (o : Option Update) → live ys ≡ settle (op ∷ []) (with_one y.0 o (live ys))
    go None = sym (stays op (live ys) none)
    go (Some u) = sym (stays op (live ys) none) ∙ sym (ap (λ t. cond (not (t || false)) ((y.0, u) ∷ settle (op ∷ []) (live ys)) (settle (op ∷ []) (live ys))) (alike (number-at op y ys p)))
live-left op (y ∷ ys) (suc i) x s p = let r = behind-at op y ys i s p in go y.1 r.1 (live-left op ys i x (second _ _ s) r.0)
  where
    other : y.0 < op → (y.0 == op) ≡ false
    other l = grind (arith, nat_tests, l)

    go : (o : Option Update) → y.0 < op → live (set ys i (x.0, None)) ≡ settle (op ∷ []) (live ys) → with_one y.0 o (live (set ys i (x.0, None))) ≡ settle (op ∷ []) (with_one y.0 o (live ys))
    go None l e = e
    go (Some u) l e = ap (λ l. (y.0, u) ∷ l) e ∙ sym (ap (λ t. cond (not (t || false)) ((y.0, u) ∷ settle (op ∷ []) (live ys)) (settle (op ∷ []) (live ys))) (other l))

below-left : (m : ℕ) (ss : Slots) (i : ℕ) (x : ℕ × Option Update) → x.0 ≡ (get_or ss i x).0 → T (below_all nat_cmp m (placed ss)) → T (below_all nat_cmp m (placed (set ss i (x.0, None))))
below-left m [] i x e b = tt
below-left m (s ∷ ss) zero x e b = both _ _ (subst (λ n. T (is_lt (nat_cmp m n))) (sym e) (first _ _ b)) (second _ _ b)
below-left m (s ∷ ss) (suc i) x e b = both _ _ (first _ _ b) (below-left m ss i x e (second _ _ b))

pub sorted-left : (ss : Slots) (i : ℕ) (x : ℕ × Option Update) → x.0 ≡ (get_or ss i x).0 → T (is_sorted nat_cmp (placed ss)) → T (is_sorted nat_cmp (placed (set ss i (x.0, None))))
sorted-left [] i x e s = tt
sorted-left (y ∷ ys) zero x e s = both _ _ (subst (λ n. T (below_all nat_cmp n (placed ys))) (sym e) (first _ _ s)) (second _ _ s)
sorted-left (y ∷ ys) (suc i) x e s = both _ _ (below-left y.0 ys i x e (first _ _ s)) (sorted-left ys i x e (second _ _ s))

-- The places without those that are empty.

pub placed-kept : (ss : Slots) → placed (filter (λ s. is_some s.1) ss) ≡ live ss
placed-kept [] = refl
placed-kept (s ∷ ss) = go s.1 refl (placed-kept ss)
  where
    go : (o : Option Update) → s.1 ≡ o → placed (filter (λ s. is_some s.1) ss) ≡ live ss → placed (cond (is_some o) (s ∷ filter (λ s. is_some s.1) ss) (filter (λ s. is_some s.1) ss)) ≡ with_one s.0 o (live ss)
    go None e r = r
    go (Some u) e r = ap (λ w. (s.0, shown_update w) ∷ placed (filter (λ s. is_some s.1) ss)) e ∙ ap (λ l. (s.0, u) ∷ l) r

pub live-kept : (ss : Slots) → live (filter (λ s. is_some s.1) ss) ≡ live ss
live-kept [] = refl
live-kept (s ∷ ss) = go s.1 refl (live-kept ss)
  where
    go : (o : Option Update) → s.1 ≡ o → live (filter (λ s. is_some s.1) ss) ≡ live ss → live (cond (is_some o) (s ∷ filter (λ s. is_some s.1) ss) (filter (λ s. is_some s.1) ss)) ≡ with_one s.0 o (live ss)
    go None e r = r
    go (Some u) e r = ap (λ w. with_one s.0 w (live (filter (λ s. is_some s.1) ss))) e ∙ ap (λ l. (s.0, u) ∷ l) r

-- Along the places.

pub numbers-none : (held : Slots) (most : ℕ) (ops : List ℕ) → ops ≡ [] → (ops ≡ keys (live (take 0 held))) × (length ops ≤ most)
numbers-none held most ops e = (e, let l = ap length e in omega (arith, l))

module _ (held : Slots) (i : ℕ) (x : ℕ × Option Update) (l : i < length held) (is : x ≡ get_or held i x) where
  pub numbers-more : (b : Bool) → b ≡ is_some x.1 → (ops ops' : List ℕ) → ops ≡ keys (live (take i held)) → ops' ≡ cond b (ops ++ x.0 ∷ []) ops → ops' ≡ keys (live (take (i + 1) held))
  numbers-more b some ops ops' e more = more ∙ go x.1 refl b some ∙ sym (ap keys (live-more held i x l is) ∙ keys-both (live (take i held)) (with_one x.0 x.1 []))
    where
      go : (o : Option Update) → x.1 ≡ o → (b : Bool) → b ≡ is_some o → cond b (ops ++ x.0 ∷ []) ops ≡ keys (live (take i held)) ++ keys (with_one x.0 x.1 [])
      go None f true g = absurd (true≢false g)
      go None f false g = sym (append-nil ops) ∙ ap (λ k. k ++ []) e ∙ sym (ap (λ o. keys (live (take i held)) ++ keys (with_one x.0 o [])) f)
      go (Some u) f true g = ap (λ k. k ++ x.0 ∷ []) e ∙ sym (ap (λ o. keys (live (take i held)) ++ keys (with_one x.0 o [])) f)
      go (Some u) f false g = absurd (true≢false (sym g))

  pub leads-next : is_some x.1 ≡ false → live (take i held) ≡ [] → (i + 1 ≤ length held) × (live (take (i + 1) held) ≡ [])
  leads-next none e = (omega (arith, l), live-more held i x l is ∙ ap (λ k. k ++ with_one x.0 x.1 []) e ∙ go x.1 none)
    where
      go : (o : Option Update) → is_some o ≡ false → with_one x.0 o [] ≡ []
      go None f = refl
      go (Some u) f = absurd (true≢false f)

  -- one that has left is passed over, and one that is held is the first
  pub first-further : is_some x.1 ≡ false → first_number (live (drop i held)) ≡ first_number (live held) → first_number (live (drop (i + 1) held)) ≡ first_number (live held)
  first-further none e = sym (ap first_number (live-next held i x l is) ∙ go x.1 none) ∙ e
    where
      go : (o : Option Update) → is_some o ≡ false → first_number (with_one x.0 o (live (drop (i + 1) held))) ≡ first_number (live (drop (i + 1) held))
      go None f = refl
      go (Some u) f = absurd (true≢false f)

  pub first-here : is_some x.1 ≡ true → first_number (live (drop i held)) ≡ first_number (live held) → Some x.0 ≡ first_number (live held)
  first-here some e = sym (ap first_number (live-next held i x l is) ∙ go x.1 some) ∙ e
    where
      go : (o : Option Update) → is_some o ≡ true → first_number (with_one x.0 o (live (drop (i + 1) held))) ≡ Some x.0
      go None f = absurd (true≢false (sym f))
      go (Some u) f = refl

pub first-ends : (held : Slots) (i : ℕ) → length held ≤ i → first_number (live (drop i held)) ≡ first_number (live held) → None ≡ first_number (live held)
first-ends held i l e = ap (λ k. first_number (live k)) (sym (drop_all i held l)) ∙ e

pub numbers-full : (held : Slots) (i most : ℕ) (ops : List ℕ) → ops ≡ keys (live (take i held)) → length ops ≤ most → most ≤ length ops → ops ≡ take most (keys (live held))
numbers-full held i most ops e few full =
    sym (take-append_seam ops (keys (live (drop i held))))
    ∙ ap (λ k. take k (ops ++ keys (live (drop i held)))) (omega (arith, few, full))
    ∙ ap (take most) (ap (λ k. k ++ keys (live (drop i held))) e ∙ sym (keys-both (live (take i held)) (live (drop i held))) ∙ ap keys (sym (live-parts i held)))

pub numbers-all : (held : Slots) (i most : ℕ) (ops : List ℕ) → ops ≡ keys (live (take i held)) → length ops ≤ most → length held ≤ i → ops ≡ take most (keys (live held))
numbers-all held i most ops e few l =
    sym (take_all most ops few) ∙ ap (take most) (e ∙ ap (λ k. keys (live k)) (take_all i held l))

pub numbers-few : (x most : ℕ) (ops ops' : List ℕ) → length ops < most → ops' ≡ ops ++ x ∷ [] → length ops' ≤ most
numbers-few x most ops ops' l e = let n = ap length e ∙ longer ops in omega (arith, n, l)
  where
    longer : (ns : List ℕ) → length (ns ++ x ∷ []) ≡ length ns + 1
    longer [] = refl
    longer (m ∷ ns) = let r = longer ns in omega (arith, r)

holds-right : (xs ys : Issued) (n : ℕ) (u : Update) → Holds ys n u → Holds (xs ++ ys) n u
holds-right [] ys n u h = h
holds-right (x ∷ xs) ys n u h = inr (holds-right xs ys n u h)

module _ (held : Slots) (op end : ℕ) (some : 0 < end) (l : end ≤ length held) (x : ℕ × Option Update) (is : x ≡ get_or held (end - 1) x) where
  back : end - 1 + 1 ≡ end
  back = omega (arith, some)

  low : end - 1 < length held
  low = omega (arith, some, l)

  pub ends-next : is_behind op (live held) ≡ true → op ≤ x.0 → live (drop end held) ≡ [] → (end - 1 ≤ length held) × (live (drop (end - 1) held) ≡ [])
  ends-next b above e = (omega (arith, l), next ∙ go x.1 refl)
    where
      next : live (drop (end - 1) held) ≡ with_one x.0 x.1 (live (drop end held))
      next = live-next held (end - 1) x low is ∙ ap (λ k. with_one x.0 x.1 (live (drop k held))) back

      both-ways : x.0 < op → ⊥
      both-ways q = omega (arith, q, above)

      go : (o : Option Update) → x.1 ≡ o → with_one x.0 x.1 (live (drop end held)) ≡ []
      go None f = ap (λ o. with_one x.0 o (live (drop end held))) f ∙ e
      go (Some u) f =
          let here : Holds (live (drop (end - 1) held)) x.0 u = subst (λ k. Holds k x.0 u) (sym (next ∙ ap (λ o. with_one x.0 o (live (drop end held))) f)) (inl (refl, refl)) in
          absurd (both-ways (held-below op (live held) b x.0 u (subst (λ k. Holds k x.0 u) (sym (live-parts (end - 1) held)) (holds-right (live (take (end - 1) held)) (live (drop (end - 1) held)) x.0 u here))))

  pub ends-below : T (is_sorted nat_cmp (placed held)) → x.0 < op → is_behind op (placed (take end held)) ≡ true
  ends-below s q =
      ap (λ k. is_behind op (placed (take k held))) (sym back ∙ plus (end - 1))
      ∙ ap (is_behind op) (placed-take (suc (end - 1)) held)
      ∙ front-behind (placed held) (end - 1) (x.0, shown_update x.1) s (placed-there held (end - 1) x (slice_get_read held (length held) (end - 1) x refl low is)) q
    where
      plus : (k : ℕ) → k + 1 ≡ suc k
      plus k = omega arith

      front-behind : (xs : Issued) (k : ℕ) (y : ℕ × Update) → T (is_sorted nat_cmp xs) → slice_get xs k ≡ Some y → y.0 < op → is_behind op (take (suc k) xs) ≡ true
      front-behind [] k y r e q = absurd (no-item e)
      front-behind (z ∷ zs) zero y r e q = and_from (nat_lt z.0 op) true (lt-ltb z.0 op (subst (λ (w : ℕ × Update). w.0 < op) (sym (same-item e)) q)) refl
      front-behind (z ∷ zs) (suc k) y r e q =
          let a = above-held z.0 zs (first _ _ r) y.0 y.1 (at-holds zs k y e) in
          and_from (nat_lt z.0 op) (is_behind op (take (suc k) zs)) (lt-ltb z.0 op (omega (arith, a, q))) (front-behind zs k y (second _ _ r) e q)

-- Walks over the places.

-- none that has left passes
abbrev pub Apart : (ℕ × Update → Bool) → Slots → Type 0
Apart p ss = (i n : ℕ) → slice_get ss i ≡ Some (n, None) → p (n, Order []) ≡ false

left-plain : Plain (Order [])
left-plain = record { is = refl; none = refl; lower = λ y. refl; upper = λ o m xs. refl; wanted = λ o r. refl }

none-needed : (l : Issued) → list_any (λ y. needs (Order []) y.1) l ≡ false
none-needed [] = refl
none-needed (y ∷ ys) = ap (λ b. b || list_any (λ z. needs (Order []) z.1) ys) (plain_needs (Order []) y.1 left-plain) ∙ none-needed ys

module _ (p : ℕ × Update → Bool) where
  apart-rest : (s : ℕ × Option Update) (ss : Slots) → Apart p (s ∷ ss) → Apart p ss
  apart-rest s ss a i n e = a (suc i) n e

  apart-here : (s : ℕ × Option Update) (ss : Slots) → Apart p (s ∷ ss) → s.1 ≡ None → p (s.0, Order []) ≡ false
  apart-here s ss a e = a 0 s.0 (ap (λ o. Some (s.0, o)) e)

  pub walk-live : (ss : Slots) → Apart p ss → walk p (placed ss) ≡ walk p (live ss)
  walk-live [] a = refl
  walk-live (s ∷ ss) a = go s.1 refl (walk-live ss (apart-rest s ss a))
    where
      go : (o : Option Update) → s.1 ≡ o → walk p (placed ss) ≡ walk p (live ss) → walk p ((s.0, shown_update o) ∷ placed ss) ≡ walk p (with_one s.0 o (live ss))
      go (Some u) e r = ap (λ l. cond (p (s.0, u) || list_any (λ y. needs u y.1) l) ((s.0, u) ∷ l) l) r
      go None e r =
          ap (λ b. cond (b || list_any (λ y. needs (Order []) y.1) (walk p (placed ss))) ((s.0, Order []) ∷ walk p (placed ss)) (walk p (placed ss))) (apart-here s ss a e)
          ∙ ap (λ b. cond b ((s.0, Order []) ∷ walk p (placed ss)) (walk p (placed ss))) (none-needed (walk p (placed ss)))
          ∙ r

  pub filter-live : (ss : Slots) → Apart p ss → filter p (placed ss) ≡ filter p (live ss)
  filter-live [] a = refl
  filter-live (s ∷ ss) a = go s.1 refl (filter-live ss (apart-rest s ss a))
    where
      go : (o : Option Update) → s.1 ≡ o → filter p (placed ss) ≡ filter p (live ss) → filter p ((s.0, shown_update o) ∷ placed ss) ≡ filter p (with_one s.0 o (live ss))
      go (Some u) e r = ap (λ l. cond (p (s.0, u)) ((s.0, u) ∷ l) l) r
      go None e r = ap (λ b. cond b ((s.0, Order []) ∷ filter p (placed ss)) (filter p (placed ss))) (apart-here s ss a e) ∙ r

pub object-apart : (obj : ℕ) (ss : Slots) → Apart (passes (Object obj)) ss
object-apart obj ss i n e = refl

op-apart : (op : ℕ) (ss : Slots) (u : Update) → T (is_sorted nat_cmp (placed ss)) → Holds (live ss) op u → Apart (passes (Op op)) ss
op-apart op [] u s h i n e = absurd h
op-apart op (x ∷ xs) u s h zero n e = unlike (subst (λ (y : ℕ × Option Update). y.0 < op) (same-item e) before)
  where
    rest : (o : Option Update) → x.1 ≡ o → o ≡ None → Holds (with_one x.0 o (live xs)) op u → Holds (live xs) op u
    rest None e f k = k
    rest (Some w) e f k = absurd (no-item (sym f))

    before : x.0 < op
    before = above-held x.0 (placed xs) (first _ _ s) op u (live-placed xs op u (rest x.1 refl (ap (λ (y : ℕ × Option Update). y.1) (same-item e)) h))

    unlike : n < op → (n == op) ≡ false
    unlike l = grind (arith, nat_tests, l)
op-apart op (x ∷ xs) u s h (suc i) n e = go x.1 h (λ k. op-apart op xs u (second _ _ s) k i n e)
  where
    unlike : op < n → (n == op) ≡ false
    unlike l = grind (arith, nat_tests, l)

    go : (o : Option Update) → Holds (with_one x.0 o (live xs)) op u → (Holds (live xs) op u → (n == op) ≡ false) → (n == op) ≡ false
    go None k r = r k
    go (Some w) (inl k) r = unlike (subst (λ m. m < n) k.0 (above-held x.0 (placed xs) (first _ _ s) n (Order []) (at-holds (placed xs) i (n, Order []) (placed-there xs i (n, None) e))))
    go (Some w) (inr k) r = r k

pub there-apart : (ask : Ask) (ss : Slots) → T (is_sorted nat_cmp (placed ss)) → IsThere ask ss → Apart (passes ask) ss
there-apart (Object obj) ss s t = object-apart obj ss
there-apart (Op op) ss s t = op-apart op ss t.0 s t.1
there-apart All ss s t = absurd t

pub none-awaits : (held : Issued) (places : Places) → AreAwaited held [] places places
none-awaits held places = record { kept = λ k t. t; within = λ k t. inl t; ahead = λ o t. absurd t }

pub there-one : (ask : Ask) (ss : Slots) → IsThere ask ss → IsOne ask
there-one (Object obj) ss t = tt
there-one (Op op) ss t = tt
there-one All ss t = t
