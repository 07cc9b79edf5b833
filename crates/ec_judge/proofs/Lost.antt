-- The rules of a loss, by what is carried of the kept operations.
use Rattle.std.proofs.Common.{◌≡◌, refl, sym, ap, subst, ◌∙◌, arith, ℕ, T, Bool, true, false, not, ◌==◌, ◌&&◌, ◌||◌, cond, List, [], ◌∷◌, ◌++◌}
use Rattle.std.specs.Prelude.{MatchBool}
use Rattle.std.specs.List.{filter, list_all, list_any}
use Rattle.std.proofs.lemmas.Bool.{and_parts, and_from, eqb-true, true≢false}
use Rattle.std.proofs.lemmas.Bool.Decides.{nat_tests}
use Rattle.ec_volume.specs.Update.{member}
use Rattle.ec_history.specs.History.{Base, History, Op, Throughout, Each, Covers, of_start, is_one_of, kept}
use Rattle.ec_history.specs.Legal.{leaves, touches_none, is_call_of_other}
use Rattle.ec_history.specs.declared.entry.Entry.{Entry}
use Rattle.ec_judge.specs.declared.carried.Kept.{Kept}
use Rattle.ec_judge.specs.declared.carried.Start.{Start}
use Rattle.ec_judge.specs.Carried.{Known, op_of, ops_of, is_among, IsUncovered, IsUntouched, is_touched, is_covered, IsFlagged}
use Rattle.ec_judge.specs.Faults.{AreUncovered, AreUntouched}
use Rattle.ec_judge.proofs.Numbers.{all-member}
use Rattle.ec_base.proofs.Bools.{both, first as left, right, on as holds, is-true}

-- Kept.

any-of : (p : Op → Bool) (ks : List Kept) → list_any p (ops_of ks) ≡ list_any (λ k. p (op_of k)) ks
any-of p [] = refl
any-of p (k ∷ ks) = ap (λ x. p (op_of k) || x) (any-of p ks)

pub kept-same : (c b : ℕ) (ks : List Kept) (ns : List ℕ) → list_all (λ n. list_any (λ k. is_among c b (n ∷ []) k) ks) ns ≡ list_all (λ n. list_any (is_one_of c b (n ∷ [])) (ops_of ks)) ns
kept-same c b ks [] = refl
kept-same c b ks (n ∷ ns) = ap (λ x. x && list_all (λ n. list_any (λ k. is_among c b (n ∷ []) k) ks) ns) (sym (any-of (is_one_of c b (n ∷ [])) ks)) ∙ ap (λ x. list_any (is_one_of c b (n ∷ [])) (ops_of ks) && x) (kept-same c b ks ns)

-- Facts on each of some numbers.

module _ (P : ℕ → History → ℕ × Entry → Type 0) where
  none-of : (past h : History) → Throughout (λ h e. Each (λ n. P n h e) []) past h
  none-of past [] = tt
  none-of past (e ∷ h) = (tt, none-of (past ++ e ∷ []) h)

  zip-of : (n : ℕ) (ns : List ℕ) (past h : History) → Throughout (P n) past h → Throughout (λ h e. Each (λ m. P m h e) ns) past h → Throughout (λ h e. Each (λ m. P m h e) (n ∷ ns)) past h
  zip-of n ns past [] t u = tt
  zip-of n ns past (e ∷ h) t u = ((t.0, u.0), zip-of n ns (past ++ e ∷ []) h t.1 u.1)

  pub all-of : (ns : List ℕ) (past h : History) → Each (λ n. Throughout (P n) past h) ns → Throughout (λ h e. Each (λ n. P n h e) ns) past h
  all-of [] past h t = none-of past h
  all-of (n ∷ ns) past h t = zip-of n ns past h t.0 (all-of ns past h t.1)

  pub each-pick : (ns : List ℕ) (n : ℕ) (h : History) (e : ℕ × Entry) → Each (λ m. P m h e) ns → T (member n ns) → P n h e
  each-pick [] n h e t m = absurd m
  each-pick (k ∷ ns) n h e t m = go (n == k) refl m (each-pick ns n h e t.1)
    where
      go : (x : Bool) → (n == k) ≡ x → T (x || member n ns) → (T (member n ns) → P n h e) → P n h e
      go true d r f = subst (λ y. P y h e) (sym (eqb-true n k d)) t.0
      go false d r f = f r

  pub one-of : (ns : List ℕ) (n : ℕ) (past h : History) → T (member n ns) → Throughout (λ h e. Each (λ m. P m h e) ns) past h → Throughout (P n) past h
  one-of ns n past [] m t = tt
  one-of ns n past (e ∷ h) m t = (each-pick ns n past e t.0 m, one-of ns n (past ++ e ∷ []) h m t.1)

-- each number of the list has what each member has
pub each-member : (Q : ℕ → Type 0) (ns : List ℕ) → ((n : ℕ) → T (member n ns) → Q n) → Each Q ns
each-member Q [] f = tt
each-member Q (n ∷ ns) f = (f n (here (n == n) (same n)), each-member Q ns (λ m t. f m (there m (m == n) t)))
  where
    same : (m : ℕ) → (m == m) ≡ true
    same m = grind (arith, nat_tests)

    here : (x : Bool) → x ≡ true → T (x || member n ns)
    here x e = holds (ap (λ y. y || member n ns) e)

    there : (m : ℕ) (x : Bool) → T (member m ns) → T (x || member m ns)
    there m true t = tt
    there m false t = t

-- Marks: R of an operation is what its mark denies.
module _ (mark : Kept → Bool) (R : Op → Type 0) (c b : ℕ) (ns : List ℕ) where
  abbrev pub IsMarked : Kept → Type 0
  IsMarked k = MatchBool (mark k) (¬ (R (op_of k))) (R (op_of k))

  abbrev pub unmarked : List Kept → Bool
  unmarked ks = list_all (λ k. not (mark k && is_among c b ns k)) ks

  unmarked-one : (k : Kept) → IsMarked k → T (not (mark k && is_among c b ns k)) → T (is_among c b ns k) → R (op_of k)
  unmarked-one k m t a = go (mark k) (is_among c b ns k) m t a
    where
      go : (x y : Bool) → MatchBool x (¬ (R (op_of k))) (R (op_of k)) → T (not (x && y)) → T y → R (op_of k)
      go true true m t a = absurd t
      go true false m t a = absurd a
      go false y m t a = m

  wider : (k : Kept) (n : ℕ) → T (member n ns) → is_among c b (n ∷ []) k ≡ true → T (is_among c b ns k)
  wider k n m e =
      let parts = and_parts (of_start c b (op_of k)) ((k.number == n) || false) e in
      holds (and_from (of_start c b (op_of k)) (member k.number ns) parts.0 (go (k.number == n) refl parts.1))
    where
      go : (x : Bool) → (k.number == n) ≡ x → (x || false) ≡ true → member k.number ns ≡ true
      go true d r = ap (λ y. member y ns) (eqb-true k.number n d) ∙ is-true (member n ns) m
      go false d r = absurd (true≢false (sym r))

  -- a kept one of these numbers that has no mark
  pub unmarked-number : (ks : List Kept) → Each IsMarked ks → T (unmarked ks) → (n : ℕ) → T (member n ns) → T (list_any (λ k. is_among c b (n ∷ []) k) ks) → (k : Kept) × (R (op_of k)) × (is_among c b (n ∷ []) k ≡ true)
  unmarked-number [] f u n m t = absurd t
  unmarked-number (k ∷ ks) f u n m t = go (is_among c b (n ∷ []) k) refl t (unmarked-number ks f.1 (right (not (mark k && is_among c b ns k)) _ u) n m)
    where
      go : (x : Bool) → is_among c b (n ∷ []) k ≡ x → T (x || list_any (λ k. is_among c b (n ∷ []) k) ks) → (T (list_any (λ k. is_among c b (n ∷ []) k) ks) → (k : Kept) × (R (op_of k)) × (is_among c b (n ∷ []) k ≡ true)) → (k : Kept) × (R (op_of k)) × (is_among c b (n ∷ []) k ≡ true)
      go true e r g = (k, unmarked-one k f.0 (left (not (mark k && is_among c b ns k)) _ u) (wider k n m e), e)
      go false e r g = g r

  pub all-unmarked : (ks : List Kept) → Each IsMarked ks → ((k : Kept) → T (is_among c b ns k) → R (op_of k)) → T (unmarked ks)
  all-unmarked [] f g = tt
  all-unmarked (k ∷ ks) f g = both (not (mark k && is_among c b ns k)) _ (go (mark k) (is_among c b ns k) refl f.0 (g k)) (all-unmarked ks f.1 g)
    where
      go : (x y : Bool) → is_among c b ns k ≡ y → MatchBool x (¬ (R (op_of k))) (R (op_of k)) → (T (is_among c b ns k) → R (op_of k)) → T (not (x && y))
      go true true e m h = absurd (m (h (holds e)))
      go true false e m h = tt
      go false y e m h = tt

  pub number-in : (k : Kept) → T (is_among c b ns k) → (k.clerk ≡ c) × (k.boot ≡ b) × (T (member k.number ns))
  number-in k t =
      let parts = and_parts (of_start c b (op_of k)) (member k.number ns) (is-true _ t) in
      let start = and_parts (c == k.clerk) (b == k.boot) parts.0 in
      (sym (eqb-true c k.clerk start.0), sym (eqb-true b k.boot start.1), holds parts.1)

pub one-number : (c b n : ℕ) (k : Kept) → is_among c b (n ∷ []) k ≡ true → (k.clerk ≡ c) × (k.boot ≡ b) × (k.number ≡ n)
one-number c b n k e =
    let parts = and_parts (of_start c b (op_of k)) ((k.number == n) || false) e in
    let start = and_parts (c == k.clerk) (b == k.boot) parts.0 in
    (sym (eqb-true c k.clerk start.0), sym (eqb-true b k.boot start.1), go (k.number == n) refl parts.1)
  where
    go : (x : Bool) → (k.number == n) ≡ x → (x || false) ≡ true → k.number ≡ n
    go true d r = eqb-true k.number n d
    go false d r = absurd (true≢false (sym r))

-- the marked operations of a list that are all of kept numbers
module _ (base : Base) (past : History) (c b : ℕ) (ns : List ℕ) (ss : List Start) (ts : Known) (ks : List Kept) (flags : Each (IsFlagged base past ss ts) ks) where
  abbrev Uncovered : ℕ → ℕ → ℕ → Type 0
  Uncovered d f n = Throughout (λ h e. ¬ (Covers base h e d f n)) [] past

  abbrev Untouched : ℕ → ℕ → ℕ → Type 0
  Untouched d f n = Throughout (λ h e. T (leaves base (kept base h) d (filter (is_one_of d f (n ∷ [])) (kept base h)) e)) [] past

  covered-marks : (ks : List Kept) → Each (IsFlagged base past ss ts) ks → Each (IsMarked (λ k. is_covered ss k) (IsUncovered base past) c b ns) ks
  covered-marks [] f = tt
  covered-marks (k ∷ ks) f = (f.0.covered, covered-marks ks f.1)

  touched-marks : (ks : List Kept) → Each (IsFlagged base past ss ts) ks → Each (IsMarked (λ k. is_touched ts k) (IsUntouched base past) c b ns) ks
  touched-marks [] f = tt
  touched-marks (k ∷ ks) f = (f.0.touched, touched-marks ks f.1)

  number-kept : T (list_all (λ n. list_any (λ k. is_among c b (n ∷ []) k) ks) ns) → (n : ℕ) → T (member n ns) → T (list_any (λ k. is_among c b (n ∷ []) k) ks)
  number-kept a n m = all-member (λ n. list_any (λ k. is_among c b (n ∷ []) k) ks) ns n a m

  pub uncovered-yes : T (list_all (λ n. list_any (λ k. is_among c b (n ∷ []) k) ks) ns) → list_all (λ k. not (is_covered ss k && is_among c b ns k)) ks ≡ true → AreUncovered base past c b ns
  uncovered-yes a u = all-of (λ n h e. ¬ (Covers base h e c b n)) ns [] past (each-member (λ n. Uncovered c b n) ns (λ n m.
      let found = unmarked-number (λ k. is_covered ss k) (IsUncovered base past) c b ns ks (covered-marks ks flags) (holds u) n m (number-kept a n m) in
      let is = one-number c b n found.0 found.2 in
      subst (λ x. Uncovered c b x) is.2 (subst (λ x. Uncovered c x (found.0).number) is.1 (subst (λ x. Uncovered x (found.0).boot (found.0).number) is.0 found.1))))

  pub uncovered-no : list_all (λ k. not (is_covered ss k && is_among c b ns k)) ks ≡ false → ¬ (AreUncovered base past c b ns)
  uncovered-no u all =
      let none : T (list_all (λ k. not (is_covered ss k && is_among c b ns k)) ks) = all-unmarked (λ k. is_covered ss k) (IsUncovered base past) c b ns ks (covered-marks ks flags) (λ k t.
      let is = number-in (λ k. is_covered ss k) (IsUncovered base past) c b ns k t in
      subst (λ x. Uncovered x k.boot k.number) (sym is.0) (subst (λ x. Uncovered c x k.number) (sym is.1) (one-of (λ n h e. ¬ (Covers base h e c b n)) ns k.number [] past is.2 all))) in
      true≢false (sym (is-true _ none) ∙ u)

  -- What an entry leaves of several operations, and of each.

  or-all : (x : Bool) (p q : Bool) → (T p → T q) → T (x || p) → T (x || q)
  or-all true p q f t = tt
  or-all false p q f t = f t

  narrower : (p : Op → Bool) (n : ℕ) → T (member n ns) → (js : List Op) → T (list_all p (filter (is_one_of c b ns) js)) → T (list_all p (filter (is_one_of c b (n ∷ [])) js))
  narrower p n m [] t = tt
  narrower p n m (j ∷ js) t = go (is_one_of c b (n ∷ []) j) (is_one_of c b ns j) refl refl t (narrower p n m js)
    where
      within : is_one_of c b (n ∷ []) j ≡ true → is_one_of c b ns j ≡ true
      within e =
          let parts = and_parts (of_start c b j) ((j.number == n) || false) e in
          and_from (of_start c b j) (member j.number ns) parts.0 (at (j.number == n) refl parts.1)
        where
          at : (x : Bool) → (j.number == n) ≡ x → (x || false) ≡ true → member j.number ns ≡ true
          at true d r = ap (λ y. member y ns) (eqb-true j.number n d) ∙ is-true (member n ns) m
          at false d r = absurd (true≢false (sym r))

      go : (x y : Bool) → is_one_of c b (n ∷ []) j ≡ x → is_one_of c b ns j ≡ y → T (list_all p (cond y (j ∷ filter (is_one_of c b ns) js) (filter (is_one_of c b ns) js))) → (T (list_all p (filter (is_one_of c b ns) js)) → T (list_all p (filter (is_one_of c b (n ∷ [])) js))) → T (list_all p (cond x (j ∷ filter (is_one_of c b (n ∷ [])) js) (filter (is_one_of c b (n ∷ [])) js)))
      go true true d e t f = both (p j) _ (left (p j) _ t) (f (right (p j) _ t))
      go true false d e t f = absurd (true≢false (sym (within d) ∙ e))
      go false true d e t f = f (right (p j) _ t)
      go false false d e t f = f t

  broader : (p : Op → Bool) (js : List Op) → ((n : ℕ) → T (member n ns) → T (list_all p (filter (is_one_of c b (n ∷ [])) js))) → T (list_all p (filter (is_one_of c b ns) js))
  broader p [] f = tt
  broader p (j ∷ js) f = go (is_one_of c b ns j) refl (broader p js (λ n m. rest-of (is_one_of c b (n ∷ []) j) n (f n m)))
    where
      rest-of : (x : Bool) (n : ℕ) → T (list_all p (cond x (j ∷ filter (is_one_of c b (n ∷ [])) js) (filter (is_one_of c b (n ∷ [])) js))) → T (list_all p (filter (is_one_of c b (n ∷ [])) js))
      rest-of true n t = right (p j) _ t
      rest-of false n t = t

      same : (m : ℕ) → (m == m) ≡ true
      same m = grind (arith, nat_tests)

      own : is_one_of c b ns j ≡ true → T (p j)
      own e =
          let parts = and_parts (of_start c b j) (member j.number ns) e in
          let mine : is_one_of c b (j.number ∷ []) j ≡ true = and_from (of_start c b j) ((j.number == j.number) || false) parts.0 (ap (λ x. x || false) (same j.number)) in
          left (p j) _ (subst (λ x. T (list_all p (cond x (j ∷ filter (is_one_of c b (j.number ∷ [])) js) (filter (is_one_of c b (j.number ∷ [])) js)))) mine (f j.number (holds parts.1)))

      go : (x : Bool) → is_one_of c b ns j ≡ x → T (list_all p (filter (is_one_of c b ns) js)) → T (list_all p (cond x (j ∷ filter (is_one_of c b ns) js) (filter (is_one_of c b ns) js)))
      go true e r = both (p j) _ (own e) r
      go false e r = r

  leaves-one : (h : History) (e : ℕ × Entry) (n : ℕ) → T (member n ns) → T (leaves base (kept base h) c (filter (is_one_of c b ns) (kept base h)) e) → T (leaves base (kept base h) c (filter (is_one_of c b (n ∷ [])) (kept base h)) e)
  leaves-one h e n m t = or-all (not (is_call_of_other c e.1)) _ _ (narrower _ n m (kept base h)) t

  leaves-all : (h : History) (e : ℕ × Entry) → Each (λ n. T (leaves base (kept base h) c (filter (is_one_of c b (n ∷ [])) (kept base h)) e)) ns → T (leaves base (kept base h) c (filter (is_one_of c b ns) (kept base h)) e)
  leaves-all h e t = go (not (is_call_of_other c e.1)) refl
    where
      out : (x : Bool) (y : Bool) → x ≡ false → T (x || y) → T y
      out true y d r = absurd (true≢false d)
      out false y d r = r

      go : (x : Bool) → not (is_call_of_other c e.1) ≡ x → T (x || touches_none base (kept base h) (filter (is_one_of c b ns) (kept base h)) e)
      go true d = tt
      go false d = broader _ (kept base h) (λ n m. out (not (is_call_of_other c e.1)) _ d (each-pick (λ n h e. T (leaves base (kept base h) c (filter (is_one_of c b (n ∷ [])) (kept base h)) e)) ns n h e t m))

  through-map : (P Q : History → ℕ × Entry → Type 0) → ((h : History) (e : ℕ × Entry) → P h e → Q h e) → (g h : History) → Throughout P g h → Throughout Q g h
  through-map P Q f g [] t = tt
  through-map P Q f g (e ∷ h) t = (f g e t.0, through-map P Q f (g ++ e ∷ []) h t.1)

  pub untouched-yes : T (list_all (λ n. list_any (λ k. is_among c b (n ∷ []) k) ks) ns) → list_all (λ k. not (is_touched ts k && is_among c b ns k)) ks ≡ true → AreUntouched base past c b ns
  untouched-yes a u = through-map _ _ (λ h e t. leaves-all h e t) [] past (all-of (λ n h e. T (leaves base (kept base h) c (filter (is_one_of c b (n ∷ [])) (kept base h)) e)) ns [] past (each-member (λ n. Untouched c b n) ns (λ n m.
      let found = unmarked-number (λ k. is_touched ts k) (IsUntouched base past) c b ns ks (touched-marks ks flags) (holds u) n m (number-kept a n m) in
      let is = one-number c b n found.0 found.2 in
      subst (λ x. Untouched c b x) is.2 (subst (λ x. Untouched c x (found.0).number) is.1 (subst (λ x. Untouched x (found.0).boot (found.0).number) is.0 found.1)))))

  pub untouched-no : list_all (λ k. not (is_touched ts k && is_among c b ns k)) ks ≡ false → ¬ (AreUntouched base past c b ns)
  untouched-no u all =
      let none : T (list_all (λ k. not (is_touched ts k && is_among c b ns k)) ks) = all-unmarked (λ k. is_touched ts k) (IsUntouched base past) c b ns ks (touched-marks ks flags) (λ k t.
      let is = number-in (λ k. is_touched ts k) (IsUntouched base past) c b ns k t in
      subst (λ x. Untouched x k.boot k.number) (sym is.0) (subst (λ x. Untouched c x k.number) (sym is.1) (through-map _ _ (λ h e t. leaves-one h e k.number is.2 t) [] past all))) in
      true≢false (sym (is-true _ none) ∙ u)
