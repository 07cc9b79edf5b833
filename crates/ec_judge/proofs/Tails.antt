-- The kept operations from an index on, before which none is lost.
use Rattle.std.proofs.Common.{◌≡◌, refl, sym, ap, subst, ◌∙◌, inl, inr, arith, ◌<◌, ◌≤◌, ◌+◌, ◌-◌, ℕ, T, Bool, true, false, not, ◌==◌, ◌&&◌, ◌||◌, cond, map, List, [], ◌∷◌, ◌++◌, length, take, drop, get_or, append-nil, append_assoc, Option, Some, None}
use Rattle.std.specs.Prelude.{nat_le, reverse, Result, Ok, Err, IfOk, MatchOption}
use Rattle.std.specs.Ordering.{nat_cmp}
use Rattle.std.specs.FinMap.{is_sorted}
use Rattle.std.specs.List.{filter, list_all, list_any}
use Rattle.std.proofs.lemmas.Bool.{and_parts, true≢false, eqb-true}
use Rattle.std.proofs.lemmas.Bool.Decides.{nat_tests}
use Rattle.std.proofs.lemmas.List.{take_all, take-append-drop, length-drop, reverse-append}
use Rattle.std.proofs.lemmas.List.Elements.{filter-append}
use Rattle.std.proofs.lemmas.List.Folds.{list_all-append, list_any-append}
use Rattle.ec_base.specs.SortedLaws.{first, second}
use Rattle.ec_volume.specs.Update.{member}
use Rattle.ec_volume.specs.declared.update.Update.{Update}
use Rattle.ec_order.specs.Order.{Holds, before}
use Rattle.ec_log.specs.OfChains.ClosureLaws.{above-held}
use Rattle.ec_history.specs.History.{Op, of_start, of_issue, is_one_of}
use Rattle.ec_history.specs.Legal.{is_closed}
use Rattle.ec_history.specs.declared.rule.Rule.{Rule}
use Rattle.ec_history.specs.declared.rule.Rule.TheVariants as rule
use Rattle.ec_judge.specs.declared.carried.Kept.{Kept}
use Rattle.ec_judge.proofs.Loops.{cut-at}
use Rattle.ec_judge.specs.Carried.{Known, op_of, ops_of, is_among, is_touched, are_kept, are_uncovered, are_untouched, are_closed, KeepsMarks, BreaksMarks}
use Rattle.ec_base.proofs.Bools.{on as holds, is-true}
use Rattle.ec_order.proofs.OfNumbers.Least.{IsUnder}

-- None of the start's operations before one up to the least number is lost.

module _ (c b : ℕ) where
  in-issue : (ks : List Kept) (k : Kept) (js : List Kept) → of_start c b (op_of k) ≡ true → Holds (of_issue c b (ops_of (ks ++ k ∷ js))) k.number k.update
  in-issue [] k js e = subst (λ x. Holds (map (λ j. (j.number, j.update)) (cond x (op_of k ∷ filter (of_start c b) (ops_of js)) (filter (of_start c b) (ops_of js)))) k.number k.update) (sym e) (inl (refl, refl))
  in-issue (x ∷ ks) k js e = go (of_start c b (op_of x)) (in-issue ks k js e)
    where
      go : (y : Bool) → Holds (of_issue c b (ops_of (ks ++ k ∷ js))) k.number k.update
          → Holds (map (λ j. (j.number, j.update)) (cond y (op_of x ∷ filter (of_start c b) (ops_of (ks ++ k ∷ js))) (filter (of_start c b) (ops_of (ks ++ k ∷ js))))) k.number k.update
      go true h = inr h
      go false h = h

  none-in-front : (ns : List ℕ) (m : ℕ) (ks : List Kept) (k : Kept) (js : List Kept) → IsUnder m ns → of_start c b (op_of k) ≡ true → k.number ≤ m → T (is_sorted nat_cmp (of_issue c b (ops_of (ks ++ k ∷ js)))) → list_any (is_among c b ns) ks ≡ false
  none-in-front ns m [] k js u own l s = refl
  none-in-front ns m (x ∷ ks) k js u own l s = go (of_start c b (op_of x)) s (none-in-front ns m ks k js u own l)
    where
      rest : List (ℕ × Update)
      rest = of_issue c b (ops_of (ks ++ k ∷ js))

      off : x.number < k.number → member x.number ns ≡ false
      off lower = at (member x.number ns) refl
        where
          at : (y : Bool) → member x.number ns ≡ y → y ≡ false
          at false e = refl
          at true e =
              let above = u x.number (holds e) in
              absurd (omega (arith, above, lower, l))

      go : (y : Bool) → T (is_sorted nat_cmp (map (λ j. (j.number, j.update)) (cond y (op_of x ∷ filter (of_start c b) (ops_of (ks ++ k ∷ js))) (filter (of_start c b) (ops_of (ks ++ k ∷ js)))))) → (T (is_sorted nat_cmp (of_issue c b (ops_of (ks ++ k ∷ js)))) → list_any (is_among c b ns) ks ≡ false)
          → ((y && member x.number ns) || list_any (is_among c b ns) ks) ≡ false
      go true t f = ap (λ z. z || list_any (is_among c b ns) ks) (off (above-held x.number rest (first _ _ t) k.number k.update (in-issue ks k js own))) ∙ f (second _ _ t)
      go false t f = f t

  pub none-before : (ns : List ℕ) (m : ℕ) (ks : List Kept) (i : ℕ) (k : Kept) → IsUnder m ns → i < length ks → k ≡ get_or ks i k → (of_start c b (op_of k) && nat_le k.number m) ≡ true → T (is_sorted nat_cmp (of_issue c b (ops_of ks))) → list_any (is_among c b ns) (take i ks) ≡ false
  none-before ns m ks i k u within is e s =
      let parts = and_parts (of_start c b (op_of k)) (nat_le k.number m) e in
      none-in-front ns m (take i ks) k (drop (i + 1) ks) u parts.0 (up k.number m parts.1) (subst (λ l. T (is_sorted nat_cmp (of_issue c b (ops_of l)))) (sym (cut-at ks i k within is)) s)
    where
      up : (x y : ℕ) → nat_le x y ≡ true → x ≤ y
      up x y e = grind (arith, nat_tests, e)

-- a slice from an index on
pub cut-all : (ks : List Kept) (i : ℕ) → take (length ks - i) (drop i ks) ≡ drop i ks
cut-all ks i =
    let rest : length (drop i ks) ≡ length ks - i = length-drop i ks in
    take_all (length ks - i) (drop i ks) (omega (arith, rest))

-- What is asked of all of them is asked of the last ones.

module _ (c b : ℕ) (ns : List ℕ) where
  unnamed : (n : ℕ) (x : Kept) → T (member n ns) → is_among c b ns x ≡ false → is_among c b (n ∷ []) x ≡ false
  unnamed n x m e = go (of_start c b (op_of x)) (x.number == n) refl e
    where
      go : (y z : Bool) → (x.number == n) ≡ z → (y && member x.number ns) ≡ false → (y && (z || false)) ≡ false
      go false z d f = refl
      go true false d f = refl
      go true true d f = sym (is-true _ m) ∙ ap (λ k. member k ns) (sym (eqb-true x.number n d)) ∙ f

  unnamed-all : (n : ℕ) (xs : List Kept) → T (member n ns) → list_any (is_among c b ns) xs ≡ false → list_any (λ k. is_among c b (n ∷ []) k) xs ≡ false
  unnamed-all n [] m e = refl
  unnamed-all n (x ∷ xs) m e = go (is_among c b ns x) refl e (unnamed-all n xs m)
    where
      go : (y : Bool) → is_among c b ns x ≡ y → (y || list_any (is_among c b ns) xs) ≡ false → (list_any (is_among c b ns) xs ≡ false → list_any (λ k. is_among c b (n ∷ []) k) xs ≡ false) → (is_among c b (n ∷ []) x || list_any (λ k. is_among c b (n ∷ []) k) xs) ≡ false
      go true d f r = absurd (true≢false f)
      go false d f r = ap (λ z. z || list_any (λ k. is_among c b (n ∷ []) k) xs) (unnamed n x m d) ∙ r f

  module _ (xs ys : List Kept) (none : list_any (is_among c b ns) xs ≡ false) where
    kept-each : (ms : List ℕ) → ((n : ℕ) → T (member n ms) → T (member n ns)) → are_kept c b ms (xs ++ ys) ≡ are_kept c b ms ys
    kept-each [] f = refl
    kept-each (n ∷ ms) f =
        ap (λ z. z && are_kept c b ms (xs ++ ys)) (list_any-append (λ k. is_among c b (n ∷ []) k) xs ys ∙ ap (λ z. z || list_any (λ k. is_among c b (n ∷ []) k) ys) (unnamed-all n xs (f n (own (n == n) (same n))) none))
        ∙ ap (λ z. list_any (λ k. is_among c b (n ∷ []) k) ys && z) (kept-each ms (λ m t. f m (more m (m == n) t)))
      where
        same : (m : ℕ) → (m == m) ≡ true
        same m = grind (arith, nat_tests)

        own : (z : Bool) → z ≡ true → T (z || member n ms)
        own z e = holds (ap (λ y. y || member n ms) e)

        more : (m : ℕ) (z : Bool) → T (member m ms) → T (z || member m ms)
        more m true t = tt
        more m false t = t

    all-front : (p : Kept → Bool) → ((x : Kept) → is_among c b ns x ≡ false → p x ≡ true) → (zs : List Kept) → list_any (is_among c b ns) zs ≡ false → list_all p zs ≡ true
    all-front p f [] e = refl
    all-front p f (z ∷ zs) e = go (is_among c b ns z) refl e (all-front p f zs)
      where
        go : (y : Bool) → is_among c b ns z ≡ y → (y || list_any (is_among c b ns) zs) ≡ false → (list_any (is_among c b ns) zs ≡ false → list_all p zs ≡ true) → (p z && list_all p zs) ≡ true
        go true d g r = absurd (true≢false g)
        go false d g r = ap (λ w. w && list_all p zs) (f z d) ∙ r g

    all-tail : (p : Kept → Bool) → ((x : Kept) → is_among c b ns x ≡ false → p x ≡ true) → list_all p (xs ++ ys) ≡ list_all p ys
    all-tail p f = list_all-append p xs ys ∙ ap (λ z. z && list_all p ys) (all-front p f xs none)

    ops-append : (zs ws : List Kept) → ops_of (zs ++ ws) ≡ ops_of zs ++ ops_of ws
    ops-append [] ws = refl
    ops-append (z ∷ zs) ws = ap (λ l. op_of z ∷ l) (ops-append zs ws)

    closed-front : (zs : List Kept) → list_any (is_among c b ns) zs ≡ false → is_closed (is_one_of c b ns) (filter (of_start c b) (ops_of (zs ++ ys))) ≡ is_closed (is_one_of c b ns) (filter (of_start c b) (ops_of ys))
    closed-front [] e = refl
    closed-front (z ∷ zs) e = go (is_among c b ns z) refl e (closed-front zs)
      where
        others : List Op
        others = filter (of_start c b) (ops_of (zs ++ ys))

        last : Bool
        last = list_all (λ j. is_one_of c b ns j || not (before z.update j.update)) others

        two : (y : Bool) → is_among c b ns z ≡ false → is_closed (is_one_of c b ns) (cond y (op_of z ∷ others) others) ≡ is_closed (is_one_of c b ns) others
        two true d = ap (λ w. (not w || last) && is_closed (is_one_of c b ns) others) d
        two false d = refl

        go : (y : Bool) → is_among c b ns z ≡ y → (y || list_any (is_among c b ns) zs) ≡ false → (list_any (is_among c b ns) zs ≡ false → is_closed (is_one_of c b ns) others ≡ is_closed (is_one_of c b ns) (filter (of_start c b) (ops_of ys)))
            → is_closed (is_one_of c b ns) (cond (of_start c b (op_of z)) (op_of z ∷ others) others) ≡ is_closed (is_one_of c b ns) (filter (of_start c b) (ops_of ys))
        go true d g r = absurd (true≢false g)
        go false d g r = two (of_start c b (op_of z)) d ∙ r g

    uncovered-one : (ps : List ℕ) (x : Kept) → is_among c b ns x ≡ false → (not (is_among c b ns x) || member x.number ps) ≡ true
    uncovered-one ps x e = ap (λ z. not z || member x.number ps) e

    untouched-one : (ts : Known) (x : Kept) → is_among c b ns x ≡ false → not (is_touched ts x && is_among c b ns x) ≡ true
    untouched-one ts x e = ap (λ z. not (is_touched ts x && z)) e ∙ off (is_touched ts x)
      where
        off : (z : Bool) → not (z && false) ≡ true
        off true = refl
        off false = refl

    kept-tail : are_kept c b ns (xs ++ ys) ≡ are_kept c b ns ys
    kept-tail = kept-each ns (λ n t. t)

    uncovered-tail : (ps : List ℕ) → are_uncovered c b ns ps (xs ++ ys) ≡ are_uncovered c b ns ps ys
    uncovered-tail ps = all-tail (λ k. not (is_among c b ns k) || member k.number ps) (uncovered-one ps)

    untouched-tail : (ts : Known) → are_untouched c b ns ts (xs ++ ys) ≡ are_untouched c b ns ts ys
    untouched-tail ts = all-tail (λ k. not (is_touched ts k && is_among c b ns k)) (untouched-one ts)

    closed-tail : are_closed c b ns (xs ++ ys) ≡ are_closed c b ns ys
    closed-tail = closed-front xs none

    keeps : (ps : List ℕ) (ts : Known) → KeepsMarks c b ns ps ts ys → KeepsMarks c b ns ps ts (xs ++ ys)
    keeps ps ts k = record { kept = kept-tail ∙ k.kept; uncovered = uncovered-tail ps ∙ k.uncovered; untouched = untouched-tail ts ∙ k.untouched; closed = closed-tail ∙ k.closed }

    breaks : (ps : List ℕ) (ts : Known) (r : Rule) → BreaksMarks c b ns ps ts ys r → BreaksMarks c b ns ps ts (xs ++ ys) r
    breaks ps ts rule.Named k = kept-tail ∙ k
    breaks ps ts rule.Covered k = (kept-tail ∙ k.0, uncovered-tail ps ∙ k.1)
    breaks ps ts rule.Touched k = (kept-tail ∙ k.0, uncovered-tail ps ∙ k.1, untouched-tail ts ∙ k.2)
    breaks ps ts rule.Closed k = (kept-tail ∙ k.0, uncovered-tail ps ∙ k.1, untouched-tail ts ∙ k.2, closed-tail ∙ k.3)
    breaks ps ts rule.Shape k = k
    breaks ps ts rule.Number k = k
    breaks ps ts rule.Report k = k
    breaks ps ts rule.Room k = k
    breaks ps ts rule.Reply k = k
    breaks ps ts rule.Fits k = k

    none-of : (zs : List Kept) → list_any (is_among c b ns) zs ≡ false → filter (is_one_of c b ns) (ops_of zs) ≡ []
    none-of [] e = refl
    none-of (z ∷ zs) e = go (is_among c b ns z) refl e (none-of zs)
      where
        go : (y : Bool) → is_among c b ns z ≡ y → (y || list_any (is_among c b ns) zs) ≡ false → (list_any (is_among c b ns) zs ≡ false → filter (is_one_of c b ns) (ops_of zs) ≡ []) → cond (is_among c b ns z) (op_of z ∷ filter (is_one_of c b ns) (ops_of zs)) (filter (is_one_of c b ns) (ops_of zs)) ≡ []
        go true d g r = absurd (true≢false g)
        go false d g r = ap (λ w. cond w (op_of z ∷ filter (is_one_of c b ns) (ops_of zs)) (filter (is_one_of c b ns) (ops_of zs))) d ∙ r g

    lost-tail : filter (is_one_of c b ns) (ops_of (xs ++ ys)) ≡ filter (is_one_of c b ns) (ops_of ys)
    lost-tail = ap (filter (is_one_of c b ns)) (ops-append xs ys) ∙ filter-append (is_one_of c b ns) (ops_of xs) (ops_of ys) ∙ ap (λ l. l ++ filter (is_one_of c b ns) (ops_of ys)) (none-of xs none)

    left-front : (zs : List Kept) → list_any (is_among c b ns) zs ≡ false → filter (λ k. not (is_among c b ns k)) zs ≡ zs
    left-front [] e = refl
    left-front (z ∷ zs) e = go (is_among c b ns z) refl e (left-front zs)
      where
        go : (y : Bool) → is_among c b ns z ≡ y → (y || list_any (is_among c b ns) zs) ≡ false → (list_any (is_among c b ns) zs ≡ false → filter (λ k. not (is_among c b ns k)) zs ≡ zs) → cond (not (is_among c b ns z)) (z ∷ filter (λ k. not (is_among c b ns k)) zs) (filter (λ k. not (is_among c b ns k)) zs) ≡ z ∷ zs
        go true d g r = absurd (true≢false g)
        go false d g r = ap (λ w. cond (not w) (z ∷ filter (λ k. not (is_among c b ns k)) zs) (filter (λ k. not (is_among c b ns k)) zs)) d ∙ ap (λ l. z ∷ l) (r g)

    left-tail : filter (λ k. not (is_among c b ns k)) (xs ++ ys) ≡ xs ++ filter (λ k. not (is_among c b ns k)) ys
    left-tail = filter-append (λ k. not (is_among c b ns k)) xs ys ∙ ap (λ l. l ++ filter (λ k. not (is_among c b ns k)) ys) (left-front xs none)

  module _ (ks : List Kept) (i : ℕ) (none : list_any (is_among c b ns) (take i ks) ≡ false) where
    whole : take i ks ++ drop i ks ≡ ks
    whole = take-append-drop i ks

    pub marks-cut : {E : Type 0} (ys : List Kept) → ys ≡ drop i ks → (ps : List ℕ) (ts : Known) (r : Result (Option Rule) E)
        → IfOk r (λ found. MatchOption found (KeepsMarks c b ns ps ts ys) (λ x. BreaksMarks c b ns ps ts ys x))
        → IfOk r (λ found. MatchOption found (KeepsMarks c b ns ps ts ks) (λ x. BreaksMarks c b ns ps ts ks x))
    marks-cut ys e ps ts (Ok None) h = subst (KeepsMarks c b ns ps ts) whole (keeps (take i ks) (drop i ks) none ps ts (subst (KeepsMarks c b ns ps ts) e h))
    marks-cut ys e ps ts (Ok (Some x)) h = subst (λ l. BreaksMarks c b ns ps ts l x) whole (breaks (take i ks) (drop i ks) none ps ts x (subst (λ l. BreaksMarks c b ns ps ts l x) e h))
    marks-cut ys e ps ts (Err e') h = tt

    pub pairs-tail : filter (is_one_of c b ns) (ops_of (drop i ks)) ≡ filter (is_one_of c b ns) (ops_of ks)
    pairs-tail = sym (ap (λ l. filter (is_one_of c b ns) (ops_of l)) (sym whole) ∙ lost-tail (take i ks) (drop i ks) none)

    pub forget-tail : (left new : List Kept) → reverse left ≡ filter (λ k. not (is_among c b ns k)) (drop i ks) → new ≡ take i ks ++ reverse left → new ≡ filter (λ k. not (is_among c b ns k)) ks
    forget-tail left new h is = is ∙ ap (λ l. take i ks ++ l) h ∙ sym (ap (filter (λ k. not (is_among c b ns k))) (sym whole) ∙ left-tail (take i ks) (drop i ks) none)

-- The last operations are taken out, one by one.

module _ (p : Kept → Bool) (all : List Kept) where
  -- these are left of all, and of those behind them those that pass were taken, from the last on
  pub record Taken (front left : List Kept) : Type 0 where
    pub back : List Kept
    pub parts : front ++ back ≡ all
    pub found : reverse left ≡ filter p back

  pub taken-begins : (left : List Kept) → left ≡ [] → Taken all left
  taken-begins left e = record { back = []; parts = append-nil all; found = ap reverse e }

  module _ (front left : List Kept) (w : Taken front left) where
    module _ (k : Kept) (front' : List Kept) (is : front ≡ front' ++ k ∷ []) where
      parts-next : front' ++ k ∷ w.back ≡ all
      parts-next = sym (append_assoc front' (k ∷ []) w.back) ∙ ap (λ l. l ++ w.back) (sym is) ∙ w.parts

      pub taken-more : p k ≡ true → (left' : List Kept) → left' ≡ left ++ k ∷ [] → Taken front' left'
      taken-more e left' more = record {
        back = k ∷ w.back;
        parts = parts-next;
        found = ap reverse more ∙ reverse-append left (k ∷ []) ∙ ap (λ l. k ∷ l) w.found ∙ sym (ap (λ b. cond b (k ∷ filter p w.back) (filter p w.back)) e);
      }

      pub taken-less : p k ≡ false → Taken front' left
      taken-less e = record { back = k ∷ w.back; parts = parts-next; found = w.found ∙ sym (ap (λ b. cond b (k ∷ filter p w.back) (filter p w.back)) e) }

    take-at : (xs ys : List Kept) → take (length xs) (xs ++ ys) ≡ xs
    take-at [] ys = refl
    take-at (x ∷ xs) ys = ap (λ l. x ∷ l) (take-at xs ys)

    drop-at : (xs ys : List Kept) → drop (length xs) (xs ++ ys) ≡ ys
    drop-at [] ys = refl
    drop-at (x ∷ xs) ys = drop-at xs ys

    pub taken-ends : (i : ℕ) → i ≤ length front → length front ≤ i → (front ≡ take i all) × (reverse left ≡ filter p (drop i all))
    taken-ends i l m =
        let same : length front ≡ i = omega (arith, l, m) in (
          sym (take-at front w.back) ∙ ap (λ n. take n (front ++ w.back)) same ∙ ap (take i) w.parts,
          w.found ∙ ap (filter p) (sym (drop-at front w.back) ∙ ap (λ n. drop n (front ++ w.back)) same ∙ ap (drop i) w.parts),
        )

-- one operation is put behind again
pub back-more : (kept left kept' left' start : List Kept) (k : Kept) → kept ++ reverse left ≡ start → left ≡ left' ++ k ∷ [] → kept' ≡ kept ++ k ∷ [] → kept' ++ reverse left' ≡ start
back-more kept left kept' left' start k h is more =
    ap (λ l. l ++ reverse left') more ∙ append_assoc kept (k ∷ []) (reverse left') ∙ ap (λ l. kept ++ l) (sym (ap reverse is ∙ reverse-append left' (k ∷ []))) ∙ h

pub back-ends : (kept left start : List Kept) → kept ++ reverse left ≡ start → left ≡ [] → kept ≡ start
back-ends kept left start h e = sym (append-nil kept) ∙ ap (λ l. kept ++ reverse l) (sym e) ∙ h
