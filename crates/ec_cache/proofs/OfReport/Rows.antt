-- Mentions by operation and by object.
use Rattle.std.proofs.Common.{◌≡◌, ◌<◌, ◌≤◌, refl, sym, ap, subst, ◌∙◌, arith, ℕ, Bool, true, false, not, ◌&&◌, ◌||◌, cond, List, [], ◌∷◌, ◌++◌, length, map, filter, Option, None, Some, append-nil, take, drop, get_or, drop-cons, add-one, eqb}
use Rattle.std.specs.Prelude.{◌==◌, ◌+◌, T, nat_lt, is_some, OnSome}
use Rattle.std.specs.List.{list_any, list_all, dedup}
use Rattle.std.specs.List.Sorted.{IsStrictlyIncreasing, IsPermutation, IsSorted}
use Rattle.std.specs.Option.{option_map}
use Rattle.std.specs.Ordering.{nat_cmp, is_eq, is_lt, eq_by_cmp}
use Rattle.std.specs.declared.cmp.Ordering.TheVariants.{Less, Equal, Greater}
use Rattle.std.specs.Cmp.{nat_cmp_total, eq_by_cmp_equiv, unsigned_ties}
use Rattle.std.specs.FinMap.{find, put, is_sorted}
use Rattle.std.specs.FinMap.Entries.{below_all, find-put, is_sorted-put, same_entries}
use Rattle.std.proofs.lemmas.Bool.{eqb-true, and_parts, ltb-true}
use Rattle.std.proofs.lemmas.Bool.Decides.{nat_tests}
use Rattle.std.proofs.lemmas.List.{append_assoc, take_more, drop_all}
use Rattle.std.proofs.lemmas.List.Sorted.{Contains-permutation, IsPermutation-sym}
use Rattle.std.proofs.lemmas.List.Kept.{Contains-dedup_nat, Contains-from_dedup}
use Rattle.std.proofs.lemmas.Map.Keys.{IsStrictlyIncreasing-dedup}
use Rattle.ec_base.specs.Sorted as sorted
use Rattle.ec_base.specs.SortedLaws.{first, second, both, none_below, find-without}
use Rattle.ec_base.specs.Tables.{once}
use Rattle.ec_volume.specs.Update.{member}
use Rattle.ec_cache.specs.OfReport.Index.{Rows, ops_of, ops_at, having, HaveSameMentions, is_above, without_object, stripped, gathered, IsDue, AreSeen, fresh}
use Rattle.ec_cache.specs.OfReport.Report.{Owed, pairs_of, owe, clear, due}
use Rattle.ec_cache.specs.OfReport.OwedOrder.{come_behind}
use Rattle.ec_cache.proofs.OfReport.Lists.{fresh_more, fresh-append, member_alike, member-append, member-without, without_absent, without_twice, above_absent, same_rising}
use Rattle.ec_base.proofs.Numbers.{same-number as itself, turned}
use Rattle.ec_base.proofs.Lists.{Above, Rises, rises_from}

-- Maps by number.

tied : (j k : ℕ) → eq_by_cmp nat_cmp j k ≡ true → j ≡ k
tied j k e = eqb-true j k (unsigned_ties j k ∙ e)

exact : (j k : ℕ) → nat_cmp j k ≡ Equal → j ≡ k
exact j k e = tied j k (ap is_eq e)

module _ {X : Type 0} (j k : ℕ) where
  pub found-put : (x : X) (es : List (ℕ × X)) → find nat_cmp j (put nat_cmp k x es) ≡ cond (j == k) (Some x) (find nat_cmp j es)
  found-put x es = find-put nat_cmp nat_cmp_total j k x es ∙ ap (λ b. cond b (Some x) (find nat_cmp j es)) (sym (unsigned_ties j k))

  pub found-without : (es : List (ℕ × X)) → find nat_cmp j (sorted.without nat_cmp k es) ≡ cond (j == k) None (find nat_cmp j es)
  found-without es = find-without nat_cmp nat_cmp_total j k es ∙ ap (λ b. cond b None (find nat_cmp j es)) ((eq_by_cmp_equiv nat_cmp_total).symm k j ∙ sym (unsigned_ties j k))

-- One more operation on an object.

pub ops_taken : (obj : ℕ) (e r : List ℕ) (old new : Rows) (was : Option (List ℕ)) → was ≡ Some r → OnSome was (new ≡ put nat_cmp obj e old) → (x : ℕ) → (x == obj) ≡ false → ops_at x new ≡ ops_at x old
ops_taken obj e r old new was is took x other =
    let put_is : new ≡ put nat_cmp obj e old = subst (λ o. OnSome o (new ≡ put nat_cmp obj e old)) is took in
    ap (ops_at x) put_is ∙ ap ops_of (found-put x obj e old) ∙ ap (λ b. ops_of (cond b (Some e) (find nat_cmp x old))) other

pub op_noted : (op obj : ℕ) (ops : List ℕ) (old middle new : Rows) → ops ≡ ops_at obj old ++ op ∷ [] → ((x : ℕ) → (x == obj) ≡ false → ops_at x middle ≡ ops_at x old) → new ≡ put nat_cmp obj ops middle
    → (x : ℕ) → ops_at x new ≡ cond (x == obj) (ops_at x old ++ op ∷ []) (ops_at x old)
op_noted op obj ops old middle new more others is x = ap (ops_at x) is ∙ ap ops_of (found-put x obj ops middle) ∙ go (x == obj) refl
  where
    go : (b : Bool) → (x == obj) ≡ b → ops_of (cond b (Some ops) (find nat_cmp x middle)) ≡ cond b (ops_at x old ++ op ∷ []) (ops_at x old)
    go true e = more ∙ ap (λ y. ops_at y old ++ op ∷ []) (sym (eqb-true x obj e))
    go false e = others x e

-- An operation above all that are owed.

-- each key is this number or a greater one
abbrev High : ℕ → Rows → Type 0
High n [] = Unit {0}
High n (r ∷ rs) = (n ≤ r.0) × High n rs

high_from : (n k : ℕ) (rs : Rows) → n ≤ k → T (below_all nat_cmp k rs) → High n rs
high_from n k [] le h = tt
high_from n k (r ∷ rs) le h = (omega (arith, le, lower (first _ _ h)), high_from n k rs le (second _ _ h))
  where
    lower : T (is_lt (nat_cmp k r.0)) → k < r.0
    lower l = grind (arith, nat_tests, l)

all_front : (op : ℕ) (xs ys : Owed) → list_all (λ q. nat_lt q.0 op) (xs ++ ys) ≡ true → (list_all (λ q. nat_lt q.0 op) xs ≡ true) × (list_all (λ q. nat_lt q.0 op) ys ≡ true)
all_front op [] ys h = (refl, h)
all_front op (x ∷ xs) ys h =
    let p = and_parts (nat_lt x.0 op) (list_all (λ q. nat_lt q.0 op) (xs ++ ys)) h in
    let r = all_front op xs ys p.1 in
    (grind (arith, p.0, r.0), r.1)

-- rows at or above the operation have no mention
no_mention : (op n : ℕ) (os : List ℕ) → op ≤ n → list_all (λ (q : ℕ × ℕ). nat_lt q.0 op) (map (λ x. (n, x)) os) ≡ true → os ≡ []
no_mention op n [] le h = refl
no_mention op n (o ∷ os) le h = absurd (omega (arith, le, ltb-true n op (and_parts (nat_lt n op) (list_all (λ (q : ℕ × ℕ). nat_lt q.0 op) (map (λ x. (n, x)) os)) h).0))

high_empty : (op : ℕ) (rs : Rows) → High op rs → is_above op rs ≡ true → (pairs_of rs ≡ []) × ((y : ℕ) → having y rs ≡ [])
high_empty op [] h a = (refl, λ y. refl)
high_empty op (r ∷ rs) h a =
    let p = all_front op (map (λ x. (r.0, x)) r.1) (pairs_of rs) a in
    let none = no_mention op r.0 r.1 h.0 p.0 in
    let later = high_empty op rs h.1 p.1 in
    (ap (λ os. map (λ x. (r.0, x)) os ++ pairs_of rs) none ∙ later.0, λ y. ap (λ os. cond (member y os) (r.0 ∷ having y rs) (having y rs)) none ∙ later.1 y)

pub put_above : (op : ℕ) (objs : List ℕ) (rs : Rows) → T (is_sorted nat_cmp rs) → is_above op rs ≡ true
    → (pairs_of (put nat_cmp op objs rs) ≡ pairs_of rs ++ map (λ x. (op, x)) objs) × ((y : ℕ) → having y (put nat_cmp op objs rs) ≡ having y rs ++ cond (member y objs) (op ∷ []) [])
put_above op objs [] h a = (append-nil (map (λ x. (op, x)) objs), λ y. refl)
put_above op objs (r ∷ rs) h a =
    elim (nat_cmp op r.0) as (λ o. nat_cmp op r.0 ≡ o → (pairs_of (put nat_cmp op objs (r ∷ rs)) ≡ pairs_of (r ∷ rs) ++ map (λ x. (op, x)) objs) × ((y : ℕ) → having y (put nat_cmp op objs (r ∷ rs)) ≡ having y (r ∷ rs) ++ cond (member y objs) (op ∷ []) [])) [
      | Less ↦ λ p.
          let le : op ≤ r.0 = grind (arith, nat_tests, p) in
          let none = high_empty op (r ∷ rs) (le, high_from op r.0 rs le (first _ _ h)) a in
          rw p (
            ap (λ l. map (λ x. (op, x)) objs ++ l) none.0 ∙ append-nil (map (λ x. (op, x)) objs) ∙ ap (λ l. l ++ map (λ x. (op, x)) objs) (sym none.0),
            λ y. ap (λ l. cond (member y objs) (op ∷ l) l) (none.1 y) ∙ ap (λ l. l ++ cond (member y objs) (op ∷ []) []) (sym (none.1 y)),
          )
      | Equal ↦ λ p.
          let same : op ≡ r.0 = exact op r.0 p in
          let le : op ≤ r.0 = omega (arith, same) in
          let none = high_empty op (r ∷ rs) (le, high_from op r.0 rs le (first _ _ h)) a in
          let later = high_empty op rs (high_from op r.0 rs le (first _ _ h)) (all_front op (map (λ x. (r.0, x)) r.1) (pairs_of rs) a).1 in
          rw p (
            ap (λ l. map (λ x. (r.0, x)) objs ++ l) later.0 ∙ append-nil (map (λ x. (r.0, x)) objs) ∙ ap (λ n. map (λ x. (n, x)) objs) (sym same) ∙ ap (λ l. l ++ map (λ x. (op, x)) objs) (sym none.0),
            λ y. ap (λ l. cond (member y objs) (r.0 ∷ l) l) (later.1 y) ∙ ap (λ n. cond (member y objs) (n ∷ []) []) (sym same) ∙ ap (λ l. l ++ cond (member y objs) (op ∷ []) []) (sym (none.1 y)),
          )
      | Greater ↦ λ p.
          let rest = put_above op objs rs (second _ _ h) (all_front op (map (λ x. (r.0, x)) r.1) (pairs_of rs) a).1 in
          rw p (
            ap (λ l. map (λ x. (r.0, x)) r.1 ++ l) rest.0 ∙ sym (append_assoc (map (λ x. (r.0, x)) r.1) (pairs_of rs) (map (λ x. (op, x)) objs)),
            λ y. ap (λ l. cond (member y r.1) (r.0 ∷ l) l) (rest.1 y) ∙ split (member y r.1) r.0 (having y rs) (cond (member y objs) (op ∷ []) []),
          )
    ] refl
  where
    split : (b : Bool) (n : ℕ) (xs ys : List ℕ) → cond b (n ∷ (xs ++ ys)) (xs ++ ys) ≡ cond b (n ∷ xs) xs ++ ys
    split true n xs ys = refl
    split false n xs ys = refl

pub agrees_added : (op : ℕ) (objs : List ℕ) (rows places rows' places' : Rows) → HaveSameMentions rows places → is_above op rows ≡ true → rows' ≡ put nat_cmp op objs rows
    → ((x : ℕ) → ops_at x places' ≡ ops_at x places ++ cond (member x objs) (op ∷ []) []) → HaveSameMentions rows' places'
agrees_added op objs rows places rows' places' agrees above is noted = record {
  rising = subst (λ l. T (is_sorted nat_cmp l)) (sym is) (is_sorted-put nat_cmp nat_cmp_total op objs rows agrees.rising);
  alike = λ x. noted x ∙ ap (λ l. l ++ cond (member x objs) (op ∷ []) []) (agrees.alike x) ∙ sym ((put_above op objs rows agrees.rising above).1 x) ∙ ap (having x) (sym is);
}

-- An object forgotten.

-- which operations have the object
member-having : (x n : ℕ) (rs : Rows) → T (is_sorted nat_cmp rs) → member n (having x rs) ≡ member x (ops_of (find nat_cmp n rs))
member-having x n [] h = refl
member-having x n (r ∷ rs) h = go (n == r.0) refl (member x r.1) refl (member-having x n rs (second _ _ h))
  where
    go : (a : Bool) → (n == r.0) ≡ a → (b : Bool) → member x r.1 ≡ b → member n (having x rs) ≡ member x (ops_of (find nat_cmp n rs))
        → member n (cond (member x r.1) (r.0 ∷ having x rs) (having x rs)) ≡ member x (ops_of (cond (eq_by_cmp nat_cmp n r.0) (Some r.1) (find nat_cmp n rs)))
    go true p true q rest = ap (λ c. member n (cond c (r.0 ∷ having x rs) (having x rs))) q ∙ ap (λ c. c || member n (having x rs)) p ∙ sym (ap (λ c. member x (ops_of (cond c (Some r.1) (find nat_cmp n rs)))) (sym (unsigned_ties n r.0) ∙ p) ∙ q)
    go true p false q rest =
        let gone : find nat_cmp n rs ≡ None = ap (λ m. find nat_cmp m rs) (eqb-true n r.0 p) ∙ none_below nat_cmp r.0 rs (first _ _ h) in
        ap (λ c. member n (cond c (r.0 ∷ having x rs) (having x rs))) q ∙ rest ∙ ap (λ o. member x (ops_of o)) gone ∙ sym (ap (λ c. member x (ops_of (cond c (Some r.1) (find nat_cmp n rs)))) (sym (unsigned_ties n r.0) ∙ p) ∙ q)
    go false p b q rest = front b q ∙ rest ∙ sym (ap (λ c. member x (ops_of (cond c (Some r.1) (find nat_cmp n rs)))) (sym (unsigned_ties n r.0) ∙ p))
      where
        front : (b : Bool) → member x r.1 ≡ b → member n (cond (member x r.1) (r.0 ∷ having x rs) (having x rs)) ≡ member n (having x rs)
        front true q = ap (λ c. member n (cond c (r.0 ∷ having x rs) (having x rs))) q ∙ ap (λ c. c || member n (having x rs)) p
        front false q = ap (λ c. member n (cond c (r.0 ∷ having x rs) (having x rs))) q

found-stripped : (x n : ℕ) (rs : Rows) → find nat_cmp n (stripped x rs) ≡ option_map (without_object x) (find nat_cmp n rs)
found-stripped x n [] = refl
found-stripped x n (r ∷ rs) = go (eq_by_cmp nat_cmp n r.0) (found-stripped x n rs)
  where
    go : (b : Bool) → find nat_cmp n (stripped x rs) ≡ option_map (without_object x) (find nat_cmp n rs) → cond b (Some (without_object x r.1)) (find nat_cmp n (stripped x rs)) ≡ option_map (without_object x) (cond b (Some r.1) (find nat_cmp n rs))
    go true e = refl
    go false e = e

sorted-stripped : (x : ℕ) (rs : Rows) → T (is_sorted nat_cmp rs) → T (is_sorted nat_cmp (stripped x rs))
sorted-stripped x [] h = tt
sorted-stripped x (r ∷ rs) h = both _ _ (below r.0 rs (first _ _ h)) (sorted-stripped x rs (second _ _ h))
  where
    below : (k : ℕ) (l : Rows) → T (below_all nat_cmp k l) → T (below_all nat_cmp k (stripped x l))
    below k [] h = tt
    below k (q ∷ qs) h = both _ _ (first _ _ h) (below k qs (second _ _ h))

-- the rows of these operations have lost the object
pub Stripping : ℕ → List ℕ → Rows → Rows → Type 0
Stripping x ops old new = (n : ℕ) → find nat_cmp n new ≡ option_map (λ os. cond (member n ops) (without_object x os) os) (find nat_cmp n old)

pub strip_one : (op x : ℕ) (e left : List ℕ) (objs : List ℕ) (old middle new : Rows) (was again : Option (List ℕ)) → was ≡ find nat_cmp op old → was ≡ Some objs → OnSome was (middle ≡ put nat_cmp op e old)
    → again ≡ find nat_cmp op middle → OnSome again (new ≡ put nat_cmp op left middle) → left ≡ without_object x objs → T (is_sorted nat_cmp old)
    → T (is_sorted nat_cmp new) × ((n : ℕ) → find nat_cmp n new ≡ option_map (λ os. cond (n == op) (without_object x os) os) (find nat_cmp n old))
strip_one op x e left objs old middle new was again found is took found-again put-again left-is sorted' = (
  subst (λ l. T (is_sorted nat_cmp l)) (sym new-is) (is_sorted-put nat_cmp nat_cmp_total op left middle (subst (λ l. T (is_sorted nat_cmp l)) (sym middle-is) (is_sorted-put nat_cmp nat_cmp_total op e old sorted'))),
  λ n. ap (find nat_cmp n) new-is ∙ found-put n op left middle ∙ go n (n == op) refl,
)
  where
    middle-is : middle ≡ put nat_cmp op e old
    middle-is = subst (λ o. OnSome o (middle ≡ put nat_cmp op e old)) is took

    again-is : again ≡ Some e
    again-is = found-again ∙ ap (find nat_cmp op) middle-is ∙ found-put op op e old ∙ ap (λ b. cond b (Some e) (find nat_cmp op old)) (itself op)

    new-is : new ≡ put nat_cmp op left middle
    new-is = subst (λ o. OnSome o (new ≡ put nat_cmp op left middle)) again-is put-again

    there : find nat_cmp op old ≡ Some objs
    there = sym found ∙ is

    go : (n : ℕ) (b : Bool) → (n == op) ≡ b → cond b (Some left) (find nat_cmp n middle) ≡ option_map (λ os. cond b (without_object x os) os) (find nat_cmp n old)
    go n true p = ap Some left-is ∙ sym (ap (option_map (without_object x)) (ap (λ m. find nat_cmp m old) (eqb-true n op p) ∙ there))
    go n false p = ap (find nat_cmp n) middle-is ∙ found-put n op e old ∙ ap (λ b. cond b (Some e) (find nat_cmp n old)) p ∙ sym (same (find nat_cmp n old))
      where
        same : (o : Option (List ℕ)) → option_map (λ os. os) o ≡ o
        same None = refl
        same (Some os) = refl

pub stripping_none : (x : ℕ) (old : Rows) → Stripping x [] old old
unfolding Stripping
stripping_none x old n = go (find nat_cmp n old)
  where
    go : (o : Option (List ℕ)) → o ≡ option_map (λ os. os) o
    go None = refl
    go (Some os) = refl

pub stripping_more : (x op : ℕ) (ops : List ℕ) (old middle new : Rows) → Stripping x ops old middle → ((n : ℕ) → find nat_cmp n new ≡ option_map (λ os. cond (n == op) (without_object x os) os) (find nat_cmp n middle)) → Stripping x (ops ++ op ∷ []) old new
unfolding Stripping
stripping_more x op ops old middle new before step n = step n ∙ ap (option_map (λ os. cond (n == op) (without_object x os) os)) (before n) ∙ go (find nat_cmp n old) (n == op) refl (member n ops) refl
  where
    whole : member n (ops ++ op ∷ []) ≡ (member n ops || (n == op))
    whole = member-append n ops (op ∷ []) ∙ grind arith

    go : (o : Option (List ℕ)) (a : Bool) → (n == op) ≡ a → (b : Bool) → member n ops ≡ b → option_map (λ os. cond a (without_object x os) os) (option_map (λ os. cond (member n ops) (without_object x os) os) o) ≡ option_map (λ os. cond (member n (ops ++ op ∷ [])) (without_object x os) os) o
    go None a p b q = refl
    go (Some os) true p true q = let has : member n (ops ++ op ∷ []) ≡ true = whole ∙ grind (arith, p, q) in ap (λ c. Some (without_object x (cond c (without_object x os) os))) q ∙ ap Some (without_twice x os) ∙ sym (ap (λ c. Some (cond c (without_object x os) os)) has)
    go (Some os) true p false q = let has : member n (ops ++ op ∷ []) ≡ true = whole ∙ grind (arith, p, q) in ap (λ c. Some (without_object x (cond c (without_object x os) os))) q ∙ sym (ap (λ c. Some (cond c (without_object x os) os)) has)
    go (Some os) false p b q = let has : member n (ops ++ op ∷ []) ≡ member n ops = whole ∙ grind (arith, p) in ap (λ c. Some (cond c (without_object x os) os)) (sym has)

pub stripping_next : (x i op : ℕ) (ops : List ℕ) (old middle new : Rows) → i < length ops → op ≡ get_or ops i op → Stripping x (take i ops) old middle
    → ((n : ℕ) → find nat_cmp n new ≡ option_map (λ os. cond (n == op) (without_object x os) os) (find nat_cmp n middle)) → Stripping x (take (i + 1) ops) old new
stripping_next x i op ops old middle new within is before step =
    subst (λ l. Stripping x l old new) (sym (take_more ops i op within ∙ ap (λ o. take i ops ++ o ∷ []) (sym is))) (stripping_more x op (take i ops) old middle new before step)

pub all_stripped : (x : ℕ) (ops : List ℕ) (old new : Rows) → T (is_sorted nat_cmp old) → T (is_sorted nat_cmp new) → ops ≡ having x old → Stripping x ops old new → new ≡ stripped x old
unfolding Stripping
all_stripped x ops old new h k is done = same_entries nat_cmp nat_cmp_total exact new (stripped x old) k (sorted-stripped x old h) (λ n. done n ∙ go n (find nat_cmp n old) refl ∙ sym (found-stripped x n old))
  where
    go : (n : ℕ) (o : Option (List ℕ)) → find nat_cmp n old ≡ o → option_map (λ os. cond (member n ops) (without_object x os) os) o ≡ option_map (without_object x) o
    go n None q = refl
    go n (Some os) q = by (member x os) refl
      where
        has : member n ops ≡ member x os
        has = ap (member n) is ∙ member-having x n old h ∙ ap (λ o. member x (ops_of o)) q

        by : (b : Bool) → member x os ≡ b → Some (cond (member n ops) (without_object x os) os) ≡ Some (without_object x os)
        by true p = ap (λ c. Some (cond c (without_object x os) os)) (has ∙ p)
        by false p = ap (λ c. Some (cond c (without_object x os) os)) (has ∙ p) ∙ ap Some (sym (without_absent x os p))

having-stripped : (x y : ℕ) (rs : Rows) → having y (stripped x rs) ≡ cond (y == x) [] (having y rs)
having-stripped x y [] = sym (nil (y == x))
  where
    nil : (b : Bool) → cond {A = List ℕ} b [] [] ≡ []
    nil true = refl
    nil false = refl
having-stripped x y (r ∷ rs) = ap (λ c. cond c (r.0 ∷ having y (stripped x rs)) (having y (stripped x rs))) (member-without y x r.1) ∙ ap (λ l. cond (member y r.1 && not (y == x)) (r.0 ∷ l) l) (having-stripped x y rs) ∙ go (y == x) (member y r.1)
  where
    go : (a b : Bool) → cond (b && not a) (r.0 ∷ cond a [] (having y rs)) (cond a [] (having y rs)) ≡ cond a [] (cond b (r.0 ∷ having y rs) (having y rs))
    go true true = refl
    go true false = refl
    go false true = refl
    go false false = refl

pub agrees_stripped : (x : ℕ) (rows places rows' places' : Rows) → HaveSameMentions rows places → rows' ≡ stripped x rows → places' ≡ sorted.without nat_cmp x places → HaveSameMentions rows' places'
agrees_stripped x rows places rows' places' agrees is left = record {
  rising = subst (λ l. T (is_sorted nat_cmp l)) (sym is) (sorted-stripped x rows agrees.rising);
  alike = λ y. ap (ops_at y) left ∙ ap ops_of (found-without y x places) ∙ go y (y == x) ∙ sym (ap (having y) is ∙ having-stripped x y rows);
}
  where
    go : (y : ℕ) (b : Bool) → ops_of (cond b None (find nat_cmp y places)) ≡ cond b [] (having y rows)
    go y true = refl
    go y false = agrees.alike y

-- an object without mentions has none to lose
pub strips_nothing : (x : ℕ) (rows places : Rows) → HaveSameMentions rows places → find nat_cmp x places ≡ None → rows ≡ stripped x rows
strips_nothing x rows places agrees none = go rows (sym (agrees.alike x) ∙ ap ops_of none)
  where
    go : (rs : Rows) → having x rs ≡ [] → rs ≡ stripped x rs
    go [] e = refl
    go (r ∷ rs) e = by (member x r.1) refl e (go rs)
      where
        by : (b : Bool) → member x r.1 ≡ b → cond b (r.0 ∷ having x rs) (having x rs) ≡ [] → (having x rs ≡ [] → rs ≡ stripped x rs) → r ∷ rs ≡ (r.0, without_object x r.1) ∷ stripped x rs
        by true p e f = absurd (not_nil e)
          where
            not_nil : r.0 ∷ having x rs ≡ [] → ⊥
            not_nil e = absurd (omega (arith, ap length e))
        by false p e f = λ i. (r.0, sym (without_absent x r.1 p) i) ∷ f e i

pub pairs-stripped : (x : ℕ) (rs : Rows) → pairs_of (stripped x rs) ≡ filter (λ q. not (q.1 == x)) (pairs_of rs)
pairs-stripped x [] = refl
pairs-stripped x (r ∷ rs) = go r.1 (pairs-stripped x rs)
  where
    go : (os : List ℕ) → pairs_of (stripped x rs) ≡ filter (λ q. not (q.1 == x)) (pairs_of rs) → map (λ o. (r.0, o)) (without_object x os) ++ pairs_of (stripped x rs) ≡ filter (λ (q : ℕ × ℕ). not (q.1 == x)) (map (λ o. (r.0, o)) os ++ pairs_of rs)
    go [] rest = rest
    go (o ∷ os) rest = by (o == x) (go os rest)
      where
        by : (b : Bool) → map (λ o. (r.0, o)) (without_object x os) ++ pairs_of (stripped x rs) ≡ filter (λ (q : ℕ × ℕ). not (q.1 == x)) (map (λ o. (r.0, o)) os ++ pairs_of rs)
            → map (λ o. (r.0, o)) (cond (not b) (o ∷ without_object x os) (without_object x os)) ++ pairs_of (stripped x rs) ≡ cond (not b) ((r.0, o) ∷ filter (λ (q : ℕ × ℕ). not (q.1 == x)) (map (λ o. (r.0, o)) os ++ pairs_of rs)) (filter (λ (q : ℕ × ℕ). not (q.1 == x)) (map (λ o. (r.0, o)) os ++ pairs_of rs))
        by true e = e
        by false e = ap (λ l. (r.0, o) ∷ l) e

-- The objects of a list cleared one after the other.

pub clear_more : (x : ℕ) (xs : List ℕ) (owed : Owed) → clear (x ∷ xs) owed ≡ clear xs (filter (λ q. not (q.1 == x)) owed)
clear_more x xs [] = refl
clear_more x xs (q ∷ owed) = go (q.1 == x) (clear_more x xs owed)
  where
    go : (b : Bool) → clear (x ∷ xs) owed ≡ clear xs (filter (λ q. not (q.1 == x)) owed)
        → cond (not (b || member q.1 xs)) (q ∷ clear (x ∷ xs) owed) (clear (x ∷ xs) owed) ≡ clear xs (cond (not b) (q ∷ filter (λ q. not (q.1 == x)) owed) (filter (λ q. not (q.1 == x)) owed))
    go true e = e
    go false e = ap (λ l. cond (not (member q.1 xs)) (q ∷ l) l) e

pub clear_none : (owed : Owed) → clear [] owed ≡ owed
clear_none [] = refl
clear_none (q ∷ owed) = ap (λ l. q ∷ l) (clear_none owed)

-- Operations owed one after the other.

pub owe_more : (op : ℕ × List ℕ) (ops : List (ℕ × List ℕ)) (owed more : Owed) → more ≡ owed ++ map (λ x. (op.0, x)) op.1 → owe (op ∷ ops) owed ≡ owe ops more
owe_more op ops owed more is = sym (append_assoc owed (map (λ x. (op.0, x)) op.1) (pairs_of ops)) ∙ ap (λ l. l ++ pairs_of ops) (sym is)

-- What is due.

-- the operations of the rows with any of these objects
meeting : List ℕ → Rows → List ℕ
meeting touched [] = []
meeting touched (r ∷ rs) = cond (list_any (λ y. member y touched) r.1) (r.0 ∷ meeting touched rs) (meeting touched rs)

above-meeting : (touched : List ℕ) (k : ℕ) (rs : Rows) → T (below_all nat_cmp k rs) → Above k (meeting touched rs)
unfolding meeting
above-meeting touched k [] h = tt
above-meeting touched k (r ∷ rs) h = go (list_any (λ y. member y touched) r.1) (above-meeting touched k rs (second _ _ h))
  where
    lower : T (is_lt (nat_cmp k r.0)) → k < r.0
    lower l = grind (arith, nat_tests, l)

    go : (b : Bool) → Above k (meeting touched rs) → Above k (cond b (r.0 ∷ meeting touched rs) (meeting touched rs))
    go true rest = (lower (first _ _ h), rest)
    go false rest = rest

rises-meeting : (touched : List ℕ) (rs : Rows) → T (is_sorted nat_cmp rs) → Rises (meeting touched rs)
unfolding meeting
rises-meeting touched [] h = tt
rises-meeting touched (r ∷ rs) h = go (list_any (λ y. member y touched) r.1) (rises-meeting touched rs (second _ _ h))
  where
    go : (b : Bool) → Rises (meeting touched rs) → Rises (cond b (r.0 ∷ meeting touched rs) (meeting touched rs))
    go true rest = (above-meeting touched r.0 rs (first _ _ h), rest)
    go false rest = rest

due-meeting : (touched : List ℕ) (rs : Rows) → T (is_sorted nat_cmp rs) → due touched (pairs_of rs) ≡ meeting touched rs
unfolding meeting
due-meeting touched [] h = refl
due-meeting touched (r ∷ rs) h = go r.1 (due-meeting touched rs (second _ _ h))
  where
    apart : without_object r.0 (meeting touched rs) ≡ meeting touched rs
    apart = without_absent r.0 (meeting touched rs) (above_absent r.0 (meeting touched rs) (above-meeting touched r.0 rs (first _ _ h)))

    go : (os : List ℕ) → due touched (pairs_of rs) ≡ meeting touched rs → due touched (map (λ x. (r.0, x)) os ++ pairs_of rs) ≡ cond (list_any (λ y. member y touched) os) (r.0 ∷ meeting touched rs) (meeting touched rs)
    go [] rest = rest
    go (o ∷ os) rest = by (member o touched) (go os rest)
      where
        l : List ℕ
        l = map (λ (q : ℕ × ℕ). q.0) (filter (λ (q : ℕ × ℕ). member q.1 touched) (map (λ x. (r.0, x)) os ++ pairs_of rs))

        once_more : (b : Bool) → once l ≡ cond b (r.0 ∷ meeting touched rs) (meeting touched rs) → r.0 ∷ without_object r.0 (once l) ≡ r.0 ∷ meeting touched rs
        once_more true e = ap (λ z. r.0 ∷ without_object r.0 z) e ∙ ap (λ b. r.0 ∷ cond (not b) (r.0 ∷ without_object r.0 (meeting touched rs)) (without_object r.0 (meeting touched rs))) (itself r.0) ∙ ap (λ z. r.0 ∷ z) apart
        once_more false e = ap (λ z. r.0 ∷ without_object r.0 z) e ∙ ap (λ z. r.0 ∷ z) apart

        by : (b : Bool) → due touched (map (λ x. (r.0, x)) os ++ pairs_of rs) ≡ cond (list_any (λ y. member y touched) os) (r.0 ∷ meeting touched rs) (meeting touched rs)
            → once (map (λ (q : ℕ × ℕ). q.0) (cond b ((r.0, o) ∷ filter (λ (q : ℕ × ℕ). member q.1 touched) (map (λ x. (r.0, x)) os ++ pairs_of rs)) (filter (λ (q : ℕ × ℕ). member q.1 touched) (map (λ x. (r.0, x)) os ++ pairs_of rs))))
            ≡ cond (b || list_any (λ y. member y touched) os) (r.0 ∷ meeting touched rs) (meeting touched rs)
        by true e = once_more (list_any (λ y. member y touched) os) e
        by false e = e

any-swap : (xs ys : List ℕ) → list_any (λ x. member x ys) xs ≡ list_any (λ y. member y xs) ys
any-swap [] ys = sym (none ys)
  where
    none : (l : List ℕ) → list_any (λ y. member y []) l ≡ false
    none [] = refl
    none (y ∷ ys) = none ys
any-swap (x ∷ xs) ys = ap (λ b. member x ys || b) (any-swap xs ys) ∙ go ys
  where
    go : (l : List ℕ) → (member x l || list_any (λ y. member y xs) l) ≡ list_any (λ y. member y (x ∷ xs)) l
    go [] = refl
    go (y ∷ l) = grind (arith, go l, turned x y)

members : (touched : List ℕ) (rows places : Rows) → HaveSameMentions rows places → (n : ℕ) → member n (gathered touched places) ≡ list_any (λ x. member x (ops_of (find nat_cmp n rows))) touched
members [] rows places agrees n = refl
members (x ∷ xs) rows places agrees n =
    member-append n (ops_at x places) (gathered xs places)
    ∙ ap (λ b. b || member n (gathered xs places)) (ap (member n) (agrees.alike x) ∙ member-having x n rows agrees.rising)
    ∙ ap (λ b. member x (ops_of (find nat_cmp n rows)) || b) (members xs rows places agrees n)

member-meeting : (touched : List ℕ) (n : ℕ) (rs : Rows) → T (is_sorted nat_cmp rs) → member n (meeting touched rs) ≡ list_any (λ y. member y touched) (ops_of (find nat_cmp n rs))
unfolding meeting
member-meeting touched n [] h = refl
member-meeting touched n (r ∷ rs) h = go (n == r.0) refl (list_any (λ y. member y touched) r.1) refl (member-meeting touched n rs (second _ _ h))
  where
    any : List ℕ → Bool
    any os = list_any (λ y. member y touched) os

    go : (a : Bool) → (n == r.0) ≡ a → (b : Bool) → list_any (λ y. member y touched) r.1 ≡ b → member n (meeting touched rs) ≡ list_any (λ y. member y touched) (ops_of (find nat_cmp n rs))
        → member n (cond (list_any (λ y. member y touched) r.1) (r.0 ∷ meeting touched rs) (meeting touched rs)) ≡ list_any (λ y. member y touched) (ops_of (cond (eq_by_cmp nat_cmp n r.0) (Some r.1) (find nat_cmp n rs)))
    go true p true q rest = ap (λ c. member n (cond c (r.0 ∷ meeting touched rs) (meeting touched rs))) q ∙ ap (λ c. c || member n (meeting touched rs)) p ∙ sym (ap (λ c. list_any (λ y. member y touched) (ops_of (cond c (Some r.1) (find nat_cmp n rs)))) (sym (unsigned_ties n r.0) ∙ p) ∙ q)
    go true p false q rest =
        let gone : find nat_cmp n rs ≡ None = ap (λ m. find nat_cmp m rs) (eqb-true n r.0 p) ∙ none_below nat_cmp r.0 rs (first _ _ h) in
        ap (λ c. member n (cond c (r.0 ∷ meeting touched rs) (meeting touched rs))) q ∙ rest ∙ ap (λ o. list_any (λ y. member y touched) (ops_of o)) gone
        ∙ sym (ap (λ c. list_any (λ y. member y touched) (ops_of (cond c (Some r.1) (find nat_cmp n rs)))) (sym (unsigned_ties n r.0) ∙ p) ∙ q)
    go false p b q rest = front (list_any (λ y. member y touched) r.1) ∙ rest ∙ sym (ap (λ c. list_any (λ y. member y touched) (ops_of (cond c (Some r.1) (find nat_cmp n rs)))) (sym (unsigned_ties n r.0) ∙ p))
      where
        front : (b : Bool) → member n (cond b (r.0 ∷ meeting touched rs) (meeting touched rs)) ≡ member n (meeting touched rs)
        front true = ap (λ c. c || member n (meeting touched rs)) p
        front false = refl

pub gathered_step : (ops ops' touched : List ℕ) (i x : ℕ) (places : Rows) (o : Option (List ℕ)) (all : List ℕ) → i < length touched → x ≡ get_or touched i x → o ≡ find nat_cmp x places → ops' ≡ ops ++ ops_of o
    → ops ++ gathered (drop i touched) places ≡ all → ops' ++ gathered (drop (i + 1) touched) places ≡ all
gathered_step ops ops' touched i x places o all within is found more before =
    let left : drop i touched ≡ x ∷ drop (i + 1) touched = drop-cons touched i x within ∙ (λ k. sym is k ∷ drop (sym (add-one i) k) touched) in
    ap (λ l. l ++ gathered (drop (i + 1) touched) places) more ∙ append_assoc ops (ops_of o) (gathered (drop (i + 1) touched) places)
    ∙ ap (λ p. ops ++ (ops_of p ++ gathered (drop (i + 1) touched) places)) found ∙ ap (λ l. ops ++ gathered l places) (sym left) ∙ before

pub gathered_all : (ops touched : List ℕ) (i : ℕ) (places : Rows) (all : List ℕ) → length touched ≤ i → ops ++ gathered (drop i touched) places ≡ all → ops ≡ all
gathered_all ops touched i places all past is = sym (append-nil ops) ∙ ap (λ l. ops ++ gathered l places) (sym (drop_all i touched past)) ∙ is

pub due_sorted : (xs ys zs touched : List ℕ) (places : Rows) → xs ≡ gathered touched places → IsPermutation xs ys → IsSorted nat_cmp ys → zs ≡ dedup eqb ys → IsDue touched places zs
due_sorted xs ys zs touched places is moved rises kept = record {
  rising = subst IsStrictlyIncreasing (sym kept) (IsStrictlyIncreasing-dedup ys rises);
  members = λ n. ap (member n) kept
      ∙ member_alike n (dedup eqb ys) xs (λ c. Contains-permutation ys xs n (IsPermutation-sym xs ys moved) (Contains-from_dedup eqb ys n c)) (λ c. Contains-dedup_nat ys n (Contains-permutation xs ys n moved c))
      ∙ ap (member n) is;
}

-- One more operation of a loss.

pub owe_step : (lost : List (ℕ × List ℕ)) (i : ℕ) (op : ℕ × List ℕ) (rows rows' : Rows) (all : Owed) → i < length lost → op ≡ get_or lost i op → T (is_sorted nat_cmp rows) → rows' ≡ put nat_cmp op.0 op.1 rows
    → come_behind (drop i lost) (pairs_of rows) ≡ true → owe (drop i lost) (pairs_of rows) ≡ all
    → (is_above op.0 rows ≡ true) × (owe (drop (i + 1) lost) (pairs_of rows') ≡ all) × (come_behind (drop (i + 1) lost) (pairs_of rows') ≡ true)
owe_step lost i op rows rows' all within is rising new behind owed =
    let left : drop i lost ≡ op ∷ drop (i + 1) lost = drop-cons lost i op within ∙ (λ k. sym is k ∷ drop (sym (add-one i) k) lost) in
    let p = and_parts (is_above op.0 rows) (come_behind (drop (i + 1) lost) (owe (op ∷ []) (pairs_of rows))) (ap (λ l. come_behind l (pairs_of rows)) (sym left) ∙ behind) in
    let more : pairs_of rows' ≡ pairs_of rows ++ map (λ x. (op.0, x)) op.1 = ap pairs_of new ∙ (put_above op.0 op.1 rows rising p.0).0 in (
      p.0,
      sym (owe_more op (drop (i + 1) lost) (pairs_of rows) (pairs_of rows') more) ∙ ap (λ l. owe l (pairs_of rows)) (sym left) ∙ owed,
      ap (come_behind (drop (i + 1) lost)) (more ∙ ap (λ l. pairs_of rows ++ l) (sym (append-nil (map (λ x. (op.0, x)) op.1)))) ∙ p.1,
    )

pub is_next_above : (lost : List (ℕ × List ℕ)) (i : ℕ) (op : ℕ × List ℕ) (rows : Rows) → i < length lost → op ≡ get_or lost i op → come_behind (drop i lost) (pairs_of rows) ≡ true → is_above op.0 rows ≡ true
is_next_above lost i op rows within is behind =
    let left : drop i lost ≡ op ∷ drop (i + 1) lost = drop-cons lost i op within ∙ (λ k. sym is k ∷ drop (sym (add-one i) k) lost) in
    (and_parts (is_above op.0 rows) (come_behind (drop (i + 1) lost) (owe (op ∷ []) (pairs_of rows))) (ap (λ l. come_behind l (pairs_of rows)) (sym left) ∙ behind)).0

-- One more object cleared.
pub clear_step : (touched : List ℕ) (i x : ℕ) (rows rows' : Rows) (all : Owed) → i < length touched → x ≡ get_or touched i x → rows' ≡ stripped x rows → clear (drop i touched) (pairs_of rows) ≡ all → clear (drop (i + 1) touched) (pairs_of rows') ≡ all
clear_step touched i x rows rows' all within is new cleared =
    let left : drop i touched ≡ x ∷ drop (i + 1) touched = drop-cons touched i x within ∙ (λ k. sym is k ∷ drop (sym (add-one i) k) touched) in
    ap (clear (drop (i + 1) touched)) (ap pairs_of new ∙ pairs-stripped x rows) ∙ sym (clear_more x (drop (i + 1) touched) (pairs_of rows)) ∙ ap (λ l. clear l (pairs_of rows)) (sym left) ∙ cleared

pub clear_end : (touched : List ℕ) (i : ℕ) (owed all : Owed) → length touched ≤ i → clear (drop i touched) owed ≡ all → owed ≡ all
clear_end touched i owed all past is = sym (clear_none owed) ∙ ap (λ l. clear l owed) (sym (drop_all i touched past)) ∙ is

-- The objects of one more row, and one more object.

objects-row : (n : ℕ) (os : List ℕ) (rest : Owed) → map (λ (q : ℕ × ℕ). q.1) (map (λ x. (n, x)) os ++ rest) ≡ os ++ map (λ (q : ℕ × ℕ). q.1) rest
objects-row n [] rest = refl
objects-row n (o ∷ os) rest = ap (λ l. o ∷ l) (objects-row n os rest)

pub objects_step : (list list' : List ℕ) (rows : Rows) (i : ℕ) (r : ℕ × List ℕ) (all : List ℕ) → i < length rows → r ≡ get_or rows i r → list' ≡ list ++ fresh list r.1
    → list ++ fresh list (map (λ (q : ℕ × ℕ). q.1) (pairs_of (drop i rows))) ≡ all → list' ++ fresh list' (map (λ (q : ℕ × ℕ). q.1) (pairs_of (drop (i + 1) rows))) ≡ all
objects_step list list' rows i r all within is new before =
    let left : drop i rows ≡ r ∷ drop (i + 1) rows = drop-cons rows i r within ∙ (λ k. sym is k ∷ drop (sym (add-one i) k) rows) in
    let more = map (λ (q : ℕ × ℕ). q.1) (pairs_of (drop (i + 1) rows)) in
    ap (λ l. l ++ fresh l more) new ∙ append_assoc list (fresh list r.1) (fresh (list ++ fresh list r.1) more) ∙ ap (λ l. list ++ l) (sym (fresh-append list r.1 more))
    ∙ ap (λ l. list ++ fresh list l) (sym (objects-row r.0 r.1 (pairs_of (drop (i + 1) rows)))) ∙ ap (λ l. list ++ fresh list (map (λ (q : ℕ × ℕ). q.1) (pairs_of l))) (sym left) ∙ before

pub seen_new : (list list' objs : List ℕ) (seen seen' : List (ℕ × Unit {0})) (i x : ℕ) (all : List ℕ) → AreSeen list seen → i < length objs → x ≡ get_or objs i x → is_some (find nat_cmp x seen) ≡ false → seen' ≡ put nat_cmp x tt seen → list' ≡ list ++ x ∷ []
    → list ++ fresh list (drop i objs) ≡ all → AreSeen list' seen' × (list' ++ fresh list' (drop (i + 1) objs) ≡ all)
seen_new list list' objs seen seen' i x all are within is other put-is more before = (keys, rest)
  where
    keys : AreSeen list' seen'
    keys y = ap (λ m. is_some (find nat_cmp y m)) put-is ∙ ap is_some (found-put y x tt seen) ∙ go (y == x) refl ∙ sym (ap (member y) more ∙ member-append y list (x ∷ []))
      where
        go : (b : Bool) → (y == x) ≡ b → is_some (cond b (Some tt) (find nat_cmp y seen)) ≡ (member y list || ((y == x) || false))
        go true e = grind (arith, e)
        go false e = are y ∙ grind (arith, e)

    left : drop i objs ≡ x ∷ drop (i + 1) objs
    left = drop-cons objs i x within ∙ (λ k. sym is k ∷ drop (sym (add-one i) k) objs)

    rest : list' ++ fresh list' (drop (i + 1) objs) ≡ all
    rest =
        ap (λ l. l ++ fresh l (drop (i + 1) objs)) more ∙ append_assoc list (x ∷ []) (fresh (list ++ x ∷ []) (drop (i + 1) objs))
        ∙ ap (λ l. list ++ l) (sym (fresh_more list x (drop (i + 1) objs) ∙ ap (λ b. cond b (fresh list (drop (i + 1) objs)) (x ∷ fresh (list ++ x ∷ []) (drop (i + 1) objs))) (sym (are x) ∙ other)))
        ∙ ap (λ l. list ++ fresh list l) (sym left) ∙ before

pub seen_old : (list list' objs : List ℕ) (seen seen' : List (ℕ × Unit {0})) (i x : ℕ) (all : List ℕ) → AreSeen list seen → i < length objs → x ≡ get_or objs i x → is_some (find nat_cmp x seen) ≡ true → seen' ≡ seen → list' ≡ list
    → list ++ fresh list (drop i objs) ≡ all → AreSeen list' seen' × (list' ++ fresh list' (drop (i + 1) objs) ≡ all)
seen_old list list' objs seen seen' i x all are within is there same-seen same before = (
  λ y. ap (λ m. is_some (find nat_cmp y m)) same-seen ∙ are y ∙ ap (member y) (sym same),
  ap (λ l. l ++ fresh l (drop (i + 1) objs)) same
      ∙ ap (λ l. list ++ l) (sym (fresh_more list x (drop (i + 1) objs) ∙ ap (λ b. cond b (fresh list (drop (i + 1) objs)) (x ∷ fresh (list ++ x ∷ []) (drop (i + 1) objs))) (sym (are x) ∙ there)))
      ∙ ap (λ l. list ++ fresh list l) (sym left) ∙ before,
)
  where
    left : drop i objs ≡ x ∷ drop (i + 1) objs
    left = drop-cons objs i x within ∙ (λ k. sym is k ∷ drop (sym (add-one i) k) objs)

pub due_is : (touched : List ℕ) (rows places : Rows) (ops : List ℕ) → HaveSameMentions rows places → IsDue touched places ops → ops ≡ due touched (pairs_of rows)
due_is touched rows places ops agrees found =
    same_rising ops (meeting touched rows) (rises_from ops found.rising) (rises-meeting touched rows agrees.rising)
    (λ n. found.members n ∙ members touched rows places agrees n ∙ any-swap touched (ops_of (find nat_cmp n rows)) ∙ sym (member-meeting touched n rows agrees.rising))
    ∙ sym (due-meeting touched rows agrees.rising)
