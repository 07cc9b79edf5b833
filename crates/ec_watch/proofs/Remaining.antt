-- Numbers of which some are taken out.
use Rattle.std.proofs.Common.{◌≡◌, refl, sym, ap, subst, ◌∙◌, ◌<◌, ◌+◌, ◌-◌, arith, ℕ, suc, T, Bool, true, false, not, ◌==◌, ◌||◌, cond, Option, Some, None, is_some, List, [], ◌∷◌, ◌++◌, length, take, get_or, nat_lt, OnSome, IfNone, Less, Equal, Greater, ap₂, append-nil}
use Rattle.std.specs.Prelude.{◌&&◌, filter, slice_get, unwrap_or}
use Rattle.std.specs.Bool.{OnTrue}
use Rattle.std.specs.Ordering.{nat_cmp, is_eq, eq_by_cmp}
use Rattle.std.specs.Cmp.{nat_cmp_total}
use Rattle.std.specs.FinMap.Entries.{find, put, is_sorted, below_all}
use Rattle.std.proofs.lemmas.Bool.Decides.{nat_tests}
use Rattle.std.proofs.lemmas.List.{take_more}
use Rattle.std.proofs.lemmas.Option.{get_or_from_slice_get}
use Rattle.ec_base.specs.SortedLaws.{first, second, below_each, below_first, none_below}
use Rattle.ec_volume.specs.Update.{member}
use Rattle.ec_watch.specs.Left.{left}
use Rattle.ec_base.proofs.Numbers.{itself, flip_too}
use Rattle.ec_order.proofs.OfNumbers.Indexes.{member-append}

same-number : (m n : ℕ) → (m == n) ≡ true → m ≡ n
same-number m n e = grind (arith, nat_tests)

tied : (m n : ℕ) → eq_by_cmp nat_cmp m n ≡ (m == n)
tied m n = grind (arith, nat_tests)

equal : (m n : ℕ) → nat_cmp m n ≡ Equal → m ≡ n
equal m n e = grind (arith, nat_tests)

apart : (m n : ℕ) → nat_cmp m n ≡ Greater → (n == m) ≡ false
apart m n e = grind (arith, nat_tests)

above : (m n : ℕ) → n < m → nat_cmp m n ≡ Greater
above m n l = grind (arith, nat_tests)

below : (m n : ℕ) → nat_cmp m n ≡ Less → m < n
below m n e = grind (arith, nat_tests)

same-Some : {A : Type 0} {x y : A} → Some x ≡ Some y → x ≡ y
same-Some {x = x} e = ap (λ o. unwrap_or o x) e

not-None : {A : Type 0} {x : A} → None ≡ Some x → ⊥
not-None e = subst T (ap is_some (sym e)) tt

-- Filters.

filter-filter : (p q r : ℕ → Bool) → ((n : ℕ) → r n ≡ (p n && q n)) → (xs : List ℕ) → filter r xs ≡ filter q (filter p xs)
filter-filter p q r h [] = refl
filter-filter p q r h (x ∷ xs) = ap (λ b. cond b (x ∷ filter r xs) (filter r xs)) (h x) ∙ go (p x) (filter-filter p q r h xs)
  where
    go : (c : Bool) → filter r xs ≡ filter q (filter p xs) → cond (c && q x) (x ∷ filter r xs) (filter r xs) ≡ filter q (cond c (x ∷ filter p xs) (filter p xs))
    go true e = ap (λ l. cond (q x) (x ∷ l) l) e
    go false e = e

filter-true : (xs : List ℕ) → filter (λ n. true) xs ≡ xs
filter-true [] = refl
filter-true (x ∷ xs) = ap (λ l. x ∷ l) (filter-true xs)

filter-absent : (op : ℕ) (xs : List ℕ) → member op xs ≡ false → filter (λ n. not (n == op)) xs ≡ xs
filter-absent op [] e = refl
filter-absent op (x ∷ xs) e = ap (λ b. cond (not b) (x ∷ filter (λ n. not (n == op)) xs) (filter (λ n. not (n == op)) xs)) (flip_too x op) ∙ go (op == x) e (filter-absent op xs)
  where
    go : (b : Bool) → (b || member op xs) ≡ false → (member op xs ≡ false → filter (λ n. not (n == op)) xs ≡ xs) → cond (not b) (x ∷ filter (λ n. not (n == op)) xs) (filter (λ n. not (n == op)) xs) ≡ x ∷ xs
    go true f same = absurd (subst T f tt)
    go false f same = ap (λ l. x ∷ l) (same f)

-- Numbers that rise.

left-append : (es fs : List (ℕ × Bool)) → left (es ++ fs) ≡ left es ++ left fs
left-append [] fs = refl
left-append (e ∷ es) fs = ap (λ l. cond e.1 (e.0 ∷ l) l) (left-append es fs) ∙ go e.1
  where
    go : (b : Bool) → cond b (e.0 ∷ (left es ++ left fs)) (left es ++ left fs) ≡ cond b (e.0 ∷ left es) (left es) ++ left fs
    go true = refl
    go false = refl

-- the first so many, and one more
left-next : (es : List (ℕ × Bool)) (i : ℕ) (e : ℕ × Bool) → i < length es → e ≡ get_or es i e → left (take (i + 1) es) ≡ left (take i es) ++ cond e.1 (e.0 ∷ []) []
left-next es i e l at = ap left (take_more es i e l ∙ ap (λ x. take i es ++ x ∷ []) (sym at)) ∙ left-append (take i es) (e ∷ [])

pub next-left : (es : List (ℕ × Bool)) (i : ℕ) (e : ℕ × Bool) (old new : List ℕ) → i < length es → e ≡ get_or es i e → e.1 ≡ true → old ≡ left (take i es) → new ≡ old ++ e.0 ∷ [] → new ≡ left (take (i + 1) es)
next-left es i e old new l at is before more = more ∙ ap (λ xs. xs ++ e.0 ∷ []) before ∙ sym (left-next es i e l at ∙ ap (λ b. left (take i es) ++ cond b (e.0 ∷ []) []) is)

pub next-gone : (es : List (ℕ × Bool)) (i : ℕ) (e : ℕ × Bool) (old new : List ℕ) → i < length es → e ≡ get_or es i e → e.1 ≡ false → old ≡ left (take i es) → new ≡ old → new ≡ left (take (i + 1) es)
next-gone es i e old new l at is before same = same ∙ before ∙ sym (left-next es i e l at ∙ ap (λ b. left (take i es) ++ cond b (e.0 ∷ []) []) is ∙ append-nil (left (take i es)))

-- one that is above the last goes behind it
put-behind : (op : ℕ) (b : Bool) (es : List (ℕ × Bool)) (d : ℕ × Bool) → T (is_sorted nat_cmp es) → ((i : ℕ) → suc i ≡ length es → (get_or es i d).0 < op) → put nat_cmp op b es ≡ es ++ (op, b) ∷ []
put-behind op b [] d h last = refl
put-behind op b (e ∷ []) d h last = rw (above op e.0 (last 0 refl))
put-behind op b (e ∷ f ∷ es) d h last =
    let after : e.0 < (get_or (f ∷ es) (length es) d).0 = below _ _ (below_each nat_cmp e.0 (f ∷ es) (length es) d (first _ _ h) (omega arith)) in
    let top : (get_or (f ∷ es) (length es) d).0 < op = last (suc (length es)) refl in
    let greater : nat_cmp op e.0 ≡ Greater = above op e.0 (omega (arith, after, top)) in
    rw greater (ap (λ l. e ∷ l) (put-behind op b (f ∷ es) d (second _ _ h) (λ i is. last (suc i) (ap suc is))))

put-above : (op : ℕ) (es : List (ℕ × Bool)) (e : ℕ × Bool) → T (is_sorted nat_cmp es) → Some e ≡ slice_get es (length es - 1) → e.0 < op → put nat_cmp op true es ≡ es ++ (op, true) ∷ []
put-above op es e h is l =
    put-behind op true es e h (λ i n.
    let at : length es - 1 ≡ i = omega (arith, n) in
    subst (λ x. x.0 < op) (sym (get_or_from_slice_get es i e e (sym (is ∙ ap (slice_get es) at)))) l)

pub put-tested : (op m n : ℕ) (es fs : List (ℕ × Bool)) (e : ℕ × Bool) → fs ≡ es → T (is_sorted nat_cmp es) → Some e ≡ slice_get fs (length fs - 1) → m ≡ e.0 → n ≡ op → OnTrue (nat_lt m n) (put nat_cmp op true es ≡ es ++ (op, true) ∷ [])
put-tested op m n es fs e same h is low high = go (nat_lt m n) refl
  where
    go : (b : Bool) → nat_lt m n ≡ b → OnTrue b (put nat_cmp op true es ≡ es ++ (op, true) ∷ [])
    go true t = put-above op es e h (is ∙ ap (λ l. slice_get l (length l - 1)) same) (grind (arith, nat_tests))
    go false t = tt

-- There are no others, and the number goes behind those that rise.
pub added : (op : ℕ) (old new : List (ℕ × Bool)) (others ns : List ℕ) → ns ≡ others → (length ns == 0) ≡ true → put nat_cmp op true old ≡ old ++ (op, true) ∷ [] → new ≡ put nat_cmp op true old → left new ++ others ≡ (left old ++ others) ++ op ∷ []
added op old new others ns same none behind is =
    ap₂ (λ l m. left l ++ m) (is ∙ behind) nothing
    ∙ append-nil (left (old ++ (op, true) ∷ []))
    ∙ left-append old ((op, true) ∷ [])
    ∙ ap (λ l. l ++ op ∷ []) (sym (ap (λ l. left old ++ l) nothing ∙ append-nil (left old)))
  where
    empty : (l : List ℕ) → (length l == 0) ≡ true → l ≡ []
    empty [] e = refl
    empty (x ∷ l) e = grind (arith, nat_tests)

    nothing : others ≡ []
    nothing = sym same ∙ empty ns none

none-left : (op : ℕ) (es : List (ℕ × Bool)) → find nat_cmp op es ≡ None → member op (left es) ≡ false
none-left op [] is = refl
none-left op (e ∷ es) is = go (op == e.0) refl (sym (ap (λ b. cond b (Some e.1) (find nat_cmp op es)) (tied op e.0)) ∙ is) (none-left op es)
  where
    go : (b : Bool) → (op == e.0) ≡ b → cond b (Some e.1) (find nat_cmp op es) ≡ None → (find nat_cmp op es ≡ None → member op (left es) ≡ false) → member op (cond e.1 (e.0 ∷ left es) (left es)) ≡ false
    go true p found rest = absurd (not-None (sym found))
    go false p found rest = pick e.1
      where
        pick : (b : Bool) → member op (cond b (e.0 ∷ left es) (left es)) ≡ false
        pick true = ap (λ b. b || member op (left es)) p ∙ rest found
        pick false = rest found

pub not-left : (op : ℕ) (es : List (ℕ × Bool)) → None ≡ find nat_cmp op es → false ≡ member op (left es)
not-left op es is = sym (none-left op es (sym is))

-- a key isn't left among those above it
absent-above : (op : ℕ) (e : ℕ × Bool) (es : List (ℕ × Bool)) → op ≡ e.0 → T (below_all nat_cmp e.0 es) → member op (left es) ≡ false
absent-above op e es is h = none-left op es (none_below nat_cmp op es (subst (λ k. T (below_all nat_cmp k es)) (sym is) h))

pub found-left : (op : ℕ) (es : List (ℕ × Bool)) (b : Bool) → T (is_sorted nat_cmp es) → Some b ≡ find nat_cmp op es → b ≡ member op (left es)
found-left op [] b h is = absurd (not-None (sym is))
found-left op (e ∷ es) b h is = go (op == e.0) refl (sym (is ∙ ap (λ c. cond c (Some e.1) (find nat_cmp op es)) (tied op e.0))) (found-left op es b (second _ _ h))
  where
    go : (c : Bool) → (op == e.0) ≡ c → cond c (Some e.1) (find nat_cmp op es) ≡ Some b → (Some b ≡ find nat_cmp op es → b ≡ member op (left es)) → b ≡ member op (cond e.1 (e.0 ∷ left es) (left es))
    go true p found rest = sym (same-Some found) ∙ pick e.1
      where
        pick : (c : Bool) → c ≡ member op (cond c (e.0 ∷ left es) (left es))
        pick true = sym (ap (λ z. z || member op (left es)) p)
        pick false = sym (absent-above op e es (same-number op e.0 p) (first _ _ h))
    go false p found rest = rest (sym found) ∙ pick e.1
      where
        pick : (c : Bool) → member op (left es) ≡ member op (cond c (e.0 ∷ left es) (left es))
        pick true = sym (ap (λ z. z || member op (left es)) p)
        pick false = refl

forgotten : (op : ℕ) (b : Bool) (es : List (ℕ × Bool)) → T (is_sorted nat_cmp es) → find nat_cmp op es ≡ Some b → left (put nat_cmp op false es) ≡ filter (λ n. not (n == op)) (left es)
forgotten op b [] h is = absurd (not-None is)
forgotten op b (e ∷ es) h is =
    elim (nat_cmp op e.0) as (λ r. nat_cmp op e.0 ≡ r → cond (is_eq r) (Some e.1) (find nat_cmp op es) ≡ Some b → left (put nat_cmp op false (e ∷ es)) ≡ filter (λ n. not (n == op)) (left (e ∷ es))) [
      | Less ↦ λ p found. absurd (not-None (sym (none_below nat_cmp op es (second _ _ (below_first nat_cmp nat_cmp_total op e es p h))) ∙ found))
      | Equal ↦ λ p found. rw p (taken e.1 p)
      | Greater ↦ λ p found. rw p (kept e.1 p (forgotten op b es (second _ _ h) found))
    ] refl is
  where
    taken : (c : Bool) → nat_cmp op e.0 ≡ Equal → left es ≡ filter (λ n. not (n == op)) (cond c (e.0 ∷ left es) (left es))
    taken true p = sym (ap (λ z. cond (not z) (e.0 ∷ filter (λ n. not (n == op)) (left es)) (filter (λ n. not (n == op)) (left es))) (ap (λ k. e.0 == k) (equal op e.0 p) ∙ itself e.0) ∙ filter-absent op (left es) (absent-above op e es (equal op e.0 p) (first _ _ h)))
    taken false p = sym (filter-absent op (left es) (absent-above op e es (equal op e.0 p) (first _ _ h)))

    kept : (c : Bool) → nat_cmp op e.0 ≡ Greater → left (put nat_cmp op false es) ≡ filter (λ n. not (n == op)) (left es) → cond c (e.0 ∷ left (put nat_cmp op false es)) (left (put nat_cmp op false es)) ≡ filter (λ n. not (n == op)) (cond c (e.0 ∷ left es) (left es))
    kept true p same = ap (λ l. e.0 ∷ l) same ∙ sym (ap (λ z. cond (not z) (e.0 ∷ filter (λ n. not (n == op)) (left es)) (filter (λ n. not (n == op)) (left es))) (apart op e.0 p))
    kept false p same = same

-- A value is put at a key that is there, or nothing changes.
pub left-without : (op : ℕ) (found : Option Bool) (old new : List (ℕ × Bool)) → T (is_sorted nat_cmp old) → found ≡ find nat_cmp op old → OnSome found (new ≡ put nat_cmp op false old) → IfNone found (new ≡ old) → left new ≡ filter (λ n. not (n == op)) (left old)
left-without op (Some b) old new h is some none = ap left some ∙ forgotten op b old h (sym is)
left-without op None old new h is some none = ap left none ∙ sym (filter-absent op (left old) (none-left op old (sym is)))

-- One number more is taken out.
one-fewer : (op : ℕ) (ops xs ys zs : List ℕ) → ys ≡ filter (λ n. not (member n ops)) xs → zs ≡ filter (λ n. not (n == op)) ys → zs ≡ filter (λ n. not (member n (ops ++ op ∷ []))) xs
one-fewer op ops xs ys zs before is =
    is ∙ ap (filter (λ n. not (n == op))) before
    ∙ sym (filter-filter (λ n. not (member n ops)) (λ n. not (n == op)) (λ n. not (member n (ops ++ op ∷ []))) (λ n. ap not (member-append n ops (op ∷ [])) ∙ go (member n ops) (n == op)) xs)
  where
    go : (a b : Bool) → not (a || (b || false)) ≡ (not a && not b)
    go true b = refl
    go false true = refl
    go false false = refl

-- the same behind the first so many of some numbers
pub next-fewer : (ops : List ℕ) (i op : ℕ) (xs ys zs : List ℕ) → i < length ops → op ≡ get_or ops i op → ys ≡ filter (λ n. not (member n (take i ops))) xs → zs ≡ filter (λ n. not (n == op)) ys → zs ≡ filter (λ n. not (member n (take (i + 1) ops))) xs
next-fewer ops i op xs ys zs l at before is =
    one-fewer op (take i ops) xs ys zs before is
    ∙ ap (λ ns. filter (λ n. not (member n ns)) xs) (ap (λ n. take i ops ++ n ∷ []) at ∙ sym (take_more ops i op l))

pub none-fewer : (xs : List ℕ) → xs ≡ filter (λ n. not (member n [])) xs
none-fewer xs = sym (filter-true xs)
