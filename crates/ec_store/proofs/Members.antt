-- Members of lists, and keys of tables.
use Rattle.std.proofs.Common.{◌≡◌, ◌⊎◌, ℕ, zero, suc, ◌+◌, ◌<◌, Bool, true, false, cond, List, [], ◌∷◌, ◌++◌, length, get_or, take, Option, None, Some, refl, sym, ap, subst, ◌∙◌, arith, inl, inr, ⊎_elim}
use Rattle.std.specs.Prelude.{◌==◌, ◌||◌, T, not}
use Rattle.std.specs.List.{All}
use Rattle.std.specs.Ordering.{nat_cmp, is_lt}
use Rattle.std.specs.Cmp.{unsigned_ties, nat_cmp_is, nat_cmp_total}
use Rattle.std.specs.declared.cmp.Ordering.TheVariants.{Equal, Greater}
use Rattle.std.proofs.lemmas.Bool.{cases_Bool, cases_lt, cases_eq, eqb-true, eqb-false, eq-eqb, ne_eqb, and_parts, and_from}
use Rattle.std.proofs.lemmas.List.Folds.{list_any-append, list_any_at, list_any_more}
use Rattle.ec_base.specs.Sorted.{without}
use Rattle.ec_base.specs.SortedLaws.{find-without}
use Rattle.ec_base.specs.Tables.{at}
use Rattle.ec_volume.specs.Update.{member, distinct}
use Rattle.ec_journal.specs.OfLayout.Free.{is_named, free_below}
use Rattle.ec_base.proofs.Bools.{or_none, both_false, either, or_left, or_right}

pub clash : {A : Type 0} (b : Bool) → b ≡ true → b ≡ false → A
clash b is isnt = absurd cc

pub same_some : {A : Type 0} (x y : A) → Some x ≡ Some y → x ≡ y
same_some x y e = cc

pub holds : (b : Bool) → b ≡ true → T b
holds true h = tt
holds false h = absurd cc

-- Members.

pub member_cases : (o x : ℕ) (xs : List ℕ) → member o (x ∷ xs) ≡ true → (o ≡ x) ⊎ (member o xs ≡ true)
member_cases o x xs is = ⊎_elim (λ same. inl (eqb-true o x same)) (λ later. inr later) (either (o == x) (member o xs) is)

pub member_none : (o x : ℕ) (xs : List ℕ) → member o (x ∷ xs) ≡ false → (o ≡ x → ⊥) × (member o xs ≡ false)
member_none o x xs is =
    let parts = or_none (o == x) (member o xs) is in
    (eqb-false o x parts.0, parts.1)

pub member_here : (o x : ℕ) (xs : List ℕ) → o ≡ x → member o (x ∷ xs) ≡ true
member_here o x xs same = or_left (o == x) (member o xs) (eq-eqb o x same)

pub member_later : (o x : ℕ) (xs : List ℕ) → member o xs ≡ true → member o (x ∷ xs) ≡ true
member_later o x xs is = or_right (o == x) (member o xs) is

pub member_out : (o x : ℕ) (xs : List ℕ) → (o ≡ x → ⊥) → member o xs ≡ false → member o (x ∷ xs) ≡ false
member_out o x xs differs none = both_false (o == x) (member o xs) (ne_eqb o x differs) none

pub member_push : (o x : ℕ) (xs : List ℕ) → member o (xs ++ x ∷ []) ≡ true → (member o xs ≡ true) ⊎ (o ≡ x)
member_push o x xs is = ⊎_elim (λ before. inl before) (λ last. inr (one last)) (either (member o xs) (member o (x ∷ [])) (sym (list_any-append (λ p. o == p) xs (x ∷ [])) ∙ is))
  where
    one : member o (x ∷ []) ≡ true → o ≡ x
    one h = ⊎_elim (λ same. same) (λ never. absurd cc) (member_cases o x [] h)

pub member_of_push : (o x : ℕ) (xs : List ℕ) → o ≡ x → member o (xs ++ x ∷ []) ≡ true
member_of_push o x xs same = list_any-append (λ p. o == p) xs (x ∷ []) ∙ or_right (member o xs) (member o (x ∷ [])) (member_here o x [] same)

pub member_before : (o x : ℕ) (xs : List ℕ) → member o xs ≡ true → member o (xs ++ x ∷ []) ≡ true
member_before o x xs is = list_any-append (λ p. o == p) xs (x ∷ []) ∙ or_left (member o xs) (member o (x ∷ [])) is

pub all_of_members : (P : ℕ → Type 0) (xs : List ℕ) → ((n : ℕ) → member n xs ≡ true → P n) → All P xs
all_of_members P xs h i d lt = h (get_or xs i d) (list_any_at (λ p. get_or xs i d == p) xs i d lt (eq-eqb (get_or xs i d) (get_or xs i d) refl))

pub named_member : (k : ℕ) (xs : List ℕ) → is_named k xs ≡ member k xs
named_member k [] = refl
named_member k (x ∷ xs) = ap (λ (b : Bool). (k == x) || b) (named_member k xs)

-- Free slots are members of nothing named, and each stands once.

pub free_member : (k n : ℕ) (named : List ℕ) → member n (free_below k named) ≡ true → (n < k) × (member n named ≡ false)
free_member zero n named is = absurd cc
free_member (suc k) n named is = by (is_named k named) refl is (free_member k n named)
  where
    by : (b : Bool) → is_named k named ≡ b → member n (free_below k named ++ cond b [] (k ∷ [])) ≡ true → (member n (free_below k named) ≡ true → (n < k) × (member n named ≡ false)) → (n < suc k) × (member n named ≡ false)
    by true p h rec =
        let parts = either (member n (free_below k named)) false (sym (list_any-append (λ x. n == x) (free_below k named) []) ∙ h) in
        let before = rec (⊎_elim (λ x. x) (λ x. absurd cc) parts) in
        (omega (arith, before.0), before.1)
    by false p h rec =
        ⊎_elim (λ is_in. let before = rec is_in in (omega (arith, before.0), before.1)) (λ same. (omega (arith, same), ap (λ (m : ℕ). member m named) same ∙ sym (named_member k named) ∙ p)) (member_push n k (free_below k named) h)

pub distinct_push : (xs : List ℕ) (x : ℕ) → distinct xs ≡ true → member x xs ≡ false → distinct (xs ++ x ∷ []) ≡ true
distinct_push [] x d out = refl
distinct_push (y ∷ xs) x d out =
    let parts = and_parts (not (member y xs)) (distinct xs) d in
    let none = member_none x y xs out in
    and_from (not (member y (xs ++ x ∷ []))) (distinct (xs ++ x ∷ [])) (still (member y (xs ++ x ∷ [])) (λ is. ⊎_elim (λ before. clash (member y xs) before (unsaid (member y xs) parts.0)) (λ same. absurd (none.0 (sym same))) (member_push y x xs is))) (distinct_push xs x parts.1 none.1)
  where
    unsaid : (b : Bool) → not b ≡ true → b ≡ false
    unsaid true h = absurd cc
    unsaid false h = refl

    still : (b : Bool) → (b ≡ true → ⊥) → not b ≡ true
    still true h = absurd (h refl)
    still false h = refl

pub free_distinct : (k : ℕ) (named : List ℕ) → distinct (free_below k named) ≡ true
free_distinct zero named = refl
free_distinct (suc k) named = by (is_named k named) (free_distinct k named)
  where
    nothing_behind : (xs : List ℕ) → distinct xs ≡ true → distinct (xs ++ []) ≡ true
    nothing_behind xs d = subst (λ ys. distinct ys ≡ true) (sym (none xs)) d
      where
        none : (ys : List ℕ) → ys ++ [] ≡ ys
        none [] = refl
        none (y ∷ ys) = ap (λ (zs : List ℕ). y ∷ zs) (none ys)

    out : member k (free_below k named) ≡ false
    out = ⊎_elim (λ is. absurd (omega (arith, (free_member k k named is).0))) (λ no. no) (cases_Bool (member k (free_below k named)))

    by : (b : Bool) → distinct (free_below k named) ≡ true → distinct (free_below k named ++ cond b [] (k ∷ [])) ≡ true
    by true d = nothing_behind (free_below k named) d
    by false d = distinct_push (free_below k named) k d out

pub distinct_parts : (x : ℕ) (xs : List ℕ) → distinct (x ∷ xs) ≡ true → (member x xs ≡ false) × (distinct xs ≡ true)
distinct_parts x xs d =
    let parts = and_parts (not (member x xs)) (distinct xs) d in
    (unsaid (member x xs) parts.0, parts.1)
  where
    unsaid : (b : Bool) → not b ≡ true → b ≡ false
    unsaid true h = absurd cc
    unsaid false h = refl

-- Tables.

pub at_cases : {X : Type 0} (o : ℕ) (e : ℕ × X) (es : List (ℕ × X)) (v : X) → at o (e ∷ es) ≡ Some v → ((o ≡ e.0) × (e.1 ≡ v)) ⊎ ((o ≡ e.0 → ⊥) × (at o es ≡ Some v))
at_cases {X = X} o e es v is = go (o == e.0) refl (ap (λ (b : Bool). cond b (Some e.1) (at o es)) (unsigned_ties o e.0) ∙ is)
  where
    go : (b : Bool) → (o == e.0) ≡ b → cond b (Some e.1) (at o es) ≡ Some v → ((o ≡ e.0) × (e.1 ≡ v)) ⊎ ((o ≡ e.0 → ⊥) × (at o es ≡ Some v))
    go true p found = inl (eqb-true o e.0 p, same_some e.1 v found)
    go false p found = inr (eqb-false o e.0 p, found)

pub at_here : {X : Type 0} (o : ℕ) (e : ℕ × X) (es : List (ℕ × X)) → o ≡ e.0 → at o (e ∷ es) ≡ Some e.1
at_here {X = X} o e es same = sym (ap (λ (b : Bool). cond b (Some e.1) (at o es)) (unsigned_ties o e.0)) ∙ ap (λ (b : Bool). cond b (Some e.1) (at o es)) (eq-eqb o e.0 same)

pub at_later : {X : Type 0} (o : ℕ) (e : ℕ × X) (es : List (ℕ × X)) → (o ≡ e.0 → ⊥) → at o (e ∷ es) ≡ at o es
at_later {X = X} o e es differs = sym (ap (λ (b : Bool). cond b (Some e.1) (at o es)) (unsigned_ties o e.0)) ∙ ap (λ (b : Bool). cond b (Some e.1) (at o es)) (ne_eqb o e.0 differs)

pub less_is : (a b : ℕ) → T (is_lt (nat_cmp a b)) → a < b
less_is a b h = elim (cases_lt a b) [
  | inl lt ↦ lt
  | inr le ↦ elim (cases_eq a b) [
    | inl same ↦ absurd (subst (λ r. T (is_lt r)) (sym (nat_cmp_is a b Equal same)) h)
    | inr differs ↦ absurd (subst (λ r. T (is_lt r)) (sym (nat_cmp_is a b Greater (omega (arith, le, differs)))) h)
  ]
]

-- Ids that are forgotten, one by one.

either_none : {X : Type 0} (b c : Bool) (x : Option X) → cond c None (cond b None x) ≡ cond (b || c) None x
either_none true true x = refl
either_none true false x = refl
either_none false true x = refl
either_none false false x = refl

same_turned : (a b : ℕ) → (a == b) ≡ (b == a)
same_turned a b = elim (cases_eq a b) [
  | inl same ↦ eq-eqb a b same ∙ sym (eq-eqb b a (sym same))
  | inr differs ↦ ne_eqb a b differs ∙ sym (ne_eqb b a (λ same. differs (sym same)))
]

pub forget_more : (first old new : List (ℕ × ℕ)) (ids : List ℕ) (i k : ℕ) → i < length ids → k ≡ get_or ids i k → ((o : ℕ) → at o old ≡ cond (member o (take i ids)) None (at o first)) → new ≡ without nat_cmp k old
    → (o : ℕ) → at o new ≡ cond (member o (take (i + 1) ids)) None (at o first)
forget_more first old new ids i k lt is so_far removed o =
    ap (λ (l : List (ℕ × ℕ)). at o l) removed
    ∙ find-without nat_cmp nat_cmp_total o k old
    ∙ ap (λ (b : Bool). cond b None (at o old)) (sym (unsigned_ties k o) ∙ same_turned k o)
    ∙ ap (λ (x : Option ℕ). cond (o == k) None x) (so_far o)
    ∙ either_none (member o (take i ids)) (o == k) (at o first)
    ∙ ap (λ (b : Bool). cond b None (at o first)) (ap (λ (n : ℕ). member o (take i ids) || (o == n)) is ∙ sym (list_any_more (λ p. o == p) ids i k lt))

-- what is left is what was kept, but for the ids
pub left_kept : (o s : ℕ) (b : Bool) (x y : Option ℕ) → x ≡ cond b None y → x ≡ Some s → (y ≡ Some s) × (b ≡ false)
left_kept o s true x y is found = absurd (never (sym is ∙ found))
  where
    never : ◌≡◌ {A = Option ℕ} None (Some s) → ⊥
    never h = cc
left_kept o s false x y is found = (sym is ∙ found, refl)

pub keeps_left : (s : ℕ) (b : Bool) (x y : Option ℕ) → x ≡ cond b None y → y ≡ Some s → b ≡ false → x ≡ Some s
keeps_left s true x y is found out = absurd cc
keeps_left s false x y is found out = is ∙ found
