-- Lemmas on truth values.
use Rattle.std.proofs.Common.{◌≡◌, T, refl, Bool, true, false, ◌&&◌, sym, subst, arith, ◌<◌, ℕ, not, ◌||◌, ap, ◌∙◌, ◌⊎◌, inl, inr, ◌≤◌, if◌then◌else◌}
use Rattle.std.specs.declared.cmp.Ordering.{Ordering}
use Rattle.std.specs.declared.cmp.Ordering.TheVariants.{Less, Equal, Greater}
use Rattle.std.specs.Ordering.{is_lt, nat_cmp, is_eq, eq_by_cmp}
use Rattle.std.proofs.lemmas.Bool.Decides.{nat_tests}

pub lower : (r : Ordering) → T (is_lt r) → r ≡ Less
lower Less p = refl
lower Equal p = absurd p
lower Greater p = absurd p

pub left : (a b : Bool) → T (a && b) → T a
left true b t = tt
left false b t = absurd t

pub is_lower : (m n : ℕ) → m < n → T (is_lt (nat_cmp m n))
is_lower m n l = subst T (sym here) tt
  where
    here : is_lt (nat_cmp m n) ≡ true
    here = grind (arith, nat_tests)

pub not-both : (b : Bool) → T b → T (not b) → ⊥
not-both true t f = f
not-both false t f = t

pub neither : (a b : Bool) → T (not a) → T (not b) → T (not (a || b))
neither true b h i = h
neither false b h i = i

pub left-other : (o d x m : Bool) → (T o → x ≡ false) → (o && not (d || (x && m))) ≡ (o && not d)
left-other true d x m f = ap (λ z. not (d || (z && m))) (f tt) ∙ by d
  where
    by : (d : Bool) → not (d || false) ≡ not d
    by true = refl
    by false = refl
left-other false d x m f = refl

pub left-own : (o d m : Bool) → ((o && not d) && not m) ≡ (o && not (d || (o && m)))
left-own true true m = refl
left-own true false m = refl
left-own false d m = refl

pub first-false : (a b : Bool) → (a || b) ≡ false → a ≡ false
first-false true b e = absurd (cc)
first-false false b e = refl

pub either-way : (a b c : Bool) → (T b → T c) → T (a || b) → T (a || c)
either-way true b c f t = tt
either-way false b c f t = f t

pub not-left : (a b : Bool) → T (not (a || b)) → T (not a)
not-left true b h = h
not-left false b h = tt

pub and-both : (a b : Bool) → T a → T b → T (a && b)
and-both true b h i = i
and-both false b h i = absurd h

pub not-right : (a b : Bool) → T (not (a || b)) → T (not b)
not-right true b h = absurd h
not-right false b h = h

pub same_tests : (a b : Bool) → (T a → T b) → (T b → T a) → a ≡ b
same_tests true true f g = refl
same_tests true false f g = absurd (f tt)
same_tests false true f g = absurd (g tt)
same_tests false false f g = refl

pub not-tied : (r : Ordering) → T (is_lt r) → is_eq r ≡ false
not-tied Less h = refl
not-tied Equal h = absurd h
not-tied Greater h = absurd h

pub clash : (b : Bool) → T (not b) → T b → ⊥
clash true n h = n
clash false n h = h

pub or-right : (a b : Bool) → T b → T (a || b)
or-right true b t = tt
or-right false b t = t

pub bool_cases : (b : Bool) → (b ≡ true) ⊎ (b ≡ false)
bool_cases true = inl refl
bool_cases false = inr refl

pub both : (a b : Bool) → T a → T b → T (a && b)
both true b p q = q
both false b p q = p

pub first : (a b : Bool) → T (a && b) → T a
first true b p = tt
first false b p = p

pub right : (a b : Bool) → T (a && b) → T b
right true b t = t
right false b t = absurd t

pub not-true : (x : Bool) → not x ≡ true → x ≡ false
not-true true e = sym e
not-true false e = refl

pub or-none : (x : Bool) → x ≡ (x || false)
or-none true = refl
or-none false = refl

pub off-of : (b : Bool) → (T b → ⊥) → b ≡ false
off-of true f = absurd (f tt)
off-of false f = refl

pub or_first : (a b : Bool) → T a → T (a || b)
or_first true b t = tt
or_first false b t = absurd t

pub none : (b : Bool) → (T b → ⊥) → T (not b)
none true f = f tt
none false f = tt

pub on : {b : Bool} → b ≡ true → T b
on e = subst T (sym e) tt

pub and_parts-T : (a b : Bool) → T (a && b) → T a × T b
and_parts-T true b t = (tt, t)
and_parts-T false b t = absurd t

pub higher : (s m k : ℕ) → s ≤ m → T (is_lt (nat_cmp m k)) → eq_by_cmp nat_cmp s k ≡ false
higher s m k l h = grind (arith, nat_tests, l, h)

pub or_false : (x : Bool) → (x || false) ≡ x
or_false true = refl
or_false false = refl

pub and-none : (b : Bool) → (b && false) ≡ false
and-none true = refl
and-none false = refl

pub and-false : (x : Bool) → false ≡ (x && false)
and-false true = refl
and-false false = refl

pub or_true : (z : Bool) → (z || true) ≡ true
or_true true = refl
or_true false = refl

pub below : (m n : ℕ) → T (is_lt (nat_cmp m n)) → m < n
below m n l = grind (arith, nat_tests, l)

pub no-longer : (b : Bool) → T (not b) → b ≡ false
no-longer true t = absurd t
no-longer false t = refl

pub implied : (a d : Bool) → T (not a || d) → T a → T d
implied true d h t = h
implied false d h t = absurd t

abbrev pub as_one : Bool → ℕ
as_one b = if b then 1 else 0

pub or_none : (a b : Bool) → (a || b) ≡ false → (a ≡ false) × (b ≡ false)
or_none true b h = absurd cc
or_none false b h = (refl, h)

pub both_false : (a b : Bool) → a ≡ false → b ≡ false → (a || b) ≡ false
both_false true b p q = absurd cc
both_false false b p q = q

pub either : (a b : Bool) → (a || b) ≡ true → (a ≡ true) ⊎ (b ≡ true)
either true b e = inl refl
either false b e = inr e

pub or_left : (a b : Bool) → a ≡ true → (a || b) ≡ true
or_left true b h = refl
or_left false b h = absurd cc

pub or_right : (a b : Bool) → b ≡ true → (a || b) ≡ true
or_right true b h = refl
or_right false b h = h

pub is-true : (b : Bool) → T b → b ≡ true
is-true true t = refl
is-true false t = absurd t

pub and-true : (b : Bool) → (b && true) ≡ b
and-true true = refl
and-true false = refl

pub and-assoc : (a b c : Bool) → (a && (b && c)) ≡ ((a && b) && c)
and-assoc true b c = refl
and-assoc false b c = refl

pub holds-true : (b : Bool) → b ≡ true → T b
holds-true b e = subst T (sym e) tt

pub lower-tested : (a b : ℕ) → T (is_lt (nat_cmp a b)) → a < b
lower-tested a b h = grind (arith, nat_tests)

pub first-of : (a b : Bool) → (a && b) ≡ true → a ≡ true
first-of true b e = refl
first-of false b e = e

pub right-tested : (a b : Bool) → (a && b) ≡ true → b ≡ true
right-tested true b e = e
right-tested false b e = absurd (let t : false ≡ true = e in cc)

pub and_both : (a b : Bool) → a ≡ true → b ≡ true → (a && b) ≡ true
and_both a b e f = rw (e, f) refl
