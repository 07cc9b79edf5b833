-- Overwrites: what they keep, and in which order they come.
use Rattle.std.proofs.Common.{◌≡◌, refl, sym, ap, subst, ◌∙◌, inl, inr, arith, ◌<◌, ◌≤◌, ◌+◌, ℕ, T, Bool, true, false, not, ◌==◌, ◌&&◌, ◌||◌, cond, List, [], ◌∷◌, ltb, leb, suc, length}
use Rattle.std.proofs.lemmas.Bool.{cases_Bool, and_parts, and_from, and_cases, cases_lt, eqb-true, ltb-true, ltb-false, leb-true, true≢false}
use Rattle.ec_volume.specs.Image.{is_file, bytes_of, with_bytes, overwritten}
use Rattle.ec_volume.specs.Update.{has_operand, fits, effect}
use Rattle.ec_volume.specs.Volume.{fits_in_turn}
use Rattle.ec_volume.specs.declared.image.Image.{Image}
use Rattle.ec_volume.specs.declared.image.Image.TheVariants.{Gone, File, Dir}
use Rattle.ec_volume.specs.declared.update.Update.{Update}
use Rattle.ec_volume.specs.declared.update.Update.TheVariants.{Put}
use Rattle.ec_plain.specs.Plain.{stat_of}
use Rattle.ec_plain.specs.declared.call.Reply.TheVariants as reply
use Rattle.ec_volume.specs.declared.image.Kind.TheVariants as kind
use Rattle.ec_order.specs.Order.{is_overwrite, meet, under}
use Rattle.ec_history.proofs.OfLaws.ForPlacing.Ranges.{length-overwritten, ranges-commute, none-commute}
use Rattle.ec_base.proofs.Bools.{on as holds, is-true}

pub overwrite-is : (u : Update) → is_overwrite u ≡ true → (p : ℕ) × (at : ℕ) × (bs : List ℕ) × (u ≡ Put p at bs true)
overwrite-is (Put p at bs true) w = (p, at, bs, refl)
overwrite-is u w = absurd (holds w)

room : (p at : ℕ) (bs : List ℕ) (o : ℕ) (i : Image) → T (fits (Put p at bs true) o i) → T (is_file i) × (at + length bs ≤ length (bytes_of i))
room p at bs o i f =
    let parts = and_parts (is_file i) (leb (at + length bs) (length (bytes_of i))) (is-true (is_file i && leb (at + length bs) (length (bytes_of i))) f) in
    (holds parts.0, leb-true (at + length bs) (length (bytes_of i)) parts.1)

kind-kept : (f : List ℕ → List ℕ) (i : Image) → is_file (with_bytes f i) ≡ is_file i
kind-kept f Gone = refl
kind-kept f (File m s w bs) = refl
kind-kept f (Dir m s w es) = refl

length-kept : (at : ℕ) (new : List ℕ) (i : Image) → at + length new ≤ length (bytes_of i) → length (bytes_of (with_bytes (overwritten at new) i)) ≡ length (bytes_of i)
length-kept at new Gone h = refl
length-kept at new (File m s w bs) h = omega (arith, length-overwritten at new bs, h)
length-kept at new (Dir m s w es) h = refl

stat-by : (f : List ℕ → List ℕ) (i : Image) → length (bytes_of (with_bytes f i)) ≡ length (bytes_of i) → stat_of (with_bytes f i) ≡ stat_of i
stat-by f Gone e = refl
stat-by f (File m s w bs) e = ap (reply.Stat kind.File m s w) e
stat-by f (Dir m s w es) e = refl

module _ (o : ℕ) (i : Image) (u : Update) (w : is_overwrite u ≡ true) where
  pub overwrite-file : T (fits u o i) → T (is_file i)
  overwrite-file f =
      let (p, at, bs, e) = overwrite-is u w in
      (room p at bs o i (subst (λ x. T (fits x o i)) e f)).0

  pub overwrite-kind : is_file (effect u o i) ≡ is_file i
  overwrite-kind =
      let (p, at, bs, e) = overwrite-is u w in
      ap (λ x. is_file (effect x o i)) e ∙ kind-kept (overwritten at bs) i

  pub overwrite-length : T (fits u o i) → length (bytes_of (effect u o i)) ≡ length (bytes_of i)
  overwrite-length f =
      let (p, at, bs, e) = overwrite-is u w in
      ap (λ x. length (bytes_of (effect x o i))) e ∙ length-kept at bs i (room p at bs o i (subst (λ x. T (fits x o i)) e f)).1

  pub overwrite-stat : T (fits u o i) → stat_of (effect u o i) ≡ stat_of i
  overwrite-stat f =
      let (p, at, bs, e) = overwrite-is u w in
      ap (λ x. stat_of (effect x o i)) e ∙ stat-by (overwritten at bs) i (length-kept at bs i (room p at bs o i (subst (λ x. T (fits x o i)) e f)).1)

pub overwrite-by : (o : ℕ) (i j : Image) (u : Update) → is_overwrite u ≡ true → is_file i ≡ is_file j → length (bytes_of i) ≡ length (bytes_of j) → fits u o i ≡ fits u o j
overwrite-by o i j u w k l =
    let (p, at, bs, e) = overwrite-is u w in
    ap (λ x. fits x o i) e
    ∙ ap (λ b. b && leb (at + length bs) (length (bytes_of i))) k
    ∙ ap (λ n. is_file j && leb (at + length bs) n) l
    ∙ sym (ap (λ x. fits x o j) e)

-- behind an overwrite that fits, another one fits as before
pub still-fits : (o : ℕ) (i : Image) (a b : Update) → is_overwrite a ≡ true → is_overwrite b ≡ true → fits a o i ≡ true → fits b o (effect a o i) ≡ fits b o i
still-fits o i a b x y f = overwrite-by o (effect a o i) i b y (overwrite-kind o i a x) (overwrite-length o i a x (holds f))

pub either-order : (x y x' y' rest : Bool) → (x ≡ true → y' ≡ y) → (y ≡ true → x' ≡ x) → (x && (y' && rest)) ≡ (y && (x' && rest))
either-order true true x' y' rest f g = ap (λ b. b && rest) (f refl ∙ sym (g refl))
either-order true false x' y' rest f g = ap (λ b. b && rest) (f refl)
either-order false true x' y' rest f g = ap (λ b. b && rest) (sym (g refl))
either-order false false x' y' rest f g = refl

pub fit-both : (o : ℕ) (i : Image) (a b : Update) → is_overwrite a ≡ true → is_overwrite b ≡ true → fits_in_turn o i (a ∷ b ∷ []) ≡ fits_in_turn o i (b ∷ a ∷ [])
fit-both o i a b x y = go (has_operand o a) (has_operand o b)
  where
    go : (p q : Bool) → ((not p || fits a o i) && ((not q || fits b o (cond p (effect a o i) i)) && true)) ≡ ((not q || fits b o i) && ((not p || fits a o (cond q (effect b o i) i)) && true))
    go true true = either-order (fits a o i) (fits b o i) (fits a o (effect b o i)) (fits b o (effect a o i)) true (still-fits o i a b x y) (still-fits o i b a y x)
    go true false = refl
    go false true = refl
    go false false = refl

-- Ranges that don't meet.

-- What keeps them apart: one of them is empty, or ends before the other.
data Apart (p k q l : ℕ) : Type 0 where
  none : k ≡ 0 → Apart p k q l
  no_other : l ≡ 0 → Apart p k q l
  first : p + k ≤ q → Apart p k q l
  last : q + l ≤ p → Apart p k q l

is-zero : (n : ℕ) → ltb 0 n ≡ false → n ≡ 0
is-zero n h = grind arith

small : (a b : ℕ) → a < b → ltb a b ≡ true
small a b h = grind arith

pub meet-place : (m k n l : ℕ) → meet m k n l ≡ true → (p : ℕ) × (m ≤ p) × (p < m + k) × (n ≤ p) × (p < n + l)
meet-place m k n l h =
    let a = and_parts (ltb 0 k && ltb 0 l && ltb m (n + l)) (ltb n (m + k)) h in
    let b = and_parts (ltb 0 k && ltb 0 l) (ltb m (n + l)) a.0 in
    let c = and_parts (ltb 0 k) (ltb 0 l) b.0 in
    let some : 0 < k = ltb-true 0 k c.0 in
    let some_other : 0 < l = ltb-true 0 l c.1 in
    let early : m < n + l = ltb-true m (n + l) b.1 in
    let late : n < m + k = ltb-true n (m + k) a.1 in
    elim (cases_lt m n) [
      | inl lt ↦ (n, omega (arith, lt), late, omega arith, omega (arith, some_other))
      | inr le ↦ (m, omega arith, omega (arith, some), le, early)
    ]

pub meet-from : (m k n l p : ℕ) → m ≤ p → p < m + k → n ≤ p → p < n + l → meet m k n l ≡ true
meet-from m k n l p a b c d =
    let first : ltb 0 k ≡ true = small 0 k (omega (arith, a, b)) in
    let last : ltb 0 l ≡ true = small 0 l (omega (arith, c, d)) in
    let early : ltb m (n + l) ≡ true = small m (n + l) (omega (arith, a, d)) in
    let late : ltb n (m + k) ≡ true = small n (m + k) (omega (arith, b, c)) in
    and_from (ltb 0 k && ltb 0 l && ltb m (n + l)) (ltb n (m + k)) (and_from (ltb 0 k && ltb 0 l) (ltb m (n + l)) (and_from (ltb 0 k) (ltb 0 l) first last) early) late

ranges-apart : (p k q l : ℕ) → meet p k q l ≡ false → Apart p k q l
ranges-apart p k q l h = elim (and_cases (ltb 0 k && ltb 0 l && ltb p (q + l)) (ltb q (p + k)) h) [
  | inl e ↦ elim (and_cases (ltb 0 k && ltb 0 l) (ltb p (q + l)) e) [
    | inl f ↦ elim (and_cases (ltb 0 k) (ltb 0 l) f) [ inl z ↦ none (is-zero k z) | inr z ↦ no_other (is-zero l z) ]
    | inr f ↦ last (ltb-false p (q + l) f)
  ]
  | inr e ↦ first (ltb-false q (p + k) e)
]

nothing : (xs : List ℕ) → length xs ≡ 0 → xs ≡ []
nothing [] e = refl
nothing (x ∷ xs) e = absurd (some (length xs) e)
  where
    some : (n : ℕ) → suc n ≡ 0 → ⊥
    some n e = omega (arith, e)

bytes-commute : (f g : List ℕ → List ℕ) (i : Image) → f (g (bytes_of i)) ≡ g (f (bytes_of i)) → with_bytes f (with_bytes g i) ≡ with_bytes g (with_bytes f i)
bytes-commute f g Gone e = refl
bytes-commute f g (File m s w bs) e = ap (File m s w) e
bytes-commute f g (Dir m s w es) e = refl

puts-commute : (o p q m n : ℕ) (xs ys : List ℕ) (i : Image) → meet m (length xs) n (length ys) ≡ false
    → effect (Put p m xs true) o (effect (Put q n ys true) o i) ≡ effect (Put q n ys true) o (effect (Put p m xs true) o i)
puts-commute o p q m n xs ys i h = bytes-commute (overwritten m xs) (overwritten n ys) i (elim (ranges-apart m (length xs) n (length ys) h) [
  | none e ↦ subst (λ zs. overwritten m zs (overwritten n ys (bytes_of i)) ≡ overwritten n ys (overwritten m zs (bytes_of i))) (sym (nothing xs e)) (none-commute m n ys (bytes_of i))
  | no_other e ↦ subst (λ zs. overwritten m xs (overwritten n zs (bytes_of i)) ≡ overwritten n zs (overwritten m xs (bytes_of i))) (sym (nothing ys e)) (sym (none-commute n m xs (bytes_of i)))
  | first l ↦ ranges-commute m n xs ys (bytes_of i) l
  | last l ↦ sym (ranges-commute n m ys xs (bytes_of i) l)
])

only-operand : (o p : ℕ) → ((o == p) || false) ≡ true → o ≡ p
only-operand o p e = elim (cases_Bool (o == p)) [
  | inl k ↦ eqb-true o p k
  | inr k ↦ absurd (true≢false (sym e ∙ ap (λ b. b || false) k))
]

one-file : (o p q m n : ℕ) (xs ys : List ℕ) → has_operand o (Put p m xs true) ≡ true → has_operand o (Put q n ys true) ≡ true → under (Put p m xs true) (Put q n ys true) ≡ false → meet m (length xs) n (length ys) ≡ false
one-file o p q m n xs ys a b h =
    let same : (p == q) ≡ true = ap (λ x. x == q) (sym (only-operand o p a)) ∙ ap (λ x. o == x) (sym (only-operand o q b)) ∙ self o in
    ap (λ c. c && meet m (length xs) n (length ys)) (sym same) ∙ h
  where
    self : (x : ℕ) → (x == x) ≡ true
    self x = grind arith

pub effects-commute : (o : ℕ) (i : Image) (a b : Update) → is_overwrite a ≡ true → is_overwrite b ≡ true → has_operand o a ≡ true → has_operand o b ≡ true → under a b ≡ false
    → effect a o (effect b o i) ≡ effect b o (effect a o i)
effects-commute o i a b x y ha hb h =
    let (p, m, xs, e) = overwrite-is a x in
    let (q, n, ys, k) = overwrite-is b y in
    let put-a : has_operand o (Put p m xs true) ≡ true = ap (has_operand o) (sym e) ∙ ha in
    let put-b : has_operand o (Put q n ys true) ≡ true = ap (has_operand o) (sym k) ∙ hb in
    let apart : under (Put p m xs true) (Put q n ys true) ≡ false = ap (λ z. under z (Put q n ys true)) (sym e) ∙ ap (under a) (sym k) ∙ h in
    ap (λ z. effect z o (effect b o i)) e
    ∙ ap (λ z. effect (Put p m xs true) o (effect z o i)) k
    ∙ puts-commute o p q m n xs ys i (one-file o p q m n xs ys put-a put-b apart)
    ∙ ap (λ z. effect z o (effect (Put p m xs true) o i)) (sym k)
    ∙ ap (λ z. effect b o (effect z o i)) (sym e)
