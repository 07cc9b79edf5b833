-- The directories above the one that takes a renamed object, where a walk from the root reached it.
use Rattle.std.proofs.Common.{◌≡◌, refl, sym, ap, subst, ◌∙◌, inl, inr, arith, ℕ, suc, T, Bool, true, false, not, ◌==◌, ◌&&◌, ◌||◌, cond, List, [], ◌∷◌, ◌++◌, Some}
use Rattle.std.specs.Prelude.{length, nat_le}
use Rattle.std.proofs.lemmas.Bool.{cases_Bool, eqb-true, and_parts, or_parts, true≢false}
use Rattle.std.proofs.lemmas.Bool.Decides.{nat_tests}
use Rattle.std.proofs.lemmas.List.Folds.{list_any-append}
use Rattle.ec_volume.specs.Entries.{Entries, entry}
use Rattle.ec_volume.specs.Image.{is_dir, is_id, is_bare, is_kind, gives, entries_of}
use Rattle.ec_volume.specs.Update.{root, ids_of, member, distinct, first_of, leads, is_way}
use Rattle.ec_volume.specs.Volume.{Images, Names, WellFormed}
use Rattle.ec_volume.specs.declared.image.Kind.{Kind}
use Rattle.ec_volume.specs.declared.image.Kind.TheVariants as kind
use Rattle.ec_volume.specs.declared.image.Image.{Image}
use Rattle.ec_plain.specs.Walk.{Path}
use Rattle.ec_plain.specs.Plain.{with_names, above}
use Rattle.ec_history.proofs.OfLaws.ForFormed.Walked.{Walked, walked-length, walked-first, walked-split, walked-leads, walked-dirs, read_once, home}
use Rattle.ec_base.proofs.Numbers.{same-self as self}
use Rattle.ec_base.proofs.Bools.{both, on as holds, is-true}

pub gives-named : (v : Images) (o : ℕ) (n : List ℕ) (p : ℕ) → T (is_dir (v o)) → Names v o n p → T (gives n p (v o))
gives-named v o n p dir named = both (is_dir (v o)) (is_id p (entry (entries_of (v o)) n)) dir (subst (λ x. T (is_id p x)) (sym named) (holds (self p)))

-- a bare image has no entry
pub bare-unnamed : (k : Kind) (i : Image) (n : List ℕ) (p : ℕ) → T (is_bare k i) → entry (entries_of i) n ≡ Some p → ⊥
bare-unnamed k i n p bare named = none (entries_of i) (and_parts (is_kind k i) (length (entries_of i) == 0) (is-true (is_bare k i) bare)).1 named
  where
    none : (es : Entries) → (length es == 0) ≡ true → entry es n ≡ Some p → ⊥
    none [] h named = cc
    none (e ∷ es) h named = absurd (longer (length es) h)
      where
        longer : (l : ℕ) → (suc l == 0) ≡ true → ⊥
        longer l h = grind arith

-- Lists without their last id.

member-front : (o q : ℕ) (xs : List ℕ) → member o (xs ++ q ∷ []) ≡ false → (member o xs ≡ false) × ((o == q) ≡ false)
member-front o q xs h =
    let parts = or_parts (member o xs) ((o == q) || false) (sym (list_any-append (λ p. o == p) xs (q ∷ [])) ∙ h) in
    (parts.0, (or_parts (o == q) false parts.1).0)

distinct-front : (xs : List ℕ) (q : ℕ) → distinct (xs ++ q ∷ []) ≡ true → (distinct xs ≡ true) × (member q xs ≡ false)
distinct-front [] q h = (refl, refl)
distinct-front (x ∷ xs) q h =
    let parts = and_parts (not (member x (xs ++ q ∷ []))) (distinct (xs ++ q ∷ [])) h in
    let rest = distinct-front xs q parts.1 in
    let away = member-front x q xs (lacks (member x (xs ++ q ∷ [])) parts.0) in
    (λ i. not (away.0 i) && rest.0 i, λ i. turned q x away.1 i || rest.1 i)
  where
    lacks : (b : Bool) → not b ≡ true → b ≡ false
    lacks true e = sym e
    lacks false e = refl

    turned : (m n : ℕ) → (n == m) ≡ false → (m == n) ≡ false
    turned m n e = grind (arith, nat_tests)

module _ (v : Images) (f : WellFormed v) (ns : Path) (ps : List ℕ) (e : ℕ) (w : Walked v root ns ps e) where
  apart : (distinct (ids_of (with_names ps ns)) ≡ true) × (member e (ids_of (with_names ps ns)) ≡ false)
  apart = distinct-front (ids_of (with_names ps ns)) e (ap distinct (sym (walked-split v root ns ps e w)) ∙ is-true (distinct ps) (read_once v f ns ps e w))

  pub above-apart : (k : Kind) → distinct (ids_of (above k ps ns)) ≡ true
  above-apart kind.File = refl
  above-apart kind.Dir = apart.0

  pub above-end : (k : Kind) → member e (ids_of (above k ps ns)) ≡ false
  above-end kind.File = refl
  above-end kind.Dir = apart.1

  pub above-lacks : (k : Kind) (o : ℕ) → (k ≡ kind.Dir → member o ps ≡ false) → member o (ids_of (above k ps ns)) ≡ false
  above-lacks kind.File o h = refl
  above-lacks kind.Dir o h = (member-front o e (ids_of (with_names ps ns)) (ap (member o) (sym (walked-split v root ns ps e w)) ∙ h refl)).0

  pub above-bare : (k : Kind) (t : ℕ) → T (is_bare k (v t)) → member t (ids_of (above k ps ns)) ≡ false
  above-bare kind.File t bare = refl
  above-bare kind.Dir t bare = elim (cases_Bool (member t (ids_of (with_names ps ns)))) [
    | inl m ↦ let (dir, n, p, named) = walked-dirs v root ns ps e w t (holds m) in absurd (bare-unnamed kind.Dir (v t) n p bare named)
    | inr m ↦ m
  ]

  pub above-leads : (k : Kind) (x : ℕ) → T (leads (above k ps ns) e x (v x))
  above-leads kind.File x = tt
  above-leads kind.Dir x = walked-leads v root ns ps e w x

  way-dir : (b : Bool) → (e == root) ≡ b → nat_le (length ns) 15 ≡ true
      → (cond b (length (with_names ps ns) == 0) (nat_le 1 (length (with_names ps ns)) && nat_le (length (with_names ps ns)) 15 && (first_of (with_names ps ns) e == root))) ≡ true
  way-dir true at short = ap (λ l. l == 0) (walked-length v root ns ps e w ∙ ap length (home v f ns ps (subst (λ x. Walked v root ns ps x) (eqb-true e root at) w)))
  way-dir false at short =
      let long = walked-length v root ns ps e w in
      let first : (first_of (with_names ps ns) e == root) ≡ true = ap (λ x. x == root) (walked-first v root ns ps e w) ∙ self root in
      let one = ap (λ l. nat_le 1 l) long ∙ some ns w in
      let most = ap (λ l. nat_le l 15) long ∙ short in
      λ i. one i && most i && first i
    where
      some : (ns : Path) → Walked v root ns ps e → nat_le 1 (length ns) ≡ true
      some [] w = absurd (true≢false (sym (self root) ∙ ap (λ x. x == root) (sym w.1) ∙ at))
      some (n ∷ ns) w = more (length ns)
        where
          more : (l : ℕ) → nat_le 1 (suc l) ≡ true
          more l = grind arith

  pub above-way : (k : Kind) → nat_le (length ns) 15 ≡ true → is_way k e (above k ps ns) ≡ true
  above-way kind.File short = refl
  above-way kind.Dir short = way-dir (e == root) refl short
