-- The paths of a call, one more at a time.
use Rattle.std.proofs.Common.{◌≡◌, ◌≢◌, ◌∙◌, ℕ, ◌+◌, ◌<◌, ◌≤◌, List, [], length, inl, inr, subst, sym, refl, ap, arith, Bool, true, false, Option, Some, None, ◌⊎◌}
use Rattle.std.specs.Prelude.{if◌then◌else◌, not, eqb, slice_get, unwrap_or, is_some, T}
use Rattle.std.proofs.lemmas.Bool.{cases_eq, eqb-true, eqb-false, not-false, not-true}
use Rattle.std.proofs.lemmas.Option.{slice_get_cases, slice_get_within, unwrap_or-slice_get}
use Rattle.ec_plain.specs.Walk.{Path}
use Rattle.ec_mount_words.specs.declared.route.routes.Route.TheVariants.{To, NoVolume, CrossVolume}
use Rattle.ec_mount_words.specs.OfRoute.Conditions.{AreOrdered}
use Rattle.ec_mount_words.specs.OfRoute.Routes.{path_at, Goes, HasVolume, HasNoVolume, IsRoute}

-- Each of the first paths has a volume. The first one goes to this place, and unless two go to different ones they all do.
pub record AreSeen (table paths : List Path) (upto to : ℕ) (crosses : Bool) : Type 0 where
  pub within : upto ≤ length paths
  pub each : (i : ℕ) → i < upto → HasVolume table (path_at paths i)
  pub first : 0 < upto → Goes table (path_at paths 0) to
  pub alike : crosses ≡ false → (i : ℕ) → i < upto → Goes table (path_at paths i) to
  pub apart : crosses ≡ true → (i : ℕ) × (other : ℕ) × (i < upto) × Goes table (path_at paths i) other × (to ≢ other)

is_at : (paths : List Path) (i : ℕ) (path : Path) → slice_get paths i ≡ Some path → path_at paths i ≡ path
is_at paths i path is = sym (unwrap_or-slice_get paths i []) ∙ ap (λ (o : Option Path). unwrap_or o []) is

-- no path stands there
pub past : (paths : List Path) (i : ℕ) → slice_get paths i ≡ None → length paths ≤ i
past paths i none = elim ((slice_get_cases paths i).1) [
  | inl some ↦ absurd (subst T (ap is_some (sym some.2 ∙ none)) tt)
  | inr over ↦ over.0
]

-- where the first path goes, which is this one or went before
abbrev pub IsFirst : ℕ → ℕ → ℕ → ℕ → Type 0
IsFirst i place to new = ((i ≡ 0) × (new ≡ place)) ⊎ ((0 < i) × (new ≡ to))

-- two paths went to different volumes before, or this one goes to another than the first
abbrev pub Grows : ℕ → ℕ → Bool → Bool → Type 0
Grows place new crosses more = ((crosses ≡ true) × (more ≡ true)) ⊎ ((crosses ≡ false) × (more ≡ not (eqb place new)))

module _ (table paths : List Path) where
  -- the path at this place is this one, and has no volume
  pub no_volume : (i to : ℕ) (crosses : Bool) (path : Path) → AreSeen table paths i to crosses → slice_get paths i ≡ Some path → HasNoVolume table path → IsRoute table paths (NoVolume (i + 1))
  no_volume i to crosses path so_far there none = (i, refl, slice_get_within paths i path there, subst (λ (p : Path). HasNoVolume table p) (sym (is_at paths i path there)) none, so_far.each)

  pub one_more : (i to place new : ℕ) (crosses more : Bool) (path : Path) → AreSeen table paths i to crosses → slice_get paths i ≡ Some path → Goes table path place → IsFirst i place to new → Grows place new crosses more → AreSeen table paths (i + 1) new more
  one_more i to place new crosses more path so_far there goes first grows =
      let here : Goes table (path_at paths i) place = subst (λ (p : Path). Goes table p place) (sym (is_at paths i path there)) goes in
      record {
        within = omega (arith, slice_get_within paths i path there);
        each = λ j lt. elim (cases_eq j i) [
          | inl is ↦ (place, subst (λ (k : ℕ). Goes table (path_at paths k) place) (sym is) here)
          | inr other ↦ so_far.each j (omega (arith, lt, other))
        ];
        first = λ some. elim first [
          | inl begins ↦ subst (λ (k : ℕ). Goes table (path_at paths k) new) begins.0 (subst (λ (t : ℕ). Goes table (path_at paths i) t) (sym begins.1) here)
          | inr goes_on ↦ subst (λ (t : ℕ). Goes table (path_at paths 0) t) (sym goes_on.1) (so_far.first goes_on.0)
        ];
        alike = λ none j lt. elim grows [
          | inl had ↦ absurd (subst T (sym had.1 ∙ none) tt)
          | inr differs ↦
              let same : place ≡ new = eqb-true place new (not-false (eqb place new) (sym differs.1 ∙ none)) in
              elim (cases_eq j i) [
                | inl is ↦ subst (λ (t : ℕ). Goes table (path_at paths j) t) same (subst (λ (k : ℕ). Goes table (path_at paths k) place) (sym is) here)
                | inr other ↦ elim first [
                  | inl begins ↦ absurd (omega (arith, begins.0, lt, other))
                  | inr goes_on ↦ subst (λ (t : ℕ). Goes table (path_at paths j) t) (sym goes_on.1) (so_far.alike differs.0 j (omega (arith, lt, other)))
                ]
              ]
        ];
        apart = λ some. elim grows [
          | inl had ↦
              let two = so_far.apart had.0 in
              elim first [
                | inl begins ↦ absurd (omega (arith, begins.0, two.2))
                | inr goes_on ↦ (two.0, two.1, omega (arith, two.2), two.3, λ same. two.4 (sym goes_on.1 ∙ same))
              ]
          | inr differs ↦ (i, place, omega arith, here, λ same. eqb-false place new (not-true (eqb place new) (sym differs.1 ∙ some)) (sym same))
        ];
      }

  pub all_seen : (to : ℕ) (crosses : Bool) → AreOrdered paths → AreSeen table paths (length paths) to crosses → IsRoute table paths (if crosses then CrossVolume else To to)
  all_seen to true ordered seen =
      let two = seen.apart refl in
      (seen.each, (0, two.0, to, two.1, omega (arith, ordered.0), two.2, seen.first (omega (arith, ordered.0)), two.3, two.4))
  all_seen to false ordered seen = seen.alike refl
