-- The nearest of a table's volumes, one volume more at a time.
use Rattle.std.proofs.Common.{◌≡◌, ℕ, ◌+◌, ◌<◌, ◌≤◌, List, ◌++◌, length, drop, inl, inr, ap, subst, sym, refl, ◌∙◌, arith, Bool, true, false}
use Rattle.std.specs.Prelude.{nat_eq, T}
use Rattle.std.specs.Bool.{Decides}
use Rattle.std.specs.List.{starts_with}
use Rattle.std.specs.Cmp.Lexicographic.{pointwise}
use Rattle.std.proofs.lemmas.Bool.{cases_eq}
use Rattle.std.proofs.lemmas.Bool.Decides.{Decides-eqb}
use Rattle.std.proofs.lemmas.Slice.Eq.{slice_eq-Decides, starts_is}
use mathlib.Core.List.{IsPrefix}
use Rattle.ec_plain.specs.Walk.{Path}
use Rattle.ec_mount_words.specs.OfRoute.Routes.{path_at, Goes, HasNoVolume}

-- Of the first volumes of the table with a mount path in front of the path none has more names than the one found. Without one the reach is 0.
pub record IsNearest (table : List Path) (path : Path) (upto found reach : ℕ) : Type 0 where
  pub least : (i : ℕ) → i < upto → IsPrefix (path_at table i) path → length (path_at table i) < reach
  pub there : 0 < reach → (found < length table) × IsPrefix (path_at table found) path × (reach ≡ length (path_at table found) + 1)

-- names are equal where their bytes are
same_name : (a b : List ℕ) → Decides (pointwise nat_eq a b) (a ≡ b)
same_name a b = slice_eq-Decides Decides-eqb a b (pointwise nat_eq a b) refl

-- what a test of the first names says
pub tested : (b : Bool) (names mount path first : Path) → names ≡ path → mount ≡ first → b ≡ starts_with (pointwise nat_eq) names mount → (b ≡ true → IsPrefix first path) × (b ≡ false → IsPrefix first path → ⊥)
tested b names mount path first same alike is =
    let said = starts_is same_name names mount b is in (
      λ yes. (drop (length mount) names, ap (λ (m : Path). m ++ drop (length mount) names) (sym alike) ∙ sym (said.0 yes) ∙ same),
      λ isnt below. subst T (sym (said.1 below.0 (same ∙ sym below.1 ∙ ap (λ (m : Path). m ++ below.0) (sym alike))) ∙ isnt) tt,
    )

module _ (table : List Path) (path : Path) where
  pub nearer : (upto found reach : ℕ) → IsNearest table path upto found reach → upto < length table → IsPrefix (path_at table upto) path → reach ≤ length (path_at table upto) → IsNearest table path (upto + 1) upto (length (path_at table upto) + 1)
  nearer upto found reach so_far within below longer = record {
    least = λ i lt there. elim (cases_eq i upto) [
      | inl is ↦ subst (λ (k : ℕ). length (path_at table k) < length (path_at table upto) + 1) (sym is) (omega arith)
      | inr other ↦ omega (arith, so_far.least i (omega (arith, lt, other)) there, longer)
    ];
    there = λ some. (within, below, refl);
  }

  pub passed : (upto found reach : ℕ) → IsNearest table path upto found reach → (IsPrefix (path_at table upto) path → length (path_at table upto) < reach) → IsNearest table path (upto + 1) found reach
  passed upto found reach so_far short = record {
    least = λ i lt there. elim (cases_eq i upto) [
      | inl is ↦ subst (λ (k : ℕ). length (path_at table k) < reach) (sym is) (short (subst (λ (k : ℕ). IsPrefix (path_at table k) path) is there))
      | inr other ↦ so_far.least i (omega (arith, lt, other)) there
    ];
    there = so_far.there;
  }

  pub all_seen : (found reach : ℕ) → IsNearest table path (length table) found reach → 0 < reach → Goes table path found
  all_seen found reach nearest some =
      let at = nearest.there some in
      record { inside = at.0; below = at.1; longest = λ i lt below. omega (arith, nearest.least i lt below, at.2) }

  pub none_seen : (found : ℕ) → IsNearest table path (length table) found 0 → HasNoVolume table path
  none_seen found nearest i lt below = omega (arith, nearest.least i lt below)
