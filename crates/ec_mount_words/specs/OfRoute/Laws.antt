-- A path of a table of different mount paths has one volume, and a call one route.
use Rattle.std.proofs.Common.{◌≡◌, ◌∙◌, ℕ, ◌+◌, ◌<◌, List, length, inl, inr, ap, subst, sym, refl, arith, take}
use Rattle.std.proofs.Math.Seq.{take-append_seam}
use Rattle.std.proofs.lemmas.Bool.{cases_lt}
use mathlib.Core.List.{IsPrefix}
use Rattle.ec_plain.specs.Walk.{Path}
use Rattle.ec_mount_words.specs.declared.route.routes.Route.{Route}
use Rattle.ec_mount_words.specs.declared.route.routes.Route.TheVariants.{To, NoVolume, CrossVolume}
use Rattle.ec_mount_words.specs.OfRoute.Conditions.{AreOrdered, AreApart}
use Rattle.ec_mount_words.specs.OfRoute.Routes.{path_at, Goes, HasVolume, HasNoVolume, IsRoute}

-- fronts of one path that have as many names are equal
front_is : (front path : Path) → IsPrefix front path → take (length front) path ≡ front
front_is front path p = subst (λ (l : Path). take (length front) l ≡ front) p.1 (take-append_seam front p.0)

same_front : (one other path : Path) → IsPrefix one path → IsPrefix other path → length one ≡ length other → one ≡ other
same_front one other path p q many = sym (front_is one path p) ∙ ap (λ (n : ℕ). take n path) many ∙ front_is other path q

pub one_volume : (table : List Path) (path : Path) (a b : ℕ) → AreApart table → Goes table path a → Goes table path b → a ≡ b
one_volume table path a b apart one other =
    apart a b one.inside other.inside
    (same_front (path_at table a) (path_at table b) path one.below other.below (omega (arith, one.longest b other.inside other.below, other.longest a one.inside one.below)))

not_both : (table : List Path) (path : Path) → HasNoVolume table path → HasVolume table path → ⊥
not_both table path none some = none some.0 some.1.inside some.1.below

-- the first path without a volume is one
first_none : (table paths : List Path) (i j : ℕ) → HasNoVolume table (path_at paths i) → ((k : ℕ) → k < i → HasVolume table (path_at paths k)) → HasNoVolume table (path_at paths j) → ((k : ℕ) → k < j → HasVolume table (path_at paths k)) → i ≡ j
first_none table paths i j none before other sooner = elim (cases_lt i j) [
  | inl less ↦ absurd (not_both table (path_at paths i) none (sooner i less))
  | inr more ↦ elim (cases_lt j i) [
    | inl less ↦ absurd (not_both table (path_at paths j) other (before j less))
    | inr same ↦ omega (arith, more, same)
  ]
]

pub one_route : (table paths : List Path) (one other : Route) → AreApart table → AreOrdered paths → IsRoute table paths one → IsRoute table paths other → one ≡ other
one_route table paths (To a) (To b) apart some p q = ap To (one_volume table (path_at paths 0) a b apart (p 0 (omega (arith, some.0))) (q 0 (omega (arith, some.0))))
one_route table paths (To a) (NoVolume m) apart some p q = absurd (not_both table (path_at paths q.0) q.3 (a, p q.0 q.2))
one_route table paths (To a) CrossVolume apart some p q =
    absurd (q.1.8 (one_volume table (path_at paths q.1.0) q.1.2 a apart q.1.6 (p q.1.0 q.1.4) ∙ one_volume table (path_at paths q.1.1) a q.1.3 apart (p q.1.1 q.1.5) q.1.7))
one_route table paths (NoVolume n) (To b) apart some p q = absurd (not_both table (path_at paths p.0) p.3 (b, q p.0 p.2))
one_route table paths (NoVolume n) (NoVolume m) apart some p q = ap NoVolume (p.1 ∙ ap (λ (i : ℕ). i + 1) (first_none table paths p.0 q.0 p.3 p.4 q.3 q.4) ∙ sym q.1)
one_route table paths (NoVolume n) CrossVolume apart some p q = absurd (not_both table (path_at paths p.0) p.3 (q.0 p.0 p.2))
one_route table paths CrossVolume (To b) apart some p q =
    absurd (p.1.8 (one_volume table (path_at paths p.1.0) p.1.2 b apart p.1.6 (q p.1.0 p.1.4) ∙ one_volume table (path_at paths p.1.1) b p.1.3 apart (q p.1.1 p.1.5) p.1.7))
one_route table paths CrossVolume (NoVolume m) apart some p q = absurd (not_both table (path_at paths q.0) q.3 (p.0 q.0 q.2))
one_route table paths CrossVolume CrossVolume apart some p q = refl
