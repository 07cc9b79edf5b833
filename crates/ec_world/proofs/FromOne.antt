-- Where the first id of a volume is from 1, all are.
use Rattle.std.proofs.Common.{◌≡◌, ◌≤◌, ◌<◌, ◌==◌, ℕ, zero, suc, T, Bool, true, false, List, [], ◌∷◌, length, Option, Some, None, if◌then◌else◌, refl, sym, ap, subst, ◌∙◌, arith}
use Rattle.std.specs.Prelude.{slice_get}
use Rattle.std.specs.Ordering.{nat_cmp, is_lt}
use Rattle.std.specs.FinMap.{is_sorted}
use Rattle.std.specs.FinMap.Entries.{below_all}
use Rattle.std.proofs.lemmas.Bool.{ne_eqb}
use Rattle.std.proofs.lemmas.Bool.Decides.{nat_tests}
use Rattle.ec_base.specs.SortedLaws.{first, second}
use Rattle.ec_volume.specs.Volume.{images}
use Rattle.ec_volume.specs.declared.image.Image.{Image}
use Rattle.ec_volume.specs.declared.image.Image.TheVariants.{Gone}

elsewhere : (e : ℕ × Image) (es : List (ℕ × Image)) → 1 ≤ e.0 → images (e ∷ es) 0 ≡ images es 0
elsewhere e es le = ap (λ (b : Bool). if b then e.1 else images es 0) (ne_eqb 0 e.0 (λ s. absurd (omega (arith, le, s))))

above : (x y : ℕ) → 1 ≤ x → T (is_lt (nat_cmp x y)) → 1 ≤ y
above x y le h = grind (arith, nat_tests, le, h)

none_below : (x : ℕ) (es : List (ℕ × Image)) → 1 ≤ x → T (below_all nat_cmp x es) → images es 0 ≡ Gone
none_below x [] le h = refl
none_below x (e ∷ es) le h = elsewhere e es (above x e.0 le (first _ _ h)) ∙ none_below x es le (second _ _ h)

pub none_at_zero : (es : List (ℕ × Image)) (e : ℕ × Image) → T (is_sorted nat_cmp es) → slice_get es 0 ≡ Some e → 1 ≤ e.0 → images es 0 ≡ Gone
none_at_zero [] e sorted is le = absurd cc
none_at_zero (f ∷ es) e sorted is le =
    let one : 1 ≤ f.0 = subst (λ (x : ℕ × Image). 1 ≤ x.0) (sym (same is)) le in
    elsewhere f es one ∙ none_below f.0 es one (first _ _ sorted)
  where
    same : ◌≡◌ {A = Option (ℕ × Image)} (Some f) (Some e) → f ≡ e
    same h = cc

pub none_at_all : (es : List (ℕ × Image)) → length es ≤ 0 → images es 0 ≡ Gone
none_at_all [] h = refl
none_at_all (e ∷ es) h = absurd (omega (arith, h))
