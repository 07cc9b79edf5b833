-- The fields of a Shift, one behind the other.
use Rattle.std.proofs.Common.{◌≡◌, ℕ, Bool, true, false, List, [], ◌∷◌, Option, None, Some, refl, ap, ◌++◌, ◌∙◌, append_assoc, arith}
use Rattle.std.proofs.lemmas.Bool.{and_from}
use Rattle.std.specs.Prelude.{not, ◌==◌, ◌&&◌, ◌||◌}
use Rattle.std.specs.Int.{w32}
use Rattle.std.proofs.lemmas.Bool.Decides.{nat_tests}
use Rattle.ec_volume.specs.Update.{Above, listed, member, distinct}
use Rattle.ec_volume.specs.declared.image.Kind.{Kind}
use Rattle.ec_codes.specs.Formats.{Format, number, standing}
use Rattle.ec_codes.specs.Spelling.{Writes}
use Rattle.ec_codes.specs.Fields.{id, id_but, kind_field, is_from_one, id_or_none, is_apart, victim_but, name}
use Rattle.ec_codes.proofs.Written.{chain}
use Rattle.ec_codes.specs.Updates.{way_fields, shift_fields}
use Rattle.ec_base.specs.Options.{or_zero}

second : (a b c : ℕ) (v : Option ℕ) → distinct (a ∷ b ∷ c ∷ listed v) ≡ true → not (member b (a ∷ [])) ≡ true
second a b c None h = grind (arith, nat_tests)
second a b c (Some v) h = grind (arith, nat_tests)

third : (a b c : ℕ) (v : Option ℕ) → distinct (a ∷ b ∷ c ∷ listed v) ≡ true → not (member c (a ∷ b ∷ [])) ≡ true
third a b c None h = grind (arith, nat_tests)
third a b c (Some v) h = grind (arith, nat_tests)

last : (a b c : ℕ) (v : Option ℕ) → distinct (a ∷ b ∷ c ∷ listed v) ≡ true → is_apart (a ∷ b ∷ c ∷ []) v ≡ true
last a b c None h = refl
last a b c (Some v) h = grind (arith, nat_tests)

pub shift_written : (dir into obj : ℕ) (k : Kind) (v : Option ℕ) (from to : List ℕ) (up : Above) (b0 b1 b2 b3 b4 b5 b6 b7 b8 : List ℕ) → distinct (dir ∷ into ∷ obj ∷ listed v) ≡ true
    → Writes id dir b0 b1 → Writes id into b1 b2 → Writes id obj b2 b3 → Writes kind_field k b3 b4 → Writes (standing or_zero is_from_one id_or_none (number w32)) v b4 b5
    → Writes name from b5 b6 → Writes name to b6 b7 → Writes (way_fields k into (into ∷ obj ∷ listed v)) up b7 b8
    → Writes shift_fields (dir, (into, (obj, (k, (v, (from, (to, up))))))) b0 b8
unfolding shift_fields
shift_written dir into obj k v from to up b0 b1 b2 b3 b4 b5 b6 b7 b8 apart w0 w1 w2 w3 w4 w5 w6 w7 = (
  chain _ _ b0 b1 b8 w0.0 (chain _ _ b1 b2 b8 w1.0 (chain _ _ b2 b3 b8 w2.0 (chain _ _ b3 b4 b8 w3.0 (chain _ _ b4 b5 b8 w4.0 (chain _ _ b5 b6 b8 w5.0 (chain _ _ b6 b7 b8 w6.0 w7.0)))))),
  and_from _ _ w0.1 (
      and_from _ _ (and_from _ _ w1.1 (second dir into obj v apart)) (
      and_from _ _ (and_from _ _ w2.1 (third dir into obj v apart)) (
      and_from _ _ w3.1 (
      and_from _ _ (and_from _ _ w4.1 (last dir into obj v apart)) (
      and_from _ _ w5.1 (
      and_from _ _ w6.1 w7.1)))))),
)
