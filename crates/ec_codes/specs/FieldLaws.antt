-- The laws of the fields.
use Rattle.std.proofs.Common.{◌≡◌, ℕ, zero, suc, ◌<◌, ◌≤◌, Bool, true, false, cond, eqb, List, [], ◌∷◌, length, Option, Some, None, refl, sym, ap, ◌∙◌, ◌⊎◌, inl, inr, arith}
use Rattle.std.specs.Prelude.{nat_le}
use Rattle.std.proofs.lemmas.Bool.{eqb-true, eqb-false, cases_Bool, leb-true, le-leb}
use Rattle.std.specs.Int.{w16, w32, w64}
use Rattle.ec_volume.specs.declared.image.Kind.{Kind}
use Rattle.ec_volume.specs.declared.image.Kind.TheVariants as kind
use Rattle.ec_codes.specs.Formats.{Format, byte, number, such, standing, text}
use Rattle.ec_codes.specs.FormatLaws.{IsFormat, byte-is, number16-is, number32-is, number64-is, such_is, standing_is, text_is}
use Rattle.ec_codes.specs.Fields.{word, long, id, id_but, kind_number, kind_of, kind_field, flag_number, flag_of, flag, is_from_one, id_or_none, is_apart, victim_but, mode_field, is_name_length, is_name, name}
use Rattle.ec_base.specs.SmallLaws.{same_some}
use Rattle.ec_base.specs.Options.{or_zero}

pub word-is : IsFormat word
unfolding word
word-is = number32-is

pub long-is : IsFormat long
unfolding long
long-is = number64-is

pub id-is : IsFormat id
unfolding id
id-is = such_is _ (number w32) number32-is

pub id_but_is : (os : List ℕ) → IsFormat (id_but os)
id_but_is os = such_is _ id id-is

kind_back : (k : Kind) → kind_of (kind_number k) ≡ Some k
kind_back kind.File = refl
kind_back kind.Dir = refl

pub two_of : {A : Type 0} (b c : Bool) (x y z : A) → cond b (Some x) (cond c (Some y) None) ≡ Some z → ((b ≡ true) × (x ≡ z)) ⊎ ((c ≡ true) × (y ≡ z))
two_of true c x y z e = inl (refl, same_some x z e)
two_of false true x y z e = inr (refl, same_some y z e)
two_of false false x y z e = absurd cc

pub kind-is : IsFormat kind_field
unfolding kind_field
kind-is = standing_is kind_number (λ k. true) kind_of byte byte-is (λ k h. kind_back k)
    (λ n k e. elim (two_of (eqb n 1) (eqb n 2) kind.File kind.Dir k e) [
      | inl h ↦ (sym (eqb-true n 1 h.0 ∙ ap kind_number h.1), refl)
      | inr h ↦ (sym (eqb-true n 2 h.0 ∙ ap kind_number h.1), refl)
    ])

flag_back : (b : Bool) → flag_of (flag_number b) ≡ Some b
flag_back false = refl
flag_back true = refl

pub flag-is : IsFormat flag
unfolding flag
flag-is = standing_is flag_number (λ b. true) flag_of byte byte-is (λ b h. flag_back b)
    (λ n b e. elim (two_of (eqb n 0) (eqb n 1) false true b e) [
      | inl h ↦ (sym (eqb-true n 0 h.0 ∙ ap flag_number h.1), refl)
      | inr h ↦ (sym (eqb-true n 1 h.0 ∙ ap flag_number h.1), refl)
    ])

pub victim_back : (v : Option ℕ) → is_from_one v ≡ true → id_or_none (or_zero v) ≡ Some v
victim_back None h = refl
victim_back (Some n) h =
    elim (cases_Bool (eqb n 0)) [
      | inl zero_is ↦ absurd (omega (arith, eqb-true n 0 zero_is, leb-true 1 n h))
      | inr not_zero ↦ rw not_zero refl
    ]

pub zero_or : (b : Bool) (n : ℕ) (v : Option ℕ) → cond b (Some None) (Some (Some n)) ≡ Some v → ((b ≡ true) × (None ≡ v)) ⊎ ((b ≡ false) × (Some n ≡ v))
zero_or true n v e = inl (refl, same_some None v e)
zero_or false n v e = inr (refl, same_some (Some n) v e)

pub victim_forth : (n : ℕ) (v : Option ℕ) → id_or_none n ≡ Some v → (or_zero v ≡ n) × (is_from_one v ≡ true)
victim_forth n v e =
    elim (zero_or (eqb n 0) n v e) [
      | inl h ↦ (ap or_zero (sym h.1) ∙ sym (eqb-true n 0 h.0), ap is_from_one (sym h.1))
      | inr h ↦ (ap or_zero (sym h.1), ap is_from_one (sym h.1) ∙ le-leb 1 n (omega (arith, eqb-false n 0 h.0)))
    ]

pub victim_but_is : (os : List ℕ) → IsFormat (victim_but os)
victim_but_is os = such_is (is_apart os) _ (standing_is or_zero is_from_one id_or_none (number w32) number32-is victim_back victim_forth)

pub name-is : IsFormat name
unfolding name
name-is = such_is is_name _ (text_is (such is_name_length byte) (λ n. omega arith) (such_is is_name_length byte byte-is))

pub mode_field-is : IsFormat mode_field
unfolding mode_field
mode_field-is = such_is (λ m. nat_le m 4095) (number w16) number16-is
