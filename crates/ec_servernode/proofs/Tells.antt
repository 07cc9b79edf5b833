-- The clerks that are told, by their bits.
use Rattle.std.proofs.Common.{◌≡◌, ◌==◌, ◌||◌, ℕ, ◌*◌, ◌%◌, ◌^◌, ◌<◌, Bool, true, false, refl, ap, sym, ◌∙◌, eqb-true, eq-eqb}
use Rattle.std.specs.Prelude.{bit_or}
use Rattle.std.specs.Int.{bit_at, w16}
use Rattle.std.proofs.lemmas.Nat.Bits.{bit_at_set_same, bit_at_set_other}

pub set_bit : (n d c : ℕ) → d < 16 → (bit_at (bit_or n (1 * 2 ^ d % 2 ^ 16)) c == 1) ≡ ((bit_at n c == 1) || (d == c))
set_bit n d c small = on (d == c) refl where
  differ : (d == c) ≡ false → c ≡ d → ⊥
  differ h e = no (sym h ∙ eq-eqb d c (sym e)) where
    no : false ≡ true → ⊥
    no x = cc x

  or_true : (b : Bool) → true ≡ (b || true)
  or_true true = refl
  or_true false = refl

  or_false : (b : Bool) → b ≡ (b || false)
  or_false true = refl
  or_false false = refl

  on : (t : Bool) → (d == c) ≡ t → (bit_at (bit_or n (1 * 2 ^ d % 2 ^ 16)) c == 1) ≡ ((bit_at n c == 1) || t)
  on true h =
      ap (λ k. bit_at (bit_or n (1 * 2 ^ d % 2 ^ 16)) k == 1) (sym (eqb-true d c h))
      ∙ (ap (λ x. x == 1) (bit_at_set_same w16 n d small) ∙ or_true (bit_at n c == 1))
  on false h = ap (λ x. x == 1) (bit_at_set_other w16 n d small c (differ h)) ∙ or_false (bit_at n c == 1)
