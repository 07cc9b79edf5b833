-- Numbers out of their range.
use Rattle.std.proofs.Common.{◌≡◌, ◌<◌, ◌-◌, ◌^◌, ℕ, List, sym, ◌∙◌, arith}
use Rattle.std.proofs.lemmas.Fmt.{decimal_injective}
use Rattle.ec_words.specs.Spelling.{IsNumberIn}

pub number_once : (w : List ℕ) (a b c d m n : ℕ) → b < 2 ^ 64 → d < 2 ^ 64 → IsNumberIn a b w m → IsNumberIn c d w n → m ≡ n
number_once w a b c d m n lb ld g h = decimal_injective m n (omega (arith, g.1.1)) (omega (arith, h.1.1)) (sym g.0 ∙ h.0)

pub not_below : (w : List ℕ) (least most m n : ℕ) → most < 2 ^ 64 → IsNumberIn 0 (2 ^ 64 - 1) w m → IsNumberIn least most w n → m < least → ⊥
not_below w least most m n lm g h lt = let e : m ≡ n = number_once w 0 (2 ^ 64 - 1) least most m n (omega arith) lm g h in omega (arith, h.1.0)

pub not_above : (w : List ℕ) (least most m n : ℕ) → most < 2 ^ 64 → IsNumberIn 0 (2 ^ 64 - 1) w m → IsNumberIn least most w n → most < m → ⊥
not_above w least most m n lm g h lt = let e : m ≡ n = number_once w 0 (2 ^ 64 - 1) least most m n (omega arith) lm g h in omega (arith, h.1.1)
