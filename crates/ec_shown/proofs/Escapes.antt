-- Texts read byte by byte.
use Rattle.std.proofs.Common.{◌≡◌, ℕ, List, [], ◌∷◌, refl, false}
use Rattle.std.specs.Prelude.{eqb}
use Rattle.ec_words.specs.Spelling.{led_by}
use Rattle.ec_shown.specs.Spelling.{written_of, bare_byte}

pub bare_next : (b : ℕ) (ws : List ℕ) → eqb b 37 ≡ false → written_of (b ∷ ws) ≡ led_by (bare_byte b) (written_of ws)
bare_next b [] e = rw e refl
bare_next b (h ∷ []) e = rw e refl
bare_next b (h ∷ l ∷ ws) e = rw e refl
