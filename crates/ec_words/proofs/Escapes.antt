-- Texts read byte by byte.
use Rattle.std.proofs.Common.{◌≡◌, ℕ, List, [], ◌∷◌, ◌++◌, Option, Some, None, refl, ap, sym, append_assoc, false}
use Rattle.std.proofs.lemmas.List.{append-nil}
use Rattle.std.specs.Prelude.{eqb}
use Rattle.ec_words.specs.Spelling.{text_of, led_by, plain_byte}

-- a text behind what was read of it
abbrev pub behind_text : List ℕ → Option (List ℕ) → Option (List ℕ)
behind_text text (Some bytes) = Some (text ++ bytes)
behind_text text None = None

pub one_byte : (text : List ℕ) (b : ℕ) (more : Option (List ℕ)) → behind_text text (led_by (Some b) more) ≡ behind_text (text ++ b ∷ []) more
one_byte text b (Some bytes) = ap Some (sym (append_assoc text (b ∷ []) bytes))
one_byte text b None = refl

pub no_bytes : (text : List ℕ) → behind_text text (Some []) ≡ Some text
no_bytes text = ap Some (append-nil text)

pub begun : (more : Option (List ℕ)) → more ≡ behind_text [] more
begun (Some bytes) = refl
begun None = refl

pub plain_next : (b : ℕ) (ws : List ℕ) → eqb b 37 ≡ false → text_of (b ∷ ws) ≡ led_by (plain_byte b) (text_of ws)
plain_next b [] e = rw e refl
plain_next b (h ∷ []) e = rw e refl
plain_next b (h ∷ l ∷ ws) e = rw e refl
