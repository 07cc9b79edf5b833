-- Parts of lines.
use Rattle.std.specs.Prelude.{◌≡◌, ◌⊎◌, ◌<◌, ℕ, List, [], ◌∷◌, length, take}
use Rattle.ec_history.specs.declared.shown.Shown.{Shown}
use Rattle.ec_words.specs.OfText.Lines.{shown_text}

-- a front of the text, not the whole
pub record IsCutFront (text front : List ℕ) : Type 0 where
  pub count : ℕ
  pub short : count < length text
  pub is : front ≡ take count text

-- a part of the first of these lines, not the whole
abbrev pub IsPartOf : List Shown → List ℕ → Type 0
IsPartOf [] last = last ≡ []
IsPartOf (s ∷ ss) last = (last ≡ []) ⊎ IsCutFront (shown_text s) last
