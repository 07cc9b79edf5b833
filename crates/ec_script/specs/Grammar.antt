-- The grammar of a line.
use Rattle.std.specs.Prelude.{◌≡◌, ◌⊎◌, ℕ, List, [], ◌∷◌, ⊤}
use Rattle.std.proofs.Common.{inl, inr}
use Rattle.ec_plain.specs.declared.call.Call.{Call}
use Rattle.ec_words.specs.declared.name.Keyword.{Keyword}
use Rattle.ec_words.specs.declared.name.Keyword.TheVariants as keyword
use Rattle.ec_words.specs.Words.{words_of}
use Rattle.ec_words.specs.Rows.{Word, ◌▸◌, End, Last, ◌⊳◌, ◌makes◌, FirstUnfit, shown_column}
use Rattle.ec_words.specs.Spelling.{IsClerk, IsSmallNumber, IsNumber, IsArmed, IsLane, IsKind, IsChoice, IsKeyword}
use Rattle.ec_words.specs.Calls.{SpellsCall}
use Rattle.ec_script.specs.declared.line.Line.{Line}
use Rattle.ec_script.specs.declared.line.Line.TheVariants as line
use Rattle.ec_script.specs.declared.line.LineFault.{LineFault}
use Rattle.ec_script.specs.declared.line.LineFault.TheVariants as fault

-- what stands behind the first word of a line, and the line that it makes
abbrev pub Says : Keyword → List Word → Line → Type 0
Says keyword.Push = (IsClerk ▸ Last IsNumber) makes λ x. line.Push x.0 x.1
Says keyword.Cut = Last IsClerk makes line.Cut
Says keyword.Uncut = Last IsClerk makes line.Uncut
Says keyword.Drop = (IsClerk ▸ IsKind ▸ Last IsSmallNumber) makes λ x. line.Drop x.0 x.1.0 x.1.1
Says keyword.Repeat = (IsClerk ▸ IsKind ▸ Last IsSmallNumber) makes λ x. line.Repeat x.0 x.1.0 x.1.1
Says keyword.Deliver = (IsClerk ▸ IsKind ▸ Last IsSmallNumber) makes λ x. line.Deliver x.0 x.1.0 x.1.1
Says keyword.Resend = Last IsClerk makes line.Resend
Says keyword.Crash = Last IsClerk makes line.Crash
Says keyword.End = Last IsClerk makes line.End
Says keyword.Stop = End makes λ x. line.Stop
Says keyword.Arm = (IsArmed ▸ Last IsChoice) makes λ x. line.Arm x.0 x.1
Says keyword.Restart = End makes λ x. line.Restart

-- what a line begins with: a clerk, or a keyword
abbrev pub Head : Type 0
Head = ℕ ⊎ Keyword

abbrev pub IsHead : Word → Head → Type 0
IsHead w (inl c) = IsClerk w c
IsHead w (inr k) = IsKeyword w k

abbrev pub Begun : Head → List Word → Line → Type 0
Begun (inl c) = SpellsCall makes line.Call c
Begun (inr k) = Says k

abbrev pub Spells : List Word → Line → Type 0
Spells = IsHead ⊳ Begun

-- a line that is empty or begins with `#`
abbrev pub IsComment : List ℕ → Type 0
IsComment [] = ⊤
IsComment (byte ∷ bytes) = byte ≡ 35

-- The grammar: the line is read so.
abbrev pub IsLine : List ℕ → Line → Type 0
IsLine bytes l = (IsComment bytes × (l ≡ line.Comment)) ⊎ Spells (words_of bytes) l

-- Outside a grammar of words: the column of the first word that doesn't fit.
abbrev pub IsOutside : {X : Type 0} → (List Word → X → Type 0) → List ℕ → LineFault → Type 0
IsOutside G bytes (fault.At column) = (k : ℕ) × (FirstUnfit G (words_of bytes) k × (column ≡ shown_column bytes k))
IsOutside G bytes fault.NoMemory = ⊤

abbrev pub IsFault : List ℕ → LineFault → Type 0
IsFault bytes (fault.At column) = ((l : Line) → IsLine bytes l → ⊥) × IsOutside Spells bytes (fault.At column)
IsFault bytes fault.NoMemory = ⊤

-- a line of a lane: the lane's number and a call
abbrev pub SpellsLane : List Word → ℕ × Call → Type 0
SpellsLane = IsLane ▸ SpellsCall

abbrev pub IsLaneLine : List ℕ → ℕ × Call → Type 0
IsLaneLine bytes = SpellsLane (words_of bytes)
