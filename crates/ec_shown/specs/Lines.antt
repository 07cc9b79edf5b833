-- The grammar of transcript lines.
use Rattle.std.specs.Prelude.{◌⊎◌, ℕ, List, codes}
use Rattle.std.proofs.Common.{inl, inr}
use Rattle.ec_plain.specs.declared.call.Call.{Call}
use Rattle.ec_history.specs.declared.shown.Shown.{Shown}
use Rattle.ec_history.specs.declared.shown.Shown.TheVariants as shown
use Rattle.ec_words.specs.Words.{words_of}
use Rattle.ec_words.specs.Rows.{Word, ◌▸◌, End, Last, ◌⊳◌, ◌makes◌}
use Rattle.ec_words.specs.Spelling.{IsClerk, IsSmallNumber, IsNumber}
use Rattle.ec_script.specs.declared.line.LineFault.{LineFault}
use Rattle.ec_script.specs.Grammar.{IsOutside}
use Rattle.ec_shown.specs.declared.answer.Outcome.{Outcome}
use Rattle.ec_shown.specs.declared.answer.Outcome.TheVariants as outcome
use Rattle.ec_shown.specs.declared.name.Head.{Head}
use Rattle.ec_shown.specs.declared.name.Head.TheVariants as head
use Rattle.ec_shown.specs.Spelling.{IsLimit, IsCounter, IsHead}
use Rattle.ec_shown.specs.Rows.{Marked, SpellsList}
use Rattle.ec_shown.specs.Calls.{SpellsAsked}

-- what stands behind the first word of a line without a call, and the line that it makes
abbrev pub Says : Head → List Word → Shown → Type 0
Says head.Durable = (IsClerk ▸ SpellsList) makes λ x. shown.Durable x.0 x.1
Says head.Ended = (IsClerk ▸ Marked (codes "lost") SpellsList) makes λ x. shown.Ended x.0 x.1
Says head.Unseen = Last IsClerk makes shown.Unseen
Says head.Told = (IsClerk ▸ Marked (codes "lost") SpellsList) makes λ x. shown.Told x.0 x.1
Says head.Crashed = Last IsClerk makes shown.Crashed
Says head.Stopped = End makes λ u. shown.Stopped
Says head.Started = End makes λ u. shown.Started
Says head.Nothing = End makes λ u. shown.Nothing
Says head.Unsettled = End makes λ u. shown.Unsettled
Says head.Bad = (IsSmallNumber ▸ Marked (codes "col") (Last IsSmallNumber)) makes λ x. shown.Bad x.0 x.1
Says head.Disk = Marked (codes "bad") (Last IsNumber) makes shown.DiskBad
Says head.Limit = (IsLimit ▸ Last IsNumber) makes λ x. shown.Limit x.0 x.1
Says head.Spent = Last IsCounter makes shown.Spent

-- the line of a call, by the number of its script line, its clerk, and what became of it
abbrev pub asked_line : ℕ → ℕ → Call → Outcome → Shown
asked_line n clerk c outcome.Waits = shown.Waits n clerk c
asked_line n clerk c (outcome.Answered answer op) = shown.Answered n clerk c answer op

-- what a line begins with: a number, or one of these words
abbrev pub First : Type 0
First = ℕ ⊎ Head

abbrev pub IsFirst : Word → First → Type 0
IsFirst w (inl n) = IsSmallNumber w n
IsFirst w (inr h) = IsHead w h

abbrev pub Begun : First → List Word → Shown → Type 0
Begun (inl n) = (IsClerk ▸ SpellsAsked) makes λ x. asked_line n x.0 x.1.0 x.1.1
Begun (inr h) = Says h

abbrev pub SpellsShown : List Word → Shown → Type 0
SpellsShown = IsFirst ⊳ Begun

-- The grammar: the line, given without its end, is read so.
abbrev pub IsShown : List ℕ → Shown → Type 0
IsShown bytes s = SpellsShown (words_of bytes) s

abbrev pub IsUnfit : List ℕ → LineFault → Type 0
IsUnfit = IsOutside SpellsShown
