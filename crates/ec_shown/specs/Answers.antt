-- What became of a call, by the words behind `->`.
use Rattle.std.specs.Prelude.{ℕ, zero, suc, Option, None, Some, List, [], codes}
use Rattle.ec_volume.specs.declared.image.Kind.{Kind}
use Rattle.ec_plain.specs.declared.call.Reply.{Reply}
use Rattle.ec_plain.specs.declared.call.Reply.TheVariants as reply
use Rattle.ec_plain.specs.declared.call.Refusal.{Refusal}
use Rattle.ec_plain.specs.declared.call.Refusal.TheVariants as refusal
use Rattle.ec_history.specs.declared.entry.Answer.TheVariants as answer
use Rattle.ec_words.specs.Rows.{Word, ◌▸◌, End, Last, ◌⊳◌, ◌makes◌}
use Rattle.ec_words.specs.Spelling.{IsSmallNumber, IsNumber, IsMode}
use Rattle.ec_shown.specs.declared.answer.Outcome.{Outcome}
use Rattle.ec_shown.specs.declared.answer.Outcome.TheVariants as outcome
use Rattle.ec_shown.specs.declared.name.Said.{Said}
use Rattle.ec_shown.specs.declared.name.Said.TheVariants as said
use Rattle.ec_shown.specs.declared.name.Why.{Why}
use Rattle.ec_shown.specs.declared.name.Why.TheVariants as why
use Rattle.ec_shown.specs.Spelling.{IsTextOf, IsNameText, IsPlace, IsOwner, IsKindName, IsSaid, IsWhy}
use Rattle.ec_shown.specs.Rows.{Marked, Tail, Times, SpellsList}

-- a text of so many bytes; none has no word
abbrev pub TextOf : ℕ → List Word → List ℕ → Type 0
TextOf zero = End makes λ u. []
TextOf (suc n) = Last (IsTextOf (suc n))

-- what stands behind the name of a refusal
abbrev pub Refuses : Why → List Word → Refusal → Type 0
Refuses why.NotFound = Last IsPlace makes refusal.NotFound
Refuses why.NotDir = Last IsPlace makes refusal.NotDir
Refuses why.IsDir = End makes λ u. refusal.IsDir
Refuses why.Exists = End makes λ u. refusal.Exists
Refuses why.NotEmpty = End makes λ u. refusal.NotEmpty
Refuses why.TooLong = End makes λ u. refusal.TooLong
Refuses why.DirFull = End makes λ u. refusal.DirFull
Refuses why.Root = End makes λ u. refusal.Root
Refuses why.Loop = End makes λ u. refusal.Loop

-- The properties of an object: its kind, mode, stamp and size, and its owner where that isn't 0.

abbrev pub Sized : List Word → ℕ × Option ℕ → Type 0
Sized = IsSmallNumber ▸ Tail (codes "owner") IsOwner

abbrev pub Stamped : List Word → ℕ × (ℕ × Option ℕ) → Type 0
Stamped = IsNumber ▸ Sized

abbrev pub Moded : List Word → ℕ × (ℕ × (ℕ × Option ℕ)) → Type 0
Moded = IsMode ▸ Stamped

abbrev pub Properties : List Word → Kind × (ℕ × (ℕ × (ℕ × Option ℕ))) → Type 0
Properties = IsKindName ▸ Moded

-- no owner is shown for 0
abbrev pub shown_owner : Option ℕ → ℕ
shown_owner (Some owner) = owner
shown_owner None = 0

abbrev pub stat_reply : Kind × (ℕ × (ℕ × (ℕ × Option ℕ))) → Reply
stat_reply x = reply.Stat x.0 x.1.0 x.1.1.0 (shown_owner x.1.1.1.1) x.1.1.1.0

-- what stands behind the first word of an answer, and what it makes
abbrev pub Tells : Said → List Word → Outcome → Type 0
Tells said.Waits = End makes λ u. outcome.Waits
Tells said.Ok = Tail (codes "op") IsNumber makes outcome.Answered (answer.Reply reply.Ok)
Tells said.Data = (IsNumber ⊳ TextOf) makes λ bytes. outcome.Answered (answer.Reply (reply.Data bytes)) None
Tells said.Stat = Properties makes λ x. outcome.Answered (answer.Reply (stat_reply x)) None
Tells said.Names = (IsNumber ⊳ Times IsNameText) makes λ names. outcome.Answered (answer.Reply (reply.Names names)) None
Tells said.Refused = (IsWhy ⊳ Refuses) makes λ why. outcome.Answered (answer.Reply (reply.Refused why)) None
Tells said.NoRoom = (IsSmallNumber ▸ Last IsSmallNumber) makes λ x. outcome.Answered (answer.NoRoom x.0 x.1) None
Tells said.Lost = SpellsList makes λ ops. outcome.Answered (answer.Lost ops) None

abbrev pub SpellsOutcome : List Word → Outcome → Type 0
SpellsOutcome = Marked (codes "->") (IsSaid ⊳ Tells)
