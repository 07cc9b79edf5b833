-- The grammar of a line of a script with leases: a drill's, or one of clocks and leases.
use Rattle.std.specs.Prelude.{◌≡◌, ◌⊎◌, ◌*◌, ℕ, List, ⊤, codes}
use Rattle.std.proofs.Common.{inl, inr}
use Rattle.ec_words.specs.Words.{words_of}
use Rattle.ec_words.specs.Rows.{Word, ◌▸◌, Last, ◌⊳◌, ◌makes◌}
use Rattle.ec_words.specs.Spelling.{IsClerk, IsNumberIn, IsSmallNumber}
use Rattle.ec_script.specs.Grammar.{Begun, Head, IsComment, IsHead, IsOutside}
use Rattle.ec_script.specs.declared.line.Line.TheVariants.{Comment}
use Rattle.ec_script.specs.declared.line.LineFault.{LineFault}
use Rattle.ec_script.specs.declared.line.LineFault.TheVariants as fault
use Rattle.ec_lease_machine.specs.declared.words.line.LeaseLine.{LeaseLine}
use Rattle.ec_lease_machine.specs.declared.words.line.LeaseLine.TheVariants as line
use Rattle.ec_lease_machine.specs.declared.words.name.ClockWord.{ClockWord}
use Rattle.ec_lease_machine.specs.declared.words.name.ClockWord.TheVariants as clock

abbrev pub clock_name : ClockWord → Word
clock_name clock.Tick = codes "tick"
clock_name clock.Skew = codes "skew"
clock_name clock.Grant = codes "grant"
clock_name clock.Hand = codes "hand"

abbrev pub IsClockWord : Word → ClockWord → Type 0
IsClockWord w k = w ≡ clock_name k

-- so much a tick may be at most
abbrev pub most_ticks : ℕ
most_ticks = 1000000

-- what stands behind such a word, and the line that it makes, where clocks differ by at most so much
abbrev pub ClockSays : ℕ → ClockWord → List Word → LeaseLine → Type 0
ClockSays most clock.Tick = Last (IsNumberIn 1 most_ticks) makes line.Tick
ClockSays most clock.Skew = (IsClerk ▸ Last (IsNumberIn 0 (2 * most))) makes λ x. line.Skew x.0 x.1
ClockSays most clock.Grant = Last IsClerk makes line.Grant
ClockSays most clock.Hand = (IsClerk ▸ Last IsSmallNumber) makes λ x. line.Hand x.0 x.1

-- what a line begins with: what one of a drill does, or a word of clocks and leases
abbrev pub LeaseHead : Type 0
LeaseHead = Head ⊎ ClockWord

abbrev pub IsLeaseHead : Word → LeaseHead → Type 0
IsLeaseHead w (inl h) = IsHead w h
IsLeaseHead w (inr k) = IsClockWord w k

abbrev pub LeaseBegun : ℕ → LeaseHead → List Word → LeaseLine → Type 0
LeaseBegun most (inl h) = Begun h makes line.Drill
LeaseBegun most (inr k) = ClockSays most k

abbrev pub SpellsLease : ℕ → List Word → LeaseLine → Type 0
SpellsLease most = IsLeaseHead ⊳ LeaseBegun most

-- The grammar: the line is read so.
abbrev pub IsLeaseLine : ℕ → List ℕ → LeaseLine → Type 0
IsLeaseLine most bytes l = (IsComment bytes × (l ≡ line.Drill Comment)) ⊎ SpellsLease most (words_of bytes) l

abbrev pub IsLeaseFault : ℕ → List ℕ → LineFault → Type 0
IsLeaseFault most bytes (fault.At column) = ((l : LeaseLine) → IsLeaseLine most bytes l → ⊥) × IsOutside (SpellsLease most) bytes (fault.At column)
IsLeaseFault most bytes fault.NoMemory = ⊤
