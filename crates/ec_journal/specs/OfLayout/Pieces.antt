-- Slots that are written, one after the other.
use Rattle.std.specs.Prelude.{◌⊎◌, ◌<◌, ◌≤◌, ◌+◌, ℕ, List, [], ◌∷◌, length, map, Vec}
use Rattle.std.specs.declared.alloc.Global.{Global}
use Rattle.ec_journal.specs.declared.layout.side.Side.{Side}
use Rattle.ec_journal.specs.OfLayout.Places.{journal_at, slot_at, slot_bytes}
use Rattle.ec_journal.specs.OfLayout.Sides.{slot_count}
use Rattle.ec_journal.specs.OfLayout.Layout.{IsFree}

abbrev pub pieces_of : List (ℕ × Vec ℕ Global) → List (ℕ × List ℕ)
pieces_of pieces = map (λ p. (p.0, p.1.items)) pieces

-- the slots of these pieces
abbrev pub slots_of : List (ℕ × List ℕ) → List ℕ
slots_of pieces = map (λ p. p.0) pieces

-- slots of the disk, each once, with at most so many bytes as one holds
abbrev pub AreApart : List (ℕ × List ℕ) → Type 0
AreApart [] = Unit {0}
AreApart (s ∷ slots) = (s.0 < slot_count) × (length s.1 ≤ slot_bytes) × IsFree s.0 slots × AreApart slots

-- a place in one of these slots
abbrev pub InSlots : List (ℕ × List ℕ) → ℕ → Type 0
InSlots [] i = ⊥
InSlots (s ∷ slots) i = ((slot_at s.0 ≤ i) × (i < slot_at s.0 + 65600)) ⊎ InSlots slots i

-- a place in a side's journal or table
abbrev pub InSide : Side → ℕ → Type 0
InSide at i = (journal_at at ≤ i) × (i < journal_at at + 2162688)

abbrev pub InPieces : Side → List (ℕ × List ℕ) → ℕ → Type 0
InPieces at pieces i = InSide at i ⊎ InSlots pieces i
