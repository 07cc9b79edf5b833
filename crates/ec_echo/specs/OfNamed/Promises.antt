-- What is promised of the lines that a drill wrote, each promise by itself: on a base, which is the volume at the beginning with the ids of new objects, and with at
-- most so many objects.
use Rattle.std.specs.Prelude.{ℕ, List, [], ⊤}
use Rattle.ec_history.specs.History.{Base, Throughout, outcome, kept, due}
use Rattle.ec_history.specs.History as history
use Rattle.ec_history.specs.Legal.{IsLegal, IsNext, IsReported, IsFull, IsReply, IsLawful}
use Rattle.ec_history.specs.Lines.{AreCovered}
use Rattle.ec_history.specs.Placing.{ArePlaceable, EachLine, place}
use Rattle.ec_history.specs.declared.entry.Entry.{Entry}
use Rattle.ec_history.specs.declared.entry.Entry.TheVariants as entry
use Rattle.ec_history.specs.declared.shown.Shown.{Shown}
use Rattle.ec_drill.specs.OfPromise.OfRooms.Rooms.{IsWithinRoom}
use Rattle.ec_drill.specs.Seen.{Stream, Store}
use Rattle.ec_echo.specs.OfNamed.Told.{OfLines}

-- the lines written stand in one legal history of one uncached volume
abbrev pub History : ℕ → Stream → Store → ℕ → Type 0
History = OfLines (λ base limit lines. IsLegal base limit (place lines))

-- each line number has one clerk, one call and at most one answer; durable, ended and told lines name exactly what they may
abbrev pub LinesInPlace : ℕ → Stream → Store → ℕ → Type 0
LinesInPlace = OfLines (λ base limit lines. ArePlaceable [] lines)

-- A legal history has three parts. P holds of the entries that the lines stand for, each with what stands before it.
abbrev pub OfEntries : (Base → ℕ → history.History → ℕ × Entry → Type 0) → Base → ℕ → List Shown → Type 0
OfEntries P base limit lines = Throughout (P base limit) [] (place lines)

-- each reply is that of the plain volume behind what is kept, and operations are numbered in order
abbrev pub IsPlainAt : Base → ℕ → history.History → ℕ × Entry → Type 0
IsPlainAt base limit past (p, entry.Call c b l begun cl a op) = IsNext c b past op × IsFull limit (outcome base (kept base past) p cl) a × IsReply (outcome base (kept base past) p cl) a op
IsPlainAt base limit past (p, entry.Loss c b ns) = ⊤

abbrev pub PlainReplies : ℕ → Stream → Store → ℕ → Type 0
PlainReplies = OfLines (OfEntries IsPlainAt)

-- each report names exactly what is due
abbrev pub IsExactAt : Base → ℕ → history.History → ℕ × Entry → Type 0
IsExactAt base limit past (p, entry.Call c b l begun cl a op) = IsReported (due base past c b p cl) a
IsExactAt base limit past (p, entry.Loss c b ns) = ⊤

abbrev pub ExactReports : ℕ → Stream → Store → ℕ → Type 0
ExactReports = OfLines (OfEntries IsExactAt)

-- each loss is lawful
abbrev pub IsLawfulAt : Base → ℕ → history.History → ℕ × Entry → Type 0
IsLawfulAt base limit past (p, entry.Call c b l begun cl a op) = ⊤
IsLawfulAt base limit past (p, entry.Loss c b ns) = IsLawful base past c b ns

abbrev pub LawfulLosses : ℕ → Stream → Store → ℕ → Type 0
LawfulLosses = OfLines (OfEntries IsLawfulAt)

-- a durable line above an answered fsync or sync names each operation that it covers
abbrev pub Fsync : ℕ → Stream → Store → ℕ → Type 0
Fsync = OfLines (λ base limit lines. AreCovered base lines)

-- a refusal for want of room tells counts that are together within the number of objects
abbrev pub Room : ℕ → Stream → Store → ℕ → Type 0
Room = OfLines (λ base limit lines. EachLine (IsWithinRoom limit) lines)
