-- What a run is to show: its lines stand in one legal history of one uncached volume. All of it is told by lines alone.
use Rattle.std.specs.Prelude.{◌≡◌, ◌==◌, ◌+◌, ◌-◌, ◌≤◌, ℕ, T, Bool, false, not, List, [], ◌∷◌, ◌++◌, length, take, slice_get, Some, ⊤}
use Rattle.std.specs.Bool.{OnFalse}
use Rattle.std.specs.List.{filter, list_any}
use Rattle.ec_volume.specs.Image.{is_gone}
use Rattle.ec_volume.specs.Volume.{Images}
use Rattle.ec_history.specs.History.{Base}
use Rattle.ec_history.specs.Legal.{IsLegal}
use Rattle.ec_history.specs.Lines.{AreCovered}
use Rattle.ec_history.specs.Placing.{place, ArePlaceable, is_numbered}
use Rattle.ec_history.specs.declared.shown.Shown.{Shown}
use Rattle.ec_history.specs.declared.shown.Shown.TheVariants.{Waits, Answered, Ended, Unseen}
use Rattle.ec_protocol.specs.declared.script.Line.{Line}
use Rattle.ec_protocol.specs.declared.script.Line.TheVariants as line

-- The base.

-- the greatest id of the volume
pub record IsGreatest (v : Images) (n : ℕ) : Type 0 where
  pub lives : T (not (is_gone (v n)))
  pub least : (x : ℕ) → T (not (is_gone (v x))) → x ≤ n

-- a new object has the id that is the greatest one of the volume plus the place of its call's line
abbrev pub placed_on : Images → ℕ → Base
placed_on v n = record { volume = v; fresh = λ place. n + place }

-- Lines are lawful on the base, with at most so many objects.
pub record AreLawful (base : Base) (most : ℕ) (ss : List Shown) : Type 0 where
  -- they have a history: each line number has one answer, one clerk and one call; ends and durable lines name what they may
  pub placed : ArePlaceable [] ss
  -- it is legal on one uncached volume: each reply and each report is exact, operations are numbered in order, and each loss is lawful
  pub history : IsLegal base most (place ss)
  -- a durable line above an answered fsync or sync names each operation that it covers
  pub fsync : AreCovered base ss

-- and so is each front of them, as a run that is cut off shows it
abbrev pub FrontsAreLawful : Base → ℕ → List Shown → Type 0
FrontsAreLawful base most ss = (front rest : List Shown) → front ++ rest ≡ ss → AreLawful base most front

-- The script.

abbrev pub Lines : Type 0
Lines = List Line

abbrev pub Pieces : Type 0
Pieces = List (List Shown)

abbrev pub joined : Pieces → List Shown
joined [] = []
joined (p ∷ ps) = p ++ joined ps

-- Own calls: what is answered or waits stands in the script under its number, from 1.
abbrev pub InScript : Lines → Shown → Type 0
InScript lines (Waits l c cl) = (1 ≤ l) × (slice_get lines (l - 1) ≡ Some (line.Call c cl))
InScript lines (Answered l c cl a op) = (1 ≤ l) × (slice_get lines (l - 1) ≡ Some (line.Call c cl))
InScript lines _ = ⊤

-- The first line of a call stands in the piece of the call's number.

abbrev pub IsIn : ℕ → List Shown → Shown → Type 0
IsIn k past (Waits l c cl) = OnFalse (list_any (is_numbered l) past) (l ≡ k)
IsIn k past (Answered l c cl a op) = OnFalse (list_any (is_numbered l) past) (l ≡ k)
IsIn k past _ = ⊤

abbrev pub IsPiece : ℕ → List Shown → List Shown → Type 0
IsPiece k past [] = ⊤
IsPiece k past (s ∷ ss) = IsIn k past s × IsPiece k (past ++ s ∷ []) ss

abbrev pub ArePieces : ℕ → List Shown → Pieces → Type 0
ArePieces k past [] = ⊤
ArePieces k past (p ∷ ps) = IsPiece k past p × ArePieces (k + 1) (past ++ p) ps

-- No session ends but by a crash or an end.

abbrev pub ends : ℕ → Shown → Bool
ends c (Ended d ns) = c == d
ends c (Unseen d) = c == d
ends c _ = false

abbrev pub may_end : ℕ → Line → Bool
may_end c (line.Crash d) = c == d
may_end c (line.End d) = c == d
may_end c _ = false

-- In each front of the lines no more sessions of a clerk end than lines that may end one were carried out.
abbrev pub AreEndsAsked : Lines → Pieces → Type 0
AreEndsAsked lines pieces = (c k : ℕ) → k ≤ length pieces → length (filter (ends c) (joined (take k pieces))) ≤ length (filter (may_end c) (take k lines))
