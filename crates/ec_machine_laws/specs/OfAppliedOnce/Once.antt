-- How often each batch of a session is applied.
use Rattle.std.specs.Prelude.{◌≡◌, ◌==◌, ◌+◌, ◌<◌, ◌≤◌, ℕ, Bool, true, false, cond, ◌&&◌, List, [], ◌∷◌, Option, Some, None}
use Rattle.ec_sessions.specs.Windows.{has}
use Rattle.ec_sessions.specs.declared.slot.Slot.{Slot}
use Rattle.ec_durable.specs.Durable.{slot}
use Rattle.ec_durable.specs.declared.record.Record.{Record}
use Rattle.ec_durable.specs.declared.record.Record.TheVariants.{Batch, Open, End, Ids, Epoch}
use Rattle.ec_durable.specs.declared.state.Durable.{Durable}

-- the record applies the batch of this number, of this session
abbrev pub applies : ℕ → ℕ → Record → Bool
applies s b (Batch c t k ops) = (t == s) && (k == b)
applies s b (Open c age t) = false
applies s b (End c t) = false
applies s b (Ids c t got first) = false
applies s b (Epoch e) = false

-- how often these records do
abbrev pub applied : ℕ → ℕ → List Record → ℕ
applied s b [] = 0
applied s b (r ∷ rs) = cond (applies s b r) 1 0 + applied s b rs

abbrev pub record_list : Option Record → List Record
record_list None = []
record_list (Some r) = r ∷ []

-- A batch is past where its session was given, and each slot that still has this session has the number in its window.
pub record IsPast (s b : ℕ) (d : Durable) : Type 0 where
  pub below : s < d.next_session
  pub had : (c : ℕ) (sl : Slot) → slot d c ≡ Some sl → sl.session ≡ s → has sl.window b ≡ true

-- A batch that is past at d isn't applied, and is past at e.
abbrev pub NoneAgain : List Record → Durable → Durable → Type 0
NoneAgain rs d e = (s b : ℕ) → IsPast s b d → (applied s b rs ≡ 0) × IsPast s b e

-- Each batch that is applied is past at e.
abbrev pub AllPast : List Record → Durable → Type 0
AllPast rs e = (s b : ℕ) → 1 ≤ applied s b rs → IsPast s b e
