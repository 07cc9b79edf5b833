-- What the lines show of each clerk, beside the facts on the history: which start runs, which session is open, and what it may still lose. And how large ids get.
use Rattle.std.specs.Prelude.{◌≡◌, ◌<◌, ◌≤◌, nat_le, ℕ, zero, suc, T, true, false, List, [], Option, None, Some, is_some}
use Rattle.ec_history.specs.History.{numbers}
use Rattle.ec_history.specs.Placing.{watch}
use Rattle.ec_history.specs.declared.watch.Watch.{Watch}
use Rattle.ec_sessions.specs.Limits.{last_first_id}
use Rattle.ec_sessions.specs.declared.slot.Slot.{Slot}
use Rattle.ec_durable.specs.Durable.{slot}
use Rattle.ec_coherence.specs.System.{System, Ghost, undurable}
use Rattle.ec_coherence.specs.Events.{shown_boot}
use Rattle.ec_coherence.specs.Steps.{runs}

-- the operations that the open session of a slot may still lose
abbrev pub still_in : Ghost → Option Slot → List ℕ
still_in γ None = []
still_in γ (Some sl) = elim sl.is_open [ true ↦ numbers (undurable γ sl.session) | false ↦ [] ]

pub record WatchAgrees (g : System) (c : ℕ) (w : Watch) : Type 0 where
  pub running : w.running ≡ is_some (g.running c)
  -- no start has an operation before it showed its session
  pub early : w.early ≡ []
  pub still : w.undurable ≡ still_in g.ghost (slot g.durable c)
  pub unseen : w.open_start ≡ None → w.undurable ≡ []
  -- the session that was shown open is that of the slot
  pub open_start : (b : ℕ) → w.open_start ≡ Some b → (sl : Slot) × (slot g.durable c ≡ Some sl) × T sl.is_open × (b ≡ shown_boot g c (sl.age).boot)
  -- a start of this run that doesn't run any more crashed
  pub crashed : (b : ℕ) → g.first_boot c < b → b ≤ g.boots c → runs g c b ≡ false → w.crashed ≡ true

abbrev pub WatchesAgree : System → Type 0
WatchesAgree g = (c : ℕ) → WatchAgrees g c (watch c g.ghost.shown)

-- the first ids that each session was given leave room for sixteen
abbrev pub FirstsAgree : Ghost → Type 0
FirstsAgree γ = (s : ℕ) → suc zero ≤ γ.grants s → T (nat_le (γ.first s) last_first_id)
