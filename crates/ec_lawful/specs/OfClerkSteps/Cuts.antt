-- Starts that are cut off: their session has ended, and they weren't told yet. What they know of their operations agrees with the session's last window.
use Rattle.std.specs.Prelude.{◌≡◌, ℕ, not, ◌&&◌, filter, List, Some}
use Rattle.ec_history.specs.History.{Op, numbers}
use Rattle.ec_history.specs.Placing.{watch}
use Rattle.ec_sessions.specs.declared.slot.Slot.{Slot}
use Rattle.ec_durable.specs.Durable.{slot}
use Rattle.ec_protocol.specs.declared.clerk.Clerk.{Clerk}
use Rattle.ec_coherence.specs.System.{System, Ghost, is_of}
use Rattle.ec_coherence.specs.Log.{Knows}

-- the operations of the session's start among these that aren't durable
abbrev pub lost_of : Ghost → ℕ → List Op → List Op
lost_of γ s ks = filter (λ k. is_of (γ.owner s) k && not (γ.is_durable k)) ks

-- Such a start saw these operations: its log agrees with them, and what the lines have untold is what it lost of them.
pub record CutKnows (g : System) (c s : ℕ) (k : Clerk) (ks : List Op) : Type 0 where
  pub knows : (sl : Slot) → slot g.durable c ≡ Some sl → Knows k.log sl.window (filter (is_of (g.ghost.owner s)) ks) g.ghost.is_durable
  pub untold : (watch c g.ghost.shown).untold ≡ Some (numbers (lost_of g.ghost s ks))

-- of the running starts whose session has ended, also before its clerk took it
abbrev pub CutsAgree : System → Type 0
CutsAgree g = (c b s : ℕ) (k : Clerk) (ks : List Op) → g.running c ≡ Some b → g.clerks c b ≡ Some k → g.ghost.owner s ≡ Some (c, k.age) → g.ghost.frozen s ≡ Some ks → CutKnows g c s k ks
