-- Starts of this run: their boots are above the last ones before it. And a durable operation is told by its start and number.
use Rattle.std.specs.Prelude.{◌≡◌, ◌<◌, ◌≤◌, ℕ, List, Option, None, Some, ⊤}
use Rattle.ec_base.specs.declared.ids.Age.{Age}
use Rattle.ec_history.specs.History.{Each, Op}
use Rattle.ec_wire.specs.declared.msg.Msg.{Msg}
use Rattle.ec_wire.specs.declared.msg.Msg.TheVariants.{Hello}
use Rattle.ec_protocol.specs.declared.clerk.Clerk.{Clerk}
use Rattle.ec_coherence.specs.System.{System, Ghost}

-- who greets is a start of this run
abbrev pub Greets : System → ℕ → Msg → Type 0
Greets g c (Hello from age) = g.first_boot c < age.boot
Greets g c _ = ⊤

-- an age at a round that its clerk reached; where its session isn't frozen, of a start of this run (sessions of earlier runs have ended)
abbrev pub IsOfStart : System → Option (List Op) → ℕ → Age → Type 0
IsOfStart g f c a = (f ≡ None → g.first_boot c < a.boot) × ((k : Clerk) → g.clerks c a.boot ≡ Some k → a.round ≤ k.age.round)

abbrev pub AreAlike : Ghost → Type 0
AreAlike γ = (i j : Op) → i.clerk ≡ j.clerk → i.boot ≡ j.boot → i.number ≡ j.number → γ.is_durable i ≡ γ.is_durable j

pub record StartsAgree (g : System) : Type 0 where
  -- of such an age each session was opened
  pub owned : (s c : ℕ) (a : Age) → g.ghost.owner s ≡ Some (c, a) → IsOfStart g (g.ghost.frozen s) c a
  -- of this run are each start, who greets, and who issued what is kept
  pub started : (c b : ℕ) (k : Clerk) → g.clerks c b ≡ Some k → g.first_boot c < b
  pub greets : Each (λ m. Greets g m.0 m.1) g.pool
  pub above : Each (λ o. g.first_boot o.clerk < o.boot) g.ghost.kept
  pub alike : AreAlike g.ghost
