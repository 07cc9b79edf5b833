-- The id 0 stands for "no fresh id": no object has it, no operation has it as an operand, and nothing is owed on it.
use Rattle.std.specs.Prelude.{◌≡◌, ◌≤◌, ℕ, zero, suc, T, not, List, Some}
use Rattle.ec_volume.specs.Update.{has_operand, member}
use Rattle.ec_volume.specs.declared.image.Image.TheVariants.{Gone}
use Rattle.ec_history.specs.History.{Each, Op}
use Rattle.ec_protocol.specs.declared.clerk.Clerk.{Clerk}
use Rattle.ec_coherence.specs.Answers.{IsUnowed}
use Rattle.ec_coherence.specs.System.{System}

-- none of these operations has the id as an operand
abbrev pub LeaveOut : ℕ → List Op → Type 0
LeaveOut x os = Each (λ o. T (not (has_operand x o.update))) os

-- of a clerk: it's none of its ids, no operand of its undurable operations, and nothing is owed on it
pub record HasNoZero (k : Clerk) : Type 0 where
  pub ids : T (not (member 0 k.ids))
  pub undurable : Each {A = ℕ × _} (λ o. T (not (has_operand 0 o.1))) k.log.undurable
  pub owed : IsUnowed k.owed 0

pub record ZerosAgree (g : System) : Type 0 where
  pub origin : g.origin 0 ≡ Gone
  pub kept : LeaveOut 0 g.ghost.kept
  pub frozen : (s : ℕ) (ks : List Op) → g.ghost.frozen s ≡ Some ks → LeaveOut 0 ks
  -- ids that are given out begin above it
  pub next : suc zero ≤ g.durable.next_id
  pub first : (s : ℕ) → suc zero ≤ g.ghost.grants s → suc zero ≤ g.ghost.first s
  pub clerks : (c b : ℕ) (k : Clerk) → g.clerks c b ≡ Some k → HasNoZero k
