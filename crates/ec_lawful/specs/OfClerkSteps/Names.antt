-- What anybody can come upon are objects whose ids were given out, and that no clerk has in store.
use Rattle.std.specs.Prelude.{◌≡◌, ℕ, List, Some}
use Rattle.ec_volume.specs.Image.{entries_of}
use Rattle.ec_volume.specs.Update.{operands, root}
use Rattle.ec_history.specs.History.{Each, Op}
use Rattle.ec_coherence.specs.System.{System}
use Rattle.ec_coherence.specs.Tokens.{Names, view}
use Rattle.ec_coherence.specs.Log.{InSession}

-- the operands of these operations are such
abbrev pub AreOnNamed : System → List Op → Type 0
AreOnNamed g os = Each (λ o. Each (Names (view g)) (operands o.update)) os

pub record NamesAgree (g : System) : Type 0 where
  pub root : Names (view g) root
  -- so are the entries of the volume at the beginning, and the operands of what is kept, or was before a loss
  pub origin : (x : ℕ) → Each (λ e. Names (view g) e.1) (entries_of (g.origin x))
  pub kept : AreOnNamed g g.ghost.kept
  pub frozen : (s : ℕ) (ks : List Op) → g.ghost.frozen s ≡ Some ks → AreOnNamed g ks
  -- and the ids that a clerk took
  pub ids : (s : ℕ) → InSession g s (λ k. Each (Names (view g)) k.ids)
