-- How many starts of a clerk the lines count while it doesn't run: all that it had in this run.
use Rattle.std.specs.Prelude.{◌≡◌, ◌≤◌, ℕ, None}
use Rattle.ec_history.specs.Placing.{watch}
use Rattle.ec_coherence.specs.System.{System}
use Rattle.ec_coherence.specs.Events.{shown_boot}

pub record CountsAgree (g : System) : Type 0 where
  pub counted : (c : ℕ) → g.running c ≡ None → (watch c g.ghost.shown).starts ≡ shown_boot g c (g.boots c)
  pub above : (c : ℕ) → g.first_boot c ≤ g.boots c
