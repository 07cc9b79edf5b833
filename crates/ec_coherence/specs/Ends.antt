-- The end of a session with its line.
use Rattle.std.specs.Prelude.{ℕ, [], ◌∷◌, ◌++◌}
use Rattle.ec_history.specs.Placing.{place}
use Rattle.ec_history.specs.declared.shown.Shown.{Shown}
use Rattle.ec_sessions.specs.declared.slot.Slot.{Slot}
use Rattle.ec_coherence.specs.System.{System, Ghost}
use Rattle.ec_coherence.specs.Steps.{end_session, ended_line}

-- a line is shown, and the history is that of all lines
abbrev pub show_line : Shown → Ghost → Ghost
show_line l γ = record γ { shown = γ.shown ++ l ∷ []; history = place (γ.shown ++ l ∷ []) }

-- the clerk's session of this slot ends
abbrev pub show_end : System → ℕ → Slot → Ghost
show_end g c sl = show_line (ended_line g c (sl.age).boot) (end_session g sl.session g.ghost)
