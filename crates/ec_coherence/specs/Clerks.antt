-- A step of a clerk that is in a session, as the facts on tokens see it.
use Rattle.std.specs.Prelude.{ℕ, T, true, false, not, ◌&&◌, ◌++◌, Some}
use Rattle.ec_history.specs.History.{Each}
use Rattle.ec_wire.specs.Messages.{is_held_mode}
use Rattle.ec_wire.specs.declared.msg.Msg.{Msg}
use Rattle.ec_wire.specs.declared.msg.Msg.TheVariants.{Opened}
use Rattle.ec_protocol.specs.declared.clerk.Clerk.{Clerk}
use Rattle.ec_protocol.specs.Clerk.{Doing, has_session, needs, same_age}
use Rattle.ec_coherence.specs.System.{Ghost, at_session}
use Rattle.ec_coherence.specs.Steps.{sends}
use Rattle.ec_coherence.specs.Tokens.{View, side, Names}

-- these facts, where the clerk c in the session s is as it is now, and what it said was sent
abbrev pub acting : View → ℕ → ℕ → Doing → View
acting w c s d = record w { clerk = at_session s (Some (side d.clerk)) w.clerk; pool = w.pool ++ sends c d.outs }

-- what the waiting calls of this clerk need: held modes, on named objects
abbrev pub NeedsNamed : View → ℕ → ℕ → Doing → Clerk → Type 0
NeedsNamed w c s d k = Each (λ p. T (is_held_mode p.1) × Names (acting w c s d) p.0) (needs k.waiting k)

abbrev pub take_session : ℕ → Ghost → Ghost
take_session s γ = record γ { taken = at_session s true γ.taken }

-- what a message makes of the ghosts that the facts on tokens read: a session is taken
abbrev pub ghost_after : Msg → Doing → Ghost → Ghost
ghost_after (Opened age s e) d γ = elim (not (has_session d.clerk) && same_age age d.clerk.age) [ true ↦ take_session s γ | false ↦ γ ]
ghost_after _ d γ = γ
