-- What a step leaves of the sessions on the disk.
use Rattle.std.specs.Prelude.{◌≡◌, ◌≤◌, ℕ, T, None, Some}
use Rattle.ec_sessions.specs.declared.slot.Slot.{Slot}
use Rattle.ec_durable.specs.Durable.{slot}
use Rattle.ec_durable.specs.declared.state.Durable.{Durable}
use Rattle.ec_protocol.specs.World.{Fate, happen}
use Rattle.ec_protocol.specs.declared.world.Event.{Event}
use Rattle.ec_protocol.specs.declared.world.Event.TheVariants.{End}
use Rattle.ec_protocol.specs.declared.world.World.{World}
use Rattle.ec_lawful.specs.AskedLaws.{StandsAsked}
use Rattle.ec_lawful.specs.Steps.{HoldsIn}

-- A slot has the session that it had, as open as it was, or a new one, which is open; or its session ended, of one of these clerks.
pub data Became (Ends : ℕ → Type 0) (d : Durable) (c : ℕ) (sl : Slot) : Type 0 where
  was : (old : Slot) → slot d c ≡ Some old → old.session ≡ sl.session → old.is_open ≡ sl.is_open → Became Ends d c sl
  opened : T sl.is_open → sl.session ≡ d.next_session → Became Ends d c sl
  ended : Ends c → (old : Slot) → slot d c ≡ Some old → old.session ≡ sl.session → T old.is_open → Became Ends d c sl

pub record SlotsGo (Ends : ℕ → Type 0) (d e : Durable) : Type 0 where
  pub next : d.next_session ≤ e.next_session
  pub slots : (c : ℕ) (sl : Slot) → slot e c ≡ Some sl → Became Ends d c sl

-- an event ends the session of the clerk that it names, if any
abbrev pub EndsOf : Event → ℕ → Type 0
EndsOf (End c) d = d ≡ c
EndsOf _ d = ⊥

-- so it is behind each event, whatever the disk does
abbrev pub EventsLeaveSlots : Type 0
EventsLeaveSlots = (first : ℕ → ℕ) (fate : Fate) (e : Event) (w : World) → HoldsIn (StandsAsked first) w → (happen fate e w).fault ≡ None → SlotsGo (EndsOf e) w.durable (happen fate e w).world.durable
