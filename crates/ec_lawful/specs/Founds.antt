-- A restart: what it makes of the record that it finds, and the start of the server on the state behind it.
use Rattle.std.specs.Prelude.{◌≡◌, ◌≤◌, ◌⊎◌, ℕ, T, true, false, not, ◌++◌, Option, None, Some, Ok, is_some}
use Rattle.ec_base.specs.Tables.{keys}
use Rattle.ec_history.specs.declared.shown.Shown.TheVariants.{Started}
use Rattle.ec_sessions.specs.declared.slot.Slot.{Slot}
use Rattle.ec_durable.specs.Durable.{slot, step}
use Rattle.ec_durable.specs.declared.state.Durable.{Durable}
use Rattle.ec_durable.specs.declared.record.Record.{Record}
use Rattle.ec_durable.specs.declared.record.Record.TheVariants.{Batch, Open, End, Ids, Epoch}
use Rattle.ec_protocol.specs.Server.{Serving, start}
use Rattle.ec_protocol.specs.World.{session_boot, stepped}
use Rattle.ec_coherence.specs.System.{System, Ghost}
use Rattle.ec_coherence.specs.Steps.{found, give_ids, open_session, record_lines}
use Rattle.ec_coherence.specs.CommitLaws.{AllAgree, show_batch}
use Rattle.ec_coherence.specs.Ends.{show_end}
use Rattle.ec_coherence.specs.StandLaws.{lined}
use Rattle.ec_lawful.specs.Doubts.{DoubtAgrees}

-- the slot's session ends, where it's open
abbrev pub end_slot : System → ℕ → Option Slot → Ghost
end_slot g c None = g.ghost
end_slot g c (Some sl) = elim sl.is_open [ true ↦ show_end g c sl | false ↦ g.ghost ]

-- what a record that was found makes of the ghosts, with its line
abbrev pub found_ghost : System → Record → Ghost
found_ghost g (Batch c s b ops) = show_batch c (session_boot (slot g.durable c)) (keys ops) g.ghost
found_ghost g (Open c age s) = open_session c age s (end_slot g c (slot g.durable c))
found_ghost g (End c s) = end_slot g c (slot g.durable c)
found_ghost g (Ids c s got first) = give_ids s first g.ghost
found_ghost g (Epoch e) = g.ghost

-- the record in doubt was found, and its line is shown; the server is still stopped
abbrev pub with_found : System → Record → System
with_found g r = record g { durable = stepped r g.durable; unshown = None; ghost = found_ghost g r }

abbrev pub shown_in : System → Option Record → System
shown_in g None = g
shown_in g (Some r) = with_found g r

-- stopped, with nothing in doubt
abbrev pub bare : System → System
bare g = record g { server = None; unshown = None }

abbrev pub BaresStand : Type 0
BaresStand = (g : System) → AllAgree g → g.server ≡ None → AllAgree (bare g)

-- What a record makes of the ghosts: a batch is shown, a session ends or opens, perhaps in the place of an open one, or is given ids.
abbrev pub Makes : System → Record → Ghost → Type 0
Makes g (Batch c s b ops) γ = (sl : Slot) × (slot g.durable c ≡ Some sl) × T sl.is_open × (sl.session ≡ s) × (γ ≡ show_batch c (sl.age).boot (keys ops) g.ghost)
Makes g (Open c age s) γ =
    (((sl : Slot) → slot g.durable c ≡ Some sl → T (not sl.is_open)) × (γ ≡ open_session c age s g.ghost))
    ⊎ ((sl : Slot) × (slot g.durable c ≡ Some sl) × T sl.is_open × (γ ≡ open_session c age s (show_end g c sl)))
Makes g (End c s) γ = (sl : Slot) × (slot g.durable c ≡ Some sl) × T sl.is_open × (sl.session ≡ s) × (γ ≡ show_end g c sl)
Makes g (Ids c s got first) γ = γ ≡ give_ids s first g.ghost
Makes g (Epoch e) γ = γ ≡ g.ghost

-- so does one that was found, and it steps
abbrev pub FoundsMake : Type 0
FoundsMake = (g : System) → AllAgree g → DoubtAgrees g → g.server ≡ None → (r : Record) → g.unshown ≡ Some r → Makes (bare g) r (found_ghost g r) × (step r g.durable ≡ Ok (stepped r g.durable))

abbrev pub FoundsStand : Type 0
FoundsStand = (g : System) → AllAgree g → DoubtAgrees g → g.server ≡ None → (r : Record) → g.unshown ≡ Some r → AllAgree (with_found g r) × ((with_found g r).ghost.shown ≡ g.ghost.shown ++ record_lines g (Some r))

-- the server has started in this step, behind the line that says so
abbrev pub started_in : System → Serving → System
started_in g t = record (lined g Started) { durable = t.server.durable; server = Some t.server; pool = g.pool ++ t.sent }

-- the state that a restart finds, in the epoch on the disk
abbrev pub found_state : System → ℕ → Durable
found_state g e = record (found g.unshown g.durable) { epoch = e }

-- a restart that comes up: the record in doubt is shown, the line of the start follows, and the server starts on the state behind the record
abbrev pub RestartsStand : Type 0
RestartsStand = (g : System) → AllAgree g → DoubtAgrees g → g.server ≡ None → (e : ℕ) → g.durable.epoch ≤ e
    → T (is_some (start (found_state g e)).spent) ⊎ AllAgree (started_in (shown_in g g.unshown) (start (found_state g e)))
