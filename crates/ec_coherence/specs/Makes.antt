-- What a step of a running server makes of the ghosts, by the record that it committed.
use Rattle.std.specs.Prelude.{◌≡◌, ◌⊎◌, ℕ, T, not, Contains, Option, None, Some, is_some}
use Rattle.ec_base.specs.Tables.{keys}
use Rattle.ec_sessions.specs.declared.slot.Slot.{Slot}
use Rattle.ec_wire.specs.declared.msg.Msg.{Msg}
use Rattle.ec_durable.specs.Durable.{slot}
use Rattle.ec_durable.specs.declared.record.Record.{Record}
use Rattle.ec_durable.specs.declared.record.Record.TheVariants.{Batch, Open, End, Ids, Epoch}
use Rattle.ec_protocol.specs.Server.{Serving, end, serving, take}
use Rattle.ec_protocol.specs.declared.server.Server.{Server}
use Rattle.ec_coherence.specs.System.{System, Ghost}
use Rattle.ec_coherence.specs.Steps.{give_ids, open_session, serving_in}
use Rattle.ec_coherence.specs.CommitLaws.{AllAgree, StepStands, show_batch}
use Rattle.ec_coherence.specs.Ends.{show_end}

-- the system in which the step begins
abbrev pub beginning : System → Server → System
beginning g v = serving_in (serving v) g.ghost g

-- A batch is shown, a session ends or opens, perhaps in the place of an open one, or is given ids.
abbrev pub Makes : System → Server → Option Record → Ghost → Type 0
Makes g v None γ = γ ≡ g.ghost
Makes g v (Some (Batch c s b ops)) γ = (sl : Slot) × (slot v.durable c ≡ Some sl) × T sl.is_open × (sl.session ≡ s) × (γ ≡ show_batch c (sl.age).boot (keys ops) g.ghost)
Makes g v (Some (Open c age s)) γ =
    (((sl : Slot) → slot v.durable c ≡ Some sl → T (not sl.is_open)) × (γ ≡ open_session c age s g.ghost))
    ⊎ ((sl : Slot) × (slot v.durable c ≡ Some sl) × T sl.is_open × (γ ≡ open_session c age s (show_end (beginning g v) c sl)))
Makes g v (Some (End c s)) γ = (sl : Slot) × (slot v.durable c ≡ Some sl) × T sl.is_open × (sl.session ≡ s) × (γ ≡ show_end (beginning g v) c sl)
Makes g v (Some (Ids c s got first)) γ = γ ≡ give_ids s first g.ghost
Makes g v (Some (Epoch e)) γ = ⊥

-- the step is refused, because a counter is spent, or stands, with these ghosts
abbrev pub IsMade : System → Server → Serving → Type 0
IsMade g v f = T (is_some f.spent) ⊎ ((γ : Ghost) × StepStands g f γ × Makes g v f.rec γ)

-- a running server takes any message that was sent
abbrev pub TakesMake : Type 0
TakesMake = (g : System) (v : Server) → AllAgree g → g.server ≡ Some v → (c : ℕ) (m : Msg) → Contains g.pool (c, m) → IsMade g v (take c m v)

-- and the administrator ends a clerk's session
abbrev pub EndMakes : Type 0
EndMakes = (g : System) (v : Server) → AllAgree g → g.server ≡ Some v → (c : ℕ) → IsMade g v (end c v)
