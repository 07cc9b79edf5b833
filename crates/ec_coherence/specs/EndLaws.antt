-- What is proved of ends of sessions, and of whole messages, as contracts name it.
use Rattle.std.specs.Prelude.{◌≡◌, ◌<◌, ◌⊎◌, ℕ, T, false, nat_le, Contains, None, Some, is_some}
use Rattle.ec_base.specs.Ages.{is_older}
use Rattle.ec_base.specs.Limits.{last_counter}
use Rattle.ec_base.specs.declared.ids.Age.{Age}
use Rattle.ec_sessions.specs.declared.slot.Slot.{Slot}
use Rattle.ec_durable.specs.Durable.{slot}
use Rattle.ec_wire.specs.declared.msg.Msg.{Msg}
use Rattle.ec_protocol.specs.Server.{Serving, end, finish, open_new}
use Rattle.ec_protocol.specs.declared.server.Server.{Server}
use Rattle.ec_coherence.specs.System.{System, Ghost}
use Rattle.ec_coherence.specs.Sessions.{IsReached}
use Rattle.ec_coherence.specs.Steps.{open_session, serving_in}
use Rattle.ec_coherence.specs.CommitLaws.{AllAgree, StepStands, TakesStep}
use Rattle.ec_coherence.specs.Ends.{show_end}

-- a clerk's open session ends, and a line says so
abbrev pub FinishStands : Type 0
FinishStands = (g : System) (γ : Ghost) (t : Serving) → StepStands g t γ → t.rec ≡ None → (c : ℕ) (sl : Slot) → slot t.server.durable c ≡ Some sl → T sl.is_open
    → StepStands g (finish c sl t) (show_end (serving_in t γ g) c sl)

-- a clerk with an open session greets with a greater age: its session ends by the record of the new one
abbrev pub OverStands : Type 0
OverStands = (g : System) (γ : Ghost) (t : Serving) → StepStands g t γ → t.rec ≡ None → (c : ℕ) (sl : Slot) → slot t.server.durable c ≡ Some sl → T sl.is_open
    → (age : Age) → c < 16 → T (is_older sl.age age) → IsReached (serving_in t γ g) c age → g.first_boot c < age.boot → nat_le last_counter t.server.durable.next_session ≡ false
    → StepStands g (open_new c age (Some sl.session) t) (open_session c age t.server.durable.next_session (show_end (serving_in t γ g) c sl))

-- a running server takes any message that was sent
abbrev pub TakesAny : Type 0
TakesAny = (g : System) (v : Server) → AllAgree g → g.server ≡ Some v → (c : ℕ) (m : Msg) → Contains g.pool (c, m) → TakesStep g c m v

-- and the administrator ends a clerk's session
abbrev pub EndStands : Type 0
EndStands = (g : System) (v : Server) → AllAgree g → g.server ≡ Some v → (c : ℕ) → T (is_some (end c v).spent) ⊎ ((γ : Ghost) × StepStands g (end c v) γ)
