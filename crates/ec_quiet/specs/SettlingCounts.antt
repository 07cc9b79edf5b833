-- How many messages are under way and were sent while a line settles.
use Rattle.std.specs.Prelude.{◌≡◌, ◌≤◌, ◌+◌, ◌*◌, ℕ, ◌∷◌, length, None, Some}
use Rattle.ec_history.specs.Placing.{EachLine}
use Rattle.ec_plain.specs.declared.call.Call.{Call}
use Rattle.ec_wire.specs.declared.msg.Msg.{Msg}
use Rattle.ec_protocol.specs.World as world
use Rattle.ec_protocol.specs.World.{call, deliver, due, pending, runs}
use Rattle.ec_protocol.specs.declared.clerk.Clerk.{Clerk}
use Rattle.ec_protocol.specs.declared.world.World.{World}
use Rattle.ec_quiet.specs.Measure.{measure}
use Rattle.ec_quiet.specs.Phases.{InPhase, Phase}
use Rattle.ec_quiet.specs.Scenes.{IsScene, Mail, Scene}
use Rattle.ec_quiet.specs.Works.{Work}
use Rattle.ec_quiet.specs.Settling.{IsSettled}

-- A measure bounds the messages under way.
abbrev pub MessagesAreFew : Type 0
MessagesAreFew = (j : Work) (sc : Scene) (p : Phase) → InPhase j sc p → 32 * length sc.mail ≤ measure j sc p + 64

-- Just the messages under way are pending.
abbrev pub MailIsPending : Type 0
MailIsPending = (w : World) (sc : Scene) → IsScene w sc → pending w ≡ length sc.mail

-- Each message that is sent is pending, until it's delivered: so of two worlds, behind these steps and before, the one has sent and delivered as many more.
abbrev pub Counts : ℕ → World → World → Type 0
Counts n w u = u.sent + pending w ≡ w.sent + pending u + n

abbrev pub DeliveriesCount : Type 0
DeliveriesCount = (w : World) (sc : Scene) (c : ℕ) (m : Msg) (rest : Mail) (n : ℕ) → IsScene w sc → sc.mail ≡ (c, m) ∷ rest → due w ≡ Some n → (deliver runs n w).fault ≡ None → Counts 1 w (deliver runs n w).world

abbrev pub CallsCount : Type 0
CallsCount = (w : World) (c line : ℕ) (cl : Call) → Counts 0 w (call c line cl w).world

abbrev pub PushesCount : Type 0
PushesCount = (w : World) (c n : ℕ) (k : Clerk) → Counts 0 w (world.push c n (Some k) w).world

abbrev pub SettledLines : Type 0
SettledLines = (w : World) → ((n : ℕ) → EachLine IsSettled (deliver runs n w).shown) × ((c line : ℕ) (cl : Call) → EachLine IsSettled (call c line cl w).shown) × ((c n : ℕ) (k : Clerk) → EachLine IsSettled (world.push c n (Some k) w).shown)
