-- What deliveries to the server come to.
use Rattle.std.specs.Prelude.{◌≡◌, ◌≤◌, ◌+◌, ℕ, Bool, true, false, nat_le, nat_lt, List, [], ◌∷◌, None, Some, Ok, ⊤}
use Rattle.ec_base.specs.Limits.{last_counter}
use Rattle.ec_base.specs.Tables.{at, keys}
use Rattle.ec_base.specs.declared.ids.Age.{Age}
use Rattle.ec_base.specs.declared.ids.Hold.{Hold}
use Rattle.ec_history.specs.History.{Each}
use Rattle.ec_history.specs.declared.shown.Shown.{Shown}
use Rattle.ec_history.specs.declared.shown.Shown.TheVariants as show
use Rattle.ec_order.specs.Order.{Issued}
use Rattle.ec_sessions.specs.Limits.{ids_per_grant, last_first_id}
use Rattle.ec_sessions.specs.Slots.{run}
use Rattle.ec_sessions.specs.OfTokens.Tokens.{Holder}
use Rattle.ec_wire.specs.declared.msg.Msg.{Msg}
use Rattle.ec_wire.specs.declared.msg.Msg.TheVariants.{Hello, Flush, Room}
use Rattle.ec_durable.specs.Durable.{is_full, step}
use Rattle.ec_durable.specs.declared.record.Record.TheVariants.{Batch}
use Rattle.ec_durable.specs.declared.state.Durable.{Durable}
use Rattle.ec_protocol.specs.Server.{serving, take, is_last_number, may_write, ids_are_spent}
use Rattle.ec_protocol.specs.World.{deliver, due, runs}
use Rattle.ec_protocol.specs.declared.server.Server.{Server}
use Rattle.ec_protocol.specs.declared.world.Sent.{Sent}
use Rattle.ec_protocol.specs.declared.world.World.{World}
use Rattle.ec_quiet.specs.Facts.{session_clerk}
use Rattle.ec_quiet.specs.Measure.{measure}
use Rattle.ec_quiet.specs.Phases.{Phase, Greets, Opens, Recalls, Flushes, Keeps, Asks, Saves, Saved, InPhase, is_back, back_of}
use Rattle.ec_quiet.specs.Scenes.{IsScene, Mail, Scene, delivered, is_for_server}
use Rattle.ec_quiet.specs.Works.{Work}
use Rattle.ec_machine_laws.specs.Holding.{AreOwn}
use Rattle.ec_quiet.specs.Goes.{GoesOn}

-- the work is in the phase q then, and less is left of it by a delivery
abbrev pub IsNext : Work → Scene → Phase → Scene → Phase → Type 0
IsNext j sc p after q = InPhase j after q × (measure j after q + 32 ≤ measure j sc p)

-- What a message needs of the server.

-- a batch of the session has tokens for writing, and its record is taken
abbrev pub IsTaken : ℕ → ℕ → ℕ → Issued → Server → Type 0
IsTaken c s b ops v = (may_write v.tokens s ops ≡ true) × (d : Durable) × (step (Batch c s b ops) v.durable ≡ Ok d)

-- the next ids are within their limits, where there is room for them, and no other session has a token on them
abbrev pub IsFreshFor : ℕ → ℕ → Server → Type 0
IsFreshFor s got v = (is_full v.durable ≡ false → ids_are_spent got (serving v) ≡ false) × AreOwn s (run v.durable.next_id ids_per_grant) v.tokens

-- the next session is within its limit
abbrev pub MayOpen : Server → Type 0
MayOpen v = nat_le last_counter v.durable.next_session ≡ false

abbrev pub Suits : ℕ → Msg → Server → Type 0
Suits c (Hello from age) v = MayOpen v
Suits c (Flush s e b ops) v = IsTaken c s b ops v
Suits c (Room s e got ask) v = IsFreshFor s got v
Suits c _ v = ⊤

-- What a message takes of the server's durable counters isn't at its end: the next session, or the next ids where there is room for them.
abbrev pub HasNext : Msg → Server → Type 0
HasNext (Hello from age) v = MayOpen v
HasNext (Room s e got ask) v = is_full v.durable ≡ false → nat_lt last_first_id v.durable.next_id ≡ false
HasNext _ v = ⊤

-- Statements.

-- So it is with the next message where its delivery meets no fault.
abbrev pub DeliveriesHaveNext : Type 0
DeliveriesHaveNext = (j : Work) (w : World) (sc : Scene) (p : Phase) (t : ℕ × Msg) (rest : Mail) (n : ℕ) → IsScene w sc → InPhase j sc p → sc.mail ≡ t ∷ rest → due w ≡ Some n → (deliver runs n w).fault ≡ None → HasNext t.1 sc.server

-- A holder's token that was recalled comes back: the others are still waited for, or the want is granted.
abbrev pub BacksComeBack : Type 0
BacksComeBack = (j : Work) (sc : Scene) (x : ℕ) (h : Hold) (b : Holder) (bs : List Holder) (rest : Mail) → InPhase j sc (Recalls x h [] (b ∷ bs)) → is_last_number (serving sc.server) ≡ false → sc.mail ≡ back_of sc x h b ∷ rest
    → GoesOn j sc (Recalls x h [] (b ∷ bs)) (delivered (session_clerk sc.server b.0) (back_of sc x h b).1 rest sc)

-- A holder's batch, and one of the line's clerk, is committed and answered.
abbrev pub HoldersFlush : Type 0
HoldersFlush = (j : Work) (sc : Scene) (x : ℕ) (h : Hold) (r : Holder) (b : ℕ) (ops : Issued) (more : Bool) (rest : Mail) → InPhase j sc (Flushes x h r b ops more) → IsTaken (session_clerk sc.server r.0) r.0 b ops sc.server
    → sc.mail ≡ (session_clerk sc.server r.0, Flush r.0 sc.server.durable.epoch b ops) ∷ rest
    → IsNext j sc (Flushes x h r b ops more) (delivered (session_clerk sc.server r.0) (Flush r.0 sc.server.durable.epoch b ops) rest sc) (Keeps x h r b more)

abbrev pub ClerksSave : Type 0
ClerksSave = (j : Work) (sc : Scene) (b : ℕ) (ops : Issued) (more : Bool) (rest : Mail) → InPhase j sc (Saves b ops more) → IsTaken j.clerk j.session b ops sc.server
    → sc.mail ≡ (j.clerk, Flush j.session sc.server.durable.epoch b ops) ∷ rest
    → IsNext j sc (Saves b ops more) (delivered j.clerk (Flush j.session sc.server.durable.epoch b ops) rest sc) (Saved b more)

-- Ids are asked for: they're given or refused.
abbrev pub IdsAreAnswered : Type 0
IdsAreAnswered = (j : Work) (sc : Scene) (again : Bool) (got ask : ℕ) (rest : Mail) → InPhase j sc (Asks again got ask) → is_last_number (serving sc.server) ≡ false → IsFreshFor j.session got sc.server
    → sc.mail ≡ (j.clerk, Room j.session sc.server.durable.epoch got ask) ∷ rest
    → GoesOn j sc (Asks again got ask) (delivered j.clerk (Room j.session sc.server.durable.epoch got ask) rest sc)

-- A start greets: its session is opened.
abbrev pub GreetingsOpen : Type 0
GreetingsOpen = (j : Work) (sc : Scene) (age : Age) (rest : Mail) → InPhase j sc (Greets age) → MayOpen sc.server → sc.mail ≡ (j.clerk, Hello j.clerk age) ∷ rest
    → IsNext j sc (Greets age) (delivered j.clerk (Hello j.clerk age) rest sc) (Opens age)

-- A token that the line's clerk had too much leaves the phase as it is.
abbrev pub OldTokensLeave : Type 0
OldTokensLeave = (j : Work) (sc : Scene) (p : Phase) (m : ℕ × Msg) (rest : Mail) → InPhase j sc p → is_back j m ≡ true → sc.mail ≡ m ∷ rest → IsNext j sc p (delivered m.0 m.1 rest sc) p

-- Each message for the server that is the next one leads to a phase.
abbrev pub DeliveriesGoOn : Type 0
DeliveriesGoOn = (j : Work) (sc : Scene) (p : Phase) (m : ℕ × Msg) (rest : Mail) → InPhase j sc p → is_for_server m.1 ≡ true → is_last_number (serving sc.server) ≡ false → Suits m.0 m.1 sc.server → sc.mail ≡ m ∷ rest
    → GoesOn j sc p (delivered m.0 m.1 rest sc)

-- The batch that a phase is about: a holder's, or one of the line's clerk.
abbrev pub IsBatchOf : Work → Scene → Phase → ℕ → ℕ → ℕ → Issued → Type 0
IsBatchOf j sc (Flushes x h r b ops more) a s n others = (a ≡ session_clerk sc.server r.0) × (s ≡ r.0) × (n ≡ b) × (others ≡ ops)
IsBatchOf j sc (Saves b ops more) a s n others = (a ≡ j.clerk) × (s ≡ j.session) × (n ≡ b) × (others ≡ ops)
IsBatchOf j sc _ a s n others = ⊥

-- No other batch is committed by a delivery.
abbrev pub BatchesAreOfPhases : Type 0
BatchesAreOfPhases = (j : Work) (sc : Scene) (p : Phase) (m : ℕ × Msg) (rest : Mail) → InPhase j sc p → sc.mail ≡ m ∷ rest → (a s b : ℕ) (ops : Issued) → (take m.0 m.1 sc.server).rec ≡ Some (Batch a s b ops) → IsBatchOf j sc p a s b ops

-- a line that tells durable operations names those of the phase's batch
abbrev pub IsLineOf : Work → Scene → Phase → Shown → Type 0
IsLineOf j sc p (show.Durable c ns) = (s b : ℕ) × (ops : Issued) × IsBatchOf j sc p c s b ops × (ns ≡ keys ops)
IsLineOf j sc p _ = ⊤

-- So do all lines that a delivery shows, in a world whose next message is that of the scene.
abbrev pub LinesAreOfPhases : Type 0
LinesAreOfPhases = (j : Work) (sc : Scene) (p : Phase) (w : World) (i : ℕ) (x : Sent) (rest : Mail) → InPhase j sc p → at i w.pool ≡ Some x → sc.mail ≡ (x.clerk, x.msg) ∷ rest → Each (IsLineOf j sc p) (deliver runs i w).shown
