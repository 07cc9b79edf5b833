-- What messages to the clerk of a line lead to, as contracts name it: the work is in a phase with a lower measure.
use Rattle.std.specs.Prelude.{◌≡◌, ◌≤◌, ℕ, Bool, false, nat_le, List, [], ◌∷◌, None, Some, ⊤}
use Rattle.ec_base.specs.Tables.{at}
use Rattle.ec_base.specs.declared.ids.Hold.{Hold}
use Rattle.ec_sessions.specs.Limits.{last_grants}
use Rattle.ec_sessions.specs.OfTokens.Tokens.{Holder}
use Rattle.ec_wire.specs.declared.msg.Msg.{Msg}
use Rattle.ec_wire.specs.declared.msg.Msg.TheVariants as msg
use Rattle.ec_log.specs.Log as log
use Rattle.ec_protocol.specs.Clerk.{add_ids}
use Rattle.ec_protocol.specs.declared.clerk.Clerk.{Clerk}
use Rattle.ec_quiet.specs.Facts.{session_clerk}
use Rattle.ec_quiet.specs.Phases.{Phase, Greets, Opens, Claims, Wants, Recalls, Flushes, Keeps, Grants, Asks, Gives, Refuses, Saves, Saved, Ends, InPhase, recall_of}
use Rattle.ec_quiet.specs.Scenes.{Mail, Scene, delivered, is_for_server}
use Rattle.ec_quiet.specs.Works.{Task, Calls, Pushes, Work}
use Rattle.ec_quiet.specs.Goes.{GoesOn, MayGo}
use Rattle.ec_quiet.specs.Takings.{taking}

-- Ids come: the clerk holds them for writing, and goes on. The server gave the number out, and more grants can be counted.
abbrev pub GivesGoOn : Type 0
GivesGoOn = (j : Work) (sc : Scene) (got n first : ℕ) (rest : Mail) → InPhase j sc (Gives got n first) → sc.mail ≡ (j.clerk, msg.Ids j.session sc.server.durable.epoch got n first) ∷ rest
    → n ≤ sc.server.number → nat_le last_grants got ≡ false → ((k : Clerk) → at j.clerk sc.clerks ≡ Some k → MayGo j (add_ids n first k))
    → GoesOn j sc (Gives got n first) (delivered j.clerk (msg.Ids j.session sc.server.durable.epoch got n first) rest sc)

-- the clerk asks no more
abbrev pub unasking : Clerk → Clerk
unasking k = record k { asking = None }

-- There is no room: the call is answered, or goes on where it lacks something else.
abbrev pub RefusesGoOn : Type 0
RefusesGoOn = (j : Work) (sc : Scene) (again : Bool) (ask live reserved : ℕ) (rest : Mail) → InPhase j sc (Refuses again ask live reserved)
    → sc.mail ≡ (j.clerk, msg.NoRoom j.session sc.server.durable.epoch ask live reserved) ∷ rest → ((k : Clerk) → at j.clerk sc.clerks ≡ Some k → MayGo j (unasking k))
    → GoesOn j sc (Refuses again ask live reserved) (delivered j.clerk (msg.NoRoom j.session sc.server.durable.epoch ask live reserved) rest sc)

-- the batch is durable
abbrev pub having_kept : ℕ → Clerk → Clerk
having_kept b k = record k { log = log.kept b k.log }

-- A batch of the clerk's own call is durable: the call is answered, or a further batch goes out.
abbrev pub SavedGoesOn : Type 0
SavedGoesOn = (j : Work) (sc : Scene) (b : ℕ) (more : Bool) (rest : Mail) → InPhase j sc (Saved b more) → sc.mail ≡ (j.clerk, msg.Kept j.session sc.server.durable.epoch b) ∷ rest
    → ((k : Clerk) → at j.clerk sc.clerks ≡ Some k → MayGo j (having_kept b k))
    → GoesOn j sc (Saved b more) (delivered j.clerk (msg.Kept j.session sc.server.durable.epoch b) rest sc)

-- A recall comes to a holder whose batches can be counted: it gives its token back, or makes a batch durable first; so it does behind a batch that is.
abbrev pub RecallsGoOn : Type 0
RecallsGoOn = (j : Work) (sc : Scene) (x : ℕ) (h : Hold) (r : Holder) (rs bs : List Holder) (rest : Mail) → InPhase j sc (Recalls x h (r ∷ rs) bs) → sc.mail ≡ recall_of sc x h r ∷ rest
    → ((k : Clerk) → at (session_clerk sc.server r.0) sc.clerks ≡ Some k → log.batches_are_spent k.log ≡ false)
    → GoesOn j sc (Recalls x h (r ∷ rs) bs) (delivered (session_clerk sc.server r.0) (recall_of sc x h r).1 rest sc)

abbrev pub KeepsGoOn : Type 0
KeepsGoOn = (j : Work) (sc : Scene) (x : ℕ) (h : Hold) (r : Holder) (b : ℕ) (more : Bool) (rest : Mail) → InPhase j sc (Keeps x h r b more)
    → sc.mail ≡ (session_clerk sc.server r.0, msg.Kept r.0 sc.server.durable.epoch b) ∷ rest → ((k : Clerk) → at (session_clerk sc.server r.0) sc.clerks ≡ Some k → log.batches_are_spent k.log ≡ false)
    → GoesOn j sc (Keeps x h r b more) (delivered (session_clerk sc.server r.0) (msg.Kept r.0 sc.server.durable.epoch b) rest sc)

-- The same of an operation that's pushed.
abbrev pub PushedGoesOn : Type 0
PushedGoesOn = (j : Work) (sc : Scene) (b : ℕ) (more : Bool) (rest : Mail) → InPhase j sc (Saved b more) → sc.mail ≡ (j.clerk, msg.Kept j.session sc.server.durable.epoch b) ∷ rest → (n : ℕ) → j.task ≡ Pushes n
    → ((k : Clerk) → at j.clerk sc.clerks ≡ Some k → log.batches_are_spent k.log ≡ false)
    → GoesOn j sc (Saved b more) (delivered j.clerk (msg.Kept j.session sc.server.durable.epoch b) rest sc)

-- What is asked of the clerk that takes the message of a phase.

abbrev pub MaySave : Task → Work → ℕ → Clerk → Type 0
MaySave (Calls cl) j b k = MayGo j (having_kept b k)
MaySave (Pushes n) j b k = log.batches_are_spent k.log ≡ false

abbrev pub MayTake : Work → Scene → Phase → Type 0
MayTake j sc (Recalls x h (r ∷ rs) bs) = (k : Clerk) → at (session_clerk sc.server r.0) sc.clerks ≡ Some k → log.batches_are_spent k.log ≡ false
MayTake j sc (Recalls x h [] bs) = ⊤
MayTake j sc (Keeps x h r b more) = (k : Clerk) → at (session_clerk sc.server r.0) sc.clerks ≡ Some k → log.batches_are_spent k.log ≡ false
MayTake j sc (Grants x h n) = (n ≤ sc.server.number) × ((k : Clerk) → at j.clerk sc.clerks ≡ Some k → MayGo j (taking x h n sc k).clerk)
MayTake j sc (Gives got n first) = (n ≤ sc.server.number) × (nat_le last_grants got ≡ false) × ((k : Clerk) → at j.clerk sc.clerks ≡ Some k → MayGo j (add_ids n first k))
MayTake j sc (Refuses again ask live reserved) = (k : Clerk) → at j.clerk sc.clerks ≡ Some k → MayGo j (unasking k)
MayTake j sc (Saved b more) = (k : Clerk) → at j.clerk sc.clerks ≡ Some k → MaySave j.task j b k
MayTake j sc (Greets age) = ⊤
MayTake j sc (Opens age) = ⊤
MayTake j sc (Claims o) = ⊤
MayTake j sc (Wants x h n) = ⊤
MayTake j sc (Flushes x h r b ops more) = ⊤
MayTake j sc (Asks again got ask) = ⊤
MayTake j sc (Saves b ops more) = ⊤
MayTake j sc Ends = ⊤

-- Each message for a clerk that is the first one leads to a phase with a lower measure.
abbrev pub ClerksGoOn : Type 0
ClerksGoOn = (j : Work) (sc : Scene) (p : Phase) (m : ℕ × Msg) (rest : Mail) → InPhase j sc p → is_for_server m.1 ≡ false → MayTake j sc p → sc.mail ≡ m ∷ rest → GoesOn j sc p (delivered m.0 m.1 rest sc)
