-- What is proved of a message that a clerk takes, as contracts name it: all facts of the step under way stand behind it.
use Rattle.std.specs.Prelude.{◌≡◌, ◌⊎◌, ℕ, T, Contains, Some, is_some, false, ⊤}
use Rattle.ec_wire.specs.declared.msg.Msg.{Msg}
use Rattle.ec_wire.specs.declared.msg.Msg.TheVariants.{NoRoom}
use Rattle.ec_protocol.specs.Clerk.{doing, is_session, take, taken}
use Rattle.ec_protocol.specs.declared.clerk.Clerk.{Clerk}
use Rattle.ec_coherence.specs.System.{System}
use Rattle.ec_lawful.specs.OfClerkSteps.JoinLaws.{ghosts_joined}
use Rattle.ec_lawful.specs.SettleLaws.{IsLined, TriesAll}
use Rattle.ec_lawful.specs.Steps.{StepIsDone}
use Rattle.ec_lawful.specs.Whole.{Whole}

-- the message answers no call: it doesn't refuse the ids that the clerk asked for
abbrev pub AnswersNone : Clerk → Msg → Type 0
AnswersNone k (NoRoom s e ask live reserved) = is_session ask k.asking ≡ false
AnswersNone k _ = ⊤

-- such a message that was sent is taken, in a session and without one: the step stands, unless a counter is spent
abbrev pub MessagesStand : Type 0
MessagesStand = (g : System) → Whole g → (c b : ℕ) (k : Clerk) → g.running c ≡ Some b → g.clerks c b ≡ Some k → (m : Msg) → Contains g.pool (c, m) → AnswersNone k m
    → T (is_some (taken m (doing k)).spent) ⊎ IsLined g c b (taken m (doing k)) (ghosts_joined c m (doing k) g.ghost)

-- and so is its whole step done, where the tries of waiting calls stand
abbrev pub MessagesAreDone : Type 0
MessagesAreDone = (g : System) → Whole g → (c b : ℕ) (k : Clerk) → g.running c ≡ Some b → g.clerks c b ≡ Some k → TriesAll g c b → (m : Msg) → Contains g.pool (c, m) → AnswersNone k m → StepIsDone Whole g c b (take m k)
