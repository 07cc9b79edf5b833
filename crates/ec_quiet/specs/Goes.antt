-- To which phase the try of a call leads, as contracts name it.
use Rattle.std.specs.Prelude.{◌≡◌, ◌≤◌, ◌⊎◌, ◌+◌, ◌*◌, ◌-◌, ℕ, T, [], ◌∷◌, length, None, Some}
use Rattle.ec_base.specs.Tables.{at, put}
use Rattle.ec_base.specs.declared.ids.Hold.{Hold}
use Rattle.ec_volume.specs.Update.{member}
use Rattle.ec_sessions.specs.declared.slot.Slot.{Slot}
use Rattle.ec_cache.specs.declared.resolve.verdict.Verdict.TheVariants.{Need}
use Rattle.ec_volume.specs.Volume.{images}
use Rattle.ec_wire.specs.declared.msg.Msg.TheVariants.{Grant}
use Rattle.ec_protocol.specs.Clerk.{Doing, doing, max_tokens, settle, try, verdict}
use Rattle.ec_protocol.specs.declared.clerk.Clerk.{Clerk}
use Rattle.ec_protocol.specs.declared.clerk.Waiting.{Waiting}
use Rattle.ec_quiet.specs.Measure.{base, if_more, measure}
use Rattle.ec_quiet.specs.Phases.{Phase, Grants, InPhase, NoneNoted, backs, main}
use Rattle.ec_quiet.specs.Scenes.{Mail, Scene, delivered, done_by}
use Rattle.ec_quiet.specs.Works.{Calls, Work, is_saving}
use Rattle.ec_quiet.specs.Evictions.{Evicts}
use Rattle.ec_quiet.specs.Frames.{IsAlone, IsAsked}
use Rattle.ec_quiet.specs.Takings.{ClerkIsReady, taking, with_clerk_at}
use Rattle.ec_quiet.specs.Tries.{HasCounters, IsWaiting, left_by}

-- Behind the step d a phase comes in which no token of another clerk is recalled; what is left to do beside the tokens, the operations and the ids is
-- little: least where no token goes back, or where the clerk has ids.
pub record Goes (j : Work) (sc : Scene) (rest : Mail) (k : Clerk) (d : Doing) : Type 0 where
  pub phase : Phase
  pub alone : IsAlone phase
  pub asked : IsAsked phase
  pub comes : InPhase j (done_by j.clerk d rest sc) phase
  pub price : ℕ
  pub gone : ℕ
  pub small : measure j (done_by j.clerk d rest sc) phase ≤ base j None sc.server.tokens (put j.clerk k sc.clerks) + price + 32 * (length (backs j rest) + gone)
  pub count : length (backs j (done_by j.clerk d rest sc).mail) ≡ length (backs j rest) + gone
  pub few : gone ≤ length k.cache.held - max_tokens
  pub most : price ≤ 576
  pub tight : length k.cache.held ≤ max_tokens → price ≤ if_more (is_saving j.task) 64
  pub cheap : (length k.cache.held ≤ max_tokens) ⊎ (k.ids ≡ [] → ⊥) → price ≤ if_more (is_saving j.task) 192

-- What is asked of a clerk before the try of its call: no counter is at its limit, what it lacks is touched, and only old tokens are too many.
pub record MayGo (j : Work) (k : Clerk) : Type 0 where
  pub call : Waiting
  pub is : j.task ≡ Calls call.call
  pub waits : IsWaiting call k
  pub counters : HasCounters k
  pub touches : (x : ℕ) (h : Hold) → verdict call.call k ≡ Need x h → T (member x j.touched)
  pub evicts : Evicts j.number (left_by (try call (doing k)))

-- Nothing but messages that go back is under way.
abbrev pub ReadyGoes : Type 0
ReadyGoes = (j : Work) (sc : Scene) (p : Phase) → InPhase j sc p → IsAlone p → NoneNoted sc → (rest : Mail) → main j rest ≡ []
    → (sl : Slot) (k : Clerk) → ClerkIsReady j (with_clerk_at j (doing k) rest sc) sl k → MayGo j k → Goes j sc rest k (settle (doing k))

-- the work is in a phase whose measure is lower
abbrev pub GoesOn : Work → Scene → Phase → Scene → Type 0
GoesOn j sc p now = (q : Phase) × InPhase j now q × (measure j now q + 32 ≤ measure j sc p)

-- A grant that comes leads on, and the measure falls by 32.
abbrev pub GrantsGoOn : Type 0
GrantsGoOn = (j : Work) (sc : Scene) (x : ℕ) (h : Hold) (n : ℕ) (rest : Mail) → InPhase j sc (Grants x h n)
    → sc.mail ≡ (j.clerk, Grant j.session sc.server.durable.epoch x n h (images sc.server.durable.volume x)) ∷ rest → n ≤ sc.server.number
    → ((k : Clerk) → at j.clerk sc.clerks ≡ Some k → MayGo j (taking x h n sc k).clerk)
    → GoesOn j sc (Grants x h n) (delivered j.clerk (Grant j.session sc.server.durable.epoch x n h (images sc.server.durable.volume x)) rest sc)

-- Where there are no more tokens than the clerk keeps, none goes back.
abbrev pub RoomyEvicts : Type 0
RoomyEvicts = (n : ℕ) (w : Waiting) (k : Clerk) → k.cache.capacity ≡ max_tokens → length k.cache.held ≤ max_tokens → Evicts n (left_by (try w (doing k)))
