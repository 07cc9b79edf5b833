-- Sessions and their starts, and what messages say of them.
use Rattle.std.specs.Prelude.{◌≡◌, ◌≤◌, ◌<◌, ◌⊎◌, ℕ, suc, zero, T, not, [], length, None, Some, is_some, ⊤}
use Rattle.ec_base.specs.declared.ids.Age.{Age}
use Rattle.ec_history.specs.History.{Each}
use Rattle.ec_base.specs.Ages.{is_older}
use Rattle.ec_sessions.specs.Windows.{has}
use Rattle.ec_sessions.specs.declared.slot.Slot.{Slot}
use Rattle.ec_wire.specs.Messages.{is_sound}
use Rattle.ec_wire.specs.declared.msg.Msg.{Msg}
use Rattle.ec_wire.specs.declared.msg.Msg.TheVariants.{Hello, Want, Back, Flush, Room, Claim, Bye, Opened, Grant, Recall, Kept, Ids, Ended}
use Rattle.ec_durable.specs.Durable.{slot}
use Rattle.ec_cache.specs.Cache as cache
use Rattle.ec_protocol.specs.declared.clerk.Clerk.{Clerk}
use Rattle.ec_coherence.specs.System.{System, is_open}

-- Facts about one message between a clerk and the server.

-- the session is one of the clerk's
abbrev pub IsOf : System → ℕ → ℕ → Type 0
IsOf g c s = (a : Age) × (g.ghost.owner s ≡ Some (c, a))

-- an age that the start has reached
abbrev pub IsReached : System → ℕ → Age → Type 0
IsReached g c age = (age.boot ≤ g.boots c) × ((k : Clerk) → g.clerks c age.boot ≡ Some k → age.round ≤ k.age.round)

-- of the slot that stands for the session, if it still does
abbrev pub OfSlot : System → ℕ → ℕ → (Slot → Type 0) → Type 0
OfSlot g c s P = (sl : Slot) → slot g.durable c ≡ Some sl → sl.session ≡ s → P sl

abbrev pub Fits : System → ℕ → Msg → Type 0
Fits g c (Hello from age) = (from ≡ c) × (c < 16) × IsReached g c age
Fits g c (Want s e x h n) = IsOf g c s
Fits g c (Back s e x n h) = IsOf g c s
Fits g c (Flush s e b ops) = IsOf g c s
Fits g c (Room s e got ask) = IsOf g c s
Fits g c (Claim s e l) = IsOf g c s
Fits g c (Bye s e) = IsOf g c s
-- it's told the age with which the session was opened
Fits g c (Opened age s e) = g.ghost.owner s ≡ Some (c, age)
Fits g c (Grant s e x n h i) = IsOf g c s
Fits g c (Recall s e x n h) = IsOf g c s
-- a batch that is acknowledged is in the window, and the end of a session tells its last window
Fits g c (Kept s e b) = IsOf g c s × OfSlot g c s (λ sl. T (has sl.window b))
Fits g c (Ids s e got n first) = IsOf g c s
Fits g c (Ended s low mask) = (s < g.durable.next_session) × T (not (is_open g s)) × OfSlot g c s (λ sl. (sl.window.low ≡ low) × (sl.window.mask ≡ mask))
Fits g c _ = ⊤

-- A clerk without a session has nothing of one.
pub record HasNone (k : Clerk) : Type 0 where
  pub epoch : k.epoch ≡ 0
  pub cache : k.cache ≡ cache.empty k.cache.capacity
  pub undurable : k.log.undurable ≡ []
  pub batches : k.log.batches ≡ []
  pub next_batch : k.log.next_batch ≡ 1
  pub first : k.log.first ≡ k.log.next
  pub recalls : k.recalls ≡ []
  pub ids : k.ids ≡ []
  pub got : k.got ≡ 0
  pub asking : k.asking ≡ None

pub record SessionsAgree (g : System) : Type 0 where
  pub sixteen : length g.durable.sessions ≡ 16
  pub next : suc zero ≤ g.durable.next_session
  -- each slot's session is numbered, and opened with the slot's age
  pub slots : (c : ℕ) (sl : Slot) → slot g.durable c ≡ Some sl → (suc zero ≤ sl.session) × (sl.session < g.durable.next_session) × (g.ghost.owner sl.session ≡ Some (c, sl.age))
  -- a session that was opened is that of its clerk's slot, or an older one
  pub owned : (s : ℕ) (o : ℕ × Age) → g.ghost.owner s ≡ Some o →
      (s < g.durable.next_session) × ((o.1).boot ≤ g.boots o.0) × (sl : Slot) × (slot g.durable o.0 ≡ Some sl) × ((sl.session ≡ s) ⊎ T (is_older o.1 sl.age))
  -- an age opens one session
  pub once : (s t : ℕ) (o : ℕ × Age) → g.ghost.owner s ≡ Some o → g.ghost.owner t ≡ Some o → s ≡ t
  pub taken : (s : ℕ) → T (g.ghost.taken s) → T (is_some (g.ghost.owner s))
  -- a session is taken where its start is in it, or was
  pub told : (s : ℕ) (o : ℕ × Age) (k : Clerk) → g.ghost.owner s ≡ Some o → g.clerks o.0 (o.1).boot ≡ Some k →
      (T (g.ghost.taken s) → (k.session ≡ Some s) ⊎ T (is_older o.1 k.age)) × (T (not (g.ghost.taken s)) → (o.1 ≡ k.age → k.session ≡ None) × T (not (is_older o.1 k.age)))
  -- starts stand by clerk and boot, and the running one is the last
  pub starts : (c b : ℕ) (k : Clerk) → g.clerks c b ≡ Some k → (k.id ≡ c) × (k.age.boot ≡ b) × (b ≤ g.boots c) × (c < 16)
  -- a start's round rises only behind a session of its age
  pub rounds : (c b n : ℕ) (k : Clerk) → g.clerks c b ≡ Some k → n < k.age.round → (s : ℕ) × (g.ghost.owner s ≡ Some (c, record { boot = b; round = n }))
  pub running : (c b : ℕ) → g.running c ≡ Some b → (b ≡ g.boots c) × T (is_some (g.clerks c b))
  -- a clerk in a session took it with its own age
  pub in_session : (c b s : ℕ) (k : Clerk) → g.clerks c b ≡ Some k → k.session ≡ Some s → (g.ghost.owner s ≡ Some (c, k.age)) × T (g.ghost.taken s)
  pub without : (c b : ℕ) (k : Clerk) → g.clerks c b ≡ Some k → k.session ≡ None → HasNone k
  -- a running clerk in a session is in that of its slot
  pub current : (c b s : ℕ) (k : Clerk) → g.running c ≡ Some b → g.clerks c b ≡ Some k → k.session ≡ Some s → (sl : Slot) × (slot g.durable c ≡ Some sl) × (sl.session ≡ s)
  -- the fields of messages are within their ranges
  pub sound : Each (λ m. T (is_sound m.1)) g.pool
  pub messages : Each (λ m. Fits g m.0 m.1) g.pool
