-- The line's clerk takes a token, as contracts name it.
use Rattle.std.specs.Prelude.{◌≡◌, ◌≤◌, ◌⊎◌, ℕ, true, [], ◌∷◌, None, Some}
use Rattle.ec_base.specs.Tables.{at, put}
use Rattle.ec_base.specs.declared.ids.Hold.{Hold}
use Rattle.ec_history.specs.History.{Each}
use Rattle.ec_volume.specs.Volume.{images}
use Rattle.ec_sessions.specs.declared.slot.Slot.{Slot}
use Rattle.ec_wire.specs.declared.msg.Msg.TheVariants.{Grant}
use Rattle.ec_cache.specs.Cache as cache
use Rattle.ec_protocol.specs.Clerk.{Doing, doing, max_tokens, settle, with_cache}
use Rattle.ec_cache.specs.declared.state.Held.{Held}
use Rattle.ec_durable.specs.Durable.{slot}
use Rattle.ec_protocol.specs.Server.{has_claimed}
use Rattle.ec_protocol.specs.declared.clerk.Clerk.{Clerk}
use Rattle.ec_protocol.specs.declared.server.Server.{Server}
use Rattle.ec_wire.specs.declared.msg.Msg.{Msg}
use Rattle.ec_quiet.specs.Facts.{WantIsAnswered, Lacks, Same}
use Rattle.ec_quiet.specs.Phases.{Grants, InPhase, IsAged, IsGivenBack, IsLeaving, backs}
use Rattle.ec_quiet.specs.Scenes.{Mail, Scene, delivered, done_by}
use Rattle.ec_quiet.specs.Works.{HasTask, Work}

-- The clerk is in the session of its slot, in the server's epoch, and owes nothing; in the midst of a step it may have more tokens than it keeps.
pub record IsInside (v : Server) (c : ℕ) (sl : Slot) (k : Clerk) : Type 0 where
  pub there : slot v.durable c ≡ Some sl
  pub is_open : sl.is_open ≡ true
  pub session : k.session ≡ Some sl.session
  pub epoch : k.epoch ≡ v.durable.epoch
  pub claimed : has_claimed sl.session v ≡ true
  pub unowed : k.owed ≡ []
  pub numbers : (x : ℕ) (h : Held) → at x k.cache.held ≡ Some h → h.number ≡ cache.last x k.cache
  pub lasts : (x : ℕ) → cache.last x k.cache ≤ v.number
  pub capacity : k.cache.capacity ≡ max_tokens

-- It stands before the try of its call: it has the tokens that the server has recorded, each want was answered, and nothing is asked for or under way.
pub record ClerkIsReady (j : Work) (sc : Scene) (sl : Slot) (k : Clerk) : Type 0 where
  pub there : at j.clerk sc.clerks ≡ Some k
  pub inside : IsInside sc.server j.clerk sl k
  pub session : sl.session ≡ j.session
  pub recalls : k.recalls ≡ []
  pub limits : k.cache.limits ≡ []
  pub same : (x : ℕ) → Same sc.server j.session k x ⊎ IsLeaving j sc k x
  pub given_back : Each {A = ℕ × Msg} (λ m. IsGivenBack j sc.server.durable.epoch k m.1) (backs j sc.mail)
  pub aged : IsAged j k
  pub task : HasTask j.task k
  pub asking : k.asking ≡ None
  pub batches : k.log.batches ≡ []
  pub window : Lacks 0 sl k.log
  pub grants : sl.grants ≡ k.got
  pub answered : Each (WantIsAnswered k.cache) k.wanted

-- the step that takes it, before the try
abbrev pub taking : ℕ → Hold → ℕ → Scene → Clerk → Doing
taking x h n sc k = with_cache (cache.take x h n (images sc.server.durable.volume x)) (doing k)

abbrev pub with_clerk_at : Work → Doing → Mail → Scene → Scene
with_clerk_at j d rest sc = record sc { clerks = put j.clerk d.clerk sc.clerks; mail = rest }

-- A grant that comes is taken, and then the call is tried, where the server gave the number out.
abbrev pub GrantsAreTaken : Type 0
GrantsAreTaken = (j : Work) (sc : Scene) (x : ℕ) (h : Hold) (n : ℕ) (rest : Mail) → InPhase j sc (Grants x h n)
    → sc.mail ≡ (j.clerk, Grant j.session sc.server.durable.epoch x n h (images sc.server.durable.volume x)) ∷ rest → n ≤ sc.server.number
    → (k : Clerk) × (sl : Slot) × (at j.clerk sc.clerks ≡ Some k)
    × (delivered j.clerk (Grant j.session sc.server.durable.epoch x n h (images sc.server.durable.volume x)) rest sc ≡ done_by j.clerk (settle (taking x h n sc k)) rest sc)
    × ClerkIsReady j (with_clerk_at j (taking x h n sc k) rest sc) sl (taking x h n sc k).clerk
