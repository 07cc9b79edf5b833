-- What a step makes of what the facts on names read.
use Rattle.std.specs.Prelude.{◌≡◌, ◌≢◌, ◌≤◌, ◌⊎◌, ◌+◌, ℕ, T, List, [], None, Some}
use Rattle.ec_volume.specs.Update.{member}
use Rattle.ec_history.specs.History.{Each, Op}
use Rattle.ec_protocol.specs.declared.clerk.Clerk.{Clerk}
use Rattle.ec_coherence.specs.System.{System, Ghost, clerk_in}
use Rattle.ec_coherence.specs.Tokens.{Names, view}
use Rattle.ec_lawful.specs.OfClerkSteps.Names.{AreOnNamed}

-- a clerk in a session was in it before, took as many ids and has no other ones; or it has none, and none is in store
abbrev pub WasIn : System → System → ℕ → Clerk → Type 0
WasIn g h s k =
    ((m : Clerk) × (clerk_in g s ≡ Some m) × (k.got ≡ m.got) × (Each (Names (view g)) m.ids → Each (Names (view g)) k.ids))
    ⊎ ((k.ids ≡ []) × (k.got + 1 ≢ h.ghost.grants s))

-- ids that were given since come at or above the next one
abbrev pub AreGiven : System → Ghost → ℕ → Type 0
AreGiven g γ s = ((γ.grants s ≡ g.ghost.grants s) × (γ.first s ≡ g.ghost.first s)) ⊎ (g.durable.next_id ≤ γ.first s)

-- of the ghosts: what is kept or frozen now is on objects named before
pub record GhostsFollow (g : System) (γ : Ghost) : Type 0 where
  pub kept : AreOnNamed g γ.kept
  pub frozen : (s : ℕ) (ks : List Op) → γ.frozen s ≡ Some ks → AreOnNamed g ks
  pub given : (s : ℕ) → AreGiven g γ s

pub record Follows (g h : System) : Type 0 where
  pub origin : h.origin ≡ g.origin
  pub next : g.durable.next_id ≤ h.durable.next_id
  pub ghosts : GhostsFollow g h.ghost
  pub clerks : (s : ℕ) (k : Clerk) → clerk_in h s ≡ Some k → WasIn g h s k

-- What becomes of one start: it goes on in its session with as many ids taken and no other ones, or it's in none, or it has none and none is in store for it.
abbrev pub IsPlaced : System → ℕ → ℕ → Clerk → Type 0
IsPlaced g c b now =
    ((k : Clerk) × (g.clerks c b ≡ Some k) × (now.session ≡ k.session) × (now.got ≡ k.got) × ((x : ℕ) → T (member x now.ids) → T (member x k.ids)))
    ⊎ ((now.session ≡ None) ⊎ ((now.ids ≡ []) × ((s : ℕ) → now.session ≡ Some s → now.got + 1 ≢ g.ghost.grants s)))
