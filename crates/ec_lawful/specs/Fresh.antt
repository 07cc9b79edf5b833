-- The id that an answer has for a new object is of no object, and no call made one with it before.
use Rattle.std.specs.Prelude.{◌≡◌, ◌⊎◌, ◌++◌, ℕ, T, List, [], None, Some}
use Rattle.ec_volume.specs.Update.{member}
use Rattle.ec_volume.specs.Volume.{Images}
use Rattle.ec_history.specs.History.{Each, Throughout}
use Rattle.ec_history.specs.Placing.{place}
use Rattle.ec_history.specs.declared.entry.Entry.{Entry}
use Rattle.ec_history.specs.declared.shown.Shown.{Shown}
use Rattle.ec_protocol.specs.declared.clerk.Clerk.{Clerk}
use Rattle.ec_coherence.specs.System.{System, base_of}
use Rattle.ec_coherence.specs.Tokens.{is_untaken, side}
use Rattle.ec_coherence.specs.Events.{shown_boot}
use Rattle.ec_lawful.specs.FreshIds.{IsFresh, IsGiven, OnCreate}

-- What starts have in store.

-- the start's clerk is in the session
pub record IsIn (g : System) (c b s : ℕ) (k : Clerk) : Type 0 where
  pub stands : g.clerks c b ≡ Some k
  pub session : k.session ≡ Some s

-- it has taken the id
abbrev pub Taken : System → ℕ → ℕ → ℕ → Type 0
Taken g c b x = (s : ℕ) × (k : Clerk) × IsIn g c b s k × T (member x k.ids)

-- the id was given to it, and it didn't take it yet
abbrev pub Hidden : System → ℕ → ℕ → ℕ → Type 0
Hidden g c b x = (s : ℕ) × (k : Clerk) × IsIn g c b s k × T (is_untaken (g.ghost.grants s) (g.ghost.first s) (Some (side k)) x)

abbrev pub Stored : System → ℕ → ℕ → ℕ → Type 0
Stored g c b x = Taken g c b x ⊎ Hidden g c b x

-- Histories.

-- an entry with this id is of this start, and no object was made with it
abbrev pub IsOfStart : System → ℕ → ℕ → ℕ → ℕ × Entry → Type 0
IsOfStart g c b x e = OnCreate (λ p d a op. (base_of g).fresh p ≡ x → (d ≡ c) × (a ≡ shown_boot g c b) × (op ≡ None)) e

-- the ids in the history of these lines were given out, and each is fresh
abbrev pub AreFresh : Images → (ℕ → ℕ) → ℕ → List Shown → Type 0
AreFresh volume fresh next ss = Each (IsGiven volume fresh next) (place ss) × Throughout (IsFresh fresh) [] (place ss)

pub record FreshAgrees (g : System) : Type 0 where
  -- no object was made with an id in store, and other starts' answers don't have it
  pub stored : (c b x : ℕ) → Stored g c b x → Each (IsOfStart g c b x) g.ghost.history
  -- one start alone has taken an id
  pub apart : (c b d a x : ℕ) → Taken g c b x → Taken g d a x → (c ≡ d) × (b ≡ a)
  -- so it is in each front of the lines
  pub fronts : (front rest : List Shown) → front ++ rest ≡ g.ghost.shown → AreFresh g.origin (base_of g).fresh g.durable.next_id front
