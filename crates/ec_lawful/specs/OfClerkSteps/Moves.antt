-- What a record makes of the ghosts, and which steps of a clerk leave its ids.
use Rattle.std.specs.Prelude.{◌≡◌, ◌⊎◌, ℕ, Bool, filter, None, Some}
use Rattle.ec_history.specs.History.{Op}
use Rattle.ec_protocol.specs.declared.clerk.Clerk.{Clerk}
use Rattle.ec_coherence.specs.System.{System, Ghost, at_session}
use Rattle.ec_lawful.specs.OfClerkSteps.Follows.{AreGiven}

-- What a record makes of the ghosts, as these facts read them: nothing, or one session ends, and its undurable operations are lost.

abbrev pub AreSameOps : System → Ghost → Type 0
AreSameOps g γ = (γ.kept ≡ g.ghost.kept) × (γ.frozen ≡ g.ghost.frozen)

pub record EndsOne (g : System) (γ : Ghost) : Type 0 where
  pub session : ℕ
  pub unfrozen : g.ghost.frozen session ≡ None
  pub stays : Op → Bool
  pub kept : γ.kept ≡ filter stays g.ghost.kept
  pub frozen : γ.frozen ≡ at_session session (Some g.ghost.kept) g.ghost.frozen

pub record GhostsMove (g : System) (γ : Ghost) : Type 0 where
  pub given : (s : ℕ) → AreGiven g γ s
  pub ops : AreSameOps g γ ⊎ EndsOne g γ

-- a start goes on in its session, with as many ids taken, and the same ones
abbrev pub IsStill : Clerk → Clerk → Type 0
IsStill k now = (now.session ≡ k.session) × (now.got ≡ k.got) × (now.ids ≡ k.ids)
