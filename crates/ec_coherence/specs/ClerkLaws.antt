-- What is proved of the messages that a clerk takes, as contracts name it: the facts on tokens stay.
use Rattle.std.specs.Prelude.{◌≡◌, ◌==◌, ℕ, false, None, Some}
use Rattle.ec_wire.specs.declared.msg.Msg.{Msg}
use Rattle.ec_protocol.specs.Clerk.{Doing, enter_epoch, taken}
use Rattle.ec_coherence.specs.System.{System, Ghost, if_in}
use Rattle.ec_coherence.specs.Sessions as sessions
use Rattle.ec_coherence.specs.Sessions.{SessionsAgree}
use Rattle.ec_coherence.specs.Steps.{doing_in}
use Rattle.ec_coherence.specs.Tokens.{Fits, TokensAgree, view}
use Rattle.ec_coherence.specs.Clerks.{NeedsNamed, ghost_after}

-- The facts on sessions and tokens hold of a step under way.
pub record StepGoes (g : System) (c b : ℕ) (d : Doing) (γ : Ghost) : Type 0 where
  pub sessions : SessionsAgree (doing_in c b d γ g)
  pub tokens : TokensAgree (view (doing_in c b d γ g))

-- a clerk without a session takes any message of which these facts hold
abbrev pub TakenOutside : Type 0
TakenOutside = (g : System) (c b : ℕ) (d : Doing) (γ : Ghost) → StepGoes g c b d γ → d.clerk.session ≡ None
    → (m : Msg) → sessions.Fits (doing_in c b d γ g) c m → Fits (view (doing_in c b d γ g)) m → TokensAgree (view (doing_in c b (taken m d) (ghost_after m d γ) g))

-- a clerk in a session does, where what its waiting calls need are objects with ids given out, also in a later epoch
abbrev pub TakenInside : Type 0
TakenInside = (g : System) (c b : ℕ) (d : Doing) (γ : Ghost) → StepGoes g c b d γ → (s : ℕ) → d.clerk.session ≡ Some s
    → ((t : ℕ) → (t == s) ≡ false → if_in t (g.clerks c b) ≡ None)
    → NeedsNamed (view (record g { ghost = γ })) c s d d.clerk → ((a : ℕ) → NeedsNamed (view (record g { ghost = γ })) c s d (enter_epoch a d.clerk))
    → (m : Msg) → sessions.Fits (doing_in c b d γ g) c m → Fits (view (doing_in c b d γ g)) m → TokensAgree (view (doing_in c b (taken m d) (ghost_after m d γ) g))
