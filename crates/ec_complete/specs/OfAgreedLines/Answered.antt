-- Which calls are answered while a line settles, as contracts name it.
use Rattle.std.specs.Prelude.{◌≡◌, ◌⊎◌, ◌==◌, ◌&&◌, ℕ, cond, [], ◌∷◌, None, Some}
use Rattle.ec_plain.specs.declared.call.Call.{Call}
use Rattle.ec_protocol.specs.World as world
use Rattle.ec_protocol.specs.World.{Moving, call, call_of, moving}
use Rattle.ec_protocol.specs.declared.clerk.Clerk.{Clerk}
use Rattle.ec_protocol.specs.declared.world.World.{World}
use Rattle.ec_quiet.specs.SettlingScenes.{Reaches}
use Rattle.ec_machine_laws.specs.PlainLines.{asked_in}

-- no call is under way
abbrev pub NoneCalls : World → Type 0
NoneCalls w = (c n : ℕ) → call_of c n w ≡ None

-- just this one is, and nothing was answered
pub record IsCalled (l c : ℕ) (cl : Call) (m : Moving) : Type 0 where
  pub number : ℕ
  pub calls : (d n : ℕ) → call_of d n m.world ≡ cond ((d == c) && (n == number)) (Some (l, cl)) None
  pub none : asked_in m.shown ≡ []

-- it was answered, and no other one
abbrev pub LineIsAnswered : ℕ → ℕ → Call → Moving → Type 0
LineIsAnswered l c cl m = NoneCalls m.world × (asked_in m.shown ≡ (l, c, cl) ∷ [])

-- Where no call was under way, the call of a line is, or was answered, in each world that the line reaches; so where none is under way again it was.
abbrev pub CallsAreAnsweredOnce : Type 0
CallsAreAnsweredOnce = (w : World) (l c : ℕ) (cl : Call) (r : Moving) → NoneCalls w → (call c l cl w).fault ≡ None → Reaches (call c l cl w) r → IsCalled l c cl r ⊎ LineIsAnswered l c cl r

-- In a line that pushes, or says nothing, no call is.
abbrev pub LinesAnswerNothingElse : Type 0
LinesAnswerNothingElse = (w : World) (r : Moving) → NoneCalls w
    → ((c n : ℕ) (k : Clerk) → Reaches (world.push c n (Some k) w) r → NoneCalls r.world × (asked_in r.shown ≡ [])) × (Reaches (moving w) r → NoneCalls r.world × (asked_in r.shown ≡ []))
