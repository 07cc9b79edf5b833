-- How a token leaves a clerk.
use Rattle.std.specs.Prelude.{◌≤◌, ◌==◌, ◌⊎◌, ◌||◌, ℕ, T, Bool, false}
use Rattle.std.specs.List.{list_any}
use Rattle.ec_base.specs.Holds.{rank}
use Rattle.ec_cache.specs.Cache.{mode}
use Rattle.ec_wire.specs.declared.msg.Msg.{Msg}
use Rattle.ec_wire.specs.declared.msg.Msg.TheVariants.{Back, Ended, Grant}
use Rattle.ec_protocol.specs.Clerk.{Doing, is_session}
use Rattle.ec_protocol.specs.declared.clerk.Clerk.{Clerk}
use Rattle.ec_protocol.specs.declared.clerk.Out.{Out}
use Rattle.ec_protocol.specs.declared.clerk.Out.TheVariants as out

-- the object is held by no lower a mode
abbrev pub KeepsMode : ℕ → Clerk → Clerk → Type 0
KeepsMode x k now = rank (mode x k.cache) ≤ rank (mode x now.cache)

-- its token goes back
abbrev pub gives_back : ℕ → Msg → Bool
gives_back x (Back s e y n h) = x == y
gives_back x _ = false

abbrev pub is_back : ℕ → Out → Bool
is_back x (out.Send m) = gives_back x m
is_back x _ = false

-- the message grants it anew
abbrev pub is_granted : ℕ → Msg → Bool
is_granted x (Grant s e y n h i) = x == y
is_granted x _ = false

-- the message tells that the clerk's session has ended
abbrev pub is_end : Msg → Clerk → Bool
is_end (Ended s low mask) k = is_session s k.session
is_end _ k = false

-- Behind a step each token is held by no lower a mode, or the step gave it back.
abbrev pub TokensStay : Clerk → Doing → Type 0
TokensStay k d = (x : ℕ) → KeepsMode x k d.clerk ⊎ T (list_any (is_back x) d.outs)

-- So it is behind a message too, unless that grants the token anew, or ends the session.
abbrev pub TokensStayBehind : Msg → Clerk → Doing → Type 0
TokensStayBehind m k d = (x : ℕ) → KeepsMode x k d.clerk ⊎ (T (list_any (is_back x) d.outs) ⊎ T (is_granted x m || is_end m k))
