-- What a step of a clerk leaves of a phase and of the measure, as contracts name it.
use Rattle.std.specs.Prelude.{◌≡◌, ◌==◌, ◌+◌, ℕ, T, false, ◌∷◌, Option, Some, ⊤}
use Rattle.std.specs.Ordering.{nat_cmp}
use Rattle.std.specs.FinMap.{is_sorted}
use Rattle.ec_base.specs.Tables.{Table, at, put}
use Rattle.ec_base.specs.declared.ids.Age.{Age}
use Rattle.ec_base.specs.declared.ids.Hold.{Hold}
use Rattle.ec_sessions.specs.OfTokens.Tokens.{Tokens}
use Rattle.ec_wire.specs.declared.msg.Msg.TheVariants.{Opened}
use Rattle.ec_protocol.specs.Clerk.{Doing}
use Rattle.ec_protocol.specs.declared.clerk.Clerk.{Clerk}
use Rattle.ec_quiet.specs.Measure.{Noted, asks_later, base, measure, unsent_by}
use Rattle.ec_quiet.specs.Phases.{Phase, Greets, Opens, Claims, Wants, Recalls, Flushes, Keeps, Grants, Asks, Gives, Refuses, Saves, Saved, Ends, Facts, InPhase, main, messages}
use Rattle.ec_quiet.specs.Scenes.{Mail, Scene, delivered, done_by}
use Rattle.ec_quiet.specs.Works.{Work}

-- no token of another clerk is recalled
abbrev pub IsAlone : Phase → Type 0
IsAlone (Recalls x h rs bs) = ⊥
IsAlone (Flushes x h r b ops rest) = ⊥
IsAlone (Keeps x h r b rest) = ⊥
IsAlone (Greets age) = ⊤
IsAlone (Opens age) = ⊤
IsAlone (Claims o) = ⊤
IsAlone (Wants x h n) = ⊤
IsAlone (Grants x h n) = ⊤
IsAlone (Asks again got ask) = ⊤
IsAlone (Gives got n first) = ⊤
IsAlone (Refuses again ask live reserved) = ⊤
IsAlone (Saves b ops rest) = ⊤
IsAlone (Saved b rest) = ⊤
IsAlone Ends = ⊤

-- its own step leaves a line here: it wants, asks or saves, or is done
abbrev pub IsAsked : Phase → Type 0
IsAsked (Wants x h n) = ⊤
IsAsked (Asks again got ask) = ⊤
IsAsked (Saves b ops rest) = ⊤
IsAsked Ends = ⊤
IsAsked (Greets age) = ⊥
IsAsked (Opens age) = ⊥
IsAsked (Claims o) = ⊥
IsAsked (Recalls x h rs bs) = ⊥
IsAsked (Flushes x h r b ops rest) = ⊥
IsAsked (Keeps x h r b rest) = ⊥
IsAsked (Grants x h n) = ⊥
IsAsked (Gives got n first) = ⊥
IsAsked (Refuses again ask live reserved) = ⊥
IsAsked (Saved b rest) = ⊥

-- A step of the line's clerk comes to a phase where its messages are under way and its facts hold: the server and the others are as before.
abbrev pub OwnStepsCome : Type 0
OwnStepsCome = (j : Work) (sc : Scene) (p q : Phase) → InPhase j sc p → IsAlone p → IsAlone q → (d : Doing) (rest : Mail)
    → main j (done_by j.clerk d rest sc).mail ≡ messages j (done_by j.clerk d rest sc) q → Facts j (done_by j.clerk d rest sc) q → InPhase j (done_by j.clerk d rest sc) q

-- What the measure reads of the line's clerk, and of another one.

abbrev pub own_part : Work → Clerk → ℕ
own_part j k = unsent_by j (j.clerk, k) + asks_later k.waiting k.ids k.asking

abbrev pub OwnStepsMeasure : Type 0
OwnStepsMeasure = (j : Work) (w : Noted) (ts : Tokens) (clerks : Table Clerk) (before now : Clerk) → T (is_sorted nat_cmp clerks) → at j.clerk clerks ≡ Some before
    → base j w ts (put j.clerk now clerks) + own_part j before ≡ base j w ts clerks + own_part j now

abbrev pub OtherStepsMeasure : Type 0
OtherStepsMeasure = (j : Work) (w : Noted) (ts : Tokens) (clerks : Table Clerk) (c : ℕ) (before now : Clerk) → (c == j.clerk) ≡ false → T (is_sorted nat_cmp clerks) → at c clerks ≡ Some before
    → base j w ts (put c now clerks) + unsent_by j (c, before) ≡ base j w ts clerks + unsent_by j (c, now)

-- The clerk takes its new session: it claims nothing, and wants the token that its call lacks, if one waits. The measure falls by 32.
abbrev pub OpenedComesToClaims : Type 0
OpenedComesToClaims = (j : Work) (sc : Scene) (age : Age) (rest : Mail) → InPhase j sc (Opens age) → sc.mail ≡ (j.clerk, Opened age j.session sc.server.durable.epoch) ∷ rest
    → let now = delivered j.clerk (Opened age j.session sc.server.durable.epoch) rest sc in (o : Option (ℕ × Hold)) × InPhase j now (Claims o) × (measure j now (Claims o) + 32 ≡ measure j sc (Opens age))
