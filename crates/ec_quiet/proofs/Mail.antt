-- The messages under way: how many of them are pending, and what bounds them.
use Rattle.std.proofs.Common.{◌≡◌, refl, sym, ap, ◌∙◌, arith, ◌≤◌, ◌+◌, ◌*◌, ℕ, suc, T, Bool, true, false, not, cond, List, [], ◌∷◌, ◌++◌, length, length-append, map}
use Rattle.std.specs.Prelude.{Option, None, Some, is_some}
use Rattle.ec_base.specs.Tables.{Table, at}
use Rattle.ec_history.specs.History.{Each}
use Rattle.ec_protocol.specs.World.{pending}
use Rattle.ec_protocol.specs.declared.world.Sent.{Sent}
use Rattle.ec_protocol.specs.declared.world.World.{World}
use Rattle.ec_quiet.specs.Measure.{measure, weight}
use Rattle.ec_quiet.specs.Phases.{Phase, Greets, Opens, Claims, Wants, Recalls, Flushes, Keeps, Grants, Asks, Gives, Refuses, Saves, Saved, Ends, InPhase, back_of, backs, is_back, main, messages, recall_of}
use Rattle.ec_quiet.specs.Scenes.{IsScene, Mail, Scene, mail_of}
use Rattle.ec_quiet.specs.Works.{Work}

-- each pending message has its letter
letters : (pool : Table Sent) (ns : List ℕ) → Each (λ n. T (is_some (at n pool))) ns → length (mail_of pool ns) ≡ length ns
letters pool [] k = refl
letters pool (n ∷ ns) k = one (at n pool) k.0 (letters pool ns k.1)
  where
    one : (o : Option Sent) → T (is_some o) → length (mail_of pool ns) ≡ length ns → length (Rattle.ec_quiet.specs.Scenes.letter o ++ mail_of pool ns) ≡ suc (length ns)
    one None t r = absurd t
    one (Some s) t r = ap suc r

pub pending-is : (w : World) (sc : Scene) → IsScene w sc → pending w ≡ length sc.mail
pending-is w sc i = sym (letters w.pool w.pending i.kept) ∙ ap length i.mail

-- Those of a phase, and those that go back.

pub parts : (j : Work) (ms : Mail) → length ms ≡ length (main j ms) + length (backs j ms)
parts j [] = refl
parts j (m ∷ ms) = go (is_back j m) (parts j ms)
  where
    go : (b : Bool) → length ms ≡ length (main j ms) + length (backs j ms) → suc (length ms) ≡ length (cond (not b) (m ∷ main j ms) (main j ms)) + length (cond b (m ∷ backs j ms) (backs j ms))
    go true r = omega (arith, r)
    go false r = omega (arith, r)

mapped : {A B : Type 0} (f : A → B) (xs : List A) → length (map f xs) ≡ length xs
mapped f [] = refl
mapped f (x ∷ xs) = ap suc (mapped f xs)

few-main : (j : Work) (sc : Scene) (p : Phase) → 32 * length (messages j sc p) ≤ weight p + 64
few-main j sc (Greets age) = omega arith
few-main j sc (Opens age) = omega arith
few-main j sc (Claims None) = omega arith
few-main j sc (Claims (Some q)) = omega arith
few-main j sc (Wants x h n) = omega arith
few-main j sc (Recalls x h rs bs) =
    omega (arith, length-append (map (recall_of sc x h) rs) (map (back_of sc x h) bs), mapped (recall_of sc x h) rs, mapped (back_of sc x h) bs)
few-main j sc (Flushes x h r b ops rest) = omega arith
few-main j sc (Keeps x h r b rest) = omega arith
few-main j sc (Grants x h n) = omega arith
few-main j sc (Asks again got ask) = omega arith
few-main j sc (Gives got n first) = omega arith
few-main j sc (Refuses again ask live reserved) = omega arith
few-main j sc (Saves b ops rest) = omega arith
few-main j sc (Saved b rest) = omega arith
few-main j sc Ends = omega arith

pub few : (j : Work) (sc : Scene) (p : Phase) → InPhase j sc p → 32 * length sc.mail ≤ measure j sc p + 64
few j sc p q = omega (arith, parts j sc.mail, ap length q.main_is, few-main j sc p)
