-- What a clerk or the server gets in a phase may be counted.
use Rattle.std.proofs.Common.{◌≡◌, refl, sym, ap, ◌∙◌, subst, arith, ℕ, Bool, true, false, not, cond, List, [], ◌∷◌, ◌++◌, map}
use Rattle.std.specs.Prelude.{None, Some, ◌==◌}
use Rattle.std.proofs.lemmas.Bool.{and_parts}
use Rattle.ec_base.specs.declared.ids.Hold.{Hold}
use Rattle.ec_history.specs.History.{Each}
use Rattle.ec_sessions.specs.OfTokens.Tokens.{Holder}
use Rattle.ec_wire.specs.declared.msg.Msg.{Msg}
use Rattle.ec_wire.specs.declared.msg.Msg.TheVariants.{Hello, Want, Back, Flush, Room, Claim, Bye, Opened, Grant, Recall, Kept, Ids, NoRoom, Ended, Restarted, OldBoot}
use Rattle.ec_durable.specs.Durable.{is_full}
use Rattle.ec_protocol.specs.declared.server.Server.{Server}
use Rattle.ec_quiet.specs.Phases.{Phase, Greets, Opens, Claims, Wants, Recalls, Flushes, Keeps, Grants, Asks, Gives, Refuses, Saves, Saved, Ends, InPhase, back_of, is_back, is_back_message, main, messages, recall_of}
use Rattle.ec_quiet.specs.Scenes.{Mail, Scene}
use Rattle.ec_quiet.specs.Works.{Work}
use Rattle.ec_quiet.specs.OfDeliveries.Deliveries.{MayTake}
use Rattle.ec_quiet.specs.OfDeliveries.Coming.{Suits}
use Rattle.ec_quiet.proofs.OfDeliveries.Spending.{is_room}
use Rattle.ec_machine_laws.specs.Unspent.{MayCount, MayGet}

pub may-count : (c : ℕ) (m : Msg) (v : Server) → Suits c m v → (is_room m ≡ true → is_full v.durable ≡ false) → MayCount m v
may-count c (Hello from age) v s room = s
may-count c (Room ss e got ask) v s room = s.0 (room refl)
may-count c (Want ss e x h last) v s room = tt
may-count c (Back ss e x n h) v s room = tt
may-count c (Flush ss e b ops) v s room = tt
may-count c (Claim ss e list) v s room = tt
may-count c (Bye ss e) v s room = tt
may-count c (Opened age ss e) v s room = tt
may-count c (Grant ss e x n h i) v s room = tt
may-count c (Recall ss e x n h) v s room = tt
may-count c (Kept ss e b) v s room = tt
may-count c (Ids ss e got n f) v s room = tt
may-count c (NoRoom ss e ask l r) v s room = tt
may-count c (Ended ss low mask) v s room = tt
may-count c (Restarted ss e) v s room = tt
may-count c (OldBoot a b) v s room = tt

backs-get : (m : Msg) → is_back_message m ≡ true → MayGet m
backs-get (Back ss e x n h) q = tt
backs-get (Hello from age) q = tt
backs-get (Room ss e got ask) q = tt
backs-get (Want ss e x h last) q = tt
backs-get (Flush ss e b ops) q = tt
backs-get (Claim ss e list) q = tt
backs-get (Bye ss e) q = tt
backs-get (Opened age ss e) q = tt
backs-get (Grant ss e x n h i) q = tt
backs-get (Recall ss e x n h) q = tt
backs-get (Kept ss e b) q = tt
backs-get (Ids ss e got n f) q = absurd (grind (arith, q))
backs-get (NoRoom ss e ask l r) q = tt
backs-get (Ended ss low mask) q = absurd (grind (arith, q))
backs-get (Restarted ss e) q = absurd (grind (arith, q))
backs-get (OldBoot a b) q = tt

abbrev AllGet : Mail → Type 0
AllGet ms = Each {A = ℕ × Msg} (λ t. MayGet t.1) ms

both : (ms ns : Mail) → AllGet ms → AllGet ns → AllGet (ms ++ ns)
both [] ns a b = b
both (m ∷ ms) ns a b = (a.0, both ms ns a.1 b)

recalls-get : (sc : Scene) (x : ℕ) (h : Hold) (rs : List Holder) → AllGet (map (recall_of sc x h) rs)
recalls-get sc x h [] = tt
recalls-get sc x h (r ∷ rs) = (tt, recalls-get sc x h rs)

given-get : (sc : Scene) (x : ℕ) (h : Hold) (bs : List Holder) → AllGet (map (back_of sc x h) bs)
given-get sc x h [] = tt
given-get sc x h (b ∷ bs) = (tt, given-get sc x h bs)

all-get : (j : Work) (sc : Scene) (p : Phase) → MayTake j sc p → AllGet (messages j sc p)
all-get j sc (Greets age) may = (tt, tt)
all-get j sc (Opens age) may = (tt, tt)
all-get j sc (Claims None) may = (tt, tt)
all-get j sc (Claims (Some q)) may = (tt, (tt, tt))
all-get j sc (Wants x h n) may = (tt, tt)
all-get j sc (Recalls x h rs bs) may = both (map (recall_of sc x h) rs) (map (back_of sc x h) bs) (recalls-get sc x h rs) (given-get sc x h bs)
all-get j sc (Flushes x h r b ops rest) may = (tt, tt)
all-get j sc (Keeps x h r b rest) may = (tt, tt)
all-get j sc (Grants x h n) may = (tt, tt)
all-get j sc (Asks again got ask) may = (tt, tt)
all-get j sc (Gives got n first) may = (may.1, tt)
all-get j sc (Refuses again ask live reserved) may = (tt, tt)
all-get j sc (Saves b ops rest) may = (tt, tt)
all-get j sc (Saved b rest) may = (tt, tt)
all-get j sc Ends may = tt

pub first-gets : (j : Work) (sc : Scene) (p : Phase) (t : ℕ × Msg) (rest : Mail) → InPhase j sc p → MayTake j sc p → sc.mail ≡ t ∷ rest → MayGet t.1
first-gets j sc p t rest q may head = go (is_back j t) refl
  where
    go : (b : Bool) → is_back j t ≡ b → MayGet t.1
    go true e = backs-get t.1 (and_parts (t.0 == j.clerk) (is_back_message t.1) e).1
    go false e =
        let mains : main j (t ∷ rest) ≡ t ∷ main j rest = ap (λ b. cond (not b) (t ∷ main j rest) (main j rest)) e in
        (subst AllGet (sym q.main_is ∙ ap (main j) head ∙ mains) (all-get j sc p may)).0
