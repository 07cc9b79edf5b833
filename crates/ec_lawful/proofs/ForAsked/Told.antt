-- A server never says goodbye.
use Rattle.std.proofs.Common.{◌≡◌, refl, ◌+◌, ℕ, suc, zero, Bool, true, false, ◌==◌, ◌&&◌, ◌||◌, List, [], ◌∷◌, Option, Some, None}
use Rattle.std.specs.Prelude.{is_none, is_some, length, nat_le, nat_lt, Result, Ok, Err}
use Rattle.std.specs.List.{list_any}
use Rattle.ec_base.specs.Limits.{last_counter}
use Rattle.ec_base.specs.Tables.{at}
use Rattle.ec_base.specs.declared.counter.Counter.TheVariants as counter
use Rattle.ec_base.specs.declared.ids.Age.{Age}
use Rattle.ec_base.specs.declared.ids.Hold.{Hold}
use Rattle.ec_volume.specs.declared.update.Update.{Update}
use Rattle.ec_sessions.specs.OfRecall.Due.{actions, wants_after}
use Rattle.ec_sessions.specs.declared.recall.want.Action.{Action}
use Rattle.ec_sessions.specs.declared.recall.want.Action.TheVariants as action
use Rattle.ec_sessions.specs.OfTokens.Tokens.{claimed as with_claim, fits_back, first_clash, lowered, token}
use Rattle.ec_sessions.specs.declared.tokens.token.Token.{Token}
use Rattle.ec_sessions.specs.Slots.{Slots, greeting}
use Rattle.ec_sessions.specs.Windows.{has}
use Rattle.ec_sessions.specs.declared.slot.Greeting.{Greeting}
use Rattle.ec_sessions.specs.declared.slot.Greeting.TheVariants as greeted_of
use Rattle.ec_sessions.specs.declared.slot.Slot.{Slot}
use Rattle.ec_wire.specs.declared.msg.Msg.{Msg}
use Rattle.ec_wire.specs.declared.msg.Msg.TheVariants.{Back, Bye, Claim, Ended, Flush, Hello, Kept, NoRoom, OldBoot, Opened, Restarted, Room, Want}
use Rattle.ec_durable.specs.Durable.{is_full, live, reserved, slot, step}
use Rattle.ec_durable.specs.declared.record.Record.{Record}
use Rattle.ec_durable.specs.declared.record.Record.TheVariants as record_of
use Rattle.ec_durable.specs.declared.record.RecordFault.{RecordFault}
use Rattle.ec_durable.specs.declared.state.Durable.{Durable}
use Rattle.ec_protocol.specs.Server.{Serving, act, act_all, add_claimed, all_claimed, back, claim, commit, end, end_open, epoch, finish, flush, forget, forget_old, grant_ids, greet, has_claimed, hello, ids_are_spent, in_session, is_grant, is_last_number, may_write, new_server, next_number, note, open_new, record_ids, resend_ids, room, send_grant, send_ids, serve, serve_rounds, serving, slot_of, spend, start, stay, take, taken, tell, tell_all, tell_ended, tell_opened, tell_start, want, with_server}
use Rattle.ec_protocol.specs.declared.server.Server.{Server}
use Rattle.ec_coherence.proofs.ForServer.Lists.{each-more}
use Rattle.ec_history.specs.History.{Each}
use Rattle.ec_lawful.specs.Asked.{IsNoBye}

-- what was said so far is no goodbye
abbrev pub Right : Serving → Type 0
Right t = Each (λ m. IsNoBye m.1) t.sent

says : (c : ℕ) (m : Msg) (t : Serving) → IsNoBye m → Right t → Right (tell c m t)
says c m t i h = each-more (λ m. IsNoBye m.1) t.sent ((c, m) ∷ []) h (i, tt)

commits : (r : Record) (f g : Serving → Serving) (t : Serving) → ((u : Serving) → Right u → Right (f u)) → Right (g t) → Right t → Right (commit r f g t)
commits r f g t i j h = go (step r t.server.durable) refl
  where
    go : (x : Result Durable RecordFault) → step r t.server.durable ≡ x → Right (elim x as (λ z. Serving) [ Ok d ↦ f (record t { server = record (t.server) { durable = d }; rec = Some r }) | Err fault ↦ g t ])
    go (Ok d) e = i (record t { server = record (t.server) { durable = d }; rec = Some r }) h
    go (Err fault) e = j

finishes : (c : ℕ) (sl : Slot) (t : Serving) → Right t → Right (finish c sl t)
finishes c sl t h = commits (record_of.End c sl.session) (λ u. tell_ended c sl (with_server (forget sl.session) u)) stay t
    (λ u i. says c (Ended sl.session sl.window.low sl.window.mask) (with_server (forget sl.session) u) tt i) h h

opened : (c : ℕ) (age : Age) (s : ℕ) (old : Option ℕ) (t : Serving) → Right t → Right (tell_opened c age s old t)
opened c age s old t h = says c (Opened age s (epoch t)) (with_server (λ x. add_claimed s (forget_old old x)) t) tt h

opens : (c : ℕ) (age : Age) (old : Option ℕ) (t : Serving) → Right t → Right (open_new c age old t)
opens c age old t h = go (nat_le last_counter t.server.durable.next_session)
  where
    go : (z : Bool) → Right (elim z as (λ y. Serving) [ true ↦ spend counter.Session t | false ↦ commit (record_of.Open c age t.server.durable.next_session) (tell_opened c age t.server.durable.next_session old) stay t ])
    go true = h
    go false = commits (record_of.Open c age t.server.durable.next_session) (tell_opened c age t.server.durable.next_session old) stay t (λ u i. opened c age t.server.durable.next_session old u i) h h

greets : (c : ℕ) (age : Age) (x : Greeting) (t : Serving) → Right t → Right (greet c age x t)
greets c age (greeted_of.Greater old) t h = opens c age old t h
greets c age (greeted_of.Same s) t h = says c (Opened age s (epoch t)) t tt h
greets c age (greeted_of.Ended s w) t h = says c (Ended s w.low w.mask) (tell c (Opened age s (epoch t)) t) tt (says c (Opened age s (epoch t)) t tt h)
greets c age (greeted_of.OldBoot greatest) t h = says c (OldBoot age greatest) t tt h

hellos : (c from : ℕ) (age : Age) (t : Serving) → Right t → Right (hello c from age t)
hellos c from age t h = go (c == from)
  where
    go : (z : Bool) → Right (elim z as (λ y. Serving) [ true ↦ greet c age (greeting (slot_of c t) age) t | false ↦ t ])
    go true = greets c age (greeting (slot_of c t) age) t h
    go false = h

wants : (c s x : ℕ) (m : Hold) (l : ℕ) (t : Serving) → Right t → Right (want c s x m l t)
wants c s x m l t h = go (token t.server.tokens s x)
  where
    go : (o : Option Token) → Right (elim o as (λ z. Serving) [ None ↦ note s x m t | Some k ↦ elim (nat_lt l k.number) as (λ y. Serving) [ true ↦ send_grant c s x k.hold k.number t | false ↦ note s x m t ] ])
    go None = h
    go (Some k) = inner (nat_lt l k.number)
      where
        inner : (z : Bool) → Right (elim z as (λ y. Serving) [ true ↦ send_grant c s x k.hold k.number t | false ↦ note s x m t ])
        inner true = each-more (λ m. IsNoBye m.1) t.sent _ h (tt, tt)
        inner false = h

backs : (s x n : ℕ) (m : Hold) (t : Serving) → Right t → Right (back s x n m t)
backs s x n m t h = go (fits_back (token t.server.tokens s x) n m)
  where
    go : (z : Bool) → Right (elim z as (λ y. Serving) [ true ↦ with_server (λ v. record v { tokens = lowered s x m n v.tokens }) t | false ↦ t ])
    go true = h
    go false = h

flushes : (c s b : ℕ) (ops : List (ℕ × Update)) (sl : Slot) (t : Serving) → Right t → Right (flush c s b ops sl t)
flushes c s b ops sl t h = go (has sl.window b) (may_write t.server.tokens s ops)
  where
    go : (y z : Bool) → Right (elim y as (λ q. Serving) [
      | true ↦ tell c (Kept s (epoch t) b) t
      | false ↦ elim z as (λ q. Serving) [ true ↦ commit (record_of.Batch c s b ops) (λ u. tell c (Kept s (epoch u) b) u) (finish c sl) t | false ↦ finish c sl t ]
    ])
    go true z = says c (Kept s (epoch t) b) t tt h
    go false true = commits (record_of.Batch c s b ops) (λ u. tell c (Kept s (epoch u) b) u) (finish c sl) t (λ u i. says c (Kept s (epoch u) b) u tt i) (finishes c sl t h) h
    go false false = finishes c sl t h

next : (t : Serving) → Right t → Right (next_number t)
next t h = go (is_last_number t)
  where
    go : (z : Bool) → Right (elim z as (λ y. Serving) [ true ↦ spend counter.Number t | false ↦ with_server (λ s. record s { number = s.number + 1 }) t ])
    go true = h
    go false = h

records-ids : (s first : ℕ) (t : Serving) → Right t → Right (record_ids s first t)
records-ids s first t h = next t h

sends-ids : (c s got first : ℕ) (t : Serving) → Right t → Right (send_ids c s got first t)
sends-ids c s got first t h = each-more (λ m. IsNoBye m.1) t.sent _ h (tt, tt)

-- where it's full, and there alone, room is refused
gives : (c s got ask : ℕ) (t : Serving) → Right t → Right (grant_ids c s got ask t)
gives c s got ask t h = go (is_full t.server.durable) refl (ids_are_spent got t)
  where
    go : (y : Bool) → is_full t.server.durable ≡ y → (z : Bool) → Right (elim y as (λ q. Serving) [
      | true ↦ tell c (NoRoom s (epoch t) ask (live t.server.durable) (reserved t.server.durable)) t
      | false ↦ elim z as (λ q. Serving) [
        | true ↦ spend counter.Id t
        | false ↦ commit (record_of.Ids c s got t.server.durable.next_id) (λ u. send_ids c s got t.server.durable.next_id (record_ids s t.server.durable.next_id u)) stay t
      ]
    ])
    go true e z = says c (NoRoom s (epoch t) ask (live t.server.durable) (reserved t.server.durable)) t tt h
    go false e true = h
    go false e false = commits (record_of.Ids c s got t.server.durable.next_id) (λ u. send_ids c s got t.server.durable.next_id (record_ids s t.server.durable.next_id u)) stay t
        (λ u i. sends-ids c s got t.server.durable.next_id (record_ids s t.server.durable.next_id u) (records-ids s t.server.durable.next_id u i)) h h

gives-again : (c s got : ℕ) (o : Option ℕ) (t : Serving) → Right t → Right (resend_ids c s got o t)
gives-again c s got None t h = h
gives-again c s got (Some first) t h = sends-ids c s got first (elim (is_some (at s t.server.recorded)) as (λ y. Serving) [ true ↦ t | false ↦ record_ids s first t ]) (go (is_some (at s t.server.recorded)))
  where
    go : (z : Bool) → Right (elim z as (λ y. Serving) [ true ↦ t | false ↦ record_ids s first t ])
    go true = h
    go false = records-ids s first t h

rooms : (c s got ask : ℕ) (sl : Slot) (t : Serving) → Right t → Right (room c s got ask sl t)
rooms c s got ask sl t h = go (got == sl.grants) (got + 1 == sl.grants)
  where
    go : (y z : Bool) → Right (elim y as (λ q. Serving) [ true ↦ grant_ids c s got ask t | false ↦ elim z as (λ q. Serving) [ true ↦ resend_ids c s got sl.last_first t | false ↦ t ] ])
    go true z = gives c s got ask t h
    go false true = gives-again c s got sl.last_first t h
    go false false = h

claims : (c s : ℕ) (l : List (ℕ × Hold)) (sl : Slot) (t : Serving) → Right t → Right (claim c s l sl t)
claims c s l sl t h = go (has_claimed s t.server) (is_none (first_clash t.server.tokens s l))
  where
    go : (y z : Bool) → Right (elim y as (λ q. Serving) [
      | true ↦ t
      | false ↦ elim z as (λ q. Serving) [ true ↦ with_server (λ v. record v { tokens = with_claim s l v.tokens; claimed = s ∷ v.claimed }) t | false ↦ finish c sl t ]
    ])
    go true z = h
    go false true = h
    go false false = finishes c sl t h

within : (c s e : ℕ) (free : Bool) (f : Slot → Serving → Serving) (t : Serving) → ((sl : Slot) → Right (f sl t)) → Right t → Right (in_session c s e free f t)
within c s e free f t i h = go (slot_of c t)
  where
    inner : (sl : Slot) (x y z : Bool) → Right (elim x as (λ q. Serving) [
      | false ↦ t
      | true ↦ elim y as (λ q. Serving) [ false ↦ tell_ended c sl t | true ↦ elim z as (λ q. Serving) [ false ↦ tell c (Restarted s (epoch t)) t | true ↦ f sl t ] ]
    ])
    inner sl false y z = h
    inner sl true false z = says c (Ended sl.session sl.window.low sl.window.mask) t tt h
    inner sl true true false = says c (Restarted s (epoch t)) t tt h
    inner sl true true true = i sl

    go : (o : Option Slot) → Right (elim o as (λ q. Serving) [
      | None ↦ t
      | Some sl ↦ elim (sl.session == s) as (λ q. Serving) [
        | false ↦ t
        | true ↦ elim sl.is_open as (λ q. Serving) [ false ↦ tell_ended c sl t | true ↦ elim ((e == epoch t) && (free || has_claimed s t.server)) as (λ q. Serving) [ false ↦ tell c (Restarted s (epoch t)) t | true ↦ f sl t ] ]
      ]
    ])
    go None = h
    go (Some sl) = inner sl (sl.session == s) sl.is_open ((e == epoch t) && (free || has_claimed s t.server))

takes : (c : ℕ) (m : Msg) (t : Serving) → Right t → Right (taken c m t)
takes c (Hello from age) t h = hellos c from age t h
takes c (Want s e x m l) t h = within c s e false (λ sl. want c s x m l) t (λ sl. wants c s x m l t h) h
takes c (Back s e x n m) t h = within c s e false (λ sl. back s x n m) t (λ sl. backs s x n m t h) h
takes c (Flush s e b ops) t h = within c s e false (flush c s b ops) t (λ sl. flushes c s b ops sl t h) h
takes c (Room s e got ask) t h = within c s e false (room c s got ask) t (λ sl. rooms c s got ask sl t h) h
takes c (Claim s e l) t h = within c s e true (claim c s l) t (λ sl. claims c s l sl t h) h
takes c (Bye s e) t h = within c s e true (finish c) t (λ sl. finishes c sl t h) h
takes c _ t h = h

-- Serving.

acts : (a : Action) (t : Serving) → Right t → Right (act a t)
acts (action.Grant s x m) t h = each-more (λ m. IsNoBye m.1) (next_number t).sent _ (next t h) (tt, tt)
acts (action.Recall s x n m) t h = each-more (λ m. IsNoBye m.1) t.sent _ h (tt, tt)

acts-all : (due : List Action) (t : Serving) → Right t → Right (act_all due t)
acts-all [] t h = h
acts-all (a ∷ more) t h = acts-all more (act a t) (acts a t h)

rounds : (n : ℕ) (t : Serving) → Right t → Right (serve_rounds n t)
rounds zero t h = h
rounds (suc n) t h = go (list_any is_grant (actions t.server.tokens t.server.recalls)) (acts-all (actions t.server.tokens t.server.recalls) (with_server (λ s. record s { recalls = wants_after s.tokens s.recalls }) t) h) (λ u i. rounds n u i)
  where
    go : (z : Bool) → Right (act_all (actions t.server.tokens t.server.recalls) (with_server (λ s. record s { recalls = wants_after s.tokens s.recalls }) t)) → ((u : Serving) → Right u → Right (serve_rounds n u))
        → Right (elim z as (λ y. Serving) [ true ↦ serve_rounds n (act_all (actions t.server.tokens t.server.recalls) (with_server (λ s. record s { recalls = wants_after s.tokens s.recalls }) t)) | false ↦ act_all (actions t.server.tokens t.server.recalls) (with_server (λ s. record s { recalls = wants_after s.tokens s.recalls }) t) ])
    go true i r = r _ i
    go false i r = i

serves : (t : Serving) → Right t → Right (serve t)
serves t h = go (all_claimed t.server)
  where
    go : (z : Bool) → Right (elim z as (λ y. Serving) [ true ↦ serve_rounds (suc (length t.server.recalls)) t | false ↦ t ])
    go true = rounds (suc (length t.server.recalls)) t h
    go false = h

pub take-right : (c : ℕ) (m : Msg) (v : Server) → Right (take c m v)
take-right c m v = serves (taken c m (serving v)) (takes c m (serving v) tt)

pub end-right : (c : ℕ) (v : Server) → Right (end c v)
end-right c v = serves (end_open c (slot v.durable c) (serving v)) (go (slot v.durable c))
  where
    inner : (sl : Slot) (z : Bool) → Right (elim z as (λ y. Serving) [ true ↦ finish c sl (serving v) | false ↦ serving v ])
    inner sl true = finishes c sl (serving v) tt
    inner sl false = tt

    go : (o : Option Slot) → Right (end_open c o (serving v))
    go None = tt
    go (Some sl) = inner sl sl.is_open

-- A start.

tells-one : (c : ℕ) (t : Serving) (o : Option Slot) → Right t → Right (tell_start c t o)
tells-one c t None h = says c (Restarted 0 (epoch t)) t tt h
tells-one c t (Some sl) h = go sl.is_open
  where
    go : (z : Bool) → Right (elim z as (λ y. Serving) [ true ↦ tell c (Restarted sl.session (epoch t)) t | false ↦ tell_ended c sl t ])
    go true = says c (Restarted sl.session (epoch t)) t tt h
    go false = says c (Ended sl.session sl.window.low sl.window.mask) t tt h

tells-all : (c : ℕ) (slots : Slots) (t : Serving) → Right t → Right (tell_all c slots t)
tells-all c [] t h = h
tells-all c (o ∷ slots) t h = tells-all (c + 1) slots (tell_start c t o) (tells-one c t o h)

pub start-right : (d : Durable) → Right (start d)
start-right d = go (nat_le last_counter d.epoch)
  where
    go : (z : Bool) → Right (elim z as (λ y. Serving) [
      | true ↦ spend counter.Epoch (serving (new_server d))
      | false ↦ commit (record_of.Epoch (d.epoch + 1)) (λ u. tell_all 0 u.server.durable.sessions u) stay (serving (new_server d))
    ])
    go true = tt
    go false = commits (record_of.Epoch (d.epoch + 1)) (λ u. tell_all 0 u.server.durable.sessions u) stay (serving (new_server d)) (λ u i. tells-all 0 u.server.durable.sessions u i) tt tt
