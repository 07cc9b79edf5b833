-- A server refuses ids only where it's full.
use Rattle.std.proofs.Common.{◌≡◌, sym, subst, ◌+◌, ℕ, zero, suc, Bool, true, false, ◌==◌, ◌&&◌, ◌||◌, List, [], ◌∷◌, Option, Some, None, length}
use Rattle.std.specs.Prelude.{Ok, Err, Result, is_none, is_some, nat_le, nat_lt}
use Rattle.std.specs.List.{list_any}
use Rattle.ec_base.specs.Limits.{last_counter}
use Rattle.ec_base.specs.Tables.{at}
use Rattle.ec_base.specs.declared.counter.Counter.TheVariants as counter
use Rattle.ec_base.specs.declared.ids.Age.{Age}
use Rattle.ec_base.specs.declared.ids.Hold.{Hold}
use Rattle.ec_volume.specs.declared.update.Update.{Update}
use Rattle.ec_history.specs.History.{Each}
use Rattle.ec_sessions.specs.Slots.{greeting}
use Rattle.ec_sessions.specs.Windows.{has}
use Rattle.ec_sessions.specs.declared.slot.Slot.{Slot}
use Rattle.ec_sessions.specs.declared.slot.Greeting.{Greeting}
use Rattle.ec_sessions.specs.declared.slot.Greeting.TheVariants as greeted
use Rattle.ec_sessions.specs.OfTokens.Tokens.{first_clash, fits_back, token}
use Rattle.ec_sessions.specs.declared.tokens.token.Token.{Token}
use Rattle.ec_sessions.specs.OfRecall.Due.{actions, wants_after}
use Rattle.ec_sessions.specs.declared.recall.want.Action.{Action}
use Rattle.ec_sessions.specs.declared.recall.want.Action.TheVariants as action
use Rattle.ec_wire.specs.declared.msg.Msg.{Msg}
use Rattle.ec_wire.specs.declared.msg.Msg.TheVariants as msg
use Rattle.ec_durable.specs.Durable.{is_full, step}
use Rattle.ec_durable.specs.declared.record.Record.{Record}
use Rattle.ec_durable.specs.declared.record.Record.TheVariants as record_of
use Rattle.ec_durable.specs.declared.record.RecordFault.{RecordFault}
use Rattle.ec_durable.specs.declared.state.Durable.{Durable}
use Rattle.ec_protocol.specs.Server.{Serving, act, act_all, all_claimed, back, claim, commit, epoch, finish, flush, forget, grant, grant_ids, greet, has_claimed, hello, ids_are_spent, in_session, is_grant, is_last_number, may_write, next_number, open_new, record_ids, resend_ids, room, send_ids, serve, serve_rounds, serving, slot_of, spend, stay, take, taken, tell, tell_ended, tell_opened, want, with_server}
use Rattle.ec_protocol.specs.declared.server.Server.{Server}
use Rattle.ec_coherence.proofs.ForServer.Lists.{each-more}
use Rattle.ec_complete.specs.Rooms.{GrantsRoom, IsWellAsked}

-- no message of the step refuses ids
abbrev Grants : Serving → Type 0
Grants t = Each {A = ℕ × Msg} (λ s. GrantsRoom s.1) t.sent

tells : (c : ℕ) (m : Msg) (t : Serving) → GrantsRoom m → Grants t → Grants (tell c m t)
tells c m t p h = each-more (λ s. GrantsRoom s.1) t.sent ((c, m) ∷ []) h (p, tt)

choose : (z : Bool) (t u : Serving) → Grants t → Grants u → Grants (elim z as (λ y. Serving) [ true ↦ t | false ↦ u ])
choose true t u h i = h
choose false t u h i = i

commits : (r : Record) (f g : Serving → Serving) (t : Serving) → ((u : Serving) → Grants u → Grants (f u)) → ((u : Serving) → Grants u → Grants (g u)) → Grants t → Grants (commit r f g t)
commits r f g t p q h = go (step r t.server.durable)
  where
    go : (o : Result Durable RecordFault) → Grants (elim o as (λ z. Serving) [ Ok d ↦ f (record t { server = record (t.server) { durable = d }; rec = Some r }) | Err fault ↦ g t ])
    go (Ok d) = p (record t { server = record (t.server) { durable = d }; rec = Some r }) h
    go (Err fault) = q t h

finishes : (c : ℕ) (sl : Slot) (t : Serving) → Grants t → Grants (finish c sl t)
finishes c sl t h = commits (record_of.End c sl.session) (λ u. tell_ended c sl (with_server (forget sl.session) u)) stay t (λ u i. tells c (msg.Ended sl.session sl.window.low sl.window.mask) (with_server (forget sl.session) u) tt i) (λ u i. i) h

-- Hello.

opens : (c : ℕ) (age : Age) (old : Option ℕ) (t : Serving) → Grants t → Grants (open_new c age old t)
opens c age old t h =
    choose (nat_le last_counter t.server.durable.next_session) (spend counter.Session t) (commit (record_of.Open c age t.server.durable.next_session) (tell_opened c age t.server.durable.next_session old) stay t) h
    (commits (record_of.Open c age t.server.durable.next_session) (tell_opened c age t.server.durable.next_session old) stay t (λ u i. tells c (msg.Opened age t.server.durable.next_session (epoch u)) u tt i) (λ u i. i) h)

greets : (c : ℕ) (age : Age) (g : Greeting) (t : Serving) → Grants t → Grants (greet c age g t)
greets c age (greeted.Greater old) t h = opens c age old t h
greets c age (greeted.Same ss) t h = tells c (msg.Opened age ss (epoch t)) t tt h
greets c age (greeted.Ended ss w) t h = tells c (msg.Ended ss w.low w.mask) (tell c (msg.Opened age ss (epoch t)) t) tt (tells c (msg.Opened age ss (epoch t)) t tt h)
greets c age (greeted.OldBoot greatest) t h = tells c (msg.OldBoot age greatest) t tt h

-- Wants, tokens given back and batches.

wants : (c ss x : ℕ) (m : Hold) (last : ℕ) (t : Serving) → Grants t → Grants (want c ss x m last t)
wants c ss x m last t h = go (token t.server.tokens ss x)
  where
    go : (o : Option Token) → Grants (elim o as (λ z. Serving) [
      | None ↦ Rattle.ec_protocol.specs.Server.note ss x m t
      | Some k ↦ elim (nat_lt last k.number) as (λ z. Serving) [ true ↦ Rattle.ec_protocol.specs.Server.send_grant c ss x k.hold k.number t | false ↦ Rattle.ec_protocol.specs.Server.note ss x m t ]
    ])
    go None = h
    go (Some k) = choose (nat_lt last k.number) (Rattle.ec_protocol.specs.Server.send_grant c ss x k.hold k.number t) (Rattle.ec_protocol.specs.Server.note ss x m t) (tells c (msg.Grant ss (epoch t) x k.number k.hold (Rattle.ec_volume.specs.Volume.images t.server.durable.volume x)) t tt h) h

backs : (ss x n : ℕ) (m : Hold) (t : Serving) → Grants t → Grants (back ss x n m t)
backs ss x n m t h = choose (fits_back (token t.server.tokens ss x) n m) (with_server (λ s. record s { tokens = Rattle.ec_sessions.specs.OfTokens.Tokens.lowered ss x m n s.tokens }) t) t h h

flushes : (c ss b : ℕ) (ops : List (ℕ × Update)) (sl : Slot) (t : Serving) → Grants t → Grants (flush c ss b ops sl t)
flushes c ss b ops sl t h =
    choose (has sl.window b) (tell c (msg.Kept ss (epoch t) b) t) (elim (may_write t.server.tokens ss ops) as (λ z. Serving) [ true ↦ commit (record_of.Batch c ss b ops) (λ u. tell c (msg.Kept ss (epoch u) b) u) (finish c sl) t | false ↦ finish c sl t ])
    (tells c (msg.Kept ss (epoch t) b) t tt h)
    (choose (may_write t.server.tokens ss ops) (commit (record_of.Batch c ss b ops) (λ u. tell c (msg.Kept ss (epoch u) b) u) (finish c sl) t) (finish c sl t)
    (commits (record_of.Batch c ss b ops) (λ u. tell c (msg.Kept ss (epoch u) b) u) (finish c sl) t (λ u i. tells c (msg.Kept ss (epoch u) b) u tt i) (finishes c sl) h)
    (finishes c sl t h))

-- Ids.

numbers : (t : Serving) → Grants t → Grants (next_number t)
numbers t h = choose (is_last_number t) (spend counter.Number t) (with_server (λ s. record s { number = s.number + 1 }) t) h h

records-ids : (ss first : ℕ) (t : Serving) → Grants t → Grants (record_ids ss first t)
records-ids ss first t h = numbers t h

sends-ids : (c ss got first : ℕ) (t : Serving) → Grants t → Grants (send_ids c ss got first t)
sends-ids c ss got first t h = tells c (msg.Ids ss (epoch t) got (Rattle.ec_base.specs.Tables.at_or 0 ss t.server.recorded) first) t tt h

grants-ids : (c ss got ask : ℕ) (t : Serving) → is_full t.server.durable ≡ false → Grants t → Grants (grant_ids c ss got ask t)
grants-ids c ss got ask t full h = subst (λ z. Grants (elim z as (λ y. Serving) [ true ↦ refuses | false ↦ gives ])) (sym full)
    (choose (ids_are_spent got t) (spend counter.Id t) (commit (record_of.Ids c ss got first) f stay t) h (commits (record_of.Ids c ss got first) f stay t (λ u i. sends-ids c ss got first (record_ids ss first u) (records-ids ss first u i)) (λ u i. i) h))
  where
    first : ℕ
    first = t.server.durable.next_id

    f : Serving → Serving
    f u = send_ids c ss got first (record_ids ss first u)

    refuses : Serving
    refuses = tell c (msg.NoRoom ss (epoch t) ask (Rattle.ec_durable.specs.Durable.live t.server.durable) (Rattle.ec_durable.specs.Durable.reserved t.server.durable)) t

    gives : Serving
    gives = elim (ids_are_spent got t) as (λ y. Serving) [ true ↦ spend counter.Id t | false ↦ commit (record_of.Ids c ss got first) f stay t ]

resends-ids : (c ss got : ℕ) (o : Option ℕ) (t : Serving) → Grants t → Grants (resend_ids c ss got o t)
resends-ids c ss got None t h = h
resends-ids c ss got (Some first) t h = sends-ids c ss got first (elim (is_some (at ss t.server.recorded)) as (λ z. Serving) [ true ↦ t | false ↦ record_ids ss first t ]) (choose (is_some (at ss t.server.recorded)) t (record_ids ss first t) h (records-ids ss first t h))

rooms : (c ss got ask : ℕ) (sl : Slot) (t : Serving) → is_full t.server.durable ≡ false → Grants t → Grants (room c ss got ask sl t)
rooms c ss got ask sl t full h =
    choose (got == sl.grants) (grant_ids c ss got ask t) (elim (got + 1 == sl.grants) as (λ z. Serving) [ true ↦ resend_ids c ss got sl.last_first t | false ↦ t ]) (grants-ids c ss got ask t full h)
    (choose (got + 1 == sl.grants) (resend_ids c ss got sl.last_first t) t (resends-ids c ss got sl.last_first t h) h)

claims : (c ss : ℕ) (list : List (ℕ × Hold)) (sl : Slot) (t : Serving) → Grants t → Grants (claim c ss list sl t)
claims c ss list sl t h =
    choose (has_claimed ss t.server) t (elim (is_none (first_clash t.server.tokens ss list)) as (λ z. Serving) [ true ↦ claimed | false ↦ finish c sl t ]) h
    (choose (is_none (first_clash t.server.tokens ss list)) claimed (finish c sl t) h (finishes c sl t h))
  where
    claimed : Serving
    claimed = with_server (λ s. record s { tokens = Rattle.ec_sessions.specs.OfTokens.Tokens.claimed ss list s.tokens; claimed = ss ∷ s.claimed }) t

-- Messages.

within : (c ss e : ℕ) (b : Bool) (f : Slot → Serving → Serving) (t : Serving) → ((sl : Slot) → Grants (f sl t)) → Grants t → Grants (in_session c ss e b f t)
within c ss e b f t p h = go (slot_of c t)
  where
    go : (o : Option Slot) → Grants (elim o as (λ z. Serving) [
      | None ↦ t
      | Some sl ↦ elim (sl.session == ss) as (λ z. Serving) [
        | false ↦ t
        | true ↦ elim sl.is_open as (λ z. Serving) [
          | false ↦ tell_ended c sl t
          | true ↦ elim ((e == epoch t) && (b || has_claimed ss t.server)) as (λ z. Serving) [ false ↦ tell c (msg.Restarted ss (epoch t)) t | true ↦ f sl t ]
        ]
      ]
    ])
    go None = h
    go (Some sl) = by (sl.session == ss) sl.is_open ((e == epoch t) && (b || has_claimed ss t.server))
      where
        by : (x y z : Bool) → Grants (elim x as (λ z. Serving) [
          | false ↦ t
          | true ↦ elim y as (λ z. Serving) [
            | false ↦ tell_ended c sl t
            | true ↦ elim z as (λ z. Serving) [ false ↦ tell c (msg.Restarted ss (epoch t)) t | true ↦ f sl t ]
          ]
        ])
        by false y z = h
        by true false z = tells c (msg.Ended sl.session sl.window.low sl.window.mask) t tt h
        by true true false = tells c (msg.Restarted ss (epoch t)) t tt h
        by true true true = p sl

takes : (c : ℕ) (m : Msg) (t : Serving) → IsWellAsked m t.server → Grants t → Grants (taken c m t)
takes c (msg.Hello from age) t w h = choose (c == from) (greet c age (greeting (slot_of c t) age) t) t (greets c age (greeting (slot_of c t) age) t h) h
takes c (msg.Want ss e x m last) t w h = within c ss e false (λ sl. want c ss x m last) t (λ sl. wants c ss x m last t h) h
takes c (msg.Back ss e x n m) t w h = within c ss e false (λ sl. back ss x n m) t (λ sl. backs ss x n m t h) h
takes c (msg.Flush ss e b ops) t w h = within c ss e false (flush c ss b ops) t (λ sl. flushes c ss b ops sl t h) h
takes c (msg.Room ss e got ask) t w h = within c ss e false (room c ss got ask) t (λ sl. rooms c ss got ask sl t w h) h
takes c (msg.Claim ss e list) t w h = within c ss e true (claim c ss list) t (λ sl. claims c ss list sl t h) h
takes c (msg.Bye ss e) t w h = within c ss e true (finish c) t (λ sl. finishes c sl t h) h
takes c (msg.Opened age s e) t w h = h
takes c (msg.Grant s e x n m i) t w h = h
takes c (msg.Recall s e x n to) t w h = h
takes c (msg.Kept s e b) t w h = h
takes c (msg.Ids s e got n first) t w h = h
takes c (msg.NoRoom s e ask live reserved) t w h = h
takes c (msg.Ended s low mask) t w h = h
takes c (msg.Restarted s e) t w h = h
takes c (msg.OldBoot asked greatest) t w h = h

-- Wants are served.

grants-one : (ss x : ℕ) (m : Hold) (t : Serving) → Grants t → Grants (grant ss x m t)
grants-one ss x m t h =
    let u : Serving = next_number t in
    tells (Rattle.ec_protocol.specs.Server.clerk_of ss u) (msg.Grant ss (epoch u) x u.server.number m (Rattle.ec_volume.specs.Volume.images u.server.durable.volume x)) (with_server (λ s. record s { tokens = Rattle.ec_sessions.specs.OfTokens.Tokens.granted ss x m u.server.number s.tokens }) u) tt (numbers t h)

acts : (a : Action) (t : Serving) → Grants t → Grants (act a t)
acts (action.Grant ss x m) t h = grants-one ss x m t h
acts (action.Recall ss x n m) t h = tells (Rattle.ec_protocol.specs.Server.clerk_of ss t) (msg.Recall ss (epoch t) x n m) t tt h

acts-all : (as' : List Action) (t : Serving) → Grants t → Grants (act_all as' t)
acts-all [] t h = h
acts-all (a ∷ more) t h = acts-all more (act a t) (acts a t h)

rounds : (k : ℕ) (t : Serving) → Grants t → Grants (serve_rounds k t)
rounds zero t h = h
rounds (suc k) t h = go (list_any is_grant due) (rounds k u on)
  where
    due : List Action
    due = actions t.server.tokens t.server.recalls

    u : Serving
    u = act_all due (with_server (λ s. record s { recalls = wants_after s.tokens s.recalls }) t)

    on : Grants u
    on = acts-all due (with_server (λ s. record s { recalls = wants_after s.tokens s.recalls }) t) h

    go : (z : Bool) → Grants (serve_rounds k u) → Grants (elim z as (λ y. Serving) [ true ↦ serve_rounds k u | false ↦ u ])
    go true r = r
    go false r = on

serves : (t : Serving) → Grants t → Grants (serve t)
serves t h = choose (all_claimed t.server) (serve_rounds (suc (length t.server.recalls)) t) t (rounds (suc (length t.server.recalls)) t h) h

pub servers-grant-room : (c : ℕ) (m : Msg) (v : Server) → IsWellAsked m v → Each {A = ℕ × Msg} (λ s. GrantsRoom s.1) (take c m v).sent
servers-grant-room c m v w = serves (taken c m (serving v)) (takes c m (serving v) w tt)
