-- The server's step spends no counter.
use Rattle.std.proofs.Common.{◌≡◌, refl, ◌∙◌, arith, ◌≤◌, ◌<◌, ◌+◌, ℕ, zero, suc, Bool, true, false, ◌&&◌, ◌||◌, List, [], ◌∷◌, length}
use Rattle.std.specs.Prelude.{Option, None, Some, ◌==◌, is_none, is_some, nat_le, nat_lt, Result, Ok, Err}
use Rattle.std.specs.List.{list_any}
use Rattle.ec_base.specs.Limits.{last_counter}
use Rattle.ec_base.specs.Tables.{at}
use Rattle.ec_base.specs.declared.counter.Counter.TheVariants as counter
use Rattle.ec_base.specs.declared.ids.Age.{Age}
use Rattle.ec_base.specs.declared.ids.Hold.{Hold}
use Rattle.ec_volume.specs.declared.update.Update.{Update}
use Rattle.ec_sessions.specs.Slots.{greeting}
use Rattle.ec_sessions.specs.Windows.{has}
use Rattle.ec_sessions.specs.declared.slot.Greeting.{Greeting}
use Rattle.ec_sessions.specs.declared.slot.Greeting.TheVariants as greeted
use Rattle.ec_sessions.specs.declared.slot.Slot.{Slot}
use Rattle.ec_sessions.specs.OfTokens.Tokens.{claimed as with_claim, first_clash, fits_back, lowered, token}
use Rattle.ec_sessions.specs.declared.tokens.token.Token.{Token}
use Rattle.ec_sessions.specs.OfRecall.Due.{actions, wants_after}
use Rattle.ec_sessions.specs.declared.recall.want.Action.{Action}
use Rattle.ec_sessions.specs.declared.recall.want.Action.TheVariants as action
use Rattle.ec_wire.specs.declared.msg.Msg.{Msg}
use Rattle.ec_wire.specs.declared.msg.Msg.TheVariants.{Hello, Want, Back, Flush, Room, Claim, Bye, Opened, Grant, Recall, Kept, Ids, NoRoom, Ended, Restarted, OldBoot}
use Rattle.ec_durable.specs.Durable.{slot, step}
use Rattle.ec_durable.specs.declared.record.Record.{Record}
use Rattle.ec_durable.specs.declared.record.Record.TheVariants as record_of
use Rattle.ec_durable.specs.declared.state.Durable.{Durable}
use Rattle.ec_protocol.specs.Server.{Serving, act, act_all, all_claimed, back, claim, commit, epoch, finish, flush, forget, grant, grant_ids, greet, has_claimed, hello, ids_are_spent, in_session, is_grant, is_last_number, may_write, next_number, note, open_new, record_ids, resend_ids, room, send_grant, send_ids, serve, serve_rounds, serving, slot_of, spend, stay, take, taken, tell, tell_ended, tell_opened, want, with_server}
use Rattle.ec_protocol.specs.declared.server.Server.{Server}
use Rattle.ec_machine_laws.specs.Unspent.{MayCount}
use Rattle.ec_base.proofs.Numbers.{at-limit}

-- Between two moments of a step no number is taken back, and where the last one isn't given out none is spent.
record Goes (t u : Serving) : Type 0 where
  number : t.server.number ≤ u.server.number
  unspent : u.server.number < last_counter → t.spent ≡ None → u.spent ≡ None

alike : (t u : Serving) → u.server.number ≡ t.server.number → u.spent ≡ t.spent → Goes t u
alike t u n s = record { number = omega (arith, n); unspent = λ l e. s ∙ e }

on-from : (t u w : Serving) → Goes t u → Goes u w → Goes t w
on-from t u w a b = record { number = omega (arith, a.number, b.number); unspent = λ l e. b.unspent l (a.unspent (omega (arith, l, b.number)) e) }

numbered : (t : Serving) → Goes t (next_number t)
numbered t = go (is_last_number t) refl
  where
    go : (b : Bool) → is_last_number t ≡ b → Goes t (elim b as (λ z. Serving) [ true ↦ spend counter.Number t | false ↦ with_server (λ s. record s { number = s.number + 1 }) t ])
    go true e = record { number = omega arith; unspent = λ l f. absurd (omega (arith, l, at-limit last_counter t.server.number e)) }
    go false e = record { number = omega arith; unspent = λ l f. f }

commits : (t : Serving) (r : Record) (f g : Serving → Serving) → ((d : Durable) → Goes t (f (record t { server = record (t.server) { durable = d }; rec = Some r }))) → Goes t (g t) → Goes t (commit r f g t)
commits t r f g a b = go (step r t.server.durable)
  where
    go : (o : Result Durable Rattle.ec_durable.specs.declared.record.RecordFault.RecordFault) → Goes t (elim o as (λ z. Serving) [ Ok d ↦ f (record t { server = record (t.server) { durable = d }; rec = Some r }) | Err fault ↦ g t ])
    go (Ok d) = a d
    go (Err e) = b

same : (t : Serving) → Goes t t
same t = alike t t refl refl

finishes : (c : ℕ) (sl : Slot) (t : Serving) → Goes t (finish c sl t)
finishes c sl t = commits t (record_of.End c sl.session) (λ u. tell_ended c sl (with_server (forget sl.session) u)) stay (λ d. alike t _ refl refl) (same t)

-- Messages.

module _ (c : ℕ) (v : Server) where
  abbrev HasNext : Type 0
  HasNext = nat_le last_counter v.durable.next_session ≡ false

  opens : HasNext → (age : Age) (old : Option ℕ) → Goes (serving v) (open_new c age old (serving v))
  opens room age old = go (nat_le last_counter v.durable.next_session) room
    where
      go : (b : Bool) → b ≡ false → Goes (serving v) (elim b as (λ z. Serving) [ true ↦ spend counter.Session (serving v) | false ↦ commit (record_of.Open c age v.durable.next_session) (tell_opened c age v.durable.next_session old) stay (serving v) ])
      go true e = absurd (grind (arith, e))
      go false e = commits (serving v) (record_of.Open c age v.durable.next_session) (tell_opened c age v.durable.next_session old) stay (λ d. opened old d) (same (serving v))
        where
          opened : (o : Option ℕ) (d : Durable) → Goes (serving v) (tell_opened c age v.durable.next_session o (record (serving v) { server = record v { durable = d }; rec = Some (record_of.Open c age v.durable.next_session) }))
          opened None d = alike (serving v) _ refl refl
          opened (Some s) d = alike (serving v) _ refl refl

  greets : HasNext → (age : Age) (g : Greeting) → Goes (serving v) (greet c age g (serving v))
  greets room age (greeted.Greater old) = opens room age old
  greets room age (greeted.Same ss) = alike (serving v) _ refl refl
  greets room age (greeted.Ended ss w) = alike (serving v) _ refl refl
  greets room age (greeted.OldBoot greatest) = alike (serving v) _ refl refl

  hellos : HasNext → (from : ℕ) (age : Age) → Goes (serving v) (hello c from age (serving v))
  hellos room from age = go (c == from)
    where
      go : (b : Bool) → Goes (serving v) (elim b as (λ z. Serving) [ true ↦ greet c age (greeting (slot_of c (serving v)) age) (serving v) | false ↦ serving v ])
      go true = greets room age (greeting (slot_of c (serving v)) age)
      go false = same (serving v)

  inside : (ss e : ℕ) (needs : Bool) (f : Slot → Serving → Serving) → ((sl : Slot) → slot v.durable c ≡ Some sl → Goes (serving v) (f sl (serving v))) → Goes (serving v) (in_session c ss e needs f (serving v))
  inside ss e needs f a = go (slot v.durable c) refl
    where
      by : (sl : Slot) → Goes (serving v) (f sl (serving v)) → (x y z : Bool) → Goes (serving v) (elim x as (λ z. Serving) [
        | false ↦ serving v
        | true ↦ elim y as (λ z. Serving) [
          | false ↦ tell_ended c sl (serving v)
          | true ↦ elim z as (λ z. Serving) [
            | false ↦ tell c (Restarted ss (epoch (serving v))) (serving v)
            | true ↦ f sl (serving v)
          ]
        ]
      ])
      by sl g false y z = same (serving v)
      by sl g true false z = alike (serving v) _ refl refl
      by sl g true true false = alike (serving v) _ refl refl
      by sl g true true true = g

      go : (o : Option Slot) → slot v.durable c ≡ o → Goes (serving v) (elim o as (λ z. Serving) [
        | None ↦ serving v
        | Some sl ↦ elim (sl.session == ss) as (λ z. Serving) [
          | false ↦ serving v
          | true ↦ elim sl.is_open as (λ z. Serving) [
            | false ↦ tell_ended c sl (serving v)
            | true ↦ elim ((e == epoch (serving v)) && (needs || has_claimed ss v)) as (λ z. Serving) [
              | false ↦ tell c (Restarted ss (epoch (serving v))) (serving v)
              | true ↦ f sl (serving v)
            ]
          ]
        ]
      ])
      go None q = same (serving v)
      go (Some sl) q = by sl (a sl q) (sl.session == ss) sl.is_open ((e == epoch (serving v)) && (needs || has_claimed ss v))

  wants : (ss x : ℕ) (h : Hold) (last : ℕ) → Goes (serving v) (want c ss x h last (serving v))
  wants ss x h last = go (token v.tokens ss x)
    where
      by : (k : Token) (b : Bool) → Goes (serving v) (elim b as (λ z. Serving) [ true ↦ send_grant c ss x k.hold k.number (serving v) | false ↦ note ss x h (serving v) ])
      by k true = alike (serving v) _ refl refl
      by k false = alike (serving v) _ refl refl

      go : (o : Option Token) → Goes (serving v) (elim o as (λ z. Serving) [ None ↦ note ss x h (serving v) | Some k ↦ elim (nat_lt last k.number) as (λ z. Serving) [ true ↦ send_grant c ss x k.hold k.number (serving v) | false ↦ note ss x h (serving v) ] ])
      go None = alike (serving v) _ refl refl
      go (Some k) = by k (nat_lt last k.number)

  backs : (ss x n : ℕ) (h : Hold) → Goes (serving v) (back ss x n h (serving v))
  backs ss x n h = go (fits_back (token v.tokens ss x) n h)
    where
      go : (b : Bool) → Goes (serving v) (elim b as (λ z. Serving) [ true ↦ with_server (λ s. record s { tokens = lowered ss x h n s.tokens }) (serving v) | false ↦ serving v ])
      go true = alike (serving v) _ refl refl
      go false = same (serving v)

  flushes : (ss b : ℕ) (ops : List (ℕ × Update)) (sl : Slot) → Goes (serving v) (flush c ss b ops sl (serving v))
  flushes ss b ops sl = go (has sl.window b) (may_write v.tokens ss ops)
    where
      go : (x y : Bool) → Goes (serving v) (elim x as (λ z. Serving) [
        | true ↦ tell c (Kept ss (epoch (serving v)) b) (serving v)
        | false ↦ elim y as (λ z. Serving) [
          | true ↦ commit (record_of.Batch c ss b ops) (λ u. tell c (Kept ss (epoch u) b) u) (finish c sl) (serving v)
          | false ↦ finish c sl (serving v)
        ]
      ])
      go true y = alike (serving v) _ refl refl
      go false true = commits (serving v) (record_of.Batch c ss b ops) (λ u. tell c (Kept ss (epoch u) b) u) (finish c sl) (λ d. alike (serving v) _ refl refl) (finishes c sl (serving v))
      go false false = finishes c sl (serving v)

  -- the step u gives out ids: a new number is taken
  records-ids : (ss first : ℕ) (u : Serving) → Goes u (record_ids ss first u)
  records-ids ss first u = on-from u (next_number u) (record_ids ss first u) (numbered u) (alike (next_number u) (record_ids ss first u) refl refl)

  abbrev first : ℕ
  first = v.durable.next_id

  abbrev new : ℕ → ℕ → Durable → Serving
  new ss got d = record (serving v) { server = record v { durable = d }; rec = Some (record_of.Ids c ss got first) }

  grants-ids : (ss got ask : ℕ) → ids_are_spent got (serving v) ≡ false → Goes (serving v) (grant_ids c ss got ask (serving v))
  grants-ids ss got ask few = go (Rattle.ec_durable.specs.Durable.is_full v.durable) (ids_are_spent got (serving v)) few
    where
      given : (d : Durable) → Goes (serving v) (send_ids c ss got first (record_ids ss first (new ss got d)))
      given d = on-from (serving v) (new ss got d) (send_ids c ss got first (record_ids ss first (new ss got d))) (alike (serving v) (new ss got d) refl refl)
          (on-from (new ss got d) (record_ids ss first (new ss got d)) (send_ids c ss got first (record_ids ss first (new ss got d))) (records-ids ss first (new ss got d)) (alike (record_ids ss first (new ss got d)) _ refl refl))

      go : (x y : Bool) → y ≡ false → Goes (serving v) (elim x as (λ z. Serving) [
        | true ↦ tell c (NoRoom ss (epoch (serving v)) ask (Rattle.ec_durable.specs.Durable.live v.durable) (Rattle.ec_durable.specs.Durable.reserved v.durable)) (serving v)
        | false ↦ elim y as (λ z. Serving) [
          | true ↦ spend counter.Id (serving v)
          | false ↦ commit (record_of.Ids c ss got first) (λ u. send_ids c ss got first (record_ids ss first u)) stay (serving v)
        ]
      ])
      go true y q = alike (serving v) _ refl refl
      go false true q = absurd (grind (arith, q))
      go false false q = commits (serving v) (record_of.Ids c ss got first) (λ u. send_ids c ss got first (record_ids ss first u)) stay given (same (serving v))

  resends-ids : (ss got : ℕ) (o : Option ℕ) → Goes (serving v) (resend_ids c ss got o (serving v))
  resends-ids ss got None = same (serving v)
  resends-ids ss got (Some first) = go (is_some (at ss v.recorded))
    where
      go : (b : Bool) → Goes (serving v) (send_ids c ss got first (elim b as (λ z. Serving) [ true ↦ serving v | false ↦ record_ids ss first (serving v) ]))
      go true = alike (serving v) _ refl refl
      go false = on-from (serving v) (record_ids ss first (serving v)) (send_ids c ss got first (record_ids ss first (serving v))) (records-ids ss first (serving v)) (alike (record_ids ss first (serving v)) _ refl refl)

  rooms : (ss got ask : ℕ) (sl : Slot) → ids_are_spent got (serving v) ≡ false → Goes (serving v) (room c ss got ask sl (serving v))
  rooms ss got ask sl few = go (got == sl.grants) (got + 1 == sl.grants)
    where
      go : (x y : Bool) → Goes (serving v) (elim x as (λ z. Serving) [ true ↦ grant_ids c ss got ask (serving v) | false ↦ elim y as (λ z. Serving) [ true ↦ resend_ids c ss got sl.last_first (serving v) | false ↦ serving v ] ])
      go true y = grants-ids ss got ask few
      go false true = resends-ids ss got sl.last_first
      go false false = same (serving v)

  claims : (ss : ℕ) (list : List (ℕ × Hold)) (sl : Slot) → Goes (serving v) (claim c ss list sl (serving v))
  claims ss list sl = go (has_claimed ss v) (is_none (first_clash v.tokens ss list))
    where
      go : (x y : Bool) → Goes (serving v) (elim x as (λ z. Serving) [
        | true ↦ serving v
        | false ↦ elim y as (λ z. Serving) [
          | true ↦ with_server (λ s. record s { tokens = with_claim ss list s.tokens; claimed = ss ∷ s.claimed }) (serving v)
          | false ↦ finish c sl (serving v)
        ]
      ])
      go true y = same (serving v)
      go false true = alike (serving v) _ refl refl
      go false false = finishes c sl (serving v)

  begins : (m : Msg) → MayCount m v → Goes (serving v) (taken c m (serving v))
  begins (Hello from age) may = hellos may from age
  begins (Want ss e x h last) may = inside ss e false (λ sl. want c ss x h last) (λ sl q. wants ss x h last)
  begins (Back ss e x n h) may = inside ss e false (λ sl. back ss x n h) (λ sl q. backs ss x n h)
  begins (Flush ss e b ops) may = inside ss e false (flush c ss b ops) (λ sl q. flushes ss b ops sl)
  begins (Room ss e got ask) may = inside ss e false (room c ss got ask) (λ sl q. rooms ss got ask sl may)
  begins (Claim ss e list) may = inside ss e true (claim c ss list) (λ sl q. claims ss list sl)
  begins (Bye ss e) may = inside ss e true (finish c) (λ sl q. finishes c sl (serving v))
  begins (Opened age s e) may = same (serving v)
  begins (Grant s e x n h i) may = same (serving v)
  begins (Recall s e x n h) may = same (serving v)
  begins (Kept s e b) may = same (serving v)
  begins (Ids s e got n f) may = same (serving v)
  begins (NoRoom s e ask l r) may = same (serving v)
  begins (Ended s low mask) may = same (serving v)
  begins (Restarted s e) may = same (serving v)
  begins (OldBoot a b) may = same (serving v)

-- Wants that are served.

acts : (a : Action) (t : Serving) → Goes t (act a t)
acts (action.Grant ss x h) t = on-from t (next_number t) (grant ss x h t) (numbered t) (alike (next_number t) (grant ss x h t) refl refl)
acts (action.Recall ss x n h) t = alike t _ refl refl

acts-all : (xs : List Action) (t : Serving) → Goes t (act_all xs t)
acts-all [] t = same t
acts-all (a ∷ xs) t = on-from t (act a t) (act_all xs (act a t)) (acts a t) (acts-all xs (act a t))

module _ (t : Serving) where
  abbrev due : List Action
  due = actions t.server.tokens t.server.recalls

  abbrev then : Serving
  then = with_server (λ s. record s { recalls = wants_after s.tokens s.recalls }) t

  done : Goes t (act_all due then)
  done = on-from t then (act_all due then) (alike t then refl refl) (acts-all due then)

  one-round : (k : ℕ) → Goes (act_all due then) (serve_rounds k (act_all due then)) → Goes t (serve_rounds (suc k) t)
  one-round k r = go (list_any is_grant due)
    where
      go : (b : Bool) → Goes t (elim b as (λ z. Serving) [ true ↦ serve_rounds k (act_all due then) | false ↦ act_all due then ])
      go true = on-from t (act_all due then) (serve_rounds k (act_all due then)) done r
      go false = done

rounds : (k : ℕ) (t : Serving) → Goes t (serve_rounds k t)
rounds zero t = same t
rounds (suc k) t = one-round t k (rounds k (act_all (due t) (then t)))

serves : (t : Serving) → Goes t (serve t)
serves t = go (all_claimed t.server)
  where
    go : (b : Bool) → Goes t (elim b as (λ z. Serving) [ true ↦ serve_rounds (suc (length t.server.recalls)) t | false ↦ t ])
    go true = rounds (suc (length t.server.recalls)) t
    go false = same t

pub takes : (c : ℕ) (m : Msg) (v : Server) → MayCount m v → (take c m v).server.number < last_counter → (take c m v).spent ≡ None
takes c m v may l = (on-from (serving v) (taken c m (serving v)) (take c m v) (begins c v m may) (serves (taken c m (serving v)))).unspent l refl
