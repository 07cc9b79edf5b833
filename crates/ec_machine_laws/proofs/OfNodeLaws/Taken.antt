-- What a server does with a message before it serves wants: what its changes keep, and what it sends.
use Rattle.std.proofs.Common.{◌≡◌, refl, ◌+◌, ◌==◌, ◌&&◌, ◌||◌, ℕ, Bool, true, false, List, [], ◌∷◌, Option, Some, None}
use Rattle.std.specs.Prelude.{nat_le, nat_lt, is_none, is_some, Result, Ok, Err, ⊤}
use Rattle.ec_base.specs.Limits.{last_counter}
use Rattle.ec_base.specs.Tables.{Table, at, at_or, put}
use Rattle.ec_base.specs.declared.counter.Counter.TheVariants as counter
use Rattle.ec_base.specs.declared.ids.Age.{Age}
use Rattle.ec_base.specs.declared.ids.Hold.{Hold}
use Rattle.ec_history.specs.History.{Each}
use Rattle.ec_volume.specs.Volume.{images}
use Rattle.ec_volume.specs.declared.update.Update.{Update}
use Rattle.ec_sessions.specs.Limits.{ids_per_grant}
use Rattle.ec_sessions.specs.Slots.{greeting, run}
use Rattle.ec_sessions.specs.Windows.{has}
use Rattle.ec_sessions.specs.declared.slot.Greeting.{Greeting}
use Rattle.ec_sessions.specs.declared.slot.Greeting.TheVariants as greeted
use Rattle.ec_sessions.specs.declared.slot.Slot.{Slot}
use Rattle.ec_sessions.specs.OfRecall.Wants.{noted}
use Rattle.ec_sessions.specs.declared.recall.want.Want.{Want}
use Rattle.ec_sessions.specs.OfTokens.Tokens.{Tokens, claimed as with_claim, fits_back, first_clash, lowered, token}
use Rattle.ec_sessions.specs.declared.tokens.token.Token.{Token}
use Rattle.ec_wire.specs.declared.msg.Msg.{Msg}
use Rattle.ec_wire.specs.declared.msg.Msg.TheVariants as msg
use Rattle.ec_durable.specs.Durable.{is_full, live, reserved, step}
use Rattle.ec_durable.specs.declared.record.Record.{Record}
use Rattle.ec_durable.specs.declared.record.Record.TheVariants as record_of
use Rattle.ec_durable.specs.declared.record.RecordFault.{RecordFault}
use Rattle.ec_durable.specs.declared.state.Durable.{Durable}
use Rattle.ec_protocol.specs.Server.{Serving, add_claimed, back, claim, commit, end_open, epoch, finish, flush, forget, forget_old, grant_ids, greet, has_claimed, ids_are_spent, in_session, is_last_number, may_write, next_number, note, open_new, record_ids, resend_ids, room, send_grant, send_ids, slot_of, spend, stay, taken, tell, tell_ended, tell_opened, want, with_ids, with_server}
use Rattle.ec_protocol.specs.declared.server.Server.{Server}
use Rattle.ec_history.proofs.HistoryLemmas.{each-more}

-- it neither grants nor recalls, and refuses no room
abbrev pub IsPlain : Msg → Type 0
IsPlain (msg.Grant s e x n h i) = ⊥
IsPlain (msg.Recall s e x n h) = ⊥
IsPlain (msg.NoRoom s e ask live reserved) = ⊥
IsPlain _ = ⊤

-- A server's changes keep I, where only sessions that may claim do.
pub record IsKept (I : Server → Type 0) (May : ℕ → Type 0) : Type 0 where
  pub steps : (v : Server) (r : Record) (e : Durable) → step r v.durable ≡ Ok e → I v → I (record v { durable = e })
  pub forgets : (v : Server) (ss : ℕ) → I v → I (forget ss v)
  pub opens : (v : Server) (c : ℕ) (age : Age) (old : Option ℕ) (e : Durable) → step (record_of.Open c age v.durable.next_session) v.durable ≡ Ok e → I v
      → I (add_claimed v.durable.next_session (forget_old old (record v { durable = e })))
  pub others : (v : Server) (ts : Tokens) (ws : List Want) (n : ℕ) (rs : Table ℕ) → I v → I (record v { tokens = ts; recalls = ws; number = n; recorded = rs })
  pub claims : (v : Server) (ss : ℕ) (ts : Tokens) → May ss → I v → I (record v { tokens = ts; claimed = ss ∷ v.claimed })

module _ (I : Server → Type 0) (May : ℕ → Type 0) (kept : IsKept I May) (P : Msg → Type 0) (plain : (m : Msg) → IsPlain m → P m) where
  -- a step under way: I holds of the server, and each message sent is as it's to be
  abbrev pub Goes : Serving → Type 0
  Goes t = I t.server × Each {A = ℕ × Msg} (λ m. P m.1) t.sent

  says : (c : ℕ) (m : Msg) (t : Serving) → P m → Goes t → Goes (tell c m t)
  says c m t p h = (h.0, each-more (λ m. P m.1) t.sent ((c, m) ∷ []) h.1 (p, tt))

  tells : (c : ℕ) (m : Msg) (t : Serving) → IsPlain m → Goes t → Goes (tell c m t)
  tells c m t i h = says c m t (plain m i) h

  choose : (b : Bool) (t u : Serving) → Goes t → Goes u → Goes (elim b as (λ z. Serving) [ true ↦ t | false ↦ u ])
  choose true t u h k = h
  choose false t u h k = k

  abbrev behind : Record → Durable → Serving → Serving
  behind r e t = record t { server = record (t.server) { durable = e }; rec = Some r }

  stepped : (r : Record) (e : Durable) (t : Serving) → step r t.server.durable ≡ Ok e → Goes t → Goes (behind r e t)
  stepped r e t ok h = (kept.steps t.server r e ok h.0, h.1)

  commits : (r : Record) (f g : Serving → Serving) (t : Serving) → ((e : Durable) → step r t.server.durable ≡ Ok e → Goes (f (behind r e t))) → Goes (g t) → Goes (commit r f g t)
  commits r f g t p q = go (step r t.server.durable) refl
    where
      go : (o : Result Durable RecordFault) → step r t.server.durable ≡ o → Goes (elim o as (λ z. Serving) [ Ok d ↦ f (behind r d t) | Err fault ↦ g t ])
      go (Ok d) is = p d is
      go (Err fault) is = q

  -- Ends.

  forgets : (ss : ℕ) (t : Serving) → Goes t → Goes (with_server (forget ss) t)
  forgets ss t h = (kept.forgets t.server ss h.0, h.1)

  finishes : (c : ℕ) (sl : Slot) (t : Serving) → Goes t → Goes (finish c sl t)
  finishes c sl t h =
      commits (record_of.End c sl.session) (λ u. tell_ended c sl (with_server (forget sl.session) u)) stay t
      (λ e ok. let u = behind (record_of.End c sl.session) e t in tells c (msg.Ended sl.session sl.window.low sl.window.mask) (with_server (forget sl.session) u) tt (forgets sl.session u (stepped (record_of.End c sl.session) e t ok h))) h

  -- Hello.

  opened : (c : ℕ) (age : Age) (old : Option ℕ) (e : Durable) (t : Serving) → step (record_of.Open c age t.server.durable.next_session) t.server.durable ≡ Ok e → Goes t
      → Goes (tell_opened c age t.server.durable.next_session old (behind (record_of.Open c age t.server.durable.next_session) e t))
  opened c age old e t ok h =
      let ss : ℕ = t.server.durable.next_session in
      let u = behind (record_of.Open c age ss) e t in
      tells c (msg.Opened age ss (epoch u)) (with_server (λ x. add_claimed ss (forget_old old x)) u) tt (kept.opens t.server c age old e ok h.0, h.1)

  opens : (c : ℕ) (age : Age) (old : Option ℕ) (t : Serving) → Goes t → Goes (open_new c age old t)
  opens c age old t h =
      let ss : ℕ = t.server.durable.next_session in
      choose (nat_le last_counter ss) (spend counter.Session t) (commit (record_of.Open c age ss) (tell_opened c age ss old) stay t) h
      (commits (record_of.Open c age ss) (tell_opened c age ss old) stay t (λ e ok. opened c age old e t ok h) h)

  greets : (c : ℕ) (age : Age) (g : Greeting) (t : Serving) → Goes t → Goes (greet c age g t)
  greets c age (greeted.Greater old) t h = opens c age old t h
  greets c age (greeted.Same ss) t h = tells c (msg.Opened age ss (epoch t)) t tt h
  greets c age (greeted.Ended ss w) t h = tells c (msg.Ended ss w.low w.mask) (tell c (msg.Opened age ss (epoch t)) t) tt (tells c (msg.Opened age ss (epoch t)) t tt h)
  greets c age (greeted.OldBoot greatest) t h = tells c (msg.OldBoot age greatest) t tt h

  -- Wants, tokens given back and batches.

  abbrev MayGrant : ℕ → ℕ → Serving → Type 0
  MayGrant ss x t = (k : Token) → token t.server.tokens ss x ≡ Some k → P (msg.Grant ss (epoch t) x k.number k.hold (images t.server.durable.volume x))

  notes : (ss x : ℕ) (m : Hold) (t : Serving) → Goes t → Goes (note ss x m t)
  notes ss x m t h = (kept.others t.server t.server.tokens (noted ss x m t.server.recalls) t.server.number t.server.recorded h.0, h.1)

  wants : (c ss x : ℕ) (m : Hold) (last : ℕ) (t : Serving) → MayGrant ss x t → Goes t → Goes (want c ss x m last t)
  wants c ss x m last t may h = go (token t.server.tokens ss x) refl
    where
      go : (o : Option Token) → token t.server.tokens ss x ≡ o → Goes (elim o as (λ z. Serving) [
        | None ↦ note ss x m t
        | Some k ↦ elim (nat_lt last k.number) as (λ z. Serving) [ true ↦ send_grant c ss x k.hold k.number t | false ↦ note ss x m t ]
      ])
      go None is = notes ss x m t h
      go (Some k) is = choose (nat_lt last k.number) (send_grant c ss x k.hold k.number t) (note ss x m t) (says c (msg.Grant ss (epoch t) x k.number k.hold (images t.server.durable.volume x)) t (may k is) h) (notes ss x m t h)

  backs : (ss x n : ℕ) (m : Hold) (t : Serving) → Goes t → Goes (back ss x n m t)
  backs ss x n m t h =
      choose (fits_back (token t.server.tokens ss x) n m) (with_server (λ v. record v { tokens = lowered ss x m n v.tokens }) t) t
      (kept.others t.server (lowered ss x m n t.server.tokens) t.server.recalls t.server.number t.server.recorded h.0, h.1) h

  flushes : (c ss b : ℕ) (ops : List (ℕ × Update)) (sl : Slot) (t : Serving) → Goes t → Goes (flush c ss b ops sl t)
  flushes c ss b ops sl t h =
      choose (has sl.window b) (tell c (msg.Kept ss (epoch t) b) t) (elim (may_write t.server.tokens ss ops) as (λ z. Serving) [ true ↦ commit (record_of.Batch c ss b ops) (λ u. tell c (msg.Kept ss (epoch u) b) u) (finish c sl) t | false ↦ finish c sl t ])
      (tells c (msg.Kept ss (epoch t) b) t tt h)
      (choose (may_write t.server.tokens ss ops) (commit (record_of.Batch c ss b ops) (λ u. tell c (msg.Kept ss (epoch u) b) u) (finish c sl) t) (finish c sl t)
      (commits (record_of.Batch c ss b ops) (λ u. tell c (msg.Kept ss (epoch u) b) u) (finish c sl) t
      (λ e ok. let u = behind (record_of.Batch c ss b ops) e t in tells c (msg.Kept ss (epoch u) b) u tt (stepped (record_of.Batch c ss b ops) e t ok h)) (finishes c sl t h))
      (finishes c sl t h))

  -- Ids.

  numbers : (t : Serving) → Goes t → Goes (next_number t)
  numbers t h = choose (is_last_number t) (spend counter.Number t) (with_server (λ v. record v { number = v.number + 1 }) t) h
      (kept.others t.server t.server.tokens t.server.recalls (t.server.number + 1) t.server.recorded h.0, h.1)

  records-ids : (ss first : ℕ) (t : Serving) → Goes t → Goes (record_ids ss first t)
  records-ids ss first t h = by (next_number t) (numbers t h)
    where
      by : (u : Serving) → Goes u → Goes (with_server (λ v. record v { tokens = with_ids ss v.number (run first ids_per_grant) v.tokens; recorded = put ss v.number v.recorded }) u)
      by u k = (kept.others u.server (with_ids ss u.server.number (run first ids_per_grant) u.server.tokens) u.server.recalls u.server.number (put ss u.server.number u.server.recorded) k.0, k.1)

  sends-ids : (c ss got first : ℕ) (t : Serving) → Goes t → Goes (send_ids c ss got first t)
  sends-ids c ss got first t h = tells c (msg.Ids ss (epoch t) got (at_or 0 ss t.server.recorded) first) t tt h

  -- what a refusal of room is to be
  abbrev MayRefuse : ℕ → ℕ → Serving → Type 0
  MayRefuse ss ask t = P (msg.NoRoom ss (epoch t) ask (live t.server.durable) (reserved t.server.durable))

  grants-ids : (c ss got ask : ℕ) (t : Serving) → MayRefuse ss ask t → Goes t → Goes (grant_ids c ss got ask t)
  grants-ids c ss got ask t may h =
      choose (is_full t.server.durable) (tell c (msg.NoRoom ss (epoch t) ask (live t.server.durable) (reserved t.server.durable)) t) gives
      (says c (msg.NoRoom ss (epoch t) ask (live t.server.durable) (reserved t.server.durable)) t may h)
      (choose (ids_are_spent got t) (spend counter.Id t) (commit (record_of.Ids c ss got first) f stay t) h
      (commits (record_of.Ids c ss got first) f stay t (λ e ok. let u = behind (record_of.Ids c ss got first) e t in sends-ids c ss got first (record_ids ss first u) (records-ids ss first u (stepped (record_of.Ids c ss got first) e t ok h))) h))
    where
      first : ℕ
      first = t.server.durable.next_id

      f : Serving → Serving
      f u = send_ids c ss got first (record_ids ss first u)

      gives : Serving
      gives = elim (ids_are_spent got t) as (λ z. Serving) [ true ↦ spend counter.Id t | false ↦ commit (record_of.Ids c ss got first) f stay t ]

  resends-ids : (c ss got : ℕ) (o : Option ℕ) (t : Serving) → Goes t → Goes (resend_ids c ss got o t)
  resends-ids c ss got None t h = h
  resends-ids c ss got (Some first) t h =
      sends-ids c ss got first (elim (is_some (at ss t.server.recorded)) as (λ z. Serving) [ true ↦ t | false ↦ record_ids ss first t ])
      (choose (is_some (at ss t.server.recorded)) t (record_ids ss first t) h (records-ids ss first t h))

  rooms : (c ss got ask : ℕ) (sl : Slot) (t : Serving) → MayRefuse ss ask t → Goes t → Goes (room c ss got ask sl t)
  rooms c ss got ask sl t may h =
      choose (got == sl.grants) (grant_ids c ss got ask t) (elim (got + 1 == sl.grants) as (λ z. Serving) [ true ↦ resend_ids c ss got sl.last_first t | false ↦ t ])
      (grants-ids c ss got ask t may h)
      (choose (got + 1 == sl.grants) (resend_ids c ss got sl.last_first t) t (resends-ids c ss got sl.last_first t h) h)

  -- Claims.

  claims-so : (c ss : ℕ) (list : List (ℕ × Hold)) (sl : Slot) (t : Serving) → May ss → Goes t → Goes (claim c ss list sl t)
  claims-so c ss list sl t may h =
      choose (has_claimed ss t.server) t (elim (is_none (first_clash t.server.tokens ss list)) as (λ z. Serving) [ true ↦ entered | false ↦ finish c sl t ]) h
      (choose (is_none (first_clash t.server.tokens ss list)) entered (finish c sl t)
      (kept.claims t.server ss (with_claim ss list t.server.tokens) may h.0, h.1)
      (finishes c sl t h))
    where
      entered : Serving
      entered = with_server (λ v. record v { tokens = with_claim ss list v.tokens; claimed = ss ∷ v.claimed }) t

  -- Messages.

  within : (c ss e : ℕ) (n : Bool) (f : Slot → Serving → Serving) (t : Serving) → ((sl : Slot) → Goes (f sl t)) → Goes t → Goes (in_session c ss e n f t)
  within c ss e n f t p h = by-slot (slot_of c t)
    where
      told : (sl : Slot) (b : Bool) → Goes (elim b as (λ z. Serving) [ false ↦ tell c (msg.Restarted ss (epoch t)) t | true ↦ f sl t ])
      told sl true = p sl
      told sl false = tells c (msg.Restarted ss (epoch t)) t tt h

      if-open : (sl : Slot) (b : Bool) → Goes (elim b as (λ z. Serving) [ false ↦ tell_ended c sl t | true ↦ elim ((e == epoch t) && (n || has_claimed ss t.server)) as (λ z. Serving) [ false ↦ tell c (msg.Restarted ss (epoch t)) t | true ↦ f sl t ] ])
      if-open sl true = told sl ((e == epoch t) && (n || has_claimed ss t.server))
      if-open sl false = tells c (msg.Ended sl.session sl.window.low sl.window.mask) t tt h

      if-own : (sl : Slot) (b : Bool) → Goes (elim b as (λ z. Serving) [ false ↦ t | true ↦ elim sl.is_open as (λ z. Serving) [ false ↦ tell_ended c sl t | true ↦ elim ((e == epoch t) && (n || has_claimed ss t.server)) as (λ z. Serving) [ false ↦ tell c (msg.Restarted ss (epoch t)) t | true ↦ f sl t ] ] ])
      if-own sl true = if-open sl sl.is_open
      if-own sl false = h

      by-slot : (o : Option Slot) → Goes (elim o as (λ z. Serving) [
        | None ↦ t
        | Some sl ↦ elim (sl.session == ss) as (λ z. Serving) [ false ↦ t | true ↦ elim sl.is_open as (λ z. Serving) [ false ↦ tell_ended c sl t | true ↦ elim ((e == epoch t) && (n || has_claimed ss t.server)) as (λ z. Serving) [ false ↦ tell c (msg.Restarted ss (epoch t)) t | true ↦ f sl t ] ] ]
      ])
      by-slot None = h
      by-slot (Some sl) = if-own sl (sl.session == ss)

  -- the session may claim, and what is granted again, or refused, is as it's to be
  abbrev pub MayCome : Msg → Serving → Type 0
  MayCome (msg.Want ss e x m last) t = MayGrant ss x t
  MayCome (msg.Room ss e got ask) t = MayRefuse ss ask t
  MayCome (msg.Claim ss e list) t = May ss
  MayCome _ t = ⊤

  pub taken-goes : (c : ℕ) (m : Msg) (t : Serving) → MayCome m t → Goes t → Goes (taken c m t)
  taken-goes c (msg.Hello from age) t may h = choose (c == from) (greet c age (greeting (slot_of c t) age) t) t (greets c age (greeting (slot_of c t) age) t h) h
  taken-goes c (msg.Want ss e x m last) t may h = within c ss e false (λ sl. want c ss x m last) t (λ sl. wants c ss x m last t may h) h
  taken-goes c (msg.Back ss e x n m) t may h = within c ss e false (λ sl. back ss x n m) t (λ sl. backs ss x n m t h) h
  taken-goes c (msg.Flush ss e b ops) t may h = within c ss e false (flush c ss b ops) t (λ sl. flushes c ss b ops sl t h) h
  taken-goes c (msg.Room ss e got ask) t may h = within c ss e false (room c ss got ask) t (λ sl. rooms c ss got ask sl t may h) h
  taken-goes c (msg.Claim ss e list) t may h = within c ss e true (claim c ss list) t (λ sl. claims-so c ss list sl t may h) h
  taken-goes c (msg.Bye ss e) t may h = within c ss e true (finish c) t (λ sl. finishes c sl t h) h
  taken-goes c _ t may h = h

  pub ended-goes : (c : ℕ) (o : Option Slot) (t : Serving) → Goes t → Goes (end_open c o t)
  ended-goes c None t h = h
  ended-goes c (Some sl) t h = choose sl.is_open (finish c sl t) t (finishes c sl t h) h
