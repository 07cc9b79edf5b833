-- What greetings, and clerks that ask for ids, take of the server's durable counters: where they're taken without a fault, the counters weren't at their end.
use Rattle.std.proofs.Common.{◌≡◌, refl, sym, ap, subst, ◌∙◌, arith, ◌≤◌, ◌+◌, ℕ, Bool, true, false, ◌==◌, ◌&&◌, ◌||◌, [], ◌∷◌, inl, inr, ◌⊎◌}
use Rattle.std.specs.Prelude.{Option, None, Some, nat_le, nat_lt}
use Rattle.std.proofs.lemmas.Bool.{true≢false}
use Rattle.ec_base.specs.Limits.{last_counter}
use Rattle.ec_base.specs.Tables.{at}
use Rattle.ec_base.specs.declared.counter.Counter.{Counter}
use Rattle.ec_base.specs.declared.counter.Counter.TheVariants as counter
use Rattle.ec_base.specs.declared.ids.Age.{Age}
use Rattle.ec_sessions.specs.Limits.{last_first_id, last_grants}
use Rattle.ec_sessions.specs.Slots.{greeting}
use Rattle.ec_wire.specs.declared.msg.Msg.{Msg}
use Rattle.ec_wire.specs.declared.msg.Msg.TheVariants as msg
use Rattle.ec_durable.specs.Durable.{is_full, live, reserved, slot}
use Rattle.ec_durable.specs.declared.record.Record.TheVariants as record_of
use Rattle.ec_protocol.specs.Server.{Serving, commit, greet, ids_are_spent, record_ids, resend_ids, room, send_ids, serve, serving, spend, stay, take, tell, tell_opened}
use Rattle.ec_protocol.specs.World.{Moving, deliver, deliver_to, due, fails, runs, served_record, settled, to_clerk, to_server}
use Rattle.ec_protocol.specs.declared.server.Server.{Server}
use Rattle.ec_protocol.specs.declared.world.Sent.{Sent}
use Rattle.ec_protocol.specs.declared.world.World.{World}
use Rattle.ec_protocol.specs.declared.world.WorldFault.TheVariants as fault
use Rattle.ec_quiet.specs.Measure.{measure, weight}
use Rattle.ec_quiet.specs.Phases.{Phase, Greets, Opens, Claims, Wants, Recalls, Flushes, Keeps, Grants, Asks, Gives, Refuses, Saves, Saved, Ends, InPhase, IsAsking, is_back_message, main, messages}
use Rattle.ec_quiet.specs.Scenes.{IsScene, Mail, Scene, is_for_server}
use Rattle.ec_quiet.specs.Works.{Work}
use Rattle.ec_quiet.proofs.Delivering as delivering
use Rattle.ec_quiet.proofs.Sending.{IsFirst}
use Rattle.ec_machine_laws.specs.Serving.{IsAtWork}
use Rattle.ec_machine_laws.proofs.Stepping.{at-work, room-refused}
use Rattle.ec_machine_laws.proofs.Wanting.{no-want}
use Rattle.ec_quiet.proofs.OfDeliveries.Claimed.{working-at}
use Rattle.ec_quiet.proofs.OfDeliveries.Greeted.{greeted-new}
use Rattle.ec_quiet.proofs.OfDeliveries.ServerDelivered.{head-same, none-first}
use Rattle.ec_quiet.proofs.OfDeliveries.Working.{main-front}
use Rattle.ec_quiet.specs.OfDeliveries.Coming.{DeliveriesHaveNext, HasNext, MayOpen}
use Rattle.ec_base.proofs.Numbers.{same-self}

none-some : {A B : Type 0} (x : A) → ◌≡◌ {A = Option A} (Some x) None → B
none-some {A} {B} x e = absurd (no x e)
  where
    no : (x : A) → ◌≡◌ {A = Option A} (Some x) None → ⊥
    no x e = cc

-- the message takes the next session, or the next ids
abbrev counts : Msg → Bool
counts (msg.Hello from age) = true
counts (msg.Room ss e got ask) = true
counts _ = false

-- it asks for ids
abbrev pub is_room : Msg → Bool
is_room (msg.Room ss e got ask) = true
is_room _ = false

room-counts : (m : Msg) → is_room m ≡ true → counts m ≡ true
room-counts (msg.Room ss e got ask) q = refl
room-counts (msg.Hello from age) q = refl
room-counts (msg.Want ss e x h last) q = absurd (true≢false (sym q))
room-counts (msg.Back ss e x n h) q = absurd (true≢false (sym q))
room-counts (msg.Flush ss e b ops) q = absurd (true≢false (sym q))
room-counts (msg.Claim ss e list) q = absurd (true≢false (sym q))
room-counts (msg.Bye ss e) q = absurd (true≢false (sym q))
room-counts (msg.Opened age ss e) q = absurd (true≢false (sym q))
room-counts (msg.Grant ss e x n h i) q = absurd (true≢false (sym q))
room-counts (msg.Recall ss e x n h) q = absurd (true≢false (sym q))
room-counts (msg.Kept ss e b) q = absurd (true≢false (sym q))
room-counts (msg.Ids ss e got n f) q = absurd (true≢false (sym q))
room-counts (msg.NoRoom ss e ask l r) q = absurd (true≢false (sym q))
room-counts (msg.Ended ss low mask) q = absurd (true≢false (sym q))
room-counts (msg.Restarted ss e) q = absurd (true≢false (sym q))
room-counts (msg.OldBoot a b) q = absurd (true≢false (sym q))

uncounted : (m : Msg) (v : Server) → counts m ≡ false → HasNext m v
uncounted (msg.Hello from age) v e = absurd (true≢false e)
uncounted (msg.Room ss e got ask) v q = absurd (true≢false q)
uncounted (msg.Want ss e x h last) v q = tt
uncounted (msg.Back ss e x n h) v q = tt
uncounted (msg.Flush ss e b ops) v q = tt
uncounted (msg.Claim ss e list) v q = tt
uncounted (msg.Bye ss e) v q = tt
uncounted (msg.Opened age ss e) v q = tt
uncounted (msg.Grant ss e x n h i) v q = tt
uncounted (msg.Recall ss e x n h) v q = tt
uncounted (msg.Kept ss e b) v q = tt
uncounted (msg.Ids ss e got n f) v q = tt
uncounted (msg.NoRoom ss e ask l r) v q = tt
uncounted (msg.Ended ss low mask) v q = tt
uncounted (msg.Restarted ss e) v q = tt
uncounted (msg.OldBoot a b) v q = tt

no-back : (c a : ℕ) (m : Msg) → counts m ≡ true → ((c == a) && is_back_message m) ≡ false
no-back c a m q = off (c == a) (is_back_message m) (go m q)
  where
    off : (x y : Bool) → y ≡ false → (x && y) ≡ false
    off true y e = e
    off false y e = refl

    go : (m : Msg) → counts m ≡ true → is_back_message m ≡ false
    go (msg.Hello from age) q = refl
    go (msg.Room ss e got ask) q = refl
    go (msg.Want ss e x h last) q = absurd (true≢false (sym q))
    go (msg.Back ss e x n h) q = absurd (true≢false (sym q))
    go (msg.Flush ss e b ops) q = absurd (true≢false (sym q))
    go (msg.Claim ss e list) q = absurd (true≢false (sym q))
    go (msg.Bye ss e) q = absurd (true≢false (sym q))
    go (msg.Opened age ss e) q = absurd (true≢false (sym q))
    go (msg.Grant ss e x n h i) q = absurd (true≢false (sym q))
    go (msg.Recall ss e x n h) q = absurd (true≢false (sym q))
    go (msg.Kept ss e b) q = absurd (true≢false (sym q))
    go (msg.Ids ss e got n f) q = absurd (true≢false (sym q))
    go (msg.NoRoom ss e ask l r) q = absurd (true≢false (sym q))
    go (msg.Ended ss low mask) q = absurd (true≢false (sym q))
    go (msg.Restarted ss e) q = absurd (true≢false (sym q))
    go (msg.OldBoot a b) q = absurd (true≢false (sym q))

-- It's the greeting of its phase, or what asks for ids in the phase for that.
abbrev IsGreeting : Work → Scene → ℕ × Msg → Type 0
IsGreeting j sc t = (age : Age) × InPhase j sc (Greets age) × ◌≡◌ {A = ℕ × Msg} (j.clerk, msg.Hello j.clerk age) t

abbrev IsRequest : Work → Scene → ℕ × Msg → Type 0
IsRequest j sc t = (again : Bool) × (got : ℕ) × (ask : ℕ) × InPhase j sc (Asks again got ask) × ◌≡◌ {A = ℕ × Msg} (j.clerk, msg.Room j.session sc.server.durable.epoch got ask) t

abbrev Is : Work → Scene → Phase → ℕ × Msg → Type 0
Is j sc p t = (96 ≤ weight p) × (IsGreeting j sc t ⊎ IsRequest j sc t)

module _ (j : Work) (sc : Scene) (t : ℕ × Msg) (rest : Mail) (mail : sc.mail ≡ t ∷ rest) (counted : counts t.1 ≡ true) where
  not-here : {A : Type 0} (a : ℕ × Msg) (more : Mail) → a ∷ more ≡ t ∷ main j rest → counts a.1 ≡ false → A
  not-here a more e f = absurd (true≢false (sym counted ∙ ap (λ z. counts z.1) (sym (head-same a t more (main j rest) e)) ∙ f))

  by-phase : (p : Phase) → InPhase j sc p → messages j sc p ≡ t ∷ main j rest → Is j sc p t
  by-phase (Greets age) ip e = (omega arith, inl (age, ip, head-same (j.clerk, msg.Hello j.clerk age) t [] (main j rest) e))
  by-phase (Asks again got ask) ip e = (omega arith, inr (again, got, ask, ip, head-same (j.clerk, msg.Room j.session sc.server.durable.epoch got ask) t [] (main j rest) e))
  by-phase (Opens age) ip e = not-here _ _ e refl
  by-phase (Claims None) ip e = not-here _ _ e refl
  by-phase (Claims (Some q)) ip e = not-here _ _ e refl
  by-phase (Wants x h n) ip e = not-here _ _ e refl
  by-phase (Recalls x h (r ∷ rs) bs) ip e = not-here _ _ e refl
  by-phase (Recalls x h [] []) ip e = absurd (none-first t (main j rest) e)
  by-phase (Recalls x h [] (b ∷ bs)) ip e = not-here _ _ e refl
  by-phase (Flushes x h r b ops more) ip e = not-here _ _ e refl
  by-phase (Keeps x h r b more) ip e = not-here _ _ e refl
  by-phase (Grants x h n) ip e = not-here _ _ e refl
  by-phase (Gives got n first) ip e = not-here _ _ e refl
  by-phase (Refuses again ask l r) ip e = not-here _ _ e refl
  by-phase (Saves b ops more) ip e = not-here _ _ e refl
  by-phase (Saved b more) ip e = not-here _ _ e refl
  by-phase Ends ip e = absurd (none-first t (main j rest) e)

  first-is : (p : Phase) → InPhase j sc p → Is j sc p t
  first-is p ip = by-phase p ip (sym ip.main_is ∙ ap (main j) mail ∙ main-front j t rest (no-back t.0 j.clerk t.1 counted))

-- A greeting that spends nothing opened a session.
module _ (j : Work) (sc : Scene) (age : Age) (ip : InPhase j sc (Greets age)) where
  abbrev s : Server
  s = sc.server

  abbrev opening : Bool → Serving
  opening b = elim b as (λ z. Serving) [ true ↦ spend counter.Session (serving s) | false ↦ commit (record_of.Open j.clerk age s.durable.next_session) (tell_opened j.clerk age s.durable.next_session None) stay (serving s) ]

  spends-session : nat_le last_counter s.durable.next_session ≡ true → take j.clerk (msg.Hello j.clerk age) s ≡ spend counter.Session (serving s)
  spends-session e =
      ap serve (
      ap (λ b. elim b as (λ z. Serving) [ true ↦ greet j.clerk age (greeting (slot s.durable j.clerk) age) (serving s) | false ↦ serving s ]) (same-self j.clerk)
      ∙ ap (λ g. greet j.clerk age g (serving s)) (greeted-new (slot s.durable j.clerk) age ip.facts.2 ip.facts.3)
      ∙ ap opening e
      ) ∙ no-want (spend counter.Session (serving s)) ip.facts.0

  may-open : (take j.clerk (msg.Hello j.clerk age) s).spent ≡ None → MayOpen s
  may-open none = go (nat_le last_counter s.durable.next_session) refl
    where
      go : (b : Bool) → nat_le last_counter s.durable.next_session ≡ b → nat_le last_counter s.durable.next_session ≡ false
      go false e = e
      go true e = none-some counter.Session (sym (ap (λ t. t.spent) (spends-session e)) ∙ none)

-- What asks for ids spends none where there's no room for them, and else, where it spends nothing, they are there.
module _ (j : Work) (sc : Scene) (again : Bool) (got ask : ℕ) (ip : InPhase j sc (Asks again got ask)) where
  abbrev q : IsAsking [] j sc again ask
  q = ip.facts.1

  abbrev v : Server
  v = sc.server

  abbrev request : Msg
  request = msg.Room j.session v.durable.epoch got ask

  its-work : IsAtWork j.clerk j.session v.durable.epoch q.slot (serving v)
  its-work = working-at [] j sc q.slot q.clerk q.working

  next-grant : (got == q.slot.grants) ≡ true
  next-grant = ap (λ g. got == g) ip.facts.3 ∙ same-self got

  refused : is_full v.durable ≡ true → (take j.clerk request v).spent ≡ None
  refused full = ap (λ t. t.spent) (room-refused j.clerk j.session v.durable.epoch got ask q.slot v its-work ip.facts.0 next-grant full)

  abbrev spent-or : Bool → Serving
  spent-or b = elim b as (λ z. Serving) [
    | true ↦ spend counter.Id (serving v)
    | false ↦ commit (record_of.Ids j.clerk j.session got v.durable.next_id) (λ u. send_ids j.clerk j.session got v.durable.next_id (record_ids j.session v.durable.next_id u)) stay (serving v)
  ]

  abbrev full-or : Bool → Serving
  full-or b = elim b as (λ z. Serving) [
    | true ↦ tell j.clerk (msg.NoRoom j.session v.durable.epoch ask (live v.durable) (reserved v.durable)) (serving v)
    | false ↦ spent-or (ids_are_spent got (serving v))
  ]

  abbrev next-or : Bool → Serving
  next-or b = elim b as (λ z. Serving) [
    | true ↦ full-or (is_full v.durable)
    | false ↦ elim (got + 1 == q.slot.grants) as (λ z. Serving) [ true ↦ resend_ids j.clerk j.session got q.slot.last_first (serving v) | false ↦ serving v ]
  ]

  spends-ids : is_full v.durable ≡ false → ids_are_spent got (serving v) ≡ true → take j.clerk request v ≡ spend counter.Id (serving v)
  spends-ids full spent =
      ap serve (at-work j.clerk j.session v.durable.epoch false (room j.clerk j.session got ask) (serving v) q.slot its-work ∙ ap next-or next-grant ∙ ap full-or full ∙ ap spent-or spent)
      ∙ no-want (spend counter.Id (serving v)) ip.facts.0

  either : (a b : Bool) → (a || b) ≡ false → a ≡ false
  either false b e = refl
  either true b e = e

  ids-there : (take j.clerk request v).spent ≡ None → HasNext request v
  ids-there none full = either (nat_lt last_first_id v.durable.next_id) (nat_le last_grants got) (go (ids_are_spent got (serving v)) refl)
    where
      go : (b : Bool) → ids_are_spent got (serving v) ≡ b → ids_are_spent got (serving v) ≡ false
      go false e = e
      go true e = none-some counter.Id (sym (ap (λ t. t.spent) (spends-ids full e)) ∙ none)

-- The server's step.
module _ (j : Work) (sc : Scene) (p : Phase) (t : ℕ × Msg) (rest : Mail) (ip : InPhase j sc p) (mail : sc.mail ≡ t ∷ rest) where
  pub next-there : (take t.0 t.1 sc.server).spent ≡ None → HasNext t.1 sc.server
  next-there none = go (counts t.1) refl
    where
      greets : IsGreeting j sc t → HasNext t.1 sc.server
      greets (age, at-it, e) = subst (λ (z : ℕ × Msg). HasNext z.1 sc.server) e (may-open j sc age at-it (ap (λ (z : ℕ × Msg). (take z.0 z.1 sc.server).spent) e ∙ none))

      asks : IsRequest j sc t → HasNext t.1 sc.server
      asks (again, got, ask, at-it, e) = subst (λ (z : ℕ × Msg). HasNext z.1 sc.server) e (ids-there j sc again got ask at-it (ap (λ (z : ℕ × Msg). (take z.0 z.1 sc.server).spent) e ∙ none))

      by : IsGreeting j sc t ⊎ IsRequest j sc t → HasNext t.1 sc.server
      by (inl g) = greets g
      by (inr r) = asks r

      go : (b : Bool) → counts t.1 ≡ b → HasNext t.1 sc.server
      go false e = uncounted t.1 sc.server e
      go true e = by (first-is j sc t rest mail e p ip).1

  -- where little is left, nothing is taken of these counters
  pub next-else-much : measure j sc p ≤ 32 → HasNext t.1 sc.server
  next-else-much l = go (counts t.1) refl
    where
      go : (b : Bool) → counts t.1 ≡ b → HasNext t.1 sc.server
      go false e = uncounted t.1 sc.server e
      go true e = absurd (omega (arith, l, (first-is j sc t rest mail e p ip).0))

  -- no room: nothing is spent
  pub refused-unspent : is_room t.1 ≡ true → is_full sc.server.durable ≡ true → (take t.0 t.1 sc.server).spent ≡ None
  refused-unspent asked full = by (first-is j sc t rest mail (room-counts t.1 asked) p ip).1
    where
      by : IsGreeting j sc t ⊎ IsRequest j sc t → (take t.0 t.1 sc.server).spent ≡ None
      by (inl (age, at-it, f)) = absurd (true≢false (sym asked ∙ ap (λ (z : ℕ × Msg). is_room z.1) (sym f)))
      by (inr (again, got, ask, at-it, f)) = ap (λ (z : ℕ × Msg). (take z.0 z.1 sc.server).spent) (sym f) ∙ refused j sc again got ask at-it full

-- A delivery without a fault.
module _ (j : Work) (w : World) (sc : Scene) (p : Phase) (t : ℕ × Msg) (rest : Mail) (i : IsScene w sc) (ip : InPhase j sc p) (mail : sc.mail ≡ t ∷ rest) where
  abbrev first : IsFirst w t.0 t.1 rest
  first = delivering.first w sc i t.0 t.1 rest mail

  abbrev n : ℕ
  n = first.number

  abbrev x : Sent
  x = first.sent

  abbrev Fine : Moving → Type 0
  Fine m = m.fault ≡ None

  delivers : deliver runs n w ≡ deliver_to runs n x w
  delivers = ap (λ o. elim o as (λ z. Moving) [ None ↦ fails fault.NoSuchMsg w | Some s ↦ deliver_to runs n s w ]) first.there

  unspent : (y : Serving) → Fine (elim y.spent as (λ z. Moving) [ Some c ↦ fails (fault.Spent c) (settled n w) | None ↦ served_record runs y.rec y (settled n w) ]) → y.spent ≡ None
  unspent y f = go y.spent f
    where
      go : (o : Option Counter) → Fine (elim o as (λ z. Moving) [ Some c ↦ fails (fault.Spent c) (settled n w) | None ↦ served_record runs y.rec y (settled n w) ]) → o ≡ None
      go None f = refl
      go (Some c) f = none-some (fault.Spent c) f

  at-server : is_for_server t.1 ≡ true → Fine (deliver runs n w) → (take t.0 t.1 sc.server).spent ≡ None
  at-server e f = subst (λ (z : ℕ × Msg). (take z.0 z.1 sc.server).spent ≡ None) (λ z. (first.clerk z, first.message z)) (unspent (take x.clerk x.msg sc.server) reached)
    where
      as-server : Bool → Moving
      as-server b = elim b as (λ z. Moving) [ true ↦ to_server runs n x w.server w | false ↦ to_clerk x.clerk x.msg (at x.clerk w.clerks) (settled n w) ]

      sent-on : is_for_server x.msg ≡ true
      sent-on = ap is_for_server first.message ∙ e

      reached : Fine (to_server runs n x (Some sc.server) w)
      reached = subst (λ o. Fine (to_server runs n x o w)) i.server (subst (λ b. Fine (as-server b)) sent-on (subst Fine delivers f))

  has-next : Fine (deliver runs n w) → HasNext t.1 sc.server
  has-next f = go (is_for_server t.1) refl
    where
      go : (b : Bool) → is_for_server t.1 ≡ b → HasNext t.1 sc.server
      go true e = next-there j sc p t rest ip mail (at-server e f)
      go false e = elsewhere t.1 e
        where
          elsewhere : (m : Msg) → is_for_server m ≡ false → HasNext m sc.server
          elsewhere (msg.Hello from age) q = absurd (true≢false q)
          elsewhere (msg.Room ss e got ask) q = absurd (true≢false q)
          elsewhere (msg.Want ss e x h last) q = tt
          elsewhere (msg.Back ss e x n h) q = tt
          elsewhere (msg.Flush ss e b ops) q = tt
          elsewhere (msg.Claim ss e list) q = tt
          elsewhere (msg.Bye ss e) q = tt
          elsewhere (msg.Opened age ss e) q = tt
          elsewhere (msg.Grant ss e x n h i) q = tt
          elsewhere (msg.Recall ss e x n h) q = tt
          elsewhere (msg.Kept ss e b) q = tt
          elsewhere (msg.Ids ss e got n f) q = tt
          elsewhere (msg.NoRoom ss e ask l r) q = tt
          elsewhere (msg.Ended ss low mask) q = tt
          elsewhere (msg.Restarted ss e) q = tt
          elsewhere (msg.OldBoot a b) q = tt

  pub had-next : (k : ℕ) → due w ≡ Some k → Fine (deliver runs k w) → HasNext t.1 sc.server
  had-next k e f = has-next (subst (λ z. Fine (deliver runs z w)) (same k n (sym e ∙ delivering.due-is w sc i t.0 t.1 rest mail)) f)
    where
      same : (a b : ℕ) → ◌≡◌ {A = Option ℕ} (Some a) (Some b) → a ≡ b
      same a b z = cc

pub deliveries-have-next : DeliveriesHaveNext
deliveries-have-next j w sc p t rest n i ip mail is-due fine = had-next j w sc p t rest i ip mail n is-due fine
