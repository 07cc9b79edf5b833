-- A server's step on a message: counters rise with messages, and a batch is the message's.
use Rattle.std.proofs.Common.{◌≡◌, refl, ap, ◌∙◌, arith, ◌≤◌, ◌+◌, ℕ, Bool, true, false, ◌==◌, ◌&&◌, ◌||◌, List, [], ◌∷◌, length, Option, Some, None, Ok, length-append}
use Rattle.std.specs.Prelude.{nat_le, nat_lt, is_none, is_some}
use Rattle.ec_base.specs.Limits.{last_counter}
use Rattle.ec_base.specs.Tables.{at, put}
use Rattle.ec_base.specs.declared.counter.Counter.TheVariants as counter
use Rattle.ec_base.specs.declared.ids.Age.{Age}
use Rattle.ec_base.specs.declared.ids.Hold.{Hold}
use Rattle.ec_order.specs.Order.{Issued}
use Rattle.ec_sessions.specs.Limits.{ids_per_grant}
use Rattle.ec_sessions.specs.Slots.{greeting, run}
use Rattle.ec_sessions.specs.Windows.{has}
use Rattle.ec_sessions.specs.declared.slot.Greeting.{Greeting}
use Rattle.ec_sessions.specs.declared.slot.Greeting.TheVariants as greeted
use Rattle.ec_sessions.specs.declared.slot.Slot.{Slot}
use Rattle.ec_sessions.specs.OfTokens.Tokens.{claimed as with_claim, fits_back, first_clash, lowered, token}
use Rattle.ec_sessions.specs.declared.tokens.token.Token.{Token}
use Rattle.ec_wire.specs.declared.msg.Msg.{Msg}
use Rattle.ec_wire.specs.declared.msg.Msg.TheVariants as msg
use Rattle.ec_durable.specs.Durable.{is_full, live, reserved, step}
use Rattle.ec_durable.specs.declared.record.Record.{Record}
use Rattle.ec_durable.specs.declared.record.Record.TheVariants as record_of
use Rattle.ec_durable.specs.declared.state.Durable.{Durable}
use Rattle.ec_protocol.specs.Server.{Serving, back, claim, commit, epoch, finish, flush, forget, grant_ids, greet, has_claimed, hello, ids_are_spent, in_session, may_write, note, open_new, record_ids, resend_ids, room, send_grant, send_ids}
use Rattle.ec_protocol.specs.Server.{serving, slot_of, spend, stay, take, taken, tell, tell_ended, tell_opened, want, with_ids, with_server}
use Rattle.ec_protocol.specs.declared.server.Server.{Server}
use Rattle.ec_machine_laws.proofs.Recording.{ids-session, open-session}
use Rattle.ec_machine_laws.proofs.Rising.{Rises, batch-same, end-same, rises-committed, rises-numbered, rises-on, rises-self, rises-spent, rises-told, rises-with}
use Rattle.ec_machine_laws.proofs.RoundsCount.{serve-rises}

module _ (R : Option Record → Type 0) (opens : (c s : ℕ) (age : Age) → R (Some (record_of.Open c age s))) (ends : (c s : ℕ) → R (Some (record_of.End c s))) (gives : (c s got first : ℕ) → R (Some (record_of.Ids c s got first))) where
  -- a session ends
  finish-rises : (c : ℕ) (sl : Slot) (t : Serving) → Rises R t (finish c sl t)
  finish-rises c sl t =
      rises-committed R (record_of.End c sl.session) (λ u. tell_ended c sl (with_server (forget sl.session) u)) stay t
      (λ d e. record {
        number = omega (arith, length-append t.sent ((c, msg.Ended sl.session sl.window.low sl.window.mask) ∷ []));
        session = omega (arith, length-append t.sent ((c, msg.Ended sl.session sl.window.low sl.window.mask) ∷ []), end-same c sl.session t.server.durable d e);
        committed = λ r. ends c sl.session;
      })
      (rises-self R t)

  -- a session opens, with a message
  open-rises : (c : ℕ) (age : Age) (old : Option ℕ) (t : Serving) → Rises R t (open_new c age old t)
  open-rises c age old t = go (nat_le last_counter t.server.durable.next_session)
    where
      next : ℕ
      next = t.server.durable.next_session

      opened : (old : Option ℕ) (d : Durable) → step (record_of.Open c age next) t.server.durable ≡ Ok d → Rises R t (tell_opened c age next old (record t { server = record (t.server) { durable = d }; rec = Some (record_of.Open c age next) }))
      opened None d e = record {
        number = omega (arith, length-append t.sent ((c, msg.Opened age next d.epoch) ∷ []));
        session = omega (arith, length-append t.sent ((c, msg.Opened age next d.epoch) ∷ []), open-session c next age t.server.durable d e);
        committed = λ r. opens c next age;
      }
      opened (Some ss) d e = record {
        number = omega (arith, length-append t.sent ((c, msg.Opened age next d.epoch) ∷ []));
        session = omega (arith, length-append t.sent ((c, msg.Opened age next d.epoch) ∷ []), open-session c next age t.server.durable d e);
        committed = λ r. opens c next age;
      }

      go : (b : Bool) → Rises R t (elim b as (λ z. Serving) [ true ↦ spend counter.Session t | false ↦ commit (record_of.Open c age next) (tell_opened c age next old) stay t ])
      go true = rises-spent R t counter.Session
      go false = rises-committed R (record_of.Open c age next) (tell_opened c age next old) stay t (opened old) (rises-self R t)

  greet-rises : (c : ℕ) (age : Age) (g : Greeting) (t : Serving) → Rises R t (greet c age g t)
  greet-rises c age (greeted.Greater old) t = open-rises c age old t
  greet-rises c age (greeted.Same ss) t = rises-told R t c (msg.Opened age ss (epoch t))
  greet-rises c age (greeted.Ended ss w) t =
      rises-on R t (tell c (msg.Opened age ss (epoch t)) t) (greet c age (greeted.Ended ss w) t) (rises-told R t c (msg.Opened age ss (epoch t))) (rises-told R (tell c (msg.Opened age ss (epoch t)) t) c (msg.Ended ss w.low w.mask))
  greet-rises c age (greeted.OldBoot greatest) t = rises-told R t c (msg.OldBoot age greatest)

  hello-rises : (c from : ℕ) (age : Age) (t : Serving) → Rises R t (hello c from age t)
  hello-rises c from age t = go (c == from)
    where
      go : (b : Bool) → Rises R t (elim b as (λ z. Serving) [ true ↦ greet c age (greeting (slot_of c t) age) t | false ↦ t ])
      go true = greet-rises c age (greeting (slot_of c t) age) t
      go false = rises-self R t

  -- a message of a session
  session-rises : (c ss e : ℕ) (n : Bool) (f : Slot → Serving → Serving) (t : Serving) → ((sl : Slot) → Rises R t (f sl t)) → Rises R t (in_session c ss e n f t)
  session-rises c ss e n f t fs = by-slot (slot_of c t)
    where
      in-epoch : (sl : Slot) (b : Bool) → Rises R t (elim b as (λ z. Serving) [ false ↦ tell c (msg.Restarted ss (epoch t)) t | true ↦ f sl t ])
      in-epoch sl true = fs sl
      in-epoch sl false = rises-told R t c (msg.Restarted ss (epoch t))

      if-open : (sl : Slot) (b : Bool) → Rises R t (elim b as (λ z. Serving) [ false ↦ tell_ended c sl t | true ↦ elim ((e == epoch t) && (n || has_claimed ss t.server)) as (λ z. Serving) [ false ↦ tell c (msg.Restarted ss (epoch t)) t | true ↦ f sl t ] ])
      if-open sl true = in-epoch sl ((e == epoch t) && (n || has_claimed ss t.server))
      if-open sl false = rises-told R t c (msg.Ended sl.session sl.window.low sl.window.mask)

      if-own : (sl : Slot) (b : Bool) → Rises R t (elim b as (λ z. Serving) [
        | false ↦ t
        | true ↦ elim sl.is_open as (λ z. Serving) [ false ↦ tell_ended c sl t | true ↦ elim ((e == epoch t) && (n || has_claimed ss t.server)) as (λ z. Serving) [ false ↦ tell c (msg.Restarted ss (epoch t)) t | true ↦ f sl t ] ]
      ])
      if-own sl true = if-open sl sl.is_open
      if-own sl false = rises-self R t

      by-slot : (o : Option Slot) → Rises R t (elim o as (λ z. Serving) [
        | None ↦ t
        | Some sl ↦ elim (sl.session == ss) as (λ z. Serving) [
          | false ↦ t
          | true ↦ elim sl.is_open as (λ z. Serving) [ false ↦ tell_ended c sl t | true ↦ elim ((e == epoch t) && (n || has_claimed ss t.server)) as (λ z. Serving) [ false ↦ tell c (msg.Restarted ss (epoch t)) t | true ↦ f sl t ] ]
        ]
      ])
      by-slot None = rises-self R t
      by-slot (Some sl) = if-own sl (sl.session == ss)

  want-rises : (c ss x : ℕ) (h : Hold) (last : ℕ) (t : Serving) → Rises R t (want c ss x h last t)
  want-rises c ss x h last t = go (token t.server.tokens ss x)
    where
      noting : Rises R t (note ss x h t)
      noting = rises-with R t (note ss x h t).server refl refl

      later : (k : Token) (b : Bool) → Rises R t (elim b as (λ z. Serving) [ true ↦ send_grant c ss x k.hold k.number t | false ↦ note ss x h t ])
      later k true = rises-told R t c _
      later k false = noting

      go : (o : Option Token) → Rises R t (elim o as (λ z. Serving) [ None ↦ note ss x h t | Some k ↦ elim (nat_lt last k.number) as (λ z. Serving) [ true ↦ send_grant c ss x k.hold k.number t | false ↦ note ss x h t ] ])
      go None = noting
      go (Some k) = later k (nat_lt last k.number)

  back-rises : (ss x n : ℕ) (h : Hold) (t : Serving) → Rises R t (back ss x n h t)
  back-rises ss x n h t = go (fits_back (token t.server.tokens ss x) n h)
    where
      go : (b : Bool) → Rises R t (elim b as (λ z. Serving) [ true ↦ with_server (λ s. record s { tokens = lowered ss x h n s.tokens }) t | false ↦ t ])
      go true = rises-with R t (record (t.server) { tokens = lowered ss x h n t.server.tokens }) refl refl
      go false = rises-self R t

  -- a batch, of which R speaks
  flush-rises : (c ss b : ℕ) (ops : Issued) (sl : Slot) (t : Serving) → R (Some (record_of.Batch c ss b ops)) → Rises R t (flush c ss b ops sl t)
  flush-rises c ss b ops sl t own = go (has sl.window b)
    where
      may : (y : Bool) → Rises R t (elim y as (λ z. Serving) [ true ↦ commit (record_of.Batch c ss b ops) (λ u. tell c (msg.Kept ss (epoch u) b) u) (finish c sl) t | false ↦ finish c sl t ])
      may true =
          rises-committed R (record_of.Batch c ss b ops) (λ u. tell c (msg.Kept ss (epoch u) b) u) (finish c sl) t
          (λ d e. record {
            number = omega (arith, length-append t.sent ((c, msg.Kept ss d.epoch b) ∷ []));
            session = omega (arith, length-append t.sent ((c, msg.Kept ss d.epoch b) ∷ []), batch-same c ss b ops t.server.durable d e);
            committed = λ r. own;
          })
          (finish-rises c sl t)
      may false = finish-rises c sl t

      go : (y : Bool) → Rises R t (elim y as (λ z. Serving) [
        | true ↦ tell c (msg.Kept ss (epoch t) b) t
        | false ↦ elim (may_write t.server.tokens ss ops) as (λ z. Serving) [ true ↦ commit (record_of.Batch c ss b ops) (λ u. tell c (msg.Kept ss (epoch u) b) u) (finish c sl) t | false ↦ finish c sl t ]
      ])
      go true = rises-told R t c (msg.Kept ss (epoch t) b)
      go false = may (may_write t.server.tokens ss ops)

  -- ids with a new number, which the message tells
  recorded-rises : (c ss got first : ℕ) (t : Serving) → Rises R t (send_ids c ss got first (record_ids ss first t))
  recorded-rises c ss got first t = rises-numbered R t sending (λ u. refl) (λ u. refl) (λ u. length-append u.sent _) (λ u. refl)
    where
      sending : Serving → Serving
      sending u = send_ids c ss got first (with_server (λ s. record s { tokens = with_ids ss s.number (run first ids_per_grant) s.tokens; recorded = put ss s.number s.recorded }) u)

  grant-ids-rises : (c ss got ask : ℕ) (t : Serving) → Rises R t (grant_ids c ss got ask t)
  grant-ids-rises c ss got ask t = go (is_full t.server.durable)
    where
      first : ℕ
      first = t.server.durable.next_id

      given : (d : Durable) → step (record_of.Ids c ss got first) t.server.durable ≡ Ok d → Rises R t (send_ids c ss got first (record_ids ss first (record t { server = record (t.server) { durable = d }; rec = Some (record_of.Ids c ss got first) })))
      given d e =
          let u : Serving = record t { server = record (t.server) { durable = d }; rec = Some (record_of.Ids c ss got first) } in
          let a = recorded-rises c ss got first u in
          record { number = omega (arith, a.number); session = omega (arith, a.session, ids-session c ss got first t.server.durable d e); committed = λ r. a.committed (gives c ss got first) }

      spent : (b : Bool) → Rises R t (elim b as (λ z. Serving) [ true ↦ spend counter.Id t | false ↦ commit (record_of.Ids c ss got first) (λ u. send_ids c ss got first (record_ids ss first u)) stay t ])
      spent true = rises-spent R t counter.Id
      spent false = rises-committed R (record_of.Ids c ss got first) (λ u. send_ids c ss got first (record_ids ss first u)) stay t given (rises-self R t)

      go : (b : Bool) → Rises R t (elim b as (λ z. Serving) [
        | true ↦ tell c (msg.NoRoom ss (epoch t) ask (live t.server.durable) (reserved t.server.durable)) t
        | false ↦ elim (ids_are_spent got t) as (λ z. Serving) [ true ↦ spend counter.Id t | false ↦ commit (record_of.Ids c ss got first) (λ u. send_ids c ss got first (record_ids ss first u)) stay t ]
      ])
      go true = rises-told R t c (msg.NoRoom ss (epoch t) ask (live t.server.durable) (reserved t.server.durable))
      go false = spent (ids_are_spent got t)

  resend-rises : (c ss got : ℕ) (o : Option ℕ) (t : Serving) → Rises R t (resend_ids c ss got o t)
  resend-rises c ss got None t = rises-self R t
  resend-rises c ss got (Some first) t = go (is_some (at ss t.server.recorded))
    where
      go : (b : Bool) → Rises R t (send_ids c ss got first (elim b as (λ z. Serving) [ true ↦ t | false ↦ record_ids ss first t ]))
      go true = rises-told R t c _
      go false = recorded-rises c ss got first t

  room-rises : (c ss got ask : ℕ) (sl : Slot) (t : Serving) → Rises R t (room c ss got ask sl t)
  room-rises c ss got ask sl t = go (got == sl.grants)
    where
      before : (b : Bool) → Rises R t (elim b as (λ z. Serving) [ true ↦ resend_ids c ss got sl.last_first t | false ↦ t ])
      before true = resend-rises c ss got sl.last_first t
      before false = rises-self R t

      go : (b : Bool) → Rises R t (elim b as (λ z. Serving) [ true ↦ grant_ids c ss got ask t | false ↦ elim (got + 1 == sl.grants) as (λ z. Serving) [ true ↦ resend_ids c ss got sl.last_first t | false ↦ t ] ])
      go true = grant-ids-rises c ss got ask t
      go false = before (got + 1 == sl.grants)

  claim-rises : (c ss : ℕ) (list : List (ℕ × Hold)) (sl : Slot) (t : Serving) → Rises R t (claim c ss list sl t)
  claim-rises c ss list sl t = go (has_claimed ss t.server)
    where
      clear : (b : Bool) → Rises R t (elim b as (λ z. Serving) [ true ↦ with_server (λ s. record s { tokens = with_claim ss list s.tokens; claimed = ss ∷ s.claimed }) t | false ↦ finish c sl t ])
      clear true = rises-with R t (record (t.server) { tokens = with_claim ss list t.server.tokens; claimed = ss ∷ t.server.claimed }) refl refl
      clear false = finish-rises c sl t

      go : (b : Bool) → Rises R t (elim b as (λ z. Serving) [
        | true ↦ t
        | false ↦ elim (is_none (first_clash t.server.tokens ss list)) as (λ z. Serving) [ true ↦ with_server (λ s. record s { tokens = with_claim ss list s.tokens; claimed = ss ∷ s.claimed }) t | false ↦ finish c sl t ]
      ])
      go true = rises-self R t
      go false = clear (is_none (first_clash t.server.tokens ss list))

-- A batch is the message's.

abbrev IsOf : ℕ → Msg → Option Record → Type 0
IsOf c m o = (a s b : ℕ) (ops : Issued) → o ≡ Some (record_of.Batch a s b ops) → (c ≡ a) × (e : ℕ) × (m ≡ msg.Flush s e b ops)

module _ (c : ℕ) (m : Msg) where
  of-open : (a s : ℕ) (age : Age) → IsOf c m (Some (record_of.Open a age s))
  of-open a s age i t b ops e = absurd (apart e)
    where
      apart : ◌≡◌ {A = Option Record} (Some (record_of.Open a age s)) (Some (record_of.Batch i t b ops)) → ⊥
      apart e = cc

  of-end : (a s : ℕ) → IsOf c m (Some (record_of.End a s))
  of-end a s i t b ops e = absurd (apart e)
    where
      apart : ◌≡◌ {A = Option Record} (Some (record_of.End a s)) (Some (record_of.Batch i t b ops)) → ⊥
      apart e = cc

  of-ids : (a s got first : ℕ) → IsOf c m (Some (record_of.Ids a s got first))
  of-ids a s got first i t b ops e = absurd (apart e)
    where
      apart : ◌≡◌ {A = Option Record} (Some (record_of.Ids a s got first)) (Some (record_of.Batch i t b ops)) → ⊥
      apart e = cc

  of-none : IsOf c m None
  of-none i t b ops e = absurd (apart e)
    where
      apart : ◌≡◌ {A = Option Record} None (Some (record_of.Batch i t b ops)) → ⊥
      apart e = cc

own-batch : (c ss e b : ℕ) (ops : Issued) → IsOf c (msg.Flush ss e b ops) (Some (record_of.Batch c ss b ops))
own-batch c ss e b ops i t k more p =
    let clerks : c ≡ i = cc in
    let sessions : ss ≡ t = cc in
    let numbers : b ≡ k = cc in
    let same : ops ≡ more = cc in
    (clerks, e, ap (λ z. msg.Flush z e b ops) sessions ∙ ap (λ z. msg.Flush t e z ops) numbers ∙ ap (λ z. msg.Flush t e k z) same)

module _ (c : ℕ) (m : Msg) (t : Serving) where
  in-session : (ss e : ℕ) (n : Bool) (f : Slot → Serving → Serving) → ((sl : Slot) → Rises (IsOf c m) t (f sl t)) → Rises (IsOf c m) t (in_session c ss e n f t)
  in-session ss e n f fs = session-rises (IsOf c m) (of-open c m) (of-end c m) (of-ids c m) c ss e n f t fs

taken-rises : (c : ℕ) (m : Msg) (t : Serving) → Rises (IsOf c m) t (taken c m t)
taken-rises c (msg.Hello from age) t = let m = msg.Hello from age in hello-rises (IsOf c m) (of-open c m) (of-end c m) (of-ids c m) c from age t
taken-rises c (msg.Want ss e x h last) t =
    let m = msg.Want ss e x h last in
    in-session c m t ss e false (λ sl. want c ss x h last) (λ sl. want-rises (IsOf c m) (of-open c m) (of-end c m) (of-ids c m) c ss x h last t)
taken-rises c (msg.Back ss e x n h) t =
    let m = msg.Back ss e x n h in
    in-session c m t ss e false (λ sl. back ss x n h) (λ sl. back-rises (IsOf c m) (of-open c m) (of-end c m) (of-ids c m) ss x n h t)
taken-rises c (msg.Flush ss e b ops) t =
    let m = msg.Flush ss e b ops in
    in-session c m t ss e false (flush c ss b ops) (λ sl. flush-rises (IsOf c m) (of-open c m) (of-end c m) (of-ids c m) c ss b ops sl t (own-batch c ss e b ops))
taken-rises c (msg.Room ss e got ask) t =
    let m = msg.Room ss e got ask in
    in-session c m t ss e false (room c ss got ask) (λ sl. room-rises (IsOf c m) (of-open c m) (of-end c m) (of-ids c m) c ss got ask sl t)
taken-rises c (msg.Claim ss e list) t =
    let m = msg.Claim ss e list in
    in-session c m t ss e true (claim c ss list) (λ sl. claim-rises (IsOf c m) (of-open c m) (of-end c m) (of-ids c m) c ss list sl t)
taken-rises c (msg.Bye ss e) t = let m = msg.Bye ss e in in-session c m t ss e true (finish c) (λ sl. finish-rises (IsOf c m) (of-open c m) (of-end c m) (of-ids c m) c sl t)
taken-rises c (msg.Opened age s e) t = rises-self _ t
taken-rises c (msg.Grant s e x n h i) t = rises-self _ t
taken-rises c (msg.Recall s e x n h) t = rises-self _ t
taken-rises c (msg.Kept s e b) t = rises-self _ t
taken-rises c (msg.Ids s e got n first) t = rises-self _ t
taken-rises c (msg.NoRoom s e ask l r) t = rises-self _ t
taken-rises c (msg.Ended s low mask) t = rises-self _ t
taken-rises c (msg.Restarted s e) t = rises-self _ t
taken-rises c (msg.OldBoot age greatest) t = rises-self _ t

take-rises : (c : ℕ) (m : Msg) (v : Server) → Rises (IsOf c m) (serving v) (take c m v)
take-rises c m v = rises-on (IsOf c m) (serving v) (taken c m (serving v)) (take c m v) (taken-rises c m (serving v)) (serve-rises (IsOf c m) (taken c m (serving v)))

pub counters-rise : (c : ℕ) (m : Msg) (v : Server) → ((take c m v).server.number ≤ v.number + length (take c m v).sent) × ((take c m v).server.durable.next_session ≤ v.durable.next_session + length (take c m v).sent)
counters-rise c m v = let r = take-rises c m v in (omega (arith, r.number), omega (arith, r.session))

pub batches-flushed : (c : ℕ) (m : Msg) (v : Server) (a s b : ℕ) (ops : Issued) → (take c m v).rec ≡ Some (record_of.Batch a s b ops) → (c ≡ a) × (e : ℕ) × (m ≡ msg.Flush s e b ops)
batches-flushed c m v a s b ops e = (take-rises c m v).committed (of-none c m) a s b ops e
