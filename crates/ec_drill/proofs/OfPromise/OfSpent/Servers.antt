-- A server's step takes one more number, or notes one more want, at most, and spends no counter but those of sessions, epochs and ids.
use Rattle.std.proofs.Common.{◌≡◌, refl, ap, arith, ◌≤◌, ◌<◌, ◌+◌, ◌==◌, ◌&&◌, ◌||◌, ℕ, zero, suc, Bool, true, false, not, List, [], ◌∷◌, ◌++◌, map, length, Option, Some, None}
use Rattle.std.specs.Prelude.{Err, Ok, Result, if◌then◌else◌, is_none, is_some, nat_le, nat_lt}
use Rattle.std.specs.List.{list_any}
use Rattle.ec_base.specs.Holds.{stronger}
use Rattle.ec_base.specs.Limits.{last_counter}
use Rattle.ec_base.specs.Tables.{at}
use Rattle.ec_base.specs.declared.counter.Counter.{Counter}
use Rattle.ec_base.specs.declared.counter.Counter.TheVariants as counter
use Rattle.ec_base.specs.declared.ids.Age.{Age}
use Rattle.ec_base.specs.declared.ids.Hold.{Hold}
use Rattle.ec_volume.specs.declared.update.Update.{Update}
use Rattle.ec_sessions.specs.Slots.{Slots, greeting}
use Rattle.ec_sessions.specs.Windows.{has}
use Rattle.ec_sessions.specs.declared.slot.Slot.{Slot}
use Rattle.ec_sessions.specs.declared.slot.Greeting.{Greeting}
use Rattle.ec_sessions.specs.declared.slot.Greeting.TheVariants as greeted
use Rattle.ec_sessions.specs.OfTokens.Tokens.{Holder, Tokens, claimed as with_claim, conflicts, first_clash, fits_back, lowered, token}
use Rattle.ec_sessions.specs.declared.tokens.token.Token.{Token}
use Rattle.ec_sessions.specs.OfRecall.Due.{actions, actions_from, given_after, is_due, news, recall_of, told_of, wants_after, wants_from}
use Rattle.ec_sessions.specs.OfRecall.Wants.{is_of, noted}
use Rattle.ec_sessions.specs.declared.recall.want.Action.{Action}
use Rattle.ec_sessions.specs.declared.recall.want.Action.TheVariants as action
use Rattle.ec_sessions.specs.declared.recall.want.Want.{Want as Waits}
use Rattle.ec_wire.specs.declared.msg.Msg.{Msg}
use Rattle.ec_wire.specs.declared.msg.Msg.TheVariants.{Hello, Want, Back, Flush, Room, Claim, Bye, Opened}
use Rattle.ec_wire.specs.declared.msg.Msg.TheVariants.{Grant, Recall, Kept, Ids, NoRoom, Ended, Restarted, OldBoot}
use Rattle.ec_durable.specs.Durable.{is_full, live, reserved, slot, step}
use Rattle.ec_durable.specs.declared.record.Record.{Record}
use Rattle.ec_durable.specs.declared.record.Record.TheVariants as record_of
use Rattle.ec_durable.specs.declared.record.RecordFault.{RecordFault}
use Rattle.ec_durable.specs.declared.state.Durable.{Durable}
use Rattle.ec_protocol.specs.Server.{Serving, act, act_all, all_claimed, back, claim, commit, end, end_open, epoch, finish, flush, forget, grant, grant_ids, greet, has_claimed, hello, ids_are_spent, in_session, is_grant, is_last_number, may_write, new_server, next_number, note, open_new, record_ids, resend_ids, room, send_grant, send_ids, serve, serve_rounds, serving, slot_of, spend, start, stay, take, taken, tell, tell_all, tell_ended, tell_opened, tell_start, want, with_server}
use Rattle.ec_protocol.specs.declared.server.Server.{Server}
use Rattle.ec_drill.specs.OfPromise.OfSpent.Spent.{MaySpend}
use Rattle.ec_drill.proofs.OfPromise.OfSpent.Few.{IsLow, OnSpent, most_steps, spends}
use Rattle.ec_base.proofs.Filters.{fewer}

-- A step under way: the numbers given out and the wants that wait are so many at most.
pub record IsGoing (n number : ℕ) (recalls : List Waits) (o : Option Counter) : Type 0 where
  pub low : number + length recalls ≤ n
  pub spent : OnSpent o

abbrev pub Goes : ℕ → Serving → Type 0
Goes n t = IsGoing n t.server.number t.server.recalls t.spent

-- Grants that are due.

abbrev grants : List Action → ℕ
grants [] = 0
grants (action.Grant s x h ∷ xs) = suc (grants xs)
grants (action.Recall s x n h ∷ xs) = grants xs

grants-both : (xs ys : List Action) → grants (xs ++ ys) ≡ grants xs + grants ys
grants-both [] ys = omega arith
grants-both (action.Grant s x h ∷ xs) ys = omega (arith, grants-both xs ys)
grants-both (action.Recall s x n h ∷ xs) ys = grants-both xs ys

recalls-only : (w : Waits) (hs : List Holder) → grants (map (recall_of w) hs) ≡ 0
recalls-only w [] = refl
recalls-only w (h ∷ hs) = recalls-only w hs

-- each want is granted, or waits on
granted-or-waits : (ts given : Tokens) (ws : List Waits) → grants (actions_from ts given ws) + length (wants_from ts given ws) ≡ length ws
granted-or-waits ts given [] = refl
granted-or-waits ts given (w ∷ ws) = go (is_due ts given w) (given_after ts given w) (granted-or-waits ts (given_after ts given w) ws)
  where
    stays : Waits
    stays = record w { told = map told_of (conflicts ts w.session w.obj w.hold) }

    go : (b : Bool) (g : Tokens) → grants (actions_from ts g ws) + length (wants_from ts g ws) ≡ length ws
        → grants ((if b then action.Grant w.session w.obj w.hold ∷ [] else map (recall_of w) (news ts w)) ++ actions_from ts g ws) + length ((if b then [] else stays ∷ []) ++ wants_from ts g ws) ≡ suc (length ws)
    go true g e = omega (arith, e)
    go false g e = omega (arith, e, grants-both (map (recall_of w) (news ts w)) (actions_from ts g ws), recalls-only w (news ts w))

-- one want is noted
noted-more : (s x : ℕ) (h : Hold) (ws : List Waits) → length (noted s x h ws) ≤ length ws + 1
noted-more s x h [] = omega arith
noted-more s x h (w ∷ ws) = go (is_of s x w) (noted-more s x h ws)
  where
    again : Waits
    again = record w { hold = stronger w.hold h; told = [] }

    go : (b : Bool) → length (noted s x h ws) ≤ length ws + 1 → length (if b then again ∷ ws else w ∷ noted s x h ws) ≤ suc (length ws) + 1
    go true l = omega arith
    go false l = omega (arith, l)

-- The next number.
record Next (t u : Serving) : Type 0 where
  number : u.server.number ≤ t.server.number + 1
  recalls : u.server.recalls ≡ t.server.recalls
  spent : OnSpent u.spent

next : (t : Serving) → t.server.number < last_counter → OnSpent t.spent → Next t (next_number t)
next t few h = go (is_last_number t) refl
  where
    at-limit : (a b : ℕ) → nat_le a b ≡ true → a ≤ b
    at-limit a b e = grind (arith, e)

    go : (b : Bool) → is_last_number t ≡ b → Next t (elim b as (λ z. Serving) [ true ↦ spend counter.Number t | false ↦ with_server (λ s. record s { number = s.number + 1 }) t ])
    go true e = absurd (omega (arith, few, at-limit last_counter t.server.number e))
    go false e = record { number = omega arith; recalls = refl; spent = h }

module _ (n : ℕ) (few : n ≤ most_steps) where
  may : (t : Serving) (x : Counter) → MaySpend x → Goes n t → Goes n (spend x t)
  may t x m h = record { low = h.low; spent = spends t.spent x h.spent m }

  commits : (r : Record) (f g : Serving → Serving) (t : Serving) → Goes n t → ((u : Serving) → Goes n u → u.server.number ≡ t.server.number → u.server.recalls ≡ t.server.recalls → Goes n (f u)) → Goes n (g t) → Goes n (commit r f g t)
  commits r f g t h ok err = go (step r t.server.durable)
    where
      go : (o : Result Durable RecordFault) → Goes n (elim o as (λ z. Serving) [ Ok d ↦ f (record t { server = record (t.server) { durable = d }; rec = Some r }) | Err fault ↦ g t ])
      go (Ok d) = ok (record t { server = record (t.server) { durable = d }; rec = Some r }) h refl refl
      go (Err fault) = err

  forgets : (s : ℕ) (t : Serving) → Goes n t → Goes n (with_server (forget s) t)
  forgets s t h = record { low = omega (arith, h.low, fewer (λ (w : Waits). not (w.session == s)) t.server.recalls); spent = h.spent }

  finishes : (c : ℕ) (sl : Slot) (t : Serving) → Goes n t → Goes n (finish c sl t)
  finishes c sl t h = commits (record_of.End c sl.session) (λ u. tell_ended c sl (with_server (forget sl.session) u)) stay t h
      (λ u i p q. forgets sl.session u i) h

  -- a number is taken, where there is room for one
  numbers : (t : Serving) → t.server.number + length t.server.recalls < n → Goes n t → Goes n (next_number t)
  numbers t free h = let r = next t (omega (arith, few, free)) h.spent in record { low = omega (arith, free, r.number, ap length r.recalls); spent = r.spent }

  -- Wants that are served.

  acts : (xs : List Action) (t : Serving) → t.server.number + length t.server.recalls + grants xs ≤ n → OnSpent t.spent → Goes n (act_all xs t)
  acts [] t l s = record { low = omega (arith, l); spent = s }
  acts (action.Grant ss x h ∷ xs) t l s = let r = next t (omega (arith, few, l)) s in acts xs (grant ss x h t) (omega (arith, l, r.number, ap length r.recalls)) r.spent
  acts (action.Recall ss x k h ∷ xs) t l s = acts xs (act (action.Recall ss x k h) t) l s

  rounds : (k : ℕ) (t : Serving) → Goes n t → Goes n (serve_rounds k t)
  rounds zero t h = h
  rounds (suc k) t h = go (list_any is_grant due) (acts due waiting (omega (arith, h.low, granted-or-waits t.server.tokens [] t.server.recalls)) h.spent) (λ u i. rounds k u i)
    where
      due : List Action
      due = actions t.server.tokens t.server.recalls

      waiting : Serving
      waiting = with_server (λ s. record s { recalls = wants_after s.tokens s.recalls }) t

      go : (b : Bool) → Goes n (act_all due waiting) → ((u : Serving) → Goes n u → Goes n (serve_rounds k u)) → Goes n (elim b as (λ z. Serving) [ true ↦ serve_rounds k (act_all due waiting) | false ↦ act_all due waiting ])
      go true i again = again (act_all due waiting) i
      go false i again = i

  serves : (t : Serving) → Goes n t → Goes n (serve t)
  serves t h = go (all_claimed t.server)
    where
      go : (b : Bool) → Goes n (elim b as (λ z. Serving) [ true ↦ serve_rounds (suc (length t.server.recalls)) t | false ↦ t ])
      go true = rounds (suc (length t.server.recalls)) t h
      go false = h

  -- Messages.

  module _ (c : ℕ) (v : Server) (spare : v.number + length v.recalls < n) where
    begun : Goes n (serving v)
    begun = record { low = omega (arith, spare); spent = tt }

    opens : (age : Age) (old : Option ℕ) → Goes n (open_new c age old (serving v))
    opens age old = go (nat_le last_counter v.durable.next_session)
      where
        forgotten : (o : Option ℕ) (u : Serving) → Goes n u → Goes n (tell_opened c age v.durable.next_session o u)
        forgotten None u i = i
        forgotten (Some s) u i = forgets s u i

        go : (b : Bool) → Goes n (elim b as (λ z. Serving) [ true ↦ spend counter.Session (serving v) | false ↦ commit (record_of.Open c age v.durable.next_session) (tell_opened c age v.durable.next_session old) stay (serving v) ])
        go true = may (serving v) counter.Session tt begun
        go false = commits (record_of.Open c age v.durable.next_session) (tell_opened c age v.durable.next_session old) stay (serving v) begun (λ u i p q. forgotten old u i) begun

    greets : (age : Age) (g : Greeting) → Goes n (greet c age g (serving v))
    greets age (greeted.Greater old) = opens age old
    greets age (greeted.Same ss) = begun
    greets age (greeted.Ended ss w) = begun
    greets age (greeted.OldBoot greatest) = begun

    hellos : (from : ℕ) (age : Age) → Goes n (hello c from age (serving v))
    hellos from age = go (c == from)
      where
        go : (b : Bool) → Goes n (elim b as (λ z. Serving) [ true ↦ greet c age (greeting (slot_of c (serving v)) age) (serving v) | false ↦ serving v ])
        go true = greets age (greeting (slot_of c (serving v)) age)
        go false = begun

    inside : (ss e : ℕ) (needs : Bool) (f : Slot → Serving → Serving) → ((sl : Slot) → Goes n (f sl (serving v))) → Goes n (in_session c ss e needs f (serving v))
    inside ss e needs f a = go (slot v.durable c)
      where
        by : (sl : Slot) (x y z : Bool) → Goes n (elim x as (λ z. Serving) [
          | false ↦ serving v
          | true ↦ elim y as (λ z. Serving) [
            | false ↦ tell_ended c sl (serving v)
            | true ↦ elim z as (λ z. Serving) [
              | false ↦ tell c (Restarted ss (epoch (serving v))) (serving v)
              | true ↦ f sl (serving v)
            ]
          ]
        ])
        by sl false y z = begun
        by sl true false z = begun
        by sl true true false = begun
        by sl true true true = a sl

        go : (o : Option Slot) → Goes n (elim o as (λ z. Serving) [
          | None ↦ serving v
          | Some sl ↦ elim (sl.session == ss) as (λ z. Serving) [
            | false ↦ serving v
            | true ↦ elim sl.is_open as (λ z. Serving) [
              | false ↦ tell_ended c sl (serving v)
              | true ↦ elim ((e == epoch (serving v)) && (needs || has_claimed ss v)) as (λ z. Serving) [
                | false ↦ tell c (Restarted ss (epoch (serving v))) (serving v)
                | true ↦ f sl (serving v)
              ]
            ]
          ]
        ])
        go None = begun
        go (Some sl) = by sl (sl.session == ss) sl.is_open ((e == epoch (serving v)) && (needs || has_claimed ss v))

    notes : (ss x : ℕ) (h : Hold) → Goes n (note ss x h (serving v))
    notes ss x h = record { low = omega (arith, spare, noted-more ss x h v.recalls); spent = tt }

    wants : (ss x : ℕ) (h : Hold) (last : ℕ) → Goes n (want c ss x h last (serving v))
    wants ss x h last = go (token v.tokens ss x)
      where
        by : (k : Token) (b : Bool) → Goes n (elim b as (λ z. Serving) [ true ↦ send_grant c ss x k.hold k.number (serving v) | false ↦ note ss x h (serving v) ])
        by k true = begun
        by k false = notes ss x h

        go : (o : Option Token) → Goes n (elim o as (λ z. Serving) [ None ↦ note ss x h (serving v) | Some k ↦ elim (nat_lt last k.number) as (λ z. Serving) [ true ↦ send_grant c ss x k.hold k.number (serving v) | false ↦ note ss x h (serving v) ] ])
        go None = notes ss x h
        go (Some k) = by k (nat_lt last k.number)

    backs : (ss x k : ℕ) (h : Hold) → Goes n (back ss x k h (serving v))
    backs ss x k h = go (fits_back (token v.tokens ss x) k h)
      where
        go : (b : Bool) → Goes n (elim b as (λ z. Serving) [ true ↦ with_server (λ s. record s { tokens = lowered ss x h k s.tokens }) (serving v) | false ↦ serving v ])
        go true = begun
        go false = begun

    flushes : (ss b : ℕ) (ops : List (ℕ × Update)) (sl : Slot) → Goes n (flush c ss b ops sl (serving v))
    flushes ss b ops sl = go (has sl.window b) (may_write v.tokens ss ops)
      where
        go : (x y : Bool) → Goes n (elim x as (λ z. Serving) [
          | true ↦ tell c (Kept ss (epoch (serving v)) b) (serving v)
          | false ↦ elim y as (λ z. Serving) [
            | true ↦ commit (record_of.Batch c ss b ops) (λ u. tell c (Kept ss (epoch u) b) u) (finish c sl) (serving v)
            | false ↦ finish c sl (serving v)
          ]
        ])
        go true y = begun
        go false true = commits (record_of.Batch c ss b ops) (λ u. tell c (Kept ss (epoch u) b) u) (finish c sl) (serving v) begun (λ u i p q. i) (finishes c sl (serving v) begun)
        go false false = finishes c sl (serving v) begun

    -- ids of one number are recorded
    records-ids : (ss first : ℕ) (u : Serving) → Goes n u → u.server.number ≡ v.number → u.server.recalls ≡ v.recalls → Goes n (record_ids ss first u)
    records-ids ss first u i p q = numbers u (omega (arith, spare, p, ap length q)) i

    grants-ids : (ss got ask : ℕ) → Goes n (grant_ids c ss got ask (serving v))
    grants-ids ss got ask = go (is_full v.durable) (ids_are_spent got (serving v))
      where
        given : (u : Serving) → Goes n u → u.server.number ≡ v.number → u.server.recalls ≡ v.recalls → Goes n (send_ids c ss got v.durable.next_id (record_ids ss v.durable.next_id u))
        given u i p q = records-ids ss v.durable.next_id u i p q

        go : (x y : Bool) → Goes n (elim x as (λ z. Serving) [
          | true ↦ tell c (NoRoom ss (epoch (serving v)) ask (live v.durable) (reserved v.durable)) (serving v)
          | false ↦ elim y as (λ z. Serving) [
            | true ↦ spend counter.Id (serving v)
            | false ↦ commit (record_of.Ids c ss got v.durable.next_id) (λ u. send_ids c ss got v.durable.next_id (record_ids ss v.durable.next_id u)) stay (serving v)
          ]
        ])
        go true y = begun
        go false true = may (serving v) counter.Id tt begun
        go false false = commits (record_of.Ids c ss got v.durable.next_id) (λ u. send_ids c ss got v.durable.next_id (record_ids ss v.durable.next_id u)) stay (serving v) begun given begun

    resends-ids : (ss got : ℕ) (o : Option ℕ) → Goes n (resend_ids c ss got o (serving v))
    resends-ids ss got None = begun
    resends-ids ss got (Some first) = go (is_some (at ss v.recorded))
      where
        go : (b : Bool) → Goes n (send_ids c ss got first (elim b as (λ z. Serving) [ true ↦ serving v | false ↦ record_ids ss first (serving v) ]))
        go true = begun
        go false = records-ids ss first (serving v) begun refl refl

    rooms : (ss got ask : ℕ) (sl : Slot) → Goes n (room c ss got ask sl (serving v))
    rooms ss got ask sl = go (got == sl.grants) (got + 1 == sl.grants)
      where
        go : (x y : Bool) → Goes n (elim x as (λ z. Serving) [ true ↦ grant_ids c ss got ask (serving v) | false ↦ elim y as (λ z. Serving) [ true ↦ resend_ids c ss got sl.last_first (serving v) | false ↦ serving v ] ])
        go true y = grants-ids ss got ask
        go false true = resends-ids ss got sl.last_first
        go false false = begun

    claims : (ss : ℕ) (list : List (ℕ × Hold)) (sl : Slot) → Goes n (claim c ss list sl (serving v))
    claims ss list sl = go (has_claimed ss v) (is_none (first_clash v.tokens ss list))
      where
        go : (x y : Bool) → Goes n (elim x as (λ z. Serving) [
          | true ↦ serving v
          | false ↦ elim y as (λ z. Serving) [
            | true ↦ with_server (λ s. record s { tokens = with_claim ss list s.tokens; claimed = ss ∷ s.claimed }) (serving v)
            | false ↦ finish c sl (serving v)
          ]
        ])
        go true y = begun
        go false true = begun
        go false false = finishes c sl (serving v) begun

    takes-one : (m : Msg) → Goes n (taken c m (serving v))
    takes-one (Hello from age) = hellos from age
    takes-one (Want ss e x h last) = inside ss e false (λ sl. want c ss x h last) (λ sl. wants ss x h last)
    takes-one (Back ss e x k h) = inside ss e false (λ sl. back ss x k h) (λ sl. backs ss x k h)
    takes-one (Flush ss e b ops) = inside ss e false (flush c ss b ops) (flushes ss b ops)
    takes-one (Room ss e got ask) = inside ss e false (room c ss got ask) (rooms ss got ask)
    takes-one (Claim ss e list) = inside ss e true (claim c ss list) (claims ss list)
    takes-one (Bye ss e) = inside ss e true (finish c) (λ sl. finishes c sl (serving v) begun)
    takes-one (Opened age s e) = begun
    takes-one (Grant s e x k h i) = begun
    takes-one (Recall s e x k h) = begun
    takes-one (Kept s e b) = begun
    takes-one (Ids s e got k f) = begun
    takes-one (NoRoom s e ask l r) = begun
    takes-one (Ended s low mask) = begun
    takes-one (Restarted s e) = begun
    takes-one (OldBoot a b) = begun

  pub takes : (c : ℕ) (m : Msg) (v : Server) → v.number + length v.recalls < n → Goes n (take c m v)
  takes c m v spare = serves (taken c m (serving v)) (takes-one c v spare m)

  -- an end takes none
  pub ends : (c : ℕ) (v : Server) → IsLow n v → Goes n (end c v)
  ends c v low = serves (end_open c (slot v.durable c) (serving v)) (go (slot v.durable c))
    where
      begun : Goes n (serving v)
      begun = record { low = low; spent = tt }

      by : (sl : Slot) (b : Bool) → Goes n (elim b as (λ z. Serving) [ true ↦ finish c sl (serving v) | false ↦ serving v ])
      by sl true = finishes c sl (serving v) begun
      by sl false = begun

      go : (o : Option Slot) → Goes n (end_open c o (serving v))
      go None = begun
      go (Some sl) = by sl sl.is_open

  -- What a start tells.

  tells-start : (c : ℕ) (t : Serving) (o : Option Slot) → Goes n t → Goes n (tell_start c t o)
  tells-start c t None h = h
  tells-start c t (Some sl) h = go sl.is_open
    where
      go : (b : Bool) → Goes n (elim b as (λ z. Serving) [ true ↦ tell c (Restarted sl.session (epoch t)) t | false ↦ tell_ended c sl t ])
      go true = h
      go false = h

  tells-all : (c : ℕ) (slots : Slots) (t : Serving) → Goes n t → Goes n (tell_all c slots t)
  tells-all c [] t h = h
  tells-all c (sl ∷ slots) t h = tells-all (c + 1) slots (tell_start c t sl) (tells-start c t sl h)

  pub starts : (d : Durable) → Goes n (start d)
  starts d = go (nat_le last_counter d.epoch)
    where
      begun : Goes n (serving (new_server d))
      begun = record { low = omega arith; spent = tt }

      go : (b : Bool) → Goes n (elim b as (λ z. Serving) [
        | true ↦ spend counter.Epoch (serving (new_server d))
        | false ↦ commit (record_of.Epoch (d.epoch + 1)) (λ u. tell_all 0 u.server.durable.sessions u) stay (serving (new_server d))
      ])
      go true = may (serving (new_server d)) counter.Epoch tt begun
      go false = commits (record_of.Epoch (d.epoch + 1)) (λ u. tell_all 0 u.server.durable.sessions u) stay (serving (new_server d)) begun (λ u i p q. tells-all 0 u.server.durable.sessions u i) begun
