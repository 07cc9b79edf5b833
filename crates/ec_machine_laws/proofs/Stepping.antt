-- A server's step on one message, where one want waits at most.
use Rattle.std.proofs.Common.{◌≡◌, refl, sym, ap, ◌∙◌, ◌+◌, ℕ, Bool, true, false, not, ◌==◌, ◌&&◌, ◌||◌, cond, List, [], ◌∷◌, ◌++◌, map, filter, Option, Some, None, append_assoc, append-nil}
use Rattle.std.specs.Prelude.{nat_le, nat_lt, is_none, Result, Ok, Err}
use Rattle.ec_base.specs.Limits.{last_counter}
use Rattle.ec_base.specs.Tables.{Table, at, at_or, or_else, put}
use Rattle.ec_base.specs.declared.counter.Counter.TheVariants as counter
use Rattle.ec_base.specs.declared.ids.Age.{Age}
use Rattle.ec_base.specs.declared.ids.Hold.{Hold}
use Rattle.ec_volume.specs.declared.update.Update.{Update}
use Rattle.ec_sessions.specs.Limits.{ids_per_grant}
use Rattle.ec_sessions.specs.Slots.{greeting, run}
use Rattle.ec_sessions.specs.Windows.{has}
use Rattle.ec_sessions.specs.declared.slot.Greeting.TheVariants.{Greater}
use Rattle.ec_sessions.specs.declared.slot.Slot.{Slot}
use Rattle.ec_sessions.specs.OfTokens.Tokens.{Holder, token, conflicts, is_clear, granted, fits_back, lowered, first_clash, claimed as with_claim}
use Rattle.ec_sessions.specs.declared.tokens.token.Token.{Token}
use Rattle.ec_sessions.specs.OfRecall.Due.{recall_to, recall_of, told_of, actions, wants_after}
use Rattle.ec_sessions.specs.OfRecall.Wants.{noted}
use Rattle.ec_sessions.specs.declared.recall.want.Want.{Want}
use Rattle.ec_wire.specs.declared.msg.Msg.TheVariants.{Hello, Want as WantSent, Back, Flush, Room, Claim, Opened, Recall, Kept, Ids, NoRoom, Restarted}
use Rattle.ec_durable.specs.Durable.{step, slot, live, reserved, is_full}
use Rattle.ec_durable.specs.declared.record.Record.{Record}
use Rattle.ec_durable.specs.declared.record.Record.TheVariants as record_of
use Rattle.ec_durable.specs.declared.record.RecordFault.{RecordFault}
use Rattle.ec_durable.specs.declared.state.Durable.{Durable}
use Rattle.ec_protocol.specs.Server.{Serving, serving, serve, take, tell, grant, act_all, is_last_number, spend, with_server, in_session, epoch, all_claimed, has_claimed, tell_ended, may_write, commit, stay, finish, add_claimed, forget_old, tell_opened, greet, note, want, send_grant, back, flush, claim, resend_ids, ids_are_spent, send_ids, record_ids, clerk_of, room, with_ids}
use Rattle.ec_protocol.specs.declared.server.Server.{Server}
use Rattle.ec_machine_laws.specs.Serving.{with_wants, new_want, telling, recalls_of, granting, lowering, giving_ids, IsAtWork, IsKnown}
use Rattle.ec_machine_laws.proofs.Rows.{found-put}
use Rattle.ec_machine_laws.proofs.Wanting.{no-want, none-due, serve-granted, serve-recalled, all-news, no-news}
use Rattle.ec_base.proofs.Numbers.{same-self}

-- What is sent.

pub recalls-sent : (t : Serving) (w : Want) (gs : List Holder) → act_all (map (recall_of w) gs) t ≡ record t { sent = t.sent ++ recalls_of t w gs }
recalls-sent t w [] = ap (λ ss. record t { sent = ss }) (sym (append-nil t.sent))
recalls-sent t w (g ∷ gs) =
    recalls-sent (tell (clerk_of g.0 t) (Recall g.0 (epoch t) w.obj g.2 (recall_to w.hold)) t) w gs
    ∙ ap (λ ss. record t { sent = ss }) (append_assoc t.sent ((clerk_of g.0 t, Recall g.0 (epoch t) w.obj g.2 (recall_to w.hold)) ∷ []) (recalls_of t w gs))

-- a token of the number that stands, once it was drawn
abbrev sending : ℕ → ℕ → Hold → Serving → Serving
sending ss x h u = send_grant (clerk_of ss u) ss x h u.server.number (with_server (λ s. record s { tokens = granted ss x h u.server.number s.tokens }) u)

pub grant-sent : (t : Serving) (ss x : ℕ) (h : Hold) → is_last_number t ≡ false → grant ss x h t ≡ granting ss x h t
grant-sent t ss x h e = ap (λ b. sending ss x h (elim b as (λ z. Serving) [ true ↦ spend counter.Number t | false ↦ with_server (λ s. record s { number = s.number + 1 }) t ])) e

-- Sessions at work.

both-true : (a n b : Bool) → a ≡ true → b ≡ true → (a && (n || b)) ≡ true
both-true true true b e f = refl
both-true true false b e f = f
both-true false n b e f = e

module _ (c ss e : ℕ) (n : Bool) (f : Slot → Serving → Serving) (t : Serving) where
  abbrev in-epoch : Slot → Bool → Serving
  in-epoch sl b = elim b as (λ z. Serving) [ false ↦ tell c (Restarted ss (epoch t)) t | true ↦ f sl t ]

  abbrev in-open : Slot → Bool → Serving
  in-open sl b = elim b as (λ z. Serving) [ false ↦ tell_ended c sl t | true ↦ in-epoch sl ((e == epoch t) && (n || has_claimed ss t.server)) ]

  abbrev in-own : Slot → Bool → Serving
  in-own sl b = elim b as (λ z. Serving) [ false ↦ t | true ↦ in-open sl sl.is_open ]

  abbrev in-slot : Option Slot → Serving
  in-slot o = elim o as (λ z. Serving) [ None ↦ t | Some sl ↦ in-own sl (sl.session == ss) ]

  pub at-work : (sl : Slot) → IsAtWork c ss e sl t → in_session c ss e n f t ≡ f sl t
  at-work sl w =
      ap in-slot w.slot ∙ ap (in-own sl) w.session ∙ ap (in-open sl) w.is_open ∙ ap (in-epoch sl) (both-true (e == epoch t) n (has_claimed ss t.server) w.epoch w.claimed)

-- the server's wants are those that it has
wanting : (s : Server) (ws : List Want) → s.recalls ≡ ws → record s { recalls = ws } ≡ s
wanting s ws e = ap (λ rs. record s { recalls = rs }) (sym e)

-- Wants.

noted-want : (c ss x last : ℕ) (h : Hold) (t : Serving) (k : Option Token) → IsKnown k last → elim k as (λ z. Serving) [
  | None ↦ note ss x h t
  | Some k ↦ elim (nat_lt last k.number) as (λ z. Serving) [ true ↦ send_grant c ss x k.hold k.number t | false ↦ note ss x h t ]
] ≡ note ss x h t
noted-want c ss x last h t None q = refl
noted-want c ss x last h t (Some k) q = ap (λ b. elim b as (λ z. Serving) [ true ↦ send_grant c ss x k.hold k.number t | false ↦ note ss x h t ]) q

module _ (c ss e x last : ℕ) (h : Hold) (sl : Slot) (s : Server) (work : IsAtWork c ss e sl (serving s)) (none : s.recalls ≡ []) (all : all_claimed s ≡ true) (known : IsKnown (token s.tokens ss x) last) where
  abbrev wanted : Serving
  wanted = serving (record s { recalls = new_want ss x h ∷ [] })

  want-noted : take c (WantSent ss e x h last) s ≡ serve (serving (record s { recalls = new_want ss x h ∷ [] }))
  want-noted =
      ap serve (
      at-work c ss e false (λ sl. want c ss x h last) (serving s) sl work ∙ noted-want c ss x last h (serving s) (token s.tokens ss x) known
      ∙ ap (λ ws. serving (record s { recalls = noted ss x h ws })) none
      )

  pub want-granted : is_clear s.tokens ss x h ≡ true → take c (WantSent ss e x h last) s ≡ grant ss x h (serving s)
  want-granted clear = want-noted ∙ serve-granted wanted (new_want ss x h) all refl clear ∙ ap (λ v. grant ss x h (serving v)) (wanting s [] none)

  pub want-waits : is_clear s.tokens ss x h ≡ false → take c (WantSent ss e x h last) s
      ≡ record (serving s) { server = record s { recalls = telling (conflicts s.tokens ss x h) (new_want ss x h) ∷ [] }; sent = recalls_of (serving s) (new_want ss x h) (conflicts s.tokens ss x h) }
  want-waits clear =
      want-noted ∙ serve-recalled wanted (new_want ss x h) all refl clear
      ∙ ap (λ gs. act_all (map (recall_of (new_want ss x h)) gs) after) (all-news s.tokens (new_want ss x h) refl) ∙ recalls-sent after (new_want ss x h) (conflicts s.tokens ss x h)
    where
      after : Serving
      after = serving (record s { recalls = telling (conflicts s.tokens ss x h) (new_want ss x h) ∷ [] })

-- Tokens given back.

module _ (c ss e x n : ℕ) (to : Hold) (sl : Slot) (s : Server) (work : IsAtWork c ss e sl (serving s)) (fits : fits_back (token s.tokens ss x) n to ≡ true) where
  back-lowers : take c (Back ss e x n to) s ≡ serve (serving (lowering ss x to n s))
  back-lowers =
      ap serve (
      at-work c ss e false (λ sl. back ss x n to) (serving s) sl work
      ∙ ap (λ b. elim b as (λ z. Serving) [ true ↦ with_server (λ v. record v { tokens = lowered ss x to n v.tokens }) (serving s) | false ↦ serving s ]) fits
      )

  pub back-alone : s.recalls ≡ [] → take c (Back ss e x n to) s ≡ serving (lowering ss x to n s)
  back-alone none = back-lowers ∙ no-want (serving (lowering ss x to n s)) none

  module _ (w : Want) (one : s.recalls ≡ w ∷ []) (all : all_claimed s ≡ true) where
    pub back-waits : (gs : List Holder) (p : Holder → Bool) → w.told ≡ map told_of gs → conflicts (lowering ss x to n s).tokens w.session w.obj w.hold ≡ filter p gs → is_clear (lowering ss x to n s).tokens w.session w.obj w.hold ≡ false
        → take c (Back ss e x n to) s ≡ with_wants (telling (conflicts (lowering ss x to n s).tokens w.session w.obj w.hold) w ∷ []) (serving (lowering ss x to n s))
    back-waits gs p told part clear =
        back-lowers ∙ serve-recalled (serving (lowering ss x to n s)) w all one clear
        ∙ ap (λ hs. act_all (map (recall_of w) hs) (with_wants (telling (conflicts (lowering ss x to n s).tokens w.session w.obj w.hold) w ∷ []) (serving (lowering ss x to n s)))) (no-news (lowering ss x to n s).tokens w gs p told part)

    pub back-granted : is_clear (lowering ss x to n s).tokens w.session w.obj w.hold ≡ true → take c (Back ss e x n to) s ≡ grant w.session w.obj w.hold (with_wants [] (serving (lowering ss x to n s)))
    back-granted clear = back-lowers ∙ serve-granted (serving (lowering ss x to n s)) w all one clear

-- Records.

abbrev committed : Record → (Serving → Serving) → (Serving → Serving) → Serving → Result Durable RecordFault → Serving
committed r f g t o = elim o as (λ z. Serving) [ Ok d ↦ f (record t { server = record (t.server) { durable = d }; rec = Some r }) | Err fault ↦ g t ]

commits : (r : Record) (f g : Serving → Serving) (t : Serving) (d : Durable) → step r t.server.durable ≡ Ok d → commit r f g t ≡ f (record t { server = record (t.server) { durable = d }; rec = Some r })
commits r f g t d e = ap (committed r f g t) e

pub batch-committed : (c ss e b : ℕ) (ops : List (ℕ × Update)) (sl : Slot) (s : Server) (d : Durable) → IsAtWork c ss e sl (serving s) → has sl.window b ≡ false → may_write s.tokens ss ops ≡ true
    → step (record_of.Batch c ss b ops) s.durable ≡ Ok d → actions s.tokens s.recalls ≡ [] → wants_after s.tokens s.recalls ≡ s.recalls
    → take c (Flush ss e b ops) s ≡ record { server = record s { durable = d }; sent = (c, Kept ss d.epoch b) ∷ []; rec = Some (record_of.Batch c ss b ops); spent = None }
batch-committed c ss e b ops sl s d work new may ok due stays =
    ap serve (
    at-work c ss e false (flush c ss b ops) (serving s) sl work ∙ ap fresh new ∙ ap held may ∙ commits (record_of.Batch c ss b ops) (λ u. tell c (Kept ss (epoch u) b) u) (finish c sl) (serving s) d ok
    ) ∙ none-due _ due stays
  where
    held : Bool → Serving
    held m = elim m as (λ z. Serving) [ true ↦ commit (record_of.Batch c ss b ops) (λ u. tell c (Kept ss (epoch u) b) u) (finish c sl) (serving s) | false ↦ finish c sl (serving s) ]

    fresh : Bool → Serving
    fresh m = elim m as (λ z. Serving) [ true ↦ tell c (Kept ss (epoch (serving s)) b) (serving s) | false ↦ held (may_write s.tokens ss ops) ]

pub claimed-twice : (c ss e : ℕ) (list : List (ℕ × Hold)) (sl : Slot) (s : Server) → IsAtWork c ss e sl (serving s) → s.recalls ≡ [] → take c (Claim ss e list) s ≡ serving s
claimed-twice c ss e list sl s work none = ap serve (at-work c ss e true (claim c ss list) (serving s) sl work ∙ ap first work.claimed) ∙ no-want (serving s) none
  where
    first : Bool → Serving
    first m = elim m as (λ z. Serving) [
      | true ↦ serving s
      | false ↦ elim (is_none (first_clash s.tokens ss list)) as (λ z. Serving) [
        | true ↦ with_server (λ v. record v { tokens = with_claim ss list v.tokens; claimed = ss ∷ v.claimed }) (serving s)
        | false ↦ finish c sl (serving s)
      ]
    ]

-- Greetings.

old-gone : (old : Option ℕ) (s : Server) → s.recalls ≡ [] → (forget_old old s).recalls ≡ []
old-gone None s e = e
old-gone (Some ss) s e = ap (filter (λ w. not (w.session == ss))) e

pub greeting-opens : (c : ℕ) (age : Age) (s : Server) (d : Durable) (old : Option ℕ) → s.recalls ≡ [] → greeting (slot s.durable c) age ≡ Greater old → nat_le last_counter s.durable.next_session ≡ false
    → step (record_of.Open c age s.durable.next_session) s.durable ≡ Ok d → take c (Hello c age) s
    ≡ record {
      server = add_claimed s.durable.next_session (forget_old old (record s { durable = d }));
      sent = (c, Opened age s.durable.next_session d.epoch) ∷ [];
      rec = Some (record_of.Open c age s.durable.next_session);
      spent = None;
    }
greeting-opens c age s d old none greater counts ok =
    ap serve (
    ap (λ b. elim b as (λ z. Serving) [ true ↦ greet c age (greeting (slot s.durable c) age) (serving s) | false ↦ serving s ]) (same-self c)
    ∙ ap (λ g. greet c age g (serving s)) greater
    ∙ ap (λ b. elim b as (λ z. Serving) [ true ↦ spend counter.Session (serving s) | false ↦ commit (record_of.Open c age s.durable.next_session) (tell_opened c age s.durable.next_session old) stay (serving s) ]) counts
    ∙ commits (record_of.Open c age s.durable.next_session) (tell_opened c age s.durable.next_session old) stay (serving s) d ok
    ) ∙ no-want _ (old-gone old (record s { durable = d }) none)

-- Ids.

put-there : (k n : ℕ) (es : Table ℕ) → at_or 0 k (put k n es) ≡ n
put-there k n es = ap (or_else 0) (found-put k k n es ∙ ap (λ b. cond b (Some n) (at k es)) (same-self k))

module _ (c ss e got ask : ℕ) (sl : Slot) (s : Server) (work : IsAtWork c ss e sl (serving s)) (none : s.recalls ≡ []) (next : (got == sl.grants) ≡ true) where
  abbrev spent-or : Bool → Serving
  spent-or b = elim b as (λ z. Serving) [
    | true ↦ spend counter.Id (serving s)
    | false ↦ commit (record_of.Ids c ss got s.durable.next_id) (λ u. send_ids c ss got s.durable.next_id (record_ids ss s.durable.next_id u)) stay (serving s)
  ]

  abbrev full-or : Bool → Serving
  full-or b = elim b as (λ z. Serving) [
    | true ↦ tell c (NoRoom ss s.durable.epoch ask (live s.durable) (reserved s.durable)) (serving s)
    | false ↦ spent-or (ids_are_spent got (serving s))
  ]

  abbrev next-or : Bool → Serving
  next-or b = elim b as (λ z. Serving) [
    | true ↦ full-or (is_full s.durable)
    | false ↦ elim (got + 1 == sl.grants) as (λ z. Serving) [ true ↦ resend_ids c ss got sl.last_first (serving s) | false ↦ serving s ]
  ]

  room-asked : take c (Room ss e got ask) s ≡ serve (full-or (is_full s.durable))
  room-asked = ap serve (at-work c ss e false (room c ss got ask) (serving s) sl work ∙ ap next-or next)

  pub room-refused : is_full s.durable ≡ true → take c (Room ss e got ask) s ≡ record (serving s) { sent = (c, NoRoom ss s.durable.epoch ask (live s.durable) (reserved s.durable)) ∷ [] }
  room-refused full = room-asked ∙ ap (λ b. serve (full-or b)) full ∙ no-want _ none

  pub room-granted : (d : Durable) → is_full s.durable ≡ false → ids_are_spent got (serving s) ≡ false → is_last_number (serving s) ≡ false → step (record_of.Ids c ss got s.durable.next_id) s.durable ≡ Ok d
      → take c (Room ss e got ask) s ≡ record { server = giving_ids ss s.durable.next_id d s; sent = (c, Ids ss d.epoch got (s.number + 1) s.durable.next_id) ∷ []; rec = Some (record_of.Ids c ss got s.durable.next_id); spent = None }
  room-granted d full counts number ok =
      room-asked
      ∙ ap serve (
      ap full-or full ∙ ap spent-or counts ∙ commits (record_of.Ids c ss got s.durable.next_id) (λ u. send_ids c ss got s.durable.next_id (record_ids ss s.durable.next_id u)) stay (serving s) d ok
      ∙ ap (λ b. recorded-by (elim b as (λ z. Serving) [ true ↦ spend counter.Number given | false ↦ with_server (λ v. record v { number = v.number + 1 }) given ])) number
      ∙ ap (λ n. record { server = giving_ids ss s.durable.next_id d s; sent = (c, Ids ss d.epoch got n s.durable.next_id) ∷ []; rec = Some (record_of.Ids c ss got s.durable.next_id); spent = None }) (put-there ss (s.number + 1) s.recorded)
      ) ∙ no-want _ none
    where
      given : Serving
      given = record (serving s) { server = record s { durable = d }; rec = Some (record_of.Ids c ss got s.durable.next_id) }

      recorded-by : Serving → Serving
      recorded-by u = send_ids c ss got s.durable.next_id (with_server (λ v. record v { tokens = with_ids ss v.number (run s.durable.next_id ids_per_grant) v.tokens; recorded = put ss v.number v.recorded }) u)
