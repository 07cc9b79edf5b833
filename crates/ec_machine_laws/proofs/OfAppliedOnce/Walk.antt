-- A server's step, whatever the message: no two tokens conflict, no want is Free, and at most one record is committed, which is sound.
use Rattle.std.proofs.Common.{◌≡◌, refl, sym, ap, subst, ◌∙◌, arith, ◌+◌, ℕ, zero, suc, T, Bool, true, false, ◌==◌, ◌&&◌, ◌||◌, not, List, [], ◌∷◌, length, filter, Option, Some, None}
use Rattle.std.specs.Prelude.{nat_le, nat_lt, is_none, is_some, Result, Ok, Err}
use Rattle.std.specs.List.{list_all, list_any}
use Rattle.ec_base.specs.Limits.{last_counter}
use Rattle.ec_base.specs.Tables.{at, put, keys}
use Rattle.ec_base.specs.declared.counter.Counter.TheVariants as counter
use Rattle.ec_base.specs.declared.ids.Age.{Age}
use Rattle.ec_base.specs.declared.ids.Hold.{Hold}
use Rattle.ec_base.specs.declared.ids.Hold.TheVariants.{Free, Read, Write}
use Rattle.ec_base.specs.Holds.{is_free}
use Rattle.ec_order.specs.Order.{Issued}
use Rattle.ec_volume.specs.Update.{is_sound as is_sound_update}
use Rattle.ec_volume.specs.declared.update.Update.{Update}
use Rattle.ec_sessions.specs.Limits.{ids_per_grant}
use Rattle.ec_sessions.specs.Slots.{Slots, greeting, run}
use Rattle.ec_sessions.specs.Windows.{has}
use Rattle.ec_sessions.specs.declared.slot.Greeting.{Greeting}
use Rattle.ec_sessions.specs.declared.slot.Greeting.TheVariants as greeted
use Rattle.ec_sessions.specs.declared.slot.Slot.{Slot}
use Rattle.ec_sessions.specs.OfTokens.Tokens.{Tokens, claimed as with_claim, fits_back, first_clash, granted, is_clear, lowered, token}
use Rattle.ec_sessions.specs.OfTokens.SoundTokens.{IsSound}
use Rattle.ec_sessions.specs.OfTokens.Laws.{sound_claimed, sound_granted, sound_lowered, sound_none, sound_without}
use Rattle.ec_sessions.specs.declared.tokens.token.Token.{Token}
use Rattle.ec_sessions.specs.OfRecall.Due.{actions, wants_after}
use Rattle.ec_sessions.specs.OfRecall.Laws.{go_in}
use Rattle.ec_sessions.specs.OfRecall.Rounds.{GrantsGoIn}
use Rattle.ec_sessions.specs.OfRecall.Wants.{noted}
use Rattle.ec_sessions.specs.OfRecall.HeldWants.{NoneFree}
use Rattle.ec_sessions.specs.declared.recall.want.Action.{Action}
use Rattle.ec_sessions.specs.declared.recall.want.Action.TheVariants.{Grant, Recall}
use Rattle.ec_sessions.proofs.OfRecall.KeyLemmas.{held_noted, held_filter, held_stays}
use Rattle.ec_wire.specs.Messages.{is_held_mode, is_sound, rises}
use Rattle.ec_wire.specs.declared.msg.Msg.{Msg}
use Rattle.ec_wire.specs.declared.msg.Msg.TheVariants as msg
use Rattle.ec_durable.specs.Durable.{is_full, live, reserved, step, slot}
use Rattle.ec_durable.specs.Steps.{AreSound, AreSoundOps}
use Rattle.ec_durable.specs.declared.record.Record.{Record}
use Rattle.ec_durable.specs.declared.record.Record.TheVariants as record_of
use Rattle.ec_durable.specs.declared.record.RecordFault.{RecordFault}
use Rattle.ec_durable.specs.declared.state.Durable.{Durable}
use Rattle.ec_protocol.specs.Server.{Serving, act, act_all, all_claimed, back, claim, clerk_of, commit, end, end_open, epoch, finish, flush, forget, grant_ids, greet, has_claimed, hello, ids_are_spent, in_session, is_grant, is_last_number, may_write, new_server, next_number, note, open_new, record_ids, resend_ids, room, send_grant, send_ids}
use Rattle.ec_protocol.specs.Server.{serve, serve_rounds, serving, slot_of, spend, start, stay, take, taken, tell, tell_all, tell_ended, tell_opened, tell_start, want, with_ids, with_server}
use Rattle.ec_protocol.specs.declared.server.Server.{Server}
use Rattle.ec_base.proofs.Bools.{left, right}
use Rattle.ec_wire.proofs.MessagesLemmas.{not-free}

-- no two tokens conflict, and no want is Free
pub record Good (v : Server) : Type 0 where
  pub sound : IsSound v.tokens
  pub held : NoneFree v.recalls

-- the step's record, if any, is sound and leads from the one state to the other
abbrev pub Led : Option Record → Durable → Durable → Type 0
Led None d e = e ≡ d
Led (Some r) d e = (step r d ≡ Ok e) × AreSound r

-- a step under way that began at this state
abbrev pub Going : Durable → Serving → Type 0
Going d t = Good t.server × Led t.rec d t.server.durable

abbrev Keeps : Serving → Serving → Type 0
Keeps t u = t.rec ≡ None → Good t.server → Going t.server.durable u

begins : (t : Serving) → Keeps t t
begins t none g = (g, subst (λ (r : Option Record). Led r t.server.durable t.server.durable) (sym none) refl)

-- a record that is committed, or refused
abbrev behind : Record → Durable → Serving → Serving
behind r e t = record t { server = record (t.server) { durable = e }; rec = Some r }

either : (P : Serving → Type 0) (r : Record) (f g : Serving → Serving) (t : Serving) → ((e : Durable) → step r t.server.durable ≡ Ok e → P (f (behind r e t))) → P (g t) → P (commit r f g t)
either P r f g t after before = go (step r t.server.durable) refl
  where
    go : (o : Result Durable RecordFault) → step r t.server.durable ≡ o → P (elim o as (λ z. Serving) [ Ok d ↦ f (behind r d t) | Err fault ↦ g t ])
    go (Ok d) is = after d is
    go (Err fault) is = before

moved : (v : Server) (e : Durable) → Good v → Good (record v { durable = e })
moved v e g = record { sound = g.sound; held = g.held }

forgot : (ss : ℕ) (v : Server) → Good v → Good (forget ss v)
forgot ss v g = record { sound = sound_without v.tokens ss g.sound; held = held_filter (λ w. not (w.session == ss)) v.recalls g.held }

finish-keeps : (c : ℕ) (sl : Slot) (t : Serving) → Keeps t (finish c sl t)
finish-keeps c sl t none g =
    either (Going t.server.durable) (record_of.End c sl.session) (λ u. tell_ended c sl (with_server (forget sl.session) u)) stay t
    (λ e is. (forgot sl.session (record (t.server) { durable = e }) (moved t.server e g), (is, tt))) (begins t none g)

open-keeps : (c : ℕ) (age : Age) (old : Option ℕ) (t : Serving) → Keeps t (open_new c age old t)
open-keeps c age old t none g = go (nat_le last_counter t.server.durable.next_session)
  where
    next : ℕ
    next = t.server.durable.next_session

    opened : (o : Option ℕ) (e : Durable) → step (record_of.Open c age next) t.server.durable ≡ Ok e → Going t.server.durable (tell_opened c age next o (behind (record_of.Open c age next) e t))
    opened None e is = (record { sound = g.sound; held = g.held }, (is, tt))
    opened (Some ss) e is = let h = forgot ss t.server g in (record { sound = h.sound; held = h.held }, (is, tt))

    go : (b : Bool) → Going t.server.durable (elim b as (λ z. Serving) [ true ↦ spend counter.Session t | false ↦ commit (record_of.Open c age next) (tell_opened c age next old) stay t ])
    go true = begins t none g
    go false = either (Going t.server.durable) (record_of.Open c age next) (tell_opened c age next old) stay t (opened old) (begins t none g)

greet-keeps : (c : ℕ) (age : Age) (r : Greeting) (t : Serving) → Keeps t (greet c age r t)
greet-keeps c age (greeted.Greater old) t none g = open-keeps c age old t none g
greet-keeps c age (greeted.Same ss) t none g = begins t none g
greet-keeps c age (greeted.Ended ss w) t none g = begins t none g
greet-keeps c age (greeted.OldBoot greatest) t none g = begins t none g

hello-keeps : (c from : ℕ) (age : Age) (t : Serving) → Keeps t (hello c from age t)
hello-keeps c from age t none g = go (c == from)
  where
    go : (b : Bool) → Going t.server.durable (elim b as (λ z. Serving) [ true ↦ greet c age (greeting (slot_of c t) age) t | false ↦ t ])
    go true = greet-keeps c age (greeting (slot_of c t) age) t none g
    go false = begins t none g

-- a message of a session
session-keeps : (c ss e : ℕ) (n : Bool) (f : Slot → Serving → Serving) (t : Serving) → ((sl : Slot) → Keeps t (f sl t)) → Keeps t (in_session c ss e n f t)
session-keeps c ss e n f t fs none g = by-slot (slot_of c t)
  where
    d : Durable
    d = t.server.durable

    in-epoch : (sl : Slot) (b : Bool) → Going d (elim b as (λ z. Serving) [ false ↦ tell c (msg.Restarted ss (epoch t)) t | true ↦ f sl t ])
    in-epoch sl true = fs sl none g
    in-epoch sl false = begins t none g

    if-open : (sl : Slot) (b : Bool) → Going d (elim b as (λ z. Serving) [ false ↦ tell_ended c sl t | true ↦ elim ((e == epoch t) && (n || has_claimed ss t.server)) as (λ z. Serving) [ false ↦ tell c (msg.Restarted ss (epoch t)) t | true ↦ f sl t ] ])
    if-open sl true = in-epoch sl ((e == epoch t) && (n || has_claimed ss t.server))
    if-open sl false = begins t none g

    if-own : (sl : Slot) (b : Bool) → Going d (elim b as (λ z. Serving) [
      | false ↦ t
      | true ↦ elim sl.is_open as (λ z. Serving) [ false ↦ tell_ended c sl t | true ↦ elim ((e == epoch t) && (n || has_claimed ss t.server)) as (λ z. Serving) [ false ↦ tell c (msg.Restarted ss (epoch t)) t | true ↦ f sl t ] ]
    ])
    if-own sl true = if-open sl sl.is_open
    if-own sl false = begins t none g

    by-slot : (o : Option Slot) → Going d (elim o as (λ z. Serving) [
      | None ↦ t
      | Some sl ↦ elim (sl.session == ss) as (λ z. Serving) [
        | false ↦ t
        | true ↦ elim sl.is_open as (λ z. Serving) [ false ↦ tell_ended c sl t | true ↦ elim ((e == epoch t) && (n || has_claimed ss t.server)) as (λ z. Serving) [ false ↦ tell c (msg.Restarted ss (epoch t)) t | true ↦ f sl t ] ]
      ]
    ])
    by-slot None = begins t none g
    by-slot (Some sl) = if-own sl (sl.session == ss)

want-keeps : (c ss x : ℕ) (h : Hold) (last : ℕ) (t : Serving) → T (is_held_mode h) → Keeps t (want c ss x h last t)
want-keeps c ss x h last t held none g = go (token t.server.tokens ss x)
  where
    noting : Going t.server.durable (note ss x h t)
    noting = (record { sound = g.sound; held = held_noted ss x h t.server.recalls (not-free h held) g.held }, (begins t none g).1)

    later : (k : Token) (b : Bool) → Going t.server.durable (elim b as (λ z. Serving) [ true ↦ send_grant c ss x k.hold k.number t | false ↦ note ss x h t ])
    later k true = begins t none g
    later k false = noting

    go : (o : Option Token) → Going t.server.durable (elim o as (λ z. Serving) [ None ↦ note ss x h t | Some k ↦ elim (nat_lt last k.number) as (λ z. Serving) [ true ↦ send_grant c ss x k.hold k.number t | false ↦ note ss x h t ] ])
    go None = noting
    go (Some k) = later k (nat_lt last k.number)

back-keeps : (ss x n : ℕ) (h : Hold) (t : Serving) → Keeps t (back ss x n h t)
back-keeps ss x n h t none g = go (fits_back (token t.server.tokens ss x) n h) refl
  where
    go : (b : Bool) → fits_back (token t.server.tokens ss x) n h ≡ b → Going t.server.durable (elim b as (λ z. Serving) [ true ↦ with_server (λ s. record s { tokens = lowered ss x h n s.tokens }) t | false ↦ t ])
    go true fits = (record { sound = sound_lowered t.server.tokens ss g.sound x h n fits; held = g.held }, (begins t none g).1)
    go false fits = begins t none g

flush-keeps : (c ss b : ℕ) (ops : Issued) (sl : Slot) (t : Serving) → AreSoundOps ops → Keeps t (flush c ss b ops sl t)
flush-keeps c ss b ops sl t sound none g = go (has sl.window b)
  where
    may : (y : Bool) → Going t.server.durable (elim y as (λ z. Serving) [ true ↦ commit (record_of.Batch c ss b ops) (λ u. tell c (msg.Kept ss (epoch u) b) u) (finish c sl) t | false ↦ finish c sl t ])
    may true =
        either (Going t.server.durable) (record_of.Batch c ss b ops) (λ u. tell c (msg.Kept ss (epoch u) b) u) (finish c sl) t
        (λ e is. (moved t.server e g, (is, sound))) (finish-keeps c sl t none g)
    may false = finish-keeps c sl t none g

    go : (y : Bool) → Going t.server.durable (elim y as (λ z. Serving) [
      | true ↦ tell c (msg.Kept ss (epoch t) b) t
      | false ↦ elim (may_write t.server.tokens ss ops) as (λ z. Serving) [ true ↦ commit (record_of.Batch c ss b ops) (λ u. tell c (msg.Kept ss (epoch u) b) u) (finish c sl) t | false ↦ finish c sl t ]
    ])
    go true = begins t none g
    go false = may (may_write t.server.tokens ss ops)

-- A new number.

next-tokens : (t : Serving) → (next_number t).server.tokens ≡ t.server.tokens
next-tokens t = go (is_last_number t)
  where
    go : (b : Bool) → (elim b as (λ z. Serving) [ true ↦ spend counter.Number t | false ↦ with_server (λ s. record s { number = s.number + 1 }) t ]).server.tokens ≡ t.server.tokens
    go true = refl
    go false = refl

next-goes : (d : Durable) (t : Serving) → Going d t → Going d (next_number t)
next-goes d t g = go (is_last_number t)
  where
    go : (b : Bool) → Going d (elim b as (λ z. Serving) [ true ↦ spend counter.Number t | false ↦ with_server (λ s. record s { number = s.number + 1 }) t ])
    go true = g
    go false = (record { sound = g.0.sound; held = g.0.held }, g.1)

-- tokens on new ids go in where none conflicts
ids-sound : (ss n : ℕ) (xs : List ℕ) (ts : Tokens) → IsSound ts → IsSound (with_ids ss n xs ts)
ids-sound ss n [] ts h = h
ids-sound ss n (x ∷ xs) ts h = go (is_clear ts ss x Write) refl (λ us k. ids-sound ss n xs us k)
  where
    go : (b : Bool) → is_clear ts ss x Write ≡ b → ((us : Tokens) → IsSound us → IsSound (with_ids ss n xs us)) → IsSound (with_ids ss n xs (elim b as (λ z. Tokens) [ true ↦ granted ss x Write n ts | false ↦ ts ]))
    go true p rest = rest (granted ss x Write n ts) (sound_granted ts ss h x Write n refl p)
    go false p rest = rest ts h

recorded-goes : (d : Durable) (ss first : ℕ) (t : Serving) → Going d t → Going d (record_ids ss first t)
recorded-goes d ss first t g = by (next_number t) (next-goes d t g)
  where
    by : (u : Serving) → Going d u → Going d (with_server (λ s. record s { tokens = with_ids ss s.number (run first ids_per_grant) s.tokens; recorded = put ss s.number s.recorded }) u)
    by u h = (record { sound = ids-sound ss u.server.number (run first ids_per_grant) u.server.tokens h.0.sound; held = h.0.held }, h.1)

grant-ids-keeps : (c ss got ask : ℕ) (t : Serving) → Keeps t (grant_ids c ss got ask t)
grant-ids-keeps c ss got ask t none g = go (is_full t.server.durable)
  where
    d : Durable
    d = t.server.durable

    first : ℕ
    first = d.next_id

    given : (e : Durable) → step (record_of.Ids c ss got first) d ≡ Ok e → Going d (send_ids c ss got first (record_ids ss first (behind (record_of.Ids c ss got first) e t)))
    given e is = recorded-goes d ss first (behind (record_of.Ids c ss got first) e t) (moved t.server e g, (is, tt))

    spent : (b : Bool) → Going d (elim b as (λ z. Serving) [ true ↦ spend counter.Id t | false ↦ commit (record_of.Ids c ss got first) (λ u. send_ids c ss got first (record_ids ss first u)) stay t ])
    spent true = begins t none g
    spent false = either (Going d) (record_of.Ids c ss got first) (λ u. send_ids c ss got first (record_ids ss first u)) stay t given (begins t none g)

    go : (b : Bool) → Going d (elim b as (λ z. Serving) [
      | true ↦ tell c (msg.NoRoom ss (epoch t) ask (live t.server.durable) (reserved t.server.durable)) t
      | false ↦ elim (ids_are_spent got t) as (λ z. Serving) [ true ↦ spend counter.Id t | false ↦ commit (record_of.Ids c ss got first) (λ u. send_ids c ss got first (record_ids ss first u)) stay t ]
    ])
    go true = begins t none g
    go false = spent (ids_are_spent got t)

resend-goes : (d : Durable) (c ss got : ℕ) (o : Option ℕ) (t : Serving) → Going d t → Going d (resend_ids c ss got o t)
resend-goes d c ss got None t g = g
resend-goes d c ss got (Some first) t g = go (is_some (at ss t.server.recorded))
  where
    go : (b : Bool) → Going d (send_ids c ss got first (elim b as (λ z. Serving) [ true ↦ t | false ↦ record_ids ss first t ]))
    go true = g
    go false = recorded-goes d ss first t g

room-keeps : (c ss got ask : ℕ) (sl : Slot) (t : Serving) → Keeps t (room c ss got ask sl t)
room-keeps c ss got ask sl t none g = go (got == sl.grants)
  where
    before : (b : Bool) → Going t.server.durable (elim b as (λ z. Serving) [ true ↦ resend_ids c ss got sl.last_first t | false ↦ t ])
    before true = resend-goes t.server.durable c ss got sl.last_first t (begins t none g)
    before false = begins t none g

    go : (b : Bool) → Going t.server.durable (elim b as (λ z. Serving) [ true ↦ grant_ids c ss got ask t | false ↦ elim (got + 1 == sl.grants) as (λ z. Serving) [ true ↦ resend_ids c ss got sl.last_first t | false ↦ t ] ])
    go true = grant-ids-keeps c ss got ask t none g
    go false = before (got + 1 == sl.grants)

-- what is claimed is held
unfree-all : (list : List (ℕ × Hold)) → T (list_all (λ e. is_held_mode e.1) list) → list_all (λ e. not (is_free e.1)) list ≡ true
unfree-all [] h = refl
unfree-all (e ∷ es) h = go e.1 h (unfree-all es)
  where
    go : (m : Hold) → T (is_held_mode m && list_all (λ e. is_held_mode e.1) es) → (T (list_all (λ e. is_held_mode e.1) es) → list_all (λ e. not (is_free e.1)) es ≡ true) → (not (is_free m) && list_all (λ e. not (is_free e.1)) es) ≡ true
    go Free p rest = absurd p
    go Read p rest = rest p
    go Write p rest = rest p

claim-keeps : (c ss : ℕ) (list : List (ℕ × Hold)) (sl : Slot) (t : Serving) → T (list_all (λ e. is_held_mode e.1) list) → Keeps t (claim c ss list sl t)
claim-keeps c ss list sl t held none g = go (has_claimed ss t.server)
  where
    no-clash : {X : Type 0} (o : Option X) → is_none o ≡ true → o ≡ None
    no-clash None p = refl
    no-clash (Some x) p = absurd (apart p)
      where
        apart : false ≡ true → ⊥
        apart p = cc

    clear : (b : Bool) → is_none (first_clash t.server.tokens ss list) ≡ b
        → Going t.server.durable (elim b as (λ z. Serving) [ true ↦ with_server (λ s. record s { tokens = with_claim ss list s.tokens; claimed = ss ∷ s.claimed }) t | false ↦ finish c sl t ])
    clear true p = (record { sound = sound_claimed t.server.tokens ss g.sound list (unfree-all list held) (no-clash (first_clash t.server.tokens ss list) p); held = g.held }, (begins t none g).1)
    clear false p = finish-keeps c sl t none g

    go : (b : Bool) → Going t.server.durable (elim b as (λ z. Serving) [
      | true ↦ t
      | false ↦ elim (is_none (first_clash t.server.tokens ss list)) as (λ z. Serving) [ true ↦ with_server (λ s. record s { tokens = with_claim ss list s.tokens; claimed = ss ∷ s.claimed }) t | false ↦ finish c sl t ]
    ])
    go true = begins t none g
    go false = clear (is_none (first_clash t.server.tokens ss list)) refl

-- Messages.

pub sound-ops : (ops : List (ℕ × Update)) → T (list_all (λ op. is_sound_update op.1) ops) → AreSoundOps ops
sound-ops [] h = tt
sound-ops (op ∷ ops) h = (left (is_sound_update op.1) (list_all (λ op. is_sound_update op.1) ops) h, sound-ops ops (right (is_sound_update op.1) (list_all (λ op. is_sound_update op.1) ops) h))

flush-ops : (s e b : ℕ) (ops : List (ℕ × Update)) → T (is_sound (msg.Flush s e b ops)) → AreSoundOps ops
flush-ops s e b ops h = sound-ops ops (last (nat_le 1 (length ops)) (nat_le (length ops) 64) (rises (keys ops)) (list_all (λ op. is_sound_update op.1) ops) h)
  where
    last : (x y z w : Bool) → T (x && y && z && w) → T w
    last x y z w h = grind (arith, h)

taken-keeps : (c : ℕ) (m : Msg) (t : Serving) → T (is_sound m) → Keeps t (taken c m t)
taken-keeps c (msg.Hello from age) t h = hello-keeps c from age t
taken-keeps c (msg.Want ss e x k last) t h = session-keeps c ss e false (λ sl. want c ss x k last) t (λ sl. want-keeps c ss x k last t h)
taken-keeps c (msg.Back ss e x n k) t h = session-keeps c ss e false (λ sl. back ss x n k) t (λ sl. back-keeps ss x n k t)
taken-keeps c (msg.Flush ss e b ops) t h = session-keeps c ss e false (flush c ss b ops) t (λ sl. flush-keeps c ss b ops sl t (flush-ops ss e b ops h))
taken-keeps c (msg.Room ss e got ask) t h = session-keeps c ss e false (room c ss got ask) t (λ sl. room-keeps c ss got ask sl t)
taken-keeps c (msg.Claim ss e list) t h = session-keeps c ss e true (claim c ss list) t (λ sl. claim-keeps c ss list sl t (right (rises (keys list)) _ h))
taken-keeps c (msg.Bye ss e) t h = session-keeps c ss e true (finish c) t (λ sl. finish-keeps c sl t)
taken-keeps c (msg.Opened age s e) t h = begins t
taken-keeps c (msg.Grant s e x n k i) t h = begins t
taken-keeps c (msg.Recall s e x n k) t h = begins t
taken-keeps c (msg.Kept s e b) t h = begins t
taken-keeps c (msg.Ids s e got n first) t h = begins t
taken-keeps c (msg.NoRoom s e ask l r) t h = begins t
taken-keeps c (msg.Ended s low mask) t h = begins t
taken-keeps c (msg.Restarted s e) t h = begins t
taken-keeps c (msg.OldBoot age greatest) t h = begins t

-- Rounds of serving.

module _ (d : Durable) where
  acts-go : (due : List Action) (t : Serving) → GrantsGoIn t.server.tokens due → Going d t → Going d (act_all due t)
  acts-go [] t in' g = g
  acts-go (Recall ss x n h ∷ more) t in' g = acts-go more (act (Recall ss x n h) t) in' g
  acts-go (Grant ss x h ∷ more) t in' g = acts-go more (act (Grant ss x h) t)
      (by (next_number t) (next-tokens t))
      (granting (next_number t) (next-tokens t) (next-goes d t g))
    where
      by : (u : Serving) → u.server.tokens ≡ t.server.tokens → GrantsGoIn (granted ss x h u.server.number u.server.tokens) more
      by u p = subst (λ ts. GrantsGoIn (granted ss x h u.server.number ts) more) (sym p) (in'.2 u.server.number)

      granting : (u : Serving) → u.server.tokens ≡ t.server.tokens → Going d u → Going d (with_server (λ s. record s { tokens = granted ss x h u.server.number s.tokens }) u)
      granting u p k = (record { sound = sound_granted u.server.tokens ss k.0.sound x h u.server.number in'.0 (subst (λ ts. is_clear ts ss x h ≡ true) (sym p) in'.1); held = k.0.held }, k.1)

  rounds-go : (k : ℕ) (t : Serving) → Going d t → Going d (serve_rounds k t)
  rounds-go zero t g = g
  rounds-go (suc k) t g = go (list_any is_grant (actions t.server.tokens t.server.recalls)) (rounds-go k after done)
    where
      wanting : Serving
      wanting = with_server (λ s. record s { recalls = wants_after s.tokens s.recalls }) t

      after : Serving
      after = act_all (actions t.server.tokens t.server.recalls) wanting

      done : Going d after
      done = acts-go (actions t.server.tokens t.server.recalls) wanting (go_in t.server.tokens t.server.recalls g.0.sound g.0.held)
          (record { sound = g.0.sound; held = held_stays t.server.tokens [] t.server.recalls g.0.held }, g.1)

      go : (b : Bool) → Going d (serve_rounds k after) → Going d (elim b as (λ z. Serving) [ true ↦ serve_rounds k after | false ↦ after ])
      go true more = more
      go false more = done

  serve-goes : (t : Serving) → Going d t → Going d (serve t)
  serve-goes t g = go (all_claimed t.server)
    where
      go : (b : Bool) → Going d (elim b as (λ z. Serving) [ true ↦ serve_rounds (suc (length t.server.recalls)) t | false ↦ t ])
      go true = rounds-go (suc (length t.server.recalls)) t g
      go false = g

  -- what a clerk is told at a start
  tells-one : (c : ℕ) (t : Serving) (o : Option Slot) → Going d t → Going d (tell_start c t o)
  tells-one c t None g = g
  tells-one c t (Some sl) g = go sl.is_open
    where
      go : (b : Bool) → Going d (elim b as (λ z. Serving) [ true ↦ tell c (msg.Restarted sl.session (epoch t)) t | false ↦ tell_ended c sl t ])
      go true = g
      go false = g

  tells-all : (c : ℕ) (slots : Slots) (t : Serving) → Going d t → Going d (tell_all c slots t)
  tells-all c [] t g = g
  tells-all c (o ∷ slots) t g = tells-all (c + 1) slots (tell_start c t o) (tells-one c t o g)

-- Whole steps.

pub take-goes : (c : ℕ) (m : Msg) (v : Server) → T (is_sound m) → Good v → Going v.durable (take c m v)
take-goes c m v h g = serve-goes v.durable (taken c m (serving v)) (taken-keeps c m (serving v) h refl g)

pub end-goes : (c : ℕ) (v : Server) → Good v → Going v.durable (end c v)
end-goes c v g = serve-goes v.durable (end_open c (slot v.durable c) (serving v)) (ended (slot v.durable c))
  where
    ended : (o : Option Slot) → Going v.durable (end_open c o (serving v))
    ended None = begins (serving v) refl g
    ended (Some sl) = go sl.is_open
      where
        go : (b : Bool) → Going v.durable (elim b as (λ z. Serving) [ true ↦ finish c sl (serving v) | false ↦ serving v ])
        go true = finish-keeps c sl (serving v) refl g
        go false = begins (serving v) refl g

pub new-good : (d : Durable) → Good (new_server d)
new-good d = record { sound = sound_none; held = tt }

pub start-goes : (d : Durable) → Going d (start d)
start-goes d = go (nat_le last_counter d.epoch)
  where
    t : Serving
    t = serving (new_server d)

    go : (b : Bool) → Going d (elim b as (λ z. Serving) [ true ↦ spend counter.Epoch t | false ↦ commit (record_of.Epoch (d.epoch + 1)) (λ u. tell_all 0 u.server.durable.sessions u) stay t ])
    go true = begins t refl (new-good d)
    go false =
        either (Going d) (record_of.Epoch (d.epoch + 1)) (λ u. tell_all 0 u.server.durable.sessions u) stay t
        (λ e is. tells-all d 0 e.sessions (behind (record_of.Epoch (d.epoch + 1)) e t) (moved (new_server d) e (new-good d), (is, tt))) (begins t refl (new-good d))
