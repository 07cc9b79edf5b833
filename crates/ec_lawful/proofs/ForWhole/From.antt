-- The record that a server commits comes from the message that it takes.
use Rattle.std.proofs.Common.{◌≡◌, refl, sym, subst, ◌∙◌, ℕ, zero, suc, Bool, true, false, ◌==◌, ◌&&◌, ◌||◌, ◌+◌, List, [], ◌∷◌, length, Option, Some, None}
use Rattle.std.specs.Prelude.{Contains, is_some, is_none, nat_le, nat_lt, Result, Ok, Err}
use Rattle.std.specs.List.{list_any}
use Rattle.ec_base.specs.Limits.{last_counter}
use Rattle.ec_base.specs.Tables.{Table, at}
use Rattle.ec_base.specs.declared.counter.Counter.TheVariants as counter
use Rattle.ec_base.specs.declared.ids.Age.{Age}
use Rattle.ec_base.specs.declared.ids.Hold.{Hold}
use Rattle.ec_volume.specs.declared.update.Update.{Update}
use Rattle.ec_sessions.specs.OfRecall.Due.{actions, wants_after}
use Rattle.ec_sessions.specs.declared.recall.want.Action.{Action}
use Rattle.ec_sessions.specs.declared.recall.want.Action.TheVariants as action
use Rattle.ec_sessions.specs.Slots.{greeting}
use Rattle.ec_sessions.specs.Windows.{has}
use Rattle.ec_sessions.specs.declared.slot.Greeting.{Greeting}
use Rattle.ec_sessions.specs.declared.slot.Greeting.TheVariants as greeted_of
use Rattle.ec_sessions.specs.declared.slot.Slot.{Slot}
use Rattle.ec_sessions.specs.OfTokens.Tokens.{claimed as with_claim, first_clash, fits_back, lowered, token}
use Rattle.ec_sessions.specs.declared.tokens.token.Token.{Token}
use Rattle.ec_wire.specs.declared.msg.Msg.{Msg}
use Rattle.ec_wire.specs.declared.msg.Msg.TheVariants.{Hello, Want, Back, Flush, Room, Claim, Bye, Kept, NoRoom, Restarted}
use Rattle.ec_durable.specs.Durable.{is_full, live, reserved, slot, step}
use Rattle.ec_durable.specs.declared.state.Durable.{Durable}
use Rattle.ec_durable.specs.declared.record.Record.{Record}
use Rattle.ec_durable.specs.declared.record.Record.TheVariants as record_of
use Rattle.ec_durable.specs.declared.record.RecordFault.{RecordFault}
use Rattle.ec_protocol.specs.Server.{Serving, act, act_all, all_claimed, back, claim, commit, end, end_open, finish, first_spent, flush, forget, grant_ids, greet, has_claimed, hello, ids_are_spent, in_session, is_grant, is_last_number, may_write, next_number, note, open_new, record_ids, resend_ids, room, send_grant, send_ids, serve, serve_rounds, serving, slot_of, spend, stay, take, taken, tell, tell_ended, tell_opened, want, with_server}
use Rattle.ec_protocol.specs.declared.server.Server.{Server}
use Rattle.ec_coherence.specs.System.{System}
use Rattle.ec_lawful.specs.Doubts.{ComesFrom, ComesFromAny, DoubtAgrees}
use Rattle.ec_base.proofs.Numbers.{equal}

-- More messages.

pub from-more : (g h : System) → ((m : ℕ × Msg) → Contains g.pool m → Contains h.pool m) → (r : Record) → ComesFrom g r → ComesFrom h r
from-more g h f (record_of.Batch c s b ops) q = (q.0, f _ q.1)
from-more g h f (record_of.Open c age s) q = f _ q
from-more g h f (record_of.End c s) q = tt
from-more g h f (record_of.Ids c s got first) q = (q.0, q.1, f _ q.2)
from-more g h f (record_of.Epoch e) q = q

pub doubts-stay : (g h : System) → h.unshown ≡ g.unshown → ((m : ℕ × Msg) → Contains g.pool m → Contains h.pool m) → DoubtAgrees g → DoubtAgrees h
doubts-stay g h e f q = subst (ComesFromAny h) (sym e) (go g.unshown q)
  where
    go : (o : Option Record) → ComesFromAny g o → ComesFromAny h o
    go None q = tt
    go (Some r) q = from-more g h f r q

-- Serving commits nothing.

same-rec : (t : Serving) → (next_number t).rec ≡ t.rec
same-rec t = go (is_last_number t)
  where
    go : (b : Bool) → (elim b as (λ z. Serving) [ true ↦ record t { spent = first_spent t.spent counter.Number } | false ↦ with_server (λ s. record s { number = s.number + 1 }) t ]).rec ≡ t.rec
    go true = refl
    go false = refl

act-rec : (a : Action) (t : Serving) → (act a t).rec ≡ t.rec
act-rec (action.Grant s x h) t = same-rec t
act-rec (action.Recall s x n h) t = refl

all-rec : (due : List Action) (t : Serving) → (act_all due t).rec ≡ t.rec
all-rec [] t = refl
all-rec (a ∷ more) t = all-rec more (act a t) ∙ act-rec a t

rounds-rec : (k : ℕ) (t : Serving) → (serve_rounds k t).rec ≡ t.rec
rounds-rec zero t = refl
rounds-rec (suc k) t = go (list_any is_grant due) (λ f. rounds-rec k f)
  where
    due : List Action
    due = actions t.server.tokens t.server.recalls

    go : (b : Bool) → ((f : Serving) → (serve_rounds k f).rec ≡ f.rec)
        → (elim b as (λ z. Serving) [ true ↦ serve_rounds k (act_all due (with_server (λ s. record s { recalls = wants_after s.tokens s.recalls }) t)) | false ↦ act_all due (with_server (λ s. record s { recalls = wants_after s.tokens s.recalls }) t) ]).rec ≡ t.rec
    go true f = f _ ∙ all-rec due (with_server (λ s. record s { recalls = wants_after s.tokens s.recalls }) t)
    go false f = all-rec due (with_server (λ s. record s { recalls = wants_after s.tokens s.recalls }) t)

serve-rec : (t : Serving) → (serve t).rec ≡ t.rec
serve-rec t = go (all_claimed t.server)
  where
    go : (b : Bool) → (elim b as (λ z. Serving) [ true ↦ serve_rounds (suc (length t.server.recalls)) t | false ↦ t ]).rec ≡ t.rec
    go true = rounds-rec (suc (length t.server.recalls)) t
    go false = refl

module _ (g : System) where
  -- what may be committed
  abbrev May : Option Record → Type 0
  May o = ComesFromAny g o

  commits : (r : Record) (f h : Serving → Serving) (t : Serving) → ComesFrom g r → ((u : Serving) → (f u).rec ≡ u.rec) → May (h t).rec → May (commit r f h t).rec
  commits r f h t q e other = go (step r t.server.durable)
    where
      go : (z : Result Durable RecordFault) → May (elim z as (λ y. Serving) [ Ok d ↦ f (record t { server = record (t.server) { durable = d }; rec = Some r }) | Err fault ↦ h t ]).rec
      go (Ok d) = subst May (sym (e (record t { server = record (t.server) { durable = d }; rec = Some r }))) q
      go (Err fault) = other

  finishes : (c : ℕ) (sl : Slot) (t : Serving) → May t.rec → May (finish c sl t).rec
  finishes c sl t q = commits (record_of.End c sl.session) (λ u. tell_ended c sl (with_server (forget sl.session) u)) stay t tt (λ u. refl) q

  within : (c s e : ℕ) (free : Bool) (f : Slot → Serving → Serving) (t : Serving) → May t.rec → ((sl : Slot) → May (f sl t).rec) → May (in_session c s e free f t).rec
  within c s e free f t q h = go (slot_of c t)
    where
      open-one : (sl : Slot) (a b d : Bool) → May (elim a as (λ y. Serving) [ false ↦ t | true ↦ elim b as (λ y. Serving) [ false ↦ tell_ended c sl t | true ↦ elim d as (λ y. Serving) [ false ↦ tell c (Restarted s t.server.durable.epoch) t | true ↦ f sl t ] ] ]).rec
      open-one sl false b d = q
      open-one sl true false d = q
      open-one sl true true false = q
      open-one sl true true true = h sl

      go : (o : Option Slot) → May (elim o as (λ y. Serving) [
        | None ↦ t
        | Some sl ↦ elim (sl.session == s) as (λ y. Serving) [
          | false ↦ t
          | true ↦ elim sl.is_open as (λ y. Serving) [
            | false ↦ tell_ended c sl t
            | true ↦ elim ((e == t.server.durable.epoch) && (free || has_claimed s t.server)) as (λ y. Serving) [
              | false ↦ tell c (Restarted s t.server.durable.epoch) t
              | true ↦ f sl t
            ]
          ]
        ]
      ]).rec
      go None = q
      go (Some sl) = open-one sl (sl.session == s) sl.is_open ((e == t.server.durable.epoch) && (free || has_claimed s t.server))

  wants : (c s x l : ℕ) (h : Hold) (t : Serving) → May t.rec → May (want c s x h l t).rec
  wants c s x l h t q = go (token t.server.tokens s x)
    where
      by : (k : Token) (b : Bool) → May (elim b as (λ y. Serving) [ true ↦ send_grant c s x k.hold k.number t | false ↦ note s x h t ]).rec
      by k true = q
      by k false = q

      go : (o : Option Token) → May (elim o as (λ y. Serving) [ None ↦ note s x h t | Some k ↦ elim (nat_lt l k.number) as (λ y. Serving) [ true ↦ send_grant c s x k.hold k.number t | false ↦ note s x h t ] ]).rec
      go None = q
      go (Some k) = by k (nat_lt l k.number)

  backs : (s x n : ℕ) (h : Hold) (t : Serving) → May t.rec → May (back s x n h t).rec
  backs s x n h t q = go (fits_back (token t.server.tokens s x) n h)
    where
      go : (b : Bool) → May (elim b as (λ y. Serving) [ true ↦ with_server (λ z. record z { tokens = lowered s x h n z.tokens }) t | false ↦ t ]).rec
      go true = q
      go false = q

  flushes : (c s b : ℕ) (ops : List (ℕ × Update)) (sl : Slot) (t : Serving) → ComesFrom g (record_of.Batch c s b ops) → May t.rec → May (flush c s b ops sl t).rec
  flushes c s b ops sl t r q = go (has sl.window b) (may_write t.server.tokens s ops)
    where
      go : (x y : Bool) → May (elim x as (λ z. Serving) [
        | true ↦ tell c (Kept s t.server.durable.epoch b) t
        | false ↦ elim y as (λ z. Serving) [
          | true ↦ commit (record_of.Batch c s b ops) (λ u. tell c (Kept s u.server.durable.epoch b) u) (finish c sl) t
          | false ↦ finish c sl t
        ]
      ]).rec
      go true y = q
      go false true = commits (record_of.Batch c s b ops) (λ u. tell c (Kept s u.server.durable.epoch b) u) (finish c sl) t r (λ u. refl) (finishes c sl t q)
      go false false = finishes c sl t q

  recorded : (s first : ℕ) (t : Serving) → (record_ids s first t).rec ≡ t.rec
  recorded s first t = same-rec t

  grants : (c s got ask : ℕ) (t : Serving) → ((first : ℕ) → ComesFrom g (record_of.Ids c s got first)) → May t.rec → May (grant_ids c s got ask t).rec
  grants c s got ask t r q = go (is_full t.server.durable) (ids_are_spent got t)
    where
      go : (x y : Bool) → May (elim x as (λ z. Serving) [
        | true ↦ tell c (NoRoom s t.server.durable.epoch ask (live t.server.durable) (reserved t.server.durable)) t
        | false ↦ elim y as (λ z. Serving) [
          | true ↦ spend counter.Id t
          | false ↦ commit (record_of.Ids c s got t.server.durable.next_id) (λ u. send_ids c s got t.server.durable.next_id (record_ids s t.server.durable.next_id u)) stay t
        ]
      ]).rec
      go true y = q
      go false true = q
      go false false = commits (record_of.Ids c s got t.server.durable.next_id) (λ u. send_ids c s got t.server.durable.next_id (record_ids s t.server.durable.next_id u)) stay t (r t.server.durable.next_id) (λ u. recorded s t.server.durable.next_id u) q

  resends : (c s got : ℕ) (o : Option ℕ) (t : Serving) → May t.rec → May (resend_ids c s got o t).rec
  resends c s got None t q = q
  resends c s got (Some first) t q = go (is_some (at s t.server.recorded))
    where
      go : (b : Bool) → May (elim b as (λ z. Serving) [ true ↦ t | false ↦ record_ids s first t ]).rec
      go true = q
      go false = subst May (sym (recorded s first t)) q

  rooms : (c s got ask : ℕ) (sl : Slot) (t : Serving) → ((first : ℕ) → ComesFrom g (record_of.Ids c s got first)) → May t.rec → May (room c s got ask sl t).rec
  rooms c s got ask sl t r q = go (got == sl.grants) (got + 1 == sl.grants)
    where
      go : (x y : Bool) → May (elim x as (λ z. Serving) [ true ↦ grant_ids c s got ask t | false ↦ elim y as (λ z. Serving) [ true ↦ resend_ids c s got sl.last_first t | false ↦ t ] ]).rec
      go true y = grants c s got ask t r q
      go false true = resends c s got sl.last_first t q
      go false false = q

  claims : (c s : ℕ) (l : Table Hold) (sl : Slot) (t : Serving) → May t.rec → May (claim c s l sl t).rec
  claims c s l sl t q = go (has_claimed s t.server) (is_none (first_clash t.server.tokens s l))
    where
      go : (x y : Bool) → May (elim x as (λ z. Serving) [ true ↦ t | false ↦ elim y as (λ z. Serving) [ true ↦ with_server (λ z. record z { tokens = with_claim s l z.tokens; claimed = s ∷ z.claimed }) t | false ↦ finish c sl t ] ]).rec
      go true y = q
      go false true = q
      go false false = finishes c sl t q

  opens : (c : ℕ) (age : Age) (old : Option ℕ) (t : Serving) → Contains g.pool (c, Hello c age) → May t.rec → May (open_new c age old t).rec
  opens c age old t r q = go (nat_le last_counter t.server.durable.next_session)
    where
      go : (b : Bool) → May (elim b as (λ z. Serving) [ true ↦ spend counter.Session t | false ↦ commit (record_of.Open c age t.server.durable.next_session) (tell_opened c age t.server.durable.next_session old) stay t ]).rec
      go true = q
      go false = commits (record_of.Open c age t.server.durable.next_session) (tell_opened c age t.server.durable.next_session old) stay t r (λ u. refl) q

  greets : (c : ℕ) (age : Age) (w : Greeting) (t : Serving) → Contains g.pool (c, Hello c age) → May t.rec → May (greet c age w t).rec
  greets c age (greeted_of.Greater old) t r q = opens c age old t r q
  greets c age (greeted_of.Same s) t r q = q
  greets c age (greeted_of.Ended s w) t r q = q
  greets c age (greeted_of.OldBoot a) t r q = q

  hellos : (c from : ℕ) (age : Age) (t : Serving) → Contains g.pool (c, Hello from age) → May t.rec → May (hello c from age t).rec
  hellos c from age t r q = go (c == from) refl
    where
      go : (b : Bool) → (c == from) ≡ b → May (elim b as (λ z. Serving) [ true ↦ greet c age (greeting (slot_of c t) age) t | false ↦ t ]).rec
      go true e = greets c age (greeting (slot_of c t) age) t (subst (λ z. Contains g.pool (c, Hello z age)) (sym (equal c from e)) r) q
      go false e = q

  takes : (c : ℕ) (m : Msg) (t : Serving) → Contains g.pool (c, m) → May t.rec → May (taken c m t).rec
  takes c (Hello from age) t r q = hellos c from age t r q
  takes c (Want s e x h l) t r q = within c s e false (λ sl. want c s x h l) t q (λ sl. wants c s x l h t q)
  takes c (Back s e x n h) t r q = within c s e false (λ sl. back s x n h) t q (λ sl. backs s x n h t q)
  takes c (Flush s e b ops) t r q = within c s e false (flush c s b ops) t q (λ sl. flushes c s b ops sl t (e, r) q)
  takes c (Room s e got ask) t r q = within c s e false (room c s got ask) t q (λ sl. rooms c s got ask sl t (λ first. (e, ask, r)) q)
  takes c (Claim s e l) t r q = within c s e true (claim c s l) t q (λ sl. claims c s l sl t q)
  takes c (Bye s e) t r q = within c s e true (finish c) t q (λ sl. finishes c sl t q)
  takes c m t r q = q

  pub takes-from : (v : Server) (c : ℕ) (m : Msg) → Contains g.pool (c, m) → (r : Record) → (take c m v).rec ≡ Some r → ComesFrom g r
  takes-from v c m p r e = subst May (sym (serve-rec (taken c m (serving v))) ∙ e) (takes c m (serving v) p tt)

  pub ends-from : (v : Server) (c : ℕ) (r : Record) → (end c v).rec ≡ Some r → ComesFrom g r
  ends-from v c r e = subst May (sym (serve-rec (end_open c (slot v.durable c) (serving v))) ∙ e) (go (slot v.durable c))
    where
      by : (sl : Slot) (b : Bool) → May (elim b as (λ z. Serving) [ true ↦ finish c sl (serving v) | false ↦ serving v ]).rec
      by sl true = finishes c sl (serving v) tt
      by sl false = tt

      go : (o : Option Slot) → May (end_open c o (serving v)).rec
      go None = tt
      go (Some sl) = by sl sl.is_open
