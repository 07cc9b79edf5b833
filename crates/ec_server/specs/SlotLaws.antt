-- Which sessions stay open behind a record. No public clause cites this file.
use Rattle.std.proofs.Common.{◌≡◌, ◌≢◌, refl, ap, subst, ◌∙◌, arith, ℕ, zero, suc, Bool, true, false, cond, ◌&&◌, List, [], ◌∷◌, Option, None, Some, Result, Ok, Err}
use Rattle.std.specs.Prelude.{◌==◌, ◌+◌}
use Rattle.std.proofs.lemmas.Bool.{eqb-true}
use Rattle.ec_base.specs.declared.ids.Age.{Age}
use Rattle.ec_base.specs.Ages.{is_older}
use Rattle.ec_sessions.specs.Slots as slots
use Rattle.ec_sessions.specs.declared.slot.Slot.{Slot}
use Rattle.ec_sessions.specs.declared.slot.Greeting.TheVariants as greeted
use Rattle.ec_volume.specs.declared.update.Update.{Update}
use Rattle.ec_durable.specs.Durable.{step, slot, operations, op_fault, carried_out, made, spent, marked, low, has_batch, is_beyond, is_session, is_next_session, is_next_grant, is_full, live, reserved, with_slot}
use Rattle.ec_durable.specs.declared.state.Durable.{Durable}
use Rattle.ec_durable.specs.declared.record.Record.{Record}
use Rattle.ec_durable.specs.declared.record.Record.TheVariants.{Batch, Open, End, Ids, Epoch}
use Rattle.ec_durable.specs.declared.record.RecordFault.{RecordFault}
use Rattle.ec_durable.specs.declared.record.RecordFault.TheVariants.{NoSession, Done, Beyond, BadAge, BadNumber, NoRoom}
use Rattle.ec_admission.specs.Clerks.{IsOpenIn}
use Rattle.ec_durable.specs.StepLaws.{same_Ok}
use Rattle.ec_server.specs.KeptLaws.{not_Ok}

-- One clerk's slot changes.

others : (c k : ℕ) (new : Option Slot) (table : slots.Slots) (s : ℕ) → (is_session s (slots.slot_at table c) ≡ true → is_session s new ≡ true)
    → is_session s (slots.slot_at table k) ≡ true → is_session s (slots.slot_at (slots.with_slot c new table) k) ≡ true
others c k new [] s f p = p
others zero zero new (o ∷ table) s f p = f p
others zero (suc k) new (o ∷ table) s f p = p
others (suc c) zero new (o ∷ table) s f p = p
others (suc c) (suc k) new (o ∷ table) s f p = others c k new table s f p

pub moved : (c : ℕ) (new : Option Slot) (table : slots.Slots) (s : ℕ) → (is_session s (slots.slot_at table c) ≡ true → is_session s new ≡ true)
    → IsOpenIn table s → IsOpenIn (slots.with_slot c new table) s
moved c new table s f h = (h.0, others c h.0 new table s f h.1)

session_spent : (s : ℕ) (o : Option ℕ) (sl : Option Slot) → is_session s (spent o sl) ≡ is_session s sl
session_spent s None sl = refl
session_spent s (Some o) None = refl
session_spent s (Some o) (Some sl) = go sl.is_open
  where
    go : (b : Bool) → is_session s (Some (cond b (record sl { unspent = slots.without o sl.unspent }) sl)) ≡ is_session s (Some sl)
    go true = refl
    go false = refl

session_marked : (s b : ℕ) (sl : Option Slot) → is_session s (slots.batch_marked b sl) ≡ is_session s sl
session_marked s b None = refl
session_marked s b (Some sl) = refl

session_granted : (s first : ℕ) (sl : Option Slot) → is_session s (slots.granted first sl) ≡ is_session s sl
session_granted s first None = refl
session_granted s first (Some sl) = refl

-- Operations.

carried : (c : ℕ) (u : Update) (d : Durable) (s : ℕ) → IsOpenIn d.sessions s → IsOpenIn (carried_out c u d).sessions s
carried c u d s h = moved c (spent (made u) (slot d c)) d.sessions s (λ p. session_spent s (made u) (slot d c) ∙ p) h

operated : (c : ℕ) (ops : List (ℕ × Update)) (d e : Durable) (s : ℕ) → operations c ops d ≡ Ok e → IsOpenIn d.sessions s → IsOpenIn e.sessions s
operated c [] d e s is h = subst (λ (x : Durable). IsOpenIn x.sessions s) (same_Ok is) h
operated c (op ∷ ops) d e s is h = go (op_fault c op.0 op.1 d) is (λ later. operated c ops (carried_out c op.1 d) e s later (carried c op.1 d s h))
  where
    go : (f : Option RecordFault) → (elim f as (λ z. Result Durable RecordFault) [ Some fault ↦ Err fault | None ↦ operations c ops (carried_out c op.1 d) ]) ≡ Ok e
        → (operations c ops (carried_out c op.1 d) ≡ Ok e → IsOpenIn e.sessions s) → IsOpenIn e.sessions s
    go (Some fault) is rest = absurd (not_Ok is)
    go None is rest = rest is

-- Records.

-- the record ends nothing of this session
abbrev pub Spares : Record → Durable → ℕ → Type 0
Spares (Open c age n) d s = is_session s (slot d c) ≡ false
Spares (End c n) d s = is_session s (slot d c) ≡ false
Spares _ d s = Unit {0}

never : {A : Type 0} (b : Bool) → b ≡ false → b ≡ true → A
never true p q = absurd cc
never false p q = absurd cc

pub stays_open : (r : Record) (d e : Durable) (s : ℕ) → step r d ≡ Ok e → Spares r d s → IsOpenIn d.sessions s → IsOpenIn e.sessions s
stays_open (Batch c n b ops) d e s is spares h = go (is_session n (slot d c)) (has_batch b (slot d c)) (is_beyond b (slot d c)) (operations c ops d) refl is
  where
    go : (x y z : Bool) (r : Result Durable RecordFault) → operations c ops d ≡ r
        → (elim x as (λ w. Result Durable RecordFault) [
          | false ↦ Err NoSession
          | true ↦ elim y as (λ w. Result Durable RecordFault) [
            | true ↦ Err (Done b)
            | false ↦ elim z as (λ w. Result Durable RecordFault) [
              | true ↦ Err (Beyond (low (slot d c)))
              | false ↦ elim r as (λ w. Result Durable RecordFault) [ Err fault ↦ Err fault | Ok m ↦ Ok (marked c b m) ]
            ]
          ]
        ]) ≡ Ok e → IsOpenIn e.sessions s
    go false y z r p is = absurd (not_Ok is)
    go true true z r p is = absurd (not_Ok is)
    go true false true r p is = absurd (not_Ok is)
    go true false false (Err fault) p is = absurd (not_Ok is)
    go true false false (Ok m) p is =
        subst (λ (x : Durable). IsOpenIn x.sessions s) (same_Ok is) (moved c (slots.batch_marked b (slot m c)) m.sessions s (λ q. session_marked s b (slot m c) ∙ q) (operated c ops d m s p h))
stays_open (Open c age n) d e s is spares h = go (slots.is_greater (slot d c) age) (is_next_session n d) is
  where
    go : (x y : Bool) → (elim x as (λ w. Result Durable RecordFault) [ false ↦ Err BadAge | true ↦ elim y as (λ w. Result Durable RecordFault) [ false ↦ Err BadNumber | true ↦ Ok (with_slot c (Some (slots.new_slot age n)) (record d { next_session = n + 1 })) ] ]) ≡ Ok e → IsOpenIn e.sessions s
    go false y is = absurd (not_Ok is)
    go true false is = absurd (not_Ok is)
    go true true is = subst (λ (x : Durable). IsOpenIn x.sessions s) (same_Ok is) (moved c (Some (slots.new_slot age n)) d.sessions s (never _ spares) h)
stays_open (End c n) d e s is spares h = go (is_session n (slot d c)) is
  where
    go : (x : Bool) → (elim x as (λ w. Result Durable RecordFault) [ false ↦ Err NoSession | true ↦ Ok (with_slot c (slots.ended (slot d c)) d) ]) ≡ Ok e → IsOpenIn e.sessions s
    go false is = absurd (not_Ok is)
    go true is = subst (λ (x : Durable). IsOpenIn x.sessions s) (same_Ok is) (moved c (slots.ended (slot d c)) d.sessions s (never _ spares) h)
stays_open (Ids c n got first) d e s is spares h = go (is_session n (slot d c)) (is_next_grant c got first d) (is_full d) is
  where
    go : (x y z : Bool)
        → (elim x as (λ w. Result Durable RecordFault) [
          | false ↦ Err NoSession
          | true ↦ elim y as (λ w. Result Durable RecordFault) [
            | false ↦ Err BadNumber
            | true ↦ elim z as (λ w. Result Durable RecordFault) [
              | true ↦ Err (NoRoom (live d) (reserved d))
              | false ↦ Ok (with_slot c (slots.granted first (slot d c)) (record d { next_id = first + 16 }))
            ]
          ]
        ]) ≡ Ok e → IsOpenIn e.sessions s
    go false y z is = absurd (not_Ok is)
    go true false z is = absurd (not_Ok is)
    go true true true is = absurd (not_Ok is)
    go true true false is = subst (λ (x : Durable). IsOpenIn x.sessions s) (same_Ok is) (moved c (slots.granted first (slot d c)) d.sessions s (λ q. session_granted s first (slot d c) ∙ q) h)
stays_open (Epoch n) d e s is spares h = go (n == d.epoch + 1) is
  where
    go : (x : Bool) → (elim x as (λ w. Result Durable RecordFault) [ false ↦ Err BadNumber | true ↦ Ok (record d { epoch = n }) ]) ≡ Ok e → IsOpenIn e.sessions s
    go false is = absurd (not_Ok is)
    go true is = subst (λ (x : Durable). IsOpenIn x.sessions s) (same_Ok is) h

-- A slot is open with one session.
pub one_session : (s n : ℕ) (sl : Option Slot) → is_session n sl ≡ true → s ≢ n → is_session s sl ≡ false
one_session s n None p q = refl
one_session s n (Some sl) p q = grind (arith, p, q)

pub ends_one : (c n : ℕ) (d e : Durable) (s : ℕ) → step (End c n) d ≡ Ok e → s ≢ n → is_session s (slot d c) ≡ false
ends_one c n d e s is differ = go (is_session n (slot d c)) refl is
  where
    go : (x : Bool) → is_session n (slot d c) ≡ x → (elim x as (λ w. Result Durable RecordFault) [ false ↦ Err NoSession | true ↦ Ok (with_slot c (slots.ended (slot d c)) d) ]) ≡ Ok e → is_session s (slot d c) ≡ false
    go false p is = absurd (not_Ok is)
    go true p is = one_session s n (slot d c) p differ

-- A greater age ends the slot's open session.
pub greeted_ends : (sl : Option Slot) (age : Age) (old : Option ℕ) (s : ℕ) → slots.greeting sl age ≡ greeted.Greater old → is_session s sl ≡ true → old ≡ Some s
greeted_ends None age old s g p = absurd cc
greeted_ends (Some sl) age old s g p = go (is_older sl.age age) (is_older age sl.age) sl.is_open refl g p
  where
    go : (x y z : Bool) → sl.is_open ≡ z → cond x (greeted.Greater (cond z (Some sl.session) None)) (cond y (greeted.OldBoot sl.age) (cond z (greeted.Same sl.session) (greeted.Ended sl.session sl.window))) ≡ greeted.Greater old
        → (z && (sl.session == s)) ≡ true → old ≡ Some s
    go true y true o g p = same_old g ∙ ap (λ (n : ℕ). Some n) (eqb-true sl.session s p)
      where
        same_old : greeted.Greater (Some sl.session) ≡ greeted.Greater old → old ≡ Some sl.session
        same_old g = cc
    go true y false o g p = absurd cc
    go false true z o g p = absurd cc
    go false false true o g p = absurd cc
    go false false false o g p = absurd cc
