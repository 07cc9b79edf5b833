-- A state that takes a record doesn't have its sign, and the stepped one has it.
use Rattle.std.proofs.Common.{◌≡◌, ◌≤◌, ◌+◌, ◌&&◌, refl, sym, ◌∙◌, ap, subst, arith, ℕ, zero, suc, Bool, true, false, cond, List, [], ◌∷◌, Option, None, Some}
use Rattle.std.specs.Prelude.{◌==◌, Result, Ok, Err, not, nat_lt, nat_le}
use Rattle.std.proofs.lemmas.Bool.{eqb-true, or_parts, true≢false}
use Rattle.ec_base.specs.Limits.{last_counter}
use Rattle.ec_base.specs.declared.ids.Age.{Age}
use Rattle.ec_volume.specs.declared.update.Update.{Update}
use Rattle.ec_sessions.specs.Slots as slots
use Rattle.ec_sessions.specs.WindowLaws.{has-after_same}
use Rattle.ec_sessions.specs.Windows.{has, mark_answer, is_marked}
use Rattle.ec_sessions.specs.declared.slot.Slot.{Slot}
use Rattle.ec_sessions.specs.declared.window.Window.{Window}
use Rattle.ec_durable.specs.Durable.{step, slot, operations, op_fault, carried_out, made, spent, marked, low, has_batch, is_beyond, is_session, is_next_session, is_next_grant, is_full, live, reserved, with_slot}
use Rattle.ec_durable.specs.StepLaws.{first_next}
use Rattle.ec_durable.specs.declared.record.Record.{Record}
use Rattle.ec_durable.specs.declared.record.Record.TheVariants.{Batch, Open, End, Ids, Epoch}
use Rattle.ec_durable.specs.declared.record.RecordFault.{RecordFault}
use Rattle.ec_durable.specs.declared.record.RecordFault.TheVariants.{NoSession, Done, Beyond, BadAge, BadNumber, NoRoom}
use Rattle.ec_durable.specs.declared.state.Durable.{Durable}
use Rattle.ec_marking.specs.Signs.{sign_of, is_there}
use Rattle.ec_durable.proofs.Batches.{not_Ok, same_Ok}

-- one clerk's slot

abbrev window_of : Option Slot → Option Window
window_of None = None
window_of (Some sl) = Some sl.window

no_window : (w : Window) → window_of None ≡ Some w → ⊥
no_window w p = cc

some_window : (v w : Window) → ◌≡◌ {A = Option Window} (Some v) (Some w) → v ≡ w
some_window v w p = ap (λ (o : Option Window). elim o as (λ z. Window) [ Some x ↦ x | None ↦ v ]) p

window_set : (c : ℕ) (new : Option Slot) (table : slots.Slots) → window_of new ≡ window_of (slots.slot_at table c) → window_of (slots.slot_at (slots.with_slot c new table) c) ≡ window_of (slots.slot_at table c)
window_set c new [] h = refl
window_set zero new (s ∷ table) h = h
window_set (suc c) new (s ∷ table) h = window_set c new table h

window_spent : (o : Option ℕ) (sl : Option Slot) → window_of (spent o sl) ≡ window_of sl
window_spent None sl = refl
window_spent (Some o) None = refl
window_spent (Some o) (Some sl) = go sl.is_open
  where
    go : (b : Bool) → window_of (Some (cond b (record sl { unspent = slots.without o sl.unspent }) sl)) ≡ Some sl.window
    go true = refl
    go false = refl

-- operations leave the windows
window_operations : (c : ℕ) (ops : List (ℕ × Update)) (d e : Durable) → operations c ops d ≡ Ok e → window_of (slot e c) ≡ window_of (slot d c)
window_operations c [] d e is = ap (λ (x : Durable). window_of (slot x c)) (sym (same_Ok is))
window_operations c (op ∷ ops) d e is = go (op_fault c op.0 op.1 d) is (window_operations c ops (carried_out c op.1 d) e)
  where
    carried : window_of (slot (carried_out c op.1 d) c) ≡ window_of (slot d c)
    carried = window_set c (spent (made op.1) (slot d c)) d.sessions (window_spent (made op.1) (slot d c))

    go : (f : Option RecordFault) → (elim f as (λ z. Result Durable RecordFault) [ Some fault ↦ Err fault | None ↦ operations c ops (carried_out c op.1 d) ]) ≡ Ok e → (operations c ops (carried_out c op.1 d) ≡ Ok e → window_of (slot e c) ≡ window_of (slot (carried_out c op.1 d) c)) → window_of (slot e c) ≡ window_of (slot d c)
    go (Some fault) is rest = absurd (not_Ok is)
    go None is rest = rest is ∙ carried

-- batches

marks_free : (w : Window) (n : ℕ) → nat_lt (w.low + 8) n ≡ false → has w n ≡ false → is_marked (mark_answer w n) ≡ true
marks_free w n near free = rw (near, free) refl

marked_there : (c b : ℕ) (table : slots.Slots) (w : Window) → window_of (slots.slot_at table c) ≡ Some w → is_marked (mark_answer w b) ≡ true → has_batch b (slots.slot_at (slots.with_slot c (slots.batch_marked b (slots.slot_at table c)) table) c) ≡ true
marked_there c b [] w p m = absurd (no_window w p)
marked_there zero b (None ∷ table) w p m = absurd (no_window w p)
marked_there zero b (Some sl ∷ table) w p m = has-after_same sl.window b (ap (λ (v : Window). is_marked (mark_answer v b)) (some_window sl.window w p) ∙ m)
marked_there (suc c) b (s ∷ table) w p m = marked_there c b table w p m

batch_there : (c s b : ℕ) (sl : Option Slot) (m : Durable) → is_session s sl ≡ true → has_batch b sl ≡ false → is_beyond b sl ≡ false → window_of (slot m c) ≡ window_of sl → has_batch b (slot (marked c b m) c) ≡ true
batch_there c s b None m runs free near same = absurd (true≢false (sym runs))
batch_there c s b (Some sl) m runs free near same = marked_there c b m.sessions sl.window same (marks_free sl.window b (or_parts (nat_lt (sl.window.low + 8) b) (nat_le last_counter sl.window.low) near).0 free)

batch_sign : (c s b : ℕ) (ops : List (ℕ × Update)) (d e : Durable) → step (Batch c s b ops) d ≡ Ok e → (has_batch b (slot d c) ≡ false) × (has_batch b (slot e c) ≡ true)
batch_sign c s b ops d e is = go (is_session s (slot d c)) (has_batch b (slot d c)) (is_beyond b (slot d c)) (operations c ops d) refl refl refl refl is
  where
    go : (x y z : Bool) (r : Result Durable RecordFault) → is_session s (slot d c) ≡ x → has_batch b (slot d c) ≡ y → is_beyond b (slot d c) ≡ z → operations c ops d ≡ r
        → (elim x as (λ w. Result Durable RecordFault) [
          | false ↦ Err NoSession
          | true ↦ elim y as (λ w. Result Durable RecordFault) [
            | true ↦ Err (Done b)
            | false ↦ elim z as (λ w. Result Durable RecordFault) [
              | true ↦ Err (Beyond (low (slot d c)))
              | false ↦ elim r as (λ w. Result Durable RecordFault) [ Err fault ↦ Err fault | Ok m ↦ Ok (marked c b m) ]
            ]
          ]
        ]) ≡ Ok e → (has_batch b (slot d c) ≡ false) × (has_batch b (slot e c) ≡ true)
    go false y z r runs free near done is = absurd (not_Ok is)
    go true true z r runs free near done is = absurd (not_Ok is)
    go true false true r runs free near done is = absurd (not_Ok is)
    go true false false (Err fault) runs free near done is = absurd (not_Ok is)
    go true false false (Ok m) runs free near done is =
        let there : has_batch b (slot (marked c b m) c) ≡ true = batch_there c s b (slot d c) m runs free near (window_operations c ops d m done) in
        (free, subst (λ (x : Durable). has_batch b (slot x c) ≡ true) (same_Ok is) there)

-- numbers that come next

not_before : (n m : ℕ) → n ≡ m → nat_lt n m ≡ false
not_before n m e = grind (arith, e)

before_more : (n k : ℕ) → 1 ≤ k → nat_lt n (n + k) ≡ true
before_more n k h = grind (arith, h)

and_left : (x y : Bool) → (x && y) ≡ true → x ≡ true
and_left true y h = refl
and_left false y h = absurd (true≢false (sym h))

open_sign : (c : ℕ) (age : Age) (s : ℕ) (d e : Durable) → step (Open c age s) d ≡ Ok e → (nat_lt s d.next_session ≡ false) × (nat_lt s e.next_session ≡ true)
open_sign c age s d e is = go (slots.is_greater (slot d c) age) (is_next_session s d) refl is
  where
    go : (x y : Bool) → is_next_session s d ≡ y → (elim x as (λ w. Result Durable RecordFault) [ false ↦ Err BadAge | true ↦ elim y as (λ w. Result Durable RecordFault) [ false ↦ Err BadNumber | true ↦ Ok (with_slot c (Some (slots.new_slot age s)) (record d { next_session = s + 1 })) ] ]) ≡ Ok e → (nat_lt s d.next_session ≡ false) × (nat_lt s e.next_session ≡ true)
    go false y next is = absurd (not_Ok is)
    go true false next is = absurd (not_Ok is)
    go true true next is =
        let first : s ≡ d.next_session = eqb-true s d.next_session (and_left (s == d.next_session) (nat_lt s last_counter) next) in
        (not_before s d.next_session first, subst (λ (x : Durable). nat_lt s x.next_session ≡ true) (same_Ok is) (before_more s 1 (omega arith)))

-- the end of a session

ended_shut : (sl : Option Slot) → slots.is_open (slots.ended sl) ≡ false
ended_shut None = refl
ended_shut (Some sl) = go sl.is_open refl
  where
    go : (b : Bool) → sl.is_open ≡ b → slots.is_open (Some (cond b (record sl { is_open = false; unspent = [] }) sl)) ≡ false
    go true p = refl
    go false p = p

ended_there : (c : ℕ) (table : slots.Slots) → slots.is_open (slots.slot_at (slots.with_slot c (slots.ended (slots.slot_at table c)) table) c) ≡ false
ended_there c [] = refl
ended_there zero (s ∷ table) = ended_shut s
ended_there (suc c) (s ∷ table) = ended_there c table

session_open : (s : ℕ) (sl : Option Slot) → is_session s sl ≡ true → slots.is_open sl ≡ true
session_open s None h = absurd (true≢false (sym h))
session_open s (Some sl) h = and_left sl.is_open (sl.session == s) h

end_sign : (c s : ℕ) (d e : Durable) → step (End c s) d ≡ Ok e → (slots.is_open (slot d c) ≡ true) × (slots.is_open (slot e c) ≡ false)
end_sign c s d e is = go (is_session s (slot d c)) refl is
  where
    go : (x : Bool) → is_session s (slot d c) ≡ x → (elim x as (λ w. Result Durable RecordFault) [ false ↦ Err NoSession | true ↦ Ok (with_slot c (slots.ended (slot d c)) d) ]) ≡ Ok e → (slots.is_open (slot d c) ≡ true) × (slots.is_open (slot e c) ≡ false)
    go false runs is = absurd (not_Ok is)
    go true runs is = (session_open s (slot d c) runs, subst (λ (x : Durable). slots.is_open (slot x c) ≡ false) (same_Ok is) (ended_there c d.sessions))

-- a grant of ids, and an epoch

ids_sign : (c s got first : ℕ) (d e : Durable) → step (Ids c s got first) d ≡ Ok e → (nat_lt first d.next_id ≡ false) × (nat_lt first e.next_id ≡ true)
ids_sign c s got first d e is = go (is_session s (slot d c)) (is_next_grant c got first d) (is_full d) refl is
  where
    go : (x y z : Bool) → is_next_grant c got first d ≡ y
        → (elim x as (λ w. Result Durable RecordFault) [
          | false ↦ Err NoSession
          | true ↦ elim y as (λ w. Result Durable RecordFault) [
            | false ↦ Err BadNumber
            | true ↦ elim z as (λ w. Result Durable RecordFault) [
              | true ↦ Err (NoRoom (live d) (reserved d))
              | false ↦ Ok (with_slot c (slots.granted first (slot d c)) (record d { next_id = first + 16 }))
            ]
          ]
        ]) ≡ Ok e → (nat_lt first d.next_id ≡ false) × (nat_lt first e.next_id ≡ true)
    go false y z next is = absurd (not_Ok is)
    go true false z next is = absurd (not_Ok is)
    go true true true next is = absurd (not_Ok is)
    go true true false next is = (not_before first d.next_id (first_next c got first d next), subst (λ (x : Durable). nat_lt first x.next_id ≡ true) (same_Ok is) (before_more first 16 (omega arith)))

above_last : (n m : ℕ) → n ≡ m + 1 → nat_le n m ≡ false
above_last n m e = grind (arith, e)

not_above : (n : ℕ) → nat_le n n ≡ true
not_above n = grind arith

epoch_sign : (n : ℕ) (d e : Durable) → step (Epoch n) d ≡ Ok e → (nat_le n d.epoch ≡ false) × (nat_le n e.epoch ≡ true)
epoch_sign n d e is = go (n == d.epoch + 1) refl is
  where
    go : (x : Bool) → (n == d.epoch + 1) ≡ x → (elim x as (λ w. Result Durable RecordFault) [ false ↦ Err BadNumber | true ↦ Ok (record d { epoch = n }) ]) ≡ Ok e → (nat_le n d.epoch ≡ false) × (nat_le n e.epoch ≡ true)
    go false next is = absurd (not_Ok is)
    go true next is = (above_last n d.epoch (eqb-true n (d.epoch + 1) next), subst (λ (x : Durable). nat_le n x.epoch ≡ true) (same_Ok is) (not_above n))

pub signs_tell : (r : Record) (d e : Durable) → step r d ≡ Ok e → (is_there (sign_of r) d ≡ false) × (is_there (sign_of r) e ≡ true)
signs_tell (Batch c s b ops) d e is = batch_sign c s b ops d e is
signs_tell (Open c age s) d e is = open_sign c age s d e is
signs_tell (End c s) d e is = let ends = end_sign c s d e is in (ap not ends.0, ap not ends.1)
signs_tell (Ids c s got first) d e is = ids_sign c s got first d e is
signs_tell (Epoch n) d e is = epoch_sign n d e is
