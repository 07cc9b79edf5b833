-- The next id never falls. No public clause cites this file.
use Rattle.std.proofs.Common.{◌≡◌, ◌≤◌, refl, sym, ap, subst, arith, ℕ, Bool, true, false, List, [], ◌∷◌, Option, None, Some, Result, Ok, Err}
use Rattle.std.specs.Prelude.{◌==◌, ◌+◌, OnOk, OnErr}
use Rattle.ec_sessions.specs.Slots as slots
use Rattle.ec_volume.specs.declared.update.Update.{Update}
use Rattle.ec_durable.specs.Durable.{step, slot, operations, op_fault, carried_out, marked, low, has_batch, is_beyond, is_session, is_next_session, is_next_grant, is_full, live, reserved, with_slot}
use Rattle.ec_durable.specs.StepLaws.{first_next, same_Ok}
use Rattle.ec_durable.specs.WellFormed.{IsInOrder}
use Rattle.ec_durable.specs.declared.state.Durable.{Durable}
use Rattle.ec_durable.specs.declared.record.Record.{Record}
use Rattle.ec_durable.specs.declared.record.Record.TheVariants.{Batch, Open, End, Ids, Epoch}
use Rattle.ec_durable.specs.declared.record.RecordFault.{RecordFault}
use Rattle.ec_durable.specs.declared.record.RecordFault.TheVariants.{NoSession, Done, Beyond, BadAge, BadNumber, NoRoom}

pub not_Ok : {f : RecordFault} {e : Durable} → ◌≡◌ {A = Result Durable RecordFault} (Err f) (Ok e) → ⊥
not_Ok p = absurd cc

operated : (c : ℕ) (ops : List (ℕ × Update)) (d e : Durable) → operations c ops d ≡ Ok e → e.next_id ≡ d.next_id
operated c [] d e is = ap (λ (x : Durable). x.next_id) (sym (same_Ok is))
operated c (op ∷ ops) d e is = go (op_fault c op.0 op.1 d) is (operated c ops (carried_out c op.1 d) e)
  where
    go : (f : Option RecordFault) → (elim f as (λ z. Result Durable RecordFault) [ Some fault ↦ Err fault | None ↦ operations c ops (carried_out c op.1 d) ]) ≡ Ok e
        → (operations c ops (carried_out c op.1 d) ≡ Ok e → e.next_id ≡ d.next_id) → e.next_id ≡ d.next_id
    go (Some fault) is rest = absurd (not_Ok is)
    go None is rest = rest is

pub next_rises : (r : Record) (d e : Durable) → step r d ≡ Ok e → d.next_id ≤ e.next_id
next_rises (Batch c n b ops) d e is = go (is_session n (slot d c)) (has_batch b (slot d c)) (is_beyond b (slot d c)) (operations c ops d) refl is
  where
    go : (x y z : Bool) (r : Result Durable RecordFault) → operations c ops d ≡ r
        → (elim x as (λ w. Result Durable RecordFault) [
          | false ↦ Err NoSession
          | true ↦ elim y as (λ w. Result Durable RecordFault) [
            | true ↦ Err (Done b)
            | false ↦ elim z as (λ w. Result Durable RecordFault) [
              | true ↦ Err (Beyond (low (slot d c)))
              | false ↦ elim r as (λ w. Result Durable RecordFault) [ Err fault ↦ Err fault | Ok m ↦ Ok (marked c b m) ]
            ]
          ]
        ]) ≡ Ok e → d.next_id ≤ e.next_id
    go false y z r p is = absurd (not_Ok is)
    go true true z r p is = absurd (not_Ok is)
    go true false true r p is = absurd (not_Ok is)
    go true false false (Err fault) p is = absurd (not_Ok is)
    go true false false (Ok m) p is = let same : m.next_id ≡ e.next_id = ap (λ (x : Durable). x.next_id) (same_Ok is) in omega (arith, same, operated c ops d m p)
next_rises (Open c age n) d e is = go (slots.is_greater (slot d c) age) (is_next_session n d) is
  where
    go : (x y : Bool) → (elim x as (λ w. Result Durable RecordFault) [ false ↦ Err BadAge | true ↦ elim y as (λ w. Result Durable RecordFault) [ false ↦ Err BadNumber | true ↦ Ok (with_slot c (Some (slots.new_slot age n)) (record d { next_session = n + 1 })) ] ]) ≡ Ok e → d.next_id ≤ e.next_id
    go false y is = absurd (not_Ok is)
    go true false is = absurd (not_Ok is)
    go true true is = let same : d.next_id ≡ e.next_id = ap (λ (x : Durable). x.next_id) (same_Ok is) in omega (arith, same)
next_rises (End c n) d e is = go (is_session n (slot d c)) is
  where
    go : (x : Bool) → (elim x as (λ w. Result Durable RecordFault) [ false ↦ Err NoSession | true ↦ Ok (with_slot c (slots.ended (slot d c)) d) ]) ≡ Ok e → d.next_id ≤ e.next_id
    go false is = absurd (not_Ok is)
    go true is = let same : d.next_id ≡ e.next_id = ap (λ (x : Durable). x.next_id) (same_Ok is) in omega (arith, same)
next_rises (Ids c n got first) d e is = go (is_session n (slot d c)) (is_next_grant c got first d) refl (is_full d) is
  where
    go : (x y : Bool) → is_next_grant c got first d ≡ y → (z : Bool)
        → (elim x as (λ w. Result Durable RecordFault) [
          | false ↦ Err NoSession
          | true ↦ elim y as (λ w. Result Durable RecordFault) [
            | false ↦ Err BadNumber
            | true ↦ elim z as (λ w. Result Durable RecordFault) [
              | true ↦ Err (NoRoom (live d) (reserved d))
              | false ↦ Ok (with_slot c (slots.granted first (slot d c)) (record d { next_id = first + 16 }))
            ]
          ]
        ]) ≡ Ok e → d.next_id ≤ e.next_id
    go false y p z is = absurd (not_Ok is)
    go true false p z is = absurd (not_Ok is)
    go true true p true is = absurd (not_Ok is)
    go true true p false is = let same : first + 16 ≡ e.next_id = ap (λ (x : Durable). x.next_id) (same_Ok is) in omega (arith, same, first_next c got first d p)
next_rises (Epoch n) d e is = go (n == d.epoch + 1) is
  where
    go : (x : Bool) → (elim x as (λ w. Result Durable RecordFault) [ false ↦ Err BadNumber | true ↦ Ok (record d { epoch = n }) ]) ≡ Ok e → d.next_id ≤ e.next_id
    go false is = absurd (not_Ok is)
    go true is = let same : d.next_id ≡ e.next_id = ap (λ (x : Durable). x.next_id) (same_Ok is) in omega (arith, same)

-- a step, or a refusal, keeps a state in order
pub stays_in_order : {U F : Type 0} (res : Result U F) (r : Record) (d e : Durable) → OnOk res (step r d ≡ Ok e) → OnErr res (e ≡ d) → (step r d ≡ Ok e → IsInOrder e) → IsInOrder d → 1 ≤ d.next_id → IsInOrder e × (1 ≤ e.next_id)
stays_in_order (Ok u) r d e is same keeps order next = (keeps is, omega (arith, next_rises r d e is))
stays_in_order (Err f) r d e is same keeps order next = (subst IsInOrder (sym same) order, subst (λ (x : Durable). 1 ≤ x.next_id) (sym same) next)
