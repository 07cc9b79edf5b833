-- What records leave of the slots.
use Rattle.std.proofs.Common.{◌≡◌, ◌≢◌, refl, sym, ap, subst, ◌∙◌, arith, ◌<◌, ◌+◌, ℕ, zero, suc, T, Bool, true, false, ◌==◌, ◌&&◌, cond, List, [], ◌∷◌, length, Option, Some, None, Result, Ok, Err}
use Rattle.std.proofs.lemmas.List.{get_or-set_same, get_or-set_other, length-set}
use Rattle.ec_base.specs.declared.ids.Age.{Age}
use Rattle.ec_volume.specs.declared.update.Update.{Update}
use Rattle.ec_sessions.specs.Limits.{ids_per_grant}
use Rattle.ec_sessions.specs.Slots as slots
use Rattle.ec_sessions.specs.Windows.{after_mark}
use Rattle.ec_sessions.specs.declared.slot.Slot.{Slot}
use Rattle.ec_durable.specs.Durable.{step, slot, with_slot, operations, op_fault, carried_out, applied, made, spent, marked, low, has_batch, is_beyond, is_session, is_next_session, is_next_grant, is_full, live, reserved, batch_step}
use Rattle.ec_durable.specs.declared.record.Record.TheVariants.{Batch, Open, Ids}
use Rattle.ec_durable.specs.declared.record.RecordFault.{RecordFault}
use Rattle.ec_durable.specs.declared.record.RecordFault.TheVariants.{NoSession, Done, Beyond, BadAge, BadNumber, NoRoom}
use Rattle.ec_durable.specs.declared.state.Durable.{Durable}
use Rattle.ec_durable.proofs.Batches.{same_Ok, not_Ok}
use Rattle.ec_machine_laws.specs.Records.{IsRestOf}
use Rattle.ec_base.proofs.Numbers.{same-self}
use Rattle.ec_base.proofs.Options.{none-some}

-- Slots.

pub in-range : (ss : slots.Slots) (c : ℕ) (sl : Slot) → slots.slot_at ss c ≡ Some sl → c < length ss
in-range [] c sl e = none-some sl e
in-range (o ∷ ss) zero sl e = omega arith
in-range (o ∷ ss) (suc c) sl e = omega (arith, in-range ss c sl e)

slot-own : (c : ℕ) (o : Option Slot) (d : Durable) → c < length d.sessions → slot (with_slot c o d) c ≡ o
slot-own c o d l = get_or-set_same d.sessions c o None l

differ : (j c : ℕ) → (j == c) ≡ false → j ≢ c
differ j c e q = absurd (apart (sym (ap (λ z. z == c) q ∙ same-self c) ∙ e))
  where
    apart : true ≡ false → ⊥
    apart p = cc

-- one slot changes, and perhaps the volume and the next numbers
rest-with : (c : ℕ) (o : Option Slot) (d e : Durable) → e.sessions ≡ d.sessions → e.epoch ≡ d.epoch → IsRestOf c d (with_slot c o e)
rest-with c o d e same epoch = record {
  others = λ j q. get_or-set_other e.sessions c j o None (differ j c q) ∙ ap (λ ss. slots.slot_at ss j) same;
  count = length-set e.sessions c o ∙ ap length same;
  epoch = epoch;
}

rest-on : (c : ℕ) (d e f : Durable) → IsRestOf c d e → IsRestOf c e f → IsRestOf c d f
rest-on c d e f a b = record { others = λ j q. b.others j q ∙ a.others j q; count = b.count ∙ a.count; epoch = b.epoch ∙ a.epoch }

-- Operations.

record IsCarried (c : ℕ) (sl : Slot) (d e : Durable) : Type 0 where
  unspent : List ℕ
  own : slot e c ≡ Some (record sl { unspent = unspent })
  rest : IsRestOf c d e
  session : e.next_session ≡ d.next_session
  id : e.next_id ≡ d.next_id

spent-some : (m : Option ℕ) (sl : Slot) → (us : List ℕ) × (spent m (Some sl) ≡ Some (record sl { unspent = us }))
spent-some None sl = (sl.unspent, refl)
spent-some (Some o) sl = go sl.is_open
  where
    go : (b : Bool) → (us : List ℕ) × (Some (cond b (record sl { unspent = slots.without o sl.unspent }) sl) ≡ Some (record sl { unspent = us }))
    go true = (slots.without o sl.unspent, refl)
    go false = (sl.unspent, refl)

op-carried : (c : ℕ) (u : Update) (d : Durable) (sl : Slot) → slot d c ≡ Some sl → IsCarried c sl d (carried_out c u d)
op-carried c u d sl at =
    let s = spent-some (made u) sl in
    record {
      unspent = s.0;
      own = slot-own c (spent (made u) (slot d c)) (applied u d) (in-range d.sessions c sl at) ∙ ap (spent (made u)) at ∙ s.1;
      rest = rest-with c (spent (made u) (slot d c)) d (applied u d) refl refl;
      session = refl;
      id = refl;
    }

operations-carried : (c : ℕ) (ops : List (ℕ × Update)) (d e : Durable) (sl : Slot) → slot d c ≡ Some sl → operations c ops d ≡ Ok e → IsCarried c sl d e
operations-carried c [] d e sl at ok = subst (IsCarried c sl d) (same_Ok ok) (record { unspent = sl.unspent; own = at; rest = record { others = λ j q. refl; count = refl; epoch = refl }; session = refl; id = refl })
operations-carried c (op ∷ ops) d e sl at ok =
    let one = op-carried c op.1 d sl at in
    go (op_fault c op.0 op.1 d) ok one (λ p. operations-carried c ops (carried_out c op.1 d) e (record sl { unspent = one.unspent }) one.own p)
  where
    go : (f : Option RecordFault) → elim f as (λ z. Result Durable RecordFault) [ Some fault ↦ Err fault | None ↦ operations c ops (carried_out c op.1 d) ] ≡ Ok e → (one : IsCarried c sl d (carried_out c op.1 d))
        → (operations c ops (carried_out c op.1 d) ≡ Ok e → IsCarried c (record sl { unspent = one.unspent }) (carried_out c op.1 d) e) → IsCarried c sl d e
    go (Some fault) p one more = absurd (not_Ok p)
    go None p one more =
        let rest = more p in
        record { unspent = rest.unspent; own = rest.own; rest = rest-on c d (carried_out c op.1 d) e one.rest rest.rest; session = rest.session ∙ one.session; id = rest.id ∙ one.id }

-- Batches.

record IsMarked (c b : ℕ) (sl : Slot) (d e : Durable) : Type 0 where
  own : (unspent : List ℕ) × (slot e c ≡ Some (record sl { window = after_mark sl.window b; unspent = unspent }))
  rest : IsRestOf c d e
  session : e.next_session ≡ d.next_session
  id : e.next_id ≡ d.next_id

batch-marked : (c b : ℕ) (ops : List (ℕ × Update)) (d e : Durable) (sl : Slot) → slot d c ≡ Some sl → batch_step c b ops d ≡ Ok e → IsMarked c b sl d e
batch-marked c b ops d e sl at ok = go (operations c ops d) refl ok
  where
    go : (r : Result Durable RecordFault) → operations c ops d ≡ r → elim r as (λ z. Result Durable RecordFault) [ Err fault ↦ Err fault | Ok f ↦ Ok (marked c b f) ] ≡ Ok e → IsMarked c b sl d e
    go (Err fault) q p = absurd (not_Ok p)
    go (Ok f) q p =
        let k = operations-carried c ops d f sl at q in
        subst (IsMarked c b sl d) (same_Ok p) (record {
          own = (k.unspent, slot-own c (slots.batch_marked b (slot f c)) f (in-range f.sessions c (record sl { unspent = k.unspent }) k.own) ∙ ap (slots.batch_marked b) k.own);
          rest = rest-on c d f (marked c b f) k.rest (rest-with c (slots.batch_marked b (slot f c)) f f refl refl);
          session = k.session;
          id = k.id;
        })

-- a record that was taken passed its tests
pub passed-false : (t : Bool) (f : RecordFault) (r : Result Durable RecordFault) (e : Durable) → elim t as (λ z. Result Durable RecordFault) [ false ↦ Err f | true ↦ r ] ≡ Ok e → r ≡ Ok e
passed-false true f r e p = p
passed-false false f r e p = absurd (not_Ok p)

pub passed-true : (t : Bool) (f : RecordFault) (r : Result Durable RecordFault) (e : Durable) → elim t as (λ z. Result Durable RecordFault) [ true ↦ Err f | false ↦ r ] ≡ Ok e → r ≡ Ok e
passed-true false f r e p = p
passed-true true f r e p = absurd (not_Ok p)

stepped : (c s b : ℕ) (ops : List (ℕ × Update)) (d e : Durable) → step (Batch c s b ops) d ≡ Ok e → batch_step c b ops d ≡ Ok e
stepped c s b ops d e ok =
    passed-true (is_beyond b (slot d c)) (Beyond (low (slot d c))) (batch_step c b ops d) e
    (passed-true (has_batch b (slot d c)) (Done b) (elim (is_beyond b (slot d c)) as (λ z. Result Durable RecordFault) [ true ↦ Err (Beyond (low (slot d c))) | false ↦ batch_step c b ops d ]) e
    (passed-false (is_session s (slot d c)) NoSession _ e ok))

batch-of : (c s b : ℕ) (ops : List (ℕ × Update)) (d e : Durable) (sl : Slot) → slot d c ≡ Some sl → step (Batch c s b ops) d ≡ Ok e → IsMarked c b sl d e
batch-of c s b ops d e sl at ok = batch-marked c b ops d e sl at (stepped c s b ops d e ok)

pub batch-own : (c s b : ℕ) (ops : List (ℕ × Update)) (d e : Durable) (sl : Slot) → slot d c ≡ Some sl → step (Batch c s b ops) d ≡ Ok e → (unspent : List ℕ) × (slot e c ≡ Some (record sl { window = after_mark sl.window b; unspent = unspent }))
batch-own c s b ops d e sl at ok = (batch-of c s b ops d e sl at ok).own

pub batch-rest : (c s b : ℕ) (ops : List (ℕ × Update)) (d e : Durable) (sl : Slot) → slot d c ≡ Some sl → step (Batch c s b ops) d ≡ Ok e → IsRestOf c d e
batch-rest c s b ops d e sl at ok = (batch-of c s b ops d e sl at ok).rest

pub batch-session : (c s b : ℕ) (ops : List (ℕ × Update)) (d e : Durable) (sl : Slot) → slot d c ≡ Some sl → step (Batch c s b ops) d ≡ Ok e → e.next_session ≡ d.next_session
batch-session c s b ops d e sl at ok = (batch-of c s b ops d e sl at ok).session

pub batch-id : (c s b : ℕ) (ops : List (ℕ × Update)) (d e : Durable) (sl : Slot) → slot d c ≡ Some sl → step (Batch c s b ops) d ≡ Ok e → e.next_id ≡ d.next_id
batch-id c s b ops d e sl at ok = (batch-of c s b ops d e sl at ok).id

-- Ids.

abbrev ids-state : ℕ → ℕ → Durable → Durable
ids-state c first d = with_slot c (slots.granted first (slot d c)) (record d { next_id = first + ids_per_grant })

ids-of : (c s got first : ℕ) (d e : Durable) → step (Ids c s got first) d ≡ Ok e → ids-state c first d ≡ e
ids-of c s got first d e ok =
    same_Ok (
    passed-true (is_full d) (NoRoom (live d) (reserved d)) (Ok (ids-state c first d)) e
    (passed-false (is_next_grant c got first d) BadNumber (elim (is_full d) as (λ z. Result Durable RecordFault) [ true ↦ Err (NoRoom (live d) (reserved d)) | false ↦ Ok (ids-state c first d) ]) e
    (passed-false (is_session s (slot d c)) NoSession _ e ok))
    )

pub ids-own : (c s got first : ℕ) (d e : Durable) (sl : Slot) → slot d c ≡ Some sl → step (Ids c s got first) d ≡ Ok e → slot e c ≡ slots.granted first (Some sl)
ids-own c s got first d e sl at ok =
    ap (λ f. slot f c) (sym (ids-of c s got first d e ok)) ∙ slot-own c (slots.granted first (slot d c)) (record d { next_id = first + ids_per_grant }) (in-range d.sessions c sl at) ∙ ap (slots.granted first) at

pub ids-rest : (c s got first : ℕ) (d e : Durable) → step (Ids c s got first) d ≡ Ok e → IsRestOf c d e
ids-rest c s got first d e ok = subst (IsRestOf c d) (ids-of c s got first d e ok) (rest-with c (slots.granted first (slot d c)) d (record d { next_id = first + ids_per_grant }) refl refl)

pub ids-session : (c s got first : ℕ) (d e : Durable) → step (Ids c s got first) d ≡ Ok e → e.next_session ≡ d.next_session
ids-session c s got first d e ok = ap (λ f. f.next_session) (sym (ids-of c s got first d e ok))

pub ids-id : (c s got first : ℕ) (d e : Durable) → step (Ids c s got first) d ≡ Ok e → e.next_id ≡ first + ids_per_grant
ids-id c s got first d e ok = ap (λ f. f.next_id) (sym (ids-of c s got first d e ok))

-- Openings.

abbrev open-state : ℕ → Age → ℕ → Durable → Durable
open-state c age s d = with_slot c (Some (slots.new_slot age s)) (record d { next_session = s + 1 })

open-of : (c s : ℕ) (age : Age) (d e : Durable) → step (Open c age s) d ≡ Ok e → open-state c age s d ≡ e
open-of c s age d e ok = same_Ok (passed-false (is_next_session s d) BadNumber (Ok (open-state c age s d)) e (passed-false (slots.is_greater (slot d c) age) BadAge _ e ok))

pub open-own : (c s : ℕ) (age : Age) (d e : Durable) → c < length d.sessions → step (Open c age s) d ≡ Ok e → slot e c ≡ Some (slots.new_slot age s)
open-own c s age d e l ok = ap (λ f. slot f c) (sym (open-of c s age d e ok)) ∙ slot-own c (Some (slots.new_slot age s)) (record d { next_session = s + 1 }) l

pub open-rest : (c s : ℕ) (age : Age) (d e : Durable) → step (Open c age s) d ≡ Ok e → IsRestOf c d e
open-rest c s age d e ok = subst (IsRestOf c d) (open-of c s age d e ok) (rest-with c (Some (slots.new_slot age s)) d (record d { next_session = s + 1 }) refl refl)

pub open-session : (c s : ℕ) (age : Age) (d e : Durable) → step (Open c age s) d ≡ Ok e → e.next_session ≡ s + 1
open-session c s age d e ok = ap (λ f. f.next_session) (sym (open-of c s age d e ok))

pub open-id : (c s : ℕ) (age : Age) (d e : Durable) → step (Open c age s) d ≡ Ok e → e.next_id ≡ d.next_id
open-id c s age d e ok = ap (λ f. f.next_id) (sym (open-of c s age d e ok))
