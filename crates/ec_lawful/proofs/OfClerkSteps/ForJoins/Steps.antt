-- What a record that steps makes of the slots: only its clerk's changes.
use Rattle.std.proofs.Common.{◌≡◌, ◌≢◌, refl, sym, ap, ◌∙◌, ℕ, Bool, true, false, List, [], ◌∷◌, Option, None, Some}
use Rattle.std.specs.Prelude.{Err, Ok, Result, nat_le, nat_lt, ◌&&◌, ◌+◌, ◌==◌}
use Rattle.ec_base.specs.Limits.{last_counter}
use Rattle.ec_sessions.specs.Limits.{last_first_id, last_grants}
use Rattle.std.proofs.lemmas.Bool.{true≢false}
use Rattle.ec_base.specs.declared.ids.Age.{Age}
use Rattle.ec_volume.specs.declared.update.Update.{Update}
use Rattle.ec_sessions.specs.Slots as slots
use Rattle.ec_durable.specs.Durable.{applied, batch_step, carried_out, grants, has_batch, is_beyond, is_full, is_next_grant, is_next_session, is_session, live, low, made, marked, op_fault, operations, reserved, slot, spent, step, with_slot}
use Rattle.ec_durable.specs.declared.state.Durable.{Durable}
use Rattle.ec_sessions.specs.declared.slot.Slot.{Slot}
use Rattle.ec_durable.specs.declared.record.Record.{Record}
use Rattle.ec_durable.specs.declared.record.Record.TheVariants.{Batch, Open, End, Ids, Epoch}
use Rattle.ec_durable.specs.declared.record.RecordFault.{RecordFault}
use Rattle.ec_durable.specs.declared.record.RecordFault.TheVariants.{NoSession, Done, Beyond, BadAge, BadNumber, NoRoom}
use Rattle.ec_coherence.proofs.ForBatches.Carried.{slot-other}
use Rattle.ec_base.proofs.Numbers.{equal}

abbrev Res : Type 0
Res = Result Durable RecordFault

ok-is : (d e : Durable) → (let r : Res = Ok d in r ≡ Ok e) → d ≡ e
ok-is d e p = ap (λ r. elim r as (λ z. Durable) [ Ok x ↦ x | Err f ↦ d ]) p

not-ok : (f : RecordFault) (e : Durable) → (let r : Res = Err f in r ≡ Ok e) → ⊥
not-ok f e p = cc

-- a test that is passed, on either side
passed : (z : Bool) (f : RecordFault) (r : Res) (e : Durable) → elim z as (λ y. Res) [ false ↦ Err f | true ↦ r ] ≡ Ok e → (z ≡ true) × (r ≡ Ok e)
passed true f r e p = (refl, p)
passed false f r e p = absurd (not-ok f e p)

failed : (z : Bool) (f : RecordFault) (r : Res) (e : Durable) → elim z as (λ y. Res) [ true ↦ Err f | false ↦ r ] ≡ Ok e → (z ≡ false) × (r ≡ Ok e)
failed false f r e p = (refl, p)
failed true f r e p = absurd (not-ok f e p)

module _ (c j : ℕ) (n : j ≢ c) where
  ops-others : (ops : List (ℕ × Update)) (d e : Durable) → operations c ops d ≡ Ok e → slot e j ≡ slot d j
  ops-others [] d e p = ap (λ z. slot z j) (sym (ok-is d e p))
  ops-others (op ∷ ops) d e p = go (op_fault c op.0 op.1 d) p (λ e q. ops-others ops (carried_out c op.1 d) e q)
    where
      go : (o : Option RecordFault) → elim o as (λ z. Res) [ Some f ↦ Err f | None ↦ operations c ops (carried_out c op.1 d) ] ≡ Ok e → ((e : Durable) → operations c ops (carried_out c op.1 d) ≡ Ok e → slot e j ≡ slot (carried_out c op.1 d) j) → slot e j ≡ slot d j
      go (Some f) p r = absurd (not-ok f e p)
      go None p r = r e p ∙ slot-other (applied op.1 d) c j (spent (made op.1) (slot d c)) n

  pub batch-others : (s b : ℕ) (ops : List (ℕ × Update)) (d e : Durable) → step (Batch c s b ops) d ≡ Ok e → slot e j ≡ slot d j
  batch-others s b ops d e p =
      let q = passed (is_session s (slot d c)) NoSession (elim (has_batch b (slot d c)) as (λ y. Res) [ true ↦ Err (Done b) | false ↦ elim (is_beyond b (slot d c)) as (λ y. Res) [ true ↦ Err (Beyond (low (slot d c))) | false ↦ batch_step c b ops d ] ]) e p in
      let r = failed (has_batch b (slot d c)) (Done b) (elim (is_beyond b (slot d c)) as (λ y. Res) [ true ↦ Err (Beyond (low (slot d c))) | false ↦ batch_step c b ops d ]) e q.1 in
      let t = failed (is_beyond b (slot d c)) (Beyond (low (slot d c))) (batch_step c b ops d) e r.1 in
      go (operations c ops d) refl t.1
    where
      go : (x : Res) → operations c ops d ≡ x → elim x as (λ z. Res) [ Err f ↦ Err f | Ok y ↦ Ok (marked c b y) ] ≡ Ok e → slot e j ≡ slot d j
      go (Err f) o p = absurd (not-ok f e p)
      go (Ok y) o p = ap (λ z. slot z j) (sym (ok-is (marked c b y) e p)) ∙ slot-other y c j (slots.batch_marked b (slot y c)) n ∙ ops-others ops d y o

  pub open-others : (age : Age) (s : ℕ) (d e : Durable) → step (Open c age s) d ≡ Ok e → slot e j ≡ slot d j
  open-others age s d e p =
      let next : Durable = with_slot c (Some (slots.new_slot age s)) (record d { next_session = s + 1 }) in
      let q = passed (slots.is_greater (slot d c) age) BadAge (elim (is_next_session s d) as (λ y. Res) [ false ↦ Err BadNumber | true ↦ Ok next ]) e p in
      let r = passed (is_next_session s d) BadNumber (Ok next) e q.1 in
      ap (λ z. slot z j) (sym (ok-is next e r.1)) ∙ slot-other (record d { next_session = s + 1 }) c j (Some (slots.new_slot age s)) n

  pub end-others : (s : ℕ) (d e : Durable) → step (End c s) d ≡ Ok e → slot e j ≡ slot d j
  end-others s d e p =
      let next : Durable = with_slot c (slots.ended (slot d c)) d in
      let q = passed (is_session s (slot d c)) NoSession (Ok next) e p in
      ap (λ z. slot z j) (sym (ok-is next e q.1)) ∙ slot-other d c j (slots.ended (slot d c)) n

  pub ids-others : (s got first : ℕ) (d e : Durable) → step (Ids c s got first) d ≡ Ok e → slot e j ≡ slot d j
  ids-others s got first d e p =
      let next : Durable = with_slot c (slots.granted first (slot d c)) (record d { next_id = first + 16 }) in
      let q = passed (is_session s (slot d c)) NoSession (elim (is_next_grant c got first d) as (λ y. Res) [ false ↦ Err BadNumber | true ↦ elim (is_full d) as (λ y. Res) [ true ↦ Err (NoRoom (live d) (reserved d)) | false ↦ Ok next ] ]) e p in
      let r = passed (is_next_grant c got first d) BadNumber (elim (is_full d) as (λ y. Res) [ true ↦ Err (NoRoom (live d) (reserved d)) | false ↦ Ok next ]) e q.1 in
      let t = failed (is_full d) (NoRoom (live d) (reserved d)) (Ok next) e r.1 in
      ap (λ z. slot z j) (sym (ok-is next e t.1)) ∙ slot-other (record d { next_id = first + 16 }) c j (slots.granted first (slot d c)) n

-- who is given ids has an open session
pub ids-open : (c s got first : ℕ) (d e : Durable) → step (Ids c s got first) d ≡ Ok e → is_session s (slot d c) ≡ true
ids-open c s got first d e p = (passed (is_session s (slot d c)) NoSession (elim (is_next_grant c got first d) as (λ y. Res) [
  | false ↦ Err BadNumber
  | true ↦ elim (is_full d) as (λ y. Res) [
    | true ↦ Err (NoRoom (live d) (reserved d))
    | false ↦ Ok (with_slot c (slots.granted first (slot d c)) (record d { next_id = first + 16 }))
  ]
]) e p).0

pub end-own : (c s : ℕ) (d e : Durable) → step (End c s) d ≡ Ok e → e ≡ with_slot c (slots.ended (slot d c)) d
end-own c s d e p = sym (ok-is (with_slot c (slots.ended (slot d c)) d) e (passed (is_session s (slot d c)) NoSession (Ok (with_slot c (slots.ended (slot d c)) d)) e p).1)

-- who opens one greets with a greater age, and its session is the next
pub open-steps : (c : ℕ) (age : Age) (s : ℕ) (d e : Durable) → step (Open c age s) d ≡ Ok e → (slots.is_greater (slot d c) age ≡ true) × (s ≡ d.next_session)
open-steps c age s d e p =
    let next : Durable = with_slot c (Some (slots.new_slot age s)) (record d { next_session = s + 1 }) in
    let q = passed (slots.is_greater (slot d c) age) BadAge (elim (is_next_session s d) as (λ y. Res) [ false ↦ Err BadNumber | true ↦ Ok next ]) e p in
    (q.0, equal s d.next_session (first (s == d.next_session) (nat_lt s last_counter) (passed (is_next_session s d) BadNumber (Ok next) e q.1).0))
  where
    first : (a b : Bool) → (a && b) ≡ true → a ≡ true
    first true b e = refl
    first false b e = e

pub epoch-own : (n : ℕ) (d e : Durable) → step (Epoch n) d ≡ Ok e → e ≡ record d { epoch = n }
epoch-own n d e p = sym (ok-is (record d { epoch = n }) e (passed (n == d.epoch + 1) BadNumber (Ok (record d { epoch = n })) e p).1)

-- A field that no slot, image or number of a record changes stays.
module _ {A : Type 0} (f : Durable → A) (same_carried : (c : ℕ) (u : Update) (d : Durable) → f (carried_out c u d) ≡ f d) (same_slot : (c : ℕ) (o : Option Slot) (d : Durable) → f (with_slot c o d) ≡ f d) where
  ops-field : (c : ℕ) (ops : List (ℕ × Update)) (d e : Durable) → operations c ops d ≡ Ok e → f e ≡ f d
  ops-field c [] d e p = ap f (sym (ok-is d e p))
  ops-field c (op ∷ ops) d e p = go (op_fault c op.0 op.1 d) p (λ e q. ops-field c ops (carried_out c op.1 d) e q)
    where
      go : (o : Option RecordFault) → elim o as (λ z. Res) [ Some f ↦ Err f | None ↦ operations c ops (carried_out c op.1 d) ] ≡ Ok e → ((e : Durable) → operations c ops (carried_out c op.1 d) ≡ Ok e → f e ≡ f (carried_out c op.1 d)) → f e ≡ f d
      go (Some x) p r = absurd (not-ok x e p)
      go None p r = r e p ∙ same_carried c op.1 d

  pub batch-field : (c s b : ℕ) (ops : List (ℕ × Update)) (d e : Durable) → step (Batch c s b ops) d ≡ Ok e → f e ≡ f d
  batch-field c s b ops d e p =
      let q = passed (is_session s (slot d c)) NoSession (elim (has_batch b (slot d c)) as (λ y. Res) [ true ↦ Err (Done b) | false ↦ elim (is_beyond b (slot d c)) as (λ y. Res) [ true ↦ Err (Beyond (low (slot d c))) | false ↦ batch_step c b ops d ] ]) e p in
      let r = failed (has_batch b (slot d c)) (Done b) (elim (is_beyond b (slot d c)) as (λ y. Res) [ true ↦ Err (Beyond (low (slot d c))) | false ↦ batch_step c b ops d ]) e q.1 in
      let t = failed (is_beyond b (slot d c)) (Beyond (low (slot d c))) (batch_step c b ops d) e r.1 in
      go (operations c ops d) refl t.1
    where
      go : (x : Res) → operations c ops d ≡ x → elim x as (λ z. Res) [ Err f ↦ Err f | Ok y ↦ Ok (marked c b y) ] ≡ Ok e → f e ≡ f d
      go (Err x) o p = absurd (not-ok x e p)
      go (Ok y) o p = ap f (sym (ok-is (marked c b y) e p)) ∙ same_slot c (slots.batch_marked b (slot y c)) y ∙ ops-field c ops d y o

pub open-is : (c : ℕ) (age : Age) (s : ℕ) (d e : Durable) → step (Open c age s) d ≡ Ok e → e ≡ with_slot c (Some (slots.new_slot age s)) (record d { next_session = s + 1 })
open-is c age s d e p =
    let next : Durable = with_slot c (Some (slots.new_slot age s)) (record d { next_session = s + 1 }) in
    let q = passed (slots.is_greater (slot d c) age) BadAge (elim (is_next_session s d) as (λ y. Res) [ false ↦ Err BadNumber | true ↦ Ok next ]) e p in
    sym (ok-is next e (passed (is_next_session s d) BadNumber (Ok next) e q.1).1)

-- the first ids that are given are the next ones
pub ids-are : (c s got first : ℕ) (d e : Durable) → step (Ids c s got first) d ≡ Ok e → (first ≡ d.next_id) × (e ≡ with_slot c (slots.granted first (slot d c)) (record d { next_id = first + 16 }))
ids-are c s got first d e p =
    let next : Durable = with_slot c (slots.granted first (slot d c)) (record d { next_id = first + 16 }) in
    let q = passed (is_session s (slot d c)) NoSession (elim (is_next_grant c got first d) as (λ y. Res) [ false ↦ Err BadNumber | true ↦ elim (is_full d) as (λ y. Res) [ true ↦ Err (NoRoom (live d) (reserved d)) | false ↦ Ok next ] ]) e p in
    let r = passed (is_next_grant c got first d) BadNumber (elim (is_full d) as (λ y. Res) [ true ↦ Err (NoRoom (live d) (reserved d)) | false ↦ Ok next ]) e q.1 in
    let t = failed (is_full d) (NoRoom (live d) (reserved d)) (Ok next) e r.1 in
    (equal first d.next_id (third (got == grants (slot d c)) (nat_lt got last_grants) (first == d.next_id) (nat_le first last_first_id) r.0), sym (ok-is next e t.1))
  where
    third : (x y z w : Bool) → (x && y && z && w) ≡ true → z ≡ true
    third true true true w e = refl
    third true true false w e = e
    third true false z w e = absurd (true≢false (sym e))
    third false y z w e = absurd (true≢false (sym e))

-- how many objects there may be at most stays
pub step-most : (r : Record) (d e : Durable) → step r d ≡ Ok e → e.max_objects ≡ d.max_objects
step-most (Batch c s b ops) d e p = batch-field (λ x. x.max_objects) (λ c u d. refl) (λ c o d. refl) c s b ops d e p
step-most (Open c age s) d e p = ap (λ x. x.max_objects) (open-is c age s d e p)
step-most (End c s) d e p = ap (λ x. x.max_objects) (end-own c s d e p)
step-most (Ids c s got first) d e p = ap (λ x. x.max_objects) (ids-are c s got first d e p).1
step-most (Epoch n) d e p = ap (λ x. x.max_objects) (epoch-own n d e p)
