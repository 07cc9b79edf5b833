-- What a record that steps makes of the boots of the clerks' last sessions: only one that opens a session changes its clerk's.
use Rattle.std.proofs.Common.{◌≡◌, refl, sym, ap, ◌∙◌, ℕ, zero, suc, Bool, true, false, cond, List, [], ◌∷◌, Option, None, Some}
use Rattle.std.specs.Prelude.{Err, Ok, Result}
use Rattle.ec_volume.specs.declared.update.Update.{Update}
use Rattle.ec_sessions.specs.Slots as slots
use Rattle.ec_sessions.specs.Slots.{Slots, slot_at}
use Rattle.ec_sessions.specs.declared.slot.Slot.{Slot}
use Rattle.ec_durable.specs.Durable.{batch_step, carried_out, has_batch, is_beyond, is_session, low, made, marked, op_fault, operations, slot, spent, step}
use Rattle.ec_durable.specs.declared.state.Durable.{Durable}
use Rattle.ec_durable.specs.declared.record.Record.TheVariants.{Batch, End, Ids}
use Rattle.ec_durable.specs.declared.record.RecordFault.{RecordFault}
use Rattle.ec_durable.specs.declared.record.RecordFault.TheVariants.{NoSession, Done, Beyond}
use Rattle.ec_protocol.specs.World.{session_boot}
use Rattle.ec_lawful.proofs.OfClerkSteps.ForJoins.Steps.{end-own, ids-are}
use Rattle.ec_lawful.specs.Asked.{seat}

abbrev Res : Type 0
Res = Result Durable RecordFault

ok-is : (d e : Durable) → (let r : Res = Ok d in r ≡ Ok e) → d ≡ e
ok-is d e p = ap (λ r. elim r as (λ z. Durable) [ Ok x ↦ x | Err f ↦ d ]) p

not-ok : (f : RecordFault) (e : Durable) → (let r : Res = Err f in r ≡ Ok e) → ⊥
not-ok f e p = cc

after-true : (z : Bool) (f : RecordFault) (r : Res) (e : Durable) → elim z as (λ y. Res) [ false ↦ Err f | true ↦ r ] ≡ Ok e → r ≡ Ok e
after-true true f r e p = p
after-true false f r e p = absurd (not-ok f e p)

after-false : (z : Bool) (f : RecordFault) (r : Res) (e : Durable) → elim z as (λ y. Res) [ true ↦ Err f | false ↦ r ] ≡ Ok e → r ≡ Ok e
after-false false f r e p = p
after-false true f r e p = absurd (not-ok f e p)

-- a slot that keeps the boot
set-seat : (xs : Slots) (c j : ℕ) (v : Option Slot) → session_boot v ≡ session_boot (slot_at xs c) → session_boot (slot_at (slots.with_slot c v xs) j) ≡ session_boot (slot_at xs j)
set-seat [] c j v e = refl
set-seat (o ∷ xs) zero zero v e = e
set-seat (o ∷ xs) zero (suc j) v e = refl
set-seat (o ∷ xs) (suc c) zero v e = refl
set-seat (o ∷ xs) (suc c) (suc j) v e = set-seat xs c j v e

ended-seat : (o : Option Slot) → session_boot (slots.ended o) ≡ session_boot o
ended-seat None = refl
ended-seat (Some sl) = go sl.is_open
  where
    go : (z : Bool) → session_boot (Some (cond z (record sl { is_open = false; unspent = [] }) sl)) ≡ (sl.age).boot
    go true = refl
    go false = refl

granted-seat : (first : ℕ) (o : Option Slot) → session_boot (slots.granted first o) ≡ session_boot o
granted-seat first None = refl
granted-seat first (Some sl) = refl

marked-seat : (n : ℕ) (o : Option Slot) → session_boot (slots.batch_marked n o) ≡ session_boot o
marked-seat n None = refl
marked-seat n (Some sl) = refl

spent-seat : (x : Option ℕ) (o : Option Slot) → session_boot (spent x o) ≡ session_boot o
spent-seat None o = refl
spent-seat (Some x) None = refl
spent-seat (Some x) (Some sl) = go sl.is_open
  where
    go : (z : Bool) → session_boot (Some (cond z (record sl { unspent = slots.without x sl.unspent }) sl)) ≡ (sl.age).boot
    go true = refl
    go false = refl

module _ (j : ℕ) where
  ops-seat : (c : ℕ) (ops : List (ℕ × Update)) (d e : Durable) → operations c ops d ≡ Ok e → seat j e ≡ seat j d
  ops-seat c [] d e p = ap (seat j) (sym (ok-is d e p))
  ops-seat c (op ∷ ops) d e p = go (op_fault c op.0 op.1 d) p (λ e q. ops-seat c ops (carried_out c op.1 d) e q)
    where
      go : (o : Option RecordFault) → elim o as (λ z. Res) [ Some f ↦ Err f | None ↦ operations c ops (carried_out c op.1 d) ] ≡ Ok e → ((e : Durable) → operations c ops (carried_out c op.1 d) ≡ Ok e → seat j e ≡ seat j (carried_out c op.1 d)) → seat j e ≡ seat j d
      go (Some f) p r = absurd (not-ok f e p)
      go None p r = r e p ∙ set-seat d.sessions c j (spent (made op.1) (slot d c)) (spent-seat (made op.1) (slot d c))

  pub batch-seat : (c s b : ℕ) (ops : List (ℕ × Update)) (d e : Durable) → step (Batch c s b ops) d ≡ Ok e → seat j e ≡ seat j d
  batch-seat c s b ops d e p =
      let q = after-true (is_session s (slot d c)) NoSession (elim (has_batch b (slot d c)) as (λ y. Res) [ true ↦ Err (Done b) | false ↦ elim (is_beyond b (slot d c)) as (λ y. Res) [ true ↦ Err (Beyond (low (slot d c))) | false ↦ batch_step c b ops d ] ]) e p in
      let r = after-false (has_batch b (slot d c)) (Done b) (elim (is_beyond b (slot d c)) as (λ y. Res) [ true ↦ Err (Beyond (low (slot d c))) | false ↦ batch_step c b ops d ]) e q in
      go (operations c ops d) refl (after-false (is_beyond b (slot d c)) (Beyond (low (slot d c))) (batch_step c b ops d) e r)
    where
      go : (x : Res) → operations c ops d ≡ x → elim x as (λ z. Res) [ Err f ↦ Err f | Ok y ↦ Ok (marked c b y) ] ≡ Ok e → seat j e ≡ seat j d
      go (Err f) o p = absurd (not-ok f e p)
      go (Ok y) o p = ap (seat j) (sym (ok-is (marked c b y) e p)) ∙ set-seat y.sessions c j (slots.batch_marked b (slot y c)) (marked-seat b (slot y c)) ∙ ops-seat c ops d y o

  pub end-seat : (c s : ℕ) (d e : Durable) → step (End c s) d ≡ Ok e → seat j e ≡ seat j d
  end-seat c s d e p = ap (seat j) (end-own c s d e p) ∙ set-seat d.sessions c j (slots.ended (slot d c)) (ended-seat (slot d c))

  pub ids-seat : (c s got first : ℕ) (d e : Durable) → step (Ids c s got first) d ≡ Ok e → seat j e ≡ seat j d
  ids-seat c s got first d e p = ap (seat j) (ids-are c s got first d e p).1 ∙ set-seat d.sessions c j (slots.granted first (slot d c)) (granted-seat first (slot d c))
