-- A slot in which a session is open behind a record: it was open before, or the session is new.
use Rattle.std.proofs.Common.{◌≡◌, refl, sym, ap, subst, ◌∙◌, inl, inr, ◌⊎◌, arith, ◌<◌, ◌+◌, ℕ, zero, suc, T, Bool, true, false, cond, List, [], ◌∷◌, Option, Some, None}
use Rattle.std.specs.Prelude.{◌==◌, nat_lt, Result, Ok, Err}
use Rattle.ec_base.specs.Limits.{last_counter}
use Rattle.ec_volume.specs.declared.update.Update.{Update}
use Rattle.ec_sessions.specs.Limits.{ids_per_grant}
use Rattle.ec_sessions.specs.Slots as slots
use Rattle.ec_sessions.specs.Slots.{Slots, is_greater, new_slot, slot_at}
use Rattle.ec_sessions.specs.declared.slot.Slot.{Slot}
use Rattle.ec_durable.specs.Durable.{carried_out, batch_step, has_batch, is_beyond, is_full, is_next_grant, is_next_session, is_session, live, low, made, marked, op_fault, operations, reserved, slot, spent, step, with_slot}
use Rattle.ec_durable.specs.declared.state.Durable.{Durable}
use Rattle.ec_durable.specs.declared.record.Record.{Record}
use Rattle.ec_durable.specs.declared.record.Record.TheVariants.{Batch, Open, End, Ids, Epoch}
use Rattle.ec_durable.specs.declared.record.RecordFault.{RecordFault}
use Rattle.ec_durable.specs.declared.record.RecordFault.TheVariants as fault
use Rattle.ec_coherence.proofs.ForServer.Tables.{same_some}
use Rattle.ec_base.proofs.Bools.{left as and_first, is-true, holds-true as holds}
use Rattle.ec_base.proofs.Numbers.{equal}
use Rattle.ec_lawful.proofs.ForWhole.Founds.{not-ok, same-ok}

-- each open session of the second slot was open in the first one
abbrev WasOpen : Option Slot → Option Slot → Type 0
WasOpen o p = (sm : Slot) → p ≡ Some sm → T sm.is_open → (sl : Slot) × (o ≡ Some sl) × T sl.is_open × (sl.session ≡ sm.session)

was-same : (o : Option Slot) → WasOpen o o
was-same o sm q t = (sm, q, t, refl)

was-then : (o p r : Option Slot) → WasOpen o p → WasOpen p r → WasOpen o r
was-then o p r f g sm q t =
    let a = g sm q t in
    let b = f a.0 a.1 a.2 in
    (b.0, b.1, b.2, b.3 ∙ a.3)

-- One slot changes.

set-one : (xs : Slots) (c j : ℕ) (v : Option Slot) → (slot_at (slots.with_slot c v xs) j ≡ slot_at xs j) ⊎ ((j ≡ c) × (slot_at (slots.with_slot c v xs) j ≡ v))
set-one [] zero j v = inl refl
set-one [] (suc c) j v = inl refl
set-one (x ∷ xs) zero zero v = inr (refl, refl)
set-one (x ∷ xs) zero (suc j) v = inl refl
set-one (x ∷ xs) (suc c) zero v = inl refl
set-one (x ∷ xs) (suc c) (suc j) v = elim (set-one xs c j v) [ inl e ↦ inl e | inr e ↦ inr (ap suc e.0, e.1) ]

was-set : (xs : Slots) (c : ℕ) (v : Option Slot) → WasOpen (slot_at xs c) v → (j : ℕ) → WasOpen (slot_at xs j) (slot_at (slots.with_slot c v xs) j)
was-set xs c v f j sm q t = elim (set-one xs c j v) [
  | inl e ↦ (sm, sym e ∙ q, t, refl)
  | inr e ↦ let a = f sm (sym e.1 ∙ q) t in (a.0, ap (slot_at xs) e.0 ∙ a.1, a.2, a.3)
]

-- A slot that may be changed where it's open.
was-if : (sl sn : Slot) → sn.session ≡ sl.session → WasOpen (Some sl) (Some (cond sl.is_open sn sl))
was-if sl sn e sm q t = go sl.is_open refl q
  where
    go : (b : Bool) → sl.is_open ≡ b → Some (cond b sn sl) ≡ Some sm → (so : Slot) × (Some sl ≡ Some so) × T so.is_open × (so.session ≡ sm.session)
    go true o p = (sl, refl, holds sl.is_open o, sym e ∙ ap (λ z. z.session) (same_some p))
    go false o p = (sl, refl, subst (λ z. T z.is_open) (sym (same_some p)) t, ap (λ z. z.session) (same_some p))

was-spent : (m : Option ℕ) (o : Option Slot) → WasOpen o (spent m o)
was-spent None o = was-same o
was-spent (Some x) None = was-same None
was-spent (Some x) (Some sl) = was-if sl (record sl { unspent = slots.without x sl.unspent }) refl

was-ended : (o : Option Slot) → WasOpen o (slots.ended o)
was-ended None = was-same None
was-ended (Some sl) = was-if sl (record sl { is_open = false; unspent = [] }) refl

was-marked : (b : ℕ) (o : Option Slot) → WasOpen o (slots.batch_marked b o)
was-marked b None = was-same None
was-marked b (Some sl) = λ sm q t. (sl, refl, subst (λ z. T z.is_open) (sym (same_some q)) t, ap (λ z. z.session) (same_some q))

was-granted : (first : ℕ) (o : Option Slot) → WasOpen o (slots.granted first o)
was-granted first None = was-same None
was-granted first (Some sl) = λ sm q t. (sl, refl, subst (λ z. T z.is_open) (sym (same_some q)) t, ap (λ z. z.session) (same_some q))

-- Records.

was-operations : (c : ℕ) (ops : List (ℕ × Update)) (d e : Durable) → operations c ops d ≡ Ok e → (j : ℕ) → WasOpen (slot d j) (slot e j)
was-operations c [] d e q j = subst (λ z. WasOpen (slot d j) (slot z j)) (same-ok q) (was-same (slot d j))
was-operations c (op ∷ ops) d e q j = go (op_fault c op.0 op.1 d) (λ p. was-operations c ops (carried_out c op.1 d) e p j) q
  where
    go : (o : Option RecordFault) → (operations c ops (carried_out c op.1 d) ≡ Ok e → WasOpen (slot (carried_out c op.1 d) j) (slot e j))
        → elim o as (λ z. Result Durable RecordFault) [ Some f ↦ Err f | None ↦ operations c ops (carried_out c op.1 d) ] ≡ Ok e → WasOpen (slot d j) (slot e j)
    go (Some f) more p = not-ok p
    go None more p = was-then (slot d j) (slot (carried_out c op.1 d) j) (slot e j) (was-set d.sessions c (spent (made op.1) (slot d c)) (was-spent (made op.1) (slot d c)) j) (more p)

was-batch : (c b : ℕ) (ops : List (ℕ × Update)) (d e : Durable) → batch_step c b ops d ≡ Ok e → (j : ℕ) → WasOpen (slot d j) (slot e j)
was-batch c b ops d e q j = go (operations c ops d) refl q
  where
    go : (r : Result Durable RecordFault) → operations c ops d ≡ r → elim r as (λ z. Result Durable RecordFault) [ Err f ↦ Err f | Ok y ↦ Ok (marked c b y) ] ≡ Ok e → WasOpen (slot d j) (slot e j)
    go (Err f) p r = not-ok r
    go (Ok y) p r = subst (λ z. WasOpen (slot d j) (slot z j)) (same-ok r)
        (was-then (slot d j) (slot y j) (slot (marked c b y) j) (was-operations c ops d y p j) (was-set y.sessions c (slots.batch_marked b (slot y c)) (was-marked b (slot y c)) j))

-- what is open behind the record, but for a new session
abbrev Opens : Durable → Durable → ℕ → Type 0
Opens d e j = (sm : Slot) → slot e j ≡ Some sm → T sm.is_open → (sm.session ≡ d.next_session) ⊎ ((sl : Slot) × (slot d j ≡ Some sl) × T sl.is_open × (sl.session ≡ sm.session))

was : (d e : Durable) (j : ℕ) → WasOpen (slot d j) (slot e j) → Opens d e j
was d e j f sm q t = inr (f sm q t)

opened : (r : Record) (d e : Durable) → step r d ≡ Ok e → (j : ℕ) → Opens d e j
opened (Batch c s b ops) d e q j = go (is_session s (slot d c)) (has_batch b (slot d c)) (is_beyond b (slot d c)) q
  where
    go : (x y z : Bool) → elim x as (λ w. Result Durable RecordFault) [
      | false ↦ Err fault.NoSession
      | true ↦ elim y as (λ w. Result Durable RecordFault) [
        | true ↦ Err (fault.Done b)
        | false ↦ elim z as (λ w. Result Durable RecordFault) [ true ↦ Err (fault.Beyond (low (slot d c))) | false ↦ batch_step c b ops d ]
      ]
    ] ≡ Ok e → Opens d e j
    go false y z p = not-ok p
    go true true z p = not-ok p
    go true false true p = not-ok p
    go true false false p = was d e j (was-batch c b ops d e p j)
opened (Open c age s) d e q j = go (is_greater (slot d c) age) (is_next_session s d) refl q
  where
    now : Durable
    now = with_slot c (Some (new_slot age s)) (record d { next_session = s + 1 })

    by : s ≡ d.next_session → Opens d now j
    by n sm p t = elim (set-one d.sessions c j (Some (new_slot age s))) [
      | inl i ↦ inr (sm, sym i ∙ p, t, refl)
      | inr i ↦ inl (ap (λ z. z.session) (same_some (sym p ∙ i.1)) ∙ n)
    ]

    go : (x y : Bool) → is_next_session s d ≡ y → elim x as (λ w. Result Durable RecordFault) [
      | false ↦ Err fault.BadAge
      | true ↦ elim y as (λ w. Result Durable RecordFault) [ false ↦ Err fault.BadNumber | true ↦ Ok now ]
    ] ≡ Ok e → Opens d e j
    go false y i p = not-ok p
    go true false i p = not-ok p
    go true true i p = subst (λ z. Opens d z j) (same-ok p) (by (equal s d.next_session (is-true (s == d.next_session) (and_first (s == d.next_session) (nat_lt s last_counter) (holds (is_next_session s d) i)))))
opened (End c s) d e q j = go (is_session s (slot d c)) q
  where
    go : (x : Bool) → elim x as (λ w. Result Durable RecordFault) [ false ↦ Err fault.NoSession | true ↦ Ok (with_slot c (slots.ended (slot d c)) d) ] ≡ Ok e → Opens d e j
    go false p = not-ok p
    go true p = was d e j (subst (λ z. WasOpen (slot d j) (slot z j)) (same-ok p) (was-set d.sessions c (slots.ended (slot d c)) (was-ended (slot d c)) j))
opened (Ids c s got first) d e q j = go (is_session s (slot d c)) (is_next_grant c got first d) (is_full d) q
  where
    now : Durable
    now = with_slot c (slots.granted first (slot d c)) (record d { next_id = first + ids_per_grant })

    go : (x y z : Bool) → elim x as (λ w. Result Durable RecordFault) [
      | false ↦ Err fault.NoSession
      | true ↦ elim y as (λ w. Result Durable RecordFault) [
        | false ↦ Err fault.BadNumber
        | true ↦ elim z as (λ w. Result Durable RecordFault) [ true ↦ Err (fault.NoRoom (live d) (reserved d)) | false ↦ Ok now ]
      ]
    ] ≡ Ok e → Opens d e j
    go false y z p = not-ok p
    go true false z p = not-ok p
    go true true true p = not-ok p
    go true true false p = was d e j (subst (λ z. WasOpen (slot d j) (slot z j)) (same-ok p) (was-set d.sessions c (slots.granted first (slot d c)) (was-granted first (slot d c)) j))
opened (Epoch n) d e q j = go (n == d.epoch + 1) q
  where
    go : (x : Bool) → elim x as (λ w. Result Durable RecordFault) [ false ↦ Err fault.BadNumber | true ↦ Ok (record d { epoch = n }) ] ≡ Ok e → Opens d e j
    go false p = not-ok p
    go true p = was d e j (subst (λ z. WasOpen (slot d j) (slot z j)) (same-ok p) (was-same (slot d j)))

-- a session that isn't new and is open behind the record was open before
pub open-before : (r : Record) (d e : Durable) → step r d ≡ Ok e → (c : ℕ) (sl sm : Slot) → slot d c ≡ Some sl → sl.session < d.next_session → slot e c ≡ Some sm → T sm.is_open → sm.session ≡ sl.session → T sl.is_open
open-before r d e q c sl sm p l m t i = elim (opened r d e q c sm m t) [
  | inl n ↦ absurd (apart sl.session d.next_session l (sym i ∙ n))
  | inr o ↦ subst (λ z. T z.is_open) (same_some (sym o.1 ∙ p)) o.2
]
  where
    apart : (a b : ℕ) → a < b → a ≡ b → ⊥
    apart a b l e = omega (arith, l, e)
