-- Unspent ids stay below the next one. No public clause cites this file.
use Rattle.std.proofs.Common.{◌≡◌, ◌≤◌, ◌+◌, ◌&&◌, refl, ap, subst, arith, ℕ, zero, suc, Bool, true, false, cond, List, [], ◌∷◌, ◌++◌, Option, None, Some, Result, Ok, Err}
use Rattle.std.specs.Prelude.{◌==◌, nat_lt, nat_le, T}
use Rattle.std.proofs.lemmas.Bool.{eqb-true}
use Rattle.ec_volume.specs.declared.update.Update.{Update}
use Rattle.ec_sessions.specs.declared.slot.Slot.{Slot}
use Rattle.ec_sessions.specs.Slots as slots
use Rattle.ec_durable.specs.declared.state.Durable.{Durable}
use Rattle.ec_durable.specs.declared.record.Record.{Record}
use Rattle.ec_durable.specs.declared.record.Record.TheVariants.{Batch, Open, End, Ids, Epoch}
use Rattle.ec_durable.specs.declared.record.RecordFault.{RecordFault}
use Rattle.ec_durable.specs.declared.record.RecordFault.TheVariants.{NoSession, Done, Beyond, BadAge, BadNumber, NoRoom}
use Rattle.ec_durable.specs.Durable.{step, slot, operations, op_fault, carried_out, made, spent, marked, low, has_batch, grants, is_beyond, is_session, is_next_session, is_next_grant, is_full, live, reserved, with_slot}
use Rattle.ec_durable.specs.Steps.{AllBelow, IdsAreBelow}

pub same_Ok : {d e : Durable} → ◌≡◌ {A = Result Durable RecordFault} (Ok d) (Ok e) → d ≡ e
same_Ok {d = d} p = ap (λ (r : Result Durable RecordFault). elim r as (λ z. Durable) [ Ok x ↦ x | Err f ↦ d ]) p

not_Ok : {f : RecordFault} {e : Durable} → ◌≡◌ {A = Result Durable RecordFault} (Err f) (Ok e) → ⊥
not_Ok p = subst (λ (r : Result Durable RecordFault). T (elim r as (λ z. Bool) [ Ok x ↦ false | Err f ↦ true ])) p tt

below-append : (n : ℕ) (xs ys : List ℕ) → AllBelow n xs → AllBelow n ys → AllBelow n (xs ++ ys)
below-append n [] ys h k = k
below-append n (x ∷ xs) ys h k = (h.0, below-append n xs ys h.1 k)

below_front : (n : ℕ) (xs ys : List ℕ) → AllBelow n (xs ++ ys) → AllBelow n xs
below_front n [] ys h = tt
below_front n (x ∷ xs) ys h = (h.0, below_front n xs ys h.1)

below_back : (n : ℕ) (xs ys : List ℕ) → AllBelow n (xs ++ ys) → AllBelow n ys
below_back n [] ys h = h
below_back n (x ∷ xs) ys h = below_back n xs ys h.1

below_more : (m n : ℕ) (xs : List ℕ) → m ≤ n → AllBelow m xs → AllBelow n xs
below_more m n [] le h = tt
below_more m n (x ∷ xs) le h = (omega (arith, h.0), below_more m n xs le h.1)

below-run : (n first k : ℕ) → first + k ≤ n → AllBelow n (slots.run first k)
below-run n first zero le = tt
below-run n first (suc k) le = (omega arith, below-run n (first + 1) k (omega arith))

below-sixteen : (first : ℕ) → AllBelow (first + 16) (slots.sixteen first)
unfolding slots.sixteen
below-sixteen first = below-run (first + 16) first 16 (omega arith)

below-with_ids : (n first : ℕ) (ids : List ℕ) → AllBelow n (slots.sixteen first) → AllBelow n ids → AllBelow n (slots.with_ids first ids)
below-with_ids n first [] new h = new
below-with_ids n first (id ∷ ids) new h = go (nat_lt id first) (below-with_ids n first ids new h.1)
  where
    go : (b : Bool) → AllBelow n (slots.with_ids first ids) → AllBelow n (cond b (id ∷ slots.with_ids first ids) (slots.sixteen first ++ id ∷ ids))
    go true rest = (h.0, rest)
    go false rest = below-append n (slots.sixteen first) (id ∷ ids) new h

below-without : (n id : ℕ) (ids : List ℕ) → AllBelow n ids → AllBelow n (slots.without id ids)
below-without n id [] h = tt
below-without n id (other ∷ ids) h = go (other == id) (below-without n id ids h.1)
  where
    go : (b : Bool) → AllBelow n (slots.without id ids) → AllBelow n (cond b ids (other ∷ slots.without id ids))
    go true rest = h.1
    go false rest = (h.0, rest)

-- one clerk's slot
below_at : (n clerk : ℕ) (table : slots.Slots) → AllBelow n (slots.all_unspent table) → AllBelow n (slots.unspent_of (slots.slot_at table clerk))
below_at n clerk [] h = tt
below_at n zero (s ∷ table) h = below_front n (slots.unspent_of s) (slots.all_unspent table) h
below_at n (suc clerk) (s ∷ table) h = below_at n clerk table (below_back n (slots.unspent_of s) (slots.all_unspent table) h)

below_with : (n clerk : ℕ) (new : Option Slot) (table : slots.Slots) → AllBelow n (slots.all_unspent table) → AllBelow n (slots.unspent_of new) → AllBelow n (slots.all_unspent (slots.with_slot clerk new table))
below_with n clerk new [] h k = h
below_with n zero new (s ∷ table) h k = below-append n (slots.unspent_of new) (slots.all_unspent table) k (below_back n (slots.unspent_of s) (slots.all_unspent table) h)
below_with n (suc clerk) new (s ∷ table) h k =
    below-append n (slots.unspent_of s) (slots.all_unspent (slots.with_slot clerk new table)) (below_front n (slots.unspent_of s) (slots.all_unspent table) h) (below_with n clerk new table (below_back n (slots.unspent_of s) (slots.all_unspent table) h) k)

below-ended : (n : ℕ) (sl : Option Slot) → AllBelow n (slots.unspent_of sl) → AllBelow n (slots.unspent_of (slots.ended sl))
below-ended n None h = tt
below-ended n (Some sl) h = go sl.is_open
  where
    go : (b : Bool) → AllBelow n (slots.unspent_of (Some (cond b (record sl { is_open = false; unspent = [] }) sl)))
    go true = tt
    go false = h

below-spent : (n : ℕ) (o : Option ℕ) (sl : Option Slot) → AllBelow n (slots.unspent_of sl) → AllBelow n (slots.unspent_of (spent o sl))
below-spent n None sl h = h
below-spent n (Some o) None h = tt
below-spent n (Some o) (Some sl) h = go sl.is_open
  where
    go : (b : Bool) → AllBelow n (slots.unspent_of (Some (cond b (record sl { unspent = slots.without o sl.unspent }) sl)))
    go true = below-without n o sl.unspent h
    go false = h

below-granted : (n first : ℕ) (sl : Option Slot) → AllBelow n (slots.sixteen first) → AllBelow n (slots.unspent_of sl) → AllBelow n (slots.unspent_of (slots.granted first sl))
below-granted n first None new h = tt
below-granted n first (Some sl) new h = below-with_ids n first sl.unspent new h

below-marked : (n b : ℕ) (sl : Option Slot) → AllBelow n (slots.unspent_of sl) → AllBelow n (slots.unspent_of (slots.batch_marked b sl))
below-marked n b None h = tt
below-marked n b (Some sl) h = h

-- records

below_carried : (c : ℕ) (u : Update) (d : Durable) → IdsAreBelow d → IdsAreBelow (carried_out c u d)
below_carried c u d h = below_with d.next_id c (spent (made u) (slot d c)) d.sessions h (below-spent d.next_id (made u) (slot d c) (below_at d.next_id c d.sessions h))

below_operations : (c : ℕ) (ops : List (ℕ × Update)) (d e : Durable) → IdsAreBelow d → operations c ops d ≡ Ok e → IdsAreBelow e
below_operations c [] d e h is = subst IdsAreBelow (same_Ok is) h
below_operations c (op ∷ ops) d e h is = go (op_fault c op.0 op.1 d) is (below_operations c ops (carried_out c op.1 d) e (below_carried c op.1 d h))
  where
    go : (f : Option RecordFault) → (elim f as (λ z. Result Durable RecordFault) [ Some fault ↦ Err fault | None ↦ operations c ops (carried_out c op.1 d) ]) ≡ Ok e → (operations c ops (carried_out c op.1 d) ≡ Ok e → IdsAreBelow e) → IdsAreBelow e
    go (Some fault) is rest = absurd (not_Ok is)
    go None is rest = rest is

pub first_next : (c got first : ℕ) (d : Durable) → is_next_grant c got first d ≡ true → first ≡ d.next_id
first_next c got first d h = eqb-true first d.next_id (go (got == grants (slot d c)) (nat_lt got 4294967295) (first == d.next_id) (nat_le first 4294967279) h)
  where
    go : (a b e f : Bool) → (a && b && e && f) ≡ true → e ≡ true
    go a b e f h = grind (arith, h)

pub ids_stay_below : (r : Record) (d e : Durable) → IdsAreBelow d → step r d ≡ Ok e → IdsAreBelow e
ids_stay_below (Batch c s b ops) d e h is = go (is_session s (slot d c)) (has_batch b (slot d c)) (is_beyond b (slot d c)) (operations c ops d) refl is
  where
    go : (x y z : Bool) (r : Result Durable RecordFault) → operations c ops d ≡ r
        → (elim x as (λ w. Result Durable RecordFault) [
          | false ↦ Err NoSession
          | true ↦ elim y as (λ w. Result Durable RecordFault) [
            | true ↦ Err (Done b)
            | false ↦ elim z as (λ w. Result Durable RecordFault) [
              | true ↦ Err (Beyond (low (slot d c)))
              | false ↦ elim r as (λ w. Result Durable RecordFault) [ Err fault ↦ Err fault | Ok m ↦ Ok (marked c b m) ]
            ]
          ]
        ]) ≡ Ok e → IdsAreBelow e
    go false y z r p is = absurd (not_Ok is)
    go true true z r p is = absurd (not_Ok is)
    go true false true r p is = absurd (not_Ok is)
    go true false false (Err fault) p is = absurd (not_Ok is)
    go true false false (Ok m) p is =
        let k : IdsAreBelow m = below_operations c ops d m h p in
        subst IdsAreBelow (same_Ok is) (below_with m.next_id c (slots.batch_marked b (slot m c)) m.sessions k (below-marked m.next_id b (slot m c) (below_at m.next_id c m.sessions k)))
ids_stay_below (Open c age s) d e h is = go (slots.is_greater (slot d c) age) (is_next_session s d) is
  where
    go : (x y : Bool) → (elim x as (λ w. Result Durable RecordFault) [ false ↦ Err BadAge | true ↦ elim y as (λ w. Result Durable RecordFault) [ false ↦ Err BadNumber | true ↦ Ok (with_slot c (Some (slots.new_slot age s)) (record d { next_session = s + 1 })) ] ]) ≡ Ok e → IdsAreBelow e
    go false y is = absurd (not_Ok is)
    go true false is = absurd (not_Ok is)
    go true true is = subst IdsAreBelow (same_Ok is) (below_with d.next_id c (Some (slots.new_slot age s)) d.sessions h tt)
ids_stay_below (End c s) d e h is = go (is_session s (slot d c)) is
  where
    go : (x : Bool) → (elim x as (λ w. Result Durable RecordFault) [ false ↦ Err NoSession | true ↦ Ok (with_slot c (slots.ended (slot d c)) d) ]) ≡ Ok e → IdsAreBelow e
    go false is = absurd (not_Ok is)
    go true is = subst IdsAreBelow (same_Ok is) (below_with d.next_id c (slots.ended (slot d c)) d.sessions h (below-ended d.next_id (slot d c) (below_at d.next_id c d.sessions h)))
ids_stay_below (Ids c s got first) d e h is = go (is_session s (slot d c)) (is_next_grant c got first d) refl (is_full d) is
  where
    next : is_next_grant c got first d ≡ true → d.next_id ≤ first + 16
    next p = omega (arith, first_next c got first d p)

    go : (x y : Bool) → is_next_grant c got first d ≡ y → (z : Bool)
        → (elim x as (λ w. Result Durable RecordFault) [
          | false ↦ Err NoSession
          | true ↦ elim y as (λ w. Result Durable RecordFault) [
            | false ↦ Err BadNumber
            | true ↦ elim z as (λ w. Result Durable RecordFault) [
              | true ↦ Err (NoRoom (live d) (reserved d))
              | false ↦ Ok (with_slot c (slots.granted first (slot d c)) (record d { next_id = first + 16 }))
            ]
          ]
        ]) ≡ Ok e → IdsAreBelow e
    go false y p z is = absurd (not_Ok is)
    go true false p z is = absurd (not_Ok is)
    go true true p true is = absurd (not_Ok is)
    go true true p false is =
        let k : AllBelow (first + 16) (slots.all_unspent d.sessions) = below_more d.next_id (first + 16) (slots.all_unspent d.sessions) (next p) h in
        subst IdsAreBelow (same_Ok is) (below_with (first + 16) c (slots.granted first (slot d c)) d.sessions k (below-granted (first + 16) first (slot d c) (below-sixteen first) (below_at (first + 16) c d.sessions k)))
ids_stay_below (Epoch n) d e h is = go (n == d.epoch + 1) is
  where
    go : (x : Bool) → (elim x as (λ w. Result Durable RecordFault) [ false ↦ Err BadNumber | true ↦ Ok (record d { epoch = n }) ]) ≡ Ok e → IdsAreBelow e
    go false is = absurd (not_Ok is)
    go true is = subst IdsAreBelow (same_Ok is) h
