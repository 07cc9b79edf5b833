-- The slots of all clerks, as one of them changes.
use Rattle.std.proofs.Common.{◌≡◌, ◌+◌, ◌<◌, ◌≤◌, ◌^◌, ◌⊎◌, inl, inr, ℕ, zero, suc, Bool, false, if◌then◌else◌, nat_lt, List, [], ◌∷◌, length, get_or, drop, Option, None, Some, replicate, refl, sym, ◌∙◌, ap, subst, arith, get_or-set_other, get_or-set_same, length-append}
use Rattle.std.proofs.Math.ListN.{length-set}
use Rattle.std.specs.List.Sorted.{IsStrictlyIncreasing}
use Rattle.std.proofs.lemmas.Bool.{cases_order, cases_eq, cases_Bool, eq-eqb, ne_eqb, ltb-true, ltb-false, lt-ltb, le-ltb}
use Rattle.std.proofs.lemmas.List.{get_or_default}
use Rattle.std.specs.Prelude.{Result, Ok, Err}
use Rattle.std.specs.Result.{OnOk, OnErr}
use Rattle.ec_sessions.specs.declared.slot.Slot.{Slot}
use Rattle.ec_sessions.specs.WindowMarks.{times}
use Rattle.ec_sessions.specs.Slots.{Slots, slot_at, with_slot, unspent_of, all_unspent, open_count, reserved, granted, ended, spent, batch_marked, with_ids, sixteen, run, without}
use Rattle.ec_sessions.specs.SlotChecks.{AreIds, IsTable}
use Rattle.ec_sessions.specs.IdLaws.{times-append, times-with_ids, times-run, times-run_below, times-run_above, times-without, AreIds-append, AreIds-front, AreIds-back, AreIds-run, AreIds-with_ids, AreIds-without}
use Rattle.ec_sessions.proofs.Rising.{increasing_from, rises-with_ids, rises-without, Misses}
use Rattle.ec_base.proofs.Lists.{Rises, rises_from}
use Rattle.ec_base.proofs.Bools.{as_one}
use Rattle.ec_base.proofs.Numbers.{next-place}

-- how often an id stands in the table where one slot is new
times-with_slot : (id clerk : ℕ) (slot : Option Slot) (slots : Slots) → clerk < length slots → times id (all_unspent (with_slot clerk slot slots)) + times id (unspent_of (slot_at slots clerk)) ≡ times id (all_unspent slots) + times id (unspent_of slot)
times-with_slot id clerk slot [] l = absurd (omega arith)
times-with_slot id zero slot (old ∷ slots) l =
    omega (arith, times-append id (unspent_of slot) (all_unspent slots), times-append id (unspent_of old) (all_unspent slots))
times-with_slot id (suc clerk) slot (old ∷ slots) l =
    omega (arith, times-append id (unspent_of old) (all_unspent (with_slot clerk slot slots)), times-append id (unspent_of old) (all_unspent slots), times-with_slot id clerk slot slots (omega arith))

-- the id of one slot is one of the table
times-slot_at : (id clerk : ℕ) (slots : Slots) → times id (unspent_of (slot_at slots clerk)) ≤ times id (all_unspent slots)
times-slot_at id clerk [] = omega arith
times-slot_at id zero (slot ∷ slots) = omega (arith, times-append id (unspent_of slot) (all_unspent slots))
times-slot_at id (suc clerk) (slot ∷ slots) = omega (arith, times-append id (unspent_of slot) (all_unspent slots), times-slot_at id clerk slots)

AreIds-with_slot : (clerk : ℕ) (slot : Option Slot) (slots : Slots) → AreIds (all_unspent slots) → AreIds (unspent_of slot) → AreIds (all_unspent (with_slot clerk slot slots))
AreIds-with_slot clerk slot [] h k = h
AreIds-with_slot zero slot (old ∷ slots) h k = AreIds-append (unspent_of slot) (all_unspent slots) k (AreIds-back (unspent_of old) (all_unspent slots) h)
AreIds-with_slot (suc clerk) slot (old ∷ slots) h k =
    AreIds-append (unspent_of old) (all_unspent (with_slot clerk slot slots)) (AreIds-front (unspent_of old) (all_unspent slots) h)
    (AreIds-with_slot clerk slot slots (AreIds-back (unspent_of old) (all_unspent slots) h) k)

AreIds-slot_at : (clerk : ℕ) (slots : Slots) → AreIds (all_unspent slots) → AreIds (unspent_of (slot_at slots clerk))
AreIds-slot_at clerk [] h = tt
AreIds-slot_at zero (slot ∷ slots) h = AreIds-front (unspent_of slot) (all_unspent slots) h
AreIds-slot_at (suc clerk) (slot ∷ slots) h = AreIds-slot_at clerk slots (AreIds-back (unspent_of slot) (all_unspent slots) h)

-- A table with one new slot, whose ids rise, are ids and stand nowhere else, is one.
pub kept : (clerk : ℕ) (slot : Option Slot) (slots : Slots) → IsTable slots → clerk < 16 → Rises (unspent_of slot) → AreIds (unspent_of slot) → ((id : ℕ) → times id (all_unspent slots) + times id (unspent_of slot) ≤ 1 + times id (unspent_of (slot_at slots clerk))) → IsTable (with_slot clerk slot slots)
kept clerk slot slots h l rises ids once =
    let within : clerk < length slots = omega (arith, h.slots.sixteen) in
    record {
      slots = record {
        sixteen = length-set slots clerk slot ∙ h.slots.sixteen;
        rising = λ other.
            elim (cases_eq other clerk) [
              | inl same ↦
                  subst (λ s. IsStrictlyIncreasing (unspent_of s)) (sym (ap (slot_at (with_slot clerk slot slots)) same ∙ get_or-set_same slots clerk slot None within)) (increasing_from (unspent_of slot) rises)
              | inr apart ↦ subst (λ s. IsStrictlyIncreasing (unspent_of s)) (sym (get_or-set_other slots clerk other slot None apart)) (h.slots.rising other)
            ];
        once = λ id. omega (arith, times-with_slot id clerk slot slots within, once id);
      };
      ids = AreIds-with_slot clerk slot slots h.ids ids;
    }

-- what each call makes of the unspent ids

ended_ids : (slot : Option Slot) → (unspent_of (ended slot) ≡ []) ⊎ (unspent_of (ended slot) ≡ unspent_of slot)
ended_ids None = inl refl
ended_ids (Some slot) =
    elim (cases_Bool slot.is_open) [
      | inl h ↦ inl (ap (λ b. unspent_of (Some (if b then record slot { is_open = false; unspent = [] } else slot))) h)
      | inr h ↦ inr (ap (λ b. unspent_of (Some (if b then record slot { is_open = false; unspent = [] } else slot))) h)
    ]

spent_ids : (id : ℕ) (slot : Option Slot) → (unspent_of (spent id slot) ≡ without id (unspent_of slot)) ⊎ (unspent_of (spent id slot) ≡ unspent_of slot)
spent_ids id None = inr refl
spent_ids id (Some slot) =
    elim (cases_Bool slot.is_open) [
      | inl h ↦ inl (ap (λ b. unspent_of (Some (if b then record slot { unspent = without id slot.unspent } else slot))) h)
      | inr h ↦ inr (ap (λ b. unspent_of (Some (if b then record slot { unspent = without id slot.unspent } else slot))) h)
    ]

marked_ids : (n : ℕ) (slot : Option Slot) → unspent_of (batch_marked n slot) ≡ unspent_of slot
marked_ids n None = refl
marked_ids n (Some slot) = refl

granted_ids : (first : ℕ) (slot : Option Slot) → (unspent_of (granted first slot) ≡ with_ids first (unspent_of slot)) ⊎ (unspent_of (granted first slot) ≡ unspent_of slot)
granted_ids first None = inr refl
granted_ids first (Some slot) = inl refl

rises_at : (clerk : ℕ) (slots : Slots) → IsTable slots → Rises (unspent_of (slot_at slots clerk))
rises_at clerk slots h = rises_from (unspent_of (slot_at slots clerk)) (h.slots.rising clerk)

-- a slot with these ids, none of them more often than before
fewer : (clerk : ℕ) (new : Option Slot) (slots : Slots) (ids : List ℕ) → IsTable slots → clerk < 16 → unspent_of new ≡ ids → Rises ids → AreIds ids → ((id : ℕ) → times id ids ≤ times id (unspent_of (slot_at slots clerk))) → IsTable (with_slot clerk new slots)
fewer clerk new slots ids h l e rises are few =
    kept clerk new slots h l (subst Rises (sym e) rises) (subst AreIds (sym e) are)
    (λ id. omega (arith, ap (times id) e, few id, h.slots.once id))

same_ids : (clerk : ℕ) (new : Option Slot) (slots : Slots) → IsTable slots → clerk < 16 → unspent_of new ≡ unspent_of (slot_at slots clerk) → IsTable (with_slot clerk new slots)
same_ids clerk new slots h l e =
    fewer clerk new slots (unspent_of (slot_at slots clerk)) h l e (rises_at clerk slots h) (AreIds-slot_at clerk slots h.ids) (λ id. omega arith)

no_ids : (clerk : ℕ) (new : Option Slot) (slots : Slots) → IsTable slots → clerk < 16 → unspent_of new ≡ [] → IsTable (with_slot clerk new slots)
no_ids clerk new slots h l e = fewer clerk new slots [] h l e tt tt (λ id. omega arith)

-- a clerk's slot, found by its index
pub slot_found : (slots : Slots) (clerk : ℕ) (slot : Option Slot) → IsTable slots → clerk < 16 → slot ≡ get_or slots clerk slot → slot ≡ slot_at slots clerk
slot_found slots clerk slot h l e = e ∙ get_or_default slots clerk slot None (omega (arith, h.slots.sixteen))

-- Each call keeps the table; new is what it makes of the clerk's slot.

pub opened_keeps : (clerk : ℕ) (new : Slot) (slots : Slots) → IsTable slots → clerk < 16 → new.unspent ≡ [] → IsTable (with_slot clerk (Some new) slots)
opened_keeps clerk new slots h l e = no_ids clerk (Some new) slots h l e

pub ended_keeps : (clerk : ℕ) (new : Option Slot) (slots : Slots) → IsTable slots → clerk < 16 → new ≡ ended (slot_at slots clerk) → IsTable (with_slot clerk new slots)
ended_keeps clerk new slots h l e =
    elim (ended_ids (slot_at slots clerk)) [
      | inl none ↦ no_ids clerk new slots h l (ap unspent_of e ∙ none)
      | inr same ↦ same_ids clerk new slots h l (ap unspent_of e ∙ same)
    ]

pub spent_keeps : (clerk id : ℕ) (new : Option Slot) (slots : Slots) → IsTable slots → clerk < 16 → new ≡ spent id (slot_at slots clerk) → IsTable (with_slot clerk new slots)
spent_keeps clerk id new slots h l e =
    let ids = unspent_of (slot_at slots clerk) in
    elim (spent_ids id (slot_at slots clerk)) [
      | inl less ↦
          fewer clerk new slots (without id ids) h l (ap unspent_of e ∙ less) (rises-without id ids (rises_at clerk slots h)) (AreIds-without id ids (AreIds-slot_at clerk slots h.ids)) (λ other. times-without other id ids)
      | inr same ↦ same_ids clerk new slots h l (ap unspent_of e ∙ same)
    ]

pub marked_keeps : (clerk n : ℕ) (new : Option Slot) (slots : Slots) → IsTable slots → clerk < 16 → new ≡ batch_marked n (slot_at slots clerk) → IsTable (with_slot clerk new slots)
marked_keeps clerk n new slots h l e = same_ids clerk new slots h l (ap unspent_of e ∙ marked_ids n (slot_at slots clerk))

-- an id of the sixteen stands nowhere else
sixteen_once : (first id all ids : ℕ) → all ≤ 1 → ids ≤ all → (first ≤ id → id < first + 16 → all ≡ 0) → all + (ids + times id (sixteen first)) ≤ 1 + ids
unfolding sixteen
sixteen_once first id all ids h l new =
    elim (cases_Bool (nat_lt id first)) [
      | inl low ↦
          let none : times id (run first 16) ≡ 0 = times-run_below id first 16 (ltb-true id first low) in
          omega arith
      | inr from ↦
          elim (cases_Bool (nat_lt id (first + 16))) [
            | inl within ↦
                let zero : all ≡ 0 = new (ltb-false id first from) (ltb-true id (first + 16) within) in
                let one : times id (run first 16) ≤ 1 = times-run id first 16 in
                omega arith
            | inr high ↦
                let none : times id (run first 16) ≡ 0 = times-run_above id first 16 (ltb-false id (first + 16) high) in
                omega arith
          ]
    ]

pub granted_keeps : (clerk first : ℕ) (new : Option Slot) (slots : Slots) → IsTable slots → clerk < 16 → 1 ≤ first → first ≤ 4294967279 → ((id : ℕ) → first ≤ id → id < first + 16 → times id (all_unspent slots) ≡ 0) → new ≡ granted first (slot_at slots clerk) → IsTable (with_slot clerk new slots)
unfolding sixteen
granted_keeps clerk first new slots h l low high fresh e =
    let ids = unspent_of (slot_at slots clerk) in
    elim (granted_ids first (slot_at slots clerk)) [
      | inl more ↦
          let is : unspent_of new ≡ with_ids first ids = ap unspent_of e ∙ more in
          let misses : Misses first ids = λ id a b. omega (arith, times-slot_at id clerk slots, fresh id a b) in
          kept clerk new slots h l
          (subst Rises (sym is) (rises-with_ids first ids misses (rises_at clerk slots h)))
          (subst AreIds (sym is) (AreIds-with_ids first ids (AreIds-run first 16 low (omega arith)) (AreIds-slot_at clerk slots h.ids)))
          (λ id. omega (
            arith,
            ap (times id) is,
            times-with_ids id first ids,
            sixteen_once first id (times id (all_unspent slots)) (times id ids) (h.slots.once id) (times-slot_at id clerk slots) (fresh id),
          ))
      | inr same ↦ same_ids clerk new slots h l (ap unspent_of e ∙ same)
    ]

pub grant_keeps : {T E : Type 0} (r : Result T E) (clerk first : ℕ) (new : Option Slot) (slots : Slots) → OnOk r (new ≡ granted first (slot_at slots clerk)) → OnErr r (new ≡ slot_at slots clerk) → IsTable slots → clerk < 16 → 1 ≤ first → first ≤ 4294967279 → ((id : ℕ) → first ≤ id → id < first + 16 → times id (all_unspent slots) ≡ 0) → IsTable (with_slot clerk new slots)
grant_keeps (Ok v) clerk first new slots ok err h l low high fresh = granted_keeps clerk first new slots h l low high fresh ok
grant_keeps (Err e) clerk first new slots ok err h l low high fresh = same_ids clerk new slots h l (ap unspent_of err)

-- no clerk has had a session

all_new : (n : ℕ) → all_unspent (replicate n None) ≡ []
all_new zero = refl
all_new (suc n) = all_new n

slot_new : (n clerk : ℕ) → unspent_of (slot_at (replicate n None) clerk) ≡ []
slot_new zero clerk = refl
slot_new (suc n) zero = refl
slot_new (suc n) (suc clerk) = slot_new n clerk

pub new_table : IsTable (replicate 16 None)
new_table = record {
  slots = record {
    sixteen = refl;
    rising = λ clerk. subst IsStrictlyIncreasing (sym (slot_new 16 clerk)) (increasing_from [] tt);
    once = λ id. omega (arith, ap (times id) (all_new 16));
  };
  ids = subst AreIds (sym (all_new 16)) tt;
}

-- Distinct u32s from 1 are fewer than 2 ^ 32.

abbrev length_if : Bool → List ℕ → ℕ
length_if b ids = if b then length ids else 0

abbrev below : ℕ → List ℕ → ℕ
below n [] = 0
below n (x ∷ xs) = as_one (nat_lt x n) + below n xs

below-suc : (n : ℕ) (xs : List ℕ) → below (suc n) xs ≡ below n xs + times n xs
below-suc n [] = omega arith
below-suc n (x ∷ xs) =
    elim (cases_order x n) [
      | inl same ↦ omega (arith, below-suc n xs, ap as_one (lt-ltb x (suc n) (omega arith)), ap as_one (le-ltb x n (omega arith)), ap as_one (eq-eqb x n same))
      | inr (inl l) ↦ omega (arith, below-suc n xs, ap as_one (lt-ltb x (suc n) (omega arith)), ap as_one (lt-ltb x n l), ap as_one (ne_eqb x n (λ e. absurd (omega arith))))
      | inr (inr l) ↦ omega (arith, below-suc n xs, ap as_one (le-ltb x (suc n) (omega arith)), ap as_one (le-ltb x n (omega arith)), ap as_one (ne_eqb x n (λ e. absurd (omega arith))))
    ]

below-one : (xs : List ℕ) → AreIds xs → below 1 xs ≡ 0
below-one [] h = refl
below-one (x ∷ xs) h = omega (arith, below-one xs h.2, ap as_one (le-ltb x 1 h.0))

below-le : (n : ℕ) (xs : List ℕ) → AreIds xs → ((id : ℕ) → times id xs ≤ 1) → below (suc n) xs ≤ n
below-le zero xs h once = omega (arith, below-one xs h)
below-le (suc n) xs h once = omega (arith, below-suc (suc n) xs, below-le n xs h once, once (suc n))

below-all : (xs : List ℕ) → AreIds xs → below 4294967296 xs ≡ length xs
below-all [] h = refl
below-all (x ∷ xs) h = omega (arith, below-all xs h.2, ap as_one (lt-ltb x 4294967296 h.1))

open_count-le : (slot : Option Slot) → open_count slot ≤ length (unspent_of slot)
open_count-le None = omega arith
open_count-le (Some slot) =
    elim (cases_Bool slot.is_open) [
      | inl h ↦ omega (arith, ap (λ b. length_if b slot.unspent) h)
      | inr h ↦ omega (arith, ap (λ b. length_if b slot.unspent) h)
    ]

reserved-le : (slots : Slots) → reserved slots ≤ length (all_unspent slots)
reserved-le [] = omega arith
reserved-le (slot ∷ slots) = omega (arith, open_count-le slot, reserved-le slots, length-append (unspent_of slot) (all_unspent slots))

pub reserved_fits : (slots : Slots) → IsTable slots → reserved slots < 2 ^ 32
reserved_fits slots h =
    omega (arith, reserved-le slots, below-all (all_unspent slots) h.ids, below-le 4294967295 (all_unspent slots) h.ids h.slots.once)

-- one more slot before the rest
pub ids_before : (slots : Slots) (i : ℕ) (slot : Option Slot) → i < length slots → slot ≡ get_or slots i slot → AreIds (unspent_of slot) → AreIds (all_unspent (drop (i + 1) slots)) → AreIds (all_unspent (drop i slots))
ids_before [] i slot l e h k = absurd (omega arith)
ids_before (old ∷ slots) zero slot l e h k = AreIds-append (unspent_of old) (all_unspent slots) (subst (λ s. AreIds (unspent_of s)) e h) k
ids_before (old ∷ slots) (suc i) slot l e h k =
    ids_before slots i slot (omega arith) e h (subst (λ n. AreIds (all_unspent (drop n (old ∷ slots)))) (next-place i) k)
