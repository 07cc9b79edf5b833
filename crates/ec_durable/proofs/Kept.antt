-- Each record that steps keeps a state in order.
use Rattle.std.proofs.Common.{◌≡◌, ◌==◌, ℕ, ◌+◌, ◌≤◌, ◌<◌, Bool, true, false, cond, ◌&&◌, List, [], ◌∷◌, ◌++◌, length, Option, None, Some, Result, Ok, Err, T, refl, sym, ap, subst, arith, inl, inr, length-append}
use Rattle.std.specs.Prelude.{nat_lt, nat_le}
use Rattle.std.proofs.lemmas.Bool.{cases_eq, cases_lt, eqb-true, leb-true, le-leb, ltb-true, lt-ltb, ltb-false, and_parts}
use Rattle.ec_base.specs.SortedLaws.{first, second, both}
use Rattle.ec_base.specs.declared.ids.Age.{Age}
use Rattle.ec_sessions.specs.WindowMarks.{times}
use Rattle.ec_sessions.specs.IdLaws.{times-with_ids, times-run, times-run_below, times-run_above}
use Rattle.ec_sessions.specs.Slots as slots
use Rattle.ec_sessions.specs.declared.slot.Slot.{Slot}
use Rattle.ec_durable.specs.declared.state.Durable.{Durable}
use Rattle.ec_durable.specs.declared.record.Record.{Record}
use Rattle.ec_durable.specs.declared.record.Record.TheVariants.{Batch, Open, End, Ids, Epoch}
use Rattle.ec_durable.specs.declared.record.RecordFault.{RecordFault}
use Rattle.ec_durable.specs.declared.record.RecordFault.TheVariants.{NoSession, Done, Beyond, BadAge, BadNumber, NoRoom}
use Rattle.ec_durable.specs.Durable.{formatted, step, steps, slot, live, reserved, is_full, is_session, with_slot, operations, low, has_batch, is_beyond, marked, is_next_grant, is_next_session}
use Rattle.ec_durable.specs.Steps.{AreSound, AreAllSound, AllBelow, IdsAreBelow}
use Rattle.ec_durable.specs.StepLaws.{first_next}
use Rattle.ec_durable.specs.WellFormed.{IsInOrder, least_max_objects, most_max_objects, sessions_of, fits_slot}
use Rattle.ec_durable.proofs.Counts.{here, there, more, apart_once, once_apart, all_pass, each_passes}
use Rattle.ec_durable.proofs.Slots.{ids_with, length_with, sessions_with, all_with, all_imply, slot_passes, fits_later, fits_ended, fits_granted, number_ended, number_granted, ids_ended, reserved_all}
use Rattle.ec_durable.proofs.Batches.{same_Ok, not_Ok, all_ids, ids_times, slot_kept, operations_kept, marked_kept}
use Rattle.ec_base.proofs.Bools.{is-true as is_true, holds-true as told}

-- A session that ends.
ended_kept : (c : ℕ) (d : Durable) → IsInOrder d → IsInOrder (with_slot c (slots.ended (slot d c)) d)
ended_kept c d w =
    slot_kept d c (slots.ended (slot d c)) w (λ id. ids_ended id (slot d c)) (number_ended (slot d c))
    (fits_ended d.next_id (slot d c) (slot_passes (fits_slot d.next_id) c d.sessions w.slots tt))

-- A session that opens: its number is above all others.
opened_kept : (c s : ℕ) (age : Age) (d : Durable) → IsInOrder d → s ≡ d.next_session → IsInOrder (with_slot c (Some (slots.new_slot age s)) (record d { next_session = s + 1 }))
opened_kept c s age d w next =
    let new : Option Slot = Some (slots.new_slot age s) in
    let after = slots.with_slot c new d.sessions in
    let from_one : 1 ≤ d.next_session = leb-true _ _ (is_true _ w.next) in
    let fewer : (id : ℕ) → times id (all_ids d.volume after) ≤ times id (all_ids d.volume d.sessions) =
    (λ id. omega (arith, ids_times id d.volume after, ids_times id d.volume d.sessions, ids_with id c new d.sessions)) in
    let longer : length (slots.all_unspent after) ≤ length (slots.all_unspent d.sessions) = omega (arith, length_with c new d.sessions) in
    let most : length d.volume + length (slots.all_unspent d.sessions) ≤ d.max_objects = leb-true _ _ (is_true _ w.few) in
    let in_range : (id : ℕ) → 1 ≤ times id (sessions_of d.sessions) → (1 ≤ id) × (id < d.next_session) =
    (λ id k.
    let p = each_passes (λ n. nat_le 1 n && nat_lt n d.next_session) (sessions_of d.sessions) w.numbered id k in
    (leb-true 1 id (is_true _ (first (nat_le 1 id) (nat_lt id d.next_session) p)), ltb-true id d.next_session (is_true _ (second (nat_le 1 id) (nat_lt id d.next_session) p)))) in
    let one_more : (id : ℕ) → times id (sessions_of after) ≤ times id (sessions_of d.sessions) + times id (s ∷ []) = (λ id. omega (arith, sessions_with id c new d.sessions)) in
    record {
      images = w.images;
      most = w.most;
      ids = apart_once (all_ids d.volume after) (λ id. omega (arith, fewer id, once_apart (all_ids d.volume d.sessions) w.ids id));
      below = all_pass (λ o. nat_lt o d.next_id) (all_ids d.volume after) (λ id k. each_passes (λ o. nat_lt o d.next_id) (all_ids d.volume d.sessions) w.below id (omega (arith, k, fewer id)));
      few = told _ (le-leb (length d.volume + length (slots.all_unspent after)) d.max_objects (omega (arith, most, longer)));
      slots = all_with (fits_slot d.next_id) c new d.sessions w.slots tt;
      numbers = apart_once (sessions_of after) (λ id. once id (sessions_of d.sessions) d.next_session next (in_range id) (once_apart (sessions_of d.sessions) w.numbers id) (times id (sessions_of after)) (one_more id));
      numbered =
          all_pass (λ n. nat_le 1 n && nat_lt n (s + 1)) (sessions_of after)
          (λ id k. within id (sessions_of d.sessions) d.next_session next from_one (in_range id) (times id (sessions_of after)) (one_more id) k);
      next = told _ (le-leb 1 (s + 1) (omega arith));
    }
  where
    other : (id : ℕ) → (s ≡ id → ⊥) → times id (s ∷ []) ≡ 0
    other id n = there id s [] n

    same : (id : ℕ) → s ≡ id → times id (s ∷ []) ≡ 1
    same id e = here id s [] e

    once : (id : ℕ) (ns : List ℕ) (m : ℕ) → s ≡ m → (1 ≤ times id ns → (1 ≤ id) × (id < m)) → times id ns ≤ 1 → (k : ℕ) → k ≤ times id ns + times id (s ∷ []) → k ≤ 1
    once id ns m next range most k le =
        elim (cases_eq s id) [
          | inl e ↦ elim (cases_lt 0 (times id ns)) [
            | inl some ↦ absurd (omega (arith, (range (omega (arith, some))).1, e, next))
            | inr none ↦ omega (arith, le, none, same id e)
          ]
          | inr n ↦ omega (arith, le, most, other id n)
        ]

    within : (id : ℕ) (ns : List ℕ) (m : ℕ) → s ≡ m → 1 ≤ m → (1 ≤ times id ns → (1 ≤ id) × (id < m)) → (k : ℕ) → k ≤ times id ns + times id (s ∷ []) → 1 ≤ k → T (nat_le 1 id && nat_lt id (s + 1))
    within id ns m next from_one range k le some =
        elim (cases_eq s id) [
          | inl e ↦ both (nat_le 1 id) (nat_lt id (s + 1)) (told _ (le-leb 1 id (omega (arith, from_one, next, e)))) (told _ (lt-ltb id (s + 1) (omega (arith, e))))
          | inr n ↦
              let r = range (omega (arith, le, some, other id n)) in
              both (nat_le 1 id) (nat_lt id (s + 1)) (told _ (le-leb 1 id r.0)) (told _ (lt-ltb id (s + 1) (omega (arith, r.1, next))))
        ]

-- Ids that are granted: none of them is live or unspent.

sixteen_below : (id f : ℕ) → id < f → times id (slots.sixteen f) ≡ 0
unfolding slots.sixteen
sixteen_below id f l = times-run_below id f 16 l

sixteen_above : (id f : ℕ) → f + 16 ≤ id → times id (slots.sixteen f) ≡ 0
unfolding slots.sixteen
sixteen_above id f l = times-run_above id f 16 l

sixteen_once : (id f : ℕ) → times id (slots.sixteen f) ≤ 1
unfolding slots.sixteen
sixteen_once id f = times-run id f 16

sixteen_length : (f : ℕ) → length (slots.sixteen f) ≡ 16
unfolding slots.sixteen
sixteen_length f = refl

with_length : (f : ℕ) (ids : List ℕ) → length (slots.with_ids f ids) ≡ length ids + 16
with_length f [] = sixteen_length f
with_length f (id ∷ ids) = go (nat_lt id f) (with_length f ids)
  where
    go : (b : Bool) → length (slots.with_ids f ids) ≡ length ids + 16 → length (cond b (id ∷ slots.with_ids f ids) (slots.sixteen f ++ id ∷ ids)) ≡ length (id ∷ ids) + 16
    go true k = omega (arith, k)
    go false k = omega (arith, length-append (slots.sixteen f) (id ∷ ids), sixteen_length f)

granted_times : (id f : ℕ) (s : Option Slot) → times id (slots.unspent_of (slots.granted f s)) ≤ times id (slots.unspent_of s) + times id (slots.sixteen f)
granted_times id f None = none (times id (slots.sixteen f))
  where
    none : (n : ℕ) → 0 ≤ 0 + n
    none n = omega arith
granted_times id f (Some sl) = omega (arith, times-with_ids id f sl.unspent)

granted_length : (f : ℕ) (s : Option Slot) → length (slots.unspent_of (slots.granted f s)) ≤ length (slots.unspent_of s) + 16
granted_length f None = omega arith
granted_length f (Some sl) = omega (arith, with_length f sl.unspent)

granted_once : (id f : ℕ) (ids : List ℕ) → (1 ≤ times id ids → id < f) → times id ids ≤ 1 → (k : ℕ) → k ≤ times id ids + times id (slots.sixteen f) → k ≤ 1
granted_once id f ids range most k le =
    elim (cases_lt id f) [
      | inl below ↦ omega (arith, le, most, sixteen_below id f below)
      | inr not_below ↦ elim (cases_lt 0 (times id ids)) [
        | inl some ↦ absurd (omega (arith, range (omega (arith, some)), not_below))
        | inr none ↦ omega (arith, le, none, sixteen_once id f)
      ]
    ]

granted_below : (id f : ℕ) (ids : List ℕ) → (1 ≤ times id ids → id < f) → (k : ℕ) → k ≤ times id ids + times id (slots.sixteen f) → 1 ≤ k → id < f + 16
granted_below id f ids range k le some =
    elim (cases_lt id (f + 16)) [
      | inl below ↦ below
      | inr above ↦ absurd (omega (arith, range (omega (arith, le, some, sixteen_above id f above)), above))
    ]

granted_kept : (c f : ℕ) (d : Durable) → IsInOrder d → slots.is_open (slot d c) ≡ true → f ≡ d.next_id → is_full d ≡ false → IsInOrder (with_slot c (slots.granted f (slot d c)) (record d { next_id = f + 16 }))
granted_kept c f d w is_open next room =
    let new = slots.granted f (slot d c) in
    let after = slots.with_slot c new d.sessions in
    let old_ids = all_ids d.volume d.sessions in
    let free : live d + reserved d + 16 ≤ d.max_objects = ltb-false _ _ room in
    let in_range : (id : ℕ) → 1 ≤ times id old_ids → id < f =
    (λ id k. let l : id < d.next_id = ltb-true id d.next_id (is_true _ (each_passes (λ o. nat_lt o d.next_id) old_ids w.below id k)) in omega (arith, l, next)) in
    let one_more : (id : ℕ) → times id (all_ids d.volume after) ≤ times id old_ids + times id (slots.sixteen f) =
    (λ id. omega (arith, ids_times id d.volume after, ids_times id d.volume d.sessions, ids_with id c new d.sessions, granted_times id f (slot d c))) in
    let same_numbers : (id : ℕ) → times id (sessions_of after) ≤ times id (sessions_of d.sessions) =
    (λ id. omega (arith, sessions_with id c new d.sessions, ap (λ ns. times id ns) (number_granted f (slot d c)))) in
    let less : d.next_id ≤ f + 16 = omega (arith, next) in
    record {
      images = w.images;
      most = w.most;
      ids = apart_once (all_ids d.volume after) (λ id. granted_once id f old_ids (in_range id) (once_apart old_ids w.ids id) (times id (all_ids d.volume after)) (one_more id));
      below = all_pass (λ o. nat_lt o (f + 16)) (all_ids d.volume after) (λ id k. told _ (lt-ltb id (f + 16) (granted_below id f old_ids (in_range id) (times id (all_ids d.volume after)) (one_more id) k)));
      few = told _ (le-leb (length d.volume + length (slots.all_unspent after)) d.max_objects (omega (arith, free, reserved_all d.next_id d.sessions w.slots, length_with c new d.sessions, granted_length f (slot d c))));
      slots = all_with (fits_slot (f + 16)) c new d.sessions (all_imply (fits_slot d.next_id) (fits_slot (f + 16)) d.sessions (fits_later d.next_id (f + 16) less) w.slots) (fits_granted f (slot d c) is_open);
      numbers = apart_once (sessions_of after) (λ id. omega (arith, same_numbers id, once_apart (sessions_of d.sessions) w.numbers id));
      numbered =
          all_pass (λ s. nat_le 1 s && nat_lt s d.next_session) (sessions_of after)
          (λ id s. each_passes (λ s. nat_le 1 s && nat_lt s d.next_session) (sessions_of d.sessions) w.numbered id (omega (arith, s, same_numbers id)));
      next = w.next;
    }

-- Records.

is_open_session : (s : ℕ) (o : Option Slot) → is_session s o ≡ true → slots.is_open o ≡ true
is_open_session s None h = absurd (subst T (sym h) tt)
is_open_session s (Some sl) h = (and_parts sl.is_open (sl.session == s) h).0

next_is : (s : ℕ) (d : Durable) → is_next_session s d ≡ true → s ≡ d.next_session
next_is s d h = eqb-true s d.next_session (and_parts (s == d.next_session) _ h).0

pub step_kept : (r : Record) (d e : Durable) → IsInOrder d → AreSound r → step r d ≡ Ok e → IsInOrder e
step_kept (Batch c s b ops) d e w sound is = go (is_session s (slot d c)) (has_batch b (slot d c)) (is_beyond b (slot d c)) (operations c ops d) refl is
  where
    go : (x y z : Bool) (r : Result Durable RecordFault) → operations c ops d ≡ r
        → (elim x as (λ w. Result Durable RecordFault) [
          | false ↦ Err NoSession
          | true ↦ elim y as (λ w. Result Durable RecordFault) [
            | true ↦ Err (Done b)
            | false ↦ elim z as (λ w. Result Durable RecordFault) [
              | true ↦ Err (Beyond (low (slot d c)))
              | false ↦ elim r as (λ w. Result Durable RecordFault) [ Err fault ↦ Err fault | Ok m ↦ Ok (marked c b m) ]
            ]
          ]
        ]) ≡ Ok e → IsInOrder e
    go false y z r p is = absurd (not_Ok is)
    go true true z r p is = absurd (not_Ok is)
    go true false true r p is = absurd (not_Ok is)
    go true false false (Err fault) p is = absurd (not_Ok is)
    go true false false (Ok m) p is = subst IsInOrder (same_Ok is) (marked_kept c b m (operations_kept c ops d m w sound p))
step_kept (Open c age s) d e w sound is = go (slots.is_greater (slot d c) age) (is_next_session s d) refl is
  where
    go : (x y : Bool) → is_next_session s d ≡ y
        → (elim x as (λ w. Result Durable RecordFault) [ false ↦ Err BadAge | true ↦ elim y as (λ w. Result Durable RecordFault) [ false ↦ Err BadNumber | true ↦ Ok (with_slot c (Some (slots.new_slot age s)) (record d { next_session = s + 1 })) ] ]) ≡ Ok e → IsInOrder e
    go false y p is = absurd (not_Ok is)
    go true false p is = absurd (not_Ok is)
    go true true p is = subst IsInOrder (same_Ok is) (opened_kept c s age d w (next_is s d p))
step_kept (End c s) d e w sound is = go (is_session s (slot d c)) is
  where
    go : (x : Bool) → (elim x as (λ w. Result Durable RecordFault) [ false ↦ Err NoSession | true ↦ Ok (with_slot c (slots.ended (slot d c)) d) ]) ≡ Ok e → IsInOrder e
    go false is = absurd (not_Ok is)
    go true is = subst IsInOrder (same_Ok is) (ended_kept c d w)
step_kept (Ids c s got f) d e w sound is = go (is_session s (slot d c)) refl (is_next_grant c got f d) refl (is_full d) refl is
  where
    go : (x : Bool) → is_session s (slot d c) ≡ x → (y : Bool) → is_next_grant c got f d ≡ y → (z : Bool) → is_full d ≡ z
        → (elim x as (λ w. Result Durable RecordFault) [
          | false ↦ Err NoSession
          | true ↦ elim y as (λ w. Result Durable RecordFault) [
            | false ↦ Err BadNumber
            | true ↦ elim z as (λ w. Result Durable RecordFault) [
              | true ↦ Err (NoRoom (live d) (reserved d))
              | false ↦ Ok (with_slot c (slots.granted f (slot d c)) (record d { next_id = f + 16 }))
            ]
          ]
        ]) ≡ Ok e → IsInOrder e
    go false o y p z q is = absurd (not_Ok is)
    go true o false p z q is = absurd (not_Ok is)
    go true o true p true q is = absurd (not_Ok is)
    go true o true p false q is = subst IsInOrder (same_Ok is) (granted_kept c f d w (is_open_session s (slot d c) o) (first_next c got f d p) q)
step_kept (Epoch n) d e w sound is = go (n == d.epoch + 1) is
  where
    go : (x : Bool) → (elim x as (λ w. Result Durable RecordFault) [ false ↦ Err BadNumber | true ↦ Ok (record d { epoch = n }) ]) ≡ Ok e → IsInOrder e
    go false is = absurd (not_Ok is)
    go true is = subst IsInOrder (same_Ok is) (record {
      images = w.images;
      most = w.most;
      ids = w.ids;
      below = w.below;
      few = w.few;
      slots = w.slots;
      numbers = w.numbers;
      numbered = w.numbered;
      next = w.next;
    })

pub steps_kept : (rs : List Record) (d e : Durable) → IsInOrder d → AreAllSound rs → steps rs d ≡ Ok e → IsInOrder e
steps_kept [] d e w s is = subst IsInOrder (same_Ok is) w
steps_kept (r ∷ rs) d e w s is = go (step r d) refl is (λ m k. steps_kept rs m e k s.1)
  where
    go : (x : Result Durable RecordFault) → step r d ≡ x → (elim x as (λ z. Result Durable RecordFault) [ Err fault ↦ Err fault | Ok m ↦ steps rs m ]) ≡ Ok e
        → ((m : Durable) → IsInOrder m → steps rs m ≡ Ok e → IsInOrder e) → IsInOrder e
    go (Err fault) p is rest = absurd (not_Ok is)
    go (Ok m) p is rest = rest m (step_kept r d m w s.0 p) is

-- What a step asks.

each_below : (n : ℕ) (ids : List ℕ) → ((id : ℕ) → 1 ≤ times id ids → id < n) → AllBelow n ids
each_below n [] h = tt
each_below n (x ∷ xs) h = (h x (omega (arith, here x x xs refl)), each_below n xs (λ id k. h id (omega (arith, k, more id x xs))))

pub below_kept : (d : Durable) → IsInOrder d → IdsAreBelow d
below_kept d w =
    each_below d.next_id (slots.all_unspent d.sessions)
    (λ id k. ltb-true id d.next_id (is_true _ (each_passes (λ o. nat_lt o d.next_id) (all_ids d.volume d.sessions) w.below id (omega (arith, k, ids_times id d.volume d.sessions)))))

-- The formatted state.

pub formatted_kept : (most : ℕ) → least_max_objects ≤ most → most ≤ most_max_objects → IsInOrder (formatted most)
formatted_kept most least le = record {
  images = record { sorted = tt; held = tt };
  most = both (nat_le least_max_objects most) (nat_le most most_max_objects) (told _ (le-leb least_max_objects most least)) (told _ (le-leb most most_max_objects le));
  ids = tt;
  below = tt;
  few = told _ (le-leb 1 most (omega (arith, least)));
  slots = tt;
  numbers = tt;
  numbered = tt;
  next = tt;
}
