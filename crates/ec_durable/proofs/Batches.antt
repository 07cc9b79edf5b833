-- Operations of batches keep a state in order.
use Rattle.std.proofs.Common.{◌≡◌, ◌==◌, ℕ, ◌+◌, ◌≤◌, Bool, true, false, not, ◌&&◌, ◌||◌, if◌then◌else◌, List, [], ◌∷◌, ◌++◌, length, Option, None, Some, Result, Ok, Err, T, refl, sym, ap, subst, ◌∙◌, arith, inl, inr, length-append}
use Rattle.std.specs.Prelude.{nat_lt, nat_le, is_some}
use Rattle.std.proofs.lemmas.Bool.{cases_Bool, cases_eq, eq-eqb, ne_eqb, leb-true, le-leb}
use Rattle.ec_base.specs.SortedLaws.{first, second}
use Rattle.ec_base.specs.Tables.{Table, keys}
use Rattle.ec_volume.specs.Image.{is_gone}
use Rattle.ec_volume.specs.Update.{operands, is_sound, first_unfit}
use Rattle.ec_volume.specs.Volume as volume
use Rattle.ec_volume.specs.Held.{IsVolume, changed}
use Rattle.ec_volume.specs.declared.image.Image.{Image}
use Rattle.ec_volume.specs.declared.update.Update.{Update}
use Rattle.ec_volume.proofs.Fitting.{none_is_fit}
use Rattle.ec_sessions.specs.WindowMarks.{times}
use Rattle.ec_sessions.specs.IdLaws.{times-append}
use Rattle.ec_sessions.specs.Slots as slots
use Rattle.ec_sessions.specs.declared.slot.Slot.{Slot}
use Rattle.ec_durable.specs.declared.state.Durable.{Durable}
use Rattle.ec_durable.specs.declared.record.RecordFault.{RecordFault}
use Rattle.ec_durable.specs.declared.record.RecordFault.TheVariants.{Unfit, NotReserved}
use Rattle.ec_durable.specs.Durable.{slot, with_slot, made, spent, carried_out, unreserved, op_fault, operations, marked}
use Rattle.ec_durable.specs.Steps.{AreSoundOps}
use Rattle.ec_durable.specs.WellFormed.{IsInOrder, sessions_of, fits_slot}
use Rattle.ec_durable.proofs.Counts.{apart_once, once_apart, all_pass, each_passes, out_times, no_longer}
use Rattle.ec_durable.proofs.Live.{live_count, keys_length}
use Rattle.ec_durable.proofs.Changing.{volume_changed, stays_gone}
use Rattle.ec_durable.proofs.Slots.{ids_with, number_of, sessions_with, all_with, slot_passes, fits_spent, fits_marked, number_spent, number_marked, ids_marked}
use Rattle.ec_base.proofs.Bools.{as_one, is-true as is_true, holds-true as told}

pub same_Ok : {d e : Durable} → ◌≡◌ {A = Result Durable RecordFault} (Ok d) (Ok e) → d ≡ e
same_Ok {d = d} p = ap (λ (r : Result Durable RecordFault). elim r as (λ z. Durable) [ Ok x ↦ x | Err f ↦ d ]) p

pub not_Ok : {f : RecordFault} {e : Durable} → ◌≡◌ {A = Result Durable RecordFault} (Err f) (Ok e) → ⊥
not_Ok p = subst (λ (r : Result Durable RecordFault). T (elim r as (λ z. Bool) [ Ok x ↦ false | Err f ↦ true ])) p tt

-- One list of ids instead of another, in which none stands more often.

-- live ids and unspent ids
abbrev pub all_ids : Table Image → slots.Slots → List ℕ
all_ids es ss = keys es ++ slots.all_unspent ss

pub ids_times : (id : ℕ) (es : Table Image) (ss : slots.Slots) → times id (all_ids es ss) ≡ times id (keys es) + times id (slots.all_unspent ss)
ids_times id es ss = times-append id (keys es) (slots.all_unspent ss)

pub ids_length : (es : Table Image) (ss : slots.Slots) → length (all_ids es ss) ≡ length es + length (slots.all_unspent ss)
ids_length es ss = length-append (keys es) (slots.all_unspent ss) ∙ ap (λ n. n + length (slots.all_unspent ss)) (keys_length es)

-- a new volume and a new slot of the same session, with no further id
pub state_kept : (d : Durable) (es : Table Image) (c : ℕ) (new : Option Slot) → IsInOrder d → IsVolume es
    → ((id : ℕ) → times id (all_ids es (slots.with_slot c new d.sessions)) ≤ times id (all_ids d.volume d.sessions))
    → number_of new ≡ number_of (slot d c) → T (fits_slot d.next_id new) → IsInOrder (with_slot c new (record d { volume = es }))
state_kept d es c new w held fewer number fits =
    let after = slots.with_slot c new d.sessions in
    let most : length d.volume + length (slots.all_unspent d.sessions) ≤ d.max_objects = leb-true _ _ (is_true _ w.few) in
    let less : length (all_ids es after) ≤ length (all_ids d.volume d.sessions) = no_longer (all_ids es after) (all_ids d.volume d.sessions) fewer in
    let same_numbers : (id : ℕ) → times id (sessions_of after) ≤ times id (sessions_of d.sessions) =
    (λ id. omega (arith, sessions_with id c new d.sessions, ap (λ ns. times id ns) number)) in
    record {
      images = held;
      most = w.most;
      ids = apart_once (all_ids es after) (λ id. omega (arith, fewer id, once_apart (all_ids d.volume d.sessions) w.ids id));
      below = all_pass (λ o. nat_lt o d.next_id) (all_ids es after) (λ id s. each_passes (λ o. nat_lt o d.next_id) (all_ids d.volume d.sessions) w.below id (omega (arith, s, fewer id)));
      few = told _ (le-leb (length es + length (slots.all_unspent after)) d.max_objects (omega (arith, most, less, ids_length es after, ids_length d.volume d.sessions)));
      slots = all_with (fits_slot d.next_id) c new d.sessions w.slots fits;
      numbers = apart_once (sessions_of after) (λ id. omega (arith, same_numbers id, once_apart (sessions_of d.sessions) w.numbers id));
      numbered =
          all_pass (λ s. nat_le 1 s && nat_lt s d.next_session) (sessions_of after)
          (λ id s. each_passes (λ s. nat_le 1 s && nat_lt s d.next_session) (sessions_of d.sessions) w.numbered id (omega (arith, s, same_numbers id)));
      next = w.next;
    }

-- a new slot of the same session alone
pub slot_kept : (d : Durable) (c : ℕ) (new : Option Slot) → IsInOrder d → ((id : ℕ) → times id (slots.unspent_of new) ≤ times id (slots.unspent_of (slot d c)))
    → number_of new ≡ number_of (slot d c) → T (fits_slot d.next_id new) → IsInOrder (with_slot c new d)
slot_kept d c new w fewer number fits =
    state_kept d d.volume c new w w.images
    (λ id. omega (arith, ids_times id d.volume (slots.with_slot c new d.sessions), ids_times id d.volume d.sessions, ids_with id c new d.sessions, fewer id)) number fits

-- One operation.

not_some : {A : Type 0} {P : Type 0} (x : A) → ◌≡◌ {A = Option A} (Some x) None → P
not_some {A = A} x e = absurd (subst (λ (o : Option A). T (is_some o)) e tt)

pub fault_none : (n : ℕ) (a b : Option ℕ)
    → ◌≡◌ {A = Option RecordFault} (elim a as (λ z. Option RecordFault) [ Some o ↦ Some (NotReserved n o) | None ↦ elim b as (λ z. Option RecordFault) [ Some o ↦ Some (Unfit n o) | None ↦ None ] ]) None → (a ≡ None) × (b ≡ None)
fault_none n (Some o) b e = not_some (NotReserved n o) e
fault_none n None (Some o) e = not_some (Unfit n o) e
fault_none n None None e = (refl, refl)

reserved_there : (b : Bool) (o : ℕ) → ◌≡◌ {A = Option ℕ} (if b then None else Some o) None → b ≡ true
reserved_there true o e = refl
reserved_there false o e = not_some o e

is_in_times : (o : ℕ) (ids : List ℕ) → slots.is_in o ids ≡ true → 1 ≤ times o ids
is_in_times o [] h = absurd (subst T (sym h) tt)
is_in_times o (x ∷ xs) h =
    elim (cases_Bool (x == o)) [
      | inl e ↦ omega (arith, ap as_one e)
      | inr n ↦ omega (arith, ap as_one n, is_in_times o xs (sym (ap (λ b. b || slots.is_in o xs) n) ∙ h))
    ]

-- a reserved id that is spent stands once less
spent_times : (o id : ℕ) (s : Option Slot) → slots.is_reserved s o ≡ true → times id (slots.unspent_of (slots.spent o s)) + as_one (o == id) ≡ times id (slots.unspent_of s)
spent_times o id None h = absurd (subst T (sym h) tt)
spent_times o id (Some sl) h =
    let is_open : sl.is_open ≡ true = is_true _ (first sl.is_open (slots.is_in o sl.unspent) (told _ h)) in
    let there : slots.is_in o sl.unspent ≡ true = is_true _ (second sl.is_open (slots.is_in o sl.unspent) (told _ h)) in
    ap (λ b. times id (slots.unspent_of (Some (if b then record sl { unspent = slots.without o sl.unspent } else sl))) + as_one (o == id)) is_open
    ∙ out_times o id sl.unspent (is_in_times o sl.unspent there)

-- an id is live behind the update only where it was, or is the one made
live_count_changed : (u : Update) (es : Table Image) (id : ℕ) → T (is_sound u) → IsVolume es → IsVolume (changed u es) → (made u ≡ Some id → ⊥) → times id (keys (changed u es)) ≤ times id (keys es)
live_count_changed u es id s v w n =
    elim (cases_Bool (is_gone (volume.images es id))) [
      | inl g ↦ omega (arith, live_count (changed u es) w id, ap (λ b. as_one (not b)) (stays_gone u es id s n g))
      | inr l ↦ omega (arith, live_count es v id, ap (λ b. as_one (not b)) l, live_count (changed u es) w id, at_most_one (not (is_gone (volume.images (changed u es) id))))
    ]
  where
    at_most_one : (b : Bool) → as_one b ≤ 1
    at_most_one true = omega arith
    at_most_one false = omega arith

live_at_most_once : (es : Table Image) (id : ℕ) → IsVolume es → times id (keys es) ≤ 1
live_at_most_once es id v = omega (arith, live_count es v id, at_most_one (not (is_gone (volume.images es id))))
  where
    at_most_one : (b : Bool) → as_one b ≤ 1
    at_most_one true = omega arith
    at_most_one false = omega arith

same_some : (x y : ℕ) → ◌≡◌ {A = Option ℕ} (Some x) (Some y) → x ≡ y
same_some x y e = cc

-- what a Make takes was reserved, and is then live
op_ids : (o : Option ℕ) (u : Update) (c id : ℕ) (d : Durable) → made u ≡ o → T (is_sound u) → IsVolume d.volume → IsVolume (changed u d.volume) → unreserved o (slot d c) ≡ None
    → times id (all_ids (changed u d.volume) (slots.with_slot c (spent o (slot d c)) d.sessions)) ≤ times id (all_ids d.volume d.sessions)
op_ids None u c id d m s v w r =
    omega (
      arith,
      ids_times id (changed u d.volume) (slots.with_slot c (slot d c) d.sessions),
      ids_times id d.volume d.sessions,
      ids_with id c (slot d c) d.sessions,
      live_count_changed u d.volume id s v w (λ e. not_some id (sym e ∙ m)),
    )
op_ids (Some o) u c id d m s v w r =
    let less = spent_times o id (slot d c) (reserved_there (slots.is_reserved (slot d c) o) o r) in
    elim (cases_eq o id) [
      | inl e ↦
          omega (
            arith,
            ids_times id (changed u d.volume) (slots.with_slot c (slots.spent o (slot d c)) d.sessions),
            ids_times id d.volume d.sessions,
            ids_with id c (slots.spent o (slot d c)) d.sessions,
            less,
            ap as_one (eq-eqb o id e),
            live_at_most_once (changed u d.volume) id w,
          )
      | inr n ↦
          omega (
            arith,
            ids_times id (changed u d.volume) (slots.with_slot c (slots.spent o (slot d c)) d.sessions),
            ids_times id d.volume d.sessions,
            ids_with id c (slots.spent o (slot d c)) d.sessions,
            less,
            ap as_one (ne_eqb o id n),
            live_count_changed u d.volume id s v w (λ e. n (same_some o id (sym m ∙ e))),
          )
    ]

number_spent_by : (o : Option ℕ) (s : Option Slot) → number_of (spent o s) ≡ number_of s
number_spent_by None s = refl
number_spent_by (Some o) s = number_spent o s

fits_spent_by : (next : ℕ) (o : Option ℕ) (s : Option Slot) → T (fits_slot next s) → T (fits_slot next (spent o s))
fits_spent_by next None s h = h
fits_spent_by next (Some o) s h = fits_spent next o s h

pub op_kept : (c n : ℕ) (u : Update) (d : Durable) → IsInOrder d → T (is_sound u) → op_fault c n u d ≡ None → IsInOrder (carried_out c u d)
op_kept c n u d w s none =
    let parts = fault_none n (unreserved (made u) (slot d c)) (first_unfit u (volume.images d.volume) (operands u)) none in
    let fits = (none_is_fit (volume.images d.volume) u).0 parts.1 in
    let held = volume_changed u d.volume s fits w.images in
    state_kept d (changed u d.volume) c (spent (made u) (slot d c)) w held
    (λ id. op_ids (made u) u c id d refl s w.images held parts.0) (number_spent_by (made u) (slot d c))
    (fits_spent_by d.next_id (made u) (slot d c) (slot_passes (fits_slot d.next_id) c d.sessions w.slots tt))

-- All operations of a batch.
pub operations_kept : (c : ℕ) (ops : List (ℕ × Update)) (d e : Durable) → IsInOrder d → AreSoundOps ops → operations c ops d ≡ Ok e → IsInOrder e
operations_kept c [] d e w s is = subst IsInOrder (same_Ok is) w
operations_kept c (op ∷ ops) d e w s is = go (op_fault c op.0 op.1 d) refl is (λ k. operations_kept c ops (carried_out c op.1 d) e k s.1)
  where
    go : (f : Option RecordFault) → op_fault c op.0 op.1 d ≡ f
        → (elim f as (λ z. Result Durable RecordFault) [ Some fault ↦ Err fault | None ↦ operations c ops (carried_out c op.1 d) ]) ≡ Ok e
        → (IsInOrder (carried_out c op.1 d) → operations c ops (carried_out c op.1 d) ≡ Ok e → IsInOrder e) → IsInOrder e
    go (Some fault) p is rest = absurd (not_Ok is)
    go None p is rest = rest (op_kept c op.0 op.1 d w s.0 p) is

pub marked_kept : (c b : ℕ) (d : Durable) → IsInOrder d → IsInOrder (marked c b d)
marked_kept c b d w =
    slot_kept d c (slots.batch_marked b (slot d c)) w (λ id. omega (arith, ap (λ ids. times id ids) (ids_marked b (slot d c)))) (number_marked b (slot d c))
    (fits_marked d.next_id b (slot d c) (slot_passes (fits_slot d.next_id) c d.sessions w.slots tt))
