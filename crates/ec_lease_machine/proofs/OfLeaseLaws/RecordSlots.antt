-- What each record leaves of the slots.
use Rattle.std.proofs.Common.{◌≡◌, ◌≢◌, refl, sym, ap, subst, ◌∙◌, arith, ◌≤◌, ◌<◌, ◌+◌, ℕ, zero, suc, T, Bool, true, false, ◌==◌, cond, List, [], ◌∷◌, length, Option, Some, None, Result, Ok, Err}
use Rattle.std.specs.Prelude.{nat_lt, ⊤}
use Rattle.std.proofs.lemmas.Bool.{and_parts}
use Rattle.std.proofs.lemmas.List.{get_or-set_same, get_or-set_other}
use Rattle.ec_base.specs.Limits.{last_counter}
use Rattle.ec_base.specs.declared.ids.Age.{Age}
use Rattle.ec_volume.specs.declared.update.Update.{Update}
use Rattle.ec_sessions.specs.Slots as slots
use Rattle.ec_sessions.specs.declared.slot.Slot.{Slot}
use Rattle.ec_durable.specs.Durable.{batch_step, has_batch, is_beyond, is_full, is_next_grant, is_next_session, is_session, live, low, reserved, slot, step, with_slot}
use Rattle.ec_durable.specs.declared.state.Durable.{Durable}
use Rattle.ec_durable.specs.declared.record.Record.{Record}
use Rattle.ec_durable.specs.declared.record.Record.TheVariants.{Batch, Open, End, Ids, Epoch}
use Rattle.ec_durable.specs.declared.record.RecordFault.{RecordFault}
use Rattle.ec_durable.specs.declared.record.RecordFault.TheVariants as fault
use Rattle.ec_durable.proofs.Batches.{same_Ok, not_Ok}
use Rattle.ec_machine_laws.specs.Records.{IsRestOf}
use Rattle.ec_machine_laws.proofs.Recording.{batch-own, batch-rest, batch-session, ids-own, ids-rest, ids-session, open-own, open-rest, open-session}
use Rattle.ec_coherence.proofs.ForServer.Tables.{same_some}
use Rattle.ec_lease_machine.specs.OfLeaseLaws.Slots.{Became, SlotsGo, was, opened, ended}
use Rattle.ec_base.proofs.Numbers.{equal}
use Rattle.ec_lease_machine.proofs.OfLeaseLaws.Open.{is-ok, refused}

least : (m n : ℕ) → n ≡ m → m ≤ n
least m n p = omega (arith, p)

pub same-slots : (E : ℕ → Type 0) (d e : Durable) → e.sessions ≡ d.sessions → e.next_session ≡ d.next_session → SlotsGo E d e
same-slots E d e p n = record {
  next = least d.next_session e.next_session n;
  slots = λ c sl q. was sl (ap (λ ss. slots.slot_at ss c) (sym p) ∙ q) refl refl;
}

-- one slot changes, and its session stays
own-changes : (E : ℕ → Type 0) (c : ℕ) (d e : Durable) (old now : Slot) → slot d c ≡ Some old → slot e c ≡ Some now → old.session ≡ now.session → old.is_open ≡ now.is_open → IsRestOf c d e → e.next_session ≡ d.next_session → SlotsGo E d e
own-changes E c d e old now q r s o rest n = record { next = least d.next_session e.next_session n; slots = λ j sl p. by j sl p (j == c) refl }
  where
    by : (j : ℕ) (sl : Slot) → slot e j ≡ Some sl → (z : Bool) → (j == c) ≡ z → Became E d j sl
    by j sl p false f = was sl (sym (rest.others j f) ∙ p) refl refl
    by j sl p true f =
        let z : now ≡ sl = same_some (sym r ∙ ap (slot e) (sym (equal j c f)) ∙ p) in
        was old (ap (slot d) (equal j c f) ∙ q) (s ∙ ap (λ x. x.session) z) (o ∙ ap (λ x. x.is_open) z)

batch-goes : (E : ℕ → Type 0) (c s b : ℕ) (ops : List (ℕ × Update)) (d e : Durable) → step (Batch c s b ops) d ≡ Ok e → SlotsGo E d e
batch-goes E c s b ops d e ok = by (slot d c) refl
  where
    by : (o : Option Slot) → slot d c ≡ o → SlotsGo E d e
    by None q = refused (step (Batch c s b ops) d) e (ap (λ y. is-ok (elim (is_session s y) as (λ w. Result Durable RecordFault) [
      | false ↦ Err fault.NoSession
      | true ↦ elim (has_batch b (slot d c)) as (λ w. Result Durable RecordFault) [
        | true ↦ Err (fault.Done b)
        | false ↦ elim (is_beyond b (slot d c)) as (λ w. Result Durable RecordFault) [ true ↦ Err (fault.Beyond (low (slot d c))) | false ↦ batch_step c b ops d ]
      ]
    ])) q) ok
    by (Some old) q =
        let m = batch-own c s b ops d e old q ok in
        own-changes E c d e old _ q m.1 refl refl (batch-rest c s b ops d e old q ok) (batch-session c s b ops d e old q ok)

ids-goes : (E : ℕ → Type 0) (c s got first : ℕ) (d e : Durable) → step (Ids c s got first) d ≡ Ok e → SlotsGo E d e
ids-goes E c s got first d e ok = by (slot d c) refl
  where
    by : (o : Option Slot) → slot d c ≡ o → SlotsGo E d e
    by None q = refused (step (Ids c s got first) d) e (ap (λ y. is-ok (elim (is_session s y) as (λ w. Result Durable RecordFault) [
      | false ↦ Err fault.NoSession
      | true ↦ elim (is_next_grant c got first d) as (λ w. Result Durable RecordFault) [
        | false ↦ Err fault.BadNumber
        | true ↦ elim (is_full d) as (λ w. Result Durable RecordFault) [
          | true ↦ Err (fault.NoRoom (live d) (reserved d))
          | false ↦ Ok (with_slot c (slots.granted first (slot d c)) (record d { next_id = first + 16 }))
        ]
      ]
    ])) q) ok
    by (Some old) q = own-changes E c d e old _ q (ids-own c s got first d e old q ok) refl refl (ids-rest c s got first d e ok) (ids-session c s got first d e ok)

-- Openings.

in-range : (ss : slots.Slots) (c : ℕ) (sl : Slot) → slots.slot_at ss c ≡ Some sl → c < length ss
in-range [] c sl e = absurd (apart e)
  where
    apart : ◌≡◌ {A = Option Slot} None (Some sl) → ⊥
    apart e = cc
in-range (o ∷ ss) zero sl e = omega arith
in-range (o ∷ ss) (suc c) sl e = omega (arith, in-range ss c sl e)

is-next : (x y : Bool) (f e : Durable) → elim x as (λ z. Result Durable RecordFault) [ false ↦ Err fault.BadAge | true ↦ elim y as (λ z. Result Durable RecordFault) [ false ↦ Err fault.BadNumber | true ↦ Ok f ] ] ≡ Ok e → y ≡ true
is-next true true f e p = refl
is-next true false f e p = absurd (not_Ok p)
is-next false y f e p = absurd (not_Ok p)

open-goes : (E : ℕ → Type 0) (c s : ℕ) (age : Age) (d e : Durable) → step (Open c age s) d ≡ Ok e → SlotsGo E d e
open-goes E c s age d e ok = record { next = rises d.next_session e.next_session s (open-session c s age d e ok) next; slots = λ j sl p. by j sl p (j == c) refl }
  where
    rest : IsRestOf c d e
    rest = open-rest c s age d e ok

    next : s ≡ d.next_session
    next = equal s d.next_session ((and_parts (s == d.next_session) (nat_lt s last_counter) (is-next (slots.is_greater (slot d c) age) (is_next_session s d) (with_slot c (Some (slots.new_slot age s)) (record d { next_session = s + 1 })) e ok)).0)

    rises : (m n k : ℕ) → n ≡ k + 1 → k ≡ m → m ≤ n
    rises m n k p q = omega (arith, p, q)

    by : (j : ℕ) (sl : Slot) → slot e j ≡ Some sl → (z : Bool) → (j == c) ≡ z → Became E d j sl
    by j sl p false f = was sl (sym (rest.others j f) ∙ p) refl refl
    by j sl p true f =
        let own : slot e c ≡ Some sl = ap (slot e) (sym (equal j c f)) ∙ p in
        let now : slot e c ≡ Some (slots.new_slot age s) = open-own c s age d e (subst (λ n. c < n) rest.count (in-range e.sessions c sl own)) ok in
        let z : slots.new_slot age s ≡ sl = same_some (sym now ∙ own) in
        opened (subst (λ x. T x.is_open) z tt) (sym (ap (λ x. x.session) z) ∙ next)

-- Ends.

ended-session : (b : Bool) (old sl : Slot) → ◌≡◌ {A = Option Slot} (Some (cond b (record old { is_open = false; unspent = [] }) old)) (Some sl) → old.session ≡ sl.session
ended-session true old sl p = ap (λ x. x.session) (same_some p)
ended-session false old sl p = ap (λ x. x.session) (same_some p)

end-goes : (E : ℕ → Type 0) (c s : ℕ) → E c → (d e : Durable) → step (End c s) d ≡ Ok e → SlotsGo E d e
end-goes E c s may d e ok = by (slot d c) refl
  where
    final : Durable
    final = with_slot c (slots.ended (slot d c)) d

    taken : (y : Bool) → elim y as (λ w. Result Durable RecordFault) [ false ↦ Err fault.NoSession | true ↦ Ok final ] ≡ Ok e → (y ≡ true) × (final ≡ e)
    taken true p = (refl, same_Ok p)
    taken false p = absurd (not_Ok p)

    away : (j : ℕ) → (j == c) ≡ false → j ≢ c
    away j f p = absurd (no (sym (ap (λ z. z == c) p ∙ same c) ∙ f))
      where
        same : (n : ℕ) → (n == n) ≡ true
        same n = grind arith

        no : true ≡ false → ⊥
        no e = cc

    by : (o : Option Slot) → slot d c ≡ o → SlotsGo E d e
    by None q = refused (step (End c s) d) e (ap (λ y. is-ok (elim (is_session s y) as (λ w. Result Durable RecordFault) [ false ↦ Err fault.NoSession | true ↦ Ok final ])) q) ok
    by (Some old) q =
        let r = taken (is_session s (slot d c)) ok in
        let both = and_parts old.is_open (old.session == s) (ap (is_session s) (sym q) ∙ r.0) in
        subst (SlotsGo E d) r.1 (record { next = least d.next_session d.next_session refl; slots = λ j sl p. at j sl p (j == c) refl both.0 })
      where
        at : (j : ℕ) (sl : Slot) → slot final j ≡ Some sl → (z : Bool) → (j == c) ≡ z → old.is_open ≡ true → Became E d j sl
        at j sl p false f was-open = was sl (sym (get_or-set_other d.sessions c j (slots.ended (slot d c)) None (away j f)) ∙ p) refl refl
        at j sl p true f was-open =
            let own : slots.ended (Some old) ≡ Some sl = ap slots.ended (sym q) ∙ sym (get_or-set_same d.sessions c (slots.ended (slot d c)) None (in-range d.sessions c old q)) ∙ ap (slot final) (sym (equal j c f)) ∙ p in
            ended (subst E (sym (equal j c f)) may) old (ap (slot d) (equal j c f) ∙ q) (ended-session old.is_open old sl own) (subst T (sym was-open) tt)

epoch-goes : (E : ℕ → Type 0) (n : ℕ) (d e : Durable) → step (Epoch n) d ≡ Ok e → SlotsGo E d e
epoch-goes E n d e ok = by (n == d.epoch + 1) ok
  where
    by : (y : Bool) → elim y as (λ w. Result Durable RecordFault) [ false ↦ Err fault.BadNumber | true ↦ Ok (record d { epoch = n }) ] ≡ Ok e → SlotsGo E d e
    by true p = subst (SlotsGo E d) (same_Ok p) (same-slots E d (record d { epoch = n }) refl refl)
    by false p = absurd (not_Ok p)

-- the sessions that the record ends are of these clerks
abbrev pub EndsWithin : (ℕ → Type 0) → Record → Type 0
EndsWithin E (End c s) = E c
EndsWithin E _ = ⊤

pub record-goes : (E : ℕ → Type 0) (r : Record) → EndsWithin E r → (d e : Durable) → step r d ≡ Ok e → SlotsGo E d e
record-goes E (Batch c s b ops) may d e ok = batch-goes E c s b ops d e ok
record-goes E (Open c age s) may d e ok = open-goes E c s age d e ok
record-goes E (End c s) may d e ok = end-goes E c s may d e ok
record-goes E (Ids c s got first) may d e ok = ids-goes E c s got first d e ok
record-goes E (Epoch n) may d e ok = epoch-goes E n d e ok
