-- What a record that steps makes of the slots' sessions and windows.
use Rattle.std.proofs.Common.{◌≡◌, ◌≢◌, refl, sym, ap, subst, ◌∙◌, inl, inr, ◌⊎◌, arith, ◌≤◌, ◌<◌, ◌+◌, ℕ, T, Bool, true, false, cond, ◌==◌, ◌&&◌, ◌||◌, List, [], ◌∷◌, Option, Some, None}
use Rattle.std.specs.Prelude.{nat_lt, nat_le, Result, Ok, Err}
use Rattle.std.proofs.lemmas.List.{get_or-set_same, get_or-set_other}
use Rattle.std.proofs.lemmas.Bool.{eqb-true, eqb-false, ne_eqb, and_parts}
use Rattle.ec_base.specs.Limits.{last_counter}
use Rattle.ec_base.specs.declared.ids.Age.{Age}
use Rattle.ec_volume.specs.declared.update.Update.{Update}
use Rattle.ec_sessions.specs.Slots as slots
use Rattle.ec_sessions.specs.Windows.{has, after_mark, mark_answer, is_marked}
use Rattle.ec_sessions.specs.WindowLaws.{kept_over, has-after_same}
use Rattle.ec_sessions.specs.declared.slot.Slot.{Slot}
use Rattle.ec_sessions.specs.declared.window.Window.{Window}
use Rattle.ec_sessions.specs.declared.window.Marked.TheVariants as answer
use Rattle.ec_durable.specs.Durable.{step, slot, with_slot, has_batch, is_beyond, is_session, is_next_session, low, batch_step}
use Rattle.ec_durable.specs.declared.record.Record.{Record}
use Rattle.ec_durable.specs.declared.record.Record.TheVariants.{Batch, Open, End, Ids, Epoch}
use Rattle.ec_durable.specs.declared.record.RecordFault.{RecordFault}
use Rattle.ec_durable.specs.declared.record.RecordFault.TheVariants as fault
use Rattle.ec_durable.specs.declared.state.Durable.{Durable}
use Rattle.ec_durable.proofs.Batches.{same_Ok, not_Ok}
use Rattle.ec_machine_laws.specs.Records.{IsRestOf}
use Rattle.ec_machine_laws.proofs.Recording.{batch-own, batch-rest, batch-session, ids-own, ids-rest, ids-session, open-own, open-rest, open-session, in-range, passed-false, passed-true}

-- Where a slot of the new state comes from: from the same clerk's one, with its session and no fewer batches; or it's the one that was opened.
pub record IsKept (old new : Slot) : Type 0 where
  pub session : new.session ≡ old.session
  pub more : (b : ℕ) → has old.window b ≡ true → has new.window b ≡ true

pub record IsOpened (d e : Durable) (c j : ℕ) (new : Slot) : Type 0 where
  pub here : j ≡ c
  pub session : new.session ≡ d.next_session
  pub next : d.next_session < e.next_session

abbrev pub From : Durable → Durable → ℕ → ℕ → Slot → Type 0
From d e c j new = ((old : Slot) × (slot d j ≡ Some old) × IsKept old new) ⊎ IsOpened d e c j new

pub record Moves (c : ℕ) (d e : Durable) : Type 0 where
  pub later : d.next_session ≤ e.next_session
  pub from : (j : ℕ) (new : Slot) → slot e j ≡ Some new → From d e c j new

pub same_some : {A : Type 0} {x y : A} → Some x ≡ Some y → x ≡ y
same_some {x = x} {y = y} e = cc

kept-self : (sl : Slot) → IsKept sl sl
kept-self sl = record { session = refl; more = λ b h. h }

-- one clerk's slot changed
changed : (c : ℕ) (d e : Durable) → IsRestOf c d e → d.next_session ≤ e.next_session → ((new : Slot) → slot e c ≡ Some new → From d e c c new) → Moves c d e
changed c d e rest le own = record { later = le; from = λ j new at. go j new at (j == c) refl }
  where
    go : (j : ℕ) (new : Slot) → slot e j ≡ Some new → (b : Bool) → (j == c) ≡ b → From d e c j new
    go j new at true q = let is : j ≡ c = eqb-true j c q in subst (λ i. From d e c i new) (sym is) (own new (subst (λ i. slot e i ≡ Some new) is at))
    go j new at false q = inl (new, sym (rest.others j q) ∙ at, kept-self new)

-- a slot of the open session
pub open-slot : (s : ℕ) (o : Option Slot) → is_session s o ≡ true → (sl : Slot) × (o ≡ Some sl) × (sl.session ≡ s)
open-slot s None h = absurd (apart h)
  where
    apart : false ≡ true → ⊥
    apart h = cc
open-slot s (Some sl) h = (sl, refl, eqb-true sl.session s ((and_parts sl.is_open (sl.session == s) h).1))

tested : (t : Bool) (f : RecordFault) (r : Result Durable RecordFault) (e : Durable) → elim t as (λ z. Result Durable RecordFault) [ false ↦ Err f | true ↦ r ] ≡ Ok e → t ≡ true
tested true f r e p = refl
tested false f r e p = absurd (not_Ok p)

untested : (t : Bool) (f : RecordFault) (r : Result Durable RecordFault) (e : Durable) → elim t as (λ z. Result Durable RecordFault) [ true ↦ Err f | false ↦ r ] ≡ Ok e → t ≡ false
untested false f r e p = refl
untested true f r e p = absurd (not_Ok p)

-- A batch that steps is of its clerk's open session, and its number is neither in the window nor beyond it.
pub record IsNew (c s b : ℕ) (d : Durable) : Type 0 where
  pub slot : Slot
  pub at : Rattle.ec_durable.specs.Durable.slot d c ≡ Some slot
  pub session : slot.session ≡ s
  pub fresh : has slot.window b ≡ false
  pub near : is_marked (mark_answer slot.window b) ≡ true

batch-tests : (c s b : ℕ) (ops : List (ℕ × Update)) (d e : Durable) → step (Batch c s b ops) d ≡ Ok e → (is_session s (slot d c) ≡ true) × (has_batch b (slot d c) ≡ false) × (is_beyond b (slot d c) ≡ false)
batch-tests c s b ops d e ok =
    let far : Result Durable RecordFault = elim (is_beyond b (slot d c)) as (λ z. Result Durable RecordFault) [ true ↦ Err (fault.Beyond (low (slot d c))) | false ↦ batch_step c b ops d ] in
    let done : Result Durable RecordFault = elim (has_batch b (slot d c)) as (λ z. Result Durable RecordFault) [ true ↦ Err (fault.Done b) | false ↦ far ] in
    let first = passed-false (is_session s (slot d c)) fault.NoSession done e ok in
    let second = passed-true (has_batch b (slot d c)) (fault.Done b) far e first in
    (tested (is_session s (slot d c)) fault.NoSession done e ok, untested (has_batch b (slot d c)) (fault.Done b) far e first, untested (is_beyond b (slot d c)) (fault.Beyond (low (slot d c))) (batch_step c b ops d) e second)

or_false : (a b : Bool) → (a || b) ≡ false → a ≡ false
or_false a b h = grind (arith, h)

pub new-batch : (c s b : ℕ) (ops : List (ℕ × Update)) (d e : Durable) → step (Batch c s b ops) d ≡ Ok e → IsNew c s b d
new-batch c s b ops d e ok =
    let t = batch-tests c s b ops d e ok in
    let o = open-slot s (slot d c) t.0 in
    let fresh : has (o.0).window b ≡ false = subst (λ z. has_batch b z ≡ false) o.1 t.1 in
    let far : (nat_lt ((o.0).window.low + 8) b || nat_le last_counter (o.0).window.low) ≡ false = subst (λ z. is_beyond b z ≡ false) o.1 t.2 in
    let near : nat_lt ((o.0).window.low + 8) b ≡ false = or_false _ _ far in
    record { slot = o.0; at = o.1; session = o.2; fresh = fresh; near = answers (o.0).window near fresh }
  where
    answers : (w : Window) → nat_lt (w.low + 8) b ≡ false → has w b ≡ false → is_marked (mark_answer w b) ≡ true
    answers w n f = ap (λ z. is_marked (cond z (answer.Beyond w.low) (cond (has w b) answer.Already answer.Marked))) n ∙ ap (λ z. is_marked (cond z answer.Already answer.Marked)) f

batch-moves : (c s b : ℕ) (ops : List (ℕ × Update)) (d e : Durable) → step (Batch c s b ops) d ≡ Ok e → Moves c d e
batch-moves c s b ops d e ok =
    let n = new-batch c s b ops d e ok in
    let own = batch-own c s b ops d e n.slot n.at ok in
    changed c d e (batch-rest c s b ops d e n.slot n.at ok) (omega (arith, batch-session c s b ops d e n.slot n.at ok)) (λ new at. inl (
      n.slot,
      n.at,
      subst (IsKept n.slot) (same_some (sym own.1 ∙ at)) (record { session = refl; more = λ k h. kept_over n.slot.window (b ∷ []) k h }),
    ))

ids-moves : (c s got first : ℕ) (d e : Durable) → step (Ids c s got first) d ≡ Ok e → Moves c d e
ids-moves c s got first d e ok =
    let o = open-slot s (slot d c) (tested (is_session s (slot d c)) fault.NoSession _ e ok) in
    changed c d e (ids-rest c s got first d e ok) (omega (arith, ids-session c s got first d e ok)) (λ new at. inl (
      o.0,
      o.1,
      subst (IsKept o.0) (same_some (sym (ids-own c s got first d e o.0 o.1 ok) ∙ at)) (record { session = refl; more = λ k h. h }),
    ))

open-moves : (c s : ℕ) (age : Age) (d e : Durable) → step (Open c age s) d ≡ Ok e → Moves c d e
open-moves c s age d e ok =
    let rest = open-rest c s age d e ok in
    let next = open-session c s age d e ok in
    let second = passed-false (slots.is_greater (slot d c) age) fault.BadAge _ e ok in
    let number : is_next_session s d ≡ true = tested (is_next_session s d) fault.BadNumber _ e second in
    let is : s ≡ d.next_session = eqb-true s d.next_session ((and_parts (s == d.next_session) (nat_lt s last_counter) number).0) in
    changed c d e rest (omega (arith, next, is)) (λ new at.
    let own = open-own c s age d e (omega (arith, in-range e.sessions c new at, rest.count)) ok in
    inr (record { here = refl; session = ap (λ sl. sl.session) (sym (same_some (sym own ∙ at))) ∙ is; next = omega (arith, next, is) }))

end-moves : (c s : ℕ) (d e : Durable) → step (End c s) d ≡ Ok e → Moves c d e
end-moves c s d e ok =
    let yes = tested (is_session s (slot d c)) fault.NoSession _ e ok in
    let o = open-slot s (slot d c) yes in
    let is : with_slot c (slots.ended (slot d c)) d ≡ e = same_Ok (passed-false (is_session s (slot d c)) fault.NoSession _ e ok) in
    subst (Moves c d) is (moved o.0 o.1)
  where
    ended-kept : (sl new : Slot) → slots.ended (Some sl) ≡ Some new → IsKept sl new
    ended-kept sl new h = go sl.is_open h
      where
        go : (b : Bool) → Some (cond b (record sl { is_open = false; unspent = [] }) sl) ≡ Some new → IsKept sl new
        go true h = subst (IsKept sl) (same_some h) (record { session = refl; more = λ k p. p })
        go false h = subst (IsKept sl) (same_some h) (kept-self sl)

    moved : (sl : Slot) → slot d c ≡ Some sl → Moves c d (with_slot c (slots.ended (slot d c)) d)
    moved sl at = record { later = omega arith; from = λ j new here. go j new here (j == c) refl }
      where
        go : (j : ℕ) (new : Slot) → slot (with_slot c (slots.ended (slot d c)) d) j ≡ Some new → (b : Bool) → (j == c) ≡ b → From d (with_slot c (slots.ended (slot d c)) d) c j new
        go j new here true q =
            let is : j ≡ c = eqb-true j c q in
            let now : slots.ended (Some sl) ≡ Some new = ap slots.ended (sym at) ∙ sym (get_or-set_same d.sessions c (slots.ended (slot d c)) None (in-range d.sessions c sl at)) ∙ subst (λ i. slot (with_slot c (slots.ended (slot d c)) d) i ≡ Some new) is here in
            inl (sl, ap (slot d) is ∙ at, ended-kept sl new now)
        go j new here false q = inl (new, sym (get_or-set_other d.sessions c j (slots.ended (slot d c)) None (eqb-false j c q)) ∙ here, kept-self new)

epoch-moves : (n : ℕ) (d e : Durable) → step (Epoch n) d ≡ Ok e → Moves 0 d e
epoch-moves n d e ok =
    let is : record d { epoch = n } ≡ e = same_Ok (passed-false (n == d.epoch + 1) fault.BadNumber _ e ok) in
    subst (Moves 0 d) is (record { later = omega arith; from = λ j new at. inl (new, at, kept-self new) })

pub moves : (r : Record) (d e : Durable) → step r d ≡ Ok e → (c : ℕ) × Moves c d e
moves (Batch c s b ops) d e ok = (c, batch-moves c s b ops d e ok)
moves (Open c age s) d e ok = (c, open-moves c s age d e ok)
moves (End c s) d e ok = (c, end-moves c s d e ok)
moves (Ids c s got first) d e ok = (c, ids-moves c s got first d e ok)
moves (Epoch n) d e ok = (0, epoch-moves n d e ok)

-- the window has the number of a batch that stepped
pub applied-has : (c s b : ℕ) (ops : List (ℕ × Update)) (d e : Durable) → step (Batch c s b ops) d ≡ Ok e → (new : Slot) → slot e c ≡ Some new → has new.window b ≡ true
applied-has c s b ops d e ok new at =
    let n = new-batch c s b ops d e ok in
    let own = batch-own c s b ops d e n.slot n.at ok in
    ap (λ sl. has sl.window b) (sym (same_some (sym own.1 ∙ at))) ∙ has-after_same n.slot.window b n.near
