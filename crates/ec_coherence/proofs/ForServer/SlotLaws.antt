-- What is open where one slot changes.
use Rattle.std.proofs.Common.{◌≡◌, refl, sym, ap, subst, ◌∙◌, arith, ℕ, zero, suc, Bool, true, false, not, ◌&&◌, ◌||◌, cond, T, ◌<◌, [], ◌∷◌, length}
use Rattle.std.specs.Prelude.{◌==◌, Option, None, Some}
use Rattle.std.proofs.lemmas.List.{get_or-set_same, get_or-set_other}
use Rattle.ec_sessions.specs.Slots.{Slots, slot_at, with_slot}
use Rattle.ec_sessions.specs.declared.slot.Slot.{Slot}
use Rattle.ec_coherence.specs.System.{open_in, is_open_slot}
use Rattle.ec_coherence.proofs.ForServer.Tables.{differs, same_some}
use Rattle.ec_base.proofs.Options.{none_some}
use Rattle.ec_base.proofs.Numbers.{equal}
use Rattle.ec_base.proofs.Bools.{same_tests, holds-true as holds}

pub in-range : (slots : Slots) (c : ℕ) (sl : Slot) → slot_at slots c ≡ Some sl → c < length slots
in-range [] c sl p = absurd (none_some p)
in-range (o ∷ slots) zero sl p = omega arith
in-range (o ∷ slots) (suc c) sl p = let r = in-range slots c sl p in omega arith

pub slot-changed : (slots : Slots) (c d : ℕ) (o : Option Slot) → c < length slots → slot_at (with_slot c o slots) d ≡ cond (d == c) o (slot_at slots d)
slot-changed slots c d o l = go (d == c) refl
  where
    go : (b : Bool) → (d == c) ≡ b → slot_at (with_slot c o slots) d ≡ cond b o (slot_at slots d)
    go true e = ap (λ z. slot_at (with_slot c o slots) z) (equal d c e) ∙ get_or-set_same slots c o None l
    go false e = get_or-set_other slots c d o None (differs d c e)

pub open-at : (slots : Slots) (c s : ℕ) (sl : Slot) → slot_at slots c ≡ Some sl → T sl.is_open → sl.session ≡ s → T (open_in slots s)
open-at [] c s sl p o e = absurd (none_some p)
open-at (a ∷ slots) zero s sl p o e = subst (λ z. T (is_open_slot s z || open_in slots s)) (sym p) (here sl.is_open (sl.session == s) o (it sl.session s e))
  where
    it : (a b : ℕ) → a ≡ b → (a == b) ≡ true
    it a b e = grind arith

    here : (a b : Bool) → T a → b ≡ true → T ((a && b) || open_in slots s)
    here true true o e = tt
    here true false o e = absurd (subst (λ z. T (not z)) e tt)
    here false b o e = absurd o
open-at (a ∷ slots) (suc c) s sl p o e = later (is_open_slot s a) (open-at slots c s sl p o e)
  where
    later : (b : Bool) → T (open_in slots s) → T (b || open_in slots s)
    later true o = tt
    later false o = o

pub open-of : (slots : Slots) (s : ℕ) → T (open_in slots s) → (c : ℕ) × (sl : Slot) × (slot_at slots c ≡ Some sl) × T sl.is_open × (sl.session ≡ s)
open-of [] s o = absurd o
open-of (None ∷ slots) s o = let r = open-of slots s o in (suc r.0, r.1, r.2, r.3, r.4)
open-of (Some sl ∷ slots) s o = go sl.is_open (sl.session == s) refl refl o (open-of slots s)
  where
    go : (a b : Bool) → sl.is_open ≡ a → (sl.session == s) ≡ b → T ((a && b) || open_in slots s) → (T (open_in slots s) → (c : ℕ) × (sm : Slot) × (slot_at slots c ≡ Some sm) × T sm.is_open × (sm.session ≡ s))
        → (c : ℕ) × (sm : Slot) × (slot_at (Some sl ∷ slots) c ≡ Some sm) × T sm.is_open × (sm.session ≡ s)
    go true true p q o f = (0, sl, refl, holds sl.is_open p, equal sl.session s q)
    go true false p q o f = let r = f o in (suc r.0, r.1, r.2, r.3, r.4)
    go false b p q o f = let r = f o in (suc r.0, r.1, r.2, r.3, r.4)

-- The open slot c ends.
module _ (slots : Slots) (c : ℕ) (sl sm : Slot) (at_c : slot_at slots c ≡ Some sl) (distinct : (d : ℕ) (sn : Slot) → slot_at slots d ≡ Some sn → sn.session ≡ sl.session → d ≡ c) (shut : T (not sm.is_open)) where
  changed : (d : ℕ) → slot_at (with_slot c (Some sm) slots) d ≡ cond (d == c) (Some sm) (slot_at slots d)
  changed d = slot-changed slots c d (Some sm) (in-range slots c sl at_c)

  from-other : (s d : ℕ) (sn : Slot) → slot_at (with_slot c (Some sm) slots) d ≡ Some sn → T sn.is_open → (slot_at slots d ≡ Some sn) × ((d == c) ≡ false)
  from-other s d sn p o = go (d == c) refl (sym (changed d) ∙ p)
    where
      go : (b : Bool) → (d == c) ≡ b → cond b (Some sm) (slot_at slots d) ≡ Some sn → (slot_at slots d ≡ Some sn) × (b ≡ false)
      go true e q = absurd (both sm.is_open (subst (λ z. T (elim z as (λ y. Bool) [ None ↦ false | Some y ↦ y.is_open ])) (sym q) o) shut)
        where
          both : (b : Bool) → T b → T (not b) → ⊥
          both true t n = n
          both false t n = t
      go false e q = (q, refl)

  pub ended-other : (s : ℕ) → (s == sl.session) ≡ false → open_in (with_slot c (Some sm) slots) s ≡ open_in slots s
  ended-other s d = same_tests _ _ (λ o. let r = open-of (with_slot c (Some sm) slots) s o in open-at slots r.0 s r.1 (from-other s r.0 r.1 r.2 r.3).0 r.3 r.4)
      (λ o. let r = open-of slots s o in open-at (with_slot c (Some sm) slots) r.0 s r.1 (changed r.0 ∙ ap (λ b. cond b (Some sm) (slot_at slots r.0)) (off r.0 r.1 r.2 r.4) ∙ r.2) r.3 r.4)
    where
      off : (i : ℕ) (sn : Slot) → slot_at slots i ≡ Some sn → sn.session ≡ s → (i == c) ≡ false
      off i sn p e = go (i == c) refl
        where
          go : (b : Bool) → (i == c) ≡ b → b ≡ false
          go true q = absurd (differs s sl.session d (sym e ∙ ap (λ z. elim z as (λ y. ℕ) [ None ↦ 0 | Some y ↦ y.session ]) (sym p ∙ ap (slot_at slots) (equal i c q) ∙ at_c)))
          go false q = refl

  pub ended-own : T (not (open_in (with_slot c (Some sm) slots) sl.session))
  ended-own = go (open_in (with_slot c (Some sm) slots) sl.session) refl
    where
      go : (b : Bool) → open_in (with_slot c (Some sm) slots) sl.session ≡ b → T (not b)
      go true e = let r = open-of (with_slot c (Some sm) slots) sl.session (holds _ e) in let q = from-other sl.session r.0 r.1 r.2 r.3 in
          absurd (differs r.0 c q.1 (distinct r.0 r.1 q.0 r.4))
      go false e = tt

-- The slot c, which isn't open, gets a new session.
module _ (slots : Slots) (c : ℕ) (sm : Slot) (within : c < length slots) (idle : (sl : Slot) → slot_at slots c ≡ Some sl → T (not sl.is_open)) (opens : T sm.is_open) where
  replaced : (d : ℕ) → slot_at (with_slot c (Some sm) slots) d ≡ cond (d == c) (Some sm) (slot_at slots d)
  replaced d = slot-changed slots c d (Some sm) within

  pub new-at : slot_at (with_slot c (Some sm) slots) c ≡ Some sm
  new-at = replaced c ∙ ap (λ b. cond b (Some sm) (slot_at slots c)) (itself c)
    where
      itself : (k : ℕ) → (k == k) ≡ true
      itself k = grind arith

  pub new-other : (d : ℕ) → (d == c) ≡ false → slot_at (with_slot c (Some sm) slots) d ≡ slot_at slots d
  new-other d e = replaced d ∙ ap (λ b. cond b (Some sm) (slot_at slots d)) e

  pub opened-own : T (open_in (with_slot c (Some sm) slots) sm.session)
  opened-own = open-at (with_slot c (Some sm) slots) c sm.session sm new-at opens refl

  pub opened-other : (s : ℕ) → (s == sm.session) ≡ false → open_in (with_slot c (Some sm) slots) s ≡ open_in slots s
  opened-other s d = same_tests _ _ forth back
    where
      forth : T (open_in (with_slot c (Some sm) slots) s) → T (open_in slots s)
      forth o = let r = open-of (with_slot c (Some sm) slots) s o in go r.0 r.1 r.2 r.3 r.4 (r.0 == c) refl
        where
          go : (e : ℕ) (so : Slot) → slot_at (with_slot c (Some sm) slots) e ≡ Some so → T so.is_open → so.session ≡ s → (b : Bool) → (e == c) ≡ b → T (open_in slots s)
          go e so p q f true i = absurd (differs s sm.session d (sym f ∙ ap (λ z. z.session) (sym (same_some (sym new-at ∙ ap (slot_at (with_slot c (Some sm) slots)) (sym (equal e c i)) ∙ p)))))
          go e so p q f false i = open-at slots e s so (sym (new-other e i) ∙ p) q f

      back : T (open_in slots s) → T (open_in (with_slot c (Some sm) slots) s)
      back o = let r = open-of slots s o in go r.0 r.1 r.2 r.3 r.4 (r.0 == c) refl
        where
          go : (e : ℕ) (so : Slot) → slot_at slots e ≡ Some so → T so.is_open → so.session ≡ s → (b : Bool) → (e == c) ≡ b → T (open_in (with_slot c (Some sm) slots) s)
          go e so p q f true i = absurd (no so.is_open q (idle so (sym (ap (slot_at slots) (equal e c i)) ∙ p)))
            where
              no : (b : Bool) → T b → T (not b) → ⊥
              no true t n = n
              no false t n = t
          go e so p q f false i = open-at (with_slot c (Some sm) slots) e s so (new-other e i ∙ p) q f
