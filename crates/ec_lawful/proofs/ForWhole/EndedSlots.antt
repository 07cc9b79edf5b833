-- Slots whose sessions all ended, and the owners of these sessions.
use Rattle.std.proofs.Common.{◌≡◌, ◌≢◌, refl, sym, ap, subst, ◌∙◌, arith, ℕ, zero, suc, Bool, true, false, not, ◌+◌, ◌<◌, cond, T, [], ◌∷◌, length, Option, None, Some}
use Rattle.std.specs.Prelude.{◌==◌}
use Rattle.std.specs.List.{list_all}
use Rattle.std.specs.Cmp.{unsigned_ties}
use Rattle.ec_base.specs.Tables.{at, at_or, or_else}
use Rattle.ec_base.specs.declared.ids.Age.{Age}
use Rattle.ec_volume.specs.Update.{distinct, member}
use Rattle.ec_sessions.specs.Slots.{Slots, ended, slot_at}
use Rattle.ec_sessions.specs.declared.slot.Slot.{Slot}
use Rattle.ec_durable.specs.WellFormed.{sessions_of}
use Rattle.ec_protocol.specs.World.{boots_from, session_boot}
use Rattle.ec_coherence.specs.System.{open_in}
use Rattle.ec_coherence.proofs.ForServer.SlotLaws.{open-of}
use Rattle.ec_coherence.proofs.ForServer.Tables.{differ, same_some}
use Rattle.ec_lawful.specs.Olds.{all_ended, owner_from}
use Rattle.ec_base.proofs.Bools.{left as and_first, not-both as no_both, or-right as or_next, right as and_next, or_first, holds-true as holds}
use Rattle.ec_base.proofs.Numbers.{same-self as same, equal}
use Rattle.ec_base.proofs.Options.{none_some}

-- Ends of all.

abbrev pub closed : Slot → Slot
closed sl = cond sl.is_open (record sl { is_open = false; unspent = [] }) sl

pub at-ended : (slots : Slots) (c : ℕ) → slot_at (all_ended slots) c ≡ ended (slot_at slots c)
at-ended [] c = refl
at-ended (o ∷ slots) zero = refl
at-ended (o ∷ slots) (suc c) = at-ended slots c

pub length-ended : (slots : Slots) → length (all_ended slots) ≡ length slots
length-ended [] = refl
length-ended (o ∷ slots) = ap suc (length-ended slots)

-- what a slot is now, it was open or not
pub record Was (slots : Slots) (c : ℕ) (now : Slot) : Type 0 where
  pub old : Slot
  pub there : slot_at slots c ≡ Some old
  pub session : old.session ≡ now.session
  pub age : old.age ≡ now.age
  pub shut : T (not now.is_open)

pub was : (slots : Slots) (c : ℕ) (now : Slot) → slot_at (all_ended slots) c ≡ Some now → Was slots c now
was slots c now p = go (slot_at slots c) refl (sym (at-ended slots c) ∙ p)
  where
    of-slot : (sl : Slot) → slot_at slots c ≡ Some sl → (b : Bool) → sl.is_open ≡ b → cond b (record sl { is_open = false; unspent = [] }) sl ≡ now → Was slots c now
    of-slot sl q true e m = record { old = sl; there = q; session = ap (λ z. z.session) m; age = ap (λ z. z.age) m; shut = subst (λ z. T (not z.is_open)) m tt }
    of-slot sl q false e m = record { old = sl; there = q; session = ap (λ z. z.session) m; age = ap (λ z. z.age) m; shut = subst (λ z. T (not z.is_open)) m (subst (λ z. T (not z)) (sym e) tt) }

    go : (o : Option Slot) → slot_at slots c ≡ o → ended o ≡ Some now → Was slots c now
    go None q m = absurd (none_some m)
    go (Some sl) q m = of-slot sl q sl.is_open refl (same_some m)

-- and what it was then, it is in the same session
pub record Is (slots : Slots) (c : ℕ) (old : Slot) : Type 0 where
  pub now : Slot
  pub there : slot_at (all_ended slots) c ≡ Some now
  pub session : now.session ≡ old.session
  pub age : now.age ≡ old.age

pub is-now : (slots : Slots) (c : ℕ) (old : Slot) → slot_at slots c ≡ Some old → Is slots c old
is-now slots c old p = record { now = closed old; there = at-ended slots c ∙ ap ended p; session = by old.is_open; age = by-age old.is_open }
  where
    by : (b : Bool) → (cond b (record old { is_open = false; unspent = [] }) old).session ≡ old.session
    by true = refl
    by false = refl

    by-age : (b : Bool) → (cond b (record old { is_open = false; unspent = [] }) old).age ≡ old.age
    by-age true = refl
    by-age false = refl

-- none is open
pub none-open : (slots : Slots) (s : ℕ) → T (open_in (all_ended slots) s) → ⊥
none-open slots s o =
    let q = open-of (all_ended slots) s o in
    no_both (q.1).is_open q.3 ((was slots q.0 q.1 q.2).shut)

-- Owners.

pub is-among : (slots : Slots) (c : ℕ) (sl : Slot) → slot_at slots c ≡ Some sl → T (member sl.session (sessions_of slots))
is-among [] c sl p = absurd (none_some p)
is-among (None ∷ slots) zero sl p = absurd (none_some p)
is-among (None ∷ slots) (suc c) sl p = is-among slots c sl p
is-among (Some a ∷ slots) zero sl p = or_first (sl.session == a.session) (member sl.session (sessions_of slots)) (holds (sl.session == a.session) (ap (λ z. sl.session == z.session) (same_some p) ∙ same sl.session))
is-among (Some a ∷ slots) (suc c) sl p = or_next (sl.session == a.session) (member sl.session (sessions_of slots)) (is-among slots c sl p)

pub owner-at : (slots : Slots) (b c : ℕ) (sl : Slot) → T (distinct (sessions_of slots)) → slot_at slots c ≡ Some sl → owner_from b slots sl.session ≡ Some (b + c, sl.age)
owner-at [] b c sl d p = absurd (none_some p)
owner-at (None ∷ slots) b zero sl d p = absurd (none_some p)
owner-at (None ∷ slots) b (suc c) sl d p = owner-at slots (b + 1) c sl d p ∙ ap (λ n. Some (n, sl.age)) (next b c)
  where
    next : (b c : ℕ) → (b + 1) + c ≡ b + suc c
    next b c = omega arith
owner-at (Some a ∷ slots) b zero sl d p =
    ap (λ z. elim z as (λ y. Option (ℕ × Age)) [ true ↦ Some (b, a.age) | false ↦ owner_from (b + 1) slots sl.session ]) (ap (λ z. z.session == sl.session) (same_some p) ∙ same sl.session)
    ∙ ap (λ z. Some (b, z.age)) (same_some p) ∙ ap (λ n. Some (n, sl.age)) (none b)
  where
    none : (b : ℕ) → b ≡ b + 0
    none b = omega arith
owner-at (Some a ∷ slots) b (suc c) sl d p =
    ap (λ z. elim z as (λ y. Option (ℕ × Age)) [ true ↦ Some (b, a.age) | false ↦ owner_from (b + 1) slots sl.session ]) (differ a.session sl.session apart)
    ∙ owner-at slots (b + 1) c sl (and_next (not (member a.session (sessions_of slots))) (distinct (sessions_of slots)) d) p ∙ ap (λ n. Some (n, sl.age)) (next b c)
  where
    next : (b c : ℕ) → (b + 1) + c ≡ b + suc c
    next b c = omega arith

    apart : a.session ≢ sl.session
    apart e = no_both (member a.session (sessions_of slots)) (subst (λ n. T (member n (sessions_of slots))) (sym e) (is-among slots c sl p)) (and_first (not (member a.session (sessions_of slots))) (distinct (sessions_of slots)) d)

pub record Owns (b : ℕ) (slots : Slots) (s : ℕ) (o : ℕ × Age) : Type 0 where
  pub place : ℕ
  pub slot : Slot
  pub there : slot_at slots place ≡ Some slot
  pub session : slot.session ≡ s
  pub clerk : o.0 ≡ b + place
  pub age : o.1 ≡ slot.age

pub owner-of : (slots : Slots) (b s : ℕ) (o : ℕ × Age) → owner_from b slots s ≡ Some o → Owns b slots s o
owner-of [] b s o p = absurd (none_some p)
owner-of (None ∷ slots) b s o p = let q = owner-of slots (b + 1) s o p in
    record { place = suc q.place; slot = q.slot; there = q.there; session = q.session; clerk = q.clerk ∙ next b q.place; age = q.age }
  where
    next : (b c : ℕ) → (b + 1) + c ≡ b + suc c
    next b c = omega arith
owner-of (Some a ∷ slots) b s o p = go (a.session == s) refl p (λ q. owner-of slots (b + 1) s o q)
  where
    next : (b c : ℕ) → (b + 1) + c ≡ b + suc c
    next b c = omega arith

    none : (b : ℕ) → b ≡ b + 0
    none b = omega arith

    go : (z : Bool) → (a.session == s) ≡ z → elim z as (λ y. Option (ℕ × Age)) [ true ↦ Some (b, a.age) | false ↦ owner_from (b + 1) slots s ] ≡ Some o → (owner_from (b + 1) slots s ≡ Some o → Owns (b + 1) slots s o) → Owns b (Some a ∷ slots) s o
    go true e m f = record { place = 0; slot = a; there = refl; session = equal a.session s e; clerk = sym (ap (λ z. z.0) (same_some m)) ∙ none b; age = sym (ap (λ z. z.1) (same_some m)) }
    go false e m f = let q = f m in record { place = suc q.place; slot = q.slot; there = q.there; session = q.session; clerk = q.clerk ∙ next b q.place; age = q.age }

-- what holds of each session of the slots
pub of-sessions : (P : ℕ → Bool) (slots : Slots) → T (list_all P (sessions_of slots)) → (c : ℕ) (sl : Slot) → slot_at slots c ≡ Some sl → T (P sl.session)
of-sessions P [] h c sl p = absurd (none_some p)
of-sessions P (None ∷ slots) h zero sl p = absurd (none_some p)
of-sessions P (None ∷ slots) h (suc c) sl p = of-sessions P slots h c sl p
of-sessions P (Some a ∷ slots) h zero sl p = subst (λ z. T (P z.session)) (same_some p) (and_first (P a.session) (list_all P (sessions_of slots)) h)
of-sessions P (Some a ∷ slots) h (suc c) sl p = of-sessions P slots (and_next (P a.session) (list_all P (sessions_of slots)) h) c sl p

-- Boots.

pub boots-at : (slots : Slots) (b c : ℕ) → at_or 0 (b + c) (boots_from b (all_ended slots)) ≡ session_boot (slot_at slots c)
boots-at [] b c = refl
boots-at (None ∷ slots) b zero = ap (λ z. or_else 0 z) (below slots (b + 1) (b + 0) (omega arith))
  where
    below : (slots : Slots) (b k : ℕ) → k < b → at k (boots_from b (all_ended slots)) ≡ None
    below [] b k l = refl
    below (None ∷ slots) b k l = below slots (b + 1) k (omega arith)
    below (Some a ∷ slots) b k l = ap (λ z. cond z (Some ((closed a).age).boot) (at k (boots_from (b + 1) (all_ended slots)))) (sym (unsigned_ties k b) ∙ less k b l) ∙ below slots (b + 1) k (omega arith)
      where
        less : (k b : ℕ) → k < b → (k == b) ≡ false
        less k b l = grind arith
boots-at (None ∷ slots) b (suc c) = ap (λ n. at_or 0 n (boots_from (b + 1) (all_ended slots))) (next b c) ∙ boots-at slots (b + 1) c
  where
    next : (b c : ℕ) → b + suc c ≡ (b + 1) + c
    next b c = omega arith
boots-at (Some a ∷ slots) b zero = ap (λ z. or_else 0 (cond z (Some ((closed a).age).boot) (at (b + 0) (boots_from (b + 1) (all_ended slots))))) (sym (unsigned_ties (b + 0) b) ∙ here b) ∙ by a.is_open
  where
    here : (b : ℕ) → (b + 0 == b) ≡ true
    here b = grind arith

    by : (z : Bool) → ((cond z (record a { is_open = false; unspent = [] }) a).age).boot ≡ (a.age).boot
    by true = refl
    by false = refl
boots-at (Some a ∷ slots) b (suc c) = ap (λ z. or_else 0 (cond z (Some ((closed a).age).boot) (at (b + suc c) (boots_from (b + 1) (all_ended slots))))) (sym (unsigned_ties (b + suc c) b) ∙ above b c)
    ∙ ap (λ n. at_or 0 n (boots_from (b + 1) (all_ended slots))) (next b c) ∙ boots-at slots (b + 1) c
  where
    above : (b c : ℕ) → (b + suc c == b) ≡ false
    above b c = grind arith

    next : (b c : ℕ) → b + suc c ≡ (b + 1) + c
    next b c = omega arith
