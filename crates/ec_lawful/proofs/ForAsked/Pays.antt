-- What a record pays: the end of a session that it shows is one that a crashed start had to spare, or that was asked for.
use Rattle.std.proofs.Common.{◌≡◌, refl, sym, ap, subst, ◌∙◌, arith, ◌<◌, ◌≤◌, ◌+◌, ◌-◌, ℕ, T, Bool, true, false, ◌==◌, ◌||◌, ◌&&◌, Option, None, Some}
use Rattle.std.specs.Prelude.{nat_lt, Ok, ⊤}
use Rattle.ec_base.specs.Ages.{is_older}
use Rattle.ec_base.specs.declared.ids.Age.{Age}
use Rattle.ec_sessions.specs.Slots as slots
use Rattle.ec_sessions.specs.declared.slot.Slot.{Slot}
use Rattle.ec_durable.specs.Durable.{slot, step}
use Rattle.ec_durable.specs.declared.state.Durable.{Durable}
use Rattle.ec_durable.specs.declared.record.Record.{Record}
use Rattle.ec_durable.specs.declared.record.Record.TheVariants.{Batch, Open, End, Ids, Epoch}
use Rattle.ec_protocol.specs.World.{ended_in, noted, session_boot}
use Rattle.ec_protocol.specs.declared.world.Noted.{Noted}
use Rattle.ec_protocol.specs.declared.world.Noted.TheVariants as noted_of
use Rattle.ec_coherence.proofs.ForBatches.Carried.{slot-same}
use Rattle.ec_coherence.proofs.ForServer.Tables.{differs}
use Rattle.ec_lawful.proofs.OfClerkSteps.ForJoins.Steps.{epoch-own, open-is, open-others, open-steps}
use Rattle.ec_lawful.specs.Asked.{passed, seat, to_end}
use Rattle.ec_lawful.proofs.ForAsked.Seats.{batch-seat, end-seat, ids-seat}
use Rattle.ec_base.specs.Bools.{one_if}
use Rattle.ec_base.proofs.Numbers.{same-self as same, equal}
use Rattle.ec_base.proofs.Bools.{holds-true as holds}

-- a session comes in the place of an open one of this run only by a later start that began
abbrev pub MayOpen : (ℕ → ℕ) → (ℕ → ℕ) → Durable → Record → Type 0
MayOpen first tops d (Open c age s) = (sl : Slot) → slot d c ≡ Some sl → T sl.is_open → (first c < (sl.age).boot) × ((sl.age).boot < age.boot) × (age.boot ≤ tops c)
MayOpen first tops d _ = ⊤

-- so many ends are asked for by the record itself
abbrev pub asks_for : Record → ℕ → ℕ
asks_for (End d s) c = one_if (c == d)
asks_for _ c = 0

abbrev pub Pays : ℕ → ℕ → ℕ → Durable → Durable → Record → Type 0
Pays f n c d e r = to_end c (noted d r) + (n - passed f (seat c e)) ≤ (n - passed f (seat c d)) + asks_for r c

passed-more : (f a b : ℕ) → a ≤ b → passed f a ≤ passed f b
passed-more f a b p = go (nat_lt f a) (nat_lt f b) refl refl
  where
    below : (f a b : ℕ) → nat_lt f a ≡ true → a ≤ b → nat_lt f b ≡ false → ⊥
    below f a b p q r = absurd (grind arith)

    above : (f b : ℕ) → nat_lt f b ≡ true → f + 1 ≤ b
    above f b q = grind arith

    go : (x y : Bool) → nat_lt f a ≡ x → nat_lt f b ≡ y → elim x as (λ z. ℕ) [ true ↦ a | false ↦ f + 1 ] ≤ elim y as (λ z. ℕ) [ true ↦ b | false ↦ f + 1 ]
    go true true q r = p
    go false true q r = above f b r
    go false false q r = omega arith
    go true false q r = absurd (below f a b q p r)

passed-of : (f a : ℕ) → f < a → passed f a ≡ a
passed-of f a p = ap (λ z. elim z as (λ y. ℕ) [ true ↦ a | false ↦ f + 1 ]) (yes f a p)
  where
    yes : (f a : ℕ) → f < a → nat_lt f a ≡ true
    yes f a p = grind arith

older-boot : (a b : Age) → is_older a b ≡ true → a.boot ≤ b.boot
older-boot a b e = go (nat_lt a.boot b.boot) (a.boot == b.boot) refl refl e
  where
    less : (n m : ℕ) → nat_lt n m ≡ true → n ≤ m
    less n m q = grind arith

    alike : (n m : ℕ) → (n == m) ≡ true → n ≤ m
    alike n m q = grind arith

    go : (x y : Bool) → nat_lt a.boot b.boot ≡ x → (a.boot == b.boot) ≡ y → (x || (y && nat_lt a.round b.round)) ≡ true → a.boot ≤ b.boot
    go true y q r e = less a.boot b.boot q
    go false true q r e = alike a.boot b.boot r
    go false false q r e = absurd (cc)

-- nothing ends, and the boot is the same or greater
idle-pays : (k n p q : ℕ) → k ≡ 0 → p ≤ q → k + (n - q) ≤ (n - p) + 0
idle-pays k n p q e l = omega (arith, e, l)

-- the open session ends, and a later start has its place
over-pays : (n p q : ℕ) → p < q → q ≤ n → 1 + (n - q) ≤ (n - p) + 0
over-pays n p q l m = omega (arith, l, m)

-- one ends that is asked for
asked-pays : (k n p a : ℕ) → k ≤ a → k + (n - p) ≤ (n - p) + a
asked-pays k n p a l = omega (arith, l)

same-le : (a b : ℕ) → a ≡ b → b ≤ a
same-le a b e = omega (arith, e)

-- what the end of the session of a slot is to show
ended-less : (c d : ℕ) (o : Option Slot) → to_end c (ended_in d o) ≤ one_if (c == d)
ended-less c d None = omega arith
ended-less c d (Some sl) = go sl.is_open
  where
    go : (z : Bool) → to_end c (elim z as (λ y. Option Noted) [ true ↦ Some (noted_of.Ended d (sl.age).boot) | false ↦ None ]) ≤ one_if (c == d)
    go true = omega arith
    go false = omega arith

ended-none : (c d : ℕ) (o : Option Slot) → (c == d) ≡ false → to_end c (ended_in d o) ≡ 0
ended-none c d o e = none (to_end c (ended_in d o)) (subst (λ z. to_end c (ended_in d o) ≤ one_if z) e (ended-less c d o))
  where
    none : (n : ℕ) → n ≤ 0 → n ≡ 0
    none n p = omega (arith, p)

module _ (first tops : ℕ → ℕ) (d e : Durable) (c : ℕ) where
  still : (r : Record) → to_end c (noted d r) ≡ 0 → asks_for r c ≡ 0 → seat c e ≡ seat c d → Pays (first c) (tops c) c d e r
  still r z a q = subst (λ k. to_end c (noted d r) + (tops c - passed (first c) (seat c e)) ≤ (tops c - passed (first c) (seat c d)) + k) (sym a)
      (idle-pays (to_end c (noted d r)) (tops c) (passed (first c) (seat c d)) (passed (first c) (seat c e)) z (same-le (passed (first c) (seat c e)) (passed (first c) (seat c d)) (ap (passed (first c)) q)))

  module _ (age : Age) (s : ℕ) (steps : step (Open c age s) d ≡ Ok e) (may : MayOpen first tops d (Open c age s)) where
    own : (o : Option Slot) → slot d c ≡ o → to_end c (ended_in c o) + (tops c - passed (first c) (seat c e)) ≤ (tops c - passed (first c) (session_boot o)) + 0
    own None q = idle-pays 0 (tops c) (passed (first c) 0) (passed (first c) (seat c e)) refl (passed-more (first c) 0 (seat c e) (omega arith))
    own (Some sl) q = go sl.is_open refl
      where
        now : seat c e ≡ age.boot
        now = ap (seat c) (open-is c age s d e steps) ∙ ap session_boot (slot-same (record d { next_session = s + 1 }) c sl (Some (slots.new_slot age s)) q)

        greater : is_older sl.age age ≡ true
        greater = sym (ap (λ o. slots.is_greater o age) q) ∙ (open-steps c age s d e steps).0

        go : (z : Bool) → sl.is_open ≡ z → to_end c (elim z as (λ y. Option Noted) [ true ↦ Some (noted_of.Ended c (sl.age).boot) | false ↦ None ]) + (tops c - passed (first c) (seat c e)) ≤ (tops c - passed (first c) (sl.age).boot) + 0
        go false x = idle-pays 0 (tops c) (passed (first c) (sl.age).boot) (passed (first c) (seat c e)) refl (passed-more (first c) (sl.age).boot (seat c e) (subst (λ n. (sl.age).boot ≤ n) (sym now) (older-boot sl.age age greater)))
        go true x =
            let m = may sl q (holds sl.is_open x) in
            subst (λ z. one_if z + (tops c - passed (first c) (seat c e)) ≤ (tops c - passed (first c) (sl.age).boot) + 0) (sym (same c))
            (over-pays (tops c) (passed (first c) (sl.age).boot) (passed (first c) (seat c e))
            (subst (λ n. n < passed (first c) (seat c e)) (sym (passed-of (first c) (sl.age).boot m.0)) (subst (λ n. (sl.age).boot < n) (sym (there m)) m.1))
            (subst (λ n. n ≤ tops c) (sym (there m)) m.2))
          where
            further : (f a b : ℕ) → f < a → a < b → f < b
            further f a b p q = omega (arith, p, q)

            there : (first c < (sl.age).boot) × ((sl.age).boot < age.boot) × (age.boot ≤ tops c) → passed (first c) (seat c e) ≡ age.boot
            there m = ap (passed (first c)) now ∙ passed-of (first c) age.boot (further (first c) (sl.age).boot age.boot m.0 m.1)

  pub pays : (r : Record) → step r d ≡ Ok e → MayOpen first tops d r → Pays (first c) (tops c) c d e r
  pays (Batch f s b ops) p may = still (Batch f s b ops) refl refl (batch-seat c f s b ops d e p)
  pays (Ids f s got n) p may = still (Ids f s got n) refl refl (ids-seat c f s got n d e p)
  pays (Epoch n) p may = still (Epoch n) refl refl (ap (seat c) (epoch-own n d e p))
  pays (End f s) p may = subst (λ n. to_end c (ended_in f (slot d f)) + (tops c - passed (first c) n) ≤ (tops c - passed (first c) (seat c d)) + one_if (c == f)) (sym (end-seat c f s d e p))
      (asked-pays (to_end c (ended_in f (slot d f))) (tops c) (passed (first c) (seat c d)) (one_if (c == f)) (ended-less c f (slot d f)))
  pays (Open f age s) p may = go (c == f) refl
    where
      go : (z : Bool) → (c == f) ≡ z → Pays (first c) (tops c) c d e (Open f age s)
      go false q = still (Open f age s) (ended-none c f (slot d f) q) refl (ap session_boot (open-others f c (differs c f q) age s d e p))
      go true q =
          let is = equal c f q in
          subst (λ x. to_end c (ended_in x (slot d x)) + (tops c - passed (first c) (seat c e)) ≤ (tops c - passed (first c) (seat c d)) + 0) is
          (own age s (subst (λ x. step (Open x age s) d ≡ Ok e) (sym is) p) (subst (λ x. MayOpen first tops d (Open x age s)) (sym is) may) (slot d c) refl)
