-- Slots of open sessions, and the sessions of a start.
use Rattle.std.proofs.Common.{◌≡◌, refl, sym, ap, subst, ◌∙◌, inl, inr, arith, ℕ, zero, suc, true, T, List, [], ◌∷◌}
use Rattle.std.specs.Prelude.{◌==◌, Option, None, Some}
use Rattle.std.specs.List.{list_any}
use Rattle.ec_history.specs.History.{Op, of_start}
use Rattle.ec_sessions.specs.Slots.{slot_at}
use Rattle.ec_sessions.specs.declared.slot.Slot.{Slot}
use Rattle.ec_durable.specs.Durable.{slot}
use Rattle.ec_coherence.specs.System.{System, is_open, is_open_slot, is_of}
use Rattle.ec_coherence.specs.Sessions.{SessionsAgree}
use Rattle.ec_coherence.proofs.ForServer.Tables.{same_some}
use Rattle.ec_coherence.proofs.ForServer.Lists.{or_else}
use Rattle.ec_base.proofs.Bools.{left as and_first, and-both as and_both, or-right as or_next, right as and_next, or_first, is-true, holds-true as holds}
use Rattle.ec_base.proofs.Options.{none_some}
use Rattle.ec_base.proofs.Numbers.{equal}

abbrev pub OpenAt : List (Option Slot) → ℕ → ℕ → Slot → Type 0
OpenAt xs s c sl = (slot_at xs c ≡ Some sl) × (sl.session ≡ s) × T sl.is_open

slot-is : (s : ℕ) (o : Option Slot) → T (is_open_slot s o) → (sl : Slot) × (o ≡ Some sl) × (sl.session ≡ s) × T sl.is_open
slot-is s None t = absurd t
slot-is s (Some sl) t = (sl, refl, equal sl.session s (is-true (sl.session == s) (and_next sl.is_open _ t)), and_first sl.is_open _ t)

pub open-at : (s : ℕ) (xs : List (Option Slot)) → T (list_any (is_open_slot s) xs) → (c : ℕ) × (sl : Slot) × OpenAt xs s c sl
open-at s [] h = absurd h
open-at s (o ∷ xs) h = elim (or_else (is_open_slot s o) (list_any (is_open_slot s) xs) h) [
  | inl t ↦ let q = slot-is s o t in (0, q.0, (q.1, q.2, q.3))
  | inr r ↦ let q = open-at s xs r in (suc q.0, q.1, q.2)
]

pub at-open : (s : ℕ) (xs : List (Option Slot)) (c : ℕ) (sl : Slot) → OpenAt xs s c sl → T (list_any (is_open_slot s) xs)
at-open s [] c sl h = absurd (none_some h.0)
at-open s (o ∷ xs) zero sl h = or_first (is_open_slot s o) _ (subst (λ p. T (is_open_slot s p)) (sym h.0) (and_both sl.is_open (sl.session == s) h.2 (holds (sl.session == s) (ap (λ t. t == s) h.1 ∙ self s))))
  where
    self : (s : ℕ) → (s == s) ≡ true
    self s = grind arith
at-open s (o ∷ xs) (suc c) sl h = or_next (is_open_slot s o) _ (at-open s xs c sl h)

-- Two open sessions of one start are one.
module _ (g : System) (sa : SessionsAgree g) where
  pub owner-slot : (s : ℕ) → T (is_open g s) → (c : ℕ) × (sl : Slot) × OpenAt g.durable.sessions s c sl × (g.ghost.owner s ≡ Some (c, sl.age))
  owner-slot s o = let q = open-at s g.durable.sessions o in (q.0, q.1, q.2, ap g.ghost.owner (sym (q.2).1) ∙ (sa.slots q.0 q.1 (q.2).0).2)

  pub one-owner : (s t : ℕ) (o : Op) → T (is_open g s) → T (is_open g t) → T (is_of (g.ghost.owner s) o) → T (is_of (g.ghost.owner t) o) → s ≡ t
  one-owner s t o p q f h =
      let a = owner-slot s p in
      let b = owner-slot t q in
      let fa : T (of_start a.0 ((a.1).age).boot o) = subst (λ z. T (is_of z o)) a.3 f in
      let fb : T (of_start b.0 ((b.1).age).boot o) = subst (λ z. T (is_of z o)) b.3 h in
      let clerks : a.0 ≡ b.0 = equal a.0 o.clerk (is-true (a.0 == o.clerk) (and_first (a.0 == o.clerk) _ fa)) ∙ sym (equal b.0 o.clerk (is-true (b.0 == o.clerk) (and_first (b.0 == o.clerk) _ fb))) in
      let slots : a.1 ≡ b.1 = same_some (sym (a.2).0 ∙ ap (slot g.durable) clerks ∙ (b.2).0) in
      sym (a.2).1 ∙ ap (λ z. z.session) slots ∙ (b.2).1
