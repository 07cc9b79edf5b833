-- The slot of a running start: it stands for the session that was opened with the start's age.
use Rattle.std.proofs.Common.{◌≡◌, refl, sym, ap, subst, ◌∙◌, inl, inr, ◌⊎◌, arith, ◌<◌, ℕ, Bool, true, false, ◌==◌, ◌&&◌, ◌||◌, T, Some}
use Rattle.std.specs.Prelude.{nat_lt}
use Rattle.ec_base.specs.Ages.{is_older}
use Rattle.ec_base.specs.declared.ids.Age.{Age}
use Rattle.ec_sessions.specs.declared.slot.Slot.{Slot}
use Rattle.ec_durable.specs.Durable.{slot}
use Rattle.ec_protocol.specs.declared.clerk.Clerk.{Clerk}
use Rattle.ec_coherence.specs.System.{System}
use Rattle.ec_coherence.specs.CommitLaws.{AllAgree}
use Rattle.ec_base.proofs.Numbers.{equal}

-- an older age has a lesser boot, or the same boot and a lesser round
pub older-by : (a b : Age) → T (is_older a b) → (a.boot < b.boot) ⊎ ((a.boot ≡ b.boot) × (a.round < b.round))
older-by a b o = by (nat_lt a.boot b.boot) (a.boot == b.boot) (nat_lt a.round b.round) refl refl refl o
  where
    less : (m n : ℕ) → nat_lt m n ≡ true → m < n
    less m n e = grind arith

    by : (x y z : Bool) → nat_lt a.boot b.boot ≡ x → (a.boot == b.boot) ≡ y → nat_lt a.round b.round ≡ z → T (x || (y && z)) → (a.boot < b.boot) ⊎ ((a.boot ≡ b.boot) × (a.round < b.round))
    by true y z p q r t = inl (less a.boot b.boot p)
    by false true true p q r t = inr (equal a.boot b.boot q, less a.round b.round r)
    by false true false p q r t = absurd t
    by false false z p q r t = absurd t

pub older-from : (a b : Age) → a.boot ≡ b.boot → a.round < b.round → T (is_older a b)
older-from a b e l = by (nat_lt a.boot b.boot) (a.boot == b.boot) (nat_lt a.round b.round) (same a.boot b.boot e) (less a.round b.round l)
  where
    same : (m n : ℕ) → m ≡ n → (m == n) ≡ true
    same m n e = grind arith

    less : (m n : ℕ) → m < n → nat_lt m n ≡ true
    less m n l = grind arith

    by : (x y z : Bool) → y ≡ true → z ≡ true → T (x || (y && z))
    by true y z p q = tt
    by false true true p q = tt
    by false true false p q = subst T (sym q) tt
    by false false z p q = subst T (sym p) tt

module _ (g : System) (all : AllAgree g) (c b : ℕ) (k : Clerk) (runs : g.running c ≡ Some b) (at-start : g.clerks c b ≡ Some k) where
  boot : k.age.boot ≡ b
  boot = ((all.0).sessions.starts c b k at-start).1

  -- no session of the clerk was opened with a later age
  pub none-later : (r : ℕ) (a : Age) → g.ghost.owner r ≡ Some (c, a) → T (is_older k.age a) → ⊥
  none-later r a o t = elim (older-by k.age a t) [
    | inl l ↦ absurd (let x = ((all.0).sessions.owned r (c, a) o).1 in let y = ((all.0).sessions.running c b runs).0 in let z = boot in omega arith)
    | inr q ↦ absurd (let x = ((all.3).owned r c a o).1 k (ap (g.clerks c) (sym q.0 ∙ boot) ∙ at-start) in let y = q.1 in omega arith)
  ]

  pub its-slot : (s : ℕ) → g.ghost.owner s ≡ Some (c, k.age) → (sl : Slot) × (slot g.durable c ≡ Some sl) × (sl.session ≡ s)
  its-slot s o = let q = (all.0).sessions.owned s (c, k.age) o in (q.2, q.3, go q.2 q.3 q.4)
    where
      go : (sl : Slot) → slot g.durable c ≡ Some sl → (sl.session ≡ s) ⊎ T (is_older k.age sl.age) → sl.session ≡ s
      go sl p (inl e) = e
      go sl p (inr t) = absurd (none-later sl.session sl.age ((all.0).sessions.slots c sl p).2 t)
