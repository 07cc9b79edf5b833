-- The N-th call from an arm stops, and no other.
use Rattle.std.proofs.Common.{◌≡◌, subst, ap, ◌∙◌, arith, ◌≤◌, ◌<◌, ◌+◌, ◌-◌, ℕ, zero, suc, Option, Some, None}
use Rattle.ec_disk.specs.Effects.{CountsDown, IsDue}
use Rattle.ec_disk.specs.OfArm.Calls.{AreDone, Stops}

-- what is left behind so many calls
left : (k n : ℕ) (mid : Option ℕ) → 1 ≤ n → AreDone k (Some n) mid → (k < n) × (mid ≡ Some (n - k))
left zero n mid le h = (omega (arith, le), h ∙ ap (λ (z : ℕ). Some z) (omega arith))
left (suc k) n mid le h =
    let down : CountsDown (Some n) h.0 (Unit {0}) ⊥ = h.1 in
    let two : 2 ≤ n = more n (down.goes tt) in
    let rest = left k (n - 1) mid (omega (arith, two)) (subst (λ z. AreDone k z mid) down.next h.2) in
    (omega (arith, rest.0, two), rest.1 ∙ ap (λ (z : ℕ). Some z) (omega arith))
  where
    more : (m : ℕ) → (IsDue (Some m) → ⊥) → 2 ≤ m
    more zero not_due = absurd (not_due (omega arith))
    more (suc zero) not_due = absurd (not_due (omega arith))
    more (suc (suc m)) not_due = omega arith

pub stops_at_last : (n done : ℕ) (mid new : Option ℕ) → 1 ≤ n → AreDone done (Some n) mid → Stops mid new → done + 1 ≡ n
stops_at_last n k mid b le done stops =
    let l = left k n mid le done in
    let due : n - k ≤ 1 = subst IsDue l.1 (stops.stops tt) in
    omega (arith, due, l.0)

pub not_past : (n done : ℕ) (mid : Option ℕ) → 1 ≤ n → AreDone done (Some n) mid → done < n
not_past n k mid le done = (left k n mid le done).0

pub never_unarmed : (done : ℕ) (mid new : Option ℕ) → AreDone done None mid → Stops mid new → ⊥
never_unarmed zero mid b done stops = subst IsDue done (stops.stops tt)
never_unarmed (suc k) mid b done stops = never_unarmed k mid b (subst (λ z. AreDone k z mid) (done.1).next done.2) stops
