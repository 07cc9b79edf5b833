-- The counts of a disk that may stop, and of one that may not.
use Rattle.std.proofs.Common.{◌≡◌, ◌⊎◌, ◌≤◌, ℕ, Bool, true, false, ◌||◌, List, Option, None, Some, refl, arith, inl, inr}
use Rattle.std.specs.Prelude.{IsSome}
use Rattle.ec_base.specs.Outside.{Rose}
use Rattle.ec_disk.specs.Disk.{Counts}
use Rattle.ec_protocol.specs.World.{Fate, runs, stops_without, stops_with}
use Rattle.ec_protocol.specs.Drill.{Fates}
use Rattle.ec_drill.specs.ArmedSteps.{IsCalm, heard}
use Rattle.ec_history.specs.History.{Each}
use Rattle.ec_drill.specs.Fates.{AllRun, IsKnown}
use Rattle.ec_drill.specs.RunFates.{AreOf}
use Rattle.ec_drill.specs.Steps.{Fares, IsLater}
use Rattle.ec_drill.proofs.Known.{none_is_some}
use Rattle.ec_base.proofs.OutsideLemmas.{rose_later}

pub heard_later : (m : Bool) (a b : Counts) → a.stops ≤ b.stops → (heard m a).stops ≤ (heard m b).stops
heard_later true a b le = le
heard_later false a b le = omega arith

pub heard_is_later : (m : Bool) (a b : Counts) (P : Type 0) → IsLater a b P → IsLater (heard m a) (heard m b) P
heard_is_later m a b P h = record { faults = h.faults; stops = heard_later m a b h.stops; failed = h.failed }

-- a step on a disk that may not stop runs
pub heard_fate : (m : Bool) (f : Fate) (old new : Counts) → (m ≡ false → old.armed ≡ None) → Fares f old new → Fares f (heard m old) (heard m new)
heard_fate m runs old new un h = tt
heard_fate true stops_without old new un h = record { stops = h.stops; armed = h.armed; disarmed = h.disarmed }
heard_fate true stops_with old new un h = record { stops = h.stops; armed = h.armed; disarmed = h.disarmed }
heard_fate false stops_without old new un h = absurd (none_is_some old.armed (un refl) h.armed)
heard_fate false stops_with old new un h = absurd (none_is_some old.armed (un refl) h.armed)

-- a disk that isn't armed, and is armed only where it was, isn't armed
pub still_none : (a b : Option ℕ) → (IsSome b → IsSome a) → a ≡ None → b ≡ None
still_none a None back none = refl
still_none (Some n) (Some m) back none = absurd (none_is_some (Some n) none (some n))
  where
    some : (m : ℕ) → IsSome (Some m)
    some m = refl
still_none None (Some m) back none = absurd (none_is_some None refl (back (some m)))
  where
    some : (m : ℕ) → IsSome (Some m)
    some m = refl

neither : (a b : Bool) → (a || b) ≡ false → (a ≡ false) × (b ≡ false)
neither false b h = (refl, h)
neither true b h = absurd (apart h)
  where
    apart : true ≡ false → ⊥
    apart h = cc

-- what holds of a line, and behind it
pub calm_now : (m a b : Bool) (c : Counts) → IsCalm m (a || b) c → IsCalm m a c
calm_now m a b c calm e = ((neither a b (calm e).0).0, (calm e).1)

pub calm_on : (m a b : Bool) (old new : Counts) → (a ≡ false → IsSome new.armed → IsSome old.armed) → IsCalm m (a || b) old → IsCalm m b new
calm_on m a b old new quiet calm e =
    let none = neither a b (calm e).0 in
    (none.1, still_none old.armed new.armed (quiet none.0) (calm e).1)

-- What is known of a run.

never_rose : Rose 0 0 → ⊥
never_rose r = absurd (grind (arith, r))

pub heard_known : (m : Bool) (tells : Type 0) (old new : Counts) → IsKnown tells old.stops new.stops → IsKnown tells (heard m old).stops (heard m new).stops
heard_known m tells old new (inl told) = inl told
heard_known true tells old new (inr still) = inr still
heard_known false tells old new (inr still) = inr never_rose

pub heard_none : (m : Bool) → m ≡ false → (tells : Type 0) (old new : Counts) → IsKnown tells (heard m old).stops (heard m new).stops
heard_none false e tells old new = inr never_rose
heard_none true e tells old new = absurd (apart e)
  where
    apart : true ≡ false → ⊥
    apart e = cc

pub heard_stops : (m : Bool) (fates : List Fates) (first mid new : Counts) → first.stops ≤ mid.stops → AreOf fates (heard m mid).stops (heard m new).stops → Each AllRun fates ⊎ ((m ≡ true) × Rose first.stops new.stops)
heard_stops m fates first mid new le (inl all) = inl all
heard_stops true fates first mid new le (inr r) = inr (refl, rose_later first.stops mid.stops new.stops le r)
heard_stops false fates first mid new le (inr r) = absurd (never_rose r)
