-- What a turn does to the counts.
use Rattle.std.proofs.Common.{◌≡◌, ℕ, ◌≤◌, ◌-◌, refl, ap, ◌∙◌, arith, Option, Some, None, Bool, true, false}
use Rattle.std.proofs.lemmas.Bool.Decides.{nat_tests}
use Rattle.std.specs.Prelude.{IsSome}
use Rattle.ec_disk.specs.Disk.{Counts, after_calls}
use Rattle.ec_disk.specs.Effects.{Counted, IsUnarmed}
use Rattle.ec_disk.specs.Turns.{turn_of, is_due, has_stopped, faults_after, stops_after}
use Rattle.ec_disk.specs.declared.turns.Turns.{Turns}
use Rattle.ec_disk.specs.declared.turns.Turn.{Turn}
use Rattle.ec_disk.specs.declared.turns.Turn.TheVariants as turn

-- a call that fails or stops raises its count
pub counted : (old new : Counts) (t : Turn) → new.faults ≡ faults_after t old.faults → new.stops ≡ stops_after t old.stops → old.faults ≤ new.faults → old.stops ≤ new.stops → (t ≡ turn.Stops → IsSome old.armed) → (IsSome new.armed → IsSome old.armed) → (IsUnarmed old.armed → IsUnarmed new.armed) → (t ≡ turn.Stops → IsUnarmed new.armed)
    → Counted old new (t ≡ turn.Fails) (t ≡ turn.Stops)
counted old new t faults stops more_faults more_stops armed rearmed stays over = record {
  faults_later = more_faults;
  stops_later = more_stops;
  failed = λ is. omega (arith, faults ∙ ap (λ u. faults_after u old.faults) is);
  stopped = λ is. omega (arith, stops ∙ ap (λ u. stops_after u old.stops) is);
  armed = armed;
  not_rearmed = rearmed;
  stays = stays;
  over = over;
}

pub stops_where_due : (b : Bool) (t : Turns) → turn_of b t ≡ turn.Stops → b ≡ true
stops_where_due true t is = refl
stops_where_due false t is = absurd (grind (arith, is))

pub due_armed : (armed : Option ℕ) → is_due armed ≡ true → IsSome armed
due_armed None is = absurd (grind (arith, is))
due_armed (Some n) is = grind arith

pub stopped_armed : (armed : Option ℕ) → has_stopped armed ≡ true → IsSome armed
stopped_armed None is = absurd (grind (arith, is))
stopped_armed (Some n) is = grind arith

pub less_armed : (armed : Option ℕ) → IsSome (after_calls 1 armed) → IsSome armed
less_armed None is = is
less_armed (Some n) is = grind arith

pub due_over : (armed : Option ℕ) → is_due armed ≡ true → IsUnarmed (after_calls 1 armed)
due_over None is = tt
due_over (Some n) is = ends n (grind (arith, nat_tests, is))
  where
    ends : (k : ℕ) → k ≤ 1 → k - 1 ≡ 0
    ends k le = omega (arith, le)

pub stopped_over : (armed : Option ℕ) → has_stopped armed ≡ true → IsUnarmed armed
stopped_over None is = tt
stopped_over (Some n) is = grind (arith, nat_tests, is)

pub less_over : (armed : Option ℕ) → IsUnarmed armed → IsUnarmed (after_calls 1 armed)
less_over None over = tt
less_over (Some n) over = omega (arith, over)
