-- What is known of the steps of a run, by its parts.
use Rattle.std.proofs.Common.{◌≡◌, ◌⊎◌, ◌≤◌, ◌∙◌, ℕ, List, [], ◌∷◌, ◌++◌, refl, inl, inr, ⊎_elim, Option, Some, None, ap, subst, sym}
use Rattle.std.specs.Prelude.{IsSome}
use Rattle.ec_base.specs.Outside.{Rose}
use Rattle.ec_disk.specs.Disk.{Counts}
use Rattle.ec_disk.specs.declared.disk.Choice.{Choice}
use Rattle.ec_durable.specs.declared.state.Durable.{Durable}
use Rattle.ec_protocol.specs.World.{Fate, runs, stops_without, stops_with}
use Rattle.ec_protocol.specs.Drill.{Fates}
use Rattle.ec_protocol.specs.declared.world.Event.{Event}
use Rattle.ec_protocol.specs.declared.world.Event.TheVariants as event
use Rattle.ec_world.specs.StepEnds.{HasStopped, FateOf, IsTold, CountsOf, behind_arm}
use Rattle.ec_history.specs.History.{Each}
use Rattle.ec_drill.specs.Fates.{AllRun, IsKnown}
use Rattle.ec_drill.specs.RunFates.{AreOf}
use Rattle.ec_drill.specs.Steps.{Fares, AreOfLine}
use Rattle.ec_base.proofs.OutsideLemmas.{rose_later}
use Rattle.ec_world.proofs.Arms.{rose-later as rose_then}

pub known_first : (tells : Type 0) (a b c : ℕ) → b ≤ c → IsKnown tells a c → IsKnown tells a b
known_first tells a b c le (inl told) = inl told
known_first tells a b c le (inr still) = inr (λ r. still (rose_then a b c r le))

pub known_later : (tells : Type 0) (a b c : ℕ) → a ≤ b → IsKnown tells a c → IsKnown tells b c
known_later tells a b c le (inl told) = inl told
known_later tells a b c le (inr still) = inr (λ r. still (rose_later a b c le r))

stopped_told : (tells : Type 0) (old new : Counts) → HasStopped old new → IsKnown tells old.stops new.stops → tells
stopped_told tells old new h (inl told) = told
stopped_told tells old new h (inr still) = absurd (still h.stops)

pub told_if_known : (tells : Type 0) (f : Fate) (old new : Counts) → Fares f old new → IsKnown tells old.stops new.stops → IsTold f tells
told_if_known tells runs old new h known = tt
told_if_known tells stops_without old new h known = stopped_told tells old new h known
told_if_known tells stops_with old new h known = stopped_told tells old new h known

pub none_is_some : (a : Option ℕ) → a ≡ None → IsSome a → ⊥
none_is_some None e h = cc
none_is_some (Some n) e h = cc

-- a disk that isn't armed runs
pub unarmed_runs : (f : Fate) (before after : Durable) (old new : Counts) → old.armed ≡ None → FateOf f before after old new → f ≡ runs
unarmed_runs runs before after old new un h = refl
unarmed_runs stops_without before after old new un h = absurd (none_is_some old.armed un h.armed)
unarmed_runs stops_with before after old new un h = absurd (none_is_some old.armed un h.armed)

some_none : (n : ℕ) → ◌≡◌ {A = Option ℕ} (Some n) None → ⊥
some_none n e = cc

-- an arm isn't none
arms_none : (n : ℕ) (ch : Choice) (old new : Counts) (F N A : Type 0) → (N → ⊥) → new.armed ≡ None → CountsOf (event.Arm n ch) old new F N → A
arms_none n ch old new F N A has none counts = ⊎_elim (λ arms. absurd (some_none n (sym (ap (λ (c : Counts). c.armed) arms) ∙ none))) (λ wants. absurd (has wants.0)) counts.0

-- what the disk did in a step that was done
pub fares : (e : Event) (f : Fate) (before after : Durable) (old new : Counts) (F N : Type 0) → (N → ⊥) → FateOf f before after (behind_arm e old) new → CountsOf e old new F N → Fares f old new
fares e runs before after old new F N has h counts = tt
fares (event.Arm n ch) stops_without before after old new F N has h counts = arms_none n ch old new F N (HasStopped old new) has h.disarmed counts
fares (event.Arm n ch) stops_with before after old new F N has h counts = arms_none n ch old new F N (HasStopped old new) has h.disarmed counts
fares (event.Call c line cl) stops_without before after old new F N has h counts = h
fares (event.Call c line cl) stops_with before after old new F N has h counts = h
fares (event.Push c m) stops_without before after old new F N has h counts = h
fares (event.Push c m) stops_with before after old new F N has h counts = h
fares (event.Resend c) stops_without before after old new F N has h counts = h
fares (event.Resend c) stops_with before after old new F N has h counts = h
fares (event.Cut c) stops_without before after old new F N has h counts = h
fares (event.Cut c) stops_with before after old new F N has h counts = h
fares (event.Uncut c) stops_without before after old new F N has h counts = h
fares (event.Uncut c) stops_with before after old new F N has h counts = h
fares (event.Drop m) stops_without before after old new F N has h counts = h
fares (event.Drop m) stops_with before after old new F N has h counts = h
fares (event.Repeat m) stops_without before after old new F N has h counts = h
fares (event.Repeat m) stops_with before after old new F N has h counts = h
fares (event.Deliver m) stops_without before after old new F N has h counts = h
fares (event.Deliver m) stops_with before after old new F N has h counts = h
fares (event.Crash c) stops_without before after old new F N has h counts = h
fares (event.Crash c) stops_with before after old new F N has h counts = h
fares (event.End c) stops_without before after old new F N has h counts = h
fares (event.End c) stops_with before after old new F N has h counts = h
fares event.Stop stops_without before after old new F N has h counts = h
fares event.Stop stops_with before after old new F N has h counts = h
fares event.Restart stops_without before after old new F N has h counts = h
fares event.Restart stops_with before after old new F N has h counts = h

runs-push : (fs : Fates) (f : Fate) → AllRun fs → f ≡ runs → AllRun (fs ++ f ∷ [])
runs-push [] f h e = (e, tt)
runs-push (g ∷ fs) f h e = (h.0, runs-push fs f h.1 e)

each-push : (fs : List Fates) (f : Fates) → Each AllRun fs → AllRun f → Each AllRun (fs ++ f ∷ [])
each-push [] f h e = (e, tt)
each-push (g ∷ fs) f h e = (h.0, each-push fs f h.1 e)

-- one step more
pub one_fate : (fs : Fates) (f : Fate) (a : ℕ) (old new : Counts) → a ≤ old.stops → old.stops ≤ new.stops → AllRun fs ⊎ Rose a old.stops → Fares f old new → AllRun (fs ++ f ∷ []) ⊎ Rose a new.stops
one_fate fs f a old new le later (inr r) h = inr (rose_then a old.stops new.stops r later)
one_fate fs f a old new le later (inl all) h = by f h
  where
    by : (f : Fate) → Fares f old new → AllRun (fs ++ f ∷ []) ⊎ Rose a new.stops
    by runs h = inl (runs-push fs runs all refl)
    by stops_without h = inr (rose_later a old.stops new.stops le h.stops)
    by stops_with h = inr (rose_later a old.stops new.stops le h.stops)

-- the step of a line's event before those that settle it
pub fate_before : (f : Fate) (fs : Fates) (old mid new : Counts) → old.stops ≤ mid.stops → mid.stops ≤ new.stops → Fares f old mid → AreOfLine fs mid new → AreOfLine (f ∷ fs) old new
fate_before f fs old mid new le later h (inr r) = inr (rose_later old.stops mid.stops new.stops le r)
fate_before f fs old mid new le later h (inl all) = by f h
  where
    by : (f : Fate) → Fares f old mid → AreOfLine (f ∷ fs) old new
    by runs h = inl (refl, all)
    by stops_without h = inr (rose_then old.stops mid.stops new.stops h.stops later)
    by stops_with h = inr (rose_then old.stops mid.stops new.stops h.stops later)

-- one line more
pub one_line : (fs : List Fates) (f : Fates) (a b : ℕ) (old new : Counts) → old.stops ≡ b → a ≤ b → old.stops ≤ new.stops → AreOf fs a b → AreOfLine f old new → AreOf (fs ++ f ∷ []) a new.stops
one_line fs f a b old new e le later (inr r) h = inr (rose_then a b new.stops r (subst (λ (n : ℕ). n ≤ new.stops) e later))
one_line fs f a b old new e le later (inl all) (inl h) = inl (each-push fs f all h)
one_line fs f a b old new e le later (inl all) (inr r) = inr (rose_later a old.stops new.stops (subst (λ (n : ℕ). a ≤ n) (sym e) le) r)

-- a later end
pub are_to : (fs : List Fates) (a b c : ℕ) → b ≤ c → AreOf fs a b → AreOf fs a c
are_to fs a b c le (inl all) = inl all
are_to fs a b c le (inr r) = inr (rose_then a b c r le)
