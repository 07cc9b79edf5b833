-- What steps make of the arm of a disk.
use Rattle.std.proofs.Common.{◌≡◌, ◌≤◌, ◌-◌, ℕ, Option, None, refl, sym, subst, ◌∙◌, arith}
use Rattle.ec_base.specs.Outside.{Rose}
use Rattle.ec_disk.specs.Disk.{Counts}
use Rattle.ec_disk.specs.Effects.{Counted}
use Rattle.ec_durable.specs.declared.state.Durable.{Durable}
use Rattle.ec_protocol.specs.World.{Fate, runs, stops_without, stops_with}
use Rattle.ec_marking.specs.Runs.{Takes}
use Rattle.ec_marking.specs.KeptRuns.{HasRun}
use Rattle.ec_marking.specs.Keeping.{HasStoppedIn, RunsIn}
use Rattle.ec_world.specs.Serving.{FateIn, ArmsBehind}
use Rattle.ec_world.specs.StepEnds.{FateOf}
use Rattle.ec_marking.specs.declared.keeping.Came.{Came}
use Rattle.ec_marking.specs.declared.keeping.Came.TheVariants as came
use Rattle.ec_marking.specs.declared.marks.Mark.{Mark}

run_on : (before mid after : Durable) (a b c : Counts) → after ≡ mid → c.armed ≡ b.armed → HasRun before mid a b → HasRun before after a c
run_on before mid after a b c same arms h = record { turns = h.turns; takes = subst (λ (d : Durable). Takes h.turns before d) (sym same) h.takes; next = arms ∙ h.next; none_due = h.none_due }

pub rose-later : (a b c : ℕ) → Rose a b → b ≤ c → Rose a c
rose-later a b c rose le = omega (arith, rose, le)

-- the fate of a step, by what came of it and what the world made of that
pub fate_is : {T : Type 0} (x : Came T) (fate : Fate) (F G : Type 0) (before mid after : Durable) (a b c : Counts)
    → FateIn fate (HasStoppedIn x) → Counted a b F (HasStoppedIn x) → Counted b c G ⊥ → RunsIn x before mid a b → ArmsBehind x mid after b.armed c.armed → FateOf fate before after a c
fate_is (came.Done y mark) runs F G before mid after a b c h one two ran arms = run_on before mid after a b c arms.0 arms.1 ran
fate_is (came.Done y mark) stops_without F G before mid after a b c h one two ran arms = absurd h
fate_is (came.Done y mark) stops_with F G before mid after a b c h one two ran arms = absurd h
fate_is (came.Stopped mark) runs F G before mid after a b c h one two ran arms = absurd (h tt)
fate_is (came.Stopped mark) stops_without F G before mid after a b c h one two ran arms = record { stops = rose-later a.stops b.stops c.stops (one.stopped h) two.stops_later; armed = one.armed h; disarmed = arms }
fate_is (came.Stopped mark) stops_with F G before mid after a b c h one two ran arms = record { stops = rose-later a.stops b.stops c.stops (one.stopped h) two.stops_later; armed = one.armed h; disarmed = arms }
fate_is came.DiskFailed fate F G before mid after a b c h one two ran arms = absurd arms
fate_is came.NoMemory fate F G before mid after a b c h one two ran arms = absurd arms

-- what the world makes of the state and the arm, by the case of what came
pub arms_done : {T : Type 0} (x : Came T) (y : T) (mark : Option Mark) (before after : Durable) (old : Option ℕ) → x ≡ came.Done y mark → after ≡ before → ArmsBehind x before after old old
arms_done {T} x y mark before after old is same = subst (λ (z : Came T). ArmsBehind z before after old old) (sym is) (same, refl)

pub arms_stopped : {T : Type 0} (x : Came T) (mark : Mark) (before after : Durable) (old new : Option ℕ) → x ≡ came.Stopped mark → new ≡ None → ArmsBehind x before after old new
arms_stopped {T} x mark before after old new is none = subst (λ (z : Came T). ArmsBehind z before after old new) (sym is) none
