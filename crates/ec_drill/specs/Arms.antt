-- Lines that arm the disk, and the steps that it stops. Where no line arms it, none is stopped.
use Rattle.std.specs.Prelude.{◌≡◌, ◌+◌, ◌≤◌, ℕ, zero, suc, Bool, true, false, List, [], ◌∷◌, Option, None, Some, IsSome, MatchOption}
use Rattle.std.specs.List.{list_any}
use Rattle.ec_disk.specs.Disk.{NoneDue, after_calls}
use Rattle.ec_protocol.specs.World.{Fate, runs, stops_without, stops_with, Moving, moving, deliver, due, forget, pending}
use Rattle.ec_protocol.specs.Drill.{Fates, Read, reads, unfit, this_fate, later_fates, first_fates, rest_fates, onward, line_happens, carry_out, max_pending}
use Rattle.ec_protocol.specs.declared.world.World.{World}
use Rattle.ec_marking.specs.Runs.{Takes}
use Rattle.ec_world.specs.Steps.{IsShown}
use Rattle.ec_protocol.specs.declared.script.Line.{Line}
use Rattle.ec_protocol.specs.declared.script.Line.TheVariants as line

abbrev pub is_arm : Line → Bool
is_arm (line.Arm n choice) = true
is_arm _ = false

abbrev pub is_arm_read : Read → Bool
is_arm_read (reads l column) = is_arm l
is_arm_read (unfit column) = false

-- one of these lines arms the disk
abbrev pub any_arm : List Read → Bool
any_arm rs = list_any is_arm_read rs

-- What a step from one world to the next makes of the arm of the disk, by its fate. One that runs takes its reads, writes and syncs, none of which is
-- the one that stops. One that stops does so on an armed disk, ends the arm, and shows `stopped`. Its record is left by the turn for which the disk was armed and
-- by the world's choice.
abbrev pub ArmBy : Fate → World → World → Option ℕ → Option ℕ → Type 0
ArmBy runs w v old new = (turns : ℕ) × Takes turns w.durable v.durable × (new ≡ after_calls turns old) × NoneDue turns old
ArmBy stops_without w v old new = IsSome old × (new ≡ None) × IsShown stops_without w.choice old w.shown v.shown
ArmBy stops_with w v old new = IsSome old × (new ≡ None) × IsShown stops_with w.choice old w.shown v.shown

-- The steps by which a line settles, one behind the other.
abbrev pub SettleArms : ℕ → Fates → Moving → Option ℕ → Option ℕ → Type 0
SettleArms zero fates m old new = new ≡ old
SettleArms (suc k) fates m old new = MatchOption (due m.world) (new ≡ old) (λ n.
    let r = onward m (deliver (this_fate fates) n m.world) in
    (mid : Option ℕ) × ArmBy (this_fate fates) m.world r.world old mid × SettleArms k (later_fates fates) r mid new)

-- how the disk is armed where the event of a line begins: with the number of the line, where it arms
abbrev pub armed_at : Line → Option ℕ → Option ℕ
armed_at (line.Arm n choice) armed = Some n
armed_at _ armed = armed

-- The steps of a line.
abbrev pub LineArms : ℕ → Fates → ℕ → Line → World → Option ℕ → Option ℕ → Type 0
LineArms k fates number l w old new =
    let m = onward (moving w) (line_happens (this_fate fates) number l w) in
    (mid : Option ℕ) × ArmBy (this_fate fates) w m.world (armed_at l old) mid × SettleArms k (later_fates fates) m mid new

-- The lines of a run from this one on, over a disk that's armed so: its stops follow the lines that arm it. Nothing is said of a line that can't be
-- carried out.
abbrev pub RunArms : ℕ → ℕ → List Read → List Fates → World → Option ℕ → Type 0
RunArms k number [] fs w old = Unit {0}
RunArms k number (unfit col ∷ ls) fs w old = Unit {0}
RunArms k number (reads l col ∷ ls) fs w old =
    let m = carry_out k (first_fates fs) number l w in
    MatchOption m.fault
    ((new : Option ℕ) × LineArms k (first_fates fs) number l w old new × (pending m.world ≤ max_pending → RunArms k (number + 1) ls (rest_fates fs) (forget m.world) new))
    (λ f. Unit {0})
