-- Stops follow the arms of lines.
use Rattle.std.proofs.Common.{◌≡◌, ◌<◌, ◌≤◌, ◌+◌, ℕ, zero, suc, List, [], ◌∷◌, ◌++◌, Option, None, Some, Result, Ok, Err, refl, sym, ap, subst, ◌∙◌, arith, inl}
use Rattle.std.specs.Prelude.{OnOk, MatchOption}
use Rattle.ec_disk.specs.Disk.{Counts, NoneDue, after_calls}
use Rattle.ec_history.specs.declared.shown.Shown.{Shown}
use Rattle.ec_protocol.specs.World.{Fate, runs, stops_without, stops_with, Moving, deliver, due, forget, pending}
use Rattle.ec_protocol.specs.Drill.{Fates, Read, reads, onward, carry_out, max_pending}
use Rattle.ec_protocol.specs.declared.script.Line.{Line}
use Rattle.ec_protocol.specs.declared.world.World.{World}
use Rattle.ec_protocol.specs.declared.world.WorldFault.{WorldFault}
use Rattle.ec_world.specs.Steps.{IsShown}
use Rattle.ec_world.specs.StepEnds.{FateOf, IsTold}
use Rattle.ec_drill.specs.Arms.{ArmBy, SettleArms, LineArms, RunArms}
use Rattle.ec_drill.specs.Steps.{PendingEnd, LineFollows, going}
use Rattle.ec_drill.specs.declared.running.Ending.{Ending}

pub on_ok : {X E P Q : Type 0} (r : Result X E) → OnOk r P → (P → Q) → OnOk r Q
on_ok (Ok x) h to = to h
on_ok (Err e) h to = tt

pub if_ok : {X E P : Type 0} (r : Result X E) → P → OnOk r P
if_ok (Ok x) h = h
if_ok (Err e) h = tt

-- a step of the world
pub arm_by : (tells : Type 0) (f : Fate) (w v : World) (old new : Counts) → FateOf f w.durable v.durable old new → (tells → IsShown f w.choice old.armed w.shown v.shown) → IsTold f tells → ArmBy f w v old.armed new.armed
arm_by tells runs w v old new h chosen told = (h.turns, h.takes, h.next, h.none_due)
arm_by tells stops_without w v old new h chosen told = (h.armed, h.disarmed, chosen told)
arm_by tells stops_with w v old new h chosen told = (h.armed, h.disarmed, chosen told)

-- one that makes no call of the disk
pub arm_still : (w : World) (old new : Option ℕ) → new ≡ old → ArmBy runs w w old new
arm_still w old new same = (0, inl (refl, refl), same ∙ none old, first old)
  where
    none : (a : Option ℕ) → a ≡ after_calls 0 a
    none None = refl
    none (Some left) = ap (λ (k : ℕ). Some k) (omega arith)

    first : (a : Option ℕ) → NoneDue 0 a
    first None = tt
    first (Some left) = omega arith

-- a step that was taken
pub taken : (m : Moving) (w v : World) (lines p q : List Shown) → m ≡ record { world = v; shown = lines; fault = None } → q ≡ p ++ lines → onward (going w p) m ≡ going v q
taken m w v lines p q is shown = ap (onward (going w p)) is ∙ ap (going v) (sym shown)

-- a message is delivered, and then others
pub arms_go : (k : ℕ) (fs : Fates) (f : Fate) (n : ℕ) (w v : World) (p q : List Shown) (old mid new : Option ℕ) → due w ≡ Some n → onward (going w p) (deliver f n w) ≡ going v q → ArmBy f w v old mid → SettleArms k fs (going v q) mid new
    → SettleArms (suc k) (f ∷ fs) (going w p) old new
arms_go k fs f n w v p q old mid new d is by rest =
    subst (λ (o : Option ℕ). MatchOption o (new ≡ old) (λ n. let r = onward (going w p) (deliver f n w) in (mid : Option ℕ) × ArmBy f w r.world old mid × SettleArms k fs r mid new)) (sym d)
    (mid, subst (λ (r : Moving). ArmBy f w r.world old mid) (sym is) by, subst (λ (r : Moving). SettleArms k fs r mid new) (sym is) rest)

-- none is due
pub arms_rest : (k : ℕ) (w : World) (p : List Shown) (here : Option ℕ) → due w ≡ None → SettleArms k [] (going w p) here here
arms_rest zero w p here d = refl
arms_rest (suc k) w p here d =
    subst (λ (o : Option ℕ). MatchOption o (here ≡ here) (λ n. let r = onward (going w p) (deliver runs n w) in (mid : Option ℕ) × ArmBy runs w r.world here mid × SettleArms k [] r mid here)) (sym d) refl

-- Lines.

-- the lines of a run from this one on, which comes to this
abbrev LineComes : ℕ → ℕ → Line → List Read → Fates → List Fates → World → Option ℕ → Moving → Type 0
LineComes k number l ahead fates more w old m =
    MatchOption m.fault
    ((new : Option ℕ) × LineArms k fates number l w old new × (pending m.world ≤ max_pending → RunArms k (number + 1) ahead more (forget m.world) new))
    (λ f. Unit {0})

-- one that can't be carried out
pub arms_fail : (k number column : ℕ) (l : Line) (ahead : List Read) (fates : Fates) (more : List Fates) (w v : World) (piece : List Shown) (f : WorldFault) (old : Option ℕ) → carry_out k fates number l w ≡ record (going v piece) { fault = Some f }
    → RunArms k number (reads l column ∷ ahead) (fates ∷ more) w old
arms_fail k number column l ahead fates more w v piece f old is = subst (λ (m : Moving). LineComes k number l ahead fates more w old m) (sym is) tt

few_not : (most n : ℕ) → most < n → n ≤ most → ⊥
few_not most n many few = absurd (omega (arith, many, few))

-- one that was, by the messages that it leaves pending
pub arms_end : (p : Option Ending) (k number column : ℕ) (l : Line) (fates : Fates) (w v u : World) (piece : List Shown) (old new : Option ℕ) → carry_out k fates number l w ≡ going v piece → PendingEnd p v u → LineArms k fates number l w old new
    → LineFollows p k number (reads l column) fates w u old new
arms_end None k number column l fates w v u piece old new is end arms = λ ahead more rest.
    subst (λ (m : Moving). LineComes k number l ahead fates more w old m) (sym is) (new, arms, λ few. subst (λ (x : World). RunArms k (number + 1) ahead more x new) end.1 rest)
arms_end (Some e) k number column l fates w v u piece old new is end arms = λ ahead more.
    subst (λ (m : Moving). LineComes k number l ahead fates more w old m) (sym is) (new, arms, λ few. absurd (few_not max_pending (pending v) end.0 few))
