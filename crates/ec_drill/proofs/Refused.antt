-- What holds between steps still does where a step isn't taken.
use Rattle.std.proofs.Common.{◌≡◌, ◌∙◌, sym, ap, List, ◌++◌, Option, Some, None}
use Rattle.ec_history.specs.declared.shown.Shown.{Shown}
use Rattle.ec_protocol.specs.World.{Moving}
use Rattle.ec_protocol.specs.Drill.{onward}
use Rattle.ec_protocol.specs.declared.world.World.{World}
use Rattle.ec_protocol.specs.declared.world.WorldFault.{WorldFault}
use Rattle.ec_protocol.specs.declared.world.WorldFault.TheVariants as fault
use Rattle.ec_world.specs.StepEnds.{RefusesEvent}
use Rattle.ec_drill.specs.Steps.{IsSeen, going}

pub refused_stays : (g : WorldFault) (m : Moving) (w v : World) (P : Type 0) → RefusesEvent g m w v P → IsSeen g → P
refused_stays (fault.BadDisk n) m w v P h seen = absurd seen
refused_stays fault.DiskFailed m w v P h seen = absurd seen
refused_stays (fault.Spent n) m w v P h seen = h.2
refused_stays fault.NoSuchOp m w v P h seen = h.2
refused_stays fault.NoSuchMsg m w v P h seen = h.2
refused_stays fault.NoMemory m w v P h seen = absurd seen

onward_fault : (m : Moving) (w v : World) (p : List Shown) (f : WorldFault) → m.fault ≡ Some f → v ≡ w → onward (going w p) m ≡ record (going v p) { fault = Some f }
onward_fault m w v p f is same =
    ap (λ (o : Option WorldFault). elim o as (λ z. Moving) [ Some g ↦ record (going w p) { fault = Some g } | None ↦ record { world = m.world; shown = p ++ m.shown; fault = None } ]) is
    ∙ ap (λ (u : World). record (going u p) { fault = Some f }) (sym same)

-- a step that the machine doesn't take either
pub refused_comes : (f : WorldFault) (m : Moving) (w v : World) (p : List Shown) (P : Type 0) → RefusesEvent f m w v P → IsSeen f → onward (going w p) m ≡ record (going v p) { fault = Some f }
refused_comes (fault.BadDisk n) m w v p P h seen = absurd seen
refused_comes fault.DiskFailed m w v p P h seen = absurd seen
refused_comes (fault.Spent n) m w v p P h seen = onward_fault m w v p (fault.Spent n) h.0 h.1
refused_comes fault.NoSuchOp m w v p P h seen = onward_fault m w v p fault.NoSuchOp h.0 h.1
refused_comes fault.NoSuchMsg m w v p P h seen = onward_fault m w v p fault.NoSuchMsg h.0 h.1
refused_comes fault.NoMemory m w v p P h seen = absurd seen
