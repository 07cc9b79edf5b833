-- When each answer that a step of a world shows is timely: it stands behind the end of its start's session, before the start is told, only where it
-- needed nothing, and nothing was lost.
use Rattle.std.specs.Prelude.{◌≡◌, ℕ, T, not, [], None, Some, ⊤}
use Rattle.ec_plain.specs.BoundedCalls.{is_bounded}
use Rattle.ec_plain.specs.declared.call.Call.{Call}
use Rattle.ec_history.specs.Placing.{watch}
use Rattle.ec_wire.specs.Messages.{same_kind}
use Rattle.ec_wire.specs.declared.msg.MsgKind.{MsgKind}
use Rattle.ec_wire.specs.declared.msg.MsgKind.TheVariants.{Ended}
use Rattle.ec_protocol.specs.World.{Fate, happen}
use Rattle.ec_protocol.specs.declared.world.Event.{Event}
use Rattle.ec_protocol.specs.declared.world.Event.TheVariants as event
use Rattle.ec_protocol.specs.declared.world.World.{World}
use Rattle.ec_lawful.specs.Steps.{HoldsIn}
use Rattle.ec_lawful.specs.Whole.{Whole}
use Rattle.ec_protocol.specs.OfPool.Goings.{goes_to}
use Rattle.ec_protocol.specs.Resumes.{resume, session}
use Rattle.ec_history.specs.OfLaws.OfPrinted.Timely.{AreTimely}

-- a clerk that is in a session has nothing untold
abbrev pub IsTold : ℕ → World → Type 0
IsTold c w = (s : ℕ) → session c w ≡ Some s → (watch c w.shown).untold ≡ None

-- What is asked of an event: so it is of the clerk whose call begins, and of the one to which a message goes that is no Ended.
abbrev pub MayAnswer : World → Event → Type 0
MayAnswer w (event.Call c l cl) = IsTold c w × T (is_bounded cl)
MayAnswer w (event.Deliver n) = (c : ℕ) (k : MsgKind) → goes_to n w ≡ Some (c, k) → T (not (same_kind k Ended)) → IsTold c w
MayAnswer w _ = ⊤

-- Then the lines are timely behind it, where they were before.
abbrev pub EventsAreTimely : Type 0
EventsAreTimely = (fate : Fate) (e : Event) (w : World) → HoldsIn Whole w → MayAnswer w e → (happen fate e w).fault ≡ None → AreTimely [] w.shown → AreTimely [] (happen fate e w).world.shown

-- So they are where a call begins behind its line.
abbrev pub ResumesAreTimely : Type 0
ResumesAreTimely = (w : World) → HoldsIn Whole w → (c l : ℕ) (cl : Call) → T (is_bounded cl) → IsTold c w → (resume c l cl w).fault ≡ None → AreTimely [] w.shown → AreTimely [] (resume c l cl w).world.shown
