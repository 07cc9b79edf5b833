-- The first step of a call of a clerk that runs: its work is the line's, and it sends only what the line asks for.
use Rattle.std.proofs.Common.{◌≡◌, refl, sym, ap, ◌∙◌, subst, ℕ, T}
use Rattle.std.specs.Prelude.{[], None, Some}
use Rattle.ec_base.specs.Tables.{at}
use Rattle.ec_volume.specs.Volume.{Images}
use Rattle.ec_plain.specs.declared.call.Call.{Call}
use Rattle.ec_sessions.specs.declared.slot.Slot.{Slot}
use Rattle.ec_protocol.specs.Clerk.{add_call, begin}
use Rattle.ec_protocol.specs.World.{Moving, call}
use Rattle.ec_protocol.specs.declared.clerk.Clerk.{Clerk}
use Rattle.ec_protocol.specs.declared.script.Line.TheVariants as line
use Rattle.ec_protocol.specs.declared.world.World.{World}
use Rattle.ec_coherence.specs.Steps.{doing_in}
use Rattle.ec_coherence.specs.System.{System}
use Rattle.ec_lawful.specs.Steps.{IsNewIn}
use Rattle.ec_quiet.specs.Phases.{InPhase}
use Rattle.ec_quiet.specs.Scenes.{IsScene, Scene, done_by}
use Rattle.ec_quiet.specs.Works.{Work}
use Rattle.ec_quiet.proofs.Calling.{called}
use Rattle.ec_quiet.specs.Goes.{MayGo}
use Rattle.ec_complete.specs.OfAgreedLines.Lines.{HasBegun}
use Rattle.ec_complete.proofs.OfAgreedLines.Beginning.{begins}
use Rattle.ec_complete.specs.WaitingCalls.{kept_volume, touched_by}
use Rattle.ec_complete.specs.Lines.{IsOnLine, next_object}
use Rattle.ec_complete.specs.LineCalls.{IsCalled, LeavesVolume}
use Rattle.ec_complete.proofs.ForLines.May as may
use Rattle.ec_complete.proofs.ForLines.On.{calls-leave-kept}
use Rattle.ec_complete.specs.Worlds.{IsCounted, Outset}
use Rattle.ec_quiet.specs.OfDeliveries.PhasesBehind.{IsBehind, Sees}
use Rattle.ec_quiet.proofs.OfDeliveries.ForWriteBehind.Begun.{calls-begin}
use Rattle.ec_quiet.proofs.OfDeliveries.ForWriteBehind.Seen.{shown-seen}
use Rattle.ec_complete.specs.Following.{BeginsBehind, IsCountedIn, IsWorked}
use Rattle.ec_complete.proofs.ForFaultless.Following.{same-scene}
use Rattle.ec_complete.proofs.ForFaultless.Seeing.{shows}
use Rattle.ec_complete.proofs.ForFaultless.Works.{calls-worked}
use Rattle.ec_complete.proofs.ForFaultless.Calling.{told}

module _ (outset : Outset) (j : Work) (number : ℕ) (cl : Call) (w : World) (sc : Scene) (g : System) (sl : Slot) (k : Clerk) (calls : ℕ) (is : IsCalled j cl w sc g sl k) (new : IsNewIn w number) (fine : (call j.clerk number cl w).fault ≡ None) (counted : IsCountedIn outset calls (call j.clerk number cl w).world) where
  abbrev now : Scene
  now = done_by j.clerk (begin cl k) sc.mail sc

  abbrev m : Moving
  m = call j.clerk number cl w

  abbrev v : Images
  v = kept_volume g

  goes : MayGo j (add_call cl k)
  goes = may.calls-may-begin j number cl w sc g sl k is new

  begun : HasBegun j now
  begun = begins j sc sl k cl is.idle is.its is.calls goes

  stands : IsScene m.world now
  stands = (called w sc is.scene j.clerk number cl k (ap (at j.clerk) is.scene.clerks ∙ is.its.there) fine).1

  kept : (h : System) × IsOnLine j m.world now h × LeavesVolume j now g h × ((a : Clerk) → at j.clerk now.clerks ≡ Some a → (a.waiting ≡ [] → ⊥) → j.touched ≡ touched_by cl (kept_volume h) (next_object now j.clerk a))
  kept = calls-leave-kept j number cl w sc g sl k begun.phase is new fine stands begun.comes (told begun.phase begun.asked)

  worked : IsWorked (line.Call j.clerk cl) (kept.0).origin v j now kept.0
  worked = calls-worked cl v j m.world now kept.0 begun.phase kept.1 stands begun.comes is.task (λ a here waits. (kept.2.kept a here waits, kept.3 a here waits))

  sees : Sees v j (add_call cl k)
  sees = shown-seen v j (add_call cl k)
      (shows (doing_in j.clerk (may.start j number cl w sc g sl k is).0 (may.d j number cl w sc g sl k is) g.ghost (may.S j number cl w sc g sl k is)) j.clerk (may.start j number cl w sc g sl k is).0 j.session (add_call cl k) (may.agreed j number cl w sc g sl k is new))

  pub call-begins : BeginsBehind outset (line.Call j.clerk cl) g.origin v j calls m
  call-begins = record {
    known = record {
      known = record { scene = now; stands = stands; phase = begun.phase; comes = begun.comes; system = kept.0; facts = kept.1; counted = subst (IsCounted outset calls m.world) (same-scene m.world counted.0 now counted.1 stands) counted.2 };
      worked = record { origin_is = kept.2.origin; works = worked.works };
    };
    behind = calls-begin v j sc is.idle k is.its.there sc.mail cl goes sees;
  }
