-- The first step of a call of a clerk that starts with it.
use Rattle.std.proofs.Common.{◌≡◌, refl, sym, ap, ◌∙◌, subst, ◌+◌, ◌++◌, ◌==◌, ℕ, T, true, false, List, []}
use Rattle.std.specs.Prelude.{Option, None, Some, is_some}
use Rattle.ec_base.specs.Tables.{at, put}
use Rattle.ec_base.specs.declared.counter.Counter.{Counter}
use Rattle.ec_base.specs.declared.ids.Age.{Age}
use Rattle.ec_volume.specs.Volume.{Images}
use Rattle.ec_plain.specs.declared.call.Call.{Call}
use Rattle.ec_sessions.specs.declared.slot.Slot.{Slot}
use Rattle.ec_durable.specs.Durable.{slot}
use Rattle.ec_protocol.specs.Clerk.{Doing, begin, start}
use Rattle.ec_protocol.specs.World.{Moving, boot, call, call_on, clerk_does, fails, moving, show_waits, start_and_call}
use Rattle.ec_protocol.specs.World as world
use Rattle.ec_protocol.specs.declared.clerk.Clerk.{Clerk}
use Rattle.ec_protocol.specs.declared.script.Line.TheVariants as line
use Rattle.ec_protocol.specs.declared.world.World.{World}
use Rattle.ec_protocol.specs.declared.world.WorldFault.{WorldFault}
use Rattle.ec_protocol.specs.declared.world.WorldFault.TheVariants as fault
use Rattle.ec_coherence.specs.System.{System}
use Rattle.ec_lawful.specs.Steps.{IsNewIn}
use Rattle.ec_quiet.specs.Phases.{Phase, Greets, Opens, Claims, Wants, Recalls, Flushes, Keeps, Grants, Asks, Gives, Refuses, Saves, Saved, Ends, InPhase, IsWorking}
use Rattle.ec_quiet.specs.Scenes.{IsScene, Scene, done_by}
use Rattle.ec_quiet.specs.Works.{Work}
use Rattle.ec_quiet.specs.Bounds.{IsFirstPhase}
use Rattle.ec_quiet.proofs.Beside.{other-at}
use Rattle.ec_quiet.specs.First.{start_calling}
use Rattle.ec_quiet.proofs.Stepping.{carried}
use Rattle.ec_complete.specs.WaitingCalls.{kept_volume, touched_by}
use Rattle.ec_complete.specs.Lines.{IsOnLine, next_object}
use Rattle.ec_complete.specs.LineCalls.{IsCalledFirst, LeavesVolume}
use Rattle.ec_complete.proofs.ForLines.Starts.{starts-leave-kept}
use Rattle.ec_complete.specs.Worlds.{IsCounted, LineIsKnown, Outset}
use Rattle.ec_quiet.proofs.OfDeliveries.ForWriteBehind.Begun.{starts-begin}
use Rattle.ec_complete.specs.Following.{BeginsBehind, IsWorked}
use Rattle.ec_complete.proofs.ForFaultless.Following.{same-scene}
use Rattle.ec_complete.proofs.ForFaultless.Works.{calls-worked}

pub some-none : {A : Type 0} (x : WorldFault) → ◌≡◌ {A = Option WorldFault} (Some x) None → A
some-none {A} x e = absurd (apart e)
  where
    apart : ◌≡◌ {A = Option WorldFault} (Some x) None → ⊥
    apart q = cc

-- A start that met no fault spent no counter.
module _ (w : World) (c number : ℕ) (cl : Call) (none : at c w.clerks ≡ None) (fine : (call c number cl w).fault ≡ None) where
  abbrev b : ℕ
  b = boot c w + 1

  abbrev d : Doing
  d = start c b

  abbrev u : World
  u = record w { boots = put c b w.boots }

  fine-start : (start_and_call c number cl w).fault ≡ None
  fine-start = ap (λ (o : Option Clerk). (elim o as (λ z. Moving) [ Some k ↦ call_on c number cl [] k w | None ↦ start_and_call c number cl w ]).fault) (sym none) ∙ fine

  pub unspent-start : d.spent ≡ None
  unspent-start = go d.spent refl
    where
      go : (o : Option Counter) → d.spent ≡ o → d.spent ≡ None
      go None e = e
      go (Some n) e = some-none (fault.Spent n)
          (ap (λ (o : Option Counter). (elim o as (λ z. Moving) [ Some n ↦ fails (fault.Spent n) w | None ↦ call_on c number cl d.outs d.clerk u ]).fault) (sym e) ∙ fine-start)

  fine-call : (call_on c number cl d.outs d.clerk u).fault ≡ None
  fine-call = ap (λ (o : Option Counter). (elim o as (λ z. Moving) [ Some n ↦ fails (fault.Spent n) w | None ↦ call_on c number cl d.outs d.clerk u ]).fault) (sym unspent-start) ∙ fine-start

  abbrev does : Moving
  does = clerk_does c (record (begin cl d.clerk) { outs = d.outs ++ (begin cl d.clerk).outs }) (show_waits c (d.clerk.calls + 1) number cl (begin cl d.clerk).outs (moving (world.add_call c (d.clerk.calls + 1) number cl u)))

  pub unspent-call : (begin cl d.clerk).spent ≡ None
  unspent-call = go (begin cl d.clerk).spent refl
    where
      go : (o : Option Counter) → (begin cl d.clerk).spent ≡ o → (begin cl d.clerk).spent ≡ None
      go None e = e
      go (Some n) e = some-none (fault.Spent n) (ap (λ (o : Option Counter). (elim o as (λ z. Moving) [ Some s ↦ fails (fault.Spent s) u | None ↦ does ]).fault) (sym e) ∙ fine-call)

  calls-are : call c number cl w ≡ call_on c number cl d.outs d.clerk u
  calls-are = ap (λ (o : Option Clerk). elim o as (λ z. Moving) [ Some k ↦ call_on c number cl [] k w | None ↦ start_and_call c number cl w ]) none
      ∙ ap (λ (o : Option Counter). elim o as (λ z. Moving) [ Some n ↦ fails (fault.Spent n) w | None ↦ call_on c number cl d.outs d.clerk u ]) unspent-start

  module _ (sc : Scene) (i : IsScene w sc) where
    booted : IsScene u sc
    booted = record { server = i.server; durable = i.durable; sure = i.sure; linked = i.linked; clerks = i.clerks; mail = i.mail; kept = i.kept; rising = i.rising; pending = i.pending; pool = i.pool }

    pub starts-in : IsScene (call c number cl w).world (done_by c (start_calling c b cl) sc.mail sc)
    starts-in = subst (λ (m : Moving). IsScene m.world (done_by c (start_calling c b cl) sc.mail sc)) (sym calls-are) (carried u sc booted c number cl d.outs d.clerk unspent-call).1

module _ (outset : Outset) (j : Work) (number : ℕ) (cl : Call) (w : World) (sc : Scene) (g : System) (calls : ℕ) (is : IsCalledFirst j cl w sc g) (new : IsNewIn w number) (fine : (call j.clerk number cl w).fault ≡ None) (known : LineIsKnown outset j calls (call j.clerk number cl w)) (first : IsFirstPhase known.phase) where
  none-there : at j.clerk w.clerks ≡ None
  none-there = ap (at j.clerk) is.scene.clerks ∙ is.none

  abbrev next : ℕ
  next = boot j.clerk w + 1

  abbrev now : Scene
  now = done_by j.clerk (start_calling j.clerk next cl) sc.mail sc

  abbrev m : Moving
  m = call j.clerk number cl w

  abbrev v : Images
  v = kept_volume g

  stands : IsScene m.world now
  stands = starts-in w j.clerk number cl none-there fine sc is.scene

  same : known.scene ≡ now
  same = same-scene m.world known.scene now known.stands stands

  -- its slot isn't open, and so it greets
  not-open : (sl : Slot) → slot sc.server.durable j.clerk ≡ Some sl → sl.is_open ≡ true → ⊥
  not-open sl p f = subst (λ o. T (is_some o)) is.none (is.idle.orderly.run j.clerk sl p f)

  not-working : {A : Type 0} (xs : List ℕ) (sl : Slot) (k : Clerk) → IsWorking xs j now sl k → A
  not-working xs sl k i = absurd (not-open sl i.inside.there i.inside.is_open)

  as-greets : (p : Phase) → IsFirstPhase p → InPhase j now p → (age : Age) × InPhase j now (Greets age)
  as-greets (Greets age) f i = (age, i)
  as-greets (Wants x h n) f i = let p = i.facts.1 in not-working [] p.slot p.clerk p.working
  as-greets (Asks again got ask) f i = let p = i.facts.1 in not-working [] p.slot p.clerk p.working
  as-greets (Saves b ops rest) f i = let p = i.facts.1 in not-working [] p.slot p.clerk p.working
  as-greets Ends f i = let p = i.facts.1 in not-working [] p.slot p.clerk p.working
  as-greets (Opens age) f i = absurd f
  as-greets (Claims o) f i = absurd f
  as-greets (Recalls x h rs bs) f i = absurd f
  as-greets (Flushes x h r b ops rest) f i = absurd f
  as-greets (Keeps x h r b rest) f i = absurd f
  as-greets (Grants x h n) f i = absurd f
  as-greets (Gives got n x) f i = absurd f
  as-greets (Refuses again ask live reserved) f i = absurd f
  as-greets (Saved b rest) f i = absurd f

  greets : (age : Age) × InPhase j now (Greets age)
  greets = as-greets known.phase first (subst (λ z. InPhase j z known.phase) same known.comes)

  kept : (h : System) × IsOnLine j m.world now h × LeavesVolume j now g h × ((a : Clerk) → at j.clerk now.clerks ≡ Some a → (a.waiting ≡ [] → ⊥) → j.touched ≡ touched_by cl (kept_volume h) (next_object now j.clerk a))
  kept = starts-leave-kept j number cl w sc now g greets.0 is new fine stands refl (λ a e. other-at j.clerk (start_calling j.clerk next cl).clerk sc.clerks a e) greets.1

  worked : IsWorked (line.Call j.clerk cl) (kept.0).origin v j now kept.0
  worked = calls-worked cl v j m.world now kept.0 (Greets greets.0) kept.1 stands greets.1 is.task (λ a here waits. (kept.2.kept a here waits, kept.3 a here waits))

  pub start-begins : BeginsBehind outset (line.Call j.clerk cl) g.origin v j calls m
  start-begins = record {
    known = record {
      known = record { scene = now; stands = stands; phase = Greets greets.0; comes = greets.1; system = kept.0; facts = kept.1; counted = subst (IsCounted outset calls m.world) same known.counted };
      worked = record { origin_is = kept.2.origin; works = worked.works };
    };
    behind = starts-begin v j sc is.idle next cl sc.mail;
  }
