-- The first step of a push.
use Rattle.std.proofs.Common.{◌≡◌, refl, sym, ap, ◌∙◌, subst, arith, ◌≤◌, ◌⊎◌, ℕ, Bool, true, false, [], length, inl, inr}
use Rattle.std.specs.Prelude.{None, Some}
use Rattle.ec_base.specs.Tables.{at, put}
use Rattle.ec_volume.specs.Volume.{Images}
use Rattle.ec_sessions.specs.declared.slot.Slot.{Slot}
use Rattle.ec_durable.specs.WellFormed.{IsInOrder}
use Rattle.ec_protocol.specs.Clerk as clerk
use Rattle.ec_protocol.specs.Clerk.{Doing, has_issued}
use Rattle.ec_protocol.specs.World.{Moving, clerk_does, come_out, fails, is_undurable, moving, nothing, push, runs, with_world}
use Rattle.ec_protocol.specs.declared.clerk.Clerk.{Clerk}
use Rattle.ec_protocol.specs.declared.script.Line.TheVariants as line
use Rattle.ec_protocol.specs.declared.world.Event.TheVariants as event
use Rattle.ec_protocol.specs.declared.world.World.{World}
use Rattle.ec_protocol.specs.declared.world.WorldFault.TheVariants as fault
use Rattle.ec_coherence.specs.Steps.{Stands}
use Rattle.ec_coherence.specs.System.{System}
use Rattle.ec_lawful.specs.Steps.{HoldsIn}
use Rattle.ec_lawful.proofs.Events.{event-holds}
use Rattle.ec_lawful.specs.Runs.{OfRun}
use Rattle.ec_lawful.specs.Whole.{Whole}
use Rattle.ec_lawful.proofs.Runs.{keep}
use Rattle.ec_lawful.proofs.Clerks.{clerks-keep-all}
use Rattle.ec_quiet.specs.Quiet.{IsIdle}
use Rattle.ec_quiet.specs.Scenes.{IsScene, Scene, done_by}
use Rattle.ec_quiet.specs.Works.{Work}
use Rattle.ec_quiet.specs.First.{IsPush}
use Rattle.ec_quiet.proofs.Pushing.{begins}
use Rattle.ec_quiet.proofs.Delivering.{comes-out, shown-alike, with-clerks}
use Rattle.ec_complete.specs.WaitingCalls.{max_about}
use Rattle.ec_complete.specs.Lines.{IsOnLine}
use Rattle.ec_complete.specs.Worlds.{IsCounted, Outset}
use Rattle.ec_quiet.proofs.OfDeliveries.ForWriteBehind.Begun.{pushes-begin}
use Rattle.ec_complete.specs.Following.{BeginsBehind, IsUncalled}
use Rattle.ec_complete.proofs.ForFaultless.Following.{same-scene}
use Rattle.ec_complete.proofs.ForFaultless.Works.{pushes-worked}
use Rattle.ec_complete.proofs.Greeting.{some-none}
use Rattle.ec_complete.proofs.ForLines.On.{not-pushed}

-- what is pushed without a fault was issued
issued-here : (c n : ℕ) (k : Clerk) (w : World) → (push c n (Some k) w).fault ≡ None → has_issued n k ≡ true
issued-here c n k w f = go (has_issued n k) refl
  where
    go : (b : Bool) → has_issued n k ≡ b → has_issued n k ≡ true
    go true e = e
    go false e = some-none fault.NoSuchOp
        (ap (λ b. (elim b as (λ z. Moving) [ false ↦ fails fault.NoSuchOp w | true ↦ elim (is_undurable c n w) as (λ z. Moving) [ true ↦ clerk_does c (clerk.push n k) (moving w) | false ↦ nothing w ] ]).fault) (sym e) ∙ f)

-- A push in the world and in its scene.
module _ (w : World) (sc : Scene) (i : IsScene w sc) (c n : ℕ) (k : Clerk) (unspent : (clerk.push n k).spent ≡ None) where
  abbrev d : Doing
  d = clerk.push n k

  abbrev then : Scene
  then = done_by c d sc.mail sc

  abbrev Carries : Moving → Type 0
  Carries m = IsScene m.world then ⊎ IsScene m.world sc

  abbrev stepped : Moving
  stepped = with_world (λ w. record w { clerks = put c d.clerk w.clerks }) (moving w)

  does : Carries (clerk_does c d (moving w))
  does = subst Carries (sym (ap (λ o. elim o as (λ z. Moving) [ Some s ↦ fails (fault.Spent s) w | None ↦ come_out c d.outs stepped ]) unspent)) (inl (comes-out c d.outs stepped (record sc { clerks = put c d.clerk sc.clerks }) (with-clerks w sc c d.clerk i)))

  by-lines : (b : Bool) → Carries (elim b as (λ z. Moving) [ true ↦ clerk_does c d (moving w) | false ↦ nothing w ])
  by-lines true = does
  by-lines false = inr (shown-alike w sc _ i)

  pushed : has_issued n k ≡ true → Carries (push c n (Some k) w)
  pushed e = subst Carries (sym (ap (λ b. elim b as (λ z. Moving) [ false ↦ fails fault.NoSuchOp w | true ↦ elim (is_undurable c n w) as (λ z. Moving) [ true ↦ clerk_does c d (moving w) | false ↦ nothing w ] ]) e)) (by-lines (is_undurable c n w))

module _ (outset : Outset) (j : Work) (n : ℕ) (w : World) (sc : Scene) (g : System) (sl : Slot) (k : Clerk) (v : Images) (calls : ℕ) (whole : Whole g) (in-system : Stands w g) (scene : IsScene w sc) (idle : IsIdle sc) (order : IsInOrder sc.server.durable) (is : IsPush j sc sl k n)
    (none : j.touched ≡ []) (fine : (push j.clerk n (at j.clerk w.clerks) w).fault ≡ None) (s : Scene) (stands : IsScene (push j.clerk n (at j.clerk w.clerks) w).world s) (counted : IsCounted outset calls (push j.clerk n (at j.clerk w.clerks) w).world s) (uncalled : IsUncalled j.clerk s) where
  abbrev m : Moving
  m = push j.clerk n (at j.clerk w.clerks) w

  there : at j.clerk w.clerks ≡ Some k
  there = ap (at j.clerk) scene.clerks ∙ is.there

  same : push j.clerk n (Some k) w ≡ m
  same = ap (λ o. push j.clerk n o w) (sym there)

  abbrev F : System → Type 0
  F = OfRun g.origin g.durable.max_objects

  holds : HoldsIn F m.world
  holds = event-holds F (keep clerks-keep-all g.origin g.durable.max_objects) runs (event.Push j.clerk n) w (g, record { whole = whole; origin = refl; most_is = refl }, in-system) tt fine

  abbrev now : Scene
  now = done_by j.clerk (clerk.push n k) sc.mail sc

  -- the clerk is asked for a batch
  module _ (i : IsScene m.world now) (h : System) (fh : F h) (sh : Stands m.world h) where
    as-now : s ≡ now
    as-now = same-scene m.world s now stands i

    rest : IsUncalled j.clerk now
    rest = subst (IsUncalled j.clerk) as-now uncalled

    on-line : IsOnLine j m.world now h
    on-line = record {
      whole = fh.whole;
      stands = sh;
      order = order;
      few = subst (λ xs. length xs ≤ max_about) (sym none) (omega arith);
      about = λ a here waits cl e. not-pushed n cl (sym is.task ∙ e);
      id = λ a here waits. absurd ((rest a here).0 waits);
      answered = λ o task a here. (rest a here).1;
    }

    pub asked : BeginsBehind outset (line.Push j.clerk n) g.origin v j calls m
    asked = record {
      known = record {
        known = (let first = (begins j sc sl k n idle is).0 in record { scene = now; stands = i; phase = first.phase; comes = first.comes; system = h; facts = on-line; counted = subst (IsCounted outset calls m.world) as-now counted });
        worked = record { origin_is = fh.origin; works = (pushes-worked n v j now h is.task none).works };
      };
      behind = pushes-begin v j sc idle k is.there sc.mail n is.task;
    }

  pub push-begins : BeginsBehind outset (line.Push j.clerk n) g.origin v j calls m ⊎ IsScene m.world sc
  push-begins = go (pushed w sc scene j.clerk n k (begins j sc sl k n idle is).1 (issued-here j.clerk n k w (ap (λ (x : Moving). x.fault) same ∙ fine))) holds
    where
      go : IsScene (push j.clerk n (Some k) w).world now ⊎ IsScene (push j.clerk n (Some k) w).world sc → HoldsIn F m.world → BeginsBehind outset (line.Push j.clerk n) g.origin v j calls m ⊎ IsScene m.world sc
      go (inl i) (h, fh, sh) = inl (asked (subst (λ (x : Moving). IsScene x.world now) same i) h fh sh)
      go (inr i) h = inr (subst (λ (x : Moving). IsScene x.world sc) same i)
