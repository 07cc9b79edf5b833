-- Where no clerk is held and no call is queued, a world with leases does what the world without them does.
use Rattle.std.proofs.Common.{◌≡◌, refl, sym, ap, subst, ◌∙◌, inl, ◌≤◌, ℕ, Bool, true, false, not, ◌&&◌, List, [], ◌∷◌, Option, Some, None}
use Rattle.std.specs.Prelude.{map}
use Rattle.ec_base.specs.Tables.{at, at_or, first, without}
use Rattle.ec_volume.specs.Update.{member}
use Rattle.ec_protocol.specs.World.{Moving, clerks, due, happen, is_deliverable, runs}
use Rattle.ec_protocol.specs.OfPool.Goings.{due_but, goes_to, is_kept_from}
use Rattle.ec_protocol.specs.Resumes.{session}
use Rattle.ec_protocol.specs.declared.world.Event.{Event}
use Rattle.ec_protocol.specs.declared.world.Event.TheVariants as event_of
use Rattle.ec_protocol.specs.declared.world.World.{World}
use Rattle.ec_protocol.specs.declared.world.WorldFault.{WorldFault}
use Rattle.ec_lease_machine.specs.Drill.{due_now}
use Rattle.ec_lease_machine.specs.Leases.{LeaseMoving, begin_each, begin_queued, event_happens, fails, in_world, is_held, is_kept, moved, moving, nothing, queue, renew_each, shows, step, world_happens}
use Rattle.ec_lease_machine.specs.declared.world.LeaseEvent.TheVariants as event
use Rattle.ec_lease_machine.specs.declared.world.LeaseFault.{LeaseFault}
use Rattle.ec_lease_machine.specs.declared.world.LeaseFault.TheVariants as fault
use Rattle.ec_lease_machine.specs.declared.world.LeaseShown.TheVariants.{Line}
use Rattle.ec_lease_machine.specs.declared.world.LeaseWorld.{LeaseWorld}
use Rattle.ec_lease_machine.proofs.OfPlain.Renewed.{IsEarly, IsRenewed, IsServed, none-held, renew-leaves, renews, unheld, unkept}
use Rattle.ec_lease_machine.proofs.OfPlain.Worlds.{IsPlain}

-- Queues that are empty stay so.

emptied : (c : ℕ) (m : LeaseMoving) → m.world.queued ≡ [] → begin_each c (at_or [] c m.world.queued) m ≡ m
emptied c m q =
    ap (λ qs. begin_each c (at_or [] c qs) m) q
    ∙ ap (λ qs. record m { world = record (m.world) { queued = without c qs } }) q
    ∙ ap (λ qs. record m { world = record (m.world) { queued = qs } }) (sym q)

pub begins-none : (cs : List ℕ) (m : LeaseMoving) → m.world.queued ≡ [] → begin_queued cs m ≡ m
begins-none [] m q = refl
begins-none (c ∷ cs) m q = by m.fault (ap (begin_queued cs) (emptied c m q) ∙ begins-none cs m q)
  where
    by : (o : Option LeaseFault) → begin_queued cs (begin_each c (at_or [] c m.world.queued) m) ≡ m
        → elim o as (λ z. LeaseMoving) [ Some f ↦ m | None ↦ begin_queued cs (begin_each c (at_or [] c m.world.queued) m) ] ≡ m
    by (Some f) e = refl
    by None e = e

-- a step of the world leaves what isn't of it
pub moved-queued : (mv : Moving) (x : LeaseWorld) → (moved mv x).world.queued ≡ x.queued
moved-queued mv x = by mv.fault
  where
    by : (o : Option WorldFault) → (elim o as (λ z. LeaseMoving) [ Some f ↦ fails (fault.World f) x | None ↦ shows (map Line mv.shown) (in_world mv.world x) ]).world.queued ≡ x.queued
    by (Some f) = refl
    by None = refl

module _ (x : LeaseWorld) (early : IsEarly x) (free : (c : ℕ) → is_held c x ≡ false) where
  delivers : (n : ℕ) → is_kept n x ≡ false
  delivers n = ap (λ cs. is_kept_from cs (goes_to n x.world)) (none-held x free) ∙ unkept (goes_to n x.world)

  happened : (e : Event) → IsPlain e → event_happens runs e x ≡ moved (happen runs e x.world) x
  happened (event_of.Call c l cl) p = ap (λ z. elim z as (λ y. LeaseMoving) [ true ↦ queue c l cl x | false ↦ world_happens runs (event_of.Call c l cl) x ]) (free c)
  happened (event_of.Push c n) p = refl
  happened (event_of.Deliver n) p = ap (λ z. elim z as (λ y. LeaseMoving) [ true ↦ nothing x | false ↦ world_happens runs (event_of.Deliver n) x ]) (delivers n)
  happened _ p = absurd p

  -- an event
  pub steps-plainly : (e : Event) → IsPlain e → step runs (event.World e) x ≡ moved (happen runs e x.world) x
  steps-plainly e p = ap (begin_queued clerks) (happened e p) ∙ begins-none clerks (moved (happen runs e x.world) x) (moved-queued (happen runs e x.world) x ∙ early.queued)

  -- what is due
  pub due-plainly : due_now x ≡ due x.world
  due-plainly = ap (λ cs. due_but cs x.world) (none-held x free) ∙ same x.world.pending
    where
      same : (ns : List ℕ) → first (λ n. is_deliverable x.world (at n x.world.pool) && not (is_kept_from [] (goes_to n x.world))) ns ≡ first (λ n. is_deliverable x.world (at n x.world.pool)) ns
      same [] = refl
      same (n ∷ ns) = by (is_deliverable x.world (at n x.world.pool)) (is_kept_from [] (goes_to n x.world)) (unkept (goes_to n x.world)) (same ns)
        where
          by : (z k : Bool) → k ≡ false → first (λ n. is_deliverable x.world (at n x.world.pool) && not (is_kept_from [] (goes_to n x.world))) ns ≡ first (λ n. is_deliverable x.world (at n x.world.pool)) ns
              → elim (z && not k) as (λ y. Option ℕ) [ true ↦ Some n | false ↦ first (λ n. is_deliverable x.world (at n x.world.pool) && not (is_kept_from [] (goes_to n x.world))) ns ]
              ≡ elim z as (λ y. Option ℕ) [ true ↦ Some n | false ↦ first (λ n. is_deliverable x.world (at n x.world.pool)) ns ]
          by z true q more = absurd (no q)
            where
              no : true ≡ false → ⊥
              no e = cc
          by true false q more = refl
          by false false q more = more

-- Renewing changes nothing else, and then no clerk is held.

pub renew-step : (x : LeaseWorld) → x.queued ≡ [] → step runs event.Renew x ≡ moving (renew_each clerks x)
renew-step x q = begins-none clerks (moving (renew_each clerks x)) ((renew-leaves clerks x).queued ∙ q)

pub renewed-early : (x : LeaseWorld) → IsEarly x → IsEarly (renew_each clerks x)
renewed-early x e =
    let l = renew-leaves clerks x in
    record { now = l.now ∙ e.now; skews = l.skews ∙ e.skews; queued = l.queued ∙ e.queued; runs = subst (λ n. 1 ≤ n) (sym l.length) e.runs }

pub renewed-free : (x : LeaseWorld) → IsEarly x → IsServed x.world → ((c s : ℕ) → session c x.world ≡ Some s → member c clerks ≡ true) → (c : ℕ) → is_held c (renew_each clerks x) ≡ false
renewed-free x e served one c = unheld y (renewed-early x e) c its
  where
    y : LeaseWorld
    y = renew_each clerks x

    its : IsRenewed y c
    its s q = renews clerks x served c (inl (one c s (ap (session c) (sym (renew-leaves clerks x).world) ∙ q))) s q
