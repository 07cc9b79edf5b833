-- A call of a clerk that runs, in the world and in its scene.
use Rattle.std.proofs.Common.{◌≡◌, refl, sym, ap, ◌∙◌, subst, arith, ◌+◌, ℕ, Bool, true, false, [], ◌++◌}
use Rattle.std.specs.Prelude.{Option, None, Some}
use Rattle.std.specs.List.{list_any}
use Rattle.ec_base.specs.Tables.{at, put}
use Rattle.ec_base.specs.declared.counter.Counter.{Counter}
use Rattle.ec_plain.specs.declared.call.Call.{Call}
use Rattle.ec_history.specs.declared.shown.Shown.TheVariants as show
use Rattle.ec_protocol.specs.Clerk.{Doing, begin}
use Rattle.ec_protocol.specs.World.{Moving, add_call, call, call_on, clerk_does, come_out, fails, is_answer_to, moving, show_line, show_waits, start_and_call, with_world}
use Rattle.ec_protocol.specs.declared.clerk.Clerk.{Clerk}
use Rattle.ec_protocol.specs.declared.world.World.{World}
use Rattle.ec_protocol.specs.declared.world.WorldFault.TheVariants as fault
use Rattle.ec_quiet.specs.Scenes.{IsScene, Scene, done_by}
use Rattle.ec_quiet.proofs.Delivering.{comes-out, shown-alike, with-clerks}

module _ (w : World) (sc : Scene) (i : IsScene w sc) (c line : ℕ) (cl : Call) (k : Clerk) where
  abbrev n : ℕ
  n = k.calls + 1

  abbrev d : Doing
  d = begin cl k

  abbrev began : World
  began = add_call c n line cl w

  began-scene : IsScene began sc
  began-scene = record { server = i.server; durable = i.durable; sure = i.sure; linked = i.linked; clerks = i.clerks; mail = i.mail; kept = i.kept; rising = i.rising; pending = i.pending; pool = i.pool }

  abbrev waits : Moving
  waits = show_waits c n line cl d.outs (moving began)

  waits-scene : IsScene waits.world sc
  waits-scene = go (list_any (is_answer_to n) d.outs)
    where
      go : (b : Bool) → IsScene (elim b as (λ z. Moving) [ true ↦ moving began | false ↦ show_line (show.Waits line c cl) (moving began) ]).world sc
      go true = began-scene
      go false = shown-alike began sc _ began-scene

  steps : d.spent ≡ None → call_on c line cl [] k w ≡ come_out c d.outs (with_world (λ w. record w { clerks = put c d.clerk w.clerks }) waits)
  steps e = ap (λ o. elim o as (λ z. Moving) [ Some s ↦ fails (fault.Spent s) w | None ↦ clerk_does c (record d { outs = [] ++ d.outs }) waits ]) e
      ∙ ap (λ o. elim o as (λ z. Moving) [ Some s ↦ fails (fault.Spent s) waits.world | None ↦ come_out c d.outs (with_world (λ w. record w { clerks = put c d.clerk w.clerks }) waits) ]) e

  unspent : (call_on c line cl [] k w).fault ≡ None → d.spent ≡ None
  unspent f = go d.spent refl
    where
      go : (o : Option Counter) → d.spent ≡ o → o ≡ None
      go None e = refl
      go (Some s) e =
          let bad : Some (fault.Spent s) ≡ None = sym (ap (λ o. (elim o as (λ z. Moving) [ Some s ↦ fails (fault.Spent s) w | None ↦ clerk_does c (record d { outs = [] ++ d.outs }) waits ]).fault) e) ∙ f in
          absurd (grind (arith, bad))

  on-scene : d.spent ≡ None → IsScene (call_on c line cl [] k w).world (done_by c d sc.mail sc)
  on-scene e = subst (λ m. IsScene m.world (done_by c d sc.mail sc)) (sym (steps e))
      (comes-out c d.outs (with_world (λ w. record w { clerks = put c d.clerk w.clerks }) waits) (record sc { clerks = put c d.clerk sc.clerks }) (with-clerks waits.world sc c d.clerk waits-scene))

  calls : at c w.clerks ≡ Some k → call c line cl w ≡ call_on c line cl [] k w
  calls e = ap (λ o. elim o as (λ z. Moving) [ Some k ↦ call_on c line cl [] k w | None ↦ start_and_call c line cl w ]) e

  pub called : at c w.clerks ≡ Some k → (call c line cl w).fault ≡ None → ((begin cl k).spent ≡ None) × IsScene (call c line cl w).world (done_by c (begin cl k) sc.mail sc)
  called e f =
      let u = unspent (ap (λ m. m.fault) (sym (calls e)) ∙ f) in
      (u, subst (λ m. IsScene m.world (done_by c d sc.mail sc)) (sym (calls e)) (on-scene u))
