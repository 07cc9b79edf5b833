-- A clerk starts with its call, in the world and in its scene.
use Rattle.std.proofs.Common.{◌≡◌, sym, ap, ◌∙◌, subst, ◌+◌, ℕ, []}
use Rattle.std.specs.Prelude.{None, Some}
use Rattle.ec_base.specs.Tables.{at, put}
use Rattle.ec_plain.specs.declared.call.Call.{Call}
use Rattle.ec_protocol.specs.Clerk.{Doing, begin, start}
use Rattle.ec_protocol.specs.World.{Moving, boot, call, call_on, fails, start_and_call}
use Rattle.ec_protocol.specs.declared.world.World.{World}
use Rattle.ec_protocol.specs.declared.world.WorldFault.TheVariants as fault
use Rattle.ec_quiet.specs.Scenes.{IsScene, Scene, done_by}
use Rattle.ec_quiet.specs.First.{start_calling}
use Rattle.ec_quiet.proofs.Stepping.{carried}

module _ (w : World) (sc : Scene) (c line : ℕ) (cl : Call) (i : IsScene w sc) (none : at c w.clerks ≡ None) where
  abbrev b : ℕ
  b = boot c w + 1

  abbrev d : Doing
  d = start c b

  abbrev booted : World
  booted = record w { boots = put c b w.boots }

  booted-scene : IsScene booted sc
  booted-scene = record { server = i.server; durable = i.durable; sure = i.sure; linked = i.linked; clerks = i.clerks; mail = i.mail; kept = i.kept; rising = i.rising; pending = i.pending; pool = i.pool }

  calls : d.spent ≡ None → call c line cl w ≡ call_on c line cl d.outs d.clerk booted
  calls e = ap (λ o. elim o as (λ z. Moving) [ Some k ↦ call_on c line cl [] k w | None ↦ start_and_call c line cl w ]) none
      ∙ ap (λ o. elim o as (λ z. Moving) [ Some n ↦ fails (fault.Spent n) w | None ↦ call_on c line cl d.outs d.clerk booted ]) e

  pub starts : d.spent ≡ None → (begin cl d.clerk).spent ≡ None → ((call c line cl w).fault ≡ None) × IsScene (call c line cl w).world (done_by c (start_calling c b cl) sc.mail sc)
  starts e f = subst (λ (m : Moving). (m.fault ≡ None) × IsScene m.world (done_by c (start_calling c b cl) sc.mail sc)) (sym (calls e)) (carried booted sc booted-scene c line cl d.outs d.clerk f)
