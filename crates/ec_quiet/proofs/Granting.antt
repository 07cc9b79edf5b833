-- A grant that comes leads on.
use Rattle.std.proofs.Common.{◌≡◌, refl, sym, ap, ◌∙◌, subst, arith, ◌≤◌, ◌+◌, ℕ, [], ◌∷◌, length}
use Rattle.std.specs.Prelude.{None, Some, drop}
use Rattle.ec_base.specs.Tables.{at}
use Rattle.ec_base.specs.declared.ids.Hold.{Hold}
use Rattle.ec_volume.specs.Volume.{images}
use Rattle.ec_wire.specs.declared.msg.Msg.{Msg}
use Rattle.ec_wire.specs.declared.msg.Msg.TheVariants.{Grant}
use Rattle.ec_protocol.specs.Clerk.{Doing, settle}
use Rattle.ec_protocol.specs.declared.clerk.Clerk.{Clerk}
use Rattle.ec_quiet.specs.Measure.{measure}
use Rattle.ec_quiet.specs.Phases.{Grants, InPhase, backs, main}
use Rattle.ec_quiet.specs.Scenes.{Mail, Scene, delivered, done_by}
use Rattle.ec_quiet.specs.Works.{Work}
use Rattle.ec_quiet.specs.Goes.{Goes, GoesOn, MayGo}
use Rattle.ec_quiet.specs.Takings.{taking}
use Rattle.ec_quiet.proofs.Beside.{backs-more, main-more, own-measure}
use Rattle.ec_quiet.proofs.Going.{goes}
use Rattle.ec_quiet.proofs.Taking.{arrives, few-taken, ready}

module _ (j : Work) (sc : Scene) (x : ℕ) (h : Hold) (n : ℕ) (rest : Mail) (q : InPhase j sc (Grants x h n))
    (head : sc.mail ≡ (j.clerk, Grant j.session sc.server.durable.epoch x n h (images sc.server.durable.volume x)) ∷ rest) (out : n ≤ sc.server.number)
    (may : (k : Clerk) → at j.clerk sc.clerks ≡ Some k → MayGo j (taking x h n sc k).clerk) where
  abbrev message : Msg
  message = Grant j.session sc.server.durable.epoch x n h (images sc.server.durable.volume x)

  abbrev k : Clerk
  k = q.facts.3.clerk

  there : at j.clerk sc.clerks ≡ Some k
  there = q.facts.3.working.there

  abbrev d : Doing
  d = taking x h n sc k

  main-rest : main j rest ≡ []
  main-rest = ap (λ l. drop 1 l) (sym (main-more j j.clerk message refl rest) ∙ ap (main j) (sym head) ∙ q.main_is)

  same-backs : length (backs j sc.mail) ≡ length (backs j rest)
  same-backs = ap length (ap (backs j) head ∙ backs-more j j.clerk message refl rest)

  falls : (g : Goes j sc rest d.clerk (settle d)) → measure j (done_by j.clerk (settle d) rest sc) g.phase + 32 ≤ measure j sc (Grants x h n)
  falls g = omega (arith, g.small, g.most, g.few, few-taken j sc x h n rest q head out, own-measure j None sc.server.tokens sc.clerks k d.clerk q.orderly.rising there, same-backs)

  on : Goes j sc rest d.clerk (settle d) → GoesOn j sc (Grants x h n) (delivered j.clerk message rest sc)
  on g = subst (GoesOn j sc (Grants x h n)) (sym (arrives j sc x h n rest q head out)) (g.phase, g.comes, falls g)

  pub grants-go-on : GoesOn j sc (Grants x h n) (delivered j.clerk message rest sc)
  grants-go-on =
      let m = may k there in
      on (goes j sc (Grants x h n) q tt q.facts.0 rest main-rest q.facts.3.slot d.clerk (ready j sc x h n rest q head out) m.call m.is m.waits m.counters m.touches m.evicts)
