-- A line is worked where it's about what its call touches, or where it pushes an operation.
use Rattle.std.proofs.Common.{◌≡◌, refl, sym, ap, subst, ◌∙◌, ℕ, List, [], ◌∷◌, Some}
use Rattle.ec_base.specs.Tables.{at}
use Rattle.ec_volume.specs.Volume.{Images}
use Rattle.ec_plain.specs.declared.call.Call.{Call}
use Rattle.ec_protocol.specs.declared.clerk.Clerk.{Clerk}
use Rattle.ec_protocol.specs.declared.clerk.Waiting.{Waiting}
use Rattle.ec_protocol.specs.declared.script.Line.TheVariants as line
use Rattle.ec_protocol.specs.declared.world.World.{World}
use Rattle.ec_coherence.specs.System.{System}
use Rattle.ec_quiet.specs.Phases.{InPhase, Phase}
use Rattle.ec_quiet.specs.Scenes.{IsScene, Scene}
use Rattle.ec_quiet.specs.Works.{Calls, HasTask, Pushes, Task, Work}
use Rattle.ec_complete.specs.WaitingCalls.{kept_volume, touched_by}
use Rattle.ec_complete.specs.Lines.{IsOnLine, next_object}
use Rattle.ec_quiet.specs.OfDeliveries.PhasesBehind.{saved}
use Rattle.ec_quiet.specs.OfDeliveries.ScriptWorks.{IsWorkOn}
use Rattle.ec_quiet.proofs.OfDeliveries.ForWriteBehind.Worked.{touches-work}
use Rattle.ec_complete.specs.Following.{IsAtWork, IsWorked}
use Rattle.ec_complete.proofs.ForFaultless.Unused.{next-unused}

-- a clerk with its task is at work
pub at-work : (t : Task) (k : Clerk) → HasTask t k → IsAtWork t k
at-work (Calls cl) k task = λ none. some-waits task.0 [] (sym task.1 ∙ none)
  where
    some-waits : (x : Waiting) (xs : List Waiting) → x ∷ xs ≡ [] → ⊥
    some-waits x xs e = cc
at-work (Pushes n) k task = tt

pub calls-worked : (cl : Call) (v : Images) (j : Work) (w : World) (sc : Scene) (g : System) (p : Phase) → IsOnLine j w sc g → IsScene w sc → InPhase j sc p → j.task ≡ Calls cl
    → ((k : Clerk) → at j.clerk sc.clerks ≡ Some k → (k.waiting ≡ [] → ⊥) → (kept_volume g ≡ v) × (j.touched ≡ touched_by cl (kept_volume g) (next_object sc j.clerk k))) → IsWorked (line.Call j.clerk cl) g.origin v j sc g
calls-worked cl v j w sc g p on scene ip is same = record { origin_is = refl; works = works }
  where
    works : (k : Clerk) → at j.clerk sc.clerks ≡ Some k → IsAtWork j.task k → (saved (kept_volume g) j.task ≡ saved v j.task) × IsWorkOn g.origin g.ghost.kept (line.Call j.clerk cl) j
    works k there task =
        let q = same k there (subst (λ t. IsAtWork t k) is task) in
        (ap (λ u. saved u j.task) q.0, touches-work g.origin g.ghost.kept j.clerk (next_object sc j.clerk k) cl j refl is q.1 on.whole.zeros.kept (next-unused j w sc g p on scene ip k there))

pub pushes-worked : (n : ℕ) (v : Images) (j : Work) (sc : Scene) (g : System) → j.task ≡ Pushes n → j.touched ≡ [] → IsWorked (line.Push j.clerk n) g.origin v j sc g
pushes-worked n v j sc g is none = record { origin_is = refl; works = λ k there task. (ap (saved (kept_volume g)) is ∙ sym (ap (saved v) is), (refl, is, none)) }
