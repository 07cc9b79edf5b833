-- A link that came, and one that comes back.
use Rattle.std.proofs.Common.{◌≡◌, ℕ, Bool, true, false, Option, List, [], ◌∷◌, sym, ap, ◌∙◌, subst}
use Rattle.ec_link.specs.Links.{Heard}
use Rattle.ec_link.specs.NetAnswers.{is_bad, IsEmpty}
use Rattle.std.specs.declared.snapshot.Snapshot.{Snapshot}
use Rattle.ec_lock.specs.Steps.{of}
use Rattle.ec_lock.specs.declared.types.Pass.{Pass}
use mathlib.Core.List.{IsPrefix}
use Rattle.ec_lock.specs.PassViews.{front, numbers}
use Rattle.ec_servernode.specs.declared.state.Node.{Node}
use Rattle.ec_servernode.specs.declared.step.Step.{Step}
use Rattle.ec_servernode.specs.Run.{number_of}
use Rattle.ec_serve.specs.OfThreads.Goings.{over_later}
use Rattle.ec_attend.specs.Links.{Carries}
use Rattle.ec_attend.specs.OverLinks.{EndsSo, own_steps, WasServed, IsSoFar, BeginsSo}
use Rattle.ec_serve.specs.OfThreads.Moments.{IsOver}
use Rattle.ec_serve.specs.OfThreads.ServingMoments.{back_of}
use Rattle.ec_attend.proofs.Bodies.{tells_nothing}

module _ {K L : Type 0} (given : L → Option (List Heard)) (got : L → Option (List (List ℕ))) where
  -- a link that came, and the pass that was drawn for it
  pub begins_so : (pass : Pass (Node K) Step) (steps : List Step) (link : L) → numbers pass ≡ pass.number ∷ [] → front pass ≡ steps → of number_of pass.number steps ≡ [] → IsEmpty (given link) → IsEmpty (got link) → BeginsSo given got pass link
  begins_so pass steps link alone is none heard said =
      (alone, subst (λ l. IsSoFar l (given link) (got link)) (sym (ap (of number_of pass.number) is ∙ none)) (tells_nothing (given link) heard, tells_nothing (got link) said, tt))

module _ {K L : Type 0} (faults closes : L → ℕ) (given : L → Option (List Heard)) (got : L → Option (List (List ℕ))) where
  -- what is told of a link that came back, by the steps of its pass in the list that the server's own pass knows
  pub gone_back : (over : Bool) (other : Pass (Node K) Step) (steps : List Step) (link : L) (shot : Snapshot L) → over ≡ true → shot.value ≡ link → own_steps other ≡ of number_of other.number steps → IsPrefix (front other) steps → EndsSo faults closes given over other link → WasServed given got over other link
      → IsOver other.number steps (back_of faults closes given got shot) × Carries (of number_of other.number steps) (given shot.value) (got shot.value)
  gone_back over other steps link shot is same own later so was =
      subst (λ x. IsOver other.number steps ((given x, got x), is_bad (faults x) (closes x)) × Carries (of number_of other.number steps) (given x) (got x)) (sym same) (by over is so was)
    where
      by : (over : Bool) → over ≡ true → EndsSo faults closes given over other link → WasServed given got over other link → IsOver other.number steps ((given link, got link), is_bad (faults link) (closes link)) × Carries (of number_of other.number steps) (given link) (got link)
      by true is so was = (over_later (front other) steps later other.number ((given link, got link), is_bad (faults link) (closes link)) so, subst (λ l. Carries l (given link) (got link)) own was)
      by false is so was = absurd (cc is)
