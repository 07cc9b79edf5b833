use Rattle.std.proofs.Common.{◌∙◌, List, ℕ, sym, subst}
use Rattle.std.specs.Prelude.{IfOk}
use Rattle.ec_stands.specs.OfTable.Codes.{numbers_in}
use Rattle.ec_store.specs.Places.{ArePlaces}
use Rattle.ec_store.specs.Plan.{IsPlan}
use Rattle.ec_store.proofs.plan.lay_out_all.Goals as goal

pub lay_out-requires-clause-places : goal.lay_out-requires-clause-places
lay_out-requires-clause-places c =
    let most = c.args.state.now.max_objects in
    subst (λ ns. ArePlaces most ns c.new-none.result) (sym (c.as_slice.ensures.value ∙ c.in_ok-named.ensures)) (subst (λ (k : List (ℕ × ℕ)). ArePlaces most (numbers_in c.args.places.now) k) (sym c.new-none.ensures) c.requires.places)

pub returns-clause-plan : goal.returns-clause-plan
returns-clause-plan c =
    let d = c.args.state.now in
    subst (λ (k : List (ℕ × ℕ)). IfOk c.lay_out.result (λ p. IsPlan d.max_objects (numbers_in c.args.places.now) k d.volume p)) c.new-none.ensures
    (subst (λ ns. IfOk c.lay_out.result (λ p. IsPlan d.max_objects ns c.new-none.result d.volume p)) (c.as_slice.ensures.value ∙ c.in_ok-named.ensures) c.lay_out.ensures.plan)
