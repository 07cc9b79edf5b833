use Rattle.std.proofs.Common.{None, cond, ℕ, List, ap, sym, subst, ◌∙◌}
use Rattle.ec_base.specs.Tables.{at}
use Rattle.ec_volume.specs.Update.{member}
use Rattle.ec_stands.specs.OfTable.Codes.{numbers_in}
use Rattle.ec_store.specs.Places.{ArePlaces}
use Rattle.ec_store.proofs.Members.{left_kept}
use Rattle.ec_store.proofs.Holding.{fewer_places}
use Rattle.ec_store.proofs.store.Store.holding.Goals as goal

pub returns-clause-kept : goal.returns-clause-kept
returns-clause-kept c o =
    let d = c.args.opened in
    c.forget.ensures o ∙ ap (λ (l : List ℕ). cond (member o l) None (at o c.of-kept.result)) c.as_slice-2.ensures.value ∙ ap (λ (l : List (ℕ × ℕ)). cond (member o d.ids.items) None (at o l)) c.of-kept.ensures

pub invariant_of-result : goal.invariant_of-result
invariant_of-result c =
    let d = c.args.opened in
    record {
      formed = ∣ c.requires.formed.volume ∣₁;
      order = c.requires.formed.order;
      places = subst (λ ns. ArePlaces d.state.max_objects ns c.forget.new.kept) (sym (c.in_ok-named.ensures ∙ ap (λ (ps : List (ℕ × ℕ)). numbers_in ps) c.as_slice.ensures.value))
          (fewer_places d.state.max_objects _ d.places.items c.forget.new.kept c.requires.places (λ o slot found. (left_kept o slot (member o d.ids.items) (at o c.forget.new.kept) (at o d.places.items) (c.forget.ensures o ∙ ap (λ (l : List ℕ). cond (member o l) None (at o c.of-kept.result)) c.as_slice-2.ensures.value ∙ ap (λ (l : List (ℕ × ℕ)). cond (member o d.ids.items) None (at o l)) c.of-kept.ensures) found).0));
    }
