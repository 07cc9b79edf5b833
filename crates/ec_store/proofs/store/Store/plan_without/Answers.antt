use Rattle.std.proofs.Common.{◌∙◌, ℕ, List, None, cond, ap, subst, sym}
use Rattle.std.specs.Prelude.{IfOk}
use Rattle.ec_base.specs.Tables.{at}
use Rattle.ec_volume.specs.Update.{member}
use Rattle.ec_store.specs.Places.{ArePlaces}
use Rattle.ec_store.specs.Plan.{IsPlan}
use Rattle.ec_store.proofs.Members.{left_kept}
use Rattle.ec_store.proofs.Holding.{fewer_places}
use Rattle.ec_store.proofs.Planning.{plans}
use Rattle.ec_store.proofs.store.Store.plan_without.Goals as goal

pub lay_out-requires-clause-places : goal.lay_out-requires-clause-places
lay_out-requires-clause-places c =
    let s = c.args.self.now in
    subst (λ ns. ArePlaces s.state.max_objects ns c.forget.new.kept) (sym c.as_slice.ensures.value)
    (fewer_places s.state.max_objects s.named.items s.kept c.forget.new.kept s.places (λ o slot found. (left_kept o slot (member o c.args.ids.now) (at o c.forget.new.kept) (at o s.kept) (c.forget.ensures o ∙ ap (λ (l : List (ℕ × ℕ)). cond (member o c.args.ids.now) None (at o l)) c.in_ok-kept.ensures) found).0))

pub returns : goal.returns
returns c =
    let s = c.args.self.now in
    plans s.state s.named.items s.kept c.forget.new.kept c.args.ids.now (λ o. c.forget.ensures o ∙ ap (λ (l : List (ℕ × ℕ)). cond (member o c.args.ids.now) None (at o l)) c.in_ok-kept.ensures) c.lay_out.result
    (subst (λ ns. IfOk c.lay_out.result (λ p. IsPlan s.state.max_objects ns c.forget.new.kept s.state.volume p)) c.as_slice.ensures.value c.lay_out.ensures.plan) c.lay_out.ensures.table c.lay_out.ensures.fits c.lay_out.ensures.short
