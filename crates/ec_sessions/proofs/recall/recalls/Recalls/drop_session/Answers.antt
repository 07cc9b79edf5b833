use Rattle.std.proofs.Common.{◌≡◌, ◌==◌, ap, sym, subst, ◌∙◌, not, filter, rules}
use Rattle.std.specs.Map.{values_of}
use Rattle.indexmap.proofs.CallerLemmas.{filter-RetainsPairs}
use Rattle.ec_sessions.specs.declared.recall.want.Want.{Want}
use Rattle.ec_sessions.specs.OfRecall.Keys.{IsKeyed}
use Rattle.ec_sessions.specs.OfRecall.HeldWants.{NoneFree}
use Rattle.ec_sessions.proofs.OfRecall.KeyLemmas.{held_filter, values-filter, keyed_filter}
use Rattle.ec_sessions.proofs.recall.recalls.Recalls.drop_session.Goals as goal

left : (c : goal.After-retain) → c.retain.new.self.entries ≡ filter (λ e. not (e.1.session == c.args.s)) c.self.inside.wants.entries
left c = filter-RetainsPairs _ (λ e. not (e.1.session == c.args.s)) _ (λ k v b w g call. search rules) _ _ c.retain.ensures.filtered

pub invariant_of-self : goal.invariant_of-self
invariant_of-self c = (
  subst IsKeyed (sym (left c)) (keyed_filter (λ (w : Want). not (w.session == c.args.s)) c.self.inside.wants.entries c.self.invariant.0),
  c.retain.ensures.unique,
  subst NoneFree (sym (ap values_of (left c) ∙ values-filter (λ (w : Want). not (w.session == c.args.s)) c.self.inside.wants.entries)) (held_filter (λ (w : Want). not (w.session == c.args.s)) (values_of c.self.inside.wants.entries) c.self.invariant.2),
)

pub returns : goal.returns
returns c = ap values_of (left c) ∙ values-filter (λ (w : Want). not (w.session == c.args.s)) c.self.inside.wants.entries ∙ ap (filter (λ (w : Want). not (w.session == c.args.s))) c.self.view_is
