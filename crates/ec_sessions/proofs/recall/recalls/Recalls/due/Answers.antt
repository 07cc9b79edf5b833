use Rattle.std.proofs.Common.{◌≡◌, ap, sym, subst, ◌∙◌, [], List}
use Rattle.indexmap.specs.IndexMap.{values}
use Rattle.ec_sessions.specs.declared.recall.want.Want.{Want}
use Rattle.ec_sessions.specs.OfRecall.Due.{actions, wants_after}
use Rattle.ec_sessions.specs.OfRecall.Keys.{AreApart}
use Rattle.ec_sessions.specs.OfRecall.Laws.{go_in}
use Rattle.ec_sessions.specs.OfRecall.Rounds.{GrantsGoIn}
use Rattle.ec_sessions.specs.OfRecall.HeldWants.{NoneFree}
use Rattle.ec_sessions.proofs.OfRecall.KeyLemmas.{apart_stays, apart_from_unique, held_stays}
use Rattle.ec_sessions.proofs.recall.recalls.Recalls.due.Goals as goal

pub keyed-requires : goal.keyed-requires
keyed-requires c =
    let kept = apart_stays c.args.tokens.now [] _ (apart_from_unique c.self.inside.wants.entries c.self.invariant.0 c.self.invariant.1) in
    subst AreApart (sym (c.in_ok-round.ensures.wants ∙ ap (wants_after c.args.tokens.now) (c.as_slice.ensures ∙ c.values.ensures.rest))) kept

pub invariant_of-self : goal.invariant_of-self
invariant_of-self c =
    let left = c.in_ok-self-inside.ensures.wants ∙ c.in_ok-round.ensures.wants ∙ ap (wants_after c.args.tokens.now) (c.as_slice.ensures ∙ c.values.ensures.rest) in
    (c.in_ok-self-inside.ensures.keyed, c.in_ok-self-inside.ensures.unique, subst NoneFree (sym left) (held_stays c.args.tokens.now [] (values c.self.inside.wants) c.self.invariant.2))

pub returns-clause-grants : goal.returns-clause-grants
returns-clause-grants c sound =
    subst (GrantsGoIn c.args.tokens.now) (sym (c.in_ok-round.ensures.actions ∙ ap (actions c.args.tokens.now) (c.as_slice.ensures ∙ c.values.ensures.rest))) (go_in c.args.tokens.now (values c.self.inside.wants) sound c.self.invariant.2)
