use Rattle.std.proofs.Common.{ap, sym, subst, ◌∙◌}
use Rattle.std.proofs.lemmas.Bool.{and_parts}
use Rattle.std.proofs.lemmas.List.{drop_all}
use Rattle.ec_sessions.specs.OfTokens.Tokens.{first_clash}
use Rattle.ec_sessions.specs.OfTokens.SoundTokens.{IsSound}
use Rattle.ec_sessions.specs.OfTokens.Laws.{sound_claimed}
use Rattle.ec_sessions.proofs.tokens.tokens.Tokens.claim.Goals as goal

pub invariant_of-self-2 : goal.invariant_of-self-2
invariant_of-self-2 c =
    let rows = c.self.inside.rows in
    subst IsSound (sym c.in_ok-claim.ensures.ok)
    (sound_claimed rows c.args.s c.self.invariant c.args.list.now (and_parts _ _ c.requires).1 (sym c.loop-obj.invariant ∙ ap (first_clash rows c.args.s) (drop_all c.loop-obj.obj-index c.args.list.now c.loop-obj-test.false)))

pub returns-clause-sound : goal.returns-clause-sound
returns-clause-sound c = invariant_of-self-2 c
