use Rattle.std.proofs.Common.{sym, subst, ap, ◌∙◌}
use Rattle.std.specs.Ordering.{nat_cmp}
use Rattle.ec_base.specs.Sorted.{without}
use Rattle.ec_sessions.specs.OfTokens.SoundTokens.{IsSound}
use Rattle.ec_sessions.specs.OfTokens.Laws.{sound_without}
use Rattle.ec_sessions.proofs.tokens.tokens.Tokens.drop_session.Goals as goal

pub invariant_of-self : goal.invariant_of-self
invariant_of-self c = subst IsSound (sym c.remove.ensures.others) (sound_without c.self.inside.rows c.args.s c.self.invariant)

pub returns-clause-sound : goal.returns-clause-sound
returns-clause-sound c = invariant_of-self c

pub returns-clause-dropped : goal.returns-clause-dropped
returns-clause-dropped c = c.remove.ensures.others ∙ ap (without nat_cmp c.args.s) c.self.view_is
