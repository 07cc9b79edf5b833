use Rattle.std.proofs.Common.{◌≡◌, ap, sym, subst, ◌∙◌, Result, Ok, Err, OnOk, OnErr}
use Rattle.ec_sessions.specs.OfTokens.Tokens.{Tokens, is_clear}
use Rattle.ec_sessions.specs.OfTokens.SoundTokens.{IsSound}
use Rattle.ec_sessions.specs.OfTokens.Laws.{sound_granted, not_free}
use Rattle.ec_sessions.proofs.tokens.tokens.Tokens.grant.Goals as goal

either : {V F : Type 0} (r : Result V F) (old new later : Tokens) → OnOk r (new ≡ later) → OnErr r (new ≡ old) → IsSound old → IsSound later → IsSound new
either (Ok v) old new later ok err before after = subst IsSound (sym ok) after
either (Err e) old new later ok err before after = subst IsSound (sym err) before

pub invariant_of-self : goal.invariant_of-self
invariant_of-self c =
    let rows = c.self.inside.rows in
    either c.record.result rows c.record.new.rows _ c.record.ensures.ok c.record.ensures.err c.self.invariant
    (sound_granted rows c.args.s c.self.invariant c.args.obj c.args.hold c.args.number (not_free c.args.hold c.requires.held) (ap (λ ts. is_clear ts c.args.s c.args.obj c.args.hold) c.self.view_is ∙ c.requires.clear))

pub returns-clause-sound : goal.returns-clause-sound
returns-clause-sound c = invariant_of-self c
