use Rattle.std.proofs.Common.{◌≡◌, sym, subst, ◌∙◌, Bool, true, false, refl}
use Rattle.std.proofs.lemmas.Bool.{OnTrue_at, OnFalse_at}
use Rattle.ec_sessions.specs.OfTokens.SoundTokens.{IsSound}
use Rattle.ec_sessions.specs.OfTokens.Laws.{sound_lowered}
use Rattle.ec_sessions.proofs.tokens.tokens.Tokens.give_back.Goals as goal

sound : goal.invariant_of-self
sound c = go c.give_back.result refl
  where
    go : (b : Bool) → c.give_back.result ≡ b → IsSound c.give_back.new.rows
    go true e = subst IsSound (sym (OnTrue_at e c.give_back.ensures.lowered)) (sound_lowered c.self.inside.rows c.args.s c.self.invariant c.args.obj c.args.to c.args.number (sym c.give_back.ensures.answer ∙ e))
    go false e = subst IsSound (sym (OnFalse_at e c.give_back.ensures.kept)) c.self.invariant

pub invariant_of-self : goal.invariant_of-self
invariant_of-self c = sound c

pub returns-clause-sound : goal.returns-clause-sound
returns-clause-sound c = sound c
