use Rattle.std.proofs.Common.{◌≡◌, drop}
use Rattle.ec_sessions.specs.OfTokens.Tokens.{first_clash}
use Rattle.ec_sessions.proofs.tokens.tokens.Tokens.claim.Given as goal

abbrev pub invariant-loop-obj : goal.invariant-loop-obj
invariant-loop-obj l = first_clash l.self-inside.rows l.s (drop l.obj-index l.list) ≡ first_clash l.self-inside.rows l.s l.list
