use Rattle.std.proofs.Common.{◌≡◌, drop}
use Rattle.ec_sessions.specs.OfTokens.Tokens.{first_conflict}
use Rattle.ec_sessions.proofs.tokens.rows.first_conflict.Given as goal

abbrev pub invariant-loop-session : goal.invariant-loop-session
invariant-loop-session l = first_conflict (drop l.session-index l.session-items) l.s l.obj l.hold ≡ first_conflict l.rows l.s l.obj l.hold
