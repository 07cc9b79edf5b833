use Rattle.std.proofs.Common.{◌≡◌, ◌++◌, drop}
use Rattle.ec_sessions.specs.OfTokens.Tokens.{holders}
use Rattle.ec_sessions.proofs.tokens.rows.holders.Given as goal

abbrev pub invariant-loop-session : goal.invariant-loop-session
invariant-loop-session l = l.list.items ++ holders (drop l.session-index l.session-items) l.obj ≡ holders l.rows l.obj
