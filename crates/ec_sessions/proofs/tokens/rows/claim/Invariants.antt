use Rattle.std.proofs.Common.{◌≡◌, drop}
use Rattle.ec_sessions.specs.OfTokens.Tokens.{row, claimed_in}
use Rattle.ec_sessions.proofs.tokens.rows.claim.Given as goal

abbrev pub invariant-loop-obj : goal.invariant-loop-obj
invariant-loop-obj l = claimed_in (drop l.obj-index l.list) l.row ≡ claimed_in l.list (row l.rows l.s)
