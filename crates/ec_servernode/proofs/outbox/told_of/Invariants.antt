use Rattle.std.proofs.Common.{◌≡◌, ◌||◌, ℕ, drop}
use Rattle.ec_servernode.specs.Run.{for_clerk}
use Rattle.ec_servernode.specs.Told.{tells, has_any}
use Rattle.ec_servernode.proofs.outbox.told_of.Given as goal

abbrev pub invariant-sent : goal.invariant-sent
invariant-sent l = (c : ℕ) → (tells l.told c || has_any (for_clerk c (drop l.one-index l.sent))) ≡ has_any (for_clerk c l.sent)
