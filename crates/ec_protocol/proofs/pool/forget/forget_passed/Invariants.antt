use Rattle.std.proofs.Common.{ℕ, ◌+◌, ◌<◌, ◌≤◌, is_some, IsTrue}
use Rattle.ec_base.specs.Tables.{at}
use Rattle.ec_protocol.specs.World.{kept_messages}
use Rattle.ec_protocol.specs.OfPool.Insides.{Forgets}
use Rattle.ec_protocol.proofs.pool.forget.forget_passed.Given as goal

abbrev pub invariant-loop-total : goal.invariant-loop-total
invariant-loop-total l =
    Forgets l.to l.pending l.fn.kept.entries l.kept.entries
    × ((n : ℕ) → l.from < n + kept_messages → n + kept_messages ≤ l.total → IsTrue (is_some (at n l.kept.entries)) → IsTrue (is_some (at n l.pending)))
