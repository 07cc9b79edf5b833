use Rattle.std.proofs.Common.{ℕ, is_some, IsTrue, take}
use Rattle.ec_base.specs.Tables.{at}
use Rattle.ec_volume.specs.Update.{member}
use Rattle.ec_protocol.specs.OfPool.Insides.{stays, Forgets}
use Rattle.ec_protocol.proofs.pool.forget.forget_settled.Given as goal

abbrev pub invariant-loop-number : goal.invariant-loop-number
invariant-loop-number l =
    Forgets l.sent l.pending l.fn.kept.entries l.kept.entries
    × ((n : ℕ) → IsTrue (member n (take l.number-index l.settled)) → IsTrue (is_some (at n l.kept.entries)) → IsTrue (stays l.sent l.pending n))
