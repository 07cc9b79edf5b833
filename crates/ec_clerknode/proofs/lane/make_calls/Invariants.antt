use Rattle.std.proofs.Common.{◌≡◌, length}
use Rattle.std.specs.Vec.Iter.{into_iter_items, into_iter_len}
use Rattle.ec_clerknode.proofs.LaneCalls.{Sofar}
use Rattle.ec_clerknode.proofs.lane.make_calls.Given as goal

abbrev pub invariant-calls : goal.invariant-calls
invariant-calls g l =
    Sofar l.clerk.lock l.fn.pass l.fn.calls.items l.pass (into_iter_items l.call-iterator) l.replies.items
    × (into_iter_len l.call-iterator ≡ length (into_iter_items l.call-iterator))
