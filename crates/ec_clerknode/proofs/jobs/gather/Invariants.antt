use Rattle.std.proofs.Common.{◌≡◌, ◌++◌, List, length}
use Rattle.std.specs.List.{All}
use Rattle.std.specs.Vec.Iter.{into_iter_items, into_iter_len}
use Rattle.ec_plain.specs.declared.call.Call.{Call}
use Rattle.ec_lock.specs.PassViews.{IsPassOf}
use Rattle.ec_clerknode.specs.declared.step.Step.{Step}
use Rattle.ec_clerknode.specs.LaneRuns.{LanesCame, lists_of}
use Rattle.ec_clerknode.specs.Jobs.{AreBack}
use Rattle.ec_clerknode.proofs.jobs.gather.Given as goal

abbrev pub invariant-ran : goal.invariant-ran
invariant-ran g l =
    IsPassOf l.clerk.lock l.pass
    × (l.yielded ++ into_iter_items l.one-iterator ≡ l.fn.ran.items)
    × (into_iter_len l.one-iterator ≡ length (into_iter_items l.one-iterator))
    × All (λ one. IsPassOf l.clerk.lock one.0) (into_iter_items l.one-iterator)
    × ((before : List Step) (lanes : List (List Call)) → AreBack l.clerk.lock before lanes l.yielded → LanesCame l.clerk.lock before l.fn.pass lanes l.pass (lists_of l.all.lanes) l.all.end)
