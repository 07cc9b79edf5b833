use Rattle.ec_clerknode.specs.LaneRuns.{lists_of}
use Rattle.ec_mount.proofs.Passing.{called_failed, called_ended}
use Rattle.ec_mount.proofs.calls.make_calls.Goals as goal
use Rattle.ec_mount.proofs.calls.make_calls.Goals.{in-Ok, in-Err}

pub returns : goal.returns
returns g c =
    let lock = c.args.clerk.now.lock in
    let mid = c.run_beside-lanes.new.pass in
    let all = lists_of c.run_beside-lanes.result.lanes in
    let end = c.run_beside-lanes.result.end in
    elim c.match-met.branch [
      | in-Ok w ↦ called_ended lock c.args.pass.now mid c.args.lanes.items all end c.run_beside-lanes.ensures tt w.in-Ok.is c.requires.none w.end-last.new.pass c.match-met.pass w.pass-is w.end-last.result c.match-met.last w.last-is w.end-last.ensures
      | in-Err w ↦ called_failed lock c.args.pass.now mid c.args.lanes.items all end c.run_beside-lanes.ensures w.in-Err.fault w.in-Err.is c.match-met.pass w.pass-is c.match-met.last w.last-is
    ]
