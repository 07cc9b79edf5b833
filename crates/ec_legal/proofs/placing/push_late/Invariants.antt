use Rattle.std.proofs.Common.{◌≡◌, ◌++◌, take, drop}
use Rattle.ec_legal.specs.Watches.{IsHeld}
use Rattle.ec_history.specs.Placing.{watch, late, ops_in}
use Rattle.ec_legal.proofs.placing.push_late.Given as goal

abbrev pub invariant-loop-at : goal.invariant-loop-at
invariant-loop-at l =
    (l.fn.entries.items ++ late l.clerk (take l.from l.lines.shown.now) (drop l.from l.lines.shown.now) ≡ l.entries.items ++ late l.clerk (take l.at l.lines.shown.now) (drop l.at l.lines.shown.now))
    × (l.fn.ops.items ++ ops_in (late l.clerk (take l.from l.lines.shown.now) (drop l.from l.lines.shown.now)) ≡ l.ops.items ++ ops_in (late l.clerk (take l.at l.lines.shown.now) (drop l.at l.lines.shown.now)))
    × IsHeld l.boot (watch l.clerk (take l.at l.lines.shown.now))
