use Rattle.std.proofs.Common.{◌≡◌, ◌++◌, drop}
use Rattle.ec_mount.specs.Script.{calls_of}
use Rattle.ec_mount.proofs.script.calls_of.Given as goal

abbrev pub invariant-rows : goal.invariant-rows
invariant-rows l = l.calls.items ++ calls_of l.lane (drop l.row-index l.rows) ≡ calls_of l.lane l.rows
