use Rattle.std.proofs.Common.{◌≡◌, drop}
use Rattle.ec_base.specs.Tables.{keys}
use Rattle.ec_wire.specs.Messages.{rises}
use Rattle.ec_wire.specs.RowLaws.{rises_over}
use Rattle.ec_wire.proofs.sound.ops_rise.Given as goal

abbrev pub invariant-loop-op : goal.invariant-loop-op
invariant-loop-op l = rises_over l.last (keys (drop l.op-index l.ops)) ≡ rises (keys l.ops)
