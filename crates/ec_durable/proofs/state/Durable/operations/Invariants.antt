use Rattle.std.proofs.Common.{◌≡◌, drop}
use Rattle.ec_sessions.specs.SlotChecks.{CanMark}
use Rattle.ec_durable.specs.Durable.{operations, slot}
use Rattle.ec_durable.proofs.state.Durable.operations.Given as goal

abbrev pub invariant-loop-op : goal.invariant-loop-op
invariant-loop-op l = record {
  left : operations l.clerk (drop l.op-index l.ops) l.self ≡ operations l.clerk l.ops l.fn.self;
  mark : CanMark (slot l.fn.self l.clerk) → CanMark (slot l.self l.clerk);
}
