use Rattle.std.proofs.Common.{◌≡◌, take}
use Rattle.std.specs.List.{flat_map}
use Rattle.ec_volume.specs.Update.{operands}
use Rattle.ec_store.proofs.plan.touched_by.Given as goal

abbrev pub invariant-loop-op : goal.invariant-loop-op
invariant-loop-op l = l.ids.items ≡ flat_map (λ op. operands op.1) (take l.op-index l.ops)
