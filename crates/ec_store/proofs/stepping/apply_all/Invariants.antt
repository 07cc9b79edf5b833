use Rattle.std.proofs.Common.{◌≡◌, drop}
use Rattle.ec_durable.specs.Steps.{AreSoundOps}
use Rattle.ec_store.specs.Stepping.{behind}
use Rattle.ec_store.proofs.stepping.apply_all.Given as goal

abbrev pub invariant-loop-update : goal.invariant-loop-update
invariant-loop-update l = record {
  sound : AreSoundOps (drop l.update-index l.ops);
  behind_is : behind (drop l.update-index l.ops) l.volume ≡ behind l.ops l.fn.volume;
}
