use Rattle.std.proofs.Common.{◌≡◌, drop}
use Rattle.ec_protocol.specs.Server as machine
use Rattle.ec_admission.proofs.batches.may_write.Given as goal

abbrev pub invariant-loop-update : goal.invariant-loop-update
invariant-loop-update l = machine.may_write l.tokens l.session (drop l.update-index l.ops) ≡ machine.may_write l.tokens l.session l.ops
