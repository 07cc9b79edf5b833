use Rattle.std.proofs.Common.{drop}
use Rattle.std.specs.List.{flat_map}
use Rattle.ec_mount.specs.Shown.{told_text}
use Rattle.ec_mount.proofs.Texts.{Sofar}
use Rattle.ec_mount.proofs.shown.write_told.Given as goal

abbrev pub invariant-told : goal.invariant-told
invariant-told g l = Sofar (g.K.Sink.held l.fn.sink) (g.K.Sink.held l.sink) (g.K.Sink.faults l.fn.sink) (g.K.Sink.faults l.sink) (flat_map told_text (drop l.ops-index l.told)) (flat_map told_text l.told)
