use Rattle.std.proofs.Common.{◌≡◌}
use Rattle.std.specs.List.{slice_split}
use Rattle.ec_base.specs.Names.{is_slash, names_fault}
use Rattle.ec_mount_words.proofs.paths.are_names.Given as goal

abbrev pub invariant-loop-before : goal.invariant-loop-before
invariant-loop-before l = names_fault 0 (slice_split is_slash l.bytes) ≡ names_fault l._before (slice_split is_slash l.rest)
