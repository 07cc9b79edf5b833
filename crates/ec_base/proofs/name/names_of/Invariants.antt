use Rattle.std.proofs.Common.{◌≡◌, ◌++◌, length, All}
use Rattle.std.specs.List.{slice_split}
use Rattle.ec_base.specs.Names.{is_slash, names_fault, IsName}
use Rattle.ec_base.proofs.name.names_of.Given as goal

abbrev pub invariant-loop-before : goal.invariant-loop-before
invariant-loop-before l = record {
  split : slice_split is_slash l.bytes ≡ l.names.items ++ slice_split is_slash l.rest;
  count : length l.names.items ≡ l.before;
  each : All IsName l.names.items;
  faults : names_fault 0 (slice_split is_slash l.bytes) ≡ names_fault l.before (slice_split is_slash l.rest);
}
