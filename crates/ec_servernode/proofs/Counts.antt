-- Counts of a disk, over several calls.
use Rattle.std.proofs.Common.{Option, None, arith}
use Rattle.ec_disk.specs.Disk.{Counts}
use Rattle.ec_servernode.specs.declared.step.Halt.{Halt}
use Rattle.ec_servernode.specs.Node.{CountsUp}
use Rattle.ec_base.proofs.OutsideLemmas.{rose_later}

pub no_halt_up : (c : Counts) → CountsUp None c c
no_halt_up c = record { faults = omega arith; stops = omega arith; failed = λ e. absurd (cc e); stopped = λ e. absurd (cc e) }

-- no halt stood before, and this one comes
pub then_up : (h : Option Halt) (old mid new : Counts) → CountsUp None old mid → CountsUp h mid new → CountsUp h old new
then_up h old mid new a b =
    let faults = a.faults in
    let stops = a.stops in
    let more_faults = b.faults in
    let more_stops = b.stops in
    record {
      faults = omega arith;
      stops = omega arith;
      failed = λ e. rose_later old.faults mid.faults new.faults a.faults (b.failed e);
      stopped = λ e. rose_later old.stops mid.stops new.stops a.stops (b.stopped e);
    }
