use Rattle.std.proofs.Common.{◌++◌, subst}
use Rattle.ec_history.specs.Legal.{from_formatted}
use Rattle.ec_judge.specs.Faults.{IsFirstEntry}
use Rattle.ec_judge.proofs.Firsts.{excludes}
use Rattle.ec_judge.proofs.Checks.{legal-less}
use Rattle.ec_judge.proofs.checking.carried.Goals as goal

pub unreachable-requires : goal.unreachable-requires
unreachable-requires c =
    excludes from_formatted 0 c.args.entries.now c.in-Err-At.field-0-0 c.in-Err-At.field-0-1 (subst (λ past. IsFirstEntry from_formatted 0 (past ++ c.args.entries.now) c.in-Err-At.field-0-0 c.in-Err-At.field-0-1) c.new-2.ensures (rw c.in-Err-At.field-0-is at c.in-Err-At.ensures.fault)) (legal-less c.requires.legal.0 c.args.entries.now c.requires.legal.1)
