use Rattle.ec_words.specs.RowsLeft.{left}
use Rattle.ec_lease_machine.proofs.OfWords.Outside.{clock_line, clock_fault, drill_line, drill_fault}
use Rattle.ec_lease_machine.proofs.words.line.read_lease_line.Goals as goal

pub returns-in-Ok : goal.returns-in-Ok
returns-in-Ok c =
    let starts = c.in-Some.ensures in
    clock_line c.args.most c.args.line.now starts.0 (left c.in-Some.rest) c.in-Some.word c.in-Ok.read starts.1.0 starts.1.1 c.in-Ok.ensures

pub returns-in-Err : goal.returns-in-Err
returns-in-Err c =
    let starts = c.in-Some.ensures in
    clock_fault c.args.most c.args.line.now starts.0 (left c.in-Some.rest) c.in-Some.word c.in-Err.misfit c.fault_at.result starts.1.0 starts.1.1 c.in-Err.ensures c.fault_at.ensures

pub returns-in-Ok-read_line : goal.returns-in-Ok-read_line
returns-in-Ok-read_line c = drill_line c.args.most c.args.line.now c.in-Ok-read_line.read c.in-Ok-read_line.ensures

pub returns-in-Err-read_line : goal.returns-in-Err-read_line
returns-in-Err-read_line c = drill_fault c.args.most c.args.line.now c.in-Err-read_line.fault c.in-None.ensures c.in-Err-read_line.ensures
