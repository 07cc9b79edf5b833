use Rattle.std.specs.Prelude.{nat_eq}
use Rattle.std.specs.HashMap.{get}
use Rattle.ec_lines.proofs.Indexed.{index-waits, index-answered, index-still, of-no-call}
use Rattle.ec_lines.proofs.seen.note_call.Goals as goal

pub returns-in_ok-note_number-in-Waits : goal.returns-in_ok-note_number-in-Waits
returns-in_ok-note_number-in-Waits c =
    index-waits (get nat_eq c.args.calls.now) (get nat_eq c.note_number.new.calls) c.args.before.now.shown.now c.in-Waits.number c.in-Waits.clerk c.in-Waits.field-2 c.args.line.now c.in-Waits.is c.requires.shape c.in_ok-note_number-in-Waits.ensures c.requires.index

pub returns-in_ok-note_number-in-Answered : goal.returns-in_ok-note_number-in-Answered
returns-in_ok-note_number-in-Answered c =
    index-answered (get nat_eq c.args.calls.now) (get nat_eq c.note_number-in-Answered.new.calls) c.args.before.now.shown.now c.in-Answered.number c.in-Answered.clerk c.in-Answered.field-2 c.in-Answered.field-3 c.in-Answered.field-4 c.args.line.now c.in-Answered.is c.requires.shape c.in_ok-note_number-in-Answered.ensures c.requires.index

pub returns-in_default : goal.returns-in_default
returns-in_default c = index-still (get nat_eq c.args.calls.now) c.args.before.now.shown.now c.args.line.now (of-no-call c.args.line.now c.in_default.not-Waits c.in_default.not-Answered) c.requires.index
