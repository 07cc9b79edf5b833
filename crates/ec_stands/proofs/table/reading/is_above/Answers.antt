use Rattle.std.proofs.Common.{sym}
use Rattle.ec_stands.specs.OfTable.CodeLaws.{above_last}
use Rattle.ec_stands.proofs.table.reading.is_above.Goals as goal

pub returns-in-Some : goal.returns-in-Some
returns-in-Some c = rw (c.get.ensures.value, c.get-in-Some.ensures.value) (sym (above_last c.args.before.now c.in-Some.last.now c.args.id c.in-Some.ensures.item.3.0 c.in-Some.ensures.item.1))
