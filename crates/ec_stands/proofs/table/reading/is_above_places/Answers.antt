use Rattle.std.proofs.Common.{sym}
use Rattle.ec_stands.specs.OfTable.CodeLaws.{above_place}
use Rattle.ec_stands.proofs.table.reading.is_above_places.Goals as goal

pub returns-in-Some : goal.returns-in-Some
returns-in-Some c = rw (c.get.ensures.value, c.get-in-Some.ensures.value) (sym (above_place c.args.before.now c.in-Some.field-0.now c.args.id c.in-Some.ensures.item.3.0 c.in-Some.ensures.item.1))
