use Rattle.std.proofs.Common.{arith}
use Rattle.ec_codes.specs.FormatLaws.{is_found, is_only}
use Rattle.ec_stands.specs.OfTable.Codes.{table_code}
use Rattle.ec_stands.specs.OfTable.CodeLaws.{table_is}
use Rattle.ec_stands.proofs.table.reading.get_table.Goals as goal

pub returns-clause-found : goal.returns-clause-found
returns-clause-found c = is_found (table_code c.args.max_objects) (table_is c.args.max_objects) c.args.bytes.now c.args.at c.read_table.result (λ i. omega (arith, c.type_inv.bytes i)) c.read_table.ensures

pub returns-clause-only : goal.returns-clause-only
returns-clause-only c = is_only (table_code c.args.max_objects) (table_is c.args.max_objects) c.args.bytes.now c.args.at c.read_table.result c.read_table.ensures
