use Rattle.std.proofs.Common.{arith}
use Rattle.ec_codes.specs.FormatLaws.{is_found}
use Rattle.ec_stands.specs.Stands.{slot_code}
use Rattle.ec_stands.specs.Laws.{slot_is}
use Rattle.ec_store.proofs.reading.object_in.Goals as goal

pub returns-clause-found : goal.returns-clause-found
returns-clause-found c = is_found (slot_code c.args.version) (slot_is c.args.version) c.args.bytes.now 0 c.read_slot.result (λ i. omega (arith, c.type_inv.bytes i)) c.read_slot.ensures.exact
