use Rattle.std.proofs.Common.{arith}
use Rattle.ec_durable.specs.CodeLaws.{is_found, is_only, found_sound}
use Rattle.ec_durable.proofs.decoding.decode.Goals as goal

pub returns-clause-sound : goal.returns-clause-sound
returns-clause-sound c = found_sound c.args.bytes.now c.read_whole.result (is_found c.args.bytes.now c.read_whole.result (λ i. omega (arith, c.type_inv.bytes i)) c.read_whole.ensures)

pub returns-clause-found : goal.returns-clause-found
returns-clause-found c = is_found c.args.bytes.now c.read_whole.result (λ i. omega (arith, c.type_inv.bytes i)) c.read_whole.ensures

pub returns-clause-only : goal.returns-clause-only
returns-clause-only c = is_only c.args.bytes.now c.read_whole.result c.read_whole.ensures
