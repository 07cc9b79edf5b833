use Rattle.std.proofs.Common.{arith}
use Rattle.ec_codes.specs.FormatLaws.{is_found, is_only}
use Rattle.ec_codes.specs.Updates.{update_code}
use Rattle.ec_codes.specs.UpdateLaws.{update-is}
use Rattle.ec_codes.specs.SoundLaws.{found_sound}
use Rattle.ec_codes.proofs.read_updates.get_update.Goals as goal

pub returns-clause-found : goal.returns-clause-found
returns-clause-found c = is_found update_code update-is c.args.bytes.now c.args.at c.read_update.result (λ i. omega (arith, c.type_inv.bytes i)) c.read_update.ensures

pub returns-clause-sound : goal.returns-clause-sound
returns-clause-sound c = found_sound c.args.bytes.now c.args.at c.read_update.result (is_found update_code update-is c.args.bytes.now c.args.at c.read_update.result (λ i. omega (arith, c.type_inv.bytes i)) c.read_update.ensures)

pub returns-clause-only : goal.returns-clause-only
returns-clause-only c = is_only update_code update-is c.args.bytes.now c.args.at c.read_update.result c.read_update.ensures
