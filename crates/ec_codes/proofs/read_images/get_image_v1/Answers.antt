use Rattle.std.proofs.Common.{arith}
use Rattle.ec_codes.specs.FormatLaws.{is_found, is_only}
use Rattle.ec_codes.specs.Images.{old_image_code}
use Rattle.ec_codes.specs.ImageLaws.{old_image-is}
use Rattle.ec_codes.specs.EntryLaws.{found_old_image}
use Rattle.ec_codes.proofs.read_images.get_image_v1.Goals as goal

pub returns-clause-found : goal.returns-clause-found
returns-clause-found c = is_found old_image_code old_image-is c.args.bytes.now c.args.at c.read_old_image.result (λ i. omega (arith, c.type_inv.bytes i)) c.read_old_image.ensures

pub returns-clause-sound : goal.returns-clause-sound
returns-clause-sound c = found_old_image c.args.bytes.now c.args.at c.read_old_image.result (is_found old_image_code old_image-is c.args.bytes.now c.args.at c.read_old_image.result (λ i. omega (arith, c.type_inv.bytes i)) c.read_old_image.ensures)

pub returns-clause-only : goal.returns-clause-only
returns-clause-only c = is_only old_image_code old_image-is c.args.bytes.now c.args.at c.read_old_image.result c.read_old_image.ensures
