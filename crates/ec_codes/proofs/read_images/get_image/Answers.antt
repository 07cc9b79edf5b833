use Rattle.std.proofs.Common.{arith}
use Rattle.ec_codes.specs.FormatLaws.{is_found, is_only}
use Rattle.ec_codes.specs.Images.{image_code}
use Rattle.ec_codes.specs.ImageLaws.{image-is}
use Rattle.ec_codes.specs.EntryLaws.{found_image}
use Rattle.ec_codes.proofs.read_images.get_image.Goals as goal

pub returns-clause-found : goal.returns-clause-found
returns-clause-found c = is_found image_code image-is c.args.bytes.now c.args.at c.read_image.result (λ i. omega (arith, c.type_inv.bytes i)) c.read_image.ensures

pub returns-clause-sound : goal.returns-clause-sound
returns-clause-sound c = found_image c.args.bytes.now c.args.at c.read_image.result (is_found image_code image-is c.args.bytes.now c.args.at c.read_image.result (λ i. omega (arith, c.type_inv.bytes i)) c.read_image.ensures)

pub returns-clause-only : goal.returns-clause-only
returns-clause-only c = is_only image_code image-is c.args.bytes.now c.args.at c.read_image.result c.read_image.ensures
