use Rattle.ec_codes.specs.Images.{content, file_fields}
use Rattle.ec_codes.proofs.Written.{and_on, then_puts, file_written}
use Rattle.ec_codes.proofs.write_images.put_file.Goals as goal

pub returns : goal.returns
returns c =
    let old = c.args.out.now.items in
    let one = c.put_mode_field.new.out.items in
    let two = c.put_u64.new.out.items in
    let three = c.put_u32.new.out.items in
    let new = c.put_content.new.out.items in
    let w0 = c.in_ok-put_mode_field.ensures in
    let w1 = c.in_ok-put_u64.ensures in
    let w2 = c.in_ok-put_u32.ensures in
    then_puts c.put_content.result content c.args.bytes.now file_fields (c.args.mode, (c.args.stamp, (c.args.owner, c.args.bytes.now))) old three new (and_on old one three (_, w0.0) (and_on one two three (_, w1.0) (_, w2.0)))
    (λ w. file_written c.args.mode c.args.stamp c.args.owner c.args.bytes.now old one two three new w0 w1 w2 w) c.put_content.ensures
