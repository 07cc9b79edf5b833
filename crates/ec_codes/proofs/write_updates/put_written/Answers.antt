use Rattle.std.proofs.Common.{◌∙◌, ◌++◌, ap}
use Rattle.ec_codes.proofs.Written.{put_written}
use Rattle.ec_codes.proofs.write_updates.put_written.Goals as goal

pub returns : goal.returns
returns c =
    let old = c.args.out.now.items in
    let head = c.put_head.ensures in
    put_written c.args.obj c.args.at c.args.inside c.args.bytes.now old c.extend_from_slice.new.self.items c.extend_from_slice-2.new.self.items
    (c.in_ok-extend_from_slice.ensures.items ∙ ap (λ xs. old ++ xs) head.spelled) c.in_ok-extend_from_slice-2.ensures.items head.obj head.at head.len c.requires
