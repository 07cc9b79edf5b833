use Rattle.std.proofs.Common.{◌≡◌, rules}
use Rattle.std.specs.List.{list_all}
use Rattle.ec_volume.specs.Update.{member}
use Rattle.ec_lines.proofs.Named.{tells}
use Rattle.ec_lines.proofs.lines.may_be_durable.Goals as goal

pub returns : goal.returns
returns c =
    let same : c.may_be_durable.result ≡ list_all (λ n. member n c.args.watch.now.undurable) c.args.ops.now = search rules in
    tells _ _ same
