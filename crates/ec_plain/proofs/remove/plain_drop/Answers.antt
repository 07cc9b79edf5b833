use Rattle.std.proofs.Common.{◌∙◌, sym}
use Rattle.ec_volume.specs.Image.{entries_of}
use Rattle.ec_plain.specs.Plain.{drop_in, plain_drop}
use Rattle.ec_plain.proofs.Paths.{same_ok, drops}
use Rattle.ec_plain.proofs.remove.plain_drop.Goals as goal

pub returns-in-Goes : goal.returns-in-Goes
returns-in-Goes g c =
    let v = g.V.Look.images c.args.volume.now in
    let k = c.args.kind in
    let p = c.args.names.now in
    let found = c.in-Goes.found in
    same_ok c.drop_in.result (drop_in v k p found.dir (entries_of (v found.dir)) found.obj found.read.items) (plain_drop v k p)
    (sym ((rw c.in-Goes.is at c.in_ok-outcome-in-len1-up.ensures) (drop_in v k p)) ∙ sym (drops v k p c.in-len1-up.len_at_least))
    c.drop_in.ensures
