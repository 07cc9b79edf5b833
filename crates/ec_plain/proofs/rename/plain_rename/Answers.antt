use Rattle.std.proofs.Common.{◌∙◌, ◌≤◌, length, sym, rules}
use Rattle.ec_volume.specs.Image.{entries_of}
use Rattle.ec_plain.specs.Plain.{rename_in, plain_rename}
use Rattle.ec_plain.proofs.Paths.{same_ok, renames_below}
use Rattle.ec_plain.proofs.rename.plain_rename.Goals as goal

pub returns-in-Goes : goal.returns-in-Goes
returns-in-Goes g c =
    let v = g.V.Look.images c.args.volume.now in
    let p = c.args.path.now in
    let q = c.args.target.now in
    let found = c.in-Goes.found in
    let some : 1 ≤ length p = search rules in
    let other : 1 ≤ length q = search rules in
    same_ok c.rename_in.result (rename_in v p q found.dir (entries_of (v found.dir)) found.obj found.read.items) (plain_rename v p q)
    (sym ((rw c.in-Goes.is at c.in_ok-outcome.ensures) (rename_in v p q)) ∙ sym (renames_below v p q some other))
    c.rename_in.ensures
