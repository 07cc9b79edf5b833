use Rattle.std.proofs.Common.{◌<◌, arith, length, take}
use Rattle.std.proofs.lemmas.Option.{get_or_from_slice_get, slice_get_within}
use Rattle.ec_lines.specs.Index.{begins}
use Rattle.ec_lines.proofs.Onward.{as-many, begins-at}
use Rattle.ec_legal.proofs.placing.begins_at.Goals as goal

pub bounds-lines-at : goal.bounds-lines-at
bounds-lines-at c =
    let within : c.args.at < length c.args.lines.now.shown.now = slice_get_within c.args.lines.now.shown.now c.args.at c.args.shown.now c.requires.line in
    omega (arith, within, as-many _ c.args.lines.now.shown.now c.args.lines.now.begins.now c.requires.begins)

pub returns : goal.returns
returns c =
    get_or_from_slice_get c.args.lines.now.begins.now c.args.at (begins (take c.args.at c.args.lines.now.shown.now) c.args.shown.now) 0
    (begins-at c.args.lines.now.shown.now c.args.lines.now.begins.now c.args.at c.args.shown.now c.requires.begins c.requires.line)
