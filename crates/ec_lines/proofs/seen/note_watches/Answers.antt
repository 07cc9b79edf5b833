use Rattle.std.proofs.Common.{◌<◌, arith}
use Rattle.std.proofs.lemmas.Option.{slice_get_within}
use Rattle.ec_base.specs.Limits.{clerk_count}
use Rattle.ec_watch.proofs.Watched.{few-at}
use Rattle.ec_lines.proofs.seen.note_watches.Goals as goal

pub note-requires-clause-starts : goal.note-requires-clause-starts
note-requires-clause-starts c w k g =
    let within : k < clerk_count = omega (arith, slice_get_within c.args.watches.now k w g, c.requires.watched.count) in
    omega (arith, c.requires.few, few-at c.args.watches.now c.args.above.now k w c.requires.watched within g)

pub returns : goal.returns
returns c = c.in_ok-note.ensures c.args.above.now c.requires.watched
