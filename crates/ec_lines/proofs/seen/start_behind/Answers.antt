use Rattle.std.proofs.Common.{◌≡◌, ◌+◌, ◌∷◌, ◌++◌, [], arith, length, length-append}
use Rattle.ec_watch.proofs.Watched.{few-at}
use Rattle.ec_lines.proofs.seen.start_behind.Goals as goal

pub start-requires : goal.start-requires
start-requires c =
    let past = c.args.above.now ++ c.args.line.now ∷ [] in
    let more : length past ≡ length c.args.above.now + 1 = length-append c.args.above.now (c.args.line.now ∷ []) in
    omega (arith, more, c.requires.few, few-at c.args.watches.now past c.args.clerk c.watch_of.result.now c.requires.watched c.watch_of.ensures.below c.watch_of.ensures.value)
