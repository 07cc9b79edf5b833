use Rattle.std.proofs.Common.{ap, ◌∙◌, arith}
use Rattle.ec_history.specs.Placing.{gives_entry}
use Rattle.ec_watch.proofs.Watched.{few-at, named-at}
use Rattle.ec_lines.specs.Index.{start_of}
use Rattle.ec_lines.proofs.seen.gives.Goals as goal

pub gives_entry-requires : goal.gives_entry-requires
gives_entry-requires c = omega (arith, c.requires.few, few-at c.args.watches.now c.args.above.now c.args.clerk c.watch_of-watch.result.now c.requires.watched c.watch_of-watch.ensures.below c.watch_of-watch.ensures.value)

pub returns : goal.returns
returns c =
    c.gives_entry.ensures
    ∙ ap (λ b. gives_entry c.args.clerk b c.watch_of-watch.result.now c.args.line.now) c.start_of.ensures
    ∙ ap (λ w. gives_entry c.args.clerk (start_of c.args.clerk c.args.above.now) w c.args.line.now) (named-at c.args.watches.now c.args.above.now c.args.clerk c.watch_of-watch.result.now c.requires.watched c.watch_of-watch.ensures.below c.watch_of-watch.ensures.value)
