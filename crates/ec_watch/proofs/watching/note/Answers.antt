use Rattle.std.proofs.Common.{sym, ◌∙◌, ◌<◌, arith}
use Rattle.ec_base.specs.Limits.{clerk_count}
use Rattle.ec_watch.proofs.Watched.{noted, unnoted}
use Rattle.ec_watch.proofs.watching.note.Goals as goal

pub returns-in_ok-follow : goal.returns-in_ok-follow
returns-in_ok-follow c past h =
    let below : c.in-Some.clerk < clerk_count = omega (arith, c.get.ensures.below, c.get.ensures.value) in
    noted c.args.watches.now c.get.result c.in-Some.clerk c.index-watches-get.result c.follow.new.watch c.args.line.now past c.get.ensures.value (sym c.clerk_of.ensures ∙ c.in-Some.is) below c.in_ok-follow.ensures h

pub returns-in_default : goal.returns-in_default
returns-in_default c past h = unnoted c.args.watches.now c.args.line.now past (sym c.clerk_of.ensures ∙ c.in_default.is) h
