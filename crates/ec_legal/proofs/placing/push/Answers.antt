use Rattle.std.proofs.Common.{◌≡◌, ◌<◌, ◌≤◌, ◌++◌, subst, arith, length, take, OnOk}
use Rattle.std.proofs.lemmas.Option.{slice_get_within}
use Rattle.ec_watch.proofs.Watched.{named-at}
use Rattle.ec_legal.proofs.Entries.{starts-few, loss-held, line-loss}
use Rattle.ec_legal.proofs.Late.{begun-answer}
use Rattle.ec_base.specs.Limits.{clerk_count}
use Rattle.ec_legal.proofs.Told.{ended-clerk}
use Rattle.ec_legal.proofs.placing.push.Goals as goal

pub push_answer-requires-clause-begun : goal.push_answer-requires-clause-begun
push_answer-requires-clause-begun c =
    let w = c.watch_of-watch.result.now in
    let own = named-at c.args.watches.now _ c.in-Answered.clerk w c.requires.watched c.watch_of-watch.ensures.below c.watch_of-watch.ensures.value in
    begun-answer w (take c.args.at c.args.lines.now.shown.now) _ c.in-Answered.clerk _ _ _ c.begins_at-begun.result c.args.shown.now c.in-Answered.is own c.begins_at-begun.ensures

pub push_answer-requires-clause-starts : goal.push_answer-requires-clause-starts
push_answer-requires-clause-starts c =
    let ss = c.args.lines.now.shown.now in
    let within : c.args.at < length ss = slice_get_within ss c.args.at c.args.shown.now c.requires.line in
    let front : c.args.at ≤ length ss = omega (arith, within) in
    let below : length ss < 4294967296 = omega (arith, c.requires.few) in
    starts-few c.args.watches.now ss c.args.at 4294967296 c.requires.watched front below c.watch_of-watch.result.now c.in-Answered.clerk c.watch_of-watch.ensures.value

pub push_loss-requires-clause-within : goal.push_loss-requires-clause-within
push_loss-requires-clause-within c = slice_get_within c.args.lines.now.shown.now c.args.at c.args.shown.now c.requires.line

pub push_loss-requires-clause-held : goal.push_loss-requires-clause-held
push_loss-requires-clause-held c r =
    let w = c.watch_of-watch-in-Ended.result.now in
    let own = named-at c.args.watches.now _ c.in-Ended.clerk w c.requires.watched c.watch_of-watch-in-Ended.ensures.below c.watch_of-watch-in-Ended.ensures.value in
    loss-held c.in-Ended.clerk w _ c.args.lines.now.shown.now c.args.at c.args.shown.now c.requires.line c.in-Ended.is own r

pub returns-in-Ended-clause-entries : goal.returns-in-Ended-clause-entries
returns-in-Ended-clause-entries c =
    let w = c.watch_of-watch-in-Ended.result.now in
    let own = named-at c.args.watches.now _ c.in-Ended.clerk w c.requires.watched c.watch_of-watch-in-Ended.ensures.below c.watch_of-watch-in-Ended.ensures.value in
    subst (λ h. OnOk c.push_loss.result (c.push_loss.new.entries.items ≡ c.args.entries.now.items ++ h))
    (line-loss c.in-Ended.clerk w _ c.args.lines.now.shown.now c.args.at c.args.shown.now c.requires.line c.in-Ended.is own)
    c.push_loss.ensures

pub returns-in-Ended-clause-below : goal.returns-in-Ended-clause-below
returns-in-Ended-clause-below c k ns e = subst (λ j. j < clerk_count) (ended-clerk c.args.shown.now c.in-Ended.clerk k _ ns c.in-Ended.is e) c.watch_of-watch-in-Ended.ensures.below
