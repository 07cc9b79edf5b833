use Rattle.std.proofs.Common.{◌∙◌, ◌++◌, ◌∷◌, [], sym, ap}
use Rattle.ec_judge.proofs.Checks.{front-more, ready-at, few-at, judged-next, judged-fault}
use Rattle.ec_judge.proofs.judging.judge_all.Goals as goal

pub judge-requires-clause-place : goal.judge-requires-clause-place
judge-requires-clause-place c = few-at c.args.past.now.items c.args.entries.now c.loop-at.at c.index-entries-at.result c.loop-at-test.true c.index-entries-at.is c.requires.few

pub judge-requires-clause-ready : goal.judge-requires-clause-ready
judge-requires-clause-ready c =
    ready-at c.args.past.now.items c.args.entries.now c.loop-at.at c.index-entries-at.result c.loop-at-test.true c.index-entries-at.is c.args.most c.loop-at.judge c.requires.lines c.loop-at.invariant.carries c.loop-at.invariant.legal

pub returns-in-Some-2-clause-fault : goal.returns-in-Some-2-clause-fault
returns-in-Some-2-clause-fault c =
    judged-fault c.args.past.now.items c.args.entries.now c.loop-at.at c.index-entries-at.result c.loop-at-test.true c.index-entries-at.is c.args.most c.args.turn.now c.loop-at.judge c.judge.new.self c.in-Some-2.rule c.requires.judged.turn c.loop-at.invariant.carries c.loop-at.invariant.legal (rw c.in-Some-2.is at c.in_ok-rule.ensures)

pub loop-at-preserved : goal.loop-at-preserved
loop-at-preserved c =
    let old = c.args.past.now.items in
    let es = c.args.entries.now in
    let at = c.loop-at.at in
    let e = c.index-entries-at.result in
    let is = c.index-entries-at.is in
    let next = judged-next old es at e c.loop-at-test.true is c.args.most c.args.turn.now c.loop-at.judge c.judge.new.self c.requires.judged.turn c.loop-at.invariant.carries c.loop-at.invariant.legal (rw c.in_default-2.is at c.in_ok-rule.ensures) in
    record { carries = next.0; legal = next.1; past = c.and.ensures ∙ ap (λ l. l ++ e ∷ []) c.loop-at.invariant.past ∙ sym (front-more old es at e c.loop-at-test.true is) }
