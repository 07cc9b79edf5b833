use Rattle.std.proofs.Common.{◌≡◌, ◌≤◌, ◌<◌, ◌++◌, sym, ap, subst, ◌∙◌, arith, rules, length}
use Rattle.ec_history.specs.OfLaws.Bases.{AreAtLines}
use Rattle.ec_history.specs.History.{Each}
use Rattle.ec_history.specs.Legal.{IsLegal, from_formatted}
use Rattle.ec_judge.specs.Fault.{IsEntryFault}
use Rattle.ec_legal.specs.Placed.{IsJudgeFault}
use Rattle.ec_legal.proofs.Judged.{Judges, block-lines, block-few, next-block, placed-now, judges-now, none-left, block-fault, all-placeable, on-ok}
use Rattle.ec_legal.proofs.judging.Trial.judge_rest.Goals as goal
use Rattle.ec_base.proofs.Results.{if-err, taken-ok as on-not}

pub blocks-2-init : goal.blocks-2-init
blocks-2-init g c =
    let t = c.args.self.now in
    (c.requires.tried.ahead, judges-now c.args.shown.now t.judging t.entries.items t.ahead.placed c.requires.tried.entries, c.requires.tried.legal)

pub step-placed-requires-clause-lines : goal.step-placed-requires-clause-lines
step-placed-requires-clause-lines g c k l =
    let same : c.deref.result.now ≡ c.blocks-2.self.entries.items = search rules in
    subst (λ es. AreAtLines (c.blocks-2.self.judging ++ es)) (sym same)
    (block-lines c.args.shown.now c.blocks-2.self.judging c.blocks-2.self.entries.items c.blocks-2.self.ahead.placed c.requires.bounded c.requires.few c.blocks-2.invariant.1)

pub step-placed-requires-clause-low : goal.step-placed-requires-clause-low
step-placed-requires-clause-low g c k l =
    let same : c.deref.result.now ≡ c.blocks-2.self.entries.items = search rules in
    subst (Each (λ e. e.0 < 2147483648)) (sym same)
    (block-few c.args.shown.now c.blocks-2.self.judging c.blocks-2.self.entries.items c.blocks-2.self.ahead.placed c.requires.bounded c.requires.few c.blocks-2.invariant.1)

pub returns-in-Err-clause-fault : goal.returns-in-Err-clause-fault
returns-in-Err-clause-fault g c =
    let ss = c.args.shown.now in
    let same : c.deref.result.now ≡ c.blocks-2.self.entries.items = search rules in
    block-fault c.args.max_objects ss c.blocks-2.self.judging c.blocks-2.self.entries.items c.blocks-2.self.ahead.placed c.in-Err.fault c.blocks-2.invariant.1
    c.in_ok-follow_rest.ensures.placeable
    (subst (λ es. IsEntryFault c.args.max_objects (c.blocks-2.self.judging ++ es) c.in-Err.fault) same (rw c.in-Err.is at c.step-placed.ensures.entry_fault))

pub blocks-2-preserved : goal.blocks-2-preserved
blocks-2-preserved g c =
    let ss = c.args.shown.now in
    let past = c.blocks-2.self.judging in
    let n = c.blocks-2.self.ahead.placed in
    let m = c.step-placed.new.ahead.placed in
    let same : c.deref.result.now ≡ c.blocks-2.self.entries.items = search rules in
    let done = on-not c.step-placed.result.1 c.in_default.not-Err c.step-placed.ensures.done in
    let legal = on-not c.step-placed.result.1 c.in_default.not-Err c.step-placed.ensures.legal in
    let ahead = on-ok c.step-placed.result.0 c.in_ok-placed.field-0 c.in_ok-placed.was c.step-placed.ensures.ahead in
    let given = on-ok c.step-placed.result.0 c.in_ok-placed.field-0 c.in_ok-placed.was c.step-placed.ensures.next in
    let onward = placed-now ss c.step-placed.new.ahead.settled n m c.step-placed.new.next.items ahead.settles given in
    let next = next-block ss past c.blocks-2.self.entries.items c.step-placed.new.next.items n m c.blocks-2.invariant.1 onward in
    let swapped : c.swap.new.x.items ≡ c.step-placed.new.next.items = ap (λ v. v.items) c.swap.ensures.x_after in (
      ahead,
      subst (λ h. Judges ss h c.swap.new.x.items m) (sym (done ∙ ap (λ es. past ++ es) same)) (subst (λ es. Judges ss (past ++ c.blocks-2.self.entries.items) es m) (sym swapped) next),
      subst (IsLegal from_formatted c.args.max_objects) (sym done) legal,
    )

pub judge_on-requires-clause-lines : goal.judge_on-requires-clause-lines
judge_on-requires-clause-lines g c =
    let same : c.deref-2.result.now ≡ c.blocks-2.self.entries.items = search rules in
    subst (λ es. AreAtLines (c.blocks-2.self.judging ++ es)) (sym same)
    (block-lines c.args.shown.now c.blocks-2.self.judging c.blocks-2.self.entries.items c.blocks-2.self.ahead.placed c.requires.bounded c.requires.few c.blocks-2.invariant.1)

pub judge_on-requires-clause-few : goal.judge_on-requires-clause-few
judge_on-requires-clause-few g c =
    let same : c.deref-2.result.now ≡ c.blocks-2.self.entries.items = search rules in
    subst (Each (λ e. e.0 < 2147483648)) (sym same)
    (block-few c.args.shown.now c.blocks-2.self.judging c.blocks-2.self.entries.items c.blocks-2.self.ahead.placed c.requires.bounded c.requires.few c.blocks-2.invariant.1)

pub returns-clause-fault : goal.returns-clause-fault
returns-clause-fault g c =
    let ss = c.args.shown.now in
    let same : c.deref-2.result.now ≡ c.blocks-2.self.entries.items = search rules in
    let ahead = c.blocks-2.invariant.0 in
    let end : length ss ≤ c.blocks-2.self.ahead.placed = none-left c.blocks-2.self.ahead ss c.is_left.result c.is_left.ensures c.blocks-2-test.false in
    let all : length ss ≤ c.blocks-2.self.ahead.followed = omega (arith, end, ahead.behind, ahead.known) in
    let placeable = all-placeable ss c.blocks-2.self.ahead.followed all c.blocks-2.invariant.0.follows.placeable in
    if-err _ (IsJudgeFault c.args.max_objects ss) c.judge_on.result
    (λ f k. block-fault c.args.max_objects ss c.blocks-2.self.judging c.blocks-2.self.entries.items c.blocks-2.self.ahead.placed f c.blocks-2.invariant.1 placeable (subst (λ es. IsEntryFault c.args.max_objects (c.blocks-2.self.judging ++ es) f) same k))
    c.judge_on.ensures.fault
