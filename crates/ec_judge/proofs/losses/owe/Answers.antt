use Rattle.std.proofs.Common.{sym, ap, ◌∙◌}
use Rattle.ec_history.specs.History.{is_one_of}
use Rattle.ec_judge.proofs.Loops.{owed-takes, owed-skips}
use Rattle.ec_judge.proofs.losses.owe.Goals as goal
use Rattle.ec_judge.proofs.losses.owe.Goals.{then-is_among+in_ok-operands+in_ok-push_pairs, else-is_among}

pub loop-lost-preserved : goal.loop-lost-preserved
loop-lost-preserved c =
    let k = c.lost-item.result in
    let q = is_one_of c.args.named.now.clerk c.args.named.now.boot c.args.named.now.ops.now in
    let old = c.loop-lost.invariant in
    let start = c.args.start.now.owed in
    elim c.if-is_among.branch [
      | then-is_among+in_ok-operands+in_ok-push_pairs w ↦ record {
        clerk = ap (λ s. s.clerk) w.start-is ∙ old.clerk;
        boot = ap (λ s. s.boot) w.start-is ∙ old.boot;
        count = ap (λ s. s.pending.0) w.start-is ∙ old.count;
        owed = ap (λ s. s.owed) w.start-is
            ∙ owed-takes c.args.kept.now c.loop-lost.lost-index k c.loop-lost-test.true c.lost-item.is q start c.loop-lost.start.owed w.push_pairs.new.owed w.deref.result.now (sym c.is_among.ensures ∙ w.if-is_among.true) old.owed w.in_ok-push_pairs.ensures (w.deref.ensures.value ∙ w.in_ok-operands.ensures);
        pending = ap (λ s. s.pending.1) w.start-is ∙ old.pending;
      }
      | else-is_among w ↦ record {
        clerk = ap (λ s. s.clerk) w.start-is ∙ old.clerk;
        boot = ap (λ s. s.boot) w.start-is ∙ old.boot;
        count = ap (λ s. s.pending.0) w.start-is ∙ old.count;
        owed = ap (λ s. s.owed) w.start-is ∙ owed-skips c.args.kept.now c.loop-lost.lost-index k c.loop-lost-test.true c.lost-item.is q start c.loop-lost.start.owed (sym c.is_among.ensures ∙ w.if-is_among.false) old.owed;
        pending = ap (λ s. s.pending.1) w.start-is ∙ old.pending;
      }
    ]
