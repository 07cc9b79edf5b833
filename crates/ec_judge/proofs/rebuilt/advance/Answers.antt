use Rattle.std.proofs.Common.{sym, ap, ◌∙◌, not, arith}
use Rattle.ec_volume.specs.Volume.{images}
use Rattle.ec_history.specs.History.{is_one_of}
use Rattle.ec_judge.proofs.Loops.{sound-at, front-takes, front-unfit}
use Rattle.ec_judge.proofs.Prefixes.{unlost-more}
use Rattle.ec_judge.proofs.rebuilt.advance.Goals as goal

pub carry_out-requires : goal.carry_out-requires
carry_out-requires c = sound-at c.args.kept.now c.advance.firm.count c.index-kept-firm.result c.advance-test.true c.index-kept-firm.is c.requires.sound

pub returns-then-not-branch-clause-behind : goal.returns-then-not-branch-clause-behind
returns-then-not-branch-clause-behind c =
    let done = rw c.if-not-branch.true at c.in_ok-carry_out.ensures in
    front-unfit (λ k. not (is_one_of c.args.named.now.clerk c.args.named.now.boot c.args.named.now.ops.now k)) c.args.kept.now c.advance.firm.count c.index-kept-firm.result c.advance-test.true c.index-kept-firm.is (images c.advance.firm.volume.under) done.0 c.advance.invariant.behind.front (ap not (sym c.is_among.ensures ∙ c.if-is_among.false)) done.1

pub advance-preserved : goal.advance-preserved
advance-preserved c =
    let done = rw c.if-not-branch.false at c.in_ok-carry_out.ensures in
    let below = c.advance-test.true in
    let onward = c.advance.invariant.onward in
    let unlost = sym c.is_among.ensures ∙ c.if-is_among.false in
    record {
      behind = record {
        within = omega (arith, below);
        front = front-takes (λ k. not (is_one_of c.args.named.now.clerk c.args.named.now.boot c.args.named.now.ops.now k)) c.args.kept.now c.advance.firm.count c.index-kept-firm.result below c.index-kept-firm.is (images c.advance.firm.volume.under) (images c.carry_out.new.volume) c.advance.invariant.behind.front (ap not unlost) done.0 done.1;
        unlost = unlost-more c.args.named.now.clerk c.args.named.now.boot c.args.named.now.ops.now c.args.kept.now c.advance.firm.count c.index-kept-firm.result below c.index-kept-firm.is c.advance.invariant.behind.unlost unlost;
      };
      onward = omega (arith, onward);
      over = c.advance.invariant.over;
    }
