use Rattle.std.proofs.Common.{refl, subst, ◌||◌}
use Rattle.ec_judge.specs.Carried.{is_among, is_noted, AreNoted}
use Rattle.ec_judge.proofs.Tails.{cut-all}
use Rattle.ec_judge.proofs.Restored.{beside-of, left-of}
use Rattle.ec_judge.proofs.rebuilt.leave.Goals as goal

pub carry_on-requires-clause-beside : goal.carry_on-requires-clause-beside
carry_on-requires-clause-beside c =
    let went = c.in_ok-advance.ensures in
    let behind = rw c.if-not-branch.false at went.behind in
    let noted = subst (AreNoted (λ k. c.in_ok-anew.anew || is_among c.args.named.now.clerk c.args.named.now.boot c.args.named.now.ops.now k) (is_noted c.restore_all.new.noted)) (cut-all c.args.kept.now c.advance.new.firm.count) c.in_ok-restore_all.ensures.noted in
    beside-of c.args.named.now.clerk c.args.named.now.boot c.args.named.now.ops.now c.args.kept.now c.in_ok-anew.anew c.args.firm.now.volume c.begin.new.firm.volume c.advance.new.firm.volume c.restore_all.new.volume c.args.firm.now.count c.begin.new.firm.count c.advance.new.firm.count (is_noted c.restore_all.new.noted)
    c.in_ok-anew.ensures.anew went.onward went.over behind c.in_ok-restore_all.ensures.restored noted c.requires.laid c.requires.fits c.requires.shown

pub returns : goal.returns
returns c =
    let went = c.in_ok-advance.ensures in
    let behind = rw c.if-not-branch.false at went.behind in
    let noted = subst (AreNoted (λ k. c.in_ok-anew.anew || is_among c.args.named.now.clerk c.args.named.now.boot c.args.named.now.ops.now k) (is_noted c.restore_all.new.noted)) (cut-all c.args.kept.now c.advance.new.firm.count) c.in_ok-restore_all.ensures.noted in
    left-of c.args.named.now.clerk c.args.named.now.boot c.args.named.now.ops.now c.args.kept.now c.in_ok-anew.anew c.args.firm.now.volume c.begin.new.firm.volume c.advance.new.firm.volume c.restore_all.new.volume c.args.firm.now.count c.begin.new.firm.count c.advance.new.firm.count (is_noted c.restore_all.new.noted)
    c.in_ok-anew.ensures.anew went.onward went.over behind c.in_ok-restore_all.ensures.restored noted c.requires.laid c.requires.fits c.requires.shown
    c.carry_on.result _ refl c.carry_on.ensures.images c.carry_on.ensures.own c.carry_on.ensures.under
