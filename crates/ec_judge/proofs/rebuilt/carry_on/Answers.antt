use Rattle.std.proofs.Common.{◌≡◌, sym, ap, ◌∙◌, ℕ, Bool, not, cond}
use Rattle.std.specs.List.{filter}
use Rattle.ec_volume.specs.Update.{member, operands, effect, first_unfit}
use Rattle.ec_pending.specs.OfOverlay.Shown.{shown}
use Rattle.ec_history.specs.History.{Op, is_one_of}
use Rattle.ec_judge.specs.Carried.{is_noted}
use Rattle.ec_judge.proofs.Loops.{sound-at}
use Rattle.ec_judge.proofs.Restored.{at-takes, at-unfit, beside-keeps, sound-distinct}
use Rattle.ec_judge.proofs.rebuilt.carry_on.Goals as goal

pub carry_out_at-requires-clause-sound : goal.carry_out_at-requires-clause-sound
carry_out_at-requires-clause-sound c = sound-at c.args.kept.now c.loop-at.at c.index-kept-at.result c.loop-at-test.true c.index-kept-at.is c.requires.sound

pub carry_out_at-requires-clause-distinct : goal.carry_out_at-requires-clause-distinct
carry_out_at-requires-clause-distinct c =
    sound-distinct (is_noted c.args.noted.now) c.index-kept-at.result.update c.deref.result.now (sound-at c.args.kept.now c.loop-at.at c.index-kept-at.result c.loop-at-test.true c.index-kept-at.is c.requires.sound) (c.deref.ensures.value ∙ c.in_ok-objs.ensures)

pub returns-then-not-branch-clause-images : goal.returns-then-not-branch-clause-images
returns-then-not-branch-clause-images c =
    let objs = c.deref.ensures.value ∙ c.in_ok-objs.ensures in
    let done = rw c.if-not-branch.true at c.in_ok-carry_out_at.ensures.images in
    at-unfit (is_noted c.args.noted.now) (λ k. not (is_one_of c.args.named.now.clerk c.args.named.now.boot c.args.named.now.ops.now k)) c.args.kept.now c.loop-at.at c.index-kept-at.result c.loop-at-test.true c.index-kept-at.is (shown c.loop-at.volume) done.0 c.loop-at.invariant.front (ap not (sym c.is_among.ensures ∙ c.if-is_among.false))
    (ap (first_unfit c.index-kept-at.result.update (shown c.loop-at.volume)) (sym objs) ∙ done.1)

pub loop-at-preserved : goal.loop-at-preserved
loop-at-preserved c =
    let objs = c.deref.ensures.value ∙ c.in_ok-objs.ensures in
    let u = c.index-kept-at.result.update in
    let v = shown c.loop-at.volume in
    let done = rw c.if-not-branch.false at c.in_ok-carry_out_at.ensures.images in
    let q : Op → Bool = λ k. not (is_one_of c.args.named.now.clerk c.args.named.now.boot c.args.named.now.ops.now k) in
    let step : (o : ℕ) → shown c.carry_out_at.new.self o ≡ cond (member o (filter (is_noted c.args.noted.now) (operands u))) (effect u o (v o)) (v o) = λ o. done.1 o ∙ ap (λ os. cond (member o os) (effect u o (v o)) (v o)) objs in
    record {
      front = at-takes (is_noted c.args.noted.now) q c.args.kept.now c.loop-at.at c.index-kept-at.result c.loop-at-test.true c.index-kept-at.is v (shown c.carry_out_at.new.self) c.loop-at.invariant.front (ap not (sym c.is_among.ensures ∙ c.if-is_among.false)) (ap (first_unfit u v) (sym objs) ∙ done.0) step;
      beside = beside-keeps (is_noted c.args.noted.now) q c.args.kept.now c.loop-at.at c.index-kept-at.result c.loop-at-test.true c.index-kept-at.is v (shown c.carry_out_at.new.self) c.loop-at.invariant.beside step;
      own = λ o h. c.in_ok-carry_out_at.ensures.own o (c.loop-at.invariant.own o h);
      under = c.in_ok-carry_out_at.ensures.under ∙ c.loop-at.invariant.under;
    }
