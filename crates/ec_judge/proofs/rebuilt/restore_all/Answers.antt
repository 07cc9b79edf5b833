use Rattle.std.proofs.Common.{Bool, sym, ap, subst, ◌∙◌, true, false, ◌||◌, T}
use Rattle.ec_volume.specs.Update.{member}
use Rattle.std.proofs.lemmas.Bool.{true≢false}
use Rattle.ec_judge.specs.declared.carried.Kept.{Kept}
use Rattle.ec_judge.specs.Carried.{is_among, is_noted}
use Rattle.ec_judge.proofs.Restored.{noted-more, noted-next, either-noted, member-noted-now}
use Rattle.ec_judge.proofs.rebuilt.restore_all.Goals as goal
use Rattle.ec_judge.proofs.rebuilt.restore_all.Goals.{then-all+in_ok-operands+in_ok-restore_each, else-all+else-is_among}

pub loop-next-preserved : goal.loop-next-preserved
loop-next-preserved c =
    let k = c.next-item.result in
    let p : Kept → Bool = λ j. c.args.all || is_among c.args.named.now.clerk c.args.named.now.boot c.args.named.now.ops.now j in
    let old = c.loop-next.invariant in
    elim c.if-all.branch [
      | then-all+in_ok-operands+in_ok-restore_each w ↦
          let more = w.in_ok-restore_each.ensures.noted in
          let objs = w.deref.ensures.value ∙ w.in_ok-operands.ensures in
          record {
            restored = rw (w.volume-is, w.noted-is) (w.in_ok-restore_each.ensures.restored c.args.volume.now old.restored);
            noted = rw (w.noted-is) (noted-next p (is_noted w.restore_each.new.noted) c.args.kept.now c.loop-next.next-index k c.loop-next-test.true c.next-item.is
                (noted-more p (is_noted c.loop-next.noted) (is_noted w.restore_each.new.noted) (λ o e. either-noted o w.deref.result.now (is_noted c.loop-next.noted) (is_noted w.restore_each.new.noted) more e) _ old.noted)
                (λ e o m. member-noted-now o w.deref.result.now (is_noted c.loop-next.noted) (is_noted w.restore_each.new.noted) more (subst (λ os. T (member o os)) (sym objs) m)));
          }
      | else-all+else-is_among w ↦ record {
        restored = rw (w.volume-is, w.noted-is) old.restored;
        noted = rw (w.noted-is) (noted-next p (is_noted c.loop-next.noted) c.args.kept.now c.loop-next.next-index k c.loop-next-test.true c.next-item.is old.noted
            (λ e. absurd (true≢false (sym e ∙ ap (λ b. b || is_among c.args.named.now.clerk c.args.named.now.boot c.args.named.now.ops.now k) w.if-all.false ∙ sym w.is_among.ensures ∙ w.if-is_among.false))));
      }
    ]
