use Rattle.std.proofs.Common.{◌++◌, ap, ◌∙◌, sym, append-nil, Some, None}
use Rattle.std.proofs.lemmas.List.Filters.{dedup_is}
use Rattle.ec_cache.specs.OfReport.Index.{gathered}
use Rattle.ec_cache.proofs.OfReport.Rows.{gathered_step, gathered_all, due_sorted}
use Rattle.ec_cache.proofs.report.maps.due.Goals.{in-Some+in_ok-extend_from_slice, in_default}
use Rattle.ec_cache.proofs.report.maps.due.Goals as goal

pub loop-obj-preserved : goal.loop-obj-preserved
loop-obj-preserved c =
    let before = c.loop-obj.ops.items in
    elim c.match-get.branch [
      | in-Some+in_ok-extend_from_slice w ↦
          gathered_step before c.match-get.ops.items c.args.touched.now c.loop-obj.obj-index c.obj-item.result c.args.places.now (Some w.in-Some.more.now) _ c.loop-obj-test.true c.obj-item.is w.in-Some.ensures
          (ap (λ v. v.items) w.ops-is ∙ w.in_ok-extend_from_slice.ensures.items ∙ ap (λ l. before ++ l) w.as_slice.ensures) c.loop-obj.invariant
      | in_default w ↦
          gathered_step before c.match-get.ops.items c.args.touched.now c.loop-obj.obj-index c.obj-item.result c.args.places.now None _ c.loop-obj-test.true c.obj-item.is w.in_default.ensures
          (ap (λ v. v.items) w.ops-is ∙ sym (append-nil before)) c.loop-obj.invariant
    ]

pub returns : goal.returns
returns c =
    due_sorted c.loop-obj.ops.items c.sort_unstable.new.self.items c.dedup.new.self.items c.args.touched.now c.args.places.now
    (gathered_all c.loop-obj.ops.items c.args.touched.now c.loop-obj.obj-index c.args.places.now (gathered c.args.touched.now c.args.places.now) c.loop-obj-test.false c.loop-obj.invariant)
    c.sort_unstable.ensures.permutation c.sort_unstable.ensures.sorted (dedup_is _ _ _ c.dedup.ensures.filtered)
