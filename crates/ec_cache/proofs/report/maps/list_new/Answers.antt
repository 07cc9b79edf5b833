use Rattle.std.proofs.Common.{◌≡◌, ◌+◌, ◌++◌, drop, ap, ◌∙◌, arith, true, false}
use Rattle.std.specs.Prelude.{is_some}
use Rattle.std.specs.Ordering.{nat_cmp}
use Rattle.std.specs.FinMap.{find}
use Rattle.ec_cache.specs.OfReport.Index.{AreSeen, fresh}
use Rattle.ec_cache.proofs.OfReport.Rows.{seen_new, seen_old}
use Rattle.ec_cache.proofs.report.maps.list_new.Goals.{then-not-contains+in_ok-insert+in_ok-push, else-not-contains}
use Rattle.ec_cache.proofs.report.maps.list_new.Goals as goal

pub loop-obj-preserved : goal.loop-obj-preserved
loop-obj-preserved c =
    let x = c.obj-item.result in
    let now : AreSeen c.if-not-contains.list.items c.if-not-contains.seen × (c.if-not-contains.list.items ++ fresh c.if-not-contains.list.items (drop (c.loop-obj.obj-index + 1) c.args.objs.now) ≡ c.args.list.now.items ++ fresh c.args.list.now.items c.args.objs.now) = elim c.if-not-contains.branch [
      | then-not-contains+in_ok-insert+in_ok-push w ↦
          let other : is_some (find nat_cmp x c.loop-obj.seen) ≡ false = grind (arith, c.contains.ensures, w.if-not-contains.true) in
          seen_new c.loop-obj.list.items c.if-not-contains.list.items c.args.objs.now c.loop-obj.seen c.if-not-contains.seen c.loop-obj.obj-index x _ c.loop-obj.invariant.seen c.loop-obj-test.true c.obj-item.is other
          (w.seen-is ∙ w.in_ok-insert.ensures.ok) (ap (λ v. v.items) w.list-is ∙ w.in_ok-push.ensures.items) c.loop-obj.invariant.list
      | else-not-contains w ↦
          let there : is_some (find nat_cmp x c.loop-obj.seen) ≡ true = grind (arith, c.contains.ensures, w.if-not-contains.false) in
          seen_old c.loop-obj.list.items c.if-not-contains.list.items c.args.objs.now c.loop-obj.seen c.if-not-contains.seen c.loop-obj.obj-index x _ c.loop-obj.invariant.seen c.loop-obj-test.true c.obj-item.is there
          w.seen-is (ap (λ v. v.items) w.list-is) c.loop-obj.invariant.list
    ] in
    record { seen = now.0; list = now.1 }
