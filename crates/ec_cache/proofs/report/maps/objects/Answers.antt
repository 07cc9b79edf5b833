use Rattle.std.proofs.Common.{ℕ, ◌++◌, ap, sym, ◌∙◌, map}
use Rattle.std.specs.Prelude.{is_some}
use Rattle.std.specs.Ordering.{nat_cmp}
use Rattle.std.specs.FinMap.{find}
use Rattle.ec_volume.specs.Update.{member}
use Rattle.ec_cache.specs.OfReport.Index.{fresh}
use Rattle.ec_cache.specs.OfReport.Report.{pairs_of, objects}
use Rattle.ec_cache.proofs.OfReport.Lists.{fresh_none}
use Rattle.ec_cache.proofs.OfReport.Rows.{objects_step}
use Rattle.ec_cache.proofs.report.maps.objects.Goals as goal

pub loop-objs-init : goal.loop-objs-init
loop-objs-init c =
    let all = map (λ (q : ℕ × ℕ). q.1) (pairs_of c.items-objs-items.result.now) in
    record {
      seen = λ x. ap (λ m. is_some (find nat_cmp x m)) c.new-seen.ensures ∙ ap (member x) (sym c.new-list.ensures.items);
      list = ap (λ l. l ++ fresh l all) c.new-list.ensures.items ∙ fresh_none all ∙ ap (λ r. objects (pairs_of r)) c.items-objs-items.ensures.value;
    }

pub loop-objs-preserved : goal.loop-objs-preserved
loop-objs-preserved c = record {
  seen = c.in_ok-list_new.ensures.seen;
  list = objects_step c.loop-objs.list.items c.list_new.new.list.items c.items-objs-items.result.now c.loop-objs.objs-index c.loop-objs-item.result _ c.loop-objs-test.true c.loop-objs-item.is
      (c.in_ok-list_new.ensures.list ∙ ap (λ l. c.loop-objs.list.items ++ fresh c.loop-objs.list.items l) c.as_slice.ensures) c.loop-objs.invariant.list;
}
