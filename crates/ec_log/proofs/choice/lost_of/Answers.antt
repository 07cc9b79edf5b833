use Rattle.std.proofs.Common.{ap, sym, ◌∙◌, true, false}
use Rattle.std.specs.Prelude.{not, ◌&&◌}
use Rattle.std.specs.List.{list_any}
use Rattle.ec_base.specs.Tables.{keys}
use Rattle.ec_volume.specs.Update.{member}
use Rattle.ec_sessions.specs.Windows.{has}
use Rattle.ec_log.specs.OfChains.Slots.{live}
use Rattle.ec_log.specs.Chosen.{lost_in}
use Rattle.ec_log.proofs.Logs.{place_more}
use Rattle.ec_log.proofs.choice.lost_of.Goals as goal
use Rattle.ec_log.proofs.choice.lost_of.Goals.{then-is_lost+in_ok-push, else-is_lost}

pub slots-preserved : goal.slots-preserved
slots-preserved c = elim c.if-is_lost.branch [
  | then-is_lost+in_ok-push w ↦
      place_more c.args.slots.now c.slots.op-index c.slots-item.result c.slots-test.true c.slots-item.is (λ n. not (list_any (λ b. has c.args.window.now b.0 && member n b.1) c.args.batches.now)) true (sym w.if-is_lost.true ∙ c.is_lost.ensures)
      c.slots.lost.items c.if-is_lost.lost.items (keys (lost_in c.args.window.now c.args.batches.now (live c.args.slots.now))) (ap (λ v. v.items) w.lost-is ∙ w.in_ok-push.ensures.items) c.slots.invariant
  | else-is_lost w ↦
      place_more c.args.slots.now c.slots.op-index c.slots-item.result c.slots-test.true c.slots-item.is (λ n. not (list_any (λ b. has c.args.window.now b.0 && member n b.1) c.args.batches.now)) false (sym w.if-is_lost.false ∙ c.is_lost.ensures)
      c.slots.lost.items c.if-is_lost.lost.items (keys (lost_in c.args.window.now c.args.batches.now (live c.args.slots.now))) (ap (λ v. v.items) w.lost-is) c.slots.invariant
]
