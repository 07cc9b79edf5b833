use Rattle.std.proofs.Common.{ap, refl, sym, rules, ◌∙◌}
use Rattle.ec_log.specs.Log.{pick}
use Rattle.ec_log.specs.LogOrder.{is_new}
use Rattle.ec_log.specs.Chosen.{all_rise}
use Rattle.ec_log.proofs.Fronts.{pick-front}
use Rattle.ec_log.proofs.Members.{all_rise_put, batch_rises}
use Rattle.ec_log.proofs.log.Log.pick.Goals as goal
use Rattle.ec_base.specs.SmallLaws.{rises}

pub returns-clause-pick : goal.returns-clause-pick
returns-clause-pick c =
    pick-front (record { next = c.self.inside.next; first = c.self.inside.first; undurable = c.self.inside.undurable; batches = c.self.inside.batches; next_batch = c.self.inside.next_batch }) c.args.asked c.choose-made.result c.in_ok-ops.ops.items
    c.deref.result.now c.self.inside.undurable c.items-batches.result.now c.first_met-behind.result c.choose-made.ensures c.first_met-behind.ensures c.deref.ensures.value refl c.items-batches.ensures.value c.in_ok-ops.ensures.front
    ∙ ap (λ l. pick c.args.asked l) c.self.view_is

pub returns-then-self-gt-LAST_COUNTER-clause-spent : goal.returns-then-self-gt-LAST_COUNTER-clause-spent
returns-then-self-gt-LAST_COUNTER-clause-spent c = λ k e. (
  cc e,
  sym (ap is_new (
      pick-front (record { next = c.self.inside.next; first = c.self.inside.first; undurable = c.self.inside.undurable; batches = c.self.inside.batches; next_batch = c.self.inside.next_batch }) c.args.asked c.choose-made.result c.in_ok-ops.ops.items
      c.deref.result.now c.self.inside.undurable c.items-batches.result.now c.first_met-behind.result c.choose-made.ensures c.first_met-behind.ensures c.deref.ensures.value refl c.items-batches.ensures.value c.in_ok-ops.ensures.front
      ∙ ap (λ l. pick c.args.asked l) c.self.view_is))
      ∙ ap is_new c.in-Batch.is,
  search rules,
)

pub invariant_of-self-in-Batch : goal.invariant_of-self-in-Batch
invariant_of-self-in-Batch c = (
  c.self.invariant.0,
  c.self.invariant.1,
  c.self.invariant.2,
  ap all_rise c.in_ok-insert.ensures.ok
      ∙ all_rise_put c.in-Batch.no c.in_ok-duplicate.field-0 c.self.inside.batches
      (ap rises c.in_ok-duplicate.ensures ∙ batch_rises c.args.asked c.self.inside.undurable c.in_ok-ops.ops.items c.in-Batch.ops c.self.inside.next_batch c.in-Batch.no c.items-batches.result.now c.first_met-behind.result c.in_ok-ops.ensures.sorted c.in_ok-ops.ensures.front (sym c.in-Batch.is ∙ c.choose-made.ensures))
      c.self.invariant.3,
)
