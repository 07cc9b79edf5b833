use Rattle.std.proofs.Common.{ap, ◌∙◌, sym}
use Rattle.std.specs.Prelude.{◌||◌}
use Rattle.std.specs.List.{list_any}
use Rattle.ec_volume.specs.Update.{member}
use Rattle.ec_log.specs.Choice.{numbers_asked}
use Rattle.ec_log.specs.Chosen.{is_met}
use Rattle.ec_log.proofs.Fronts.{met_here, met_after}
use Rattle.ec_log.proofs.choice.+first_met.Goals as goal

pub returns-then-is_met : goal.returns-then-is_met
returns-then-is_met t c =
    met_here (is_met c.args.ops.now c.args.asked.now c.args.undurable.now) c.args.batches.now c.index-batches-0.result c.index-batches-0-2.result c.in-len1-up.len_at_least
    (sym (c.is_met.ensures ∙ ap (λ ms. list_any (λ n. member n c.args.ops.now || member n (numbers_asked c.args.asked.now c.args.undurable.now)) ms) c.as_slice.ensures) ∙ c.if-is_met.true)

pub returns-else-is_met : goal.returns-else-is_met
returns-else-is_met t c =
    met_after (is_met c.args.ops.now c.args.asked.now c.args.undurable.now) c.args.batches.now c.index-batches-0-2.result c.first_met.result c.in-len1-up.len_at_least
    (sym (c.is_met.ensures ∙ ap (λ ms. list_any (λ n. member n c.args.ops.now || member n (numbers_asked c.args.asked.now c.args.undurable.now)) ms) c.as_slice.ensures) ∙ c.if-is_met.false)
    c.first_met.ensures
