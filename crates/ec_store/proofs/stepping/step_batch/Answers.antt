use Rattle.std.proofs.Common.{List, ℕ, ap, sym, ◌∙◌}
use Rattle.ec_store.specs.Stepping.{picked}
use Rattle.ec_store.proofs.Trying.{ahead_is, picked_is, ok_tried, refused_tried, unchanged_tried}
use Rattle.ec_store.proofs.stepping.step_batch.Goals as goal

pub returns-in_ok-part-clause-ok : goal.returns-in_ok-part-clause-ok
returns-in_ok-part-clause-ok c =
    ok_tried c.args.empty.now c.args.change.now c.in_ok-part.part c.args.ops.now c.args.state.now
    (ahead_is c.args.ops.now c.args.change.now c.args.empty.now c.args.state.now c.in_ok-part.part c.requires.sound c.requires.batch (sym c.all_fit_ahead.ensures ∙ c.if-all_fit_ahead.true))
    c.step_over.result c.step_over.new.state c.step_over.ensures.ok

pub returns-in_ok-part-clause-refused : goal.returns-in_ok-part-clause-refused
returns-in_ok-part-clause-refused c =
    refused_tried c.args.empty.now c.args.change.now c.in_ok-part.part c.args.ops.now c.args.state.now
    (ahead_is c.args.ops.now c.args.change.now c.args.empty.now c.args.state.now c.in_ok-part.part c.requires.sound c.requires.batch (sym c.all_fit_ahead.ensures ∙ c.if-all_fit_ahead.true))
    c.step_over.result c.step_over.ensures.refused

pub returns-in_ok-part-clause-unchanged : goal.returns-in_ok-part-clause-unchanged
returns-in_ok-part-clause-unchanged c =
    unchanged_tried c.args.empty.now c.args.change.now c.in_ok-part.part c.args.ops.now c.args.state.now
    (ahead_is c.args.ops.now c.args.change.now c.args.empty.now c.args.state.now c.in_ok-part.part c.requires.sound c.requires.batch (sym c.all_fit_ahead.ensures ∙ c.if-all_fit_ahead.true))
    c.step_over.result c.step_over.new.state c.step_over.ensures.unchanged

pub returns-in_ok-part-2-clause-ok : goal.returns-in_ok-part-2-clause-ok
returns-in_ok-part-2-clause-ok c =
    ok_tried c.args.change.now c.args.change.now c.in_ok-part-2.part c.args.ops.now c.args.state.now
    (picked_is c.args.ops.now c.args.change.now c.args.empty.now c.args.state.now c.in_ok-part-2.part c.requires.sound c.requires.batch (c.in_ok-part-2.ensures ∙ ap (λ (l : List ℕ). picked l c.args.state.now.volume) c.requires.ids))
    c.step_over-else-all_fit_ahead.result c.step_over-else-all_fit_ahead.new.state c.step_over-else-all_fit_ahead.ensures.ok

pub returns-in_ok-part-2-clause-refused : goal.returns-in_ok-part-2-clause-refused
returns-in_ok-part-2-clause-refused c =
    refused_tried c.args.change.now c.args.change.now c.in_ok-part-2.part c.args.ops.now c.args.state.now
    (picked_is c.args.ops.now c.args.change.now c.args.empty.now c.args.state.now c.in_ok-part-2.part c.requires.sound c.requires.batch (c.in_ok-part-2.ensures ∙ ap (λ (l : List ℕ). picked l c.args.state.now.volume) c.requires.ids))
    c.step_over-else-all_fit_ahead.result c.step_over-else-all_fit_ahead.ensures.refused

pub returns-in_ok-part-2-clause-unchanged : goal.returns-in_ok-part-2-clause-unchanged
returns-in_ok-part-2-clause-unchanged c =
    unchanged_tried c.args.change.now c.args.change.now c.in_ok-part-2.part c.args.ops.now c.args.state.now
    (picked_is c.args.ops.now c.args.change.now c.args.empty.now c.args.state.now c.in_ok-part-2.part c.requires.sound c.requires.batch (c.in_ok-part-2.ensures ∙ ap (λ (l : List ℕ). picked l c.args.state.now.volume) c.requires.ids))
    c.step_over-else-all_fit_ahead.result c.step_over-else-all_fit_ahead.new.state c.step_over-else-all_fit_ahead.ensures.unchanged
