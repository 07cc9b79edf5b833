use Rattle.std.proofs.Common.{◌≡◌, Ok, ap, sym, subst, ◌∙◌}
use Rattle.ec_durable.specs.Durable.{step}
use Rattle.ec_durable.specs.Steps.{RefusesRecord}
use Rattle.ec_durable.proofs.Batches.{not_Ok}
use Rattle.ec_store.specs.Stepping.{behind, with_volume}
use Rattle.ec_store.proofs.stepping.step_over.Goals as goal

pub returns-in-Err-clause-refused : goal.returns-in-Err-clause-refused
returns-in-Err-clause-refused c = subst (λ es. RefusesRecord c.in-Err.fault (step c.args.trial.now (with_volume es c.args.state.now))) c.replace-volume.ensures.after c.in-Err.ensures.refused

pub returns-in-Ok-clause-ok : goal.returns-in-Ok-clause-ok
returns-in-Ok-clause-ok c =
    let d = c.args.state.now in
    let e = c.step.new.self in (
      e,
      subst (λ es. step c.args.trial.now (with_volume es d) ≡ Ok e) c.replace-volume.ensures.after c.in_default.ensures.ok,
      ap (λ es. with_volume es e) (c.put-in-Ok.ensures ∙ c.in-Ok.ensures ∙ ap (λ es. behind c.args.ops.now es) c.replace-volume.ensures.value),
    )

pub returns-in-Err-apply_all-clause-unchanged : goal.returns-in-Err-apply_all-clause-unchanged
returns-in-Err-apply_all-clause-unchanged c f is =
    let d = c.args.state.now in
    let e = c.step.new.self in
    absurd (not_Ok (sym is ∙ subst (λ es. step c.args.trial.now (with_volume es d) ≡ Ok e) c.replace-volume.ensures.after c.in_default.ensures.ok))
