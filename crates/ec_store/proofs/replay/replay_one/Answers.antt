use Rattle.std.proofs.Common.{rules, ℕ, List, ap, sym, ◌∙◌}
use Rattle.ec_volume.specs.Update.{member}
use Rattle.ec_durable.proofs.Kept.{below_kept}
use Rattle.ec_stands.proofs.Volumes.{step_well}
use Rattle.ec_store.proofs.Images.{step_images}
use Rattle.ec_store.proofs.Replaying.{operands_more, operands_none}
use Rattle.ec_store.specs.declared.fault.StoreFault.TheVariants.{BadDisk}
use Rattle.ec_store.proofs.Heads.{same_fault}
use Rattle.ec_store.proofs.Refusing.{no_code, not_stepped}
use Rattle.ec_store.proofs.replay.replay_one.Goals as goal

pub returns-in-Err-clause-bad : goal.returns-in-Err-clause-bad
returns-in-Err-clause-bad c p is =
    let u = c.undecoded.ensures.bad p (same_fault c.undecoded.result (BadDisk p) is) in
    (u.0, no_code c.args.body.now c.args.state.now c.in-Err.found u.1 c.in-Err.ensures.exact)

pub step-stepped-requires-clause-below : goal.step-stepped-requires-clause-below
step-stepped-requires-clause-below c = below_kept c.args.state.now c.requires.formed.order

pub returns-in-Err-stepped-clause-bad : goal.returns-in-Err-stepped-clause-bad
returns-in-Err-stepped-clause-bad c p is =
    let u = c.unstepped.ensures.bad p (same_fault c.unstepped.result (BadDisk p) is) in
    (u.0, not_stepped c.args.body.now c.args.state.now c.in-Ok.change c.in-Err-stepped.refused c.in-Ok.ensures.exact u.1 c.in-Err-stepped.ensures.refused)

pub returns-clause-formed : goal.returns-clause-formed
returns-clause-formed c = step_well c.in-Ok.change c.args.state.now c.step-stepped.new.state c.requires.formed c.in-Ok.ensures.sound.1 (search rules)

pub returns-clause-spares : goal.returns-clause-spares
returns-clause-spares c o out =
    let m = operands_more o c.args.ids.now.items c.in-Ok-touched.operands.items c.extend_from_slice.new.self.items (search rules) out in
    (m.0, step_images c.in-Ok.change c.args.state.now c.step-stepped.new.state o c.in-Ok.ensures.sound.1 (ap (λ (l : List ℕ). member o l) (sym c.in-Ok-touched.ensures) ∙ m.1) (search rules))

pub returns-clause-touches : goal.returns-clause-touches
returns-clause-touches c o avoids out =
    operands_none o c.args.ids.now.items c.in-Ok-touched.operands.items c.extend_from_slice.new.self.items (search rules) out (ap (λ (l : List ℕ). member o l) c.in-Ok-touched.ensures ∙ avoids c.in-Ok.change (search rules))
