use Rattle.std.proofs.Common.{ap, sym, ◌∙◌}
use Rattle.ec_sessions.specs.Slots.{run}
use Rattle.ec_protocol.specs.Server as machine
use Rattle.ec_admission.proofs.Sixteen.{ids_begin, ids_step, ids_end}
use Rattle.ec_admission.proofs.ids.add_ids.Goals as goal

pub ids-init : goal.ids-init
ids-init c = ids_begin c.args.session c.args.number c.get-from.result c.args.tokens.now

pub ids-preserved : goal.ids-preserved
ids-preserved c =
    sym (ids_step c.args.session c.args.number c.get-from.result c.ids.place _ c.ids.tokens c.add_id.new.tokens c.ids-test.true c.in-Some.ensures.some c.in_ok-add_id.ensures) ∙ c.ids.invariant

pub returns : goal.returns
returns c =
    ap (λ m. machine.with_ids c.args.session c.args.number (run m 16) c.args.tokens.now) (sym c.get-from.ensures.value) ∙ sym c.ids.invariant
    ∙ ids_end c.args.session c.args.number c.get-from.result c.ids.place c.ids.tokens c.ids-test.false
