use Rattle.std.proofs.Common.{sym, ◌∙◌, ap}
use Rattle.std.specs.Prelude.{◌==◌, ◌||◌}
use Rattle.ec_volume.specs.Update.{member, ids_of, listed}
use Rattle.ec_log.proofs.OfChains.Operands.{beside}
use Rattle.ec_log.proofs.chains.operand.has_operand.Goals as goal

pub returns-else-eq-3 : goal.returns-else-eq-3
returns-else-eq-3 c =
    let s = c.in-Shift in
    let id = c.args.id in
    rw s.is (
    beside id s.dir s.into s.obj (listed s.victim) (ids_of s.up) c.is_beside.result
    (c.is_beside.ensures ∙ ap (λ up. id == s.into || (id == s.obj || (member id (listed s.victim) || member id (ids_of up)))) c.as_slice-else-eq-3.ensures) (sym c.if-eq-3.ensures)
    )
