use Rattle.std.proofs.Common.{sym, subst, Some}
use Rattle.ec_lease.specs.Worlds.{leased}
use Rattle.ec_lease.specs.OfDrill.Lines.{read_of}
use Rattle.ec_lease.specs.OfDrill.Steps.{LineDone}
use Rattle.ec_lease.specs.declared.drill.running.Ending.TheVariants.{BadLine}
use Rattle.ec_lease.specs.declared.drill.script.ScriptLine.{ScriptLine}
use Rattle.ec_lease.proofs.OfDrill.Fits.{line_unfit}
use Rattle.ec_lease.proofs.drill.running.carry.Goals as goal

pub returns-in-Unfit-clause-carried : goal.returns-in-Unfit-clause-carried
returns-in-Unfit-clause-carried g c =
    let a = (g.D.Disk.counts c.args.disk.now).stops in
    let x = leased c.args.world.now in
    let held = g.K.Sink.held c.args.sink.now in
    subst (λ (line : ScriptLine). LineDone g.D.Disk.tells a a c.args.means.bound c.args.number (read_of line) x x (Some (BadLine c.args.number c.in-Unfit.column)) held held) (sym c.in-Unfit.is)
    (line_unfit g.D.Disk.tells a c.args.means.bound c.args.number c.in-Unfit.column x held)
