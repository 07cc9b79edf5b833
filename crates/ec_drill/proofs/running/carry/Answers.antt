use Rattle.std.proofs.Common.{sym, subst, Some}
use Rattle.ec_world.specs.Worlds.{view_of}
use Rattle.ec_drill.specs.ArmedSteps.{heard}
use Rattle.ec_drill.specs.Lines.{read_of}
use Rattle.ec_drill.specs.Steps.{LineDone}
use Rattle.ec_drill.specs.declared.running.Ending.TheVariants.{BadLine}
use Rattle.ec_drill.specs.declared.script.ScriptLine.{ScriptLine}
use Rattle.ec_drill.proofs.Runs.{line_unfit}
use Rattle.ec_drill.proofs.running.carry.Goals as goal

pub returns-in-Unfit-clause-carried : goal.returns-in-Unfit-clause-carried
returns-in-Unfit-clause-carried g c = λ m calm.
    let counts = heard m (g.D.Disk.counts c.args.disk.now) in
    let world = view_of c.args.world.now in
    let held = g.K.Sink.held c.args.sink.now in
    subst (λ (line : ScriptLine). LineDone g.D.Disk.tells counts counts c.args.means.bound c.args.number (read_of line) world world (Some (BadLine c.args.number c.in-Unfit.column)) held held) (sym c.in-Unfit.is)
    (line_unfit g.D.Disk.tells counts c.args.means.bound c.args.number c.in-Unfit.column world held)
