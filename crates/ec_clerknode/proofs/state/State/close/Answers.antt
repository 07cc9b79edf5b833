use Rattle.std.proofs.Common.{sym, subst}
use Rattle.ec_clerknode.specs.Closed.{EndsAs}
use Rattle.ec_clerknode.proofs.state.State.close.Goals as goal

pub returns-clause-grown : goal.returns-clause-grown
returns-clause-grown g c =
    let end = c.add_step-end.ensures in
    (end.0, end.1, subst (λ e. EndsAs c.add_step-end.new.self.boot c.add_step-end.new.self.lasts c.add_step-end.new.self.is_down e c.args.act.fault c.ended.result) (sym end.2) c.ended.ensures.ends)
