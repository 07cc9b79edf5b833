use Rattle.std.proofs.Common.{sym, subst}
use Rattle.std.specs.Prelude.{Decides}
use Rattle.ec_lines.specs.Named.{IsNamed}
use Rattle.ec_lines.proofs.lines.is_named.Goals as goal

pub returns-in-Durable : goal.returns-in-Durable
returns-in-Durable c = subst (λ l. Decides c.may_be_durable.result (IsNamed c.args.watch.now l)) (sym c.in-Durable.is) c.may_be_durable.ensures
