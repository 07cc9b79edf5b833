use Rattle.ec_lawful.proofs.ForWhole.LinesTell.{line-tells, nothing-tells-all, quiet-tells}
use Rattle.ec_lawful.proofs.headline.lines_go_on_to_tell.Goals as goal

pub returns-clause-nothing : goal.returns-clause-nothing
returns-clause-nothing c = nothing-tells-all

pub returns-clause-quiet : goal.returns-clause-quiet
returns-clause-quiet c = quiet-tells

pub returns-clause-line : goal.returns-clause-line
returns-clause-line c g h s before behind go t = line-tells g h before behind s go t
