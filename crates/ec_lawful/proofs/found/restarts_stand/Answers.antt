use Rattle.ec_lawful.proofs.ForWhole.Founds.{found-shown, founds-make, founds-stand, steps-so}
use Rattle.ec_lawful.proofs.ForWhole.Restarts.{restart-stands}
use Rattle.ec_lawful.proofs.ForWhole.Ups.{bare-all}
use Rattle.ec_lawful.proofs.found.restarts_stand.Goals as goal

pub returns-clause-bare : goal.returns-clause-bare
returns-clause-bare z g all down = bare-all g all down

pub returns-clause-makes : goal.returns-clause-makes
returns-clause-makes z g all from down r p = (founds-make g all from down r p, steps-so g all from down r p)

pub returns-clause-found : goal.returns-clause-found
returns-clause-found z g all from down r p = (founds-stand g all from down r p, found-shown g r)

pub returns-clause-restart : goal.returns-clause-restart
returns-clause-restart z g all from down e reached = restart-stands g all from down e reached
