-- Each run is lawful.
use Rattle.ec_lawful.proofs.lawful.runs_are_lawful.Goals as goal
use Rattle.ec_lawful.proofs.Shows.{runs-show}

pub returns : goal.returns
returns z d wf sixteen zero w o ls fs fit top greatest = runs-show d wf sixteen zero w o ls fs fit top greatest
