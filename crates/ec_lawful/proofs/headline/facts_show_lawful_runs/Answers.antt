use Rattle.ec_lawful.proofs.Stored.{show-lawfully}
use Rattle.ec_lawful.proofs.headline.facts_show_lawful_runs.Goals as goal

pub returns : goal.returns
returns c g all tells = show-lawfully g all tells
