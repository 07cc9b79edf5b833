use Rattle.ec_lawful.proofs.ForWhole.WholeFates.{doubts-keep, restarts-keep, stops-keep}
use Rattle.ec_lawful.proofs.whole.stops_and_restarts_keep_all_facts.Goals as goal

pub returns-clause-stops : goal.returns-clause-stops
returns-clause-stops z = stops-keep

pub returns-clause-doubts : goal.returns-clause-doubts
returns-clause-doubts z = doubts-keep

pub returns-clause-restarts : goal.returns-clause-restarts
returns-clause-restarts z = restarts-keep
