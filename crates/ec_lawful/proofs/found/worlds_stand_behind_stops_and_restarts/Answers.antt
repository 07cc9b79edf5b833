use Rattle.ec_lawful.proofs.ForWhole.Fates.{state-is, stopped-with, stopped-without, up-stands, with-it, without}
use Rattle.ec_lawful.proofs.found.worlds_stand_behind_stops_and_restarts.Goals as goal

pub returns-clause-stops : goal.returns-clause-stops
returns-clause-stops z w g st v up r t = (without w g st v up r t, with-it w g st v up r t)

pub returns-clause-stopped : goal.returns-clause-stopped
returns-clause-stopped z w g st down spare = (stopped-without w g st down spare, stopped-with w g st down spare)

pub returns-clause-up : goal.returns-clause-up
returns-clause-up z w g st all down spare = (state-is w g st down spare all, up-stands w g st down spare all)
