use Rattle.std.proofs.Common.{refl}
use Rattle.ec_lawful.proofs.ForAsked.EventsAsk.{event-asks}
use Rattle.ec_lawful.proofs.ForAsked.Opened.{opened-agrees, opened-asks}
use Rattle.ec_lawful.proofs.ForAsked.ServingAsks.{restart-asks}
use Rattle.ec_lawful.proofs.ForAsked.Shown.{asked-show}
use Rattle.ec_lawful.proofs.asked.sessions_end_as_asked.Goals as goal

pub returns-clause-opening : goal.returns-clause-opening
returns-clause-opening z w g st fresh = (opened-agrees w g st fresh, opened-asks w g st fresh)

pub returns-clause-opened : goal.returns-clause-opened
returns-clause-opened z d = record { idle = λ c. refl; boots = λ c. refl; pool = refl; unshown = refl; shown = refl }

pub returns-clause-events : goal.returns-clause-events
returns-clause-events z first asked fate e w h a f = event-asks first asked fate w h a e f

pub returns-clause-restarts : goal.returns-clause-restarts
returns-clause-restarts z first asked fate w a f = restart-asks first asked w a fate f

pub returns-clause-shown : goal.returns-clause-shown
returns-clause-shown z first asked w a c = asked-show first asked w a c
