use Rattle.ec_machine_laws.proofs.Sent.{deliveries-count}
use Rattle.ec_complete.proofs.OfAgreedLines.Worlds as clerks
use Rattle.ec_complete.proofs.ForLines.Taking.{can-take-next}
use Rattle.ec_complete.proofs.ForLines.Delivering.{lines-stay-on}
use Rattle.ec_complete.proofs.ForLines.Below.{counters-spare, next-spare}
use Rattle.ec_complete.proofs.ForLines.Given.{ids-stay-given}
use Rattle.ec_complete.proofs.ForFaultless.Settling.{all-go-on, all-settle, all-stay}
use Rattle.ec_complete.proofs.settled_lines.lines_can_settle.Goals as goal

pub returns-clause-known : goal.returns-clause-known
returns-clause-known c = all-stay can-take-next lines-stay-on counters-spare ids-stay-given deliveries-count clerks.deliveries-count

pub returns-clause-settle : goal.returns-clause-settle
returns-clause-settle c = all-settle can-take-next lines-stay-on counters-spare next-spare ids-stay-given deliveries-count clerks.deliveries-count

pub returns-clause-on : goal.returns-clause-on
returns-clause-on c = all-go-on can-take-next lines-stay-on counters-spare ids-stay-given deliveries-count clerks.deliveries-count
