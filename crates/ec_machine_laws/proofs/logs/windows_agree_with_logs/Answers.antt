use Rattle.ec_machine_laws.proofs.Logging.{pick-agrees, kept-agrees, mark-agrees, within-window}
use Rattle.ec_machine_laws.proofs.logs.windows_agree_with_logs.Goals as goal

pub returns-clause-pick : goal.returns-clause-pick
returns-clause-pick c = pick-agrees

pub returns-clause-kept : goal.returns-clause-kept
returns-clause-kept c = kept-agrees

pub returns-clause-mark : goal.returns-clause-mark
returns-clause-mark c = mark-agrees

pub returns-clause-near : goal.returns-clause-near
returns-clause-near c = within-window
