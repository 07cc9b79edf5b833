use Rattle.ec_machine_laws.proofs.Rows.{conflicts-lowered}
use Rattle.ec_machine_laws.proofs.holders.given_back_tokens_conflict_no_more.Goals as goal

pub returns : goal.returns
returns c = conflicts-lowered
