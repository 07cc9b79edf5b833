use Rattle.ec_machine_laws.proofs.Lines.{lines-flushed}
use Rattle.ec_machine_laws.proofs.server_counts.durable_lines_are_flushed.Goals as goal

pub returns : goal.returns
returns c = lines-flushed
