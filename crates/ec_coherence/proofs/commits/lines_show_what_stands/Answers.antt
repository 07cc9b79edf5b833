use Rattle.ec_coherence.proofs.ForCommits.NothingShown.{opening-firsts, opening-watches}
use Rattle.ec_coherence.proofs.ForCommits.Starting.{opening-starts}
use Rattle.ec_coherence.proofs.ForCommits.Watched.{watches-read}
use Rattle.ec_coherence.proofs.commits.lines_show_what_stands.Goals as goal

pub returns-clause-opening : goal.returns-clause-opening
returns-clause-opening c most = (opening-watches most, opening-firsts most, opening-starts most)

pub returns-clause-tables : goal.returns-clause-tables
returns-clause-tables c = watches-read
