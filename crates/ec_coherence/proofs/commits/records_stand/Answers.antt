use Rattle.ec_coherence.proofs.ForCommits.BatchCommits.{flush-shows, flush-stands, flush-starts}
use Rattle.ec_coherence.proofs.ForCommits.Given.{give-firsts, give-stands, give-starts, give-watches, ids-in-range}
use Rattle.ec_coherence.proofs.ForCommits.SessionCommits.{open-stands, open-starts, open-watches}
use Rattle.ec_coherence.proofs.commits.records_stand.Goals as goal

pub returns-clause-give : goal.returns-clause-give
returns-clause-give z g γ t u none c sl in_slot opened k there claimed taken current ask room enough small = (
  give-stands g γ t u.0 none c sl in_slot opened k there claimed taken current ask room enough small,
  give-watches g γ t u.0 none c sl in_slot opened k there claimed taken current ask room enough small u.1,
  give-firsts γ sl.session t.server.durable.next_id (ids-in-range sl.grants t enough) u.2,
  give-starts g γ t u.0 none c sl in_slot opened k there claimed taken current ask room enough small u.3,
)

pub returns-clause-open : goal.returns-clause-open
returns-clause-open z g γ t u none c age within idle greater reached above small = (
  open-stands g γ t u.0 none c age within idle greater reached small,
  open-watches g γ t u.0 none c age within idle greater reached small u.1,
  u.2,
  open-starts g γ t u.0 none c age within idle greater reached small above u.3,
)

pub returns-clause-flush : goal.returns-clause-flush
returns-clause-flush z g γ t u none c sl k in_slot opened there claimed b ns under unmarked = (
  flush-stands g γ t u.0 none u.1 c sl k in_slot opened there claimed b ns under unmarked,
  flush-shows g γ t u.0 none u.1 c sl k in_slot opened there claimed b ns under unmarked,
  u.2,
  flush-starts g γ t u.0 none u.1 c sl k in_slot opened there claimed b ns under unmarked u.3,
)
