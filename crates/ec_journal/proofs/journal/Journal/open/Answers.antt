use Rattle.std.proofs.Common.{rules, ◌≡◌, true}
use Rattle.ec_journal.specs.Laws.{whole-or-past}
use Rattle.ec_journal.proofs.journal.Journal.open.Goals as goal

pub returns-clause-not_bad : goal.returns-clause-not_bad
returns-clause-not_bad g c told place bad =
    let is_whole : c.in_ok-found.found.is_whole ≡ true = search rules in
    whole-or-past (g.D.Disk.view c.args.disk.now).gives c.args.at c.args.size c.in_ok-found.found.bodies bad.0 ((c.in_ok-found.ensures.found told).whole is_whole) bad.2
