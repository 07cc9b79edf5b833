use Rattle.std.proofs.Common.{◌∙◌}
use Rattle.ec_journal.proofs.Reading.{found-in}
use Rattle.ec_journal.proofs.read.read_records.Goals as goal

pub returns-clause-found : goal.returns-clause-found
returns-clause-found g c told =
    found-in (g.D.Disk.view c.args.disk.now).gives c.args.at c.args.size c.as_slice.result.now (c.requires.inside told) (c.as_slice.ensures.value ∙ c.in_ok-bytes.ensures.bytes told) c.in_ok-found.found c.in_ok-found.ensures.found
