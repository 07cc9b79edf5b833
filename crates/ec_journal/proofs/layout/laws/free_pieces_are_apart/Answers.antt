use Rattle.ec_journal.specs.OfLayout.ApartLaws.{free_apart}
use Rattle.ec_journal.proofs.layout.laws.free_pieces_are_apart.Goals as goal

pub returns : goal.returns
returns c = free_apart
