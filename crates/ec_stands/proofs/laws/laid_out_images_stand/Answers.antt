use Rattle.ec_stands.specs.Laws.{lies_stands, steps_more}
use Rattle.ec_stands.proofs.laws.laid_out_images_stand.Goals as goal

pub returns-clause-stands : goal.returns-clause-stands
returns-clause-stands c = lies_stands

pub returns-clause-more : goal.returns-clause-more
returns-clause-more c = steps_more
