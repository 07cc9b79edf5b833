use Rattle.ec_history.proofs.OfLaws.ForRenamed.Shapes.{shape-by, after-by, Fits-by, Fits-back, kept-by}
use Rattle.ec_history.proofs.laws.renamed_volumes.renamed_volumes_have_one_shape.Goals as goal

pub returns-clause-shape : goal.returns-clause-shape
returns-clause-shape c = λ r v w ren same. shape-by r ren v w same

pub returns-clause-after : goal.returns-clause-after
returns-clause-after c = λ r v w us ren same. after-by r ren v w same us

pub returns-clause-fits : goal.returns-clause-fits
returns-clause-fits c = λ r v w us ren same f. Fits-by r ren v w same us f

pub returns-clause-fits_back : goal.returns-clause-fits_back
returns-clause-fits_back c = λ r v w us ren same f. Fits-back r ren v w same us f

pub returns-clause-kept_ids : goal.returns-clause-kept_ids
returns-clause-kept_ids c = λ r v ren formed keep. kept-by r ren v formed keep
