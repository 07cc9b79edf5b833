use Rattle.ec_history.proofs.OfLaws.ForRenamed.Covering.{covers-by, covers-back}
use Rattle.ec_history.proofs.OfLaws.ForPlacing.BasesAlike.{turned, lawful-as}
use Rattle.ec_history.proofs.OfLaws.ForRenamed.Agreeing.{renamed-agree}
use Rattle.ec_history.proofs.laws.renamed_histories.renamed_losses_are_lawful.Goals as goal

pub returns-clause-covers : goal.returns-clause-covers
returns-clause-covers c r base other h e d b n ren same = covers-by r ren base other same h e d b n

pub returns-clause-covers_back : goal.returns-clause-covers_back
returns-clause-covers_back c r base other h e d b n ren same = covers-back r ren base other same h e d b n

pub returns-clause-lawful : goal.returns-clause-lawful
returns-clause-lawful c r base other h d b ns ren same = lawful-as base other (renamed-agree r ren base other same) h d b ns

pub returns-clause-lawful_back : goal.returns-clause-lawful_back
returns-clause-lawful_back c r base other h d b ns ren same = lawful-as other base (turned base other (renamed-agree r ren base other same)) h d b ns
