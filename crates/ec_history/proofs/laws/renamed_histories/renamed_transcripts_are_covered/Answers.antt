use Rattle.ec_history.proofs.OfLaws.ForPlacing.BasesAlike.{turned, covered-as, stored-as}
use Rattle.ec_history.proofs.OfLaws.ForRenamed.Agreeing.{renamed-agree}
use Rattle.ec_history.proofs.laws.renamed_histories.renamed_transcripts_are_covered.Goals as goal

pub returns-clause-covered : goal.returns-clause-covered
returns-clause-covered c r base other ss ren same = covered-as base other (renamed-agree r ren base other same) ss

pub returns-clause-covered_back : goal.returns-clause-covered_back
returns-clause-covered_back c r base other ss ren same = covered-as other base (turned base other (renamed-agree r ren base other same)) ss

pub returns-clause-stored : goal.returns-clause-stored
returns-clause-stored c r base other ss v ren same = stored-as base other (renamed-agree r ren base other same) ss v

pub returns-clause-stored_back : goal.returns-clause-stored_back
returns-clause-stored_back c r base other ss v ren same = stored-as other base (turned base other (renamed-agree r ren base other same)) ss v
