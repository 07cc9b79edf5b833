use Rattle.ec_history.proofs.OfLaws.ForPlacing.BasesAlike.{turned, legal-as}
use Rattle.ec_history.proofs.OfLaws.ForRenamed.Agreeing.{renamed-agree}
use Rattle.ec_history.proofs.laws.renamed_histories.renamed_histories_are_legal.Goals as goal

pub returns-clause-legal : goal.returns-clause-legal
returns-clause-legal c r base other most h ren same = legal-as base other (renamed-agree r ren base other same) most h

pub returns-clause-legal_back : goal.returns-clause-legal_back
returns-clause-legal_back c r base other most h ren same = legal-as other base (turned base other (renamed-agree r ren base other same)) most h
