use Rattle.std.proofs.Common.{refl}
use Rattle.ec_coherence.specs.Answers.{fresh_of}
use Rattle.ec_coherence.proofs.ForCommits.Answering.{answers-stand}
use Rattle.ec_coherence.proofs.ForCommits.Appended.{answer-keeps}
use Rattle.ec_coherence.proofs.ForCommits.EndsLawful.{end-lawful}
use Rattle.ec_coherence.proofs.ForCommits.Touching.{leaves-others}
use Rattle.ec_coherence.proofs.ForCommits.Late.{late-answered, late-legal}
use Rattle.ec_coherence.proofs.events.answers_keep_the_history.Goals as goal

pub returns-clause-stands : goal.returns-clause-stands
returns-clause-stands c = λ g c b k ev r q n s most l begun cl a op rest w. answers-stand g (fresh_of k) ev c b k r q n s refl most l begun cl a op rest w

pub returns-clause-keeps : goal.returns-clause-keeps
returns-clause-keeps c = answer-keeps

pub returns-clause-leaves : goal.returns-clause-leaves
returns-clause-leaves c = leaves-others

pub returns-clause-late : goal.returns-clause-late
returns-clause-late c = λ g ev c b s k ks r q ses own fz sees l cl a op rest gives tok i. (
  ev.cuts c b s k ks r q own fz,
  late-answered g ev c b s k ks r q ses own fz sees l cl a op rest gives,
  late-legal g ev c b s k ks r q ses own fz sees l cl a op rest gives tok i,
)

pub returns-clause-ends : goal.returns-clause-ends
returns-clause-ends c = end-lawful
