use Rattle.ec_mounts.proofs.Synced.{AreFirst}
use Rattle.ec_mounts.proofs.calling.answers_of.Given as goal

abbrev pub invariant-parts : goal.invariant-parts
invariant-parts g l = AreFirst (λ p. p.met) l.parts l.part-index l.answers.items
