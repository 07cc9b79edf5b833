use Rattle.std.proofs.Common.{ap, ◌∙◌}
use Rattle.ec_protocol.specs.Clerk.{evict}
use Rattle.ec_quiet.proofs.Steps.{few-stay, prepared, push-alone, recall-alone, tries-none, tries-one}
use Rattle.ec_quiet.proofs.clerk_phases.steps_try_one_thing.Goals as goal

pub returns-clause-one : goal.returns-clause-one
returns-clause-one z w d r p e = prepared d r p ∙ ap evict (tries-one d w e)

pub returns-clause-none : goal.returns-clause-none
returns-clause-none z d r p e = prepared d r p ∙ ap evict (tries-none d e)

pub returns-clause-recall : goal.returns-clause-recall
returns-clause-recall z r d session e p w = recall-alone d session w r e p

pub returns-clause-push : goal.returns-clause-push
returns-clause-push z n d session e p w = push-alone d session w n e p

pub returns-clause-few : goal.returns-clause-few
returns-clause-few z d l = few-stay d l
