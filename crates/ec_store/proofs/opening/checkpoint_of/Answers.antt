use Rattle.std.proofs.Common.{rules, ◌∙◌}
use Rattle.ec_store.proofs.Heads.{same_place}
use Rattle.ec_store.proofs.opening.checkpoint_of.Goals as goal

pub returns-in-None-clause-bad : goal.returns-in-None-clause-bad
returns-in-None-clause-bad c p is = (same_place c.table_at.result p is ∙ c.table_at.ensures, search rules)
