use Rattle.std.proofs.Common.{◌∙◌}
use Rattle.ec_mount.proofs.linker.Linking.call_until.Goals as goal

pub returns-then-is_over-clause-name : goal.returns-then-is_over-clause-name
returns-then-is_over-clause-name g c = c.loop.invariant.5

pub returns-in-Ok-clause-name : goal.returns-in-Ok-clause-name
returns-in-Ok-clause-name g c = c.call.ensures.name ∙ c.loop.invariant.5
