use Rattle.std.proofs.Common.{◌≡◌}
use Rattle.ec_script.specs.OfGenerator.Generator.{script_of, state_after, draws_to}
use Rattle.ec_script.proofs.generator.whole.script.Given as goal

abbrev pub invariant-loop-before : goal.invariant-loop-before
invariant-loop-before l = (l.out.items ≡ script_of l.number l.before) × (l.draws.state ≡ state_after (draws_to l.before) l.number)
