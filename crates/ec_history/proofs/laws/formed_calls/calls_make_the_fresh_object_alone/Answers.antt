use Rattle.ec_history.proofs.OfLaws.ForFormed.Fresh.{gone-stays, plain-makes}
use Rattle.ec_history.proofs.laws.formed_calls.calls_make_the_fresh_object_alone.Goals as goal

pub returns : goal.returns
returns c v cl fresh u e o apart gone = gone-stays o (v o) u gone (λ m. apart (plain-makes fresh v cl u e o m))
