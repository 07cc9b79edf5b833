use Rattle.ec_quiet.proofs.Terms.{put-value, row-part, sum-falls}
use Rattle.ec_quiet.proofs.sums.sums_change.Goals as goal

pub returns-clause-fall : goal.returns-clause-fall
returns-clause-fall z f g h y d less xs m = sum-falls f g h y d less xs m

pub returns-clause-rows : goal.returns-clause-rows
returns-clause-rows z f x s r ts rising = row-part f x s r ts rising

pub returns-clause-values : goal.returns-clause-values
returns-clause-values z f k x es rising = put-value f k x es rising
