use Rattle.ec_quiet.proofs.OfDeliveries.ForWriteBehind.Begun.{calls-begin, idle-behind, pushes-begin, starts-begin}
use Rattle.ec_quiet.proofs.deliveries.write_behind.lines_begin_behind.Goals as goal

pub returns-clause-idle : goal.returns-clause-idle
returns-clause-idle c = idle-behind

pub returns-clause-call : goal.returns-clause-call
returns-clause-call c v j sc k cl mail idle there may sees = calls-begin v j sc idle k there mail cl may sees

pub returns-clause-start : goal.returns-clause-start
returns-clause-start c v j sc boot cl mail idle = starts-begin v j sc idle boot cl mail

pub returns-clause-push : goal.returns-clause-push
returns-clause-push c v j sc k n mail idle there is = pushes-begin v j sc idle k there mail n is
