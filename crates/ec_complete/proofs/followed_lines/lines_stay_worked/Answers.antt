use Rattle.ec_complete.proofs.ForFaultless.Following.{followed, stays, writes}
use Rattle.ec_complete.proofs.followed_lines.lines_stay_worked.Goals as goal

pub returns-clause-stay : goal.returns-clause-stay
returns-clause-stay c = λ outset l origin v j calls m r q few reached le. stays outset l origin v j calls few m r q reached le

pub returns-clause-followed : goal.returns-clause-followed
returns-clause-followed c = λ outset l origin v j calls m q few. followed outset l origin v j calls few m q

pub returns-clause-behind : goal.returns-clause-behind
returns-clause-behind c = λ outset l origin top v j calls m q formed bound few fine r reached le. writes outset l origin v j calls few m q top formed bound fine r reached le
