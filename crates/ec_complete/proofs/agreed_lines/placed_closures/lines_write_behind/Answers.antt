use Rattle.ec_complete.proofs.OfAgreedLines.Followed.{writes-behind}
use Rattle.ec_complete.proofs.agreed_lines.placed_closures.lines_write_behind.Goals as goal

pub returns : goal.returns
returns c l origin top v j most m sc p formed bound followed scene ip fine r way few = writes-behind l origin top v j most m formed bound followed sc p scene ip fine r way few
