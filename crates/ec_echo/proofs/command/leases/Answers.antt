use Rattle.ec_echo.proofs.OfNamed.Words.{no-most}
use Rattle.ec_echo.proofs.command.leases.Goals as goal

pub returns-in_err-most : goal.returns-in_err-most
returns-in_err-most c = rw c.from_residual-in_err-most.ensures (no-most c.args.length.now c.args.most.now c.in_ok-length.length c.in_ok-length.ensures c.in_err-most.ensures)
