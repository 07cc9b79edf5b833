use Rattle.ec_complete.proofs.ForFaultless.Going.{lines-go-on}
use Rattle.ec_complete.proofs.RunsBehind.{runs-behind}
use Rattle.ec_complete.proofs.scripts_behind.runs_write_behind.Goals as goal

pub returns : goal.returns
returns c outset v most names top number ls fs w formed bound q sixteen first few a fit named all = runs-behind lines-go-on outset v most names top formed bound sixteen ls fs number w q first few a fit named all
