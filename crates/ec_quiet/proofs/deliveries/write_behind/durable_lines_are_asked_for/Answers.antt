use Rattle.ec_quiet.proofs.OfDeliveries.ForWriteBehind.Shown.{lines-behind}
use Rattle.ec_quiet.proofs.deliveries.write_behind.durable_lines_are_asked_for.Goals as goal

pub returns : goal.returns
returns c v j sc p w i x rest q fine there mail = lines-behind v j sc fine p q w i x rest there mail
