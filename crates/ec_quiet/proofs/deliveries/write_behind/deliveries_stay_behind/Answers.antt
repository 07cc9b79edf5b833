use Rattle.ec_quiet.proofs.OfDeliveries.ForWriteBehind.StayingBehind.{stays-behind}
use Rattle.ec_quiet.proofs.deliveries.write_behind.deliveries_stay_behind.Goals as goal

pub returns : goal.returns
returns c v j sc p m rest q can see head fine = stays-behind v j sc m rest head fine p q can see
