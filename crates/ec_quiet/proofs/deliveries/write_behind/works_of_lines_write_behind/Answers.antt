use Rattle.ec_quiet.proofs.OfDeliveries.ForWriteBehind.Worked.{touches-work, works-behind}
use Rattle.ec_quiet.proofs.deliveries.write_behind.works_of_lines_write_behind.Goals as goal

pub returns-clause-behind : goal.returns-clause-behind
returns-clause-behind c base v j l ss s same w i = works-behind base ss j v l s same w i

pub returns-clause-works : goal.returns-clause-works
returns-clause-works c origin ks d id cl j clerk task touched none unused = touches-work origin ks d id cl j clerk task touched none unused
