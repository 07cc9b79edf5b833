use Rattle.std.proofs.Common.{◌∙◌, ap}
use Rattle.ec_base.specs.Tables.{at}
use Rattle.ec_order.proofs.OfObjmap.Entries.{at-is}
use Rattle.ec_order.proofs.objmap.map.ObjMap.get.Goals as goal

pub returns : goal.returns
returns g c = c.get.ensures.value ∙ at-is c.args.obj.now c.self.inside.map.entries ∙ ap (at c.args.obj.now) c.self.view_is
