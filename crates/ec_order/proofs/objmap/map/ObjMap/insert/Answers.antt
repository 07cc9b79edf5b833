use Rattle.std.proofs.Common.{◌∙◌, sym, ap}
use Rattle.ec_base.specs.Tables.{at, put}
use Rattle.ec_order.specs.OfObjmap.Objects.{by_object}
use Rattle.ec_order.proofs.OfObjmap.Entries.{at-is, put-with}
use Rattle.ec_order.proofs.objmap.map.ObjMap.insert.Goals as goal

pub returns-in-Ok-clause-ok : goal.returns-in-Ok-clause-ok
returns-in-Ok-clause-ok g c = put-with c.args.obj c.args.value c.self.inside.map.entries c.insert.new.self.entries c.in-Ok.ensures.updates.0 ∙ ap (put c.args.obj c.args.value) c.self.view_is

pub returns-clause-err : goal.returns-clause-err
returns-clause-err g c = ap by_object c.in-Err.ensures.err ∙ c.self.view_is

pub returns-clause-absent : goal.returns-clause-absent
returns-clause-absent g c = sym (at-is c.args.obj c.self.inside.map.entries ∙ ap (at c.args.obj) c.self.view_is) ∙ c.in-Err.ensures.absent
