use Rattle.std.proofs.Common.{◌∙◌, ap, cond, None}
use Rattle.std.specs.Prelude.{◌==◌}
use Rattle.ec_base.specs.Tables.{at}
use Rattle.ec_order.proofs.OfObjmap.Entries.{at-is, at-with}
use Rattle.ec_order.proofs.objmap.map.ObjMap.remove.Goals as goal

pub returns-clause-value : goal.returns-clause-value
returns-clause-value g c = c.remove.ensures.value ∙ at-is c.args.obj.now c.self.inside.map.entries ∙ ap (at c.args.obj.now) c.self.view_is

pub returns-clause-others : goal.returns-clause-others
returns-clause-others g c o = at-with c.args.obj.now None c.self.inside.map.entries c.remove.new.self.entries c.remove.ensures.updates.0 o ∙ ap (λ es. cond (o == c.args.obj.now) None (at o es)) c.self.view_is
