use Rattle.ec_order.proofs.OfObjtable.Held.{empty-index, empty-slot, none-held}
use Rattle.ec_order.proofs.objtable.table.ObjTable.new.Goals as goal

pub invariant_of-result : goal.invariant_of-result
invariant_of-result g c = empty-index c.new.result.items c.new-2.result.items c.new.ensures.items

pub returns : goal.returns
returns g c o = none-held c.new.result.items c.new-2.result.items o (empty-slot c.new.result.items o c.new.ensures.items)
