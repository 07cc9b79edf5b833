use Rattle.std.proofs.Common.{◌∙◌, sym, ap}
use Rattle.std.specs.Prelude.{◌==◌}
use Rattle.ec_pending.specs.OfOwes.Owes.{on_none}
use Rattle.ec_pending.proofs.OfOwes.Staying.{none-stays, take-in, take-view}
use Rattle.ec_pending.proofs.owes.owes.Owes.take.Goals as goal

pub trim-requires : goal.trim-requires
trim-requires c = take-in c.args.objs.now c.len-end.result c.self.inside.spans c.take_out.new.spans c.take_out.ensures c.self.inside.pairs.items (c.len-end.ensures ∙ c.self.inside.pairs.ok.0) c.self.invariant

pub returns : goal.returns
returns c = c.trim.ensures.same ∙ take-view c.args.objs.now c.len-end.result c.self.inside.spans c.take_out.new.spans c.take_out.ensures c.self.inside.pairs.items (c.len-end.ensures ∙ c.self.inside.pairs.ok.0) c.self.invariant ∙ ap (on_none c.args.objs.now) c.self.view_is

pub returns-then-is_empty : goal.returns-then-is_empty
returns-then-is_empty c =
    let none = none-stays c.self.inside.spans c.self.inside.pairs.items c.args.self.now (ap (λ n. n == 0) (sym c.self.inside.pairs.ok.0) ∙ sym c.is_empty.ensures ∙ c.if-is_empty.true) c.self.view_is in
    none ∙ sym (ap (on_none c.args.objs.now) none)
