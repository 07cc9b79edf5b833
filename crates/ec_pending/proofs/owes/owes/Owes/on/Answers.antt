use Rattle.std.proofs.Common.{◌∙◌, sym, ap}
use Rattle.std.specs.Prelude.{◌==◌}
use Rattle.ec_pending.specs.OfOwes.Owes.{on_one}
use Rattle.ec_pending.proofs.OfOwes.Staying.{none-stays}
use Rattle.ec_pending.proofs.owes.owes.Owes.on.Goals as goal

pub returns-then-is_empty : goal.returns-then-is_empty
returns-then-is_empty c =
    let none = none-stays c.self.inside.spans c.self.inside.pairs.items c.args.self.now (ap (λ n. n == 0) (sym c.self.inside.pairs.ok.0) ∙ sym c.is_empty.ensures ∙ c.if-is_empty.true) c.self.view_is in
    c.new.ensures.items ∙ sym (ap (on_one c.args.objs.now) none)
