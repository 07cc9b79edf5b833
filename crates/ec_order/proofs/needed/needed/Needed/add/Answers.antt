use Rattle.std.proofs.Common.{sym, ap, ◌∙◌}
use Rattle.std.specs.Prelude.{is_some, ◌||◌}
use Rattle.std.proofs.lemmas.Result.{on_ok_weaker}
use Rattle.ec_base.specs.Tables.{at}
use Rattle.ec_volume.specs.Update.{member}
use Rattle.ec_order.proofs.OfNeeded.Needs.{others_chosen, range_chosen}
use Rattle.ec_order.proofs.needed.needed.Needed.add.Goals as goal

pub returns-in-Some : goal.returns-in-Some
returns-in-Some c =
    on_ok_weaker c.add_range.result (range_chosen c.args.update.now c.in-Some.range (sym c.range_of.ensures ∙ c.in-Some.is) c.args.self.now.others c.args.self.now.ranges c.add_range.new.ranges) c.add_range.ensures

pub returns : goal.returns
returns c =
    on_ok_weaker c.note_all.result
    (λ h. others_chosen c.args.update.now (sym c.range_of.ensures ∙ c.in_default.is) c.args.self.now.others c.note_all.new.others c.args.self.now.ranges
    (λ o. h o ∙ ap (λ l. member o l || is_some (at o c.args.self.now.others)) (c.deref.ensures.value ∙ c.in_ok-objs.ensures)))
    c.note_all.ensures
