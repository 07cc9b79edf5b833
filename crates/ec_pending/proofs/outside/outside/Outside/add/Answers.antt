use Rattle.std.proofs.Common.{sym, ap, ◌∙◌}
use Rattle.std.specs.Prelude.{is_some, ◌||◌}
use Rattle.std.proofs.lemmas.Result.{on_ok_weaker}
use Rattle.ec_base.specs.Tables.{at}
use Rattle.ec_volume.specs.Update.{member}
use Rattle.ec_pending.proofs.OfOutside.Known.{overwrite-more, other-more}
use Rattle.ec_pending.proofs.outside.outside.Outside.add.Goals as goal

pub returns-then-is_overwrite : goal.returns-then-is_overwrite
returns-then-is_overwrite c = λ u. overwrite-more u c.args.update.now c.args.self.now.objs c.note_all.new.known c.args.self.now.others (sym c.is_overwrite.ensures ∙ c.if-is_overwrite.true)
    (λ o. c.in_ok-note_all.ensures o ∙ ap (λ l. member o l || is_some (at o c.args.self.now.objs)) (c.deref.ensures.value ∙ c.in_ok-ids.ensures))

pub returns : goal.returns
returns c =
    on_ok_weaker c.note_all-2.result
    (λ h u. other-more u c.args.update.now c.args.self.now.objs c.note_all.new.known c.args.self.now.others c.note_all-2.new.known (sym c.is_overwrite.ensures ∙ c.if-is_overwrite.false)
    (λ o. c.in_ok-note_all.ensures o ∙ ap (λ l. member o l || is_some (at o c.args.self.now.objs)) (c.deref.ensures.value ∙ c.in_ok-ids.ensures))
    (λ o. h o ∙ ap (λ l. member o l || is_some (at o c.args.self.now.others)) (c.deref-2.ensures.value ∙ c.in_ok-ids.ensures)))
    c.note_all-2.ensures
