use Rattle.std.proofs.Common.{◌∙◌, ap, sym, ◌++◌}
use Rattle.ec_doing.proofs.Steps.{on_ok, ids_added}
use Rattle.ec_doing.proofs.doing.Doing.add_ids.Goals as goal

pub returns : goal.returns
returns c =
    let d = c.args.self.now in
    let same = c.deref.ensures.value ∙ sym c.deref-2.ensures.value in
    on_ok c.take_each.result (λ p ws. ids_added ws d c.args.number c.args.first c.deref-2.result.now c.extend_from_slice.new.self.items c.take_each.new.cache (c.deref-2.ensures.value ∙ c.in_ok-run.ensures) (c.in_ok-extend_from_slice.ensures.items ∙ ap (λ x. d.ids.items ++ x) same) p) c.take_each.ensures
