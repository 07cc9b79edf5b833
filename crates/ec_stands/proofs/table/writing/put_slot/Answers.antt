use Rattle.std.proofs.Common.{◌++◌, ◌∷◌, [], ℕ, ap, ◌∙◌, refl}
use Rattle.std.proofs.lemmas.Result.{on_ok_weaker}
use Rattle.ec_stands.proofs.OfTable.Written.{slot_written}
use Rattle.ec_stands.proofs.table.writing.put_slot.Goals as goal

pub returns : goal.returns
returns c =
    on_ok_weaker c.put_fields.result (λ w.
    slot_written c.args.slot.now.is_open c.args.slot.now c.args.out.now.items c.put_byte.new.out.items c.put_fields.new.out.items refl
    (c.in_ok-put_byte.ensures.0 ∙ ap (λ (k : ℕ). c.args.out.now.items ++ k ∷ []) c.tag.ensures) w) c.put_fields.ensures
