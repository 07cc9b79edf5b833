use Rattle.std.proofs.Common.{List, ℕ, subst}
use Rattle.std.proofs.lemmas.Result.{on_ok_weaker}
use Rattle.ec_sessions.specs.declared.slot.Slot.{Slot}
use Rattle.ec_codes.specs.Formats.{byte}
use Rattle.ec_codes.specs.Spelling.{Writes}
use Rattle.ec_codes.specs.Fields.{word, long}
use Rattle.ec_codes.specs.Clerks.{age_field}
use Rattle.ec_stands.specs.OfTable.Codes.{last_first_field, ids_field}
use Rattle.ec_stands.proofs.OfTable.Written.{fields_written}
use Rattle.ec_stands.proofs.table.writing.put_fields.Goals as goal

pub returns : goal.returns
returns c =
    on_ok_weaker c.put_ids.result (λ w.
    fields_written c.args.slot.now c.args.out.now.items c.put_age.new.out.items c.put_long.new.out.items c.put_long-2.new.out.items c.put_byte.new.out.items c.put_word.new.out.items c.put_last_first.new.out.items c.put_ids.new.out.items
    (subst (λ (sl : Slot). Writes age_field sl.age c.args.out.now.items c.put_age.new.out.items) c.slot.view_is c.in_ok-put_age.ensures)
    (subst (λ (sl : Slot). Writes long sl.session c.put_age.new.out.items c.put_long.new.out.items) c.slot.view_is c.in_ok-put_long.ensures)
    (subst (λ (sl : Slot). Writes long sl.window.low c.put_long.new.out.items c.put_long-2.new.out.items) c.slot.view_is c.in_ok-put_long-2.ensures)
    (subst (λ (sl : Slot). Writes byte sl.window.mask c.put_long-2.new.out.items c.put_byte.new.out.items) c.slot.view_is c.in_ok-put_byte.ensures)
    (subst (λ (sl : Slot). Writes word sl.grants c.put_byte.new.out.items c.put_word.new.out.items) c.slot.view_is c.in_ok-put_word.ensures)
    (subst (λ (sl : Slot). Writes last_first_field sl.last_first c.put_word.new.out.items c.put_last_first.new.out.items) c.slot.view_is c.in_ok-put_last_first.ensures)
    (subst (λ (sl : Slot). Writes ids_field sl.unspent c.put_last_first.new.out.items c.put_ids.new.out.items) c.slot.view_is
    (subst (λ (ids : List ℕ). Writes ids_field ids c.put_last_first.new.out.items c.put_ids.new.out.items) c.as_slice.ensures w))) c.put_ids.ensures
