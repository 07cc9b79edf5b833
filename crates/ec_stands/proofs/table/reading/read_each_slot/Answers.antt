use Rattle.std.proofs.Common.{◌∙◌, refl}
use Rattle.std.proofs.lemmas.Result.{err_from_is_err_and}
use Rattle.ec_stands.specs.OfTable.Codes.{slot_code}
use Rattle.ec_codes.proofs.Rows.{goes_on_so, ends_so}
use Rattle.ec_stands.proofs.table.reading.read_each_slot.Goals as goal

pub returns-in_err-slot : goal.returns-in_err-slot
returns-in_err-slot c =
    let p = err_from_is_err_and c.from_residual.result c.from_residual.ensures.1 in
    rw (p.1, p.2) (ends_so (λ before. slot_code) c.in_err-slot.field-0.0 c.args.count c.loop.counter c.loop.slots.items c.loop.slots.items c.args.reader.now.bytes.now c.loop.reader.bytes.now c.loop.reader.at _ c.loop-test.true refl c.loop.invariant.1 c.in_err-slot.ensures c.loop.invariant.0)

pub loop-preserved : goal.loop-preserved
loop-preserved c = (
  goes_on_so (λ before. slot_code) c.args.count c.loop.counter c.loop.slots.items c.loop.slots.items c.push.new.self.items c.args.reader.now.bytes.now c.loop.reader.bytes.now c.loop.reader.at c.in_ok-slot.slot c.read_slot.new.reader.at _ c.loop-test.true refl c.loop.invariant.1 c.in_ok-push.ensures.items c.in_ok-slot.ensures.0 c.loop.invariant.0,
  c.in_ok-slot.ensures.1 ∙ c.loop.invariant.1,
)
