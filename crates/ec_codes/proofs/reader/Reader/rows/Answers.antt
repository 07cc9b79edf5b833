use Rattle.std.proofs.Common.{◌≡◌, ◌++◌, ◌∷◌, [], ◌∙◌, sym, subst}
use Rattle.std.specs.Prelude.{T}
use Rattle.std.specs.FinMap.{is_sorted}
use Rattle.std.proofs.lemmas.Result.{err_from_is_err_and}
use Rattle.ec_volume.specs.Entries.{by_bytes}
use Rattle.ec_codes.specs.Formats.{rows_read}
use Rattle.ec_codes.specs.Images.{is_after, entry_after}
use Rattle.ec_codes.specs.EntryLaws.{sorted_push}
use Rattle.ec_codes.proofs.Rows.{goes_on_so, ends_so}
use Rattle.ec_codes.proofs.reader.Reader.rows.Goals as goal

pub returns-in_err-entry-clause-read : goal.returns-in_err-entry-clause-read
returns-in_err-entry-clause-read c =
    let p = err_from_is_err_and c.from_residual.result c.from_residual.ensures.1 in
    rw (p.1, p.2) (ends_so entry_after c.in_err-entry.field-0.0 c.args.count c.loop.counter c.loop.entries.items c.deref.result.now c.args.self.now.bytes.now c.loop.self.bytes.now c.loop.self.at _ c.loop-test.true c.deref.ensures.value c.loop.invariant.1 c.in_err-entry.ensures.read c.loop.invariant.0)

pub loop-preserved : goal.loop-preserved
loop-preserved c = (
  goes_on_so entry_after c.args.count c.loop.counter c.loop.entries.items c.deref.result.now c.push.new.self.items c.args.self.now.bytes.now c.loop.self.bytes.now c.loop.self.at c.in_ok-entry.entry c.entry_after.new.self.at _ c.loop-test.true c.deref.ensures.value c.loop.invariant.1 c.in_ok-push.ensures.items c.in_ok-entry.ensures.read.0 c.loop.invariant.0,
  c.in_ok-entry.ensures.read.1 ∙ c.loop.invariant.1,
  subst (λ es. T (is_sorted by_bytes es)) (sym c.in_ok-push.ensures.items) (sorted_push c.loop.entries.items c.in_ok-entry.entry c.loop.invariant.2 (subst (λ es. T (is_after es c.in_ok-entry.entry.0)) c.deref.ensures.value c.in_ok-entry.ensures.after)),
)
