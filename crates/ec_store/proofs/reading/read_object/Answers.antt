use Rattle.std.proofs.Common.{rules, ◌≡◌, ℕ, ap, sym, ◌∙◌}
use Rattle.std.proofs.lemmas.Bool.{eqb-false}
use Rattle.ec_disk.specs.Disk.{part}
use Rattle.ec_stands.specs.Stands.{slot_part}
use Rattle.ec_store.specs.Reading.{place_of}
use Rattle.ec_store.specs.declared.fault.StoreFault.TheVariants.{BadDisk}
use Rattle.ec_store.proofs.Heads.{same_fault, same_place, object_spelled, another_bad, no_object}
use Rattle.ec_store.proofs.reading.read_object.Goals as goal

pub returns-then-eq-clause-spelled : goal.returns-then-eq-clause-spelled
returns-then-eq-clause-spelled g c told =
    let image = (g.D.Disk.view c.args.disk.now).gives in
    let is : c.as_slice.result.now ≡ slot_part image c.args.named.1 = c.as_slice.ensures.value ∙ c.in_ok-bytes.ensures.bytes told ∙ ap (λ (n : ℕ). part image n 65600) c.slot_at-at.ensures in
    object_spelled c.args.version image c.as_slice.result.now c.args.named is c.in-Ok.object _ c.in-Ok.ensures.found (search rules)

pub returns-in-Ok-clause-bad : goal.returns-in-Ok-clause-bad
returns-in-Ok-clause-bad g c p fault_is told =
    let image = (g.D.Disk.view c.args.disk.now).gives in
    let is : c.as_slice.result.now ≡ slot_part image c.args.named.1 = c.as_slice.ensures.value ∙ c.in_ok-bytes.ensures.bytes told ∙ ap (λ (n : ℕ). part image n 65600) c.slot_at-at.ensures in
    another_bad c.args.version image c.as_slice.result.now c.args.named is c.in-Ok.object _ p c.in-Ok.ensures.exact (eqb-false c.in-Ok.object.0 c.args.named.0 (sym c.eq.ensures ∙ c.if-eq.false)) (same_place _ p fault_is ∙ c.slot_at-at.ensures)

pub returns-clause-bad : goal.returns-clause-bad
returns-clause-bad g c p fault_is told =
    let image = (g.D.Disk.view c.args.disk.now).gives in
    let is : c.as_slice.result.now ≡ slot_part image c.args.named.1 = c.as_slice.ensures.value ∙ c.in_ok-bytes.ensures.bytes told ∙ ap (λ (n : ℕ). part image n 65600) c.slot_at-at.ensures in
    let shown = c.shown_at.ensures.bad p (same_fault c.shown_at.result (BadDisk p) fault_is) in
    no_object c.args.version image c.as_slice.result.now c.args.named is c.args.len p c.in-Err.found (c.requires.len told) shown.1 c.in-Err.ensures.exact (shown.0 ∙ ap (λ (n : ℕ). place_of c.args.len n c.in-Err.found) c.slot_at-at.ensures)
