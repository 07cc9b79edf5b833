use Rattle.std.proofs.Common.{ℕ, List, ap, subst, ◌∙◌}
use Rattle.ec_disk.specs.Disk.{part}
use Rattle.ec_codes.specs.Spelling.{StandsAt}
use Rattle.ec_stands.specs.OfTable.Codes.{table_code}
use Rattle.ec_store.proofs.reading.read_table.Goals as goal

pub returns-in-Ok-clause-stands : goal.returns-in-Ok-clause-stands
returns-in-Ok-clause-stands g c told =
    subst (λ (b : List ℕ). StandsAt b 0 ((table_code c.args.head.max_objects).spell c.in-Ok.table)) (c.as_slice.ensures.value ∙ c.in_ok-bytes.ensures.bytes told ∙ ap (λ (n : ℕ). part (g.D.Disk.view c.args.disk.now).gives n 65536) c.table_at-at.ensures) c.in-Ok.ensures.found.stands
