use Rattle.std.proofs.Common.{◌≤◌, length, sym, subst}
use Rattle.ec_stands.specs.OfTable.CodeLaws.{word_end}
use Rattle.ec_stands.proofs.table.reading.read_sized.Goals as goal

pub read_body-requires : goal.read_body-requires
read_body-requires c =
    subst (λ k. k ≤ length c.args.bytes.now) (sym c.place.ensures) (subst (λ bs. c.word.new.self.at ≤ length bs) c.new-head.ensures.bytes (word_end c.new-head.result.bytes.now c.new-head.result.at c.in_ok-count.count c.word.new.self.at c.in_ok-count.ensures.0))
