use Rattle.std.proofs.Common.{rules, ◌≡◌}
use Rattle.ec_mirror.specs.declared.tally.Turn.TheVariants as turn
use Rattle.ec_mirror.proofs.Tallies.{turned_on, turned_off}
use Rattle.ec_mirror.proofs.parts.Parts.write_at.Goals as goal

pub returns-in-Goes-clause-turned : goal.returns-in-Goes-clause-turned
returns-in-Goes-clause-turned g c =
    let goes : c.next.result ≡ turn.Goes = search rules in
    turned_on c.args.self.now.tally c.next.new.self (c.next.result ≡ turn.Goes) (c.next.result ≡ turn.Goes → ⊥) c.next.ensures.counts c.next.ensures.armed c.next.ensures.due c.next.ensures.call c.next.ensures.alone
    c.write.result c.write.new.self.tally goes c.write.ensures.never_stops c.write.ensures.tally

pub returns-in-Stops-clause-turned : goal.returns-in-Stops-clause-turned
returns-in-Stops-clause-turned g c =
    let stops : c.next.result ≡ turn.Goes → ⊥ = search rules in
    turned_off c.args.self.now.tally c.next.new.self (c.next.result ≡ turn.Goes) (c.next.result ≡ turn.Goes → ⊥) c.next.ensures.counts c.next.ensures.armed c.next.ensures.due c.next.ensures.call c.next.ensures.alone
    c.stop_write.result c.stop_write.new.self.tally stops c.stop_write.ensures.never_done c.stop_write.ensures.never_fails c.stop_write.ensures.tally
