use Rattle.std.proofs.Common.{rules, ◌≡◌, sym, subst}
use Rattle.ec_half.specs.Contents.{Rested, rested-same}
use Rattle.ec_mirror.specs.Shown.{shown_of}
use Rattle.ec_mirror.specs.declared.tally.Turn.TheVariants as turn
use Rattle.ec_mirror.proofs.Tallies.{turned_on, turned_off, stopped-not-done, stopped-not-failed}
use Rattle.ec_mirror.proofs.parts.Parts.read_at.Goals as goal

pub returns-in-Goes-clause-turned : goal.returns-in-Goes-clause-turned
returns-in-Goes-clause-turned g c =
    let goes : c.next.result ≡ turn.Goes = search rules in
    turned_on c.args.self.now.tally c.next.new.self (c.next.result ≡ turn.Goes) (c.next.result ≡ turn.Goes → ⊥) c.next.ensures.counts c.next.ensures.armed c.next.ensures.due c.next.ensures.call c.next.ensures.alone
    c.read.result c.read.new.self.tally goes c.read.ensures.never_stops c.read.ensures.tally

pub returns-in-Stops-clause-turned : goal.returns-in-Stops-clause-turned
returns-in-Stops-clause-turned g c =
    let stops : c.next.result ≡ turn.Goes → ⊥ = search rules in
    turned_off c.args.self.now.tally c.next.new.self (c.next.result ≡ turn.Goes) (c.next.result ≡ turn.Goes → ⊥) c.next.ensures.counts c.next.ensures.armed c.next.ensures.due c.next.ensures.call c.next.ensures.alone
    c.stop.result c.stop.new.self.tally stops (stopped-not-done _ c.stop.ensures.answer) (stopped-not-failed _ c.stop.ensures.answer) c.stop.ensures.tally

pub returns-in-Goes-clause-due : goal.returns-in-Goes-clause-due
returns-in-Goes-clause-due g c due =
    let goes : c.next.result ≡ turn.Goes = search rules in
    absurd (c.next.ensures.due due goes)

pub returns-in-Stops-clause-rests : goal.returns-in-Stops-clause-rests
returns-in-Stops-clause-rests g c told =
    subst (λ n. Rested (shown_of g.A.Disk.view g.B.Disk.view c.args.self.now.present) (shown_of g.A.Disk.view g.B.Disk.view n)) (sym c.stop.ensures.present) (rested-same _)
