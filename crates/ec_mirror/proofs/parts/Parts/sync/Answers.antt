use Rattle.std.proofs.Common.{rules, ◌≡◌, refl, sym, subst}
use Rattle.ec_mirror.specs.Shown.{shown_of, Syncs}
use Rattle.ec_mirror.specs.declared.tally.Turn.TheVariants as turn
use Rattle.ec_mirror.proofs.Showing.{stays-same, syncs-stays}
use Rattle.ec_mirror.proofs.Tallies.{turned_on, turned_off, stopped-not-done, stopped-not-failed}
use Rattle.ec_mirror.proofs.parts.Parts.sync.Goals as goal

pub returns-in-Goes-clause-turned : goal.returns-in-Goes-clause-turned
returns-in-Goes-clause-turned g c =
    let goes : c.next.result ≡ turn.Goes = search rules in
    turned_on c.args.self.now.tally c.next.new.self (c.next.result ≡ turn.Goes) (c.next.result ≡ turn.Goes → ⊥) c.next.ensures.counts c.next.ensures.armed c.next.ensures.due c.next.ensures.call c.next.ensures.alone
    c.sync_kept.result c.sync_kept.new.self.tally goes c.sync_kept.ensures.never_stops c.sync_kept.ensures.tally

pub returns-in-Stops-clause-turned : goal.returns-in-Stops-clause-turned
returns-in-Stops-clause-turned g c =
    let stops : c.next.result ≡ turn.Goes → ⊥ = search rules in
    turned_off c.args.self.now.tally c.next.new.self (c.next.result ≡ turn.Goes) (c.next.result ≡ turn.Goes → ⊥) c.next.ensures.counts c.next.ensures.armed c.next.ensures.due c.next.ensures.call c.next.ensures.alone
    c.stop.result c.stop.new.self.tally stops (stopped-not-done _ c.stop.ensures.answer) (stopped-not-failed _ c.stop.ensures.answer) c.stop.ensures.tally

pub returns-in-Goes-clause-due : goal.returns-in-Goes-clause-due
returns-in-Goes-clause-due g c due =
    let goes : c.next.result ≡ turn.Goes = search rules in
    absurd (c.next.ensures.due due goes)

pub returns-in-Stops-clause-syncs : goal.returns-in-Stops-clause-syncs
returns-in-Stops-clause-syncs g c told =
    subst (λ n. Syncs c.stop.result (shown_of g.A.Disk.view g.B.Disk.view c.args.self.now.present) (shown_of g.A.Disk.view g.B.Disk.view n)) (sym c.stop.ensures.present)
    (syncs-stays _ _ _ (stopped-not-done _ c.stop.ensures.answer) (stays-same _) refl)
