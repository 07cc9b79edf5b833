use Rattle.std.proofs.Common.{◌≡◌, ◌∙◌, ap, sym, subst}
use Rattle.ec_disk.specs.Choices.{cut}
use Rattle.ec_disk.specs.Effects.{Counted}
use Rattle.ec_disk.specs.declared.disk.DiskAnswer.TheVariants as said
use Rattle.ec_half.specs.Contents.{Fewer}
use Rattle.ec_mirror.specs.Shown.{shown_of, lent_of}
use Rattle.ec_mirror.specs.Tally.{counts_of, behind_cut}
use Rattle.ec_mirror.specs.declared.tally.Tally.{Tally}
use Rattle.ec_mirror.proofs.Passing.{cut-fewer}
use Rattle.ec_mirror.proofs.Tallies.{cut_counts, cut_calls, cut_stays}
use Rattle.ec_mirror.proofs.mirror.MirrorCrashDisk.power_cut.Goals as goal

pub returns-clause-counts : goal.returns-clause-counts
returns-clause-counts g c =
    let old = c.args.self.now.parts.tally in
    subst (λ (t : Tally). Counted (counts_of old) (counts_of t) (c.power_cut.result ≡ said.Failed) (c.power_cut.result ≡ said.Stopped)) (sym (c.power_cut.ensures.tally ∙ ap (λ p. behind_cut c.power_cut.result c.power_cut.new.self.tally.failed_alone p.tally) c.note.ensures.parts))
    (cut_counts c.power_cut.result c.power_cut.new.self.tally.failed_alone old c.power_cut.ensures.never_stops)

pub returns-clause-call : goal.returns-clause-call
returns-clause-call g c = ap (λ (t : Tally). t.calls) (c.power_cut.ensures.tally ∙ ap (λ p. behind_cut c.power_cut.result c.power_cut.new.self.tally.failed_alone p.tally) c.note.ensures.parts) ∙ cut_calls c.power_cut.result c.power_cut.new.self.tally.failed_alone c.args.self.now.parts.tally

pub returns-clause-cut : goal.returns-clause-cut
returns-clause-cut g c told =
    cut-fewer (shown_of g.A.Disk.view g.B.Disk.view) c.args.self.now.past.items c.note.new.self.past.items c.args.self.now.parts.present (shown_of g.A.Disk.view g.B.Disk.view c.power_cut.new.self.present) c.note.ensures.past
    (subst (λ p. Fewer (shown_of g.A.Disk.view g.B.Disk.view p.present) (shown_of g.A.Disk.view g.B.Disk.view c.power_cut.new.self.present)) c.note.ensures.parts (c.power_cut.ensures.fewer told))

pub returns-clause-leaves : goal.returns-clause-leaves
returns-clause-leaves g c told done = c.power_cut.ensures.leaves told done ∙ ap (λ p. cut c.args.choice (shown_of g.A.Disk.view g.B.Disk.view p.present).gives (shown_of g.A.Disk.view g.B.Disk.view p.present).synced) c.note.ensures.parts

pub returns-clause-synced : goal.returns-clause-synced
returns-clause-synced g c told done = (c.power_cut.ensures.all_synced told done).only

pub returns-clause-tries : goal.returns-clause-tries
returns-clause-tries g c = (
  c.power_cut.ensures.goes.0 ∙ ap (λ p. lent_of p.present.pair) c.note.ensures.parts,
  λ answers. ap (λ (t : Tally). t.failed_alone) c.power_cut.ensures.tally ∙ cut_stays c.power_cut.result c.power_cut.new.self.tally.failed_alone c.note.new.self.parts.tally answers ∙ ap (λ p. p.tally.failed_alone) c.note.ensures.parts,
  c.power_cut.ensures.goes.1,
)
