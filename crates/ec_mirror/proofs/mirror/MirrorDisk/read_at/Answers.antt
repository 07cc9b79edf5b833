use Rattle.std.proofs.Common.{◌∙◌, ap, sym, subst}
use Rattle.std.specs.Prelude.{length}
use Rattle.ec_disk.specs.Disk.{part}
use Rattle.ec_half.specs.Contents.{Rested}
use Rattle.ec_disk.specs.Effects.{IsDue}
use Rattle.ec_mirror.specs.Tally.{TallyTurned}
use Rattle.ec_mirror.proofs.Passing.{rests-rested}
use Rattle.ec_mirror.specs.Shown.{shown_of, lent_of}
use Rattle.ec_mirror.proofs.mirror.MirrorDisk.read_at.Goals as goal

pub returns-clause-counts : goal.returns-clause-counts
returns-clause-counts g c = (subst (λ p. TallyTurned c.read_at.result p.tally c.read_at.new.self.tally) c.note.ensures.parts c.read_at.ensures.turned).counts

pub returns-clause-armed : goal.returns-clause-armed
returns-clause-armed g c = (subst (λ p. TallyTurned c.read_at.result p.tally c.read_at.new.self.tally) c.note.ensures.parts c.read_at.ensures.turned).armed

pub returns-clause-due : goal.returns-clause-due
returns-clause-due g c due = c.read_at.ensures.due (subst (λ p. IsDue p.tally.armed) (sym c.note.ensures.parts) due)

pub returns-clause-call : goal.returns-clause-call
returns-clause-call g c = (subst (λ p. TallyTurned c.read_at.result p.tally c.read_at.new.self.tally) c.note.ensures.parts c.read_at.ensures.turned).call

pub returns-clause-bytes : goal.returns-clause-bytes
returns-clause-bytes g c told done = c.read_at.ensures.bytes told done ∙ ap (λ p. part (shown_of g.A.Disk.view g.B.Disk.view p.present).gives c.args.at (length c.args.into.now)) c.note.ensures.parts

pub returns-clause-rests : goal.returns-clause-rests
returns-clause-rests g c told = rests-rested (shown_of g.A.Disk.view g.B.Disk.view) c.args.self.now.past.items c.note.new.self.past.items c.args.self.now.parts.present (shown_of g.A.Disk.view g.B.Disk.view c.read_at.new.self.present) c.note.ensures.past (subst (λ p. Rested (shown_of g.A.Disk.view g.B.Disk.view p.present) (shown_of g.A.Disk.view g.B.Disk.view c.read_at.new.self.present)) c.note.ensures.parts (c.read_at.ensures.rests told))

pub returns-clause-kept : goal.returns-clause-kept
returns-clause-kept g c told = (subst (λ p. Rested (shown_of g.A.Disk.view g.B.Disk.view p.present) (shown_of g.A.Disk.view g.B.Disk.view c.read_at.new.self.present)) c.note.ensures.parts (c.read_at.ensures.rests told)).synced

pub returns-clause-does : goal.returns-clause-does
returns-clause-does g c = (c.read_at.ensures.goes.0 ∙ ap (λ p. lent_of p.present.pair) c.note.ensures.parts, (subst (λ p. TallyTurned c.read_at.result p.tally c.read_at.new.self.tally) c.note.ensures.parts c.read_at.ensures.turned).alone, c.read_at.ensures.goes.1)
