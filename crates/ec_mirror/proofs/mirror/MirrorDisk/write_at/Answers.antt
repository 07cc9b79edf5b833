use Rattle.std.proofs.Common.{◌∙◌, ap, subst}
use Rattle.std.specs.Prelude.{length}
use Rattle.ec_disk.specs.Effects.{InRange, written}
use Rattle.ec_half.specs.Contents.{Loosened}
use Rattle.ec_mirror.specs.Tally.{TallyTurned}
use Rattle.ec_mirror.proofs.Passing.{wrote-loosened}
use Rattle.ec_mirror.specs.Shown.{shown_of, lent_of}
use Rattle.ec_mirror.proofs.mirror.MirrorDisk.write_at.Goals as goal

pub returns-clause-counts : goal.returns-clause-counts
returns-clause-counts g c = (subst (λ p. TallyTurned c.write_at.result p.tally c.write_at.new.self.tally) c.note.ensures.parts c.write_at.ensures.turned).counts

pub returns-clause-armed : goal.returns-clause-armed
returns-clause-armed g c = (subst (λ p. TallyTurned c.write_at.result p.tally c.write_at.new.self.tally) c.note.ensures.parts c.write_at.ensures.turned).armed

pub returns-clause-call : goal.returns-clause-call
returns-clause-call g c = (subst (λ p. TallyTurned c.write_at.result p.tally c.write_at.new.self.tally) c.note.ensures.parts c.write_at.ensures.turned).call

pub returns-clause-written : goal.returns-clause-written
returns-clause-written g c told done = c.write_at.ensures.written told done ∙ ap (λ p. written c.args.at c.args.piece.now (shown_of g.A.Disk.view g.B.Disk.view p.present).gives) c.note.ensures.parts

pub returns-clause-stopped : goal.returns-clause-stopped
returns-clause-stopped g c told stopped = c.write_at.ensures.stopped told stopped ∙ ap (λ p. written c.args.at c.args.piece.now (shown_of g.A.Disk.view g.B.Disk.view p.present).gives) c.note.ensures.parts

pub returns-clause-wrote : goal.returns-clause-wrote
returns-clause-wrote g c told = wrote-loosened (shown_of g.A.Disk.view g.B.Disk.view) (InRange c.args.at (length c.args.piece.now)) c.args.self.now.past.items c.note.new.self.past.items c.args.self.now.parts.present (shown_of g.A.Disk.view g.B.Disk.view c.write_at.new.self.present) c.note.ensures.past (subst (λ p. Loosened (InRange c.args.at (length c.args.piece.now)) (shown_of g.A.Disk.view g.B.Disk.view p.present) (shown_of g.A.Disk.view g.B.Disk.view c.write_at.new.self.present)) c.note.ensures.parts (c.write_at.ensures.loosened told))

pub returns-clause-kept : goal.returns-clause-kept
returns-clause-kept g c told = (subst (λ p. Loosened (InRange c.args.at (length c.args.piece.now)) (shown_of g.A.Disk.view g.B.Disk.view p.present) (shown_of g.A.Disk.view g.B.Disk.view c.write_at.new.self.present)) c.note.ensures.parts (c.write_at.ensures.loosened told)).synced

pub returns-clause-does : goal.returns-clause-does
returns-clause-does g c = (c.write_at.ensures.goes.0 ∙ ap (λ p. lent_of p.present.pair) c.note.ensures.parts, (subst (λ p. TallyTurned c.write_at.result p.tally c.write_at.new.self.tally) c.note.ensures.parts c.write_at.ensures.turned).alone, c.write_at.ensures.goes.1)
