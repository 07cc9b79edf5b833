use Rattle.std.proofs.Common.{◌∙◌, ap, sym, subst}
use Rattle.ec_disk.specs.Effects.{IsDue}
use Rattle.ec_mirror.specs.Tally.{TallyTurned}
use Rattle.ec_mirror.proofs.Passing.{rests-stays, saves-syncs}
use Rattle.ec_mirror.specs.Shown.{shown_of, Syncs, lent_of}
use Rattle.ec_mirror.proofs.mirror.MirrorDisk.sync.Goals as goal

pub returns-clause-counts : goal.returns-clause-counts
returns-clause-counts g c = (subst (λ p. TallyTurned c.sync.result p.tally c.sync.new.self.tally) c.note.ensures.parts c.sync.ensures.turned).counts

pub returns-clause-armed : goal.returns-clause-armed
returns-clause-armed g c = (subst (λ p. TallyTurned c.sync.result p.tally c.sync.new.self.tally) c.note.ensures.parts c.sync.ensures.turned).armed

pub returns-clause-due : goal.returns-clause-due
returns-clause-due g c due = c.sync.ensures.due (subst (λ p. IsDue p.tally.armed) (sym c.note.ensures.parts) due)

pub returns-clause-call : goal.returns-clause-call
returns-clause-call g c = (subst (λ p. TallyTurned c.sync.result p.tally c.sync.new.self.tally) c.note.ensures.parts c.sync.ensures.turned).call

pub returns-clause-synced : goal.returns-clause-synced
returns-clause-synced g c told done = ((subst (λ p. Syncs c.sync.result (shown_of g.A.Disk.view g.B.Disk.view p.present) (shown_of g.A.Disk.view g.B.Disk.view c.sync.new.self.present)) c.note.ensures.parts (c.sync.ensures.syncs told)).all_synced done).only

pub returns-clause-rests : goal.returns-clause-rests
returns-clause-rests g c told = rests-stays (shown_of g.A.Disk.view g.B.Disk.view) c.args.self.now.past.items c.note.new.self.past.items c.args.self.now.parts.present (shown_of g.A.Disk.view g.B.Disk.view c.sync.new.self.present) c.note.ensures.past (subst (λ p. Syncs c.sync.result (shown_of g.A.Disk.view g.B.Disk.view p.present) (shown_of g.A.Disk.view g.B.Disk.view c.sync.new.self.present)) c.note.ensures.parts (c.sync.ensures.syncs told)).stays

pub returns-clause-saved : goal.returns-clause-saved
returns-clause-saved g c told = saves-syncs (shown_of g.A.Disk.view g.B.Disk.view) c.sync.result c.args.self.now.past.items c.note.new.self.past.items (shown_of g.A.Disk.view g.B.Disk.view c.args.self.now.parts.present) (shown_of g.A.Disk.view g.B.Disk.view c.sync.new.self.present) (subst (λ p. Syncs c.sync.result (shown_of g.A.Disk.view g.B.Disk.view p.present) (shown_of g.A.Disk.view g.B.Disk.view c.sync.new.self.present)) c.note.ensures.parts (c.sync.ensures.syncs told))

pub returns-clause-does : goal.returns-clause-does
returns-clause-does g c = (c.sync.ensures.goes.0 ∙ ap (λ p. lent_of p.present.pair) c.note.ensures.parts, (subst (λ p. TallyTurned c.sync.result p.tally c.sync.new.self.tally) c.note.ensures.parts c.sync.ensures.turned).alone, c.sync.ensures.goes.1)
