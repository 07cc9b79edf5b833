use Rattle.std.proofs.Common.{◌∙◌, ap, subst}
use Rattle.std.specs.Prelude.{length}
use Rattle.ec_half.specs.Contents.{Rested}
use Rattle.ec_mirror.proofs.Passing.{rests-rested}
use Rattle.ec_mirror.specs.Shown.{shown_of, lent_of}
use Rattle.ec_mirror.proofs.mirror.MirrorDisk.len.Goals as goal

pub returns-clause-len : goal.returns-clause-len
returns-clause-len g c told n is = c.len.ensures.len told n is ∙ ap (λ p. length (shown_of g.A.Disk.view g.B.Disk.view p.present).gives) c.note.ensures.parts

pub returns-clause-rests : goal.returns-clause-rests
returns-clause-rests g c told = rests-rested (shown_of g.A.Disk.view g.B.Disk.view) c.args.self.now.past.items c.note.new.self.past.items c.args.self.now.parts.present (shown_of g.A.Disk.view g.B.Disk.view c.len.new.self.present) c.note.ensures.past (subst (λ p. Rested (shown_of g.A.Disk.view g.B.Disk.view p.present) (shown_of g.A.Disk.view g.B.Disk.view c.len.new.self.present)) c.note.ensures.parts (c.len.ensures.rests told))

pub returns-clause-kept : goal.returns-clause-kept
returns-clause-kept g c told = (subst (λ p. Rested (shown_of g.A.Disk.view g.B.Disk.view p.present) (shown_of g.A.Disk.view g.B.Disk.view c.len.new.self.present)) c.note.ensures.parts (c.len.ensures.rests told)).synced

pub returns-clause-does : goal.returns-clause-does
returns-clause-does g c = (c.len.ensures.goes.0 ∙ ap (λ p. lent_of p.present.pair) c.note.ensures.parts, λ answers. c.len.ensures.alone answers ∙ ap (λ p. p.tally.failed_alone) c.note.ensures.parts, c.len.ensures.goes.1 ∙ ap (λ p. p.is_sound) c.note.ensures.parts)
