use Rattle.std.proofs.Common.{◌∙◌, ap, refl, sym, subst}
use Rattle.std.specs.Prelude.{length}
use Rattle.ec_disk.specs.Disk.{part}
use Rattle.ec_half.specs.Contents.{Rested, rested-same}
use Rattle.ec_mirror.specs.Shown.{shown_of}
use Rattle.ec_mirror.proofs.Lives.{rested-live, gives-by-first}
use Rattle.ec_mirror.proofs.parts.Parts.read_first.Goals as goal

pub returns-clause-rests : goal.returns-clause-rests
returns-clause-rests g c told =
    subst (λ n. Rested (shown_of g.A.Disk.view g.B.Disk.view c.args.self.now.present) (shown_of g.A.Disk.view g.B.Disk.view n)) (sym c.settle.ensures.present) (rested-live g.A.Disk.view g.B.Disk.view _ _ _ _ (c.args.self.now.thawed (c.args.self.now.lives c.requires.sound)) refl (c.read-answer.ensures.rests told.0) (rested-same _))

pub returns-clause-bytes : goal.returns-clause-bytes
returns-clause-bytes g c told done =
    c.read-answer.ensures.bytes told.0 (sym c.settle.ensures.answer ∙ done) ∙ ap (λ y. part y c.args.at (length c.args.into.now)) (sym (gives-by-first g.A.Disk.view g.B.Disk.view _ c.args.self.now.present.pair _ (c.args.self.now.thawed (c.args.self.now.lives c.requires.sound)) c.requires.kept))
