use Rattle.std.proofs.Common.{◌∙◌, ap, refl, sym, subst}
use Rattle.std.specs.Prelude.{length}
use Rattle.ec_half.specs.Contents.{Rested, rested-same}
use Rattle.ec_mirror.specs.Shown.{shown_of}
use Rattle.ec_mirror.proofs.Lives.{rested-live, gives-by-second}
use Rattle.ec_mirror.proofs.parts.Parts.ask_second.Goals as goal

pub returns-then-eq-clause-rests : goal.returns-then-eq-clause-rests
returns-then-eq-clause-rests g c told =
    subst (λ n. Rested (shown_of g.A.Disk.view g.B.Disk.view c.args.self.now.present) (shown_of g.A.Disk.view g.B.Disk.view n)) (sym c.fault.ensures.present) (rested-live g.A.Disk.view g.B.Disk.view _ _ _ _ (c.args.self.now.thawed c.requires.lives) refl (rested-same _) (c.len-len.ensures.rests told.1))

pub returns-clause-rests : goal.returns-clause-rests
returns-clause-rests g c told =
    rested-live g.A.Disk.view g.B.Disk.view _ _ _ _ (c.args.self.now.thawed c.requires.lives) refl (rested-same _) (c.len-len.ensures.rests told.1)

pub returns-clause-len : goal.returns-clause-len
returns-clause-len g c told n is =
    c.len-len.ensures.len told.1 n is ∙ ap (λ y. length y) (sym (gives-by-second g.A.Disk.view g.B.Disk.view _ c.args.self.now.present.pair _ (c.args.self.now.thawed c.requires.lives) c.requires.kept))
