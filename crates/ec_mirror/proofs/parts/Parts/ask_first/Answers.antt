use Rattle.std.proofs.Common.{◌∙◌, ap, refl, sym, subst}
use Rattle.std.specs.Prelude.{length}
use Rattle.ec_half.specs.Contents.{Rested, rested-same}
use Rattle.ec_mirror.specs.Shown.{shown_of}
use Rattle.ec_mirror.proofs.Lives.{rested-live, gives-first}
use Rattle.ec_mirror.proofs.Wholes.{whole-same}
use Rattle.ec_mirror.proofs.parts.Parts.ask_first.Goals as goal

pub invariant_of-self-clause-whole : goal.invariant_of-self-clause-whole
invariant_of-self-clause-whole g c sound =
    whole-same _ _ _ _ _ _ _ _ _ _ _ _ (c.args.self.now.whole sound) (λ told. (c.len-len.ensures.rests told.0).gives) (λ told. refl) c.len-len.ensures.known refl

pub invariant_of-self-clause-first_saved : goal.invariant_of-self-clause-first_saved
invariant_of-self-clause-first_saved g c live behind told out =
    (c.len-len.ensures.rests told.0).synced ∙ c.args.self.now.first_saved live behind told out

pub returns-then-eq-clause-rests : goal.returns-then-eq-clause-rests
returns-then-eq-clause-rests g c told =
    subst (λ n. Rested (shown_of g.A.Disk.view g.B.Disk.view c.args.self.now.present) (shown_of g.A.Disk.view g.B.Disk.view n)) (sym c.fault.ensures.present) (rested-live g.A.Disk.view g.B.Disk.view _ _ _ _ (c.args.self.now.thawed c.requires.lives) refl (c.len-len.ensures.rests told.0) (rested-same _))

pub returns-clause-rests : goal.returns-clause-rests
returns-clause-rests g c told =
    rested-live g.A.Disk.view g.B.Disk.view _ _ _ _ (c.args.self.now.thawed c.requires.lives) refl (c.len-len.ensures.rests told.0) (rested-same _)

pub returns-clause-len : goal.returns-clause-len
returns-clause-len g c told n is =
    c.len-len.ensures.len told.0 n is ∙ ap (λ y. length y) (sym (gives-first g.A.Disk.view g.B.Disk.view _ c.args.self.now.present.pair _ (c.args.self.now.thawed c.requires.lives) (c.args.self.now.stands c.requires.lives) c.requires.kept))
