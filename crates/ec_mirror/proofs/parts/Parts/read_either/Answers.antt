use Rattle.std.proofs.Common.{rules, ◌∙◌, ap, refl, sym, subst}
use Rattle.std.specs.Prelude.{◌≡◌, length}
use Rattle.ec_disk.specs.Disk.{part}
use Rattle.ec_half.specs.Contents.{Rested, rested-same, rested-then}
use Rattle.ec_mirror.specs.Shown.{shown_of}
use Rattle.ec_mirror.proofs.Lives.{rested-live, gives-by-both, given-both}
use Rattle.ec_mirror.proofs.Showing.{rested-dropped}
use Rattle.ec_mirror.proofs.parts.Parts.read_either.Goals as goal

pub drop_first-requires-clause-clean : goal.drop_first-requires-clause-clean
drop_first-requires-clause-clean g c told clean =
    sym ((c.args.self.now.whole c.requires.sound).alike told c.requires.whole) ∙ sym (given-both g.A.Disk.view g.B.Disk.view c.args.self.now.present.pair c.requires.whole) ∙ (c.args.self.now.whole c.requires.sound).clean told clean

pub returns-in_default-clause-rests : goal.returns-in_default-clause-rests
returns-in_default-clause-rests g c told =
    subst (λ n. Rested (shown_of g.A.Disk.view g.B.Disk.view c.args.self.now.present) (shown_of g.A.Disk.view g.B.Disk.view n)) (sym c.settle.ensures.present) (rested-live g.A.Disk.view g.B.Disk.view _ _ _ _ (c.args.self.now.thawed (c.args.self.now.lives c.requires.sound)) refl (c.read.ensures.rests told.0) (rested-same _))

pub returns-in_default-clause-bytes : goal.returns-in_default-clause-bytes
returns-in_default-clause-bytes g c told done =
    c.read.ensures.bytes told.0 (sym c.settle.ensures.answer ∙ done) ∙ ap (λ y. part y c.args.at (length c.args.into.now)) (sym (gives-by-both g.A.Disk.view g.B.Disk.view _ c.args.self.now.present.pair _ (c.args.self.now.thawed (c.args.self.now.lives c.requires.sound)) c.requires.whole))

pub returns-in-Done-clause-rests : goal.returns-in-Done-clause-rests
returns-in-Done-clause-rests g c told =
    rested-then _ _ _ (rested-live g.A.Disk.view g.B.Disk.view _ _ _ _ (c.args.self.now.thawed (c.args.self.now.lives c.requires.sound)) refl (c.read.ensures.rests told.0) (rested-same _))
    (rested-then _ _ _ (rested-dropped _ _ (c.drop_first.ensures.fewer told) c.drop_first.ensures.synced (c.drop_first.ensures.gives told ((c.read.ensures.rests told.0).gives ∙ ((c.args.self.now.whole c.requires.sound).alike told c.requires.whole)))) (c.read_second.ensures.rests told))

pub returns-in-Done-clause-bytes : goal.returns-in-Done-clause-bytes
returns-in-Done-clause-bytes g c told done =
    let size : length c.read.new.into ≡ length c.args.into.now = search rules in
    c.read_second.ensures.bytes told done ∙ ap (λ n. part (shown_of g.A.Disk.view g.B.Disk.view c.drop_first.new.self.present).gives c.args.at n) size
    ∙ ap (λ y. part y c.args.at (length c.args.into.now))
    (c.drop_first.ensures.gives told ((c.read.ensures.rests told.0).gives ∙ ((c.args.self.now.whole c.requires.sound).alike told c.requires.whole)) ∙ gives-by-both g.A.Disk.view g.B.Disk.view _ _ _ (c.args.self.now.thawed (c.args.self.now.lives c.requires.sound)) c.requires.whole ∙ (c.read.ensures.rests told.0).gives ∙ sym (gives-by-both g.A.Disk.view g.B.Disk.view _ c.args.self.now.present.pair _ (c.args.self.now.thawed (c.args.self.now.lives c.requires.sound)) c.requires.whole))

pub returns-in_default-drop_first-clause-rests : goal.returns-in_default-drop_first-clause-rests
returns-in_default-drop_first-clause-rests g c told =
    rested-then _ _ _ (rested-live g.A.Disk.view g.B.Disk.view _ _ _ _ (c.args.self.now.thawed (c.args.self.now.lives c.requires.sound)) refl (c.read.ensures.rests told.0) (rested-same _)) (rested-dropped _ _ (c.drop_first.ensures.fewer told) c.drop_first.ensures.synced (c.drop_first.ensures.gives told ((c.read.ensures.rests told.0).gives ∙ ((c.args.self.now.whole c.requires.sound).alike told c.requires.whole))))
