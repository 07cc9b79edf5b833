use Rattle.std.proofs.Common.{rules, ◌∙◌, ap, refl, sym, subst}
use Rattle.std.specs.Prelude.{◌≡◌, length}
use Rattle.ec_disk.specs.Effects.{InRange, written}
use Rattle.ec_half.specs.Contents.{Loosened, loosened-same}
use Rattle.ec_mirror.specs.Shown.{shown_of}
use Rattle.ec_mirror.proofs.Lives.{loosened-live, gives-by-both, given-both}
use Rattle.ec_mirror.proofs.Showing.{loosened-fewer, loosened-then}
use Rattle.ec_mirror.proofs.Wholes.{dirty-both, known-some, some-known, has-header, not_clean, both_not_first, both_not_second, second_not_first}
use Rattle.ec_disk.specs.declared.disk.DiskAnswer.TheVariants as said
use Rattle.ec_mirror.proofs.parts.Parts.write_both.Goals as goal

pub drop_first-requires-clause-clean : goal.drop_first-requires-clause-clean
drop_first-requires-clause-clean g c told clean =
    sym (c.requires.known.alike told c.requires.whole) ∙ sym (given-both g.A.Disk.view g.B.Disk.view c.args.self.now.present.pair c.requires.whole) ∙ c.requires.known.clean told clean

pub write_second-requires-clause-known : goal.write_second-requires-clause-known
write_second-requires-clause-known g c =
    (c.drop_first.new.self.whole (c.drop_first.ensures.is_sound c.in-Done-drop_first.is)).second_known (λ e. second_not_first (sym (c.drop_first.ensures.kept c.in-Done-drop_first.is) ∙ e))

pub returns-in_default-clause-loosened : goal.returns-in_default-clause-loosened
returns-in_default-clause-loosened g c told =
    subst (λ n. Loosened (InRange c.args.at (length c.args.piece.now)) (shown_of g.A.Disk.view g.B.Disk.view c.args.self.now.present) (shown_of g.A.Disk.view g.B.Disk.view n)) (sym c.settle.ensures.present) (loosened-live g.A.Disk.view g.B.Disk.view (InRange c.args.at (length c.args.piece.now)) _ _ _ _ (c.args.self.now.thawed c.requires.lives) refl (c.write.ensures.loosened told.0) (loosened-same _ _))

pub returns-in-Done-drop_first-clause-loosened : goal.returns-in-Done-drop_first-clause-loosened
returns-in-Done-drop_first-clause-loosened g c told =
    loosened-then (InRange c.args.at (length c.args.piece.now)) _ _ _ _ (loosened-live g.A.Disk.view g.B.Disk.view (InRange c.args.at (length c.args.piece.now)) _ _ _ _ (c.args.self.now.thawed c.requires.lives) refl (c.write.ensures.loosened told.0) (loosened-same _ _))
    (c.drop_first.ensures.fewer told) c.drop_first.ensures.synced (c.write_second.ensures.loosened told)

pub returns-in-Done-drop_first-clause-written : goal.returns-in-Done-drop_first-clause-written
returns-in-Done-drop_first-clause-written g c told done =
    c.write_second.ensures.written told done
    ∙ ap (λ y. written c.args.at c.args.piece.now y) (c.drop_first.ensures.second_gives c.in-Done-drop_first.is told ∙ sym (c.requires.known.alike told c.requires.whole) ∙ sym (gives-by-both g.A.Disk.view g.B.Disk.view _ c.args.self.now.present.pair _ (c.args.self.now.thawed c.requires.lives) c.requires.whole))

pub returns-in_default-drop_first-clause-loosened : goal.returns-in_default-drop_first-clause-loosened
returns-in_default-drop_first-clause-loosened g c told =
    loosened-fewer (InRange c.args.at (length c.args.piece.now)) _ _ _ (loosened-live g.A.Disk.view g.B.Disk.view (InRange c.args.at (length c.args.piece.now)) _ _ _ _ (c.args.self.now.thawed c.requires.lives) refl (c.write.ensures.loosened told.0) (loosened-same _ _))
    (c.drop_first.ensures.fewer told) c.drop_first.ensures.synced

pub drop_second-requires-clause-clean : goal.drop_second-requires-clause-clean
drop_second-requires-clause-clean g c told clean = absurd (not_clean clean)

pub returns-in-Failed-write-clause-loosened : goal.returns-in-Failed-write-clause-loosened
returns-in-Failed-write-clause-loosened g c told =
    loosened-fewer (InRange c.args.at (length c.args.piece.now)) _ _ _ (loosened-live g.A.Disk.view g.B.Disk.view (InRange c.args.at (length c.args.piece.now)) _ _ _ _ (c.args.self.now.thawed c.requires.lives) refl (c.write.ensures.loosened told.0) (c.write-2.ensures.loosened told.1))
    (c.drop_second.ensures.fewer told) c.drop_second.ensures.synced

pub returns-in-Failed-write-clause-written : goal.returns-in-Failed-write-clause-written
returns-in-Failed-write-clause-written g c told done =
    let first : c.write.result ≡ said.Done = search rules in
    let one = some-known _ (c.requires.known.first_known (λ e. both_not_second (sym c.requires.whole ∙ e))) in
    c.drop_second.ensures.gives told ∙ gives-by-both g.A.Disk.view g.B.Disk.view _ _ _ (c.args.self.now.thawed c.requires.lives) c.requires.whole
    ∙ c.write.ensures.written told.0 first (has-header _ _ (c.args.self.now.present.pair.first.whole one.0 one.1 told.0) (g.met.A.Disk.given told.0 c.args.self.now.present.pair.first.disk.now))
    ∙ ap (λ y. written c.args.at c.args.piece.now y) (sym (gives-by-both g.A.Disk.view g.B.Disk.view _ c.args.self.now.present.pair _ (c.args.self.now.thawed c.requires.lives) c.requires.whole))

pub wrote-requires-clause-whole : goal.wrote-requires-clause-whole
wrote-requires-clause-whole g c second =
    let first : c.write.result ≡ said.Done = search rules in
    let one = some-known _ (c.requires.known.first_known (λ e. both_not_second (sym c.requires.whole ∙ e))) in
    let two = some-known _ (c.requires.known.second_known (λ e. both_not_first (sym c.requires.whole ∙ e))) in
    dirty-both _ _ _ _ _ _ _ c.requires.whole (known-some _ _ (c.write.ensures.known first one.0 one.1)) (known-some _ _ (c.write-2.ensures.known second two.0 two.1))
    (λ told. c.write.ensures.written told.0 first (has-header _ _ (c.args.self.now.present.pair.first.whole one.0 one.1 told.0) (g.met.A.Disk.given told.0 c.args.self.now.present.pair.first.disk.now)) ∙ ap (λ y. written c.args.at c.args.piece.now y) (c.requires.known.alike told c.requires.whole)
    ∙ sym (c.write-2.ensures.written told.1 second (has-header _ _ (c.args.self.now.present.pair.second.whole two.0 two.1 told.1) (g.met.B.Disk.given told.1 c.args.self.now.present.pair.second.disk.now))))

pub returns-in_default-write-clause-loosened : goal.returns-in_default-write-clause-loosened
returns-in_default-write-clause-loosened g c told =
    subst (λ n. Loosened (InRange c.args.at (length c.args.piece.now)) (shown_of g.A.Disk.view g.B.Disk.view c.args.self.now.present) (shown_of g.A.Disk.view g.B.Disk.view n)) (sym c.wrote.ensures.present) (loosened-live g.A.Disk.view g.B.Disk.view (InRange c.args.at (length c.args.piece.now)) _ _ _ _ (c.args.self.now.thawed c.requires.lives) refl (c.write.ensures.loosened told.0) (c.write-2.ensures.loosened told.1))

pub returns-in_default-write-clause-written : goal.returns-in_default-write-clause-written
returns-in_default-write-clause-written g c told done =
    let first : c.write.result ≡ said.Done = search rules in
    let one = some-known _ (c.requires.known.first_known (λ e. both_not_second (sym c.requires.whole ∙ e))) in
    ap (λ m. (shown_of g.A.Disk.view g.B.Disk.view m).gives) c.wrote.ensures.present ∙ gives-by-both g.A.Disk.view g.B.Disk.view _ _ _ (c.args.self.now.thawed c.requires.lives) c.requires.whole
    ∙ c.write.ensures.written told.0 first (has-header _ _ (c.args.self.now.present.pair.first.whole one.0 one.1 told.0) (g.met.A.Disk.given told.0 c.args.self.now.present.pair.first.disk.now))
    ∙ ap (λ y. written c.args.at c.args.piece.now y) (sym (gives-by-both g.A.Disk.view g.B.Disk.view _ c.args.self.now.present.pair _ (c.args.self.now.thawed c.requires.lives) c.requires.whole))
