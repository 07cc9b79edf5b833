use Rattle.std.proofs.Common.{◌∙◌, ap, refl, sym, subst}
use Rattle.std.specs.Prelude.{length}
use Rattle.ec_disk.specs.Effects.{InRange, written}
use Rattle.ec_half.specs.Contents.{Loosened, loosened-same}
use Rattle.ec_mirror.specs.Shown.{shown_of}
use Rattle.ec_mirror.proofs.Lives.{loosened-live, gives-by-second}
use Rattle.ec_mirror.proofs.Wholes.{dirty-second, known-some, some-known, has-header}
use Rattle.ec_mirror.proofs.parts.Parts.write_second.Goals as goal

pub wrote-requires-clause-whole : goal.wrote-requires-clause-whole
wrote-requires-clause-whole g c done =
    let known = some-known _ c.requires.known in
    dirty-second _ _ _ _ _ _ _ c.requires.kept (known-some _ _ (c.write-answer.ensures.known done known.0 known.1))

pub returns-clause-written : goal.returns-clause-written
returns-clause-written g c told done =
    let known = some-known _ c.requires.known in
    ap (λ m. (shown_of g.A.Disk.view g.B.Disk.view m).gives) c.wrote.ensures.present
    ∙ gives-by-second g.A.Disk.view g.B.Disk.view _ _ _ (c.args.self.now.thawed c.requires.lives) c.requires.kept
    ∙ c.write-answer.ensures.written told.1 (sym c.wrote.ensures.answer ∙ done) (has-header _ _ (c.args.self.now.present.pair.second.whole known.0 known.1 told.1) (g.met.B.Disk.given told.1 c.args.self.now.present.pair.second.disk.now))
    ∙ ap (λ y. written c.args.at c.args.piece.now y) (sym (gives-by-second g.A.Disk.view g.B.Disk.view _ c.args.self.now.present.pair _ (c.args.self.now.thawed c.requires.lives) c.requires.kept))

pub returns-clause-loosened : goal.returns-clause-loosened
returns-clause-loosened g c told =
    subst (λ n. Loosened (InRange c.args.at (length c.args.piece.now)) (shown_of g.A.Disk.view g.B.Disk.view c.args.self.now.present) (shown_of g.A.Disk.view g.B.Disk.view n)) (sym c.wrote.ensures.present)
    (loosened-live g.A.Disk.view g.B.Disk.view (InRange c.args.at (length c.args.piece.now)) _ _ _ _ (c.args.self.now.thawed c.requires.lives) refl (loosened-same _ _) (c.write-answer.ensures.loosened told.1))
