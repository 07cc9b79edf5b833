use Rattle.std.proofs.Common.{rules, ◌∙◌, ap, refl, sym}
use Rattle.std.specs.Prelude.{◌≡◌, length, None}
use Rattle.ec_disk.specs.Effects.{InRange, written}
use Rattle.ec_half.specs.Contents.{loosened-same}
use Rattle.ec_mirror.specs.Shown.{shown_of}
use Rattle.ec_mirror.proofs.Lives.{loosened-live, gives-by-second}
use Rattle.ec_mirror.proofs.Wholes.{some-known, has-header}
use Rattle.ec_mirror.proofs.parts.Parts.stop_second.Goals as goal

pub returns-then-is_none-clause-loosened : goal.returns-then-is_none-clause-loosened
returns-then-is_none-clause-loosened g c told =
    loosened-same (InRange c.args.at (length c.args.piece.now)) (shown_of g.A.Disk.view g.B.Disk.view c.args.self.now.present)

pub returns-clause-stopped : goal.returns-clause-stopped
returns-clause-stopped g c told is =
    let some : c.args.self.now.present.pair.second.len ≡ None → ⊥ = search rules in
    let known = some-known _ some in
    gives-by-second g.A.Disk.view g.B.Disk.view _ _ _ (c.args.self.now.thawed c.requires.lives) c.requires.kept
    ∙ c.write.ensures.written told.1 (c.stopped.ensures.stopped is) (has-header _ _ (c.args.self.now.present.pair.second.whole known.0 known.1 told.1) (g.met.B.Disk.given told.1 c.args.self.now.present.pair.second.disk.now))
    ∙ ap (λ y. written c.args.at c.args.piece.now y) (sym (gives-by-second g.A.Disk.view g.B.Disk.view _ c.args.self.now.present.pair _ (c.args.self.now.thawed c.requires.lives) c.requires.kept))

pub returns-clause-loosened : goal.returns-clause-loosened
returns-clause-loosened g c told =
    loosened-live g.A.Disk.view g.B.Disk.view (InRange c.args.at (length c.args.piece.now)) _ _ _ _ (c.args.self.now.thawed c.requires.lives) refl (loosened-same _ _) (c.write.ensures.loosened told.1)
