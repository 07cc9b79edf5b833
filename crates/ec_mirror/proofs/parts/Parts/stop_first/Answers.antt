use Rattle.std.proofs.Common.{rules, ◌∙◌, ap, refl, sym}
use Rattle.std.specs.Prelude.{◌≡◌, length, None}
use Rattle.ec_disk.specs.Effects.{InRange, written}
use Rattle.ec_half.specs.Contents.{loosened-same}
use Rattle.ec_mirror.specs.Shown.{shown_of}
use Rattle.ec_mirror.proofs.Lives.{loosened-live, gives-first}
use Rattle.ec_mirror.proofs.Wholes.{some-known, has-header}
use Rattle.ec_mirror.proofs.parts.Parts.stop_first.Goals as goal

pub invariant_of-self-clause-first_saved : goal.invariant_of-self-clause-first_saved
invariant_of-self-clause-first_saved g c live behind told out =
    (c.write.ensures.loosened told.0).synced ∙ c.args.self.now.first_saved live behind told out

pub returns-then-is_none-clause-loosened : goal.returns-then-is_none-clause-loosened
returns-then-is_none-clause-loosened g c told =
    loosened-same (InRange c.args.at (length c.args.piece.now)) (shown_of g.A.Disk.view g.B.Disk.view c.args.self.now.present)

pub returns-clause-stopped : goal.returns-clause-stopped
returns-clause-stopped g c told is =
    let some : c.args.self.now.present.pair.first.len ≡ None → ⊥ = search rules in
    let known = some-known _ some in
    gives-first g.A.Disk.view g.B.Disk.view _ _ _ (c.args.self.now.thawed c.requires.lives) (c.args.self.now.stands c.requires.lives) c.requires.kept
    ∙ c.write.ensures.written told.0 (c.stopped.ensures.stopped is) (has-header _ _ (c.args.self.now.present.pair.first.whole known.0 known.1 told.0) (g.met.A.Disk.given told.0 c.args.self.now.present.pair.first.disk.now))
    ∙ ap (λ y. written c.args.at c.args.piece.now y) (sym (gives-first g.A.Disk.view g.B.Disk.view _ c.args.self.now.present.pair _ (c.args.self.now.thawed c.requires.lives) (c.args.self.now.stands c.requires.lives) c.requires.kept))

pub returns-clause-loosened : goal.returns-clause-loosened
returns-clause-loosened g c told =
    loosened-live g.A.Disk.view g.B.Disk.view (InRange c.args.at (length c.args.piece.now)) _ _ _ _ (c.args.self.now.thawed c.requires.lives) refl (c.write.ensures.loosened told.0) (loosened-same _ _)
