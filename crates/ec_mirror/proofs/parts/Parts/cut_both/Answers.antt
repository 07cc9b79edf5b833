use Rattle.std.proofs.Common.{◌∙◌, refl, sym, subst}
use Rattle.std.specs.Prelude.{◌≡◌}
use Rattle.ec_disk.specs.Choices.{cut}
use Rattle.ec_half.specs.Contents.{content_behind}
use Rattle.ec_mirror.specs.Joins.{lead}
use Rattle.ec_mirror.specs.Shown.{first_of, second_of}
use Rattle.ec_mirror.proofs.Lives.{fewer-live, gives-live}
use Rattle.ec_mirror.proofs.Showing.{fewer-same}
use Rattle.ec_mirror.proofs.parts.Parts.cut_both.Goals as goal

pub returns-in-Done-clause-fewer : goal.returns-in-Done-clause-fewer
returns-in-Done-clause-fewer g c told =
    fewer-live g.A.Disk.view g.B.Disk.view _ _ _ _ (c.args.self.now.thawed c.requires.lives) refl (c.power_cut.ensures.fewer told.0) (c.power_cut-in-Done.ensures.fewer told.1)

pub returns-in-Done-clause-leaves : goal.returns-in-Done-clause-leaves
returns-in-Done-clause-leaves g c told done =
    gives-live g.A.Disk.view g.B.Disk.view _ _ _ (c.args.self.now.thawed c.requires.lives)
    ∙ subst (λ k. (lead k (content_behind (g.A.Disk.view c.power_cut.new.self.disk.now)) (content_behind (g.B.Disk.view c.power_cut-in-Done.new.self.disk.now))).gives ≡ cut c.args.choice (lead k (first_of g.A.Disk.view g.B.Disk.view c.args.self.now.present.pair) (second_of g.A.Disk.view g.B.Disk.view c.args.self.now.present.pair)).gives (lead k (first_of g.A.Disk.view g.B.Disk.view c.args.self.now.present.pair) (second_of g.A.Disk.view g.B.Disk.view c.args.self.now.present.pair)).synced) (sym c.requires.kept) (c.power_cut.ensures.leaves told.0 c.in-Done.is)

pub returns-in_default-clause-fewer : goal.returns-in_default-clause-fewer
returns-in_default-clause-fewer g c told =
    fewer-live g.A.Disk.view g.B.Disk.view _ _ _ _ (c.args.self.now.thawed c.requires.lives) refl (c.power_cut.ensures.fewer told.0) (fewer-same _)
