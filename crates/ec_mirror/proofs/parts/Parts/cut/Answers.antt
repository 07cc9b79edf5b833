use Rattle.std.proofs.Common.{◌∙◌, refl, sym, subst}
use Rattle.std.specs.Prelude.{◌≡◌}
use Rattle.ec_disk.specs.Choices.{cut}
use Rattle.ec_half.specs.Contents.{content_behind}
use Rattle.ec_mirror.specs.Joins.{lead}
use Rattle.ec_mirror.specs.Shown.{first_of, second_of}
use Rattle.ec_mirror.proofs.Lives.{fewer-live, gives-live}
use Rattle.ec_mirror.proofs.Showing.{fewer-same}
use Rattle.ec_mirror.proofs.parts.Parts.cut.Goals as goal

pub returns-in-First-clause-fewer : goal.returns-in-First-clause-fewer
returns-in-First-clause-fewer g c told =
    fewer-live g.A.Disk.view g.B.Disk.view _ _ _ _ (c.args.self.now.thawed c.requires.lives) refl (c.power_cut.ensures.fewer told.0) (fewer-same _)

pub returns-in-First-clause-leaves : goal.returns-in-First-clause-leaves
returns-in-First-clause-leaves g c told done =
    gives-live g.A.Disk.view g.B.Disk.view _ _ _ (c.args.self.now.thawed c.requires.lives)
    ∙ subst (λ k. (lead k (content_behind (g.A.Disk.view c.power_cut.new.self.disk.now)) (second_of g.A.Disk.view g.B.Disk.view c.args.self.now.present.pair)).gives ≡ cut c.args.choice (lead k (first_of g.A.Disk.view g.B.Disk.view c.args.self.now.present.pair) (second_of g.A.Disk.view g.B.Disk.view c.args.self.now.present.pair)).gives (lead k (first_of g.A.Disk.view g.B.Disk.view c.args.self.now.present.pair) (second_of g.A.Disk.view g.B.Disk.view c.args.self.now.present.pair)).synced) (sym c.in-First.is) (c.power_cut.ensures.leaves told.0 done)

pub returns-in-Second-clause-fewer : goal.returns-in-Second-clause-fewer
returns-in-Second-clause-fewer g c told =
    fewer-live g.A.Disk.view g.B.Disk.view _ _ _ _ (c.args.self.now.thawed c.requires.lives) refl (fewer-same _) (c.power_cut-in-Second.ensures.fewer told.1)

pub returns-in-Second-clause-leaves : goal.returns-in-Second-clause-leaves
returns-in-Second-clause-leaves g c told done =
    gives-live g.A.Disk.view g.B.Disk.view _ _ _ (c.args.self.now.thawed c.requires.lives)
    ∙ subst (λ k. (lead k (first_of g.A.Disk.view g.B.Disk.view c.args.self.now.present.pair) (content_behind (g.B.Disk.view c.power_cut-in-Second.new.self.disk.now))).gives ≡ cut c.args.choice (lead k (first_of g.A.Disk.view g.B.Disk.view c.args.self.now.present.pair) (second_of g.A.Disk.view g.B.Disk.view c.args.self.now.present.pair)).gives (lead k (first_of g.A.Disk.view g.B.Disk.view c.args.self.now.present.pair) (second_of g.A.Disk.view g.B.Disk.view c.args.self.now.present.pair)).synced) (sym c.in-Second.is) (c.power_cut-in-Second.ensures.leaves told.1 done)

pub returns-in-Leaving-clause-fewer : goal.returns-in-Leaving-clause-fewer
returns-in-Leaving-clause-fewer g c told = fewer-same _
