use Rattle.std.proofs.Common.{rules, ◌∙◌, ap, sym, subst}
use Rattle.std.specs.Prelude.{◌≡◌, true}
use Rattle.ec_disk.specs.Choices.{cut}
use Rattle.ec_half.specs.Contents.{Fewer}
use Rattle.ec_mirror.specs.Moments.{synced-is}
use Rattle.ec_mirror.specs.Shown.{saved_by, shown_of}
use Rattle.ec_mirror.proofs.Lives.{gives-live}
use Rattle.ec_mirror.proofs.Showing.{fewer-same, fewer-then}
use Rattle.ec_mirror.proofs.parts.Parts.power_cut.Goals as goal

pub returns-then-not-may_leave-clause-fewer : goal.returns-then-not-may_leave-clause-fewer
returns-then-not-may_leave-clause-fewer g c told =
    subst (λ n. Fewer (shown_of g.A.Disk.view g.B.Disk.view c.args.self.now.present) (shown_of g.A.Disk.view g.B.Disk.view n)) (sym c.refuse.ensures.present) (fewer-same _)

pub returns-in-Done-clause-fewer : goal.returns-in-Done-clause-fewer
returns-in-Done-clause-fewer g c told =
    fewer-then _ _ _ (c.cut.ensures.fewer told) (c.renew.ensures.fewer told)

pub returns-in-Done-clause-leaves : goal.returns-in-Done-clause-leaves
returns-in-Done-clause-leaves g c told done =
    let may : c.may_leave.result ≡ true = search rules in
    c.renew.ensures.gives told done ∙ c.cut.ensures.leaves told c.in-Done.is ∙ c.may_leave.ensures.leaves may told
    ∙ ap (λ x. cut c.args.choice x (saved_by g.A.Disk.view g.B.Disk.view c.args.self.now.present.saved.items)) (sym (gives-live g.A.Disk.view g.B.Disk.view _ c.args.self.now.present.pair _ (c.args.self.now.thawed (c.may_leave.ensures.lives may))))
    ∙ ap (λ s. cut c.args.choice (shown_of g.A.Disk.view g.B.Disk.view c.args.self.now.present).gives s) (sym (synced-is g.A.Disk.view g.B.Disk.view c.args.self.now.present))

pub returns-in_default-clause-fewer : goal.returns-in_default-clause-fewer
returns-in_default-clause-fewer g c told =
    subst (λ n. Fewer (shown_of g.A.Disk.view g.B.Disk.view c.args.self.now.present) (shown_of g.A.Disk.view g.B.Disk.view n)) (sym c.cut_short.ensures.present) (c.cut.ensures.fewer told)
