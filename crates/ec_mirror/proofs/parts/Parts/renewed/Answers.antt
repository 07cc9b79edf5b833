use Rattle.std.proofs.Common.{◌∙◌, ap, sym, subst}
use Rattle.ec_mirror.specs.Shown.{first_of, second_of, given_by, IsSaved}
use Rattle.ec_mirror.proofs.Lives.{gives-live}
use Rattle.ec_mirror.proofs.parts.Parts.renewed.Goals as goal

pub save-requires-clause-saved : goal.save-requires-clause-saved
save-requires-clause-saved g c =
    subst (λ p. IsSaved (g.A.Disk.tells × g.B.Disk.tells) p.kept (first_of g.A.Disk.view g.B.Disk.view p) (second_of g.A.Disk.view g.B.Disk.view p)) (sym c.thaw.ensures.pair) c.requires.saved

pub returns-clause-gives : goal.returns-clause-gives
returns-clause-gives g c =
    c.save.ensures.gives ∙ gives-live g.A.Disk.view g.B.Disk.view _ _ _ c.thaw.ensures.shows ∙ ap (λ p. given_by g.A.Disk.view g.B.Disk.view p) c.thaw.ensures.pair
