use Rattle.std.proofs.Common.{◌∙◌, ap}
use Rattle.std.specs.Cmp.Lexicographic.{nat_list_cmp_total}
use Rattle.std.specs.FinMap.{slice_cmp-IsAntisymmetric, nat_cmp-IsAntisymmetric}
use Rattle.ec_base.specs.SortedLaws.{sorted_put, sorted_without}
use Rattle.ec_volume.specs.Entries.{by_bytes, with_entry, without_entry}
use Rattle.ec_volume.proofs.Pairs.{without-put}
use Rattle.ec_volume.proofs.entries.Entries.rename.Goals as goal

pub invariant_of-self-2 : goal.invariant_of-self-2
invariant_of-self-2 c =
    sorted_without by_bytes c.args.from.now c.insert.new.self _ c.remove.ensures.others
    (sorted_put by_bytes nat_list_cmp_total c.in_ok-duplicate.field-0 c.args.id c.self.inside.map _ c.in_ok-insert.ensures.ok c.self.invariant)

pub returns-clause-ok : goal.returns-clause-ok
returns-clause-ok c =
    rw (c.remove.ensures.others, c.in_ok-insert.ensures.ok, c.in_ok-duplicate.ensures)
    (without-put by_bytes nat_list_cmp_total (slice_cmp-IsAntisymmetric nat_cmp-IsAntisymmetric) c.args.from.now c.args.to.now c.args.id c.self.inside.map c.self.invariant c.requires
    ∙ ap (λ es. with_entry (without_entry es c.args.from.now) c.args.to.now c.args.id) c.self.view_is)
