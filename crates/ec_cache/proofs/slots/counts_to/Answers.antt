use Rattle.std.proofs.Common.{◌∙◌, ap, sym}
use Rattle.ec_base.specs.Tables.{or_else}
use Rattle.ec_base.specs.declared.ids.Hold.TheVariants.{Write}
use Rattle.ec_cache.specs.Marks.{joined}
use Rattle.ec_cache.proofs.Marks.{marks-at}
use Rattle.ec_cache.proofs.slots.counts_to.Goals as goal

pub returns : goal.returns
returns c =
    c.mode_in.ensures
    ∙ ap (λ o. or_else Write (joined o)) (c.copied.ensures ∙ c.get.ensures)
    ∙ sym (ap (or_else Write) (marks-at c.args.obj c.args.slots.now c.requires))
