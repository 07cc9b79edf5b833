use Rattle.std.proofs.Common.{◌++◌, sym, ap, subst, ◌∙◌}
use Rattle.ec_history.specs.Placing.{place}
use Rattle.ec_legal.specs.Bounded.{AreEntries}
use Rattle.ec_legal.proofs.Bounded.{placed-entries}
use Rattle.ec_legal.proofs.history.place.Goals as goal

pub invariant_of-result : goal.invariant_of-result
invariant_of-result c =
    subst AreEntries (sym (c.in_ok-place_all.ensures ∙ ap (λ l. l ++ place c.args.shown.now) c.new-entries.ensures.items)) (placed-entries c.args.shown.now c.requires.bounded c.requires.few)
