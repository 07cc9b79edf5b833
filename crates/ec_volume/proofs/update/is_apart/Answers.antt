use Rattle.std.proofs.Common.{[], ◌∷◌, ◌∙◌, ap, sym}
use Rattle.std.specs.Prelude.{not}
use Rattle.std.specs.List.{list_any}
use Rattle.ec_volume.specs.Update.{ids_of, distinct, member}
use Rattle.ec_volume.proofs.Distinct.{distinct_apart, with_true}
use Rattle.ec_volume.proofs.update.is_apart.Goals as goal

pub returns-then-distinct : goal.returns-then-distinct
returns-then-distinct c =
    rw c.in-None.is (ap not c.meets.ensures
    ∙ with_true (distinct (c.args.dir ∷ c.args.into ∷ c.args.obj ∷ [])) (not (list_any (λ o. member o (ids_of c.args.up.now)) (c.args.into ∷ c.args.obj ∷ []))) (sym c.distinct.ensures ∙ c.if-distinct.true)
    ∙ sym (distinct_apart c.args.dir (c.args.into ∷ c.args.obj ∷ []) (ids_of c.args.up.now) c.requires))

pub returns-then-distinct-2 : goal.returns-then-distinct-2
returns-then-distinct-2 c =
    let v = c.in-Some.victim in
    rw c.in-Some.is (ap not c.meets-then-distinct-2.ensures
    ∙ with_true (distinct (c.args.dir ∷ c.args.into ∷ c.args.obj ∷ v ∷ [])) (not (list_any (λ o. member o (ids_of c.args.up.now)) (c.args.into ∷ c.args.obj ∷ v ∷ []))) (sym c.distinct-in-Some.ensures ∙ c.if-distinct-2.true)
    ∙ sym (distinct_apart c.args.dir (c.args.into ∷ c.args.obj ∷ v ∷ []) (ids_of c.args.up.now) c.requires))
