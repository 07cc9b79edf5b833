use Rattle.std.proofs.Common.{◌≡◌, ◌∙◌, ap, Option, None, Some, is_some, true}
use Rattle.std.specs.Prelude.{OnSome}
use Rattle.ec_cache.specs.Marks.{marks}
use Rattle.ec_cache.proofs.Marks.{marks-put}
use Rattle.ec_cache.proofs.slots.mark.Goals as goal

of_some : {A P : Type 0} (r : Option A) → OnSome r P → is_some r ≡ true → P
of_some None p is = absurd (cc is)
of_some (Some a) p is = p

pub returns-clause-marks : goal.returns-clause-marks
returns-clause-marks c =
    ap marks (of_some c.replace.result c.replace.ensures.some (ap is_some c.replace.ensures.value ∙ c.requires.there))
    ∙ marks-put c.args.obj c.args.limit c.args.slots.now c.requires.sorted
