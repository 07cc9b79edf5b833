use Rattle.std.proofs.Common.{◌∙◌, ap}
use Rattle.ec_base.specs.Tables.{at}
use Rattle.ec_cache.specs.Held.{used_in}
use Rattle.ec_cache.proofs.Changing.{changed-used}
use Rattle.ec_cache.proofs.tokens.change_one.Goals as goal

pub returns-clause-ok : goal.returns-clause-ok
returns-clause-ok c =
    c.put_last.ensures.order
    ∙ ap (λ es. used_in c.args.obj es (at c.args.obj es)) c.in_ok-change_image.ensures.ok
    ∙ changed-used c.args.update.now c.args.obj _
