use Rattle.std.proofs.Common.{ap, ◌∙◌, set}
use Rattle.std.proofs.lemmas.List.{set-get_or}
use Rattle.std.proofs.lemmas.Result.{IfOk-weaker, on_ok_weaker}
use Rattle.ec_judge.proofs.Steps.{same-at}
use Rattle.ec_judge.proofs.Places.{same-places}
use Rattle.ec_judge.proofs.losses.broken_at.Goals as goal

pub returns-clause-found : goal.returns-clause-found
returns-clause-found c = IfOk-weaker c.broken.result _ _ (λ found h. (c.index_mut.result.now, c.index_mut.ensures.value, h)) c.broken.ensures.found

pub returns-clause-unchanged : goal.returns-clause-unchanged
returns-clause-unchanged c =
    on_ok_weaker c.broken.result (λ same.
    ap (set c.args.starts.now.items c.args.at) (same ∙ c.index_mut.ensures.value) ∙ set-get_or c.args.starts.now.items c.args.at c.index_mut.result.now)
    c.broken.ensures.unchanged

pub returns-clause-same : goal.returns-clause-same
returns-clause-same c = same-places c.args.starts.now.items c.args.at c.broken.new.start c.index_mut.result.now (c.index_mut.ensures.value ∙ same-at c.args.starts.now.items c.args.at c.index_mut.result.now c.broken.new.start c.requires.at) c.broken.ensures.clerk c.broken.ensures.boot
