use Rattle.std.proofs.Common.{ap, ◌∙◌, ◌++◌}
use Rattle.std.specs.Prelude.{reverse}
use Rattle.ec_judge.proofs.Steps.{on-ok}
use Rattle.ec_judge.proofs.Tails.{forget-tail}
use Rattle.ec_judge.proofs.losses.forget.Goals as goal

pub returns : goal.returns
returns c =
    let taken = c.in_ok-left.ensures in
    on-ok _ _ c.put_back.result (λ e. forget-tail c.args.named.now.clerk c.args.named.now.boot c.args.named.now.ops.now c.args.kept.now.items c.args.from c.requires.none c.in_ok-left.left.items c.put_back.new.kept.items taken.1 (e ∙ ap (λ l. l ++ reverse c.in_ok-left.left.items) taken.0)) c.put_back.ensures
