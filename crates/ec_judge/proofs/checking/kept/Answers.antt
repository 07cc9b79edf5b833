use Rattle.std.proofs.Common.{ap, ◌∙◌}
use Rattle.ec_history.specs.History.{updates}
use Rattle.ec_judge.specs.Carried.{ops_of}
use Rattle.ec_judge.proofs.Steps.{if-ok}
use Rattle.ec_judge.proofs.checking.kept.Goals as goal

pub returns : goal.returns
returns c = if-ok _ _ c.updates_of.result (λ list e. e ∙ ap (λ ks. updates (ops_of ks)) c.deref.ensures.value ∙ ap updates c.in_ok-judge.ensures.kept) c.updates_of.ensures
