use Rattle.std.proofs.Common.{inl, subst, append-nil, []}
use Rattle.ec_history.specs.Legal.{from_formatted}
use Rattle.ec_history.specs.Placing.{place}
use Rattle.ec_judge.specs.Faults.{IsFirstEntry}
use Rattle.ec_legal.specs.Placed.{IsJudgeFault}
use Rattle.ec_legal.specs.Tried.{Stops}
use Rattle.ec_check.proofs.Faults.{first-fault}
use Rattle.ec_check.proofs.judged.conclude.Goals as goal

pub returns-in-Line-clause-verdict : goal.returns-in-Line-clause-verdict
returns-in-Line-clause-verdict c = λ most stops.
    let ss = c.args.shown.now in
    first-fault most ss c.in-Line.line c.in-Line.rule (inl (subst (Stops most c.args.trial.now.ahead ss) c.in-Line.is stops))

pub returns-in-At-clause-verdict : goal.returns-in-At-clause-verdict
returns-in-At-clause-verdict c = λ most stops.
    let ss = c.args.shown.now in
    let entry = (subst (Stops most c.args.trial.now.ahead ss) c.in-Entry.is stops).1 [] in
    let first = subst (λ ts. IsFirstEntry from_formatted most (place ts) c.in-Entry.line c.in-Entry.rule) (append-nil ss) entry in
    first-fault most ss c.in-At.line c.in-At.rule (subst (IsJudgeFault most ss) c.in-At.is (c.conclude.ensures most first))
