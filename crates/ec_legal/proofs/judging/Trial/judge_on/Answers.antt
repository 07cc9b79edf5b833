use Rattle.std.proofs.Common.{◌≡◌, ◌<◌, ◌++◌, sym, subst, rules}
use Rattle.ec_history.specs.OfLaws.Bases.{AreAtLines}
use Rattle.ec_history.specs.History.{Each}
use Rattle.ec_legal.specs.Ahead.{placed_from}
use Rattle.ec_legal.proofs.Judged.{block-lines, block-few, judges-now, entry-fault}
use Rattle.ec_legal.proofs.judging.Trial.judge_on.Goals as goal
use Rattle.ec_base.proofs.Results.{taken-ok as on-not}

pub step-placed-requires-clause-lines : goal.step-placed-requires-clause-lines
step-placed-requires-clause-lines g c k l =
    let t = c.blocks-2.self in
    let same : c.deref.result.now ≡ t.entries.items = search rules in
    subst (λ es. AreAtLines (t.judging ++ es)) (sym same)
    (block-lines c.args.shown.now t.judging t.entries.items t.ahead.placed c.requires.bounded c.requires.few (judges-now c.args.shown.now t.judging t.entries.items t.ahead.placed c.blocks-2.invariant.entries))

pub step-placed-requires-clause-low : goal.step-placed-requires-clause-low
step-placed-requires-clause-low g c k l =
    let t = c.blocks-2.self in
    let same : c.deref.result.now ≡ t.entries.items = search rules in
    subst (Each (λ e. e.0 < 2147483648)) (sym same)
    (block-few c.args.shown.now t.judging t.entries.items t.ahead.placed c.requires.bounded c.requires.few (judges-now c.args.shown.now t.judging t.entries.items t.ahead.placed c.blocks-2.invariant.entries))

pub returns-in-Err-clause-stop : goal.returns-in-Err-clause-stop
returns-in-Err-clause-stop g c = c.at_line.ensures c.args.max_objects c.step-placed.new.ahead c.args.shown.now (rw c.in-Err.is at c.step-placed.ensures.place_fault)

pub returns-in-Err-judged-clause-stop : goal.returns-in-Err-judged-clause-stop
returns-in-Err-judged-clause-stop g c =
    let ss = c.args.shown.now in
    let t = c.blocks-2.self in
    let same : c.deref.result.now ≡ t.entries.items = search rules in
    let ahead = on-not c.step-placed.result.0 c.in_default.not-Err c.step-placed.ensures.ahead in
    let first = rw (same, c.in-Err-judged.is) at c.step-placed.ensures.entry_fault in
    c.at_entry.ensures c.args.max_objects c.step-placed.new.ahead ss (record { within = ahead.within; follows = ahead.follows })
    (λ more. entry-fault c.args.max_objects t.judging t.entries.items (placed_from (ss ++ more) t.ahead.placed) _ c.in-Err-judged.fault (c.blocks-2.invariant.entries more) first)
