use Rattle.std.proofs.Common.{refl, ap, ◌∙◌, ◌++◌, ◌-◌, take, drop, length}
use Rattle.std.specs.Prelude.{slice_index_or}
use Rattle.std.specs.List.{filter}
use Rattle.ec_history.specs.History.{is_one_of, pairs_of}
use Rattle.ec_judge.specs.Carried.{ops_of}
use Rattle.ec_judge.proofs.Steps.{same-at, on-ok}
use Rattle.ec_judge.proofs.Tails.{pairs-tail, cut-all}
use Rattle.ec_judge.proofs.Places.{same-places}
use Rattle.ec_judge.proofs.losses.owe_at.Goals as goal

pub returns-clause-owing : goal.returns-clause-owing
returns-clause-owing c =
    let now = c.owe.new.start in
    let old = c.index_mut.ensures.value ∙ same-at c.args.starts.now.items c.args.at c.index_mut.result.now now c.requires.at in
    let lost = pairs-tail c.args.named.now.clerk c.args.named.now.boot c.args.named.now.ops.now c.args.kept.now c.args.from c.requires.none in
    on-ok _ _ c.owe.result (λ owed. (
      now,
      record {
        clerk = c.owe.ensures.clerk ∙ ap (λ t. t.clerk) old;
        boot = c.owe.ensures.boot ∙ ap (λ t. t.boot) old;
        count = c.owe.ensures.count ∙ ap (λ t. t.pending.0) old;
        owed = owed
            ∙ ap (λ t. t.owed ++ pairs_of (filter (is_one_of c.args.named.now.clerk c.args.named.now.boot c.args.named.now.ops.now) (ops_of (take (length c.args.kept.now - c.args.from) (drop c.args.from c.args.kept.now))))) old
            ∙ ap (λ l. (slice_index_or c.args.starts.now.items c.args.at now).owed ++ pairs_of l) (ap (λ ks. filter (is_one_of c.args.named.now.clerk c.args.named.now.boot c.args.named.now.ops.now) (ops_of ks)) (cut-all c.args.kept.now c.args.from) ∙ lost);
        pending = c.owe.ensures.pending ∙ ap (λ t. t.pending.1) old;
      },
      refl,
    )) c.owe.ensures.owed

pub returns-clause-same : goal.returns-clause-same
returns-clause-same c = same-places c.args.starts.now.items c.args.at c.owe.new.start c.index_mut.result.now (c.index_mut.ensures.value ∙ same-at c.args.starts.now.items c.args.at c.index_mut.result.now c.owe.new.start c.requires.at) c.owe.ensures.clerk c.owe.ensures.boot
