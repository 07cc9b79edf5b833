use Rattle.std.proofs.Common.{length, List, sym, ap, ◌∙◌, subst, arith}
use Rattle.std.specs.List.{All}
use Rattle.std.specs.Vec.Iter.{into_iter_items, into_iter_len}
use Rattle.std.proofs.lemmas.List.Elements.{All-nil, All-push}
use Rattle.ec_plain.specs.declared.call.Call.{Call}
use Rattle.ec_lock.specs.PassViews.{front}
use Rattle.ec_clerknode.specs.Jobs.{IsNewPass}
use Rattle.ec_clerknode.specs.declared.jobs.Job.{Job}
use Rattle.ec_clerknode.proofs.LaneCalls.{none_left}
use Rattle.ec_clerknode.proofs.LanePasses.{drew_none, drew_more, new_pass, none_mapped, more_mapped, all_mapped}
use Rattle.ec_clerknode.proofs.jobs.draw_all.Goals as goal

pub lanes-init : goal.lanes-init
lanes-init g c =
    let it = c.into_iter-calls-iterator.result in
    let gives = c.into_iter-calls-iterator.ensures.into_iter_gives in
    let none = c.in_ok-jobs.ensures.items in
    let calls_of : Job g.row.L.Denot g.row.L-Bell.Denot → List Call = λ job. job.calls.items in
    let P : Job g.row.L.Denot g.row.L-Bell.Denot → Type 0 = λ job. IsNewPass c.args.clerk.now.lock (front c.args.pass.now) job.pass in (
      drew_none c.args.clerk.now.lock c.args.pass.now c.requires,
      none_mapped calls_of c.in_ok-jobs.jobs.items (into_iter_items it) c.args.lanes.items none gives.0,
      gives.1 ∙ (c.args.lanes.ok.0 ∙ ap length (sym gives.0)),
      subst (All P) (sym none) (All-nil P),
    )

pub lanes-preserved : goal.lanes-preserved
lanes-preserved g c =
    let lock = c.args.clerk.now.lock in
    let inv = c.lanes.invariant in
    let steps = c.in-Some.ensures.steps in
    let split = c.split.ensures in
    let some = c.in-Some-split.ensures in
    let pushed = c.in_ok-push.ensures.items in
    let calls_of : Job g.row.L.Denot g.row.L-Bell.Denot → List Call = λ job. job.calls.items in
    let P : Job g.row.L.Denot g.row.L-Bell.Denot → Type 0 = λ job. IsNewPass lock (front c.args.pass.now) job.pass in (
      drew_more lock c.args.pass.now c.lanes.pass c.split.new.pass inv.0 split.pass split.same split.goes.1 split.own,
      more_mapped calls_of c.lanes.jobs.items c.push.new.self.items _ c.in-Some.calls (into_iter_items c.lanes.calls-iterator) (into_iter_items c.next.new.self) c.args.lanes.items pushed c.into_vec-calls.ensures steps.0 inv.1,
      (let was = inv.2 in let gone = steps.1 in let short = ap length steps.0 in omega arith),
      subst (All P) (sym pushed) (All-push P c.lanes.jobs.items _ inv.3 (new_pass lock c.args.pass.now c.lanes.pass c.split.new.pass c.in-Some-split.other inv.0 split.goes.1 some.new some.new_front some.new_number.0)),
    )

pub returns-in_err-jobs-clause-drew : goal.returns-in_err-jobs-clause-drew
returns-in_err-jobs-clause-drew g c = drew_none c.args.clerk.now.lock c.args.pass.now c.requires

pub returns-in_default-clause-drew : goal.returns-in_default-clause-drew
returns-in_default-clause-drew g c =
    let split = c.split.ensures in drew_more c.args.clerk.now.lock c.args.pass.now c.lanes.pass c.split.new.pass c.lanes.invariant.0 split.pass split.same split.goes.1 split.own

pub returns-in_err-push-clause-drew : goal.returns-in_err-push-clause-drew
returns-in_err-push-clause-drew g c =
    let split = c.split.ensures in drew_more c.args.clerk.now.lock c.args.pass.now c.lanes.pass c.split.new.pass c.lanes.invariant.0 split.pass split.same split.goes.1 split.own

pub returns-clause-drew : goal.returns-clause-drew
returns-clause-drew g c = c.lanes.invariant.0

pub returns-clause-calls : goal.returns-clause-calls
returns-clause-calls g c =
    let inv = c.lanes.invariant in
    let it = c.lanes.calls-iterator in
    let calls_of : Job g.row.L.Denot g.row.L-Bell.Denot → List Call = λ job. job.calls.items in
    all_mapped calls_of c.lanes.jobs.items (into_iter_items it) c.args.lanes.items (none_left (into_iter_items it) (into_iter_len it) inv.2 c.in-None.ensures.steps.0) inv.1

pub returns-clause-passes : goal.returns-clause-passes
returns-clause-passes g c = c.lanes.invariant.3
