use Rattle.std.proofs.Common.{◌++◌, [], ◌∷◌, length, sym, ap, ◌∙◌, subst, arith, append_assoc, append-nil}
use Rattle.std.specs.Vec.Iter.{into_iter_items, into_iter_len}
use Rattle.ec_clerknode.specs.Jobs.{AreBack}
use Rattle.ec_clerknode.specs.LaneRuns.{lists_of}
use Rattle.ec_clerknode.proofs.LaneCalls.{none_left}
use Rattle.ec_clerknode.proofs.LanePasses.{none_back, no_lists, same_passes, next_pass, rest_passes, gathered}
use Rattle.ec_clerknode.proofs.jobs.gather.Goals as goal

pub ran-init : goal.ran-init
ran-init g c =
    let it = c.into_iter-one-iterator.result in
    let gives = c.into_iter-one-iterator.ensures.into_iter_gives in (
      c.requires.pass,
      gives.0,
      gives.1 ∙ (c.args.ran.ok.0 ∙ ap length (sym gives.0)),
      same_passes c.args.clerk.now.lock (into_iter_items it) c.args.ran.items gives.0 c.requires.others,
      (λ before lanes back. none_back c.args.clerk.now.lock before lanes c.args.pass.now (lists_of c.new.result) (tt {0}) c.requires.pass (no_lists c.new.result c.new.ensures.items) back),
    )

pub ran-preserved : goal.ran-preserved
ran-preserved g c =
    let lock = c.args.clerk.now.lock in
    let inv = c.ran.invariant in
    let steps = c.in-Some.ensures.steps in
    let one = c.in-Some.one in
    let j = c.join.ensures in
    let now = into_iter_items c.ran.one-iterator in
    let rest = into_iter_items c.next.new.self in (
      j.pass,
      append_assoc c.ran.yielded (one ∷ []) rest ∙ (ap (λ l. c.ran.yielded ++ l) (sym steps.0) ∙ inv.1),
      (let was = inv.2 in let gone = steps.1 in let short = ap length steps.0 in omega arith),
      rest_passes lock now rest one steps.0 inv.3,
      (λ before lanes back. gathered lock before c.args.pass.now c.ran.pass c.join.new.pass lanes c.ran.yielded one c.ran.all c.put-all.result (inv.4 before)
          (record { is_pass = j.pass; number = j.number; later = j.later; other_later = j.other; own = j.own; others = j.others; apart = j.apart; both = j.same }) c.put-all.ensures back),
    )

pub join-requires-clause-pass : goal.join-requires-clause-pass
join-requires-clause-pass g c κs within = c.ran.invariant.0

pub join-requires-clause-other : goal.join-requires-clause-other
join-requires-clause-other g c κs within =
    next_pass c.args.clerk.now.lock (into_iter_items c.ran.one-iterator) (into_iter_items c.next.new.self) c.in-Some.one c.in-Some.ensures.steps.0 c.ran.invariant.3

pub returns : goal.returns
returns g c before lanes back =
    let inv = c.ran.invariant in
    let it = c.ran.one-iterator in
    let none = none_left (into_iter_items it) (into_iter_len it) inv.2 c.in-None.ensures.steps.0 in
    let whole = sym (append-nil c.ran.yielded) ∙ (ap (λ l. c.ran.yielded ++ l) (sym none) ∙ inv.1) in
    inv.4 before lanes (subst (AreBack c.args.clerk.now.lock before lanes) (sym whole) back)
