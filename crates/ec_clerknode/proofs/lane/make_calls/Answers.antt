use Rattle.std.proofs.Common.{◌++◌, [], ◌∷◌, length, sym, refl, ap, ◌∙◌, subst, arith, rules}
use Rattle.std.specs.Vec.Iter.{into_iter_items, into_iter_len}
use Rattle.ec_clerknode.proofs.LaneCalls.{Sofar, sofar_none, sofar_next, sofar_fails, sofar_lacks, sofar_wants, sofar_ends, none_left}
use Rattle.ec_clerknode.proofs.lane.make_calls.Goals as goal

pub calls-init : goal.calls-init
calls-init g c =
    let it = c.into_iter-call-iterator.result in
    let gives = c.into_iter-call-iterator.ensures.into_iter_gives in (
      sofar_none c.args.clerk.now.lock c.args.pass.now c.args.calls.items (into_iter_items it) c.reserve.new.self.items gives.0 (c.reserve.ensures.items ∙ c.requires.none) c.requires.pass,
      gives.1 ∙ (c.args.calls.ok.0 ∙ ap length (sym gives.0)),
    )

pub calls-preserved : goal.calls-preserved
calls-preserved g c =
    let inv = c.calls.invariant in
    let steps = c.in-Some.ensures.steps in
    let lock = c.args.clerk.now.lock in
    let all = c.args.calls.items in
    let rest = into_iter_items c.next.new.self in
    let s = subst (λ l. Sofar lock c.args.pass.now all c.calls.pass l c.calls.replies.items) steps.0 inv.0 in
    let next = sofar_next lock c.args.pass.now all c.calls.pass c.call_op.new.pass c.in-Some.call rest c.calls.replies.items s c.call_op.ensures.turned c.in_ok-reply.reply c.in_ok-reply.ensures.called in (
      subst (λ l. Sofar lock c.args.pass.now all c.call_op.new.pass rest l) (sym c.in_ok-push.ensures.items) next,
      (let was = inv.1 in let gone = steps.1 in let short = ap length steps.0 in omega arith),
    )

pub returns-in_err-reserve : goal.returns-in_err-reserve
returns-in_err-reserve g c =
    let wants = sofar_wants c.args.clerk.now.lock c.args.pass.now c.args.calls.items c.reserve.new.self.items (c.reserve.ensures.items ∙ c.requires.none) c.requires.pass in
    search (rules, wants)

pub returns-in_err-reply : goal.returns-in_err-reply
returns-in_err-reply g c =
    let lock = c.args.clerk.now.lock in
    let all = c.args.calls.items in
    let steps = c.in-Some.ensures.steps in
    let rest = into_iter_items c.next.new.self in
    let s = subst (λ l. Sofar lock c.args.pass.now all c.calls.pass l c.calls.replies.items) steps.0 c.calls.invariant.0 in
    let fails = sofar_fails lock c.args.pass.now all c.calls.pass c.call_op.new.pass c.in-Some.call rest c.calls.replies.items s c.call_op.ensures.turned _ c.in_err-reply.ensures.called in
    search (rules, fails)

pub returns-in_err-push : goal.returns-in_err-push
returns-in_err-push g c =
    let lock = c.args.clerk.now.lock in
    let all = c.args.calls.items in
    let steps = c.in-Some.ensures.steps in
    let rest = into_iter_items c.next.new.self in
    let s = subst (λ l. Sofar lock c.args.pass.now all c.calls.pass l c.calls.replies.items) steps.0 c.calls.invariant.0 in
    let lacks = sofar_lacks lock c.args.pass.now all c.calls.pass c.call_op.new.pass c.in-Some.call rest c.calls.replies.items s c.call_op.ensures.turned c.in_ok-reply.reply c.in_ok-reply.ensures.called in
    search (rules, lacks)

pub returns : goal.returns
returns g c =
    let inv = c.calls.invariant in
    let it = c.calls.call-iterator in
    sofar_ends c.args.clerk.now.lock c.args.pass.now c.args.calls.items c.calls.pass (into_iter_items it) c.calls.replies.items (none_left (into_iter_items it) (into_iter_len it) inv.1 c.in-None.ensures.steps.0) inv.0
