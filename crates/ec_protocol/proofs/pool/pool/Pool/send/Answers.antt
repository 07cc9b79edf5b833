use Rattle.std.proofs.Common.{◌+◌, ◌≤◌, ◌<◌, sym, ap, subst, ◌∙◌, refl, arith, vec_capacity}
use Rattle.ec_base.specs.Limits.{last_counter}
use Rattle.ec_protocol.specs.declared.world.Sent.{Sent}
use Rattle.ec_protocol.specs.World as machine
use Rattle.ec_protocol.proofs.OfPool.Laws.{count_up_to, are_kept, sent_on}
use Rattle.ec_protocol.proofs.pool.pool.Pool.send.Goals as goal

pub overflow_add-sent : goal.overflow_add-sent
overflow_add-sent c =
    let k : machine.count_of c.args.clerk c.kind_of-kind.result c.self.inside.counts.items ≤ c.self.inside.sent = count_up_to c.self.inside.sent c.args.clerk c.kind_of-kind.result c.self.inside.counts.items c.self.invariant.counted in
    let e = c.count_of.ensures ∙ ap (machine.count_of c.args.clerk c.kind_of-kind.result) c.deref.ensures.value in
    let a : c.count_of.result ≤ c.self.inside.sent = subst (λ n. n ≤ c.self.inside.sent) (sym e) k in
    omega arith

pub put_in-requires-clause-pending : goal.put_in-requires-clause-pending
put_in-requires-clause-pending c = λ q f.
    let w = c.self.invariant.within q (are_kept c.self.inside.kept.entries c.self.inside.pending c.self.invariant.linked q f) in
    omega arith

pub count_one_more-requires-clause-below : goal.count_one_more-requires-clause-below
count_one_more-requires-clause-below c =
    let k : machine.count_of c.args.clerk c.kind_of-kind.result c.self.inside.counts.items ≤ c.self.inside.sent = count_up_to c.self.inside.sent c.args.clerk c.kind_of-kind.result c.self.inside.counts.items c.self.invariant.counted in
    subst (λ cs. machine.count_of c.args.clerk c.kind_of-kind.result cs < last_counter) (sym c.in_ok-reserve.ensures.items) (omega arith)

pub invariant_of-self-2 : goal.invariant_of-self-2
invariant_of-self-2 c =
    let p = c.self.inside in
    let s : Sent = record { clerk = c.args.clerk; nth = c.count_of.result + 1; msg = c.args.msg } in
    sent_on p.sent p.counts.items p.kept.entries p.pending p.cut.items p.settled.items p.forgotten_at (vec_capacity p.settled) c.self.invariant (p.sent + 1) c.args.clerk c.kind_of-kind.result s
    c.count_one_more.new.counts.items c.put_in.new.kept.entries c.put_in.new.pending c.reserve-2.new.self.items (vec_capacity c.reserve-2.new.self) refl c.requires
    (c.count_one_more.ensures ∙ ap (machine.one_more c.args.clerk c.kind_of-kind.result) c.in_ok-reserve.ensures.items) c.in_ok-put_in.ensures.kept c.in_ok-put_in.ensures.pending c.in_ok-put_in.ensures.rises
    c.in_ok-reserve-2.ensures.items (let a = c.in_ok-reserve-2.ensures.ok in let b = c.in_ok-reserve-2.ensures.len in let d = p.settled.ok in let e = c.len.ensures in omega arith)
