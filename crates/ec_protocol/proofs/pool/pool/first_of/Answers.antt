use Rattle.std.proofs.Common.{sym, ◌∙◌}
use Rattle.std.specs.Map.Iter.{deref_pair}
use Rattle.std.proofs.lemmas.Map.Iter.{rest_more}
use Rattle.ec_protocol.specs.World as machine
use Rattle.ec_protocol.proofs.OfPool.Laws.{first_here, first_later}
use Rattle.ec_protocol.proofs.pool.pool.first_of.Goals as goal

pub returns-then-is_this : goal.returns-then-is_this
returns-then-is_this c =
    first_here (machine.is_this c.args.clerk c.args.kind c.args.nth) c.args.kept.now.entries c.loop-number.number-iterator c.next.new.self c.in-Some.number.now c.in-Some.sent.now c.loop-number.invariant
    (rest_more deref_pair c.loop-number.number-iterator c.next.new.self c.next.result (c.in-Some.number, c.in-Some.sent) c.in-Some.is c.next.ensures.steps)
    (sym (c.is_this.ensures c.in-Some.number.now) ∙ c.if-is_this.true)

pub loop-number-preserved : goal.loop-number-preserved
loop-number-preserved c =
    first_later (machine.is_this c.args.clerk c.args.kind c.args.nth) c.args.kept.now.entries c.loop-number.number-iterator c.next.new.self c.in-Some.number.now c.in-Some.sent.now c.loop-number.invariant
    (rest_more deref_pair c.loop-number.number-iterator c.next.new.self c.next.result (c.in-Some.number, c.in-Some.sent) c.in-Some.is c.next.ensures.steps)
    (sym (c.is_this.ensures c.in-Some.number.now) ∙ c.if-is_this.false)
