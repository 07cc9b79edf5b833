use Rattle.std.proofs.Common.{Some, rules}
use Rattle.ec_lock.proofs.Turns.{got_out, got_drawn, lies}
use Rattle.ec_lock.proofs.types.TracedLock.enter.Goals as goal

pub exchange-requires : goal.exchange-requires
exchange-requires g c =
    let o = got_out g.V.Traced.list g.V.Traced.number g.V.Traced.floor g.V.Traced.since c.draw-ticket.result c.args.pass.now.seat.me c.draw-ticket.new.pass.seat.me c.look_until_served.new.pass.seat.me c.draw-ticket.ensures.drawn c.look_until_served.ensures.got in
    (search rules, (Some o.0, lies _ _ o.1))

pub returns-clause-drawn : goal.returns-clause-drawn
returns-clause-drawn g c = got_drawn g.V.Traced.list g.V.Traced.number g.V.Traced.floor g.V.Traced.since c.draw-ticket.result c.args.pass.now.seat.me c.draw-ticket.new.pass.seat.me c.look_until_served.new.pass.seat.me c.exchange.result c.unwrap-value.result c.draw-ticket.ensures.drawn c.look_until_served.ensures.got c.exchange.ensures.2 c.unwrap-value.ensures
