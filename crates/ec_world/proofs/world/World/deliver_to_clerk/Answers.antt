use Rattle.std.proofs.Common.{◌≡◌, ◌∙◌, List, None, sym, ap}
use Rattle.ec_history.specs.declared.shown.Shown.{Shown}
use Rattle.ec_protocol.specs.OfPool.Pools.{with_pool}
use Rattle.ec_protocol.specs.World.{Moving, come_out, runs}
use Rattle.ec_world.specs.Worlds.{view_of}
use Rattle.ec_world.proofs.ClerkSteps.{delivered, vanished, with_clerks}
use Rattle.ec_world.proofs.world.World.deliver_to_clerk.Goals as goal

pub returns-in_ok-come_out-in-Some-outs-clause-ok : goal.returns-in_ok-come_out-in-Some-outs-clause-ok
returns-in_ok-come_out-in-Some-outs-clause-ok c =
    let w = view_of c.args.self.now in
    let sent = c.in-Some.sent.now in
    let steps = rw c.in-Some-outs.is at c.in_ok-outs.ensures.ok in
    let on : List Shown → Moving = λ lines. come_out sent.clerk c.in-Some-outs.outs.items (record { world = with_pool c.settle.new.self (with_clerks c.take.new.clerks w); shown = lines; fault = None }) in
    delivered runs c.args.number sent c.in_ok-msg.msg c.in-Some-outs.outs.items c.take.new.clerks c.settle.new.self w
    c.requires.message (sym c.in-Some.ensures.value) c.in_ok-msg.ensures steps (c.settle.ensures w)
    ∙ ap on (sym c.requires.piece) ∙ sym c.in_ok-come_out-in-Some-outs.ensures.ok

pub returns-in-None-clause-ok : goal.returns-in-None-clause-ok
returns-in-None-clause-ok c =
    let w = view_of c.args.self.now in
    let stays = rw c.in-None.is at c.in_ok-outs.ensures.ok in
    let on : List Shown → Moving = λ lines. record { world = with_pool c.settle.new.self (with_clerks c.take.new.clerks w); shown = lines; fault = None } in
    vanished runs c.args.number c.in-Some.sent.now c.take.new.clerks c.settle.new.self w c.requires.message (sym c.in-Some.ensures.value) stays (c.settle.ensures w)
    ∙ ap on (sym c.requires.piece)
