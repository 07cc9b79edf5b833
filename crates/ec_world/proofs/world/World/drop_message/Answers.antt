use Rattle.std.proofs.Common.{◌≡◌, ◌∙◌, List, None, sym, ap}
use Rattle.ec_protocol.specs.World.{Moving, moving}
use Rattle.ec_world.specs.Worlds.{view_of}
use Rattle.ec_history.specs.declared.shown.Shown.{Shown}
use Rattle.ec_protocol.specs.OfPool.Pools.{with_pool}
use Rattle.ec_world.proofs.Pooled.{kept_is, dropped, not_dropped}
use Rattle.ec_world.proofs.world.World.drop_message.Goals as goal

pub returns-then-not-is_pending-clause-ok : goal.returns-then-not-is_pending-clause-ok
returns-then-not-is_pending-clause-ok c =
    let w = view_of c.args.self.now in
    kept_is c.args.number c.in-Some._sent.now _ w (sym c.in-Some.ensures.value) ∙ not_dropped c.args.number w (c.if-not-is_pending.ensures.value w) ∙ sym c.in_ok-show_nothing.ensures.ok

pub returns-clause-ok : goal.returns-clause-ok
returns-clause-ok c =
    let w = view_of c.args.self.now in
    let on : List Shown → Moving = λ lines. record { world = with_pool c.settle.new.self w; shown = lines; fault = None } in
    kept_is c.args.number c.in-Some._sent.now _ w (sym c.in-Some.ensures.value) ∙ dropped c.args.number w (c.if-not-is_pending.ensures.value w) ∙ ap moving (c.settle.ensures w) ∙ ap on (sym c.requires)
