use Rattle.std.proofs.Common.{◌≡◌, ◌+◌, length}
use Rattle.slab.specs.Slab.{slab_len}
use Rattle.ec_servernode.specs.TurnSteps.{IsServerPass}
use Rattle.ec_serve.specs.OfThreads.ServingMoments.{AllServe, back_of, moment, GoesOn}
use Rattle.ec_serve.proofs.threads.threads.give_back_ended.Given as goal

abbrev pub invariant-loop : goal.invariant-loop
invariant-loop g l =
    (goal.iterator-loop g).can_next l.iterator' × (goal.iterator-loop g).is_finite l.iterator'
    × IsServerPass g.K.Keeper.kept l.connections.server.now.lock l.pass
    × (l.connections.server ≡ l.fn.connections.server)
    × GoesOn g.N.Net.faults g.N.Net.bad g.N.Net.ended (back_of g.N.Link.Link.faults g.N.Link.Link.closes g.N.Link.Link.given g.N.Link.Link.got)
    (moment l.fn.net l.fn.connections.tally l.fn.pass.pass) (moment l.net l.connections.tally l.pass.pass)
    × (l.connections.tally.begun ≡ l.fn.connections.tally.begun)
    × (length l.connections.tally.back.items + slab_len l.live ≡ length l.fn.connections.tally.back.items + slab_len l.fn.live)
    × AllServe (λ one. one.handle.promise.0.value) l.fn.connections.server.now l.live
    × (g.N.Net.asked l.net ≡ g.N.Net.asked l.fn.net)
