use Rattle.std.proofs.Common.{◌≡◌, ◌+◌, length, true}
use Rattle.std.specs.List.{All}
use Rattle.slab.specs.Slab.{slab_len}
use Rattle.ec_servernode.specs.TurnSteps.{IsServerPass}
use Rattle.ec_serve.specs.OfThreads.ServingMoments.{back_of, moment, GoesOn}
use Rattle.ec_serve.proofs.threads.threads.finish_all.Given as goal

abbrev pub invariant-loop-entry : goal.invariant-loop-entry
invariant-loop-entry g l =
    IsServerPass g.K.Keeper.kept l.connections.server.now.lock l.pass
    × (l.connections.server ≡ l.fn.connections.server)
    × GoesOn g.N.Net.faults g.N.Net.bad g.N.Net.ended (back_of g.N.Link.Link.faults g.N.Link.Link.closes g.N.Link.Link.given g.N.Link.Link.got)
    (moment l.fn.net l.fn.connections.tally l.fn.pass.pass) (moment l.net l.connections.tally l.pass.pass)
    × ((l.connections.tally.left ≡ l.fn.connections.tally.left) × (l.connections.tally.begun ≡ l.fn.connections.tally.begun) × (l.connections.tally.failed ≡ l.fn.connections.tally.failed))
    × (length l.connections.tally.back.items + length l.entry-iterator ≡ length l.fn.connections.tally.back.items + slab_len l.fn.live)
    × (l.fn.connections.tally.wants ≡ true → l.connections.tally.wants ≡ true)
    × All (λ e. e.1.handle.promise.0.value ≡ l.fn.connections.server.now) l.entry-iterator
    × (g.N.Net.asked l.net ≡ g.N.Net.asked l.fn.net)
