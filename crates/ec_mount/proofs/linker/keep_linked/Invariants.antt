use Rattle.std.proofs.Common.{◌≡◌, ◌+◌, ◌≤◌}
use Rattle.ec_lock.specs.PassViews.{first}
use Rattle.ec_mount.specs.Linking.{Linked, LinkedMore}
use Rattle.ec_mount.proofs.linker.keep_linked.Given as goal

abbrev pub invariant-loop : goal.invariant-loop
invariant-loop g l =
    (goal.iterator-loop g).can_next l.iterator' × (goal.iterator-loop g).is_finite l.iterator'
    × (g.M.Lending.faults l.fn.net ≤ g.M.Lending.faults l.net) × Linked l.clerk.lock l.fn.pass l.pass
    × LinkedMore (λ l. g.M.Link.Link.faults l + g.M.Link.Link.closes l) g.M.Link.Link.given g.M.Link.Link.got (first l.clerk.lock) l.fn.pass l.pass (record { faults = g.M.Lending.faults l.fn.net; bad = g.M.Lending.bad l.fn.net; ended = g.M.Lending.ended l.fn.net }) (record { faults = g.M.Lending.faults l.net; bad = g.M.Lending.bad l.net; ended = g.M.Lending.ended l.net })
    × (g.M.Lending.name l.net ≡ g.M.Lending.name l.fn.net)
