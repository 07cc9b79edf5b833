use Rattle.std.proofs.Common.{◌≡◌, ◌≤◌}
use Rattle.ec_mount.proofs.linker.Linking.call_until.Given as goal

abbrev pub invariant-loop : goal.invariant-loop
invariant-loop g l =
    (goal.iterator-loop g).can_next l.iterator' × (goal.iterator-loop g).is_finite l.iterator'
    × (g.M.Lending.faults l.fn.net ≤ g.M.Lending.faults l.net) × (g.M.Lending.bad l.net ≡ g.M.Lending.bad l.fn.net) × (g.M.Lending.ended l.net ≡ g.M.Lending.ended l.fn.net) × (g.M.Lending.name l.net ≡ g.M.Lending.name l.fn.net)
