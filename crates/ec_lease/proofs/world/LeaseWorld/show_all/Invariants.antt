use Rattle.std.proofs.Common.{◌≡◌, ◌++◌}
use Rattle.std.specs.Prelude.{map}
use Rattle.ec_lease_machine.specs.declared.world.LeaseShown.TheVariants as show
use Rattle.ec_lease.proofs.world.LeaseWorld.show_all.Given as goal

abbrev pub invariant-lines : goal.invariant-lines
invariant-lines l = (l.self.piece.items ≡ l.fn.self.piece.items ++ map show.Line l.yielded) × (l.self.world ≡ l.fn.self.world) × (l.self.book ≡ l.fn.self.book)
