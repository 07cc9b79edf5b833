use Rattle.std.proofs.Common.{◌≡◌, ℕ, List, length, subst}
use Rattle.ec_stands.specs.Stands.{IsBadAt}
use Rattle.ec_marking.proofs.OfKeeper.Opens.{rests_open, stood_there}
use Rattle.ec_marking.proofs.keeper.opening.open.Goals as goal

pub returns-else-bytes-eq0-clause-bad : goal.returns-else-bytes-eq0-clause-bad
returns-else-bytes-eq0-clause-bad g c = λ place is told. subst (λ (xs : List ℕ). IsBadAt xs place) (c.len.ensures.rests told).gives (c.open.ensures.bad place is told)

pub returns-else-bytes-eq0-clause-any_moment : goal.returns-else-bytes-eq0-clause-any_moment
returns-else-bytes-eq0-clause-any_moment g c = λ told full.
    let view = g.D.Disk.view in
    rests_open (view c.args.disk.now) (view c.len.new.self) (view c.open.new.disk) (λ image left. g.met.D.Disk.only_now told c.args.disk.now image left) (c.len.ensures.rests told) (c.open.ensures.any_moment told)

pub returns-else-bytes-eq0-clause-stands : goal.returns-else-bytes-eq0-clause-stands
returns-else-bytes-eq0-clause-stands g c =
    let view = g.D.Disk.view in
    stood_there c.open.result g.D.Disk.tells (length (view c.args.disk.now).gives ≡ 0 → ⊥) (view c.len.new.self).gives (view c.args.disk.now).gives (λ told. (c.len.ensures.rests told).gives) c.open.ensures.stands
