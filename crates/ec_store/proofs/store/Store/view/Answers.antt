use Rattle.std.proofs.Math.Logic.{∥∥₁_map}
use Rattle.ec_store.proofs.Ids.{next_from_one, grants_below}
use Rattle.ec_store.proofs.store.Store.view.Goals as goal

pub returns-clause-formed : goal.returns-clause-formed
returns-clause-formed c =
    let s = c.args.self.now in
    ∥∥₁_map s.formed (λ w. record { volume = w; order = s.order })

pub returns-clause-next : goal.returns-clause-next
returns-clause-next c =
    let s = c.args.self.now in
    next_from_one s.state s.formed s.order

pub returns-clause-grants : goal.returns-clause-grants
returns-clause-grants c =
    let s = c.args.self.now in
    grants_below s.state s.order
