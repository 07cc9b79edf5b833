use Rattle.std.proofs.Common.{◌≡◌, false}
use Rattle.std.proofs.Math.Logic.{∥∥₁_elim}
use Rattle.std.specs.Coded.{Coded-set, coded_ℕ}
use Rattle.ec_history.specs.contracts.watch.Watch as watch_of_clerk
use Rattle.ec_world.proofs.lines.Lines.watch.Goals as goal

pub watch_of-requires : goal.watch_of-requires
watch_of-requires c =
    ∥∥₁_elim c.self.invariant (Coded-set coded_ℕ _ _) (λ k. let sound : c.self.inside.is_broken ≡ false = cc in let count = (k sound).watched.count in cc)

pub returns : goal.returns
returns c =
    ∥∥₁_elim c.self.invariant (Coded-set watch_of_clerk.the_row.coded _ _)
    (λ k. let sound : c.self.inside.is_broken ≡ false = cc in let each = (k sound).watched.each c.args.clerk c.watch_of.ensures.below in cc)
