use Rattle.std.proofs.Common.{refl, sym, subst}
use Rattle.ec_judge.specs.Carried.{AreLaid}
use Rattle.ec_judge.proofs.Restored.{laid-push}
use Rattle.ec_judge.proofs.starts.keep.Goals as goal

pub returns-clause-laid : goal.returns-clause-laid
returns-clause-laid c n within h =
    subst (λ ks. AreLaid ks n c.carry_out.new.self) (sym c.in_ok-push.ensures.items)
    (laid-push c.args.kept.now.items _ n c.args.volume.now c.carry_out.new.self within c.in_ok-carry_out.ensures.own ((rw c.if-not-branch.false at c.in_ok-carry_out.ensures.laid) refl) h)
