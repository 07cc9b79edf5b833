use Rattle.std.proofs.Common.{◌∙◌, sym, ap}
use Rattle.ec_outs.specs.Outs.{old_boot_of}
use Rattle.ec_outs.proofs.Each.{each-first}
use Rattle.ec_outs.proofs.kept.first_old.Goals as goal
use Rattle.ec_base.specs.Lists.{first_of}

pub returns-in-OldBoot : goal.returns-in-OldBoot
returns-in-OldBoot c =
    let r = each-first old_boot_of c.args.outs.now c.loop-out.out-index c.out-item.result c.in-OldBoot.age _ c.loop-out.invariant c.loop-out-test.true (ap old_boot_of (sym c.out-item.is ∙ c.in-OldBoot.is)) in
    sym (ap first_of r.1)
