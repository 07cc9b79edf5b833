use Rattle.std.proofs.Common.{None, sym, ap, subst, ◌∙◌}
use Rattle.ec_servernode.specs.declared.step.Deed.TheVariants.{Ended}
use Rattle.ec_servernode.specs.Steps.{Grew}
use Rattle.ec_servernode.specs.Told.{IsToldOf}
use Rattle.ec_servernode.proofs.state.Node.ended.Goals as goal

pub returns-clause-grew : goal.returns-clause-grew
returns-clause-grew g c = record {
  copy = c.of.result;
  copy_is = c.of.ensures;
  grew = subst (λ l. Grew c.args.pass (Ended c.args.clerk c.of.result) None l c.args.self.now c.grow.new.self) c.into_vec.ensures c.grow.ensures;
}

pub returns-clause-told : goal.returns-clause-told
returns-clause-told g c = subst (IsToldOf c.told_of-told.result) c.as_slice.ensures c.told_of-told.ensures
