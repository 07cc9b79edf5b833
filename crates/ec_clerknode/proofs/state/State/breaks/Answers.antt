use Rattle.std.proofs.Common.{◌≡◌, [], refl, rules}
use Rattle.ec_link.specs.declared.link.Sent.TheVariants as sent
use Rattle.ec_clerknode.specs.declared.step.Deed.TheVariants.{Broke}
use Rattle.ec_clerknode.proofs.state.State.breaks.Goals as goal

pub returns-clause-fell : goal.returns-clause-fell
returns-clause-fell g c =
    let none : c.of.result.value.items ≡ [] = search rules in
    record {
      same = refl;
      step = record { pass = c.args.pass; deed = Broke; outs = c.of.result; sent = 0; end = sent.NoMemory; floor = 0 };
      list = c.and-self.ensures;
      is = (refl, none, refl, refl, refl);
      pass_is = refl;
    }
