use Rattle.std.proofs.Common.{sym, ap, subst, ◌∙◌}
use Rattle.ec_servernode.specs.declared.step.Deed.TheVariants.{Took}
use Rattle.ec_servernode.specs.Callers.{hello_in, accepted, refusal_in, posted}
use Rattle.ec_servernode.specs.Steps.{Grew}
use Rattle.ec_servernode.specs.Told.{IsToldOf}
use Rattle.ec_servernode.proofs.state.Node.took.Goals as goal

pub returns-clause-grew : goal.returns-clause-grew
returns-clause-grew g c =
    let served = c.args.served in
    let sent = c.posted-sent.ensures ∙ ap posted c.into_vec.ensures in
    let refusal = c.refusal_in-refusal.ensures ∙ ap refusal_in c.as_slice.ensures in
    let hello = c.accepted-hello.ensures ∙ (ap (λ r. accepted r c.hello_in.result) refusal ∙ ap (λ h. accepted (refusal_in served.sent) h) c.hello_in.ensures) in
    record {
      shot = c.of.result;
      copy = c.of-2.result;
      shot_is = c.of.ensures;
      copy_is = c.of-2.ensures;
      grew = subst (λ l. Grew c.args.pass (Took c.args.from c.args.body c.of.result c.of-2.result) (accepted (refusal_in served.sent) (hello_in c.args.msg.now)) l c.args.self.now c.grow.new.self) sent
          (subst (λ h. Grew c.args.pass (Took c.args.from c.args.body c.of.result c.of-2.result) h c.posted-sent.result.items c.args.self.now c.grow.new.self) hello c.grow.ensures);
    }

pub returns-clause-told : goal.returns-clause-told
returns-clause-told g c = subst (IsToldOf c.told_of.result) (c.as_slice-2.ensures.value ∙ (c.posted-sent.ensures ∙ ap posted c.into_vec.ensures)) c.told_of.ensures

pub returns-clause-hello : goal.returns-clause-hello
returns-clause-hello g c =
    let refusal = c.refusal_in-refusal.ensures ∙ ap refusal_in c.as_slice.ensures in
    c.accepted-hello.ensures ∙ (ap (λ r. accepted r c.hello_in.result) refusal ∙ ap (λ h. accepted (refusal_in c.args.served.sent) h) c.hello_in.ensures)

pub returns-clause-refusal : goal.returns-clause-refusal
returns-clause-refusal g c = c.refusal_in-refusal.ensures ∙ ap refusal_in c.as_slice.ensures
