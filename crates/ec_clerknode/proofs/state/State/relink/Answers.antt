use Rattle.std.proofs.Common.{◌+◌, refl, sym, ◌∙◌, subst}
use Rattle.ec_link.specs.NetAnswers.{IsEmpty}
use Rattle.ec_clerknode.proofs.Nodes.{greets}
use Rattle.ec_clerknode.proofs.state.State.relink.Goals as goal

pub returns-clause-keeps : goal.returns-clause-keeps
returns-clause-keeps g c =
    let may = c.may_relink.ensures c.if-not-may_relink.false in
    let step = c.add_step.ensures in
    let there = sym c.replace-old.ensures.after in
    greets (λ l. g.L.Link.faults l + g.L.Link.closes l) g.L.Link.given g.L.Link.got c.args.pass c.in-Ok.outs.items step.0 c.args.self.now c.add_step.new.self c.replace-old.new.dest may.0 may.2 (subst (λ l. IsEmpty (g.L.Link.given l)) there c.requires.0) (subst (λ l. IsEmpty (g.L.Link.got l)) there c.requires.1) c.in-Ok.ensures step.1

pub returns-clause-ok : goal.returns-clause-ok
returns-clause-ok g c =
    let may = c.may_relink.ensures c.if-not-may_relink.false in
    let step = c.add_step.ensures in
    (c.replace-old.ensures.value, may.0, may.2, (step.0, step.1.deed_is, (step.1.list, (step.1.pass_is, tt))))
