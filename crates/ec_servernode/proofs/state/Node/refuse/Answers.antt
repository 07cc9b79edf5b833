use Rattle.std.proofs.Common.{◌≡◌, ◌⊎◌, [], Some, false, refl, sym, ap, subst, ◌∙◌, length, inl, arith, rules}
use Rattle.ec_servernode.specs.Callers.{IsRefusal, refusal_sent, msg_of}
use Rattle.ec_servernode.specs.declared.step.Deed.TheVariants.{Refused}
use Rattle.ec_servernode.specs.declared.step.Step.{Step}
use Rattle.ec_servernode.specs.Run.{caller_by}
use Rattle.ec_servernode.proofs.Nodes.{gave, giving_refusal}
use Rattle.ec_servernode.proofs.Served.{grows}
use Rattle.ec_servernode.proofs.Ends.{no_more, added-nil}
use Rattle.ec_servernode.proofs.Runs.{caller-push}
use Rattle.ec_servernode.proofs.state.Node.refuse.Goals as goal

pub returns-in-Done-clause-keeps : goal.returns-in-Done-clause-keeps
returns-in-Done-clause-keeps g c first s =
    gave g.K.Keeper.kept g.K.Keeper.counts g.K.Keeper.did g.K.Keeper.broke c.args.pass (Refused c.of.result) c.args.self.now c.add.new.self
    (giving_refusal g.K.Keeper.kept g.K.Keeper.counts g.K.Keeper.did g.K.Keeper.broke c.args.pass c.of.result c.args.self.now c.add.new.self c.requires.up.1 c.requires.up.0 s.sized
    (subst (λ o. IsRefusal o c.of.result.value) (sym c.requires.refusal ∙ ap (λ k. k.refusal) c.requires.caller) c.of.ensures) c.add.ensures.list c.add.ensures.others) first s

pub returns-in-Done-clause-gives : goal.returns-in-Done-clause-gives
returns-in-Done-clause-gives g c =
    let x : Step = record { pass = c.args.pass; deed = Refused c.of.result; lost = false } in
    (x, msg_of c.args.to.refusal, (c.add.ensures.list, (refl, tt)), (subst (λ o. IsRefusal o (msg_of c.args.to.refusal)) (sym c.requires.refusal) refl, c.of.ensures), c.in-Done.ensures.got, ap (λ n. n.halt) c.add.ensures.others ∙ c.requires.up.0)

pub returns-in-Done-clause-caller : goal.returns-in-Done-clause-caller
returns-in-Done-clause-caller g c =
    let x : Step = record { pass = c.args.pass; deed = Refused c.of.result; lost = false } in
    ap (caller_by c.args.pass) c.add.ensures.list ∙ (caller-push c.args.pass c.args.self.now.trace.items x refl ∙ ap refusal_sent (sym c.requires.caller))

pub returns-in-Done-clause-counts : goal.returns-in-Done-clause-counts
returns-in-Done-clause-counts g c = (grows _ _ _ c.send_one.ensures.faults, c.send_one.ensures.closes)

pub returns-in-Failed-clause-keeps : goal.returns-in-Failed-clause-keeps
returns-in-Failed-clause-keeps g c first s = s

pub returns-in-Failed-clause-gives : goal.returns-in-Failed-clause-gives
returns-in-Failed-clause-gives g c = (
  (no_more c.args.pass c.args.self.now c.args.self.now refl, c.in-Failed.ensures.faults, c.requires.up.0, c.requires.up.1, inl (c.args.to.refusal, c.requires.refusal)),
  c.in-Failed.ensures.got ∙ added-nil _,
)

pub returns-in-Failed-clause-counts : goal.returns-in-Failed-clause-counts
returns-in-Failed-clause-counts g c = (grows _ _ _ c.send_one.ensures.faults, c.send_one.ensures.closes)

pub returns-clause-keeps : goal.returns-clause-keeps
returns-clause-keeps g c first s = s

pub returns-clause-gives : goal.returns-clause-gives
returns-clause-gives g c = (no_more c.args.pass c.args.self.now c.args.self.now refl, c.in-NoMemory.ensures.got ∙ added-nil _)

pub returns-clause-counts : goal.returns-clause-counts
returns-clause-counts g c = (grows _ _ _ c.send_one.ensures.faults, c.send_one.ensures.closes)
