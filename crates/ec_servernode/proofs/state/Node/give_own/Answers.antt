use Rattle.std.proofs.Common.{◌≡◌, true, false, refl, sym, ap, subst, ◌∙◌, length, arith}
use Rattle.ec_servernode.specs.Run.{is_for}
use Rattle.ec_servernode.specs.Node.{owner_at}
use Rattle.ec_servernode.proofs.Ends.{no_more}
use Rattle.ec_servernode.proofs.state.Node.give_own.Goals as goal

pub is_others-requires : goal.is_others-requires
is_others-requires g c = ap (λ l. length l) c.deref.ensures.value ∙ c.requires.sized

pub returns-then-is_others-clause-keeps : goal.returns-then-is_others-clause-keeps
returns-then-is_others-clause-keeps g c first s = s

pub returns-then-is_others-clause-gives : goal.returns-then-is_others-clause-gives
returns-then-is_others-clause-gives g c =
    let others = c.is_others.ensures.others c.if-is_others.true in
    (no_more c.args.pass c.args.self.now c.args.self.now refl, refl, c.requires.up.0, c.requires.up.1, c.requires.refusal, others.0, subst (λ l. is_for c.args.pass (owner_at l c.args.caller.now.clerk) ≡ false) c.deref.ensures.value others.1)

pub returns-then-is_others-clause-counts : goal.returns-then-is_others-clause-counts
returns-then-is_others-clause-counts g c = (omega arith, omega arith)

pub give_next-requires-clause-mine : goal.give_next-requires-clause-mine
give_next-requires-clause-mine g c κs within = λ greeted. subst (λ l. is_for c.args.pass (owner_at l c.args.caller.now.clerk) ≡ true) c.deref.ensures.value (c.is_others.ensures.own c.if-is_others.false greeted)
