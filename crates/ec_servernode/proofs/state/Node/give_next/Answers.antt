use Rattle.std.proofs.Common.{◌≡◌, ◌⊎◌, [], Some, true, false, refl, sym, ap, subst, ◌∙◌, length, inl, inr, ⊎_elim, arith, rules}
use Rattle.ec_servernode.specs.Run.{is_for}
use Rattle.ec_servernode.specs.Node.{queue_at, owner_at}
use Rattle.ec_servernode.specs.declared.step.Deed.TheVariants.{Gave}
use Rattle.ec_servernode.specs.declared.step.Step.{Step}
use Rattle.ec_servernode.proofs.Nodes.{gave, giving_next}
use Rattle.ec_servernode.proofs.Served.{grows}
use Rattle.ec_servernode.proofs.Ends.{same_caller, as_answered, no_more, boxes_are, added-nil, not_greeted}
use Rattle.ec_servernode.proofs.state.Node.give_next.Goals as goal
use Rattle.ec_base.specs.Lists.{first_of}

pub next_for-requires : goal.next_for-requires
next_for-requires g c = ap (λ l. length l) c.deref.ensures.value ∙ c.requires.sized

pub drop_first-requires : goal.drop_first-requires
drop_first-requires g c = c.requires.sized

pub returns-in-None-clause-keeps : goal.returns-in-None-clause-keeps
returns-in-None-clause-keeps g c first s = s

pub returns-in-None-clause-gives : goal.returns-in-None-clause-gives
returns-in-None-clause-gives g c =
    let clerk = c.args.caller.now.clerk in
    let none = subst (λ l. (queue_at l clerk ≡ []) ⊎ (is_for c.args.pass (owner_at l clerk) ≡ false)) c.deref.ensures.value c.in-None.ensures.none in (
      no_more c.args.pass c.args.self.now c.args.self.now refl,
      refl,
      c.requires.up.0,
      c.requires.up.1,
      c.requires.refusal,
      ⊎_elim (λ (e : queue_at c.args.self.now.boxes.items clerk ≡ []). inl e)
          (λ (e : is_for c.args.pass (owner_at c.args.self.now.boxes.items clerk) ≡ false). inr (not_greeted c.args.caller.now.has_greeted _ c.requires.mine e, e)) none,
      c.requires.mine,
    )

pub returns-in-None-clause-counts : goal.returns-in-None-clause-counts
returns-in-None-clause-counts g c = (omega arith, omega arith)

pub returns-in-Done-clause-keeps : goal.returns-in-Done-clause-keeps
returns-in-Done-clause-keeps g c =
    let bs = c.deref.ensures.value in
    let clerk = c.args.caller.now.clerk in
    gave g.K.Keeper.kept g.K.Keeper.counts g.K.Keeper.did g.K.Keeper.broke c.args.pass (Gave clerk c.of-shot.result) c.args.self.now c.add.new.self
    (giving_next g.K.Keeper.kept g.K.Keeper.counts g.K.Keeper.did g.K.Keeper.broke c.args.pass clerk c.of-shot.result c.args.self.now c.add.new.self c.requires.up.1 c.requires.up.0 c.requires.below
    (sym (ap (λ k. k.refusal) c.requires.caller) ∙ c.requires.refusal) (ap (λ k. k.clerk) c.requires.caller)
    (ap (λ l. is_for c.args.pass (owner_at l clerk)) (sym bs) ∙ c.in-Some.ensures.some.0)
    (ap (λ l. first_of (queue_at l clerk)) (sym bs) ∙ (c.in-Some.ensures.some.1 ∙ ap (λ m. Some m) (sym c.of-shot.ensures)))
    (λ k. ap (λ n. queue_at n.boxes.items k) c.add.ensures.others ∙ c.drop_first.ensures.dropped k)
    (λ k. ap (λ n. owner_at n.boxes.items k) c.add.ensures.others ∙ c.drop_first.ensures.owners k)
    (ap (λ n. length n.boxes.items) c.add.ensures.others ∙ c.drop_first.ensures.sized)
    c.add.ensures.list (boxes_are c.args.self.now c.add.new.self c.drop_first.new.boxes c.add.ensures.others))

pub returns-in-Done-clause-gives : goal.returns-in-Done-clause-gives
returns-in-Done-clause-gives g c =
    let x : Step = record { pass = c.args.pass; deed = Gave c.args.caller.now.clerk c.of-shot.result; lost = false } in
    (x, c.in-Some.msg.now, (c.add.ensures.list, (refl, tt)), (c.requires.refusal, refl, c.of-shot.ensures), c.in-Done.ensures.got, ap (λ n. n.halt) c.add.ensures.others ∙ c.requires.up.0)

pub returns-in-Done-clause-caller : goal.returns-in-Done-clause-caller
returns-in-Done-clause-caller g c =
    let x : Step = record { pass = c.args.pass; deed = Gave c.args.caller.now.clerk c.of-shot.result; lost = false } in
    same_caller c.args.pass c.args.self.now.trace.items c.add.new.self.trace.items x c.add.ensures.list refl refl ∙ (sym c.requires.caller ∙ as_answered c.args.caller.now c.requires.refusal)

pub returns-in-Done-clause-counts : goal.returns-in-Done-clause-counts
returns-in-Done-clause-counts g c = (grows _ _ _ c.send_one.ensures.faults, c.send_one.ensures.closes)

pub returns-in-Failed-clause-keeps : goal.returns-in-Failed-clause-keeps
returns-in-Failed-clause-keeps g c first s = s

pub returns-in-Failed-clause-gives : goal.returns-in-Failed-clause-gives
returns-in-Failed-clause-gives g c =
    let bs = c.deref.ensures.value in
    let clerk = c.args.caller.now.clerk in (
      (
        no_more c.args.pass c.args.self.now c.args.self.now refl,
        c.in-Failed.ensures.faults,
        c.requires.up.0,
        c.requires.up.1,
        inr (ap (λ l. is_for c.args.pass (owner_at l clerk)) (sym bs) ∙ c.in-Some.ensures.some.0, (c.in-Some.msg.now, ap (λ l. first_of (queue_at l clerk)) (sym bs) ∙ c.in-Some.ensures.some.1)),
      ),
      c.in-Failed.ensures.got ∙ added-nil _,
    )

pub returns-in-Failed-clause-counts : goal.returns-in-Failed-clause-counts
returns-in-Failed-clause-counts g c = (grows _ _ _ c.send_one.ensures.faults, c.send_one.ensures.closes)

pub returns-in-NoMemory-clause-keeps : goal.returns-in-NoMemory-clause-keeps
returns-in-NoMemory-clause-keeps g c first s = s

pub returns-in-NoMemory-clause-gives : goal.returns-in-NoMemory-clause-gives
returns-in-NoMemory-clause-gives g c = (no_more c.args.pass c.args.self.now c.args.self.now refl, c.in-NoMemory.ensures.got ∙ added-nil _)

pub returns-in-NoMemory-clause-counts : goal.returns-in-NoMemory-clause-counts
returns-in-NoMemory-clause-counts g c = (grows _ _ _ c.send_one.ensures.faults, c.send_one.ensures.closes)
