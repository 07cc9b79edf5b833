use Rattle.std.proofs.Common.{◌≡◌, ◌+◌, ◌-◌, ◌<◌, ℕ, suc, List, [], ◌∷◌, ◌++◌, refl, sym, ◌∙◌, ap, append_assoc, arith}
use Rattle.ec_sessions.specs.Slots.{run}
use Rattle.ec_doing.proofs.holdings.granting.push_run.Goals as goal
use Rattle.ec_doing.proofs.holdings.granting.push_run.Goals.{in-Some+in_ok-push, in_default}

run_next : (first left rest : ℕ) → left ≡ suc rest → run first left ≡ first ∷ run (first + 1) rest
run_next first left rest e = ap (run first) e

-- one more id is pushed
pushed : (old new all : List ℕ) (first count offset id : ℕ) → offset < count → new ≡ old ++ id ∷ [] → id ≡ first + offset → old ++ run (first + offset) (count - offset) ≡ all → new ++ run (first + (offset + 1)) (count - (offset + 1)) ≡ all
pushed old new all first count offset id l e at h =
    let rest = run (first + (offset + 1)) (count - (offset + 1)) in
    let left : run (first + offset) (count - offset) ≡ (first + offset) ∷ rest =
    run_next (first + offset) (count - offset) (count - (offset + 1)) (omega arith)
    ∙ ap (λ k. (first + offset) ∷ run k (count - (offset + 1))) (omega arith) in
    ap (λ x. x ++ rest) e ∙ append_assoc old (id ∷ []) rest ∙ ap (λ k. old ++ k ∷ rest) at ∙ sym (ap (λ x. old ++ x) left) ∙ h

pub loop-offset-preserved : goal.loop-offset-preserved
loop-offset-preserved c =
    elim c.match-new.branch [
      | in-Some+in_ok-push w ↦
          rw w.ids-is (pushed c.loop-offset.ids.items w.push.new.self.items (c.args.ids.now.items ++ run c.args.first c.args.count) c.args.first c.args.count c.loop-offset.offset w.in-Some.id c.loop-offset-test.true
          w.in_ok-push.ensures.items (omega (arith, w.in-Some.ensures.some)) c.loop-offset.invariant)
      | in_default w ↦
          let zero : c.args.first + c.loop-offset.offset ≡ 0 = w.in_default.ensures.none.0 refl in
          absurd (omega (arith, zero, c.requires.from_one))
    ]
