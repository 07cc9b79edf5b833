-- Passes of the lock, the value that it's made with, and what is handed back.
use Rattle.std.proofs.Common.{◌≡◌, ℕ, ◌<◌, ◌⊎◌, Bool, true, false, cond, List, [], length, Some, None, IfNone, sym, refl, ap, ◌∙◌, subst, ⊎_elim, inl, arith}
use mathlib.Core.List.{IsPrefix}
use Rattle.ec_base.specs.Limits.{clerk_count}
use Rattle.ec_disk.specs.Disk.{Counts}
use Rattle.ec_durable.specs.declared.state.Durable.{Durable}
use Rattle.ec_durable.specs.declared.record.Record.{Record}
use Rattle.ec_server.specs.Servers.{StandsOn}
use Rattle.ec_lock.specs.PassViews.{first, front, IsPassOf, Reached, Same}
use Rattle.ec_lock.specs.Steps.{of}
use Rattle.ec_lock.specs.declared.types.Pass.{Pass}
use Rattle.ec_lock.specs.declared.types.TracedLock.{TracedLock}
use Rattle.ec_servernode.specs.declared.step.Step.{Step}
use Rattle.ec_servernode.specs.declared.state.Node.{Node}
use Rattle.ec_servernode.specs.declared.caller.Caller.{Caller}
use Rattle.ec_servernode.specs.declared.passes.ServerPass.{ServerPass}
use Rattle.ec_servernode.specs.Callers.{nobody}
use Rattle.ec_servernode.specs.Breaking.{Broken}
use Rattle.ec_servernode.specs.Run.{number_of, caller_from, caller_by, leads, records, halted, box_from, owner, IsRun}
use Rattle.ec_servernode.specs.Node.{queue_at, owner_at, Chain, ChainInDoubt, CountsUp, state_of, Since}
use Rattle.ec_servernode.specs.TurnSteps.{More, RunsFrom, IsServerPass, Finished}
use Rattle.ec_servernode.proofs.Runs.{no_run}
use Rattle.ec_servernode.proofs.Counts.{no_halt_up}
use Rattle.ec_base.proofs.Lists.{prefix_trans}

pub goes : {K : Type 0} (pass : ℕ) (before after : List Step) (v w : Node K) → IsPrefix before v.trace.items → (more : List Step) × More pass v w more → after ≡ w.trace.items → IsPrefix before after
goes pass before after v w later m is = subst (IsPrefix before) (sym is) (prefix_trans before v.trace.items w.trace.items later (m.0, sym m.1.0))

pub same_both : {V S : Type 0} (a b c : Pass V S) → Same a b → Same b c → Same a c
same_both a b c p q = (q.0 ∙ p.0, q.1 ∙ p.1, q.2 ∙ p.2, q.3 ∙ p.3)

pub either : {A : Type 0} (P : A → Type 0) (f g h : A) → (h ≡ f) ⊎ (h ≡ g) → P f → P g → P h
either P f g h e p q = ⊎_elim (λ (x : h ≡ f). subst P (sym x) p) (λ (x : h ≡ g). subst P (sym x) q) e

module _ {K : Type 0} (kept : K → Durable) (lock : TracedLock (Node K) Step) where
  -- a pass whose front has grown by steps of others
  pub still : (old new : ServerPass K) → IsServerPass kept lock old → IsPassOf lock new.pass → new.pass.number ≡ old.pass.number → RunsFrom kept (first lock) (front new.pass) → of number_of old.pass.number (front old.pass) ≡ of number_of old.pass.number (front new.pass)
      → new.caller ≡ old.caller → IsServerPass kept lock new
  still old new p is number run own same = record {
    is_pass = is;
    run = run;
    caller_is = same ∙ (p.caller_is ∙ (ap (caller_from nobody) own ∙ ap (λ n. caller_by n (front new.pass)) (sym number)));
    below = subst (λ (k : Caller). k.clerk < clerk_count) (sym same) p.below;
  }

  -- a pass that has made no step
  pub begins_as : (new : ServerPass K) (steps : List Step) → IsPassOf lock new.pass → front new.pass ≡ steps → RunsFrom kept (first lock) steps → of number_of new.pass.number steps ≡ [] → new.caller ≡ nobody → IsServerPass kept lock new
  begins_as new steps is list run none e = record {
    is_pass = is;
    run = subst (RunsFrom kept (first lock)) (sym list) run;
    caller_is = e ∙ sym (ap (caller_by new.pass.number) list ∙ ap (caller_from nobody) none);
    below = subst (λ (k : Caller). k.clerk < clerk_count) (sym e) (omega arith);
  }

module _ {K : Type 0} (kept : K → Durable) (counts : K → Counts) (did breaks : K → Record → K → Type 0) where
  pub reached_run : (start : Node K) (steps : List Step) → Reached (λ (n : Node K). n.trace.items) (Since kept counts did breaks) start steps → RunsFrom kept start steps
  reached_run start steps r = subst (RunsFrom kept start) r.2 r.1.run

  -- the value that a lock is made with
  pub begins : (n : Node K) → n.trace.items ≡ [] → n.steps ≡ 0 → n.halt ≡ None → n.broken ≡ false → StandsOn (kept n.keeper) n.server → length n.boxes.items ≡ clerk_count → ((c : ℕ) → owner_at n.boxes.items c ≡ None) → Since kept counts did breaks n n
  begins n list steps halt up stands sized owners = record {
    run = subst (IsRun (state_of kept n) (queue_at n.boxes.items)) (sym list) (no_run (state_of kept n) (queue_at n.boxes.items));
    counted = steps ∙ sym (ap length list);
    leads_to = λ _. ap (leads (state_of kept n)) list;
    stands = stands;
    chain = λ _. subst (λ l. Chain did (records l) n.keeper n.keeper) (sym list) refl;
    doubt = (n.keeper, subst (λ l. Chain did (records l) n.keeper n.keeper) (sym list) refl, inl refl);
    sized = sized;
    boxes = λ _ c le. sym (ap (box_from c (queue_at n.boxes.items c)) list);
    owners = λ _ c le. owners c ∙ sym (ap (owner c) list);
    halt_is = halt ∙ sym (ap halted list);
    wanted = λ down. absurd (cc (sym up ∙ down));
    counted_up = subst (λ h. CountsUp h (counts n.keeper) (counts n.keeper)) (sym (ap halted list)) (no_halt_up (counts n.keeper));
  }

  module _ (start v : Node K) (steps : List Step) (is : steps ≡ v.trace.items) (s : Since kept counts did breaks start v) where
    counted : CountsUp (halted steps) (counts start.keeper) (counts v.keeper)
    counted = subst (λ l. CountsUp (halted l) (counts start.keeper) (counts v.keeper)) (sym is) s.counted_up

    finished_none : Finished kept counts did breaks start steps None v.keeper
    finished_none = (subst (λ l. ChainInDoubt did breaks (records l) start.keeper v.keeper) (sym is) s.doubt, counted)

    finished_some : v.broken ≡ false → Finished kept counts did breaks start steps (Some v.server) v.keeper
    finished_some up = (ap (leads (state_of kept start)) is ∙ s.leads_to up, subst (λ l. Chain did (records l) start.keeper v.keeper) (sym is) (s.chain up), counted)

    pub finished : (broken : Bool) → v.broken ≡ broken → Finished kept counts did breaks start steps (cond broken None (Some v.server)) v.keeper
    finished true e = finished_none
    finished false up = finished_some up

    -- there is no server only where one of the steps broke it
    pub broken_then : (broken : Bool) → v.broken ≡ broken → IfNone (cond broken None (Some v.server)) (Broken steps)
    broken_then true e = subst Broken (sym is) (s.wanted e)
    broken_then false up = tt
