-- The calls, where who linked again beside them has come back.
use Rattle.std.proofs.Common.{◌≡◌, ℕ, List, [], Result, Ok, Err, sym, ap, ◌∙◌, subst}
use mathlib.Core.List.{IsPrefix}
use Rattle.ec_plain.specs.declared.call.Call.{Call}
use Rattle.ec_plain.specs.declared.call.Call.TheVariants.{Sync}
use Rattle.ec_lock.specs.PassViews.{front, numbers}
use Rattle.ec_lock.specs.Steps.{Member, of}
use Rattle.ec_lock.specs.declared.types.Pass.{Pass}
use Rattle.ec_lock.specs.declared.types.TracedLock.{TracedLock}
use Rattle.ec_outs.specs.Outs.{Reply}
use Rattle.ec_clerknode.specs.declared.fault.NodeFault.{NodeFault}
use Rattle.ec_clerknode.specs.declared.state.Node.{Node}
use Rattle.ec_clerknode.specs.declared.step.Step.{Step}
use Rattle.ec_clerknode.specs.Run.{calls}
use Rattle.ec_clerknode.specs.Turns.{number_of, calls_by, Replied, SaidBye}
use Rattle.ec_clerknode.proofs.Lists.{prefix_get}
use Rattle.ec_mount.specs.Run.{Holds}
use Rattle.ec_mount.specs.Calls.{Drew, HoldsAll, FrontsStand, CallsEnd, Called}
use Rattle.ec_mount.proofs.Causes.{has_longer}
use Rattle.ec_mount.proofs.Passing.{Joins, said_more}
use Rattle.ec_base.proofs.Lists.{prefix_trans}
use Rattle.ec_lock.proofs.Numbers.{member_left}

-- a pass has begun no call where its list was empty
pub no_calls : {L : Type 0} (old own : Pass (Node L) Step) → front old ≡ [] → own.number ≡ old.number → of number_of old.number (front old) ≡ of number_of old.number (front own) → calls_by own.number (front own) ≡ []
no_calls old own none number same = ap (λ n. calls_by n (front own)) number ∙ (sym (ap calls same) ∙ ap (calls_by old.number) none)

module _ {L : Type 0} (lock : TracedLock (Node L) Step) (old own called back joined : Pass (Node L) Step) (drew : Drew lock old own) (p : Joins lock called back joined) (lanes : List (List Call)) (all : List (List Reply)) where
  within_joined : (n : ℕ) → Member n (numbers called) → Member n (numbers joined)
  within_joined n m = subst (Member n) (sym p.both) (member_left n (numbers called) (numbers back) m)

  fronts_joined : FrontsStand lock called lanes all → FrontsStand lock joined lanes all
  fronts_joined h = record {
    passes = h.passes;
    distinct = h.distinct;
    other = λ m. h.other (subst (λ n. Member n h.passes) p.number m);
    within = λ n m. within_joined n (h.within n m);
    before = h.before;
    ran = h.ran;
    fronts = h.fronts;
    later = prefix_trans h.ran (front called) (front joined) h.later p.later;
    once = λ n m. h.once n m ∙ p.own n (h.within n m);
  }

  module _ (mine : Member called.number (numbers called)) where
    holds_of : (last : Reply) → HoldsAll lock called lanes all last → Holds joined.number lanes (front joined) all last
    holds_of last h = let k = h.holds in record {
      passes = k.passes;
      distinct = k.distinct;
      other = λ m. k.other (subst (λ n. Member n k.passes) p.number m);
      before = k.before;
      ran = k.ran;
      idle = k.idle;
      synced = k.synced;
      lanes_done = k.lanes_done;
      first_then = k.first_then;
      sync = subst (λ n. Replied n Sync k.idle k.synced last) (sym p.number) k.sync;
      later = prefix_trans k.synced (front called) (front joined) k.later p.later;
      lanes_once = λ n m. k.lanes_once n m ∙ p.own n (h.within n m);
      sync_once = ap (λ n. calls_by n (front joined)) p.number ∙ (sym (ap calls (p.own called.number mine)) ∙ k.sync_once);
      goodbye = let g = k.goodbye in subst (λ n. SaidBye n k.synced (front joined)) (sym p.number) (g.0, g.1, g.2, prefix_get (front called) (front joined) g.0 g.1 p.later g.3, g.4, g.5);
    }

    holds_joined : (last : Reply) → HoldsAll lock called lanes all last → HoldsAll lock joined lanes all last
    unfolding holds_of
    holds_joined last h = record { holds = holds_of last h; within = λ n m. within_joined n (h.within n m) }

    end_joined : (last : Result Reply NodeFault) → CallsEnd lock called lanes all last → CallsEnd lock joined lanes all last
    end_joined (Ok last) d = holds_joined last d
    end_joined (Err f) d = (has_longer (front called) (front joined) p.later f d.0, said_more f (FrontsStand lock called lanes all) (FrontsStand lock joined lanes all) fronts_joined d.1)

  pub called_joined : (last : Result Reply NodeFault) → Called lock own lanes called all last → Called lock old lanes joined all last
  called_joined last c = record {
    is_pass = p.is_pass;
    number = p.number ∙ (c.number ∙ drew.same.0);
    later = prefix_trans (front old) (front own) (front joined) drew.later (prefix_trans (front own) (front called) (front joined) c.later p.later);
    done = end_joined c.is_pass.1 last c.done;
  }
