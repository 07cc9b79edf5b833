-- What passes bring back from the calls of a mount.
use Rattle.std.proofs.Common.{◌≡◌, ◌⊎◌, ℕ, List, [], ◌∷◌, ◌++◌, ◌<◌, Option, Some, None, Result, Ok, Err, IfSome, Vec, slice_index_or, arith, refl, sym, ap, ◌∙◌, subst, ⊎_elim}
use Rattle.std.specs.declared.alloc.Global.{Global}
use mathlib.Core.List.{IsPrefix}
use Rattle.ec_base.specs.declared.counter.Counter.TheVariants as counter
use Rattle.ec_plain.specs.declared.call.Call.{Call}
use Rattle.ec_plain.specs.declared.call.Call.TheVariants.{Sync}
use Rattle.ec_lock.specs.PassViews.{front, numbers, IsPassOf, Same}
use Rattle.ec_lock.specs.Steps.{Member, of}
use Rattle.ec_lock.specs.declared.types.Pass.{Pass}
use Rattle.ec_lock.specs.declared.types.TracedLock.{TracedLock}
use Rattle.ec_outs.specs.Outs.{Reply}
use Rattle.ec_clerknode.specs.declared.fault.NodeFault.{NodeFault}
use Rattle.ec_clerknode.specs.declared.fault.NodeFault.TheVariants as fault
use Rattle.ec_clerknode.specs.declared.state.Node.{Node}
use Rattle.ec_clerknode.specs.declared.step.Step.{Step}
use Rattle.ec_clerknode.specs.Run.{calls}
use Rattle.ec_clerknode.specs.Turns.{number_of, calls_by, Replied, SaidBye}
use Rattle.ec_clerknode.specs.PassTurns.{Turned, Failed, Worked}
use Rattle.ec_clerknode.specs.declared.jobs.AllReplied.{AllReplied}
use Rattle.ec_clerknode.specs.Lanes.{AreFronts}
use Rattle.ec_clerknode.specs.LaneRuns.{IfTold, LanesCame, LanesMade}
use Rattle.ec_clerknode.proofs.LanePasses.{whole_fronts}
use Rattle.ec_mount.specs.Run.{Has, Holds}
use Rattle.ec_mount.specs.declared.calls.Met.{Met}
use Rattle.ec_mount.specs.declared.calls.Met.TheVariants as met
use Rattle.ec_mount.specs.Calls.{IfSaid, Judges, Flushed, SideRan, Drew, LanesStand, FrontsStand, LanesEnd, RanBeside, Ended, Called}
use Rattle.ec_mount.proofs.Causes.{has_longer, failed_has, lane_has}
use Rattle.ec_base.proofs.Lists.{prefix_self, prefix_trans}
use Rattle.ec_lock.proofs.Numbers.{member_left, member_right}

-- What is said of the answers that came before a fault.

told_said : (f : NodeFault) (P Q : Type 0) → (f ≡ fault.Spent counter.Pass → ⊥) → (P → Q) → IfTold (Err f) P → IfSaid f Q
told_said fault.Net P Q free h p = h p
told_said (fault.Peer place) P Q free h p = h p
told_said (fault.Long n) P Q free h p = h p
told_said (fault.OldBoot age) P Q free h p = tt
told_said (fault.Spent c) P Q free h p = ⊎_elim (λ (e : c ≡ counter.Pass). absurd (free (ap fault.Spent e))) (λ (q : P). h q) p
told_said fault.NoMemory P Q free h p = tt

pub is_said : (f : NodeFault) (P : Type 0) → P → IfSaid f P
is_said fault.Net P p = p
is_said (fault.Peer place) P p = p
is_said (fault.Long n) P p = p
is_said (fault.OldBoot age) P p = tt
is_said (fault.Spent c) P p = p
is_said fault.NoMemory P p = tt

pub said_more : (f : NodeFault) (P Q : Type 0) → (P → Q) → IfSaid f P → IfSaid f Q
said_more fault.Net P Q h p = h p
said_more (fault.Peer place) P Q h p = h p
said_more (fault.Long n) P Q h p = h p
said_more (fault.OldBoot age) P Q h p = tt
said_more (fault.Spent c) P Q h p = h p
said_more fault.NoMemory P Q h p = tt

module _ {L : Type 0} (lock : TracedLock (Node L) Step) where
  -- The worker.

  pub flushed_none : (pass : Pass (Node L) Step) → IsPassOf lock pass → Flushed lock pass pass None
  flushed_none pass is = record { is_pass = is; same = (refl, refl); later = prefix_self (front pass); has = tt }

  module _ (old mid new : Pass (Node L) Step) (p : Flushed lock old mid None) (t : Turned lock mid new) where
    pub flushed_more : Flushed lock old new None
    flushed_more = record {
      is_pass = t.is_pass;
      same = (t.stays.0 ∙ p.same.0, t.stays.1 ∙ p.same.1);
      later = prefix_trans (front old) (front mid) (front new) p.later t.goes.1;
      has = tt;
    }

    pub flushed_fails : (n : ℕ) (f : NodeFault) → Failed n [] (front mid) (front new) f → Flushed lock old new (Some f)
    flushed_fails n f w = record {
      is_pass = t.is_pass;
      same = (t.stays.0 ∙ p.same.0, t.stays.1 ∙ p.same.1);
      later = prefix_trans (front old) (front mid) (front new) p.later t.goes.1;
      has = failed_has n [] (front mid) (front new) f w;
    }

  -- Both sides.

  module _ {S : Type 0} (pass : S → Pass (Node L) Step) (lanes : S → Option (Vec (List Call) Global)) (s t : S) (sides : List S) (ran : List (Pass (Node L) Step × Met)) (a b : Pass (Node L) Step) (all : AllReplied) (m : Option NodeFault)
      (are : sides ≡ s ∷ t ∷ []) (is : ran ≡ (a, met.Lanes all) ∷ (b, met.Worker m) ∷ [])
      (each : (i : ℕ) (d : Pass (Node L) Step × Met) (e : S) → i < 2 → SideRan lock (pass (slice_index_or sides i e)) (lanes (slice_index_or sides i e)) (slice_index_or ran i d).0 (slice_index_or ran i d).1) where
    pub first_ran : SideRan lock (pass s) (lanes s) a (met.Lanes all)
    first_ran = subst (λ (l : List (Pass (Node L) Step × Met)). SideRan lock (pass s) (lanes s) (slice_index_or {A = (Pass (Node L) Step × Met)} l 0 (a, met.Lanes all)).0 (slice_index_or {A = (Pass (Node L) Step × Met)} l 0 (a, met.Lanes all)).1) is
        (subst (λ (l : List S). SideRan lock (pass (slice_index_or l 0 s)) (lanes (slice_index_or l 0 s)) (slice_index_or {A = (Pass (Node L) Step × Met)} ran 0 (a, met.Lanes all)).0 (slice_index_or {A = (Pass (Node L) Step × Met)} ran 0 (a, met.Lanes all)).1) are (each 0 (a, met.Lanes all) s (omega arith)))

    pub second_ran : SideRan lock (pass t) (lanes t) b (met.Worker m)
    second_ran = subst (λ (l : List (Pass (Node L) Step × Met)). SideRan lock (pass t) (lanes t) (slice_index_or {A = (Pass (Node L) Step × Met)} l 1 (a, met.Lanes all)).0 (slice_index_or {A = (Pass (Node L) Step × Met)} l 1 (a, met.Lanes all)).1) is
        (subst (λ (l : List S). SideRan lock (pass (slice_index_or l 1 s)) (lanes (slice_index_or l 1 s)) (slice_index_or {A = (Pass (Node L) Step × Met)} ran 1 (a, met.Lanes all)).0 (slice_index_or {A = (Pass (Node L) Step × Met)} ran 1 (a, met.Lanes all)).1) are (each 1 (a, met.Lanes all) s (omega arith)))

  -- Passes that are drawn.

  pub drew_one : (old new : Pass (Node L) Step) → IsPassOf lock new → Same old new → IsPrefix (front old) (front new) → ((n : ℕ) → Member n (numbers old) → of number_of n (front old) ≡ of number_of n (front new)) → Drew lock old new
  drew_one old new is same later own = record { is_pass = is; same = same; later = later; own = own }

  pub drew_both : (old mid new : Pass (Node L) Step) → Drew lock old mid → Drew lock mid new → Drew lock old new
  drew_both old mid new p q = record {
    is_pass = q.is_pass;
    same = (q.same.0 ∙ p.same.0, q.same.1 ∙ p.same.1, q.same.2 ∙ p.same.2, q.same.3 ∙ p.same.3);
    later = prefix_trans (front old) (front mid) (front new) p.later q.later;
    own = λ n m. p.own n m ∙ q.own n (subst (Member n) (sym p.same.1) m);
  }

  -- The lanes beside the worker.

  -- another pass came into this one
  pub record Joins (old other new : Pass (Node L) Step) : Type 0 where
    pub is_pass : IsPassOf lock new
    pub number : new.number ≡ old.number
    pub later : IsPrefix (front old) (front new)
    pub other_later : IsPrefix (front other) (front new)
    pub own : (n : ℕ) → Member n (numbers old) → of number_of n (front old) ≡ of number_of n (front new)
    pub others : (n : ℕ) → Member n (numbers other) → of number_of n (front other) ≡ of number_of n (front new)
    pub apart : (n : ℕ) → Member n (numbers old) → Member n (numbers other) → ⊥
    pub both : numbers new ≡ numbers old ++ numbers other

  module _ (old own one two back worker mid joined : Pass (Node L) Step) (lanes : List (List Call)) (all : List (List Reply)) (end : Result (Unit {0}) NodeFault) (met : Option NodeFault)
      (is : IsPassOf lock old) (drew : Drew lock old own) (ran : LanesCame lock (front one) one lanes back all end) (flushed : Flushed lock two worker met) (p : Joins own back mid) (q : Joins mid worker joined) where
    own_number : joined.number ≡ own.number
    own_number = q.number ∙ p.number

    in_own : Member old.number (numbers own)
    in_own = subst (Member old.number) (sym drew.same.1) is.1

    in_mid : Member old.number (numbers mid)
    in_mid = subst (Member old.number) (sym p.both) (member_left old.number (numbers own) (numbers back) in_own)

    lane_in_back : (n : ℕ) → Member n ran.done.0 → Member n (numbers back)
    lane_in_back n m = subst (Member n) (sym ran.done.1) (member_right n (numbers one) ran.done.0 m)

    lane_in_mid : (n : ℕ) → Member n ran.done.0 → Member n (numbers mid)
    lane_in_mid n m = subst (Member n) (sym p.both) (member_right n (numbers own) (numbers back) (lane_in_back n m))

    back_later : IsPrefix (front back) (front joined)
    back_later = prefix_trans (front back) (front mid) (front joined) p.other_later q.later

    stand : (u : Unit {0}) → LanesMade ran.done.0 lanes (front one) (front back) all (Ok u) → LanesStand lock joined lanes all
    stand u d = record {
      passes = ran.done.0;
      distinct = ran.done.2;
      other = λ m. p.apart joined.number (subst (λ n. Member n (numbers own)) (sym own_number) drew.is_pass.1) (lane_in_back joined.number m);
      within = λ n m. subst (Member n) (sym q.both) (member_left n (numbers mid) (numbers worker) (lane_in_mid n m));
      before = front one;
      ran = front back;
      done = d;
      later = back_later;
      once = λ n m. p.others n (lane_in_back n m) ∙ q.own n (lane_in_mid n m);
    }

    fronts : AreFronts (front one) (front back) ran.done.0 lanes all → FrontsStand lock joined lanes all
    fronts d = record {
      passes = ran.done.0;
      distinct = ran.done.2;
      other = λ m. p.apart joined.number (subst (λ n. Member n (numbers own)) (sym own_number) drew.is_pass.1) (lane_in_back joined.number m);
      within = λ n m. subst (Member n) (sym q.both) (member_left n (numbers mid) (numbers worker) (lane_in_mid n m));
      before = front one;
      ran = front back;
      fronts = d;
      later = back_later;
      once = λ n m. p.others n (lane_in_back n m) ∙ q.own n (lane_in_mid n m);
    }

    lanes_failed : (f : NodeFault) → (f ≡ fault.Spent counter.Pass → ⊥) → LanesMade ran.done.0 lanes (front one) (front back) all (Err f) → LanesEnd lock joined lanes all (Err f)
    lanes_failed f free d = (
      has_longer (front back) (front joined) back_later f (lane_has ran.done.0 (front one) (front back) f free d.0),
      told_said f (AreFronts (front one) (front back) ran.done.0 lanes all) (FrontsStand lock joined lanes all) free fronts d.1,
    )

    worker_failed : (f : NodeFault) (u : Unit {0}) → LanesMade ran.done.0 lanes (front one) (front back) all (Ok u) → met ≡ Some f → LanesEnd lock joined lanes all (Err f)
    worker_failed f u d e = (
      has_longer (front worker) (front joined) q.other_later f (subst (λ m. IfSome m (λ g. Has g (front worker))) e flushed.has),
      is_said f (FrontsStand lock joined lanes all) (fronts (whole_fronts (front one) (front back) ran.done.0 lanes all d)),
    )

    worker_told : (f : NodeFault) → LanesMade ran.done.0 lanes (front one) (front back) all (Err fault.Net) → met ≡ Some f → LanesEnd lock joined lanes all (Err f)
    worker_told f d e = (
      has_longer (front worker) (front joined) q.other_later f (subst (λ m. IfSome m (λ g. Has g (front worker))) e flushed.has),
      is_said f (FrontsStand lock joined lanes all) (fronts d.1),
    )

    ends : (result : Result (Unit {0}) NodeFault) → Judges end met result → LanesEnd lock joined lanes all result
    ends (Ok u) j = stand u (subst (LanesMade ran.done.0 lanes (front one) (front back) all) j ran.done.4)
    ends (Err f) j =
        ⊎_elim (λ (e : f ≡ fault.NoMemory). subst (λ g. LanesEnd lock joined lanes all (Err g)) (sym e) (tt, tt))
        (λ (h : ((end ≡ Err f) × (f ≡ fault.Spent counter.Pass → ⊥)) ⊎ ((((u : Unit {0}) × (end ≡ Ok u)) ⊎ (end ≡ Err fault.Net)) × (met ≡ Some f))).
        ⊎_elim
        (λ (a : (end ≡ Err f) × (f ≡ fault.Spent counter.Pass → ⊥)). lanes_failed f a.1 (subst (LanesMade ran.done.0 lanes (front one) (front back) all) a.0 ran.done.4))
        (λ (b : (((u : Unit {0}) × (end ≡ Ok u)) ⊎ (end ≡ Err fault.Net)) × (met ≡ Some f)).
        ⊎_elim
        (λ (c : (u : Unit {0}) × (end ≡ Ok u)). worker_failed f c.0 (subst (LanesMade ran.done.0 lanes (front one) (front back) all) c.1 ran.done.4) b.1)
        (λ (c : end ≡ Err fault.Net). worker_told f (subst (LanesMade ran.done.0 lanes (front one) (front back) all) c ran.done.4) b.1)
        b.0)
        h)
        j

    pub ran_beside : (result : Result (Unit {0}) NodeFault) → Judges end met result → RanBeside lock old lanes joined all result
    ran_beside result j = record {
      is_pass = q.is_pass;
      number = own_number ∙ drew.same.0;
      later = prefix_trans (front old) (front own) (front joined) drew.later (prefix_trans (front own) (front mid) (front joined) p.later q.later);
      own = drew.own old.number is.1 ∙ (p.own old.number in_own ∙ q.own old.number in_mid);
      done = ends result j;
    }

  -- memory or a number was wanting
  pub beside_wants : (old own : Pass (Node L) Step) (lanes : List (List Call)) (all : List (List Reply)) (end : Result (Unit {0}) NodeFault) → IsPassOf lock old → Drew lock old own → end ≡ Err fault.NoMemory → RanBeside lock old lanes own all end
  beside_wants old own lanes all end is drew e = record {
    is_pass = drew.is_pass;
    number = drew.same.0;
    later = drew.later;
    own = drew.own old.number is.1;
    done = subst (λ g. LanesEnd lock own lanes all g) (sym e) (tt, tt);
  }

  -- The last sync.

  pub sync_fails : (old new : Pass (Node L) Step) (n : ℕ) (cs : List Call) (f : NodeFault) → Turned lock old new → Failed n cs (front old) (front new) f → Ended lock old new (Err f)
  sync_fails old new n cs f t w = record { is_pass = t.is_pass; same = (t.stays.0, t.stays.1); later = t.goes.1; others = t.others; done = failed_has n cs (front old) (front new) f w }

  module _ (old mid new : Pass (Node L) Step) (t : Turned lock old mid) (u : Turned lock mid new) where
    both_others : (n : ℕ) → Member n (numbers old) → ¬ (n ≡ old.number) → of number_of n (front old) ≡ of number_of n (front new)
    both_others n m ne = t.others n m ne ∙ u.others n (subst (Member n) (sym t.stays.1) m) (λ e. ne (e ∙ t.stays.0))

    pub bye_fails : (n : ℕ) (f : NodeFault) → Failed n [] (front mid) (front new) f → Ended lock old new (Err f)
    bye_fails n f w = record {
      is_pass = u.is_pass;
      same = (u.stays.0 ∙ t.stays.0, u.stays.1 ∙ t.stays.1);
      later = prefix_trans (front old) (front mid) (front new) t.goes.1 u.goes.1;
      others = both_others;
      done = failed_has n [] (front mid) (front new) f w;
    }

    pub bye_done : {A : Type 0} (last : Reply) (x : A) → Replied old.number Sync (front old) (front mid) last → Worked mid.number (front mid) (front new) (Ok x) → SaidBye mid.number (front mid) (front new) → Ended lock old new (Ok last)
    bye_done last x replied worked goodbye = record {
      is_pass = u.is_pass;
      same = (u.stays.0 ∙ t.stays.0, u.stays.1 ∙ t.stays.1);
      later = prefix_trans (front old) (front mid) (front new) t.goes.1 u.goes.1;
      others = both_others;
      done = (front mid, replied, u.goes.1, subst (λ n. calls_by n (front new) ≡ calls_by n (front mid)) t.stays.0 worked.0, subst (λ n. SaidBye n (front mid) (front new)) t.stays.0 goodbye);
    }

  -- All calls.

  lanes_fail : (old new : Pass (Node L) Step) (lanes : List (List Call)) (all : List (List Reply)) (f : NodeFault) → RanBeside lock old lanes new all (Err f) → Called lock old lanes new all (Err f)
  lanes_fail old new lanes all f r = record { is_pass = r.is_pass; number = r.number; later = r.later; done = r.done }

  module _ (old mid new : Pass (Node L) Step) (lanes : List (List Call)) (all : List (List Reply)) (u : Unit {0}) (r : RanBeside lock old lanes mid all (Ok u)) where
    lane : LanesStand lock mid lanes all
    lane = r.done

    not_own : (n : ℕ) → Member n lane.passes → ¬ (n ≡ mid.number)
    not_own n m is = lane.other (subst (λ k. Member k lane.passes) is m)

    module _ (f : NodeFault) (e : Ended lock mid new (Err f)) where
      stood : FrontsStand lock new lanes all
      stood = record {
        passes = lane.passes;
        distinct = lane.distinct;
        other = λ m. lane.other (subst (λ n. Member n lane.passes) e.same.0 m);
        within = λ n m. subst (Member n) (sym e.same.1) (lane.within n m);
        before = lane.before;
        ran = lane.ran;
        fronts = whole_fronts lane.before lane.ran lane.passes lanes all lane.done;
        later = prefix_trans lane.ran (front mid) (front new) lane.later e.later;
        once = λ n m. lane.once n m ∙ e.others n (lane.within n m) (not_own n m);
      }

      end_fails : Called lock old lanes new all (Err f)
      unfolding lane stood
      end_fails = record {
        is_pass = e.is_pass;
        number = e.same.0 ∙ r.number;
        later = prefix_trans (front old) (front mid) (front new) r.later e.later;
        done = (e.done, is_said f (FrontsStand lock new lanes all) stood);
      }

    module _ (last : Reply) (e : Ended lock mid new (Ok last)) (none : calls_by old.number (front old) ≡ []) where
      none_mid : calls_by mid.number (front mid) ≡ []
      none_mid = ap (λ n. calls_by n (front mid)) r.number ∙ (sym (ap calls r.own) ∙ none)

      holds : Holds new.number lanes (front new) all last
      holds = record {
        passes = lane.passes;
        distinct = lane.distinct;
        other = λ m. lane.other (subst (λ n. Member n lane.passes) e.same.0 m);
        before = lane.before;
        ran = lane.ran;
        idle = front mid;
        synced = e.done.0;
        lanes_done = lane.done;
        first_then = lane.later;
        sync = subst (λ n. Replied n Sync (front mid) e.done.0 last) (sym e.same.0) e.done.1;
        later = e.done.2;
        lanes_once = λ n m. lane.once n m ∙ e.others n (lane.within n m) (not_own n m);
        sync_once = ap (λ n. calls_by n (front new)) e.same.0 ∙ (e.done.3 ∙ (e.done.1.0 ∙ ap (λ l. l ++ Sync ∷ []) none_mid));
        goodbye = subst (λ n. SaidBye n e.done.0 (front new)) (sym e.same.0) e.done.4;
      }

      all_done : Called lock old lanes new all (Ok last)
      unfolding lane holds
      all_done = record {
        is_pass = e.is_pass;
        number = e.same.0 ∙ r.number;
        later = prefix_trans (front old) (front mid) (front new) r.later e.later;
        done = record { holds = holds; within = λ n m. subst (Member n) (sym e.same.1) (lane.within n m) };
      }

  calls_end : (old mid new : Pass (Node L) Step) (lanes : List (List Call)) (all : List (List Reply)) (u : Unit {0}) → RanBeside lock old lanes mid all (Ok u) → calls_by old.number (front old) ≡ [] → (last : Result Reply NodeFault) → Ended lock mid new last → Called lock old lanes new all last
  calls_end old mid new lanes all u r none (Ok last) e = all_done old mid new lanes all u r last e none
  calls_end old mid new lanes all u r none (Err f) e = end_fails old mid new lanes all u r f e

  module _ (old mid : Pass (Node L) Step) (lanes : List (List Call)) (all : List (List Reply)) (end : Result (Unit {0}) NodeFault) (r : RanBeside lock old lanes mid all end) where
    pub called_failed : (f : NodeFault) → end ≡ Err f → (new : Pass (Node L) Step) → new ≡ mid → (last : Result Reply NodeFault) → last ≡ Err f → Called lock old lanes new all last
    called_failed f is new pass_is last last_is =
        subst (λ p. Called lock old lanes p all last) (sym pass_is) (subst (λ l. Called lock old lanes mid all l) (sym last_is) (lanes_fail old mid lanes all f (subst (RanBeside lock old lanes mid all) is r)))

    pub called_ended : (u : Unit {0}) → end ≡ Ok u → calls_by old.number (front old) ≡ [] → (ended new : Pass (Node L) Step) → new ≡ ended → (made last : Result Reply NodeFault) → last ≡ made → Ended lock mid ended made → Called lock old lanes new all last
    called_ended u is none ended new pass_is made last last_is e =
        subst (λ p. Called lock old lanes p all last) (sym pass_is) (subst (λ l. Called lock old lanes ended all l) (sym last_is) (calls_end old mid ended lanes all u (subst (RanBeside lock old lanes mid all) is r) none made e))
