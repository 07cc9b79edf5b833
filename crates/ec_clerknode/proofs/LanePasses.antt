-- What the passes of lanes bring together.
use Rattle.std.proofs.Common.{◌≡◌, ℕ, suc, ◌<◌, ◌⊎◌, max, List, [], ◌∷◌, ◌++◌, length, map, Option, Some, None, Result, Ok, Err, IfOk, Vec, slice_index_or, sym, refl, ap, ◌∙◌, subst, inl, inr, ⊎_elim, arith, append_assoc, append-nil}
use Rattle.std.specs.List.{All}
use Rattle.std.specs.declared.alloc.Global.{Global}
use Rattle.std.proofs.lemmas.List.{map-append}
use Rattle.std.proofs.lemmas.List.Elements.{All-nil, All-cons, All-head, All-tail}
use mathlib.Core.List.{IsPrefix}
use Rattle.ec_base.specs.declared.ids.Age.{Age}
use Rattle.ec_base.specs.declared.counter.Counter.TheVariants as counter
use Rattle.ec_history.specs.declared.entry.Answer.{Answer}
use Rattle.ec_plain.specs.declared.call.Call.{Call}
use Rattle.ec_lock.specs.Passes.{answered}
use Rattle.ec_lock.specs.PassViews.{front, numbers, raised, IsPassOf, Same}
use Rattle.ec_lock.specs.Steps.{Member, of}
use Rattle.ec_lock.specs.declared.types.Pass.{Pass}
use Rattle.ec_lock.specs.declared.types.TracedLock.{TracedLock}
use Rattle.ec_outs.specs.Outs.{Reply}
use Rattle.ec_clerknode.specs.declared.fault.NodeFault.{NodeFault}
use Rattle.ec_clerknode.specs.declared.fault.NodeFault.TheVariants as fault
use Rattle.ec_clerknode.specs.declared.state.Node.{Node}
use Rattle.ec_clerknode.specs.declared.step.Step.{Step}
use Rattle.ec_clerknode.specs.Closed.{Caused}
use Rattle.ec_clerknode.specs.Run.{calls, marks, mark_of_deed, mark_of_end, Among, old_boot, old_boots_in}
use Rattle.ec_clerknode.specs.Turns.{number_of, calls_by}
use Rattle.ec_clerknode.specs.PassTurns.{Turned}
use Rattle.ec_clerknode.specs.declared.jobs.AllReplied.{AllReplied}
use Rattle.ec_clerknode.specs.declared.lane.Replied.{Replied}
use Rattle.ec_clerknode.specs.Lanes.{AreReplied, IsFront, AreLanes, AreFronts}
use Rattle.ec_clerknode.specs.LaneRuns.{LaneDone, LaneRan, IfTold, IsMarked, LaneFault, LanesMade, LanesRan, LanesCame, LanesRanPlain, TellsOldBoot, Looked, all_items, lists_of}
use Rattle.ec_clerknode.specs.Jobs.{Drew, IsNewPass, OneDone, IsBack, AreBack, Puts, first_end}
use Rattle.ec_clerknode.proofs.Lists.{prefix_length}
use Rattle.ec_clerknode.proofs.LaneCalls.{are_longer, are_from}
use Rattle.ec_clerknode.proofs.Turns.{marks-right}
use Rattle.ec_link.specs.Happenings.{each}
use Rattle.ec_base.specs.Lists.{first_of}
use Rattle.ec_lock.proofs.StepsLemmas.{of-append}
use Rattle.ec_base.proofs.Lists.{prefix_self, prefix_trans}
use Rattle.ec_lock.proofs.Numbers.{member_append, distinct_append, member_left, member_right}
use Rattle.ec_link.proofs.HappeningsLemmas.{each-append}

-- Faults, as the list goes on.

among_left : {A : Type 0} (x : A) (xs ys : List A) → Among x xs → Among x (xs ++ ys)
among_left x [] ys m = absurd m
among_left x (y ∷ xs) ys m = ⊎_elim (λ (e : y ≡ x). inl e) (λ (r : Among x xs). inr (among_left x xs ys r)) m

pub marks-left : (f : NodeFault) (xs ys : List Step) → Among f (marks xs) → Among f (marks (xs ++ ys))
marks-left f xs ys m = subst (Among f) (sym (each-append (λ (s : Step). mark_of_deed s.deed ++ mark_of_end s.end) xs ys)) (among_left f (marks xs) (marks ys) m)

first_stays : (xs ys : List Age) (a : Age) → first_of xs ≡ Some a → first_of (xs ++ ys) ≡ Some a
first_stays [] ys a e = absurd (cc e)
first_stays (x ∷ xs) ys a e = e

pub old_boot_stays : (now after : List Step) (a : Age) → IsPrefix now after → old_boot now ≡ Some a → old_boot after ≡ Some a
old_boot_stays now after a p e = ap old_boot (sym p.1) ∙ (ap first_of (each-append old_boots_in now p.0) ∙ first_stays (each old_boots_in now) (each old_boots_in p.0) a e)

-- a mark between two fronts stands between wider ones
mark_wider : (n : ℕ) (f : NodeFault) (start before now after more : List Step) → IsPrefix start before → IsPrefix now after → before ++ more ≡ now → Among f (marks (of number_of n more))
    → (steps : List Step) × (start ++ steps ≡ after) × Among f (marks (of number_of n steps))
mark_wider n f start before now after more p q e m = (
  p.0 ++ (more ++ q.0),
  sym (append_assoc start p.0 (more ++ q.0)) ∙ (ap (λ l. l ++ (more ++ q.0)) p.1 ∙ (sym (append_assoc before more q.0) ∙ (ap (λ l. l ++ q.0) e ∙ q.1))),
  subst (λ l. Among f (marks l)) (sym (of-append number_of n p.0 (more ++ q.0))) (marks-right f (of number_of n p.0) (of number_of n (more ++ q.0))
      (subst (λ l. Among f (marks l)) (sym (of-append number_of n more q.0)) (marks-left f (of number_of n more) (of number_of n q.0) m))),
)

module _ (few passes : List ℕ) (sub : (n : ℕ) → Member n few → Member n passes) (start before now after : List Step) (p : IsPrefix start before) (q : IsPrefix now after) where
  marked_wider : (f : NodeFault) → IsMarked few before now f → IsMarked passes start after f
  marked_wider f m = (m.0, sub m.0 m.1, mark_wider m.0 f start before now after m.2.0 p q m.2.1 m.2.2)

  fault_wider : (f : NodeFault) → LaneFault few before now f → LaneFault passes start after f
  fault_wider fault.Net m = marked_wider fault.Net m
  fault_wider (fault.Peer place) m = marked_wider (fault.Peer place) m
  fault_wider (fault.Long n) m = marked_wider (fault.Long n) m
  fault_wider (fault.OldBoot age) m = old_boot_stays now after age q m
  fault_wider (fault.Spent c) m = ⊎_elim (λ (e : c ≡ counter.Pass). inl e) (λ (h : IsMarked few before now (fault.Spent c)). inr (marked_wider (fault.Spent c) h)) m
  fault_wider fault.NoMemory m = tt

-- the cause of a lane's own fault
caused_fault : (n : ℕ) (f : NodeFault) (before now : List Step) → (more : List Step) × (before ++ more ≡ now) × Caused (old_boot now) f (of number_of n more) → LaneFault (n ∷ []) before now f
caused_fault n fault.Net before now m = (n, inl refl, (m.0, m.1, m.2.1))
caused_fault n (fault.Peer place) before now m = (n, inl refl, (m.0, m.1, m.2.1))
caused_fault n (fault.Long k) before now m = (n, inl refl, (m.0, m.1, m.2.1))
caused_fault n (fault.OldBoot age) before now m = m.2
caused_fault n (fault.Spent c) before now m = inr (n, inl refl, (m.0, m.1, m.2.1))
caused_fault n fault.NoMemory before now m = tt

-- Lanes, as the list goes on.

lanes_longer : (before now after : List Step) (passes : List ℕ) (lanes : List (List Call)) (all : List (List Reply)) → IsPrefix now after → ((n : ℕ) → Member n passes → of number_of n now ≡ of number_of n after)
    → AreLanes before now passes lanes all → AreLanes before after passes lanes all
lanes_longer before now after [] [] [] p own a = tt
lanes_longer before now after (n ∷ passes) (cs ∷ lanes) (r ∷ all) p own a =
    (sym (ap calls (own n (inl refl))) ∙ a.0, are_longer n now after p (length before) cs r a.1, lanes_longer before now after passes lanes all p (λ k m. own k (inr m)) a.2)
lanes_longer before now after [] [] (r ∷ all) p own a = absurd a
lanes_longer before now after [] (cs ∷ lanes) all p own a = absurd a
lanes_longer before now after (n ∷ passes) [] all p own a = absurd a
lanes_longer before now after (n ∷ passes) (cs ∷ lanes) [] p own a = absurd a

lanes_push : (before after : List Step) (passes : List ℕ) (lanes : List (List Call)) (all : List (List Reply)) (n : ℕ) (cs : List Call) (r : List Reply) → calls_by n after ≡ cs → AreReplied n after (length before) cs r
    → AreLanes before after passes lanes all → AreLanes before after (passes ++ n ∷ []) (lanes ++ cs ∷ []) (all ++ r ∷ [])
lanes_push before after [] [] [] n cs r said had a = (said, had, tt)
lanes_push before after (m ∷ passes) (ds ∷ lanes) (s ∷ all) n cs r said had a = (a.0, a.1, lanes_push before after passes lanes all n cs r said had a.2)
lanes_push before after [] [] (s ∷ all) n cs r said had a = absurd a
lanes_push before after [] (ds ∷ lanes) all n cs r said had a = absurd a
lanes_push before after (m ∷ passes) [] all n cs r said had a = absurd a
lanes_push before after (m ∷ passes) (ds ∷ lanes) [] n cs r said had a = absurd a

front_longer : (n : ℕ) (before now after : List Step) (cs : List Call) (r : List Reply) → IsPrefix now after → of number_of n now ≡ of number_of n after → IsFront n [] cs before now r → IsFront n [] cs before after r
front_longer n before now after cs r p own f = record {
  answered = f.answered;
  last = f.last;
  rest = f.rest;
  whole = f.whole;
  few = f.few;
  begun = sym (ap calls own) ∙ f.begun;
  replied = are_longer n now after p (length before) f.answered r f.replied;
}

fronts_longer : (before now after : List Step) (passes : List ℕ) (lanes : List (List Call)) (all : List (List Reply)) → IsPrefix now after → ((n : ℕ) → Member n passes → of number_of n now ≡ of number_of n after)
    → AreFronts before now passes lanes all → AreFronts before after passes lanes all
fronts_longer before now after [] [] [] p own a = tt
fronts_longer before now after (n ∷ passes) (cs ∷ lanes) (r ∷ all) p own a =
    (front_longer n before now after cs r p (own n (inl refl)) a.0, fronts_longer before now after passes lanes all p (λ k m. own k (inr m)) a.1)
fronts_longer before now after [] [] (r ∷ all) p own a = absurd a
fronts_longer before now after [] (cs ∷ lanes) all p own a = absurd a
fronts_longer before now after (n ∷ passes) [] all p own a = absurd a
fronts_longer before now after (n ∷ passes) (cs ∷ lanes) [] p own a = absurd a

fronts_push : (before after : List Step) (passes : List ℕ) (lanes : List (List Call)) (all : List (List Reply)) (n : ℕ) (cs : List Call) (r : List Reply) → IsFront n [] cs before after r
    → AreFronts before after passes lanes all → AreFronts before after (passes ++ n ∷ []) (lanes ++ cs ∷ []) (all ++ r ∷ [])
fronts_push before after [] [] [] n cs r f a = (f, tt)
fronts_push before after (m ∷ passes) (ds ∷ lanes) (s ∷ all) n cs r f a = (a.0, fronts_push before after passes lanes all n cs r f a.1)
fronts_push before after [] [] (s ∷ all) n cs r f a = absurd a
fronts_push before after [] (ds ∷ lanes) all n cs r f a = absurd a
fronts_push before after (m ∷ passes) [] all n cs r f a = absurd a
fronts_push before after (m ∷ passes) (ds ∷ lanes) [] n cs r f a = absurd a

-- all calls are a front of themselves
whole_front : (n : ℕ) (before after : List Step) (cs : List Call) (r : List Reply) → calls_by n after ≡ cs → AreReplied n after (length before) cs r → IsFront n [] cs before after r
whole_front n before after cs r said had = record { answered = cs; last = []; rest = []; whole = append-nil cs; few = omega arith; begun = said ∙ sym (append-nil cs); replied = had }

pub whole_fronts : (before after : List Step) (passes : List ℕ) (lanes : List (List Call)) (all : List (List Reply)) → AreLanes before after passes lanes all → AreFronts before after passes lanes all
whole_fronts before after [] [] [] a = tt
whole_fronts before after (n ∷ passes) (cs ∷ lanes) (r ∷ all) a = (whole_front n before after cs r a.0 a.1, whole_fronts before after passes lanes all a.2)
whole_fronts before after [] [] (r ∷ all) a = absurd a
whole_fronts before after [] (cs ∷ lanes) all a = absurd a
whole_fronts before after (n ∷ passes) [] all a = absurd a
whole_fronts before after (n ∷ passes) (cs ∷ lanes) [] a = absurd a

if_told : (f : NodeFault) (P Q : Type 0) → (P → Q) → IfTold (Err f) P → IfTold (Err f) Q
if_told fault.Net P Q h p = h p
if_told (fault.Peer place) P Q h p = h p
if_told (fault.Long n) P Q h p = h p
if_told (fault.OldBoot age) P Q h p = tt
if_told (fault.Spent c) P Q h p = ⊎_elim (λ (e : c ≡ counter.Pass). inl e) (λ (q : P). inr (h q)) p
if_told fault.NoMemory P Q h p = tt

is_told : (f : NodeFault) (P : Type 0) → P → IfTold (Err f) P
is_told fault.Net P p = p
is_told (fault.Peer place) P p = p
is_told (fault.Long n) P p = p
is_told (fault.OldBoot age) P p = tt
is_told (fault.Spent c) P p = inr p
is_told fault.NoMemory P p = tt

made_longer : (before now after : List Step) (passes : List ℕ) (lanes : List (List Call)) (all : List (List Reply)) (e : Result (Unit {0}) NodeFault) → IsPrefix now after → ((n : ℕ) → Member n passes → of number_of n now ≡ of number_of n after)
    → LanesMade passes lanes before now all e → LanesMade passes lanes before after all e
made_longer before now after passes lanes all (Ok u) p own d = lanes_longer before now after passes lanes all p own d
made_longer before now after passes lanes all (Err f) p own d = (
  fault_wider passes passes (λ n m. m) before before now after (prefix_self before) p f d.0,
  if_told f (AreFronts before now passes lanes all) (AreFronts before after passes lanes all) (fronts_longer before now after passes lanes all p own) d.1,
)

-- a front behind the calls of a pass that had begun none
front_of_new : (n : ℕ) (had cs : List Call) (before mid after : List Step) (r : List Reply) → IsPrefix before mid → had ≡ [] → IsFront n had cs mid after r → IsFront n [] cs before after r
front_of_new n had cs before mid after r p none f = record {
  answered = f.answered;
  last = f.last;
  rest = f.rest;
  whole = f.whole;
  few = f.few;
  begun = f.begun ∙ ap (λ l. l ++ (f.answered ++ f.last)) none;
  replied = are_from n after (length before) (length mid) f.answered r (prefix_length before mid p) f.replied;
}

-- a new pass that made its calls
one_done : (n : ℕ) (cs : List Call) (before mid after : List Step) (r : List Reply) (e : Result (Unit {0}) NodeFault) → IsPrefix before mid → of number_of n mid ≡ [] → LaneDone n cs mid after r e → OneDone n cs before after r e
one_done n cs before mid after r (Ok u) p none d = (d.0 ∙ ap (λ l. calls l ++ cs) none, are_from n after (length before) (length mid) cs r (prefix_length before mid p) d.1)
one_done n cs before mid after r (Err f) p none d = (
  fault_wider (n ∷ []) (n ∷ []) (λ k m. m) before mid after after p (prefix_self after) f (caused_fault n f mid after d.1),
  front_of_new n (calls_by n mid) cs before mid after r p (ap calls none) d.0,
)

-- the calls of a pass that came back are a front
front_of_one : (n : ℕ) (cs : List Call) (before after : List Step) (r : List Reply) (e : Result (Unit {0}) NodeFault) → OneDone n cs before after r e → IsFront n [] cs before after r
front_of_one n cs before after r (Ok u) d = whole_front n before after cs r d.0 d.1
front_of_one n cs before after r (Err f) d = d.1

module _ {L : Type 0} (lock : TracedLock (Node L) Step) where
  -- Passes that are drawn.

  pub drew_none : (pass : Pass (Node L) Step) → IsPassOf lock pass → Drew lock pass pass
  drew_none pass is = record { is_pass = is; same = (refl, refl, refl, refl); later = prefix_self (front pass); own = λ n m. refl }

  pub drew_more : (old mid new : Pass (Node L) Step) → Drew lock old mid → IsPassOf lock new → Same mid new → IsPrefix (front mid) (front new) → ((n : ℕ) → Member n (numbers mid) → of number_of n (front mid) ≡ of number_of n (front new))
      → Drew lock old new
  drew_more old mid new drew is same later own = record {
    is_pass = is;
    same = (same.0 ∙ drew.same.0, same.1 ∙ drew.same.1, same.2 ∙ drew.same.2, same.3 ∙ drew.same.3);
    later = prefix_trans (front old) (front mid) (front new) drew.later later;
    own = λ n m. drew.own n m ∙ own n (subst (Member n) (sym drew.same.1) m);
  }

  pub new_pass : (old mid new other : Pass (Node L) Step) → Drew lock old mid → IsPrefix (front mid) (front new) → IsPassOf lock other → (front other ≡ front new) × (numbers other ≡ other.number ∷ []) → of number_of other.number (front new) ≡ []
      → IsNewPass lock (front old) other
  new_pass old mid new other drew goes is fresh none = record {
    is_pass = is;
    alone = fresh.1;
    later = subst (IsPrefix (front old)) (sym fresh.0) (prefix_trans (front old) (front mid) (front new) drew.later goes);
    none = ap (of number_of other.number) fresh.0 ∙ none;
  }

  pub all_new : {J : Type 0} (pass_of : J → Pass (Node L) Step) (before : List Step) (jobs : List J) → All (λ j. IsNewPass lock before (pass_of j)) jobs → All (λ j. IsPassOf lock (pass_of j)) jobs
  all_new pass_of before jobs h k d l = (h k d l).is_pass

  -- no lane was run
  pub not_run : (old new : Pass (Node L) Step) (lanes : List (List Call)) (f : NodeFault) → (f ≡ fault.NoMemory) ⊎ (f ≡ fault.Spent counter.Pass) → Drew lock old new → (all : List (List Reply)) → LanesCame lock (front old) old lanes new all (Err f)
  not_run old new lanes f why drew all =
      let raised_same = drew.same.2 in
      let answered_same = drew.same.3 in
      record {
        is_pass = drew.is_pass;
        number = drew.same.0;
        up = (omega arith, omega arith);
        later = drew.later;
        own = drew.own;
        done = (
          [],
          drew.same.1 ∙ sym (append-nil (numbers old)),
          tt,
          (λ n a b. b),
          ⊎_elim (λ (e : f ≡ fault.NoMemory). subst (λ g. LanesMade [] lanes (front old) (front new) all (Err g)) (sym e) (tt, tt))
              (λ (e : f ≡ fault.Spent counter.Pass). subst (λ g. LanesMade [] lanes (front old) (front new) all (Err g)) (sym e) (inl refl, inl refl)) why,
        );
      }

  -- the lanes were run behind the drawing of their passes
  pub drawn : (before : List Step) (old mid new : Pass (Node L) Step) (lanes : List (List Call)) (all : List (List Reply)) (end : Result (Unit {0}) NodeFault) → Drew lock old mid → LanesCame lock before mid lanes new all end → LanesCame lock before old lanes new all end
  drawn before old mid new lanes all end drew ran =
      let raised_same = drew.same.2 in
      let answered_same = drew.same.3 in
      let raised_up = ran.up.0 in
      let answered_up = ran.up.1 in
      record {
        is_pass = ran.is_pass;
        number = ran.number ∙ drew.same.0;
        up = (omega arith, omega arith);
        later = prefix_trans (front old) (front mid) (front new) drew.later ran.later;
        own = λ k m. drew.own k m ∙ ran.own k (subst (Member k) (sym drew.same.1) m);
        done = (
          ran.done.0,
          ran.done.1 ∙ ap (λ l. l ++ ran.done.0) drew.same.1,
          ran.done.2,
          (λ k a b. ran.done.3 k (subst (Member k) (sym drew.same.1) a) b),
          ran.done.4,
        );
      }

  -- Passes that come back.

  back_of : (before : List Step) (old new : Pass (Node L) Step) (cs : List Call) (r : List Reply) (e : Result (Unit {0}) NodeFault) → IsNewPass lock before old → LaneRan lock old cs new r e → IsBack lock before cs new r e
  back_of before old new cs r e fresh ran = record {
    is_pass = ran.is_pass;
    alone = ran.stays.1 ∙ (fresh.alone ∙ ap (λ n. n ∷ []) (sym ran.stays.0));
    later = prefix_trans before (front old) (front new) fresh.later ran.later;
    done = subst (λ n. OneDone n cs before (front new) r e) (sym ran.stays.0) (one_done old.number cs before (front old) (front new) r e fresh.later fresh.none ran.done);
  }

  pub are_back : {J : Type 0} (pass_of : J → Pass (Node L) Step) (calls_of : J → List Call) (before : List Step) (jobs : List J) (ran : List (Pass (Node L) Step × Replied)) → length ran ≡ length jobs
      → All (λ j. IsNewPass lock before (pass_of j)) jobs
      → ((i : ℕ) (d : Pass (Node L) Step × Replied) (e : J) → i < length jobs
      → LaneRan lock (pass_of (slice_index_or jobs i e)) (calls_of (slice_index_or jobs i e)) (slice_index_or ran i d).0 (slice_index_or ran i d).1.replies.items (slice_index_or ran i d).1.end)
      → AreBack lock before (map calls_of jobs) ran
  are_back pass_of calls_of before [] [] len fresh each = tt
  are_back pass_of calls_of before (j ∷ jobs) (r ∷ ran) len fresh each = (
    back_of before (pass_of j) r.0 (calls_of j) r.1.replies.items r.1.end (All-head (λ j. IsNewPass lock before (pass_of j)) j jobs fresh) (each 0 r j (omega arith)),
    are_back pass_of calls_of before jobs ran (omega arith) (All-tail (λ j. IsNewPass lock before (pass_of j)) j jobs fresh) (λ i d e l. each (suc i) d e (omega arith)),
  )
  are_back pass_of calls_of before [] (r ∷ ran) len fresh each = absurd (omega arith)
  are_back pass_of calls_of before (j ∷ jobs) [] len fresh each = absurd (omega arith)

  pub back_passes : (before : List Step) (lanes : List (List Call)) (ran : List (Pass (Node L) Step × Replied)) → AreBack lock before lanes ran → All (λ one. IsPassOf lock one.0) ran
  back_passes before [] [] back = All-nil (λ one. IsPassOf lock one.0)
  back_passes before (cs ∷ lanes) (r ∷ ran) back = All-cons (λ one. IsPassOf lock one.0) r ran back.0.is_pass (back_passes before lanes ran back.1)
  back_passes before [] (r ∷ ran) back = absurd back
  back_passes before (cs ∷ lanes) [] back = absurd back

  -- the passes that are still to come back
  pub same_passes : (xs ys : List (Pass (Node L) Step × Replied)) → xs ≡ ys → All (λ one. IsPassOf lock one.0) ys → All (λ one. IsPassOf lock one.0) xs
  same_passes xs ys e h = subst (All (λ one. IsPassOf lock one.0)) (sym e) h

  pub next_pass : (xs rest : List (Pass (Node L) Step × Replied)) (x : Pass (Node L) Step × Replied) → xs ≡ x ∷ rest → All (λ one. IsPassOf lock one.0) xs → IsPassOf lock x.0
  next_pass xs rest x e h = All-head (λ one. IsPassOf lock one.0) x rest (subst (All (λ one. IsPassOf lock one.0)) e h)

  pub rest_passes : (xs rest : List (Pass (Node L) Step × Replied)) (x : Pass (Node L) Step × Replied) → xs ≡ x ∷ rest → All (λ one. IsPassOf lock one.0) xs → All (λ one. IsPassOf lock one.0) rest
  rest_passes xs rest x e h = All-tail (λ one. IsPassOf lock one.0) x rest (subst (All (λ one. IsPassOf lock one.0)) e h)

  back_last : (before : List Step) (lanes : List (List Call)) (ran : List (Pass (Node L) Step × Replied)) (one : Pass (Node L) Step × Replied) → AreBack lock before lanes (ran ++ one ∷ [])
      → (front_lanes : List (List Call)) × (cs : List Call) × (lanes ≡ front_lanes ++ cs ∷ []) × AreBack lock before front_lanes ran × IsBack lock before cs one.0 one.1.replies.items one.1.end
  back_last before [] [] one back = absurd back
  back_last before [] (r ∷ ran) one back = absurd back
  back_last before (cs ∷ []) [] one back = ([], cs, refl, tt, back.0)
  back_last before (cs ∷ ds ∷ lanes) [] one back = absurd back.1
  back_last before (cs ∷ lanes) (r ∷ ran) one back = let l = back_last before lanes ran one back.1 in (cs ∷ l.0, l.1, ap (λ k. cs ∷ k) l.2, (back.0, l.3), l.4)

  -- none came back yet
  pub none_back : (before : List Step) (lanes : List (List Call)) (pass : Pass (Node L) Step) (all : List (List Reply)) (u : Unit {0}) → IsPassOf lock pass → all ≡ [] → AreBack lock before lanes [] → LanesCame lock before pass lanes pass all (Ok u)
  none_back before [] pass all u is none back = record {
    is_pass = is;
    number = refl;
    up = (omega arith, omega arith);
    later = prefix_self (front pass);
    own = λ n m. refl;
    done = ([], sym (append-nil (numbers pass)), tt, (λ n a b. b), subst (AreLanes before (front pass) [] []) (sym none) tt);
  }
  none_back before (cs ∷ lanes) pass all u is none back = absurd back

  -- the other pass came in
  pub record Joined (old other new : Pass (Node L) Step) : Type 0 where
    pub is_pass : IsPassOf lock new
    pub number : new.number ≡ old.number
    pub later : IsPrefix (front old) (front new)
    pub other_later : IsPrefix (front other) (front new)
    pub own : (n : ℕ) → Member n (numbers old) → of number_of n (front old) ≡ of number_of n (front new)
    pub others : (n : ℕ) → Member n (numbers other) → of number_of n (front other) ≡ of number_of n (front new)
    pub apart : (n : ℕ) → Member n (numbers old) → Member n (numbers other) → ⊥
    pub both : (numbers new ≡ numbers old ++ numbers other) × (raised new ≡ max (raised old) (raised other)) × (answered new ≡ max (answered old) (answered other))

  -- one lane more came back
  module _ (before : List Step) (old now lane new : Pass (Node L) Step) (lanes : List (List Call)) (cs : List Call) (all : List (List Reply)) (end : Result (Unit {0}) NodeFault) (one : List Reply) (last : Result (Unit {0}) NodeFault)
      (ran : LanesCame lock before old lanes now all end) (back : IsBack lock before cs lane one last) (join : Joined now lane new) where
    abbrev n : ℕ
    n = lane.number

    abbrev passes : List ℕ
    passes = ran.done.0

    had_own : (k : ℕ) → Member k (numbers old) → Member k (numbers now)
    had_own k m = subst (Member k) (sym ran.done.1) (member_left k (numbers old) passes m)

    had : (k : ℕ) → Member k passes → Member k (numbers now)
    had k m = subst (Member k) (sym ran.done.1) (member_right k (numbers old) passes m)

    has_lane : (k : ℕ) → Member k (n ∷ []) → Member k (numbers lane)
    has_lane k m = subst (Member k) (sym back.alone) m

    lane_kept : of number_of n (front lane) ≡ of number_of n (front new)
    lane_kept = join.others n (has_lane n (inl refl))

    had_longer : (k : ℕ) → Member k passes → of number_of k (front now) ≡ of number_of k (front new)
    had_longer k m = join.own k (had k m)

    lane_front : IsFront n [] cs before (front new) one
    lane_front = front_longer n before (front lane) (front new) cs one join.other_later lane_kept (front_of_one n cs before (front lane) one last back.done)

    both_fronts : AreFronts before (front now) passes lanes all → AreFronts before (front new) (passes ++ n ∷ []) (lanes ++ cs ∷ []) (all ++ one ∷ [])
    both_fronts a = fronts_push before (front new) passes lanes all n cs one lane_front (fronts_longer before (front now) (front new) passes lanes all join.later had_longer a)

    both_done : (e l : Result (Unit {0}) NodeFault) → LanesMade passes lanes before (front now) all e → OneDone n cs before (front lane) one l → LanesMade (passes ++ n ∷ []) (lanes ++ cs ∷ []) before (front new) (all ++ one ∷ []) (first_end e l)
    both_done (Ok u) (Ok v) d o = lanes_push before (front new) passes lanes all n cs one (sym (ap calls lane_kept) ∙ o.0) (are_longer n (front lane) (front new) join.other_later (length before) cs one o.1)
        (lanes_longer before (front now) (front new) passes lanes all join.later had_longer d)
    both_done (Ok u) (Err f) d o = (
      fault_wider (n ∷ []) (passes ++ n ∷ []) (λ k m. member_right k passes (n ∷ []) m) before before (front lane) (front new) (prefix_self before) join.other_later f o.0,
      is_told f (AreFronts before (front new) (passes ++ n ∷ []) (lanes ++ cs ∷ []) (all ++ one ∷ [])) (both_fronts (whole_fronts before (front now) passes lanes all d)),
    )
    both_done (Err f) l d o = (
      fault_wider passes (passes ++ n ∷ []) (λ k m. member_left k passes (n ∷ []) m) before before (front now) (front new) (prefix_self before) join.later f d.0,
      if_told f (AreFronts before (front now) passes lanes all) (AreFronts before (front new) (passes ++ n ∷ []) (lanes ++ cs ∷ []) (all ++ one ∷ [])) both_fronts d.1,
    )

    made_more : (more : List (List Reply)) (e : Result (Unit {0}) NodeFault) → (e ≡ Err fault.NoMemory) ⊎ ((more ≡ all ++ one ∷ []) × (e ≡ first_end end last)) → LanesMade (passes ++ n ∷ []) (lanes ++ cs ∷ []) before (front new) more e
    made_more more e puts =
        ⊎_elim
        (λ (h : e ≡ Err fault.NoMemory). subst (LanesMade (passes ++ n ∷ []) (lanes ++ cs ∷ []) before (front new) more) (sym h) (tt, tt))
        (λ (h : (more ≡ all ++ one ∷ []) × (e ≡ first_end end last)).
        subst (λ l. LanesMade (passes ++ n ∷ []) (lanes ++ cs ∷ []) before (front new) l e) (sym h.0)
        (subst (LanesMade (passes ++ n ∷ []) (lanes ++ cs ∷ []) before (front new) (all ++ one ∷ [])) (sym h.1) (both_done end last ran.done.4 back.done)))
        puts

    one_more : (more : List (List Reply)) (e : Result (Unit {0}) NodeFault) → (e ≡ Err fault.NoMemory) ⊎ ((more ≡ all ++ one ∷ []) × (e ≡ first_end end last)) → LanesCame lock before old (lanes ++ cs ∷ []) new more e
    one_more more e puts =
        let raised_up = ran.up.0 in
        let answered_up = ran.up.1 in
        let raised_new = join.both.1 in
        let answered_new = join.both.2 in
        record {
          is_pass = join.is_pass;
          number = join.number ∙ ran.number;
          up = (omega arith, omega arith);
          later = prefix_trans (front old) (front now) (front new) ran.later join.later;
          own = λ k m. ran.own k m ∙ join.own k (had_own k m);
          done = (
            passes ++ n ∷ [],
            join.both.0 ∙ (ap (λ l. l ++ numbers lane) ran.done.1 ∙ (ap (λ l. (numbers old ++ passes) ++ l) back.alone ∙ append_assoc (numbers old) passes (n ∷ []))),
            distinct_append passes (n ∷ []) ran.done.2 ((λ m. m), tt) (λ k a b. join.apart k (had k a) (has_lane k b)),
            (λ k a b. ⊎_elim (λ (h : Member k passes). ran.done.3 k a h) (λ (h : Member k (n ∷ [])). join.apart k (had_own k a) (has_lane k h)) (member_append k passes (n ∷ []) b)),
            made_more more e puts,
          );
        }

  pub gathered : (before : List Step) (old now new : Pass (Node L) Step) (lanes : List (List Call)) (ran : List (Pass (Node L) Step × Replied)) (one : Pass (Node L) Step × Replied)
      (all more : AllReplied) → ((few : List (List Call)) → AreBack lock before few ran → LanesCame lock before old few now (lists_of all.lanes) all.end) → Joined now one.0 new → Puts all one.1 more
      → AreBack lock before lanes (ran ++ one ∷ []) → LanesCame lock before old lanes new (lists_of more.lanes) more.end
  gathered before old now new lanes ran one all more sofar join puts back =
      let l = back_last before lanes ran one back in
      subst (λ k. LanesCame lock before old k new (lists_of more.lanes) more.end) (sym l.2)
      (one_more before old now one.0 new l.0 l.1 (lists_of all.lanes) all.end one.1.replies.items one.1.end (sofar l.0 l.3) l.4 join (lists_of more.lanes) more.end puts)

  -- A last turn.

  pub looked : (before : List Step) (old mid new : Pass (Node L) Step) (lanes : List (List Call)) (all : List (List Reply)) (end : Result (Unit {0}) NodeFault) → LanesCame lock before old lanes mid all end → Turned lock mid new
      → ((n : ℕ) → Member n (numbers mid) → of number_of n (front mid) ≡ of number_of n (front new)) → LanesCame lock before old lanes new all end
  looked before old mid new lanes all end ran t own =
      let passes = ran.done.0 in
      let raised_mid = ran.up.0 in
      let answered_mid = ran.up.1 in
      let raised_new = t.stays.3 in
      let answered_new = t.stays.2 in
      record {
        is_pass = t.is_pass;
        number = t.stays.0 ∙ ran.number;
        up = (omega arith, omega arith);
        later = prefix_trans (front old) (front mid) (front new) ran.later t.goes.1;
        own = λ k m. ran.own k m ∙ own k (subst (Member k) (sym ran.done.1) (member_left k (numbers old) passes m));
        done = (
          passes,
          t.stays.1 ∙ ran.done.1,
          ran.done.2,
          ran.done.3,
          made_longer before (front mid) (front new) passes lanes all end t.goes.1 (λ k m. own k (subst (Member k) (sym ran.done.1) (member_right k (numbers old) passes m))) ran.done.4,
        );
      }

  pub looks : (before : List Step) (old mid new : Pass (Node L) Step) (lanes : List (List Call)) (all : List (List Reply)) (end : Result (Unit {0}) NodeFault) → LanesCame lock before old lanes mid all end → Turned lock mid new → Looked lock old new
  looks before old mid new lanes all end ran t =
      let raised_mid = ran.up.0 in
      let answered_mid = ran.up.1 in
      let low = t.marked.0 in
      let low_too = t.marked.1 in
      record {
        goes = (t.goes.0, prefix_trans (front old) (front mid) (front new) ran.later t.goes.1);
        marked = (omega arith, omega arith);
        raises = t.raises;
      }

  -- a greater age is the answer
  pub told_old : (before : List Step) (old new : Pass (Node L) Step) (lanes : List (List Call)) (all : List (List Reply)) (end : Result (Unit {0}) NodeFault) (age : Age) → LanesCame lock before old lanes new all end → old_boot (front new) ≡ Some age
      → LanesCame lock before old lanes new all (Err (fault.OldBoot age))
  told_old before old new lanes all end age ran e = record {
    is_pass = ran.is_pass;
    number = ran.number;
    up = ran.up;
    later = ran.later;
    own = ran.own;
    done = (ran.done.0, ran.done.1, ran.done.2, ran.done.3, (e, tt));
  }

  -- Without the answers that came before a fault.

  pub ran_all : (before : List Step) (old new : Pass (Node L) Step) (lanes : List (List Call)) (all : List (List Reply)) (u : Unit {0}) → LanesCame lock before old lanes new all (Ok u) → LanesRan lock before old lanes new (Ok all)
  ran_all before old new lanes all u ran = record { is_pass = ran.is_pass; number = ran.number; up = ran.up; later = ran.later; own = ran.own; done = ran.done }

  pub ran_fails : (before : List Step) (old new : Pass (Node L) Step) (lanes : List (List Call)) (all : List (List Reply)) (f : NodeFault) → LanesCame lock before old lanes new all (Err f) → LanesRan lock before old lanes new (Err f)
  ran_fails before old new lanes all f ran = record {
    is_pass = ran.is_pass;
    number = ran.number;
    up = ran.up;
    later = ran.later;
    own = ran.own;
    done = (ran.done.0, ran.done.1, ran.done.2, ran.done.3, ran.done.4.0);
  }

  -- memory is wanting at the end
  pub wants : (before : List Step) (old new : Pass (Node L) Step) (lanes : List (List Call)) (r : Result (List (List Reply)) NodeFault) → LanesRan lock before old lanes new r → LanesRan lock before old lanes new (Err fault.NoMemory)
  wants before old new lanes r ran = record {
    is_pass = ran.is_pass;
    number = ran.number;
    up = ran.up;
    later = ran.later;
    own = ran.own;
    done = (ran.done.0, ran.done.1, ran.done.2, ran.done.3, tt);
  }

  -- Without the operations' numbers.

  pub plain_fails : (before : List Step) (old new : Pass (Node L) Step) (lanes : List (List Call)) (f : NodeFault) → LanesRan lock before old lanes new (Err f) → LanesRanPlain lock before old lanes new (Err f)
  plain_fails before old new lanes f ran = (Err f, ran, refl)

  pub plain_done : (before : List Step) (old new : Pass (Node L) Step) (lanes : List (List Call)) (all : List (List Reply)) (answers : List (List Answer)) → LanesRan lock before old lanes new (Ok all) → answers ≡ map (map (λ reply. reply.0)) all
      → LanesRanPlain lock before old lanes new (Ok answers)
  plain_done before old new lanes all answers ran e = (Ok all, ran, ap (λ l. Ok l) e)

pub tells : {A : Type 0} (boot : Option Age) (r : Result A NodeFault) → boot ≡ None → TellsOldBoot boot r
tells boot (Ok x) e = e
tells boot (Err f) e = λ age h. absurd (cc (sym e ∙ h))

pub same_boot : (boot : Option Age) (age other : Age) → boot ≡ Some age → boot ≡ Some other → fault.OldBoot age ≡ fault.OldBoot other
same_boot boot age other e h = ap (λ a. fault.OldBoot a) (some_same age other (sym e ∙ h)) where
  some_same : (x y : Age) → Some x ≡ Some y → x ≡ y
  some_same x y e = cc e

pub no_boot : (boot : Option Age) (f : NodeFault) → boot ≡ None → (age : Age) → boot ≡ Some age → f ≡ fault.OldBoot age
no_boot boot f e age h = absurd (cc (sym e ∙ h))

-- What one lane gave goes behind what the others gave.

pub lists_more : {A : Type 0} (v w : Vec (Vec A Global) Global) (one : Vec A Global) → w.items ≡ v.items ++ one ∷ [] → lists_of w ≡ lists_of v ++ one.items ∷ []
lists_more {A} v w one e = ap (map (λ (u : Vec A Global). u.items)) e ∙ map-append (λ (u : Vec A Global). u.items) v.items (one ∷ [])

pub no_lists : {A : Type 0} (v : Vec (Vec A Global) Global) → v.items ≡ [] → lists_of v ≡ []
no_lists {A} v e = ap (map (λ (w : Vec A Global). w.items)) e

-- Lists that grow with another one.

pub none_mapped : {J A : Type 0} (f : J → A) (jobs : List J) (rest all : List A) → jobs ≡ [] → rest ≡ all → map f jobs ++ rest ≡ all
none_mapped f jobs rest all none e = ap (λ l. map f l ++ rest) none ∙ e

pub more_mapped : {J A : Type 0} (f : J → A) (jobs more : List J) (j : J) (x : A) (now rest all : List A) → more ≡ jobs ++ j ∷ [] → f j ≡ x → now ≡ x ∷ rest → map f jobs ++ now ≡ all → map f more ++ rest ≡ all
more_mapped f jobs more j x now rest all longer is next h =
    ap (λ l. map f l ++ rest) longer ∙ (ap (λ l. l ++ rest) (map-append f jobs (j ∷ [])) ∙ (append_assoc (map f jobs) (f j ∷ []) rest ∙ (ap (λ y. map f jobs ++ y ∷ rest) is ∙ (ap (λ l. map f jobs ++ l) (sym next) ∙ h))))

pub all_mapped : {J A : Type 0} (f : J → A) (jobs : List J) (rest all : List A) → rest ≡ [] → map f jobs ++ rest ≡ all → map f jobs ≡ all
all_mapped f jobs rest all none h = sym (append-nil (map f jobs)) ∙ (ap (λ l. map f jobs ++ l) (sym none) ∙ h)

pub if_ok : {A E : Type 0} (P Q : A → Type 0) (r : Result A E) → ((x : A) → P x → Q x) → IfOk r P → IfOk r Q
if_ok P Q (Ok x) f p = f x p
if_ok P Q (Err e) f p = tt
