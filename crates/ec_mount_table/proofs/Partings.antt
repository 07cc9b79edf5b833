-- One volume after another ends.
use Rattle.std.proofs.Common.{◌≡◌, ◌+◌, ◌<◌, ℕ, zero, suc, Bool, true, false, List, [], ◌∷◌, ◌++◌, length, Option, Some, None, Result, Ok, Err, IfSome, OnOk, refl, sym, ap, ◌∙◌, subst, ⊎_elim, arith, append_assoc, append-nil}
use Rattle.std.specs.Prelude.{map, slice_get, Vec}
use Rattle.std.specs.declared.alloc.Global.{Global}
use mathlib.Core.List.{IsPrefix}
use Rattle.ec_base.specs.declared.ids.Age.{Age}
use Rattle.ec_protocol.specs.declared.clerk.Clerk.{Clerk}
use Rattle.ec_lock.specs.PassViews.{first, front, numbers, IsPassOf}
use Rattle.ec_lock.specs.Steps.{Member, of}
use Rattle.ec_lock.specs.declared.types.Pass.{Pass}
use Rattle.ec_lock.specs.declared.types.TracedLock.{TracedLock}
use Rattle.ec_link.specs.Links.{Heard}
use Rattle.ec_link.specs.Nets.{Ended}
use Rattle.ec_link.specs.NetAnswers.{is_bad}
use Rattle.ec_clerknode.specs.declared.fault.NodeFault.{NodeFault}
use Rattle.ec_clerknode.specs.declared.state.Node.{Node}
use Rattle.ec_clerknode.specs.declared.step.Step.{Step}
use Rattle.ec_clerknode.specs.LaneRuns.{lists_of}
use Rattle.ec_clerknode.specs.PassTurns.{FinishedAlone, Turned, Worked}
use Rattle.ec_clerknode.specs.PresentLink.{LinksBy}
use Rattle.ec_clerknode.specs.Run.{AreSaid, calls, told_by, old_boot}
use Rattle.ec_clerknode.specs.RunEnds.{nets}
use Rattle.ec_clerknode.specs.Turns.{number_of, calls_by, SaidBye}
use Rattle.ec_clerknode.proofs.Lists.{prefix_get}
use Rattle.ec_clerknode.proofs.Parts.{none_linked}
use Rattle.ec_mount.specs.Run.{NetSeen, Has}
use Rattle.ec_mount.proofs.Causes.{failed_has, has_longer}
use Rattle.ec_mount.proofs.Linking.{bad_of}
use Rattle.ec_base.proofs.Lists.{prefix_self, prefix_trans}
use Rattle.ec_mount_table.specs.Runs.{or_boot}
use Rattle.ec_mount_table.specs.Going.{AllClosed, ClosedOne, EndedAll, EndedOne, Parted, Said, SaidGoodbye, or_fault}
use Rattle.ec_mount_table.specs.declared.ending.Ends.{Ends}
use Rattle.ec_mount_table.specs.declared.ending.One.{One}
use Rattle.ec_mount_table.proofs.Places.{each_cons}
use Rattle.ec_mounts.specs.Mounts.{AreSeated}
use Rattle.ec_mounts.proofs.Built.{map_push, none_where}
use Rattle.ec_mounts.proofs.Seats.{same_length, some_is}

abbrev pair : Option (List Heard) → Option (List (List ℕ)) → Ended
pair g s = (g, s)

pair_same : (g h : Option (List Heard)) (s t : Option (List (List ℕ))) → g ≡ h → s ≡ t → pair g s ≡ pair h t
pair_same g h s t e f = subst (λ x. pair g s ≡ pair x t) e (ap (pair g) f)

-- A goodbye.

module _ {L : Type 0} (lock : TracedLock (Node L) Step) (old new : Pass (Node L) Step) (is_done : Bool) where
  pub bye_not : IsPassOf lock old → is_done ≡ false → SaidGoodbye lock old old is_done None
  bye_not is not = record { is_pass = is; same = (refl, refl); later = prefix_self (front old); begun = refl; said = (tt, λ none done. absurd (cc (sym not ∙ done))) }

  pub bye_ok : Turned lock old new → Worked {A = Unit {0}} old.number (front old) (front new) (Ok tt) → SaidBye old.number (front old) (front new) → SaidGoodbye lock old new is_done None
  bye_ok t w g = record { is_pass = t.is_pass; same = (t.stays.0, t.stays.1); later = t.goes.1; begun = w.0; said = (tt, λ none done. g) }

  pub bye_err : (f : NodeFault) → is_done ≡ true → Turned lock old new → Worked {A = Unit {0}} old.number (front old) (front new) (Err f) → SaidGoodbye lock old new is_done (Some f)
  bye_err f done t w = record {
    is_pass = t.is_pass;
    same = (t.stays.0, t.stays.1);
    later = t.goes.1;
    begun = ⊎_elim (λ (e : calls_by old.number (front new) ≡ calls_by old.number (front old)). e) (λ (e : calls_by old.number (front new) ≡ calls_by old.number (front old) ++ []). e ∙ append-nil (calls_by old.number (front old))) w.0;
    said = ((done, failed_has old.number [] (front old) (front new) f w), λ none. absurd (cc none));
  }

pub bye_later : (pass : ℕ) (before now later : List Step) → IsPrefix now later → SaidBye pass before now → SaidBye pass before later
bye_later pass before now later p g = (g.0, g.1, g.2, prefix_get now later g.0 g.1 p g.3, g.4, g.5)

module _ {L : Type 0} (faults closes : L → ℕ) (given : L → Option (List Heard)) (got : L → Option (List (List ℕ))) (lock : TracedLock (Node L) Step) (pass mid new : Pass (Node L) Step) (is_done : Bool) (met : Option NodeFault) (bye : SaidGoodbye lock pass mid is_done met)
    (later : IsPrefix (front mid) (front new)) (own : (n : ℕ) → Member n (numbers mid) → of number_of n (front mid) ≡ of number_of n (front new)) where
  closed_by : (k : Clerk) (link : L) → (first lock).linker ≡ None → LinksBy (first lock).linker (front new) → FinishedAlone (λ l. faults l + closes l) given got (first lock) (front new) (Some k) link → AreSaid (front new) → ClosedOne given got lock pass (front new) (given link, got link)
  closed_by k link none by f said = record {
    run = f.0;
    whole = said;
    alone = none_linked (front new) (subst (λ o. LinksBy o (front new)) none by);
    heard = f.3.1;
    sent = f.2;
    later = prefix_trans (front pass) (front mid) (front new) bye.later later;
    begun = subst (λ n. calls_by n (front new) ≡ calls_by pass.number (front pass)) bye.same.0 (sym (ap calls (own mid.number bye.is_pass.1)) ∙ subst (λ n. calls_by n (front mid) ≡ calls_by pass.number (front pass)) (sym bye.same.0) bye.begun);
  }

  said_by : Said is_done pass (front new) met
  said_by = on met refl where
    on : (m : Option NodeFault) → met ≡ m → Said is_done pass (front new) m
    on None e = λ done. bye_later pass.number (front pass) (front mid) (front new) later (bye.said.1 e done)
    on (Some f) e =
        let why : IfSome (Some f) (λ g. (is_done ≡ true) × Has g (front mid)) = subst (λ o. IfSome o (λ g. (is_done ≡ true) × Has g (front mid))) e bye.said.0 in
        (why.0, has_longer (front mid) (front new) later f why.1)

  ended_one : (k : Clerk) (back left : L) (before after : NetSeen) (told : List (List ℕ)) (boot : Option Age) → (first lock).linker ≡ None → LinksBy (first lock).linker (front new) → FinishedAlone (λ l. faults l + closes l) given got (first lock) (front new) (Some k) back → AreSaid (front new)
      → (faults left ≡ faults back) × (closes left ≡ closes back) → (given left ≡ given back) × (got left ≡ got back) → after.faults ≡ before.faults → after.bad ≡ before.bad + is_bad (faults left) (closes left) → after.ended ≡ before.ended ++ (given left, got left) ∷ [] → told ≡ told_by (front new)
      → boot ≡ old_boot (front new) → EndedOne given got is_done before after lock pass told boot met
  ended_one k back left before after told boot none by f said counts same still bad ended told_is boot_is =
      let few = f.1 in
      record {
        steps = front new;
        link = (given back, got back);
        closed = closed_by k back none by f said;
        ended = ended ∙ ap (λ e. before.ended ++ e ∷ []) (pair_same (given left) (given back) (got left) (got back) same.0 same.1);
        low = omega (arith, bad);
        faults = still;
        rose = λ some. omega (arith, bad, bad_of (faults left) (closes left) (omega (arith, few, some, counts.0, counts.1)));
        told_is = told_is;
        boot_is = boot_is;
        said = said_by;
      }

  -- the same by what was handed back
  pub ended_by : {E : Type 0} (whole : Option Clerk) (k : Clerk) → whole ≡ Some k → (back left : L) (before after : NetSeen) (told : List (List ℕ)) (boot : Option Age) → (first lock).linker ≡ None → LinksBy (first lock).linker (front new)
      → ((first lock).linker ≡ None → FinishedAlone (λ l. faults l + closes l) given got (first lock) (front new) whole back) → IfSome whole (λ k. AreSaid (front new)) → IfSome whole (λ k. told ≡ told_by (front new)) → boot ≡ old_boot (front new)
      → (faults left ≡ faults back) × (closes left ≡ closes back) → (given left ≡ given back) × (got left ≡ got back) → (r : Result (Unit {0}) E) → r ≡ Ok tt → after.faults ≡ before.faults → OnOk r (after.bad ≡ before.bad + is_bad (faults left) (closes left))
      → OnOk r (after.ended ≡ before.ended ++ (given left, got left) ∷ []) → EndedOne given got is_done before after lock pass told boot met
  ended_by whole k is back left before after told boot none by f said told_is boot_is counts same r done still bad ended =
      ended_one k back left before after told boot none by (subst (λ o. FinishedAlone (λ l. faults l + closes l) given got (first lock) (front new) o back) is (f none)) (subst (λ o. IfSome o (λ (x : Clerk). AreSaid (front new))) is said) counts same still
      (subst (λ o. OnOk o (after.bad ≡ before.bad + is_bad (faults left) (closes left))) done bad) (subst (λ o. OnOk o (after.ended ≡ before.ended ++ (given left, got left) ∷ [])) done ended) (subst (λ o. IfSome o (λ (x : Clerk). told ≡ told_by (front new))) is told_is) boot_is

module _ {L : Type 0} (given : L → Option (List Heard)) (got : L → Option (List (List ℕ))) (is_done : Bool) where
  closed_many : (locks : List (TracedLock (Node L) Step)) (passes : List (Pass (Node L) Step)) (runs : List (List Step)) (links : List Ended) → AllClosed given got locks passes runs links → length runs ≡ length passes
  closed_many [] [] [] [] c = refl
  closed_many (l ∷ ls) (p ∷ ps) (r ∷ rs) (e ∷ es) c = ap suc (closed_many ls ps rs es c.1)
  closed_many [] [] [] (e ∷ es) c = absurd c
  closed_many [] [] (r ∷ rs) es c = absurd c
  closed_many [] (p ∷ ps) rs es c = absurd c
  closed_many (l ∷ ls) [] rs es c = absurd c
  closed_many (l ∷ ls) (p ∷ ps) [] es c = absurd c
  closed_many (l ∷ ls) (p ∷ ps) (r ∷ rs) [] c = absurd c

  parted_more : (pass : Pass (Node L) Step) (passes : List (Pass (Node L) Step)) (steps : List Step) (runs : List (List Step)) (one all : Option NodeFault) → length runs ≡ length passes → Said is_done pass steps one → Parted is_done passes runs all → Parted is_done (pass ∷ passes) (steps ∷ runs) (or_fault one all)
  parted_more pass passes steps runs (Some f) all many said parted = (said.0, (0, steps, refl, said.1))
  parted_more pass passes steps runs None (Some g) many said parted =
      let has = parted.1 in (parted.0, (suc has.0, has.1, has.2, has.3))
  parted_more pass passes steps runs None None many said parted = λ done. (
    ap suc many,
    both (said done) (parted done).1,
  ) where
    both : SaidBye pass.number (front pass) steps → ((place : ℕ) (x : Pass (Node L) Step) (y : List Step) → slice_get passes place ≡ Some x → slice_get runs place ≡ Some y → SaidBye x.number (front x) y)
        → (place : ℕ) (x : Pass (Node L) Step) (y : List Step) → slice_get (pass ∷ passes) place ≡ Some x → slice_get (steps ∷ runs) place ≡ Some y → SaidBye x.number (front x) y
    both one rest zero x y p r = subst (λ q. SaidBye q.number (front q) y) (some_is p) (subst (SaidBye pass.number (front pass)) (some_is r) one)
    both one rest (suc i) x y p r = rest i x y p r

  pub ended_more : (before mid after : NetSeen) (lock : TracedLock (Node L) Step) (locks : List (TracedLock (Node L) Step)) (pass : Pass (Node L) Step) (passes : List (Pass (Node L) Step)) (lost : List (List ℕ)) (told longer : List (List (List ℕ))) (boot other both : Option Age) (met others all : Option NodeFault)
      → EndedOne given got is_done mid after lock pass lost boot met → EndedAll given got is_done before mid locks passes told other others → longer ≡ lost ∷ told → both ≡ or_boot boot other → all ≡ or_fault met others
      → EndedAll given got is_done before after (lock ∷ locks) (pass ∷ passes) longer both all
  ended_more before mid after lock locks pass passes lost told longer boot other both met others all o a t b f =
      let low = a.low in
      let more = o.low in
      record {
        runs = o.steps ∷ a.runs;
        links = o.link ∷ a.links;
        closed = (o.closed, a.closed);
        ended = o.ended ∙ (ap (λ l. l ++ o.link ∷ []) a.ended ∙ append_assoc before.ended _ (o.link ∷ []));
        low = omega (arith, low, more);
        faults = o.faults ∙ a.faults;
        rose = each_cons o.steps a.runs (λ place steps. 0 < nets steps → before.bad < after.bad) (λ some. let r = o.rose some in omega (arith, low, r)) (λ place steps at some. let r = a.rose place steps at some in omega (arith, more, r));
        none = λ e. absurd (cc e);
        told_is = t ∙ (ap (λ l. l ∷ told) o.told_is ∙ ap (λ l. told_by o.steps ∷ l) a.told_is);
        boot_is = b ∙ (ap (λ x. or_boot x other) o.boot_is ∙ ap (or_boot (old_boot o.steps)) a.boot_is);
        parted = subst (Parted is_done (pass ∷ passes) (o.steps ∷ a.runs)) (sym f) (parted_more pass passes o.steps a.runs met others (closed_many locks passes a.runs a.links a.closed) o.said a.parted);
      }

  pub ended_none : (net : NetSeen) → EndedAll given got is_done net net [] [] [] None None
  ended_none net = record {
    runs = [];
    links = [];
    closed = tt;
    ended = sym (append-nil net.ended);
    low = omega arith;
    faults = refl;
    rose = λ place steps e. absurd (cc e);
    none = λ e. refl;
    told_is = refl;
    boot_is = refl;
    parted = λ done. (refl, λ place x y p r. absurd (cc p));
  }

  -- these volumes are left, and the others have ended
  pub record Left (before now : NetSeen) (locks locks_left : List (TracedLock (Node L) Step)) (passes passes_left : List (Pass (Node L) Step)) (all : Option Ends) : Type 0 where
    pub locks_gone : List (TracedLock (Node L) Step)
    pub passes_gone : List (Pass (Node L) Step)
    pub locks_are : locks ≡ locks_left ++ locks_gone
    pub passes_are : passes ≡ passes_left ++ passes_gone
    pub ended : IfSome all (λ a. EndedAll given got is_done before now locks_gone passes_gone (lists_of a.told) a.boot a.fault)

  pub left_first : (net : NetSeen) (locks : List (TracedLock (Node L) Step)) (passes : List (Pass (Node L) Step)) (told : Vec (Vec (List ℕ) Global) Global) → told.items ≡ [] → Left net net locks locks passes passes (Some (record { told = told; boot = None; fault = None }))
  left_first net locks passes told none = record {
    locks_gone = [];
    passes_gone = [];
    locks_are = sym (append-nil locks);
    passes_are = sym (append-nil passes);
    ended = subst (λ l. EndedAll given got is_done net net [] [] (map (λ (w : Vec (List ℕ) Global). w.items) l) None None) (sym none) (ended_none net);
  }

  abbrev pub Joins : Option One → Option Ends → Ends → Type 0
  Joins one all r = (o : One) × (a : Ends) × (one ≡ Some o) × (all ≡ Some a) × (lists_of r.told ≡ o.told.items ∷ lists_of a.told) × (r.boot ≡ or_boot o.boot a.boot) × (r.fault ≡ or_fault o.fault a.fault)

  module _ (before mid after : NetSeen) (locks locks_left locks_less : List (TracedLock (Node L) Step)) (passes passes_left passes_less : List (Pass (Node L) Step)) (lock : TracedLock (Node L) Step) (pass : Pass (Node L) Step) (one : Option One) (all : Option Ends)
      (l : Left before mid locks locks_left passes passes_left all) (e : locks_left ≡ locks_less ++ lock ∷ []) (f : passes_left ≡ passes_less ++ pass ∷ [])
      (did : IfSome one (λ o. EndedOne given got is_done mid after lock pass o.told.items o.boot o.fault)) where
    joined_all : (both : Option Ends) → IfSome both (Joins one all) → IfSome both (λ r. EndedAll given got is_done before after (lock ∷ l.locks_gone) (pass ∷ l.passes_gone) (lists_of r.told) r.boot r.fault)
    joined_all None j = tt
    joined_all (Some r) j =
        let o = j.0 in
        let a = j.1 in
        let was : IfSome (Some o) (λ o. EndedOne given got is_done mid after lock pass o.told.items o.boot o.fault) = subst (λ x. IfSome x (λ o. EndedOne given got is_done mid after lock pass o.told.items o.boot o.fault)) j.2 did in
        let had : IfSome (Some a) (λ a. EndedAll given got is_done before mid l.locks_gone l.passes_gone (lists_of a.told) a.boot a.fault) = subst (λ x. IfSome x (λ a. EndedAll given got is_done before mid l.locks_gone l.passes_gone (lists_of a.told) a.boot a.fault)) j.3 l.ended in
        ended_more before mid after lock l.locks_gone pass l.passes_gone o.told.items (lists_of a.told) (lists_of r.told) o.boot a.boot r.boot o.fault a.fault r.fault was had j.4 j.5 j.6

    pub left_more : (both : Option Ends) → IfSome both (Joins one all) → Left before after locks locks_less passes passes_less both
    left_more both j = record {
      locks_gone = lock ∷ l.locks_gone;
      passes_gone = pass ∷ l.passes_gone;
      locks_are = l.locks_are ∙ (ap (λ x. x ++ l.locks_gone) e ∙ append_assoc locks_less (lock ∷ []) l.locks_gone);
      passes_are = l.passes_are ∙ (ap (λ x. x ++ l.passes_gone) f ∙ append_assoc passes_less (pass ∷ []) l.passes_gone);
      ended = joined_all both j;
    }

  pub left_all : (before now : NetSeen) (locks locks_left : List (TracedLock (Node L) Step)) (passes passes_left : List (Pass (Node L) Step)) (all : Option Ends) → locks_left ≡ [] → passes_left ≡ [] → Left before now locks locks_left passes passes_left all
      → IfSome all (λ a. EndedAll given got is_done before now locks passes (lists_of a.told) a.boot a.fault)
  left_all before now locks locks_left passes passes_left all e f l =
      subst (λ x. IfSome all (λ a. EndedAll given got is_done before now x passes (lists_of a.told) a.boot a.fault)) (sym (l.locks_are ∙ ap (λ y. y ++ l.locks_gone) e))
      (subst (λ x. IfSome all (λ a. EndedAll given got is_done before now l.locks_gone x (lists_of a.told) a.boot a.fault)) (sym (l.passes_are ∙ ap (λ y. y ++ l.passes_gone) f)) l.ended)

  module _ {C S : Type 0} (lock_of : C → TracedLock (Node L) Step) (pass_of : S → Pass (Node L) Step) (locks : List (TracedLock (Node L) Step)) (passes : List (Pass (Node L) Step)) where
    -- the last one of those that are left has ended
    pub left_next : (before mid after : NetSeen) (clerks less : List C) (clerk : C) (parts fewer : List S) (part : S) (one : Option One) (all both : Option Ends) → clerks ≡ less ++ clerk ∷ [] → parts ≡ fewer ++ part ∷ []
        → Left before mid locks (map lock_of clerks) passes (map pass_of parts) all → IfSome one (λ o. EndedOne given got is_done mid after (lock_of clerk) (pass_of part) o.told.items o.boot o.fault) → IfSome both (Joins one all)
        → Left before after locks (map lock_of less) passes (map pass_of fewer) both
    left_next before mid after clerks less clerk parts fewer part one all both e f l did j =
        left_more before mid after locks (map lock_of clerks) (map lock_of less) passes (map pass_of parts) (map pass_of fewer) (lock_of clerk) (pass_of part) one all l (map_push lock_of less clerks clerk e) (map_push pass_of fewer parts part f) did both j

    pub left_over : (before now : NetSeen) (clerks : List C) (parts : List S) (all : Option Ends) → clerks ≡ [] → AreSeated (map lock_of clerks) (map pass_of parts) → Left before now locks (map lock_of clerks) passes (map pass_of parts) all
        → IfSome all (λ a. EndedAll given got is_done before now locks passes (lists_of a.told) a.boot a.fault)
    left_over before now clerks parts all none seated l =
        let no_parts = none_where parts (length clerks) (sym (same_length lock_of pass_of clerks parts seated)) (ap length none) in
        left_all before now locks (map lock_of clerks) passes (map pass_of parts) all (ap (map lock_of) none) (ap (map pass_of) no_parts) l
