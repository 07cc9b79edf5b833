-- From one turn at the lock to what the pass knows.
use Rattle.std.proofs.Common.{◌≡◌, ℕ, ◌+◌, ◌≤◌, ◌⊎◌, false, cond, IfOk, List, [], ◌∷◌, ◌++◌, length, Option, Some, None, Result, Ok, Err, IfSome, slice_get, sym, refl, ap, ◌∙◌, subst, inl, inr, ⊎_elim, arith, eq-eqb, ne_eqb, append_assoc, append-nil, length-append}
use Rattle.std.specs.Prelude.{Bool, true, not, OnOk, IfErr, IfNone, if◌then◌else◌}
use mathlib.Core.List.{IsPrefix}
use Rattle.ec_protocol.specs.declared.clerk.Clerk.{Clerk}
use Rattle.std.specs.List.{All}
use Rattle.std.proofs.lemmas.List.Elements.{All-nil}
use Rattle.ec_base.specs.declared.ids.Age.{Age}
use Rattle.ec_log.specs.declared.state.Asked.{Asked}
use Rattle.ec_plain.specs.declared.call.Call.{Call}
use Rattle.ec_protocol.specs.declared.clerk.Flushed.{Flushed}
use Rattle.ec_link.specs.Links.{Heard}
use Rattle.ec_link.specs.declared.link.Sent.TheVariants as sent
use Rattle.ec_lock.specs.PassViews.{first, front, numbers, raised, IsPassOf, Same, Marked}
use Rattle.ec_lock.specs.Steps.{Member, of}
use Rattle.ec_lock.specs.declared.types.Pass.{Pass}
use Rattle.ec_lock.specs.declared.types.TracedLock.{TracedLock}
use Rattle.ec_outs.specs.Outs.{Reply, sends}
use Rattle.ec_clerknode.specs.declared.fault.NodeFault.{NodeFault}
use Rattle.ec_clerknode.specs.declared.fault.NodeFault.TheVariants as fault
use Rattle.ec_clerknode.specs.declared.act.Act.{Act}
use Rattle.ec_clerknode.specs.declared.step.Deed.TheVariants.{Parted, Resent}
use Rattle.ec_clerknode.specs.declared.step.Step.{Step}
use Rattle.ec_clerknode.specs.declared.state.Node.{Node}
use Rattle.ec_clerknode.specs.Floors.{highest_grows}
use Rattle.ec_clerknode.specs.FoldedAnswers.{answer_to}
use Rattle.ec_clerknode.specs.PresentLink.{has_link, Over, CameOver, Counted, LinksBy}
use Rattle.ec_clerknode.specs.Run.{told_by, heard_of, heard_by, said_in, says_bye, AreSaid, call_of, calls, marks, mark_of_deed, mark_of_end, Among, IsRun, old_boot}
use Rattle.ec_clerknode.specs.RunEnds.{Wanted, Came, leads, highest}
use Rattle.ec_clerknode.specs.Node.{AnsweredAt}
use Rattle.ec_clerknode.specs.NodeSteps.{Since, By, AnsweredFrom}
use Rattle.ec_clerknode.specs.Closed.{More, Caused, Closed, GoesOnAfter, EndsAs, StopsTurn, Fails, Fell, Begun, Works, Flushes, PartsIf, PartsBehind, Resends, ReadsFlushes, Links, Started, Waited}
use Rattle.ec_clerknode.specs.Turns.{number_of, calls_by, Replied, SaidBye}
use Rattle.ec_clerknode.specs.PassTurns.{Failed, Called, Worked, Partings, Stays, Turned, Pending, Starts, Waits, PickedLast, AsksFlush, FlushTurned, Finished, FinishedAlone, HandsBack, Relinked}
use Rattle.ec_clerknode.proofs.Lists.{prefix_length, prefix_get, get_last}
use Rattle.ec_clerknode.proofs.Parts.{came_over, none_linked}
use Rattle.ec_clerknode.proofs.Parts as Parts
use Rattle.ec_outs.proofs.Told.{added-nil}
use Rattle.ec_lock.proofs.StepsLemmas.{of-append}
use Rattle.ec_base.proofs.Equalities.{true_false}
use Rattle.ec_base.proofs.Lists.{prefix_trans}
use Rattle.ec_link.proofs.HappeningsLemmas.{each-append}

pub of_own : (pass : ℕ) (more : List Step) → By pass more → of number_of pass more ≡ more
of_own pass [] h = refl
of_own pass (s ∷ ss) h = ap (λ b. cond b (s ∷ of number_of pass ss) (of number_of pass ss)) (eq-eqb s.pass pass h.0) ∙ ap (λ l. s ∷ l) (of_own pass ss h.1)

pub of_others : (pass n : ℕ) (more : List Step) → By pass more → ¬ (n ≡ pass) → of number_of n more ≡ []
of_others pass n [] h ne = refl
of_others pass n (s ∷ ss) h ne = ap (λ b. cond b (s ∷ of number_of n ss) (of number_of n ss)) (ne_eqb s.pass n (λ e. ne (sym e ∙ h.0))) ∙ of_others pass n ss h.1 ne

pub calls-append : (xs ys : List Step) → calls (xs ++ ys) ≡ calls xs ++ calls ys
calls-append xs ys = each-append (λ (s : Step). call_of s.deed) xs ys

pub among_right : {A : Type 0} (x : A) (xs ys : List A) → Among x ys → Among x (xs ++ ys)
among_right x [] ys m = m
among_right x (y ∷ xs) ys m = inr (among_right x xs ys m)

pub marks-right : (f : NodeFault) (xs ys : List Step) → Among f (marks ys) → Among f (marks (xs ++ ys))
marks-right f xs ys m = subst (Among f) (sym (each-append (λ (s : Step). mark_of_deed s.deed ++ mark_of_end s.end) xs ys)) (among_right f (marks xs) (marks ys) m)

pub caused-right : (boot : Option Age) (f : NodeFault) (xs ys : List Step) → Caused boot f ys → Caused boot f (xs ++ ys)
caused-right boot fault.Net xs ys c = (c.0, marks-right fault.Net xs ys c.1)
caused-right boot (fault.Peer place) xs ys c = (c.0, marks-right (fault.Peer place) xs ys c.1)
caused-right boot (fault.Long n) xs ys c = (c.0, marks-right (fault.Long n) xs ys c.1)
caused-right boot (fault.OldBoot age) xs ys c = c
caused-right boot (fault.Spent counter) xs ys c = (c.0, marks-right (fault.Spent counter) xs ys c.1)
caused-right boot fault.NoMemory xs ys c = tt

-- where neither the deed nor the turn has a mark, the fault is how the step's sending ended
stopped : (boot : Option Age) (step : Step) (marked : Option NodeFault) (f : NodeFault) → marked ≡ None → mark_of_deed step.deed ≡ [] → StopsTurn boot step.end marked f → Caused boot f (step ∷ [])
stopped boot step marked fault.Net none own h = (
  h.0,
  ⊎_elim (λ (e : step.end ≡ sent.Failed). subst (λ l. Among fault.Net ((l ++ mark_of_end step.end) ++ [])) (sym own) (subst (λ x. Among fault.Net (mark_of_end x ++ [])) (sym e) (inl refl)))
      (λ (e : marked ≡ Some fault.Net). absurd (cc (sym none ∙ e))) h.1,
)
stopped boot step marked (fault.Peer place) none own h = absurd (cc (sym none ∙ h.1))
stopped boot step marked (fault.Long n) none own h = absurd (cc (sym none ∙ h.1))
stopped boot step marked (fault.OldBoot age) none own h = h
stopped boot step marked (fault.Spent counter) none own h = absurd (cc (sym none ∙ h.1))
stopped boot step marked fault.NoMemory none own h = tt

by-append : (pass : ℕ) (xs ys : List Step) → By pass xs → By pass ys → By pass (xs ++ ys)
by-append pass [] ys a b = b
by-append pass (x ∷ xs) ys a b = (a.0, by-append pass xs ys a.1 b)

none_both : (xs ys : List Step) → calls xs ≡ [] → calls ys ≡ [] → calls (xs ++ ys) ≡ []
none_both xs ys a b = calls-append xs ys ∙ (λ i. a i ++ b i)

none_of : (more : List Step) → (calls more ≡ []) ⊎ (calls more ≡ []) → calls more ≡ []
none_of more h = ⊎_elim (λ (e : calls more ≡ []). e) (λ (e : calls more ≡ []). e) h

module _ {L : Type 0} where
  -- only the pass's own steps were added
  pub own_only : (pass mine : ℕ) (before : List Step) (v w : Node L) → before ≡ v.trace.items → mine ≡ pass → (more : List Step) × More pass v w more → (n : ℕ) → ¬ (n ≡ mine) → of number_of n before ≡ of number_of n w.trace.items
  own_only pass mine before v w e same m n ne =
      ap (of number_of n) e ∙ sym (ap (of number_of n) m.1.0 ∙ (of-append number_of n v.trace.items m.0 ∙ (ap (λ l. of number_of n v.trace.items ++ l) (of_others pass n m.0 m.1.1 (λ x. ne (x ∙ sym same))) ∙ append-nil (of number_of n v.trace.items))))

  -- the list goes on from this front
  pub later_front : (pass : ℕ) (before : List Step) (v w : Node L) → before ≡ v.trace.items → (more : List Step) × More pass v w more → IsPrefix before w.trace.items
  later_front pass before v w e m = (m.0, ap (λ l. l ++ m.0) e ∙ sym m.1.0)

  pub grown : (pass : ℕ) (v w : Node L) → (more : List Step) × More pass v w more → IsPrefix v.trace.items w.trace.items
  grown pass v w m = (m.0, sym m.1.0)

  fails_more : (pass : ℕ) (cs : List Call) (v w : Node L) (f : NodeFault) → Fails pass cs v w f → (more : List Step) × More pass v w more
  fails_more pass cs v w f b = (b.0, b.1)

  begun_more : (pass : ℕ) (call : Call) (v w : Node L) (r : Result ℕ NodeFault) → Begun pass call v w r → (more : List Step) × More pass v w more
  begun_more pass call v w (Ok n) b = (b.1.1 ∷ [], b.1.4)
  begun_more pass call v w (Err f) b = fails_more pass (call ∷ []) v w f b

  pub works_more : {A : Type 0} (pass : ℕ) (v w : Node L) (r : Result A NodeFault) → Works pass v w r → (more : List Step) × More pass v w more
  works_more pass v w (Ok x) b = (b.1.0, b.1.1)
  works_more pass v w (Err f) b = fails_more pass [] v w f b

  more_both : (pass : ℕ) (old mid new : Node L) (xs ys : List Step) → More pass old mid xs → More pass mid new ys → More pass old new (xs ++ ys)
  more_both pass old mid new xs ys a b = (b.0 ∙ (ap (λ l. l ++ ys) a.0 ∙ append_assoc old.trace.items xs ys), by-append pass xs ys a.1 b.1)

  pub fails_both : (pass : ℕ) (old mid new : Node L) (f : NodeFault) (xs : List Step) → More pass old mid xs → calls xs ≡ [] → Fails pass [] mid new f → Fails pass [] old new f
  fails_both pass old mid new f xs m none b = (xs ++ b.0, more_both pass old mid new xs b.0 m b.1, inl (none_both xs b.0 none (none_of b.0 b.2)), caused-right new.boot f xs b.0 b.3)

  -- memory was wanting for a step of a turn
  pub fell_fails : (pass : ℕ) (cs : List Call) (old mid new : Node L) → mid.trace.items ≡ old.trace.items → Fell pass mid new → Fails pass cs old new fault.NoMemory
  fell_fails pass cs old mid new same f =
      let step = f.step in (step ∷ [], (f.list ∙ ap (λ l. l ++ step ∷ []) same, (f.pass_is, tt)), inl (append-nil (call_of step.deed) ∙ ap call_of f.is.0), tt)

  pub parts_more : {A : Type 0} (pass : ℕ) (v w : Node L) (r : Result (A × Bool) NodeFault) → PartsBehind pass v w r → (more : List Step) × More pass v w more
  parts_more pass v w (Ok r) b = ends_more r.1 b.1.2 where
    ends_more : (is_said : Bool) → PartsIf is_said pass b.1.0 w → (more : List Step) × More pass v w more
    ends_more true q = (b.1.1.0 ++ q.0 ∷ [], more_both pass v b.1.0 w b.1.1.0 (q.0 ∷ []) b.1.1.1 q.2)
    ends_more false q = (b.1.1.0 ++ q.0, more_both pass v b.1.0 w b.1.1.0 q.0 b.1.1.1 q.1)
  parts_more pass v w (Err f) b = fails_more pass [] v w f b

  -- a goodbye that the link took, or none
  pub parts_so : (pass : ℕ) (old mid new : Node L) (step : Step) (lasts is_down said : Bool) (marked : Option NodeFault) → said ≡ not is_down → step.deed ≡ Parted → says_bye (sends step.outs.value.items) ≡ true → GoesOnAfter lasts is_down step.end marked
      → mid.trace.items ≡ old.trace.items → More pass mid new (step ∷ []) → PartsIf said pass old new
  parts_so pass old mid new step lasts true said marked e deed says ends same m =
      subst (λ b. PartsIf b pass old new) (sym e) (step ∷ [], (m.0 ∙ ap (λ l. l ++ step ∷ []) same, m.1), append-nil (call_of step.deed) ∙ ap call_of deed)
  parts_so pass old mid new step lasts false said marked e deed says ends same m = subst (λ b. PartsIf b pass old new) (sym e)
      (step, (deed, says, ⊎_elim (λ (w : (marked ≡ None) × (step.end ≡ sent.Done)). w.1) (λ w. absurd (true_false (sym w.1))) ends), (m.0 ∙ ap (λ l. l ++ step ∷ []) same, m.1))

  -- it sent again, which begins nothing
  pub resent_works : (pass : ℕ) (old mid new : Node L) (r : Result (Unit {0}) NodeFault) → mid.trace.items ≡ old.trace.items → Resends pass mid new r → Works pass old new r
  resent_works pass old mid new (Ok u) same b =
      let s = b.1.0 in (b.0, (s ∷ [], (b.1.2.0 ∙ ap (λ l. l ++ s ∷ []) same, b.1.2.1), append-nil (call_of s.deed) ∙ ap call_of b.1.1))
  resent_works pass old mid new (Err f) same b = (b.0, (b.1.0 ∙ ap (λ l. l ++ b.0) same, b.1.1), b.2, b.3)

  pub works_both : {A B C : Type 0} (pass : ℕ) (old mid new : Node L) (x : A) (y : B) (z : C) → Works pass old mid (Ok x) → Works pass mid new (Ok y) → Works pass old new (Ok z)
  works_both pass old mid new x y z a b = (b.0, (a.1.0 ++ b.1.0, more_both pass old mid new a.1.0 b.1.0 a.1.1 b.1.1, none_both a.1.0 b.1.0 a.1.2 b.1.2))

  module _ (counts : L → ℕ) (given : L → Option (List Heard)) (got : L → Option (List (List ℕ))) where
    pub started_more : (pass : ℕ) (call : Call) (v w : Node L) (r : Result (ℕ × ℕ × Option Reply) NodeFault) → Started counts given got pass call v w r → (more : List Step) × More pass v w more
    started_more pass call v w (Ok r) b = begun_more pass call v w (Ok r.0) b.0
    started_more pass call v w (Err f) b = begun_more pass call v w (Err f) b

    pub flushed_more : {A : Type 0} (pass : ℕ) (asked : Asked) (v w : Node L) (r : Result (A × Flushed) NodeFault) → ReadsFlushes counts given got pass asked v w r → (more : List Step) × More pass v w more
    flushed_more pass asked v w (Ok r) b = let step = b.3.2 in (b.2.0 ++ step.0 ∷ [], more_both pass v b.0 w b.2.0 (step.0 ∷ []) b.2.1 step.5)
    flushed_more pass asked v w (Err f) b = fails_more pass [] v w f b

    -- a turn that sent again, by how its step ended
    pub resends_so : (pass : ℕ) (act : Act) (step : Step) (old mid new : Node L) (r : Result (Unit {0}) NodeFault) → mid.trace.items ≡ old.trace.items → act.deed ≡ Resent → act.fault ≡ None → Closed counts given got pass act.deed act.outs.items step mid new
        → EndsAs new.boot new.lasts new.is_down step.end act.fault r → Resends pass old new r
    resends_so pass act step old mid new (Ok u) same deed none k e = (e.0, (step, k.deed_is ∙ deed, (k.list ∙ ap (λ l. l ++ step ∷ []) same, (k.pass_is, tt))))
    resends_so pass act step old mid new (Err f) same deed none k e =
        let is : step.deed ≡ Resent = k.deed_is ∙ deed in
        (step ∷ [], (k.list ∙ ap (λ l. l ++ step ∷ []) same, (k.pass_is, tt)), inl (append-nil (call_of step.deed) ∙ ap call_of is), stopped new.boot step act.fault f none (ap mark_of_deed is) e)

    -- a turn at the lock
    pub turned : (lock : TracedLock (Node L) Step) (old mid new : Pass (Node L) Step) (v w : Node L) → Since counts given got (first lock) w → IsPrefix (front old) v.trace.items → IsPrefix v.trace.items w.trace.items
        → Same old mid → Marked old (highest v.trace.items) → IsPassOf lock new → front new ≡ w.trace.items → Stays mid new → highest (front new) ≤ raised new
        → front mid ≡ v.trace.items → ((n : ℕ) → Member n (numbers old) → of number_of n (front old) ≡ of number_of n v.trace.items)
        → ((n : ℕ) → ¬ (n ≡ mid.number) → of number_of n (front mid) ≡ of number_of n w.trace.items) → Turned lock old new
    turned lock old mid new v w since later more same marked is_pass is stays raises begun own others =
        let up : highest v.trace.items ≤ highest (front new) = subst (λ l. highest v.trace.items ≤ highest l) (sym is) (highest_grows v.trace.items w.trace.items more) in
        let same_raised = same.2 in
        let rises = stays.3 in
        let low = marked.0 in
        let low_too = marked.1 in
        record {
          is_pass = is_pass;
          stays = (stays.0 ∙ same.0, stays.1 ∙ same.1, stays.2 ∙ same.3, omega arith);
          goes = (subst (IsRun (first lock).clerk) (sym is) since.run, subst (IsPrefix (front old)) (sym is) (prefix_trans (front old) v.trace.items w.trace.items later more));
          marked = (omega arith, omega arith);
          raises = raises;
          others = λ n m ne. own n m ∙ (ap (of number_of n) (sym begun) ∙ (others n (λ e. ne (e ∙ same.0)) ∙ ap (of number_of n) (sym is)));
        }

    pub turned_both : (lock : TracedLock (Node L) Step) (old mid new : Pass (Node L) Step) → Turned lock old mid → Turned lock mid new → Turned lock old new
    turned_both lock old mid new p q =
        let a = p.stays in
        let b = q.stays in
        let raised_up = a.3 in
        let raised_more = b.3 in
        let same = a.2 in
        let low = q.marked.0 in
        let low_too = q.marked.1 in
        record {
          is_pass = q.is_pass;
          stays = (b.0 ∙ a.0, b.1 ∙ a.1, b.2 ∙ a.2, omega arith);
          goes = (q.goes.0, prefix_trans (front old) (front mid) (front new) p.goes.1 q.goes.1);
          marked = (omega arith, omega arith);
          raises = q.raises;
          others = λ n m ne. p.others n m ne ∙ q.others n (subst (Member n) (sym a.1) m) (λ e. ne (e ∙ a.0));
        }

    module _ (first : Node L) (pass : ℕ) (before after : List Step) (v w : Node L) (sv : Since counts given got first v) (sw : Since counts given got first w) (later : IsPrefix before v.trace.items)
        (own : of number_of pass before ≡ of number_of pass v.trace.items) (is : w.trace.items ≡ after) where
      calls_then : (more : List Step) → More pass v w more → calls_by pass after ≡ calls_by pass before ++ calls more
      calls_then more m = ap (calls_by pass) (sym is ∙ m.0) ∙ (ap calls (of-append number_of pass v.trace.items more) ∙ (calls-append (of number_of pass v.trace.items) (of number_of pass more)
          ∙ ((λ i. calls (sym own i) ++ calls (of_own pass more m.1 i)))))

      none_then : (more : List Step) → More pass v w more → calls more ≡ [] → calls_by pass after ≡ calls_by pass before
      none_then more m e = calls_then more m ∙ (ap (λ l. calls_by pass before ++ l) e ∙ append-nil (calls_by pass before))

      boot_is : w.boot ≡ old_boot after
      boot_is = sw.old ∙ ap old_boot is

      fails : (cs : List Call) (f : NodeFault) → Fails pass cs v w f → Failed pass cs before after f
      fails cs f b =
          let more = b.0 in
          let m = b.1 in (
            ⊎_elim (λ (e : calls more ≡ []). inl (none_then more m e)) (λ (e : calls more ≡ cs). inr (calls_then more m ∙ ap (λ l. calls_by pass before ++ l) e)) b.2,
            (
              later.0 ++ more,
              sym (append_assoc before later.0 more) ∙ (ap (λ l. l ++ more) later.1 ∙ (sym m.0 ∙ is)),
              subst (λ l. Caused (old_boot after) f l) (sym (of-append number_of pass later.0 more ∙ ap (λ l. of number_of pass later.0 ++ l) (of_own pass more m.1)))
                  (caused-right (old_boot after) f (of number_of pass later.0) more (subst (λ o. Caused o f more) boot_is b.3)),
            ),
          )

      pub starts : (call : Call) (r : Result (ℕ × ℕ × Option Reply) NodeFault) → Started counts given got pass call v w r → Starts pass call before after r
      starts call (Ok r) b =
          let own_step = b.0.1 in
          let more = own_step.4 in
          let place : r.1 ≡ length v.trace.items = b.1 ∙ sv.counted in
          let le = prefix_length before v.trace.items later in
          let long : after ≡ v.trace.items ++ own_step.1 ∷ [] = sym is ∙ more.0 in
          let one : call_of own_step.1.deed ≡ call ∷ [] = ap call_of own_step.3 ∙ ap (λ c. c ∷ []) own_step.2 in (
            (
              calls_then (own_step.1 ∷ []) more ∙ ap (λ l. calls_by pass before ++ l) (append-nil (call_of own_step.1.deed) ∙ one),
              omega arith,
              (own_step.1, own_step.0, ap (slice_get after) place ∙ (ap (λ l. slice_get l (length v.trace.items)) long ∙ get_last v.trace.items own_step.1), own_step.3, own_step.2, more.1.0),
            ),
            sym boot_is ∙ b.0.0,
            subst (λ l. IfSome r.2 (λ a. AnsweredFrom l r.1 r.0 a)) is (b.2 first sv),
          )
      starts call (Err f) b = fails (call ∷ []) f b

      pub works : {A : Type 0} (r : Result A NodeFault) → Works pass v w r → Worked pass before after r
      works (Ok x) b = (none_then b.1.0 b.1.1 b.1.2, sym boot_is ∙ b.0)
      works (Err f) b = fails [] f b

      pub waits : {A : Type 0} (number place : ℕ) (r : Result (A × Option Reply) NodeFault) → Works pass v w r → Waited counts given got number place v w r → Waits pass before after number place r
      waits number place (Ok r) b a = (works (Ok r) b, subst (λ l. IfSome r.1 (λ x. AnsweredFrom l place number x)) is (a first sv))
      waits number place (Err f) b a = fails [] f b

      picked_last : (asked : Asked) (mid : Node L) (xs : List Step) (s : Step) (answer : Flushed) → Since counts given got first mid → More pass v mid xs → Flushes pass asked mid w (Ok answer) → PickedLast first.clerk pass asked before after answer
      picked_last asked mid xs s answer sm m f =
          let step = f.2 in
          let up = f.1 in (
            mid.trace.items,
            step.0,
            step.1,
            sym step.5.0 ∙ is,
            prefix_trans before v.trace.items mid.trace.items later (xs, sym m.0),
            step.3,
            step.2,
            step.5.1.0,
            step.4 ∙ ap (answer_to asked) (sym (sm.leads_to up)),
          )

      pub flushes : {A : Type 0} (asked : Asked) (r : A × Flushed) → ReadsFlushes counts given got pass asked v w (Ok r) → FlushTurned first.clerk pass asked before after (Ok r.1)
      flushes asked r b =
          let f = b.3 in
          let step = f.2 in
          let all = more_both pass v b.0 w b.2.0 (step.0 ∷ []) b.2.1 step.5 in
          let none : calls (step.0 ∷ []) ≡ [] = append-nil (call_of step.0.deed) ∙ ap call_of step.3 in (
            (none_then (b.2.0 ++ step.0 ∷ []) all (none_both b.2.0 (step.0 ∷ []) b.2.2 none), sym boot_is ∙ f.0),
            picked_last asked b.0 b.2.0 step.0 r.1 (b.1 first sv) b.2.1 f,
          )

      pub asks : {A : Type 0} (asked : Asked) (r : Result (A × Flushed) NodeFault) → ReadsFlushes counts given got pass asked v w r → AsksFlush first.clerk pass asked before after r
      asks asked (Ok r) b = flushes asked r b
      asks asked (Err f) b = fails [] f b

      -- a goodbye, or none, behind a turn that began nothing
      parting : {A : Type 0} (x : A) (is_said : Bool) (mid : Node L) (xs : List Step) → More pass v mid xs → calls xs ≡ [] → PartsIf is_said pass mid w → w.boot ≡ None → Worked pass before after (Ok x) × (is_said ≡ true → SaidBye pass before after)
      parting x true mid xs m none q up =
          let s = q.0 in
          let all = more_both pass v mid w xs (s ∷ []) m q.2 in
          let still : calls (s ∷ []) ≡ [] = append-nil (call_of s.deed) ∙ ap call_of q.1.0 in
          let le = prefix_length before v.trace.items later in
          let longer = ap length m.0 ∙ length-append v.trace.items xs in (
            (none_then (xs ++ s ∷ []) all (none_both xs (s ∷ []) none still), sym boot_is ∙ up),
            (λ said. (
              length mid.trace.items,
              s,
              omega arith,
              ap (λ l. slice_get l (length mid.trace.items)) (sym is ∙ q.2.0) ∙ get_last mid.trace.items s,
              q.2.1.0,
              q.1,
            )),
          )
      parting x false mid xs m none q up = (
        (none_then (xs ++ q.0) (more_both pass v mid w xs q.0 m q.1) (none_both xs q.0 none q.2), sym boot_is ∙ up),
        (λ said. absurd (true_false (sym said))),
      )

      pub partings : {A : Type 0} (r : Result (A × Bool) NodeFault) → PartsBehind pass v w r → Partings pass before after r
      partings (Ok r) b = parting r r.1 b.1.0 b.1.1.0 b.1.1.1 b.1.1.2 b.1.2 b.0
      partings (Err f) b = fails [] f b

      -- the link was exchanged
      pub relinked : (link : L) → Links pass v w link → Relinked counts given got first pass before after link
      relinked link l =
          let step = l.3.0 in
          let more = l.3.2 in (
            v.trace.items,
            step,
            sym more.0 ∙ is,
            later,
            own,
            l.3.1,
            more.1.0,
            sym sv.linker ∙ l.2,
            sv.links,
            subst (λ x. HandsBack counts given got first v.trace.items x) (sym l.0) (sv.net, sv.sent, sv.heard l.1),
          )

      pub relinked_if : (r : Result L NodeFault) → IfOk r (λ link. Links pass v w link) → IfOk r (λ link. Relinked counts given got first pass before after link)
      relinked_if (Ok link) l = relinked link l
      relinked_if (Err f) l = tt

    -- nothing was exchanged
    pub kept_if : (pass : ℕ) (before after : List Step) (v w : Node L) → of number_of pass before ≡ of number_of pass v.trace.items → after ≡ w.trace.items → (r : Result L NodeFault) → IfErr r (λ f. (f ≡ fault.NoMemory) × (w ≡ v))
        → IfErr r (λ _. of number_of pass after ≡ of number_of pass before)
    kept_if pass before after v w own is (Ok link) e = tt
    kept_if pass before after v w own is (Err f) e = ap (of number_of pass) (is ∙ ap (λ (n : Node L). n.trace.items) e.1) ∙ sym own

    links_more : (pass : ℕ) (v w : Node L) (link : L) → Links pass v w link → (more : List Step) × More pass v w more
    links_more pass v w link l = (l.3.0 ∷ [], l.3.2)

    -- what an exchange adds, or nothing
    pub relinks_more : (pass : ℕ) (v w : Node L) (r : Result L NodeFault) → IfOk r (λ link. Links pass v w link) → IfErr r (λ f. (f ≡ fault.NoMemory) × (w ≡ v)) → (more : List Step) × More pass v w more
    relinks_more pass v w (Ok link) l e = links_more pass v w link l
    relinks_more pass v w (Err f) l e = ([], (ap (λ (n : Node L). n.trace.items) e.1 ∙ sym (append-nil v.trace.items), tt))

    -- where a turn ended well, memory was wanting for no message before
    pub said_if : {A : Type 0} (start w : Node L) (after : List Step) → Since counts given got start w → after ≡ w.trace.items → (r : Result A NodeFault) → OnOk r (w.broken ≡ false) → OnOk r (AreSaid after)
    said_if start w after s e (Ok x) up = subst AreSaid (sym e) (s.said up)
    said_if start w after s e (Err f) up = tt

    begins_over : {A : Type 0} (by : Step → List A) (now : Option (List A)) (steps : List Step) → steps ≡ [] → Over by now steps now
    begins_over by now steps none = subst (λ l. Over by now l now) (sym none) (now, refl, sym (added-nil now))

    -- the value that a lock is made with
    pub begins : (n : Node L) → n.trace.items ≡ [] → n.kept.items ≡ [] → n.told.items ≡ [] → n.boot ≡ None → n.steps ≡ 0 → n.top ≡ 0 → n.broken ≡ false → Since counts given got n n
    begins n list kept told boot steps top up = let heard = begins_over (λ (s : Step). heard_of s.deed) (given n.link) n.trace.items list in record {
      run = subst (IsRun n.clerk) (sym list) tt;
      counted = steps ∙ sym (ap length list);
      leads_to = λ up. ap (leads n.clerk) list;
      kept = subst (All (λ a. AnsweredAt n.trace.items a.at a.number a.reply)) (sym kept) (All-nil (λ a. AnsweredAt n.trace.items a.at a.number a.reply));
      told = λ up. told ∙ sym (ap told_by list);
      old = boot ∙ sym (ap old_boot list);
      top = top ∙ sym (ap highest list);
      net = subst (λ l. Counted (counts n.link) l (counts n.link)) (sym list) (omega arith);
      heard = λ up. heard;
      sent = begins_over said_in (got n.link) n.trace.items list;
      said = λ up. subst AreSaid (sym list) tt;
      wanted = λ down. absurd (true_false (sym down ∙ up));
      came = came_over (given n.link) (given n.link) n.trace.items heard;
      linker = refl;
      links = subst (LinksBy n.linker) (sym list) tt;
    }

    module _ (start v : Node L) (steps : List Step) (is : steps ≡ v.trace.items) (s : Since counts given got start v) where
      nets_are : Counted (counts start.link) steps (counts v.link)
      nets_are = subst (λ l. Counted (counts start.link) l (counts v.link)) (sym is) s.net

      sent_are : Over said_in (got start.link) steps (got v.link)
      sent_are = subst (λ l. Over said_in (got start.link) l (got v.link)) (sym is) s.sent

      heard_are : v.broken ≡ false → Over (λ s. heard_of s.deed) (given start.link) steps (given v.link)
      heard_are up = subst (λ l. Over (λ (s : Step). heard_of s.deed) (given start.link) l (given v.link)) (sym is) (s.heard up)

      finished_none : Finished counts given got start steps None v.link
      finished_none = (subst (IsRun start.clerk) (sym is) s.run, nets_are, sent_are, tt)

      finished_some : v.broken ≡ false → Finished counts given got start steps (Some v.clerk) v.link
      finished_some up = (subst (IsRun start.clerk) (sym is) s.run, nets_are, sent_are, (ap (leads start.clerk) is ∙ s.leads_to up, heard_are up))

      pub links_are : LinksBy start.linker steps
      links_are = subst (LinksBy start.linker) (sym is) s.links

      finished_by : (b : Bool) → v.broken ≡ b → Finished counts given got start steps (if b then None else Some v.clerk) v.link
      finished_by true e = finished_none
      finished_by false e = finished_some e

      -- there is no clerk where memory was wanting
      pub finished : (c : Option Clerk) → c ≡ (if v.broken then None else Some v.clerk) → Finished counts given got start steps c v.link
      finished c e = subst (λ o. Finished counts given got start steps o v.link) (sym e) (finished_by v.broken refl)

      wanted_where : (b : Bool) → v.broken ≡ b → IfNone (if b then None else Some v.clerk) (Wanted steps)
      wanted_where true e = subst Wanted (sym is) (s.wanted e)
      wanted_where false e = tt

      pub wanted_then : (c : Option Clerk) → c ≡ (if v.broken then None else Some v.clerk) → IfNone c (Wanted steps)
      wanted_then c e = subst (λ o. IfNone o (Wanted steps)) (sym e) (wanted_where v.broken refl)

      said_where : (b : Bool) → v.broken ≡ b → IfSome (if b then None else Some v.clerk) (λ _. AreSaid steps)
      said_where true e = tt
      said_where false e = subst AreSaid (sym is) (s.said e)

      pub said_then : (c : Option Clerk) → c ≡ (if v.broken then None else Some v.clerk) → IfSome c (λ _. AreSaid steps)
      said_then c e = subst (λ o. IfSome o (λ _. AreSaid steps)) (sym e) (said_where v.broken refl)

      pub came_all : CameOver (given start.link) steps (given v.link)
      came_all = subst (λ l. CameOver (given start.link) l (given v.link)) (sym is) s.came

      -- no link was exchanged
      alone : start.linker ≡ None → has_link steps ≡ false
      alone none = none_linked steps (subst (λ o. LinksBy o steps) none links_are)

      pub came_one : start.linker ≡ None → Came (given start.link) (heard_by steps) (given v.link)
      came_one none = Parts.came_alone (given start.link) (given v.link) steps (alone none) came_all

      alone_if : (c : Option Clerk) → has_link steps ≡ false → Finished counts given got start steps c v.link → FinishedAlone counts given got start steps c v.link
      alone_if None e f = (f.0, Parts.counted_alone (counts start.link) (counts v.link) steps e f.1, Parts.over_alone said_in (got start.link) (got v.link) steps e f.2, tt)
      alone_if (Some c) e f = (
        f.0,
        Parts.counted_alone (counts start.link) (counts v.link) steps e f.1,
        Parts.over_alone said_in (got start.link) (got v.link) steps e f.2,
        (f.3.0, Parts.over_alone (λ (s : Step). heard_of s.deed) (given start.link) (given v.link) steps e f.3.1),
      )

      pub finished_alone : (c : Option Clerk) → c ≡ (if v.broken then None else Some v.clerk) → start.linker ≡ None → FinishedAlone counts given got start steps c v.link
      finished_alone c e none = alone_if c (alone none) (finished c e)

      told_if : (b : Bool) → v.broken ≡ b → IfSome (if b then None else Some v.clerk) (λ _. v.told.items ≡ told_by steps)
      told_if true e = tt
      told_if false e = s.told e ∙ ap told_by (sym is)

      pub told_then : (c : Option Clerk) → c ≡ (if v.broken then None else Some v.clerk) → IfSome c (λ _. v.told.items ≡ told_by steps)
      told_then c e = subst (λ o. IfSome o (λ _. v.told.items ≡ told_by steps)) (sym e) (told_if v.broken refl)

      pub losses_told : {A : Type 0} (f : A → List (List ℕ)) (r : Result A NodeFault) → IfOk r (λ lists. (first : Node L) → Since counts given got first v → f lists ≡ told_by v.trace.items) → IfOk r (λ lists. f lists ≡ told_by steps)
      losses_told f (Ok lists) h = h start s ∙ ap told_by (sym is)
      losses_told f (Err e) h = tt

-- a call that waits, over further turns
module _ (pass mine : ℕ) (call : Call) (before now after : List Step) (number place : ℕ) (same : mine ≡ pass) (begins : IsPrefix before now) (goes : IsPrefix now after) (p : Pending pass call before now number place) where
  still_pending : calls_by mine after ≡ calls_by mine now → Pending pass call before after number place
  still_pending e = (ap (λ n. calls_by n after) (sym same) ∙ (e ∙ (ap (λ n. calls_by n now) same ∙ p.0)), p.1, (p.2.0, p.2.1, prefix_get now after place p.2.0 goes p.2.2, p.2.3, p.2.4, p.2.5))

  pub pending_ok : {A : Type 0} (r : A × Option Reply) → Waits mine now after number place (Ok r) → Pending pass call before after number place
  pending_ok r w = still_pending w.0.0

  pub replied : {A : Type 0} (x : A) (a : Reply) → Waits mine now after number place (Ok (x, Some a)) → Replied pass call before after a
  replied x a w = let q = still_pending w.0.0 in (q.0, (number, place, w.1.0, q.1, w.1.1, q.2, w.1.2), w.0.1)

  pub failed_later : (f : NodeFault) → Failed mine [] now after f → Failed pass (call ∷ []) before after f
  failed_later f w =
      let said = ⊎_elim (λ (e : calls_by mine after ≡ calls_by mine now). e) (λ (e : calls_by mine after ≡ calls_by mine now ++ []). e ∙ append-nil (calls_by mine now)) w.0 in
      let m = w.1 in (
        inr (still_pending said).0,
        (
          begins.0 ++ m.0,
          sym (append_assoc before begins.0 m.0) ∙ (ap (λ l. l ++ m.0) begins.1 ∙ m.1),
          subst (λ l. Caused (old_boot after) f l) (sym (of-append number_of pass begins.0 m.0)) (caused-right (old_boot after) f (of number_of pass begins.0) (of number_of pass m.0)
              (subst (λ n. Caused (old_boot after) f (of number_of n m.0)) same m.2)),
        ),
      )

-- a call behind a turn in which nothing was begun
module _ (pass mine : ℕ) (call : Call) (before now after : List Step) (same : mine ≡ pass) (begins : IsPrefix before now) (none : calls_by pass now ≡ calls_by pass before) where
  still : calls_by mine now ≡ calls_by pass before
  still = ap (λ n. calls_by n now) same ∙ none

  mine_after : calls_by pass after ≡ calls_by mine after
  mine_after = ap (λ n. calls_by n after) (sym same)

  pub called_later : (r : Result Reply NodeFault) → Called mine call now after r → Called pass call before after r
  called_later (Ok reply) c =
      let le = prefix_length before now begins in
      let behind = c.1.3 in
      let s = c.1.5 in (
        mine_after ∙ (c.0 ∙ ap (λ l. l ++ call ∷ []) still),
        (c.1.0, c.1.1, c.1.2, omega arith, c.1.4, (s.0, s.1, s.2, s.3, s.4, s.5 ∙ same), c.1.6),
        c.2,
      )
  called_later (Err f) c =
      let m = c.1 in (
        ⊎_elim (λ (e : calls_by mine after ≡ calls_by mine now). inl (mine_after ∙ (e ∙ still))) (λ (e : calls_by mine after ≡ calls_by mine now ++ call ∷ []). inr (mine_after ∙ (e ∙ ap (λ l. l ++ call ∷ []) still))) c.0,
        (
          begins.0 ++ m.0,
          sym (append_assoc before begins.0 m.0) ∙ (ap (λ l. l ++ m.0) begins.1 ∙ m.1),
          subst (λ l. Caused (old_boot after) f l) (sym (of-append number_of pass begins.0 m.0)) (caused-right (old_boot after) f (of number_of pass begins.0) (of number_of pass m.0)
              (subst (λ n. Caused (old_boot after) f (of number_of n m.0)) same m.2)),
        ),
      )

pub none_begun : {A : Type 0} (pass : ℕ) (before after : List Step) (r : Result A NodeFault) → Worked pass before after r → calls_by pass after ≡ calls_by pass before
none_begun pass before after (Ok x) w = w.0
none_begun pass before after (Err f) w = ⊎_elim (λ (e : calls_by pass after ≡ calls_by pass before). e) (λ (e : calls_by pass after ≡ calls_by pass before ++ []). e ∙ append-nil (calls_by pass before)) w.0

pub failed_first : (pass : ℕ) (call : Call) (before after : List Step) (f : NodeFault) → Failed pass [] before after f → Failed pass (call ∷ []) before after f
failed_first pass call before after f w =
    (inl (⊎_elim (λ (e : calls_by pass after ≡ calls_by pass before). e) (λ (e : calls_by pass after ≡ calls_by pass before ++ []). e ∙ append-nil (calls_by pass before)) w.0), w.1)

-- A goodbye over further turns.
module _ (pass mine : ℕ) (before now after : List Step) (same : mine ≡ pass) (begins : IsPrefix before now) (none : calls_by pass now ≡ calls_by pass before) where
  still_none : {A : Type 0} (r : Result A NodeFault) → Worked mine now after r → calls_by pass after ≡ calls_by pass before
  still_none r w = ap (λ n. calls_by n after) (sym same) ∙ (none_begun mine now after r w ∙ (ap (λ n. calls_by n now) same ∙ none))

  pub parting_none : {A : Type 0} (r : A × Bool) → Partings mine now after (Ok r) → calls_by pass after ≡ calls_by pass before
  parting_none r p = still_none (Ok r) p.0

  pub parted_ok : {A B : Type 0} (r : A × Bool) (y : B) → Partings mine now after (Ok r) → Worked pass before after (Ok y)
  parted_ok r y p = (parting_none r p, p.0.1)

  pub parted_bye : {A : Type 0} (r : A × Bool) → r.1 ≡ true → Partings mine now after (Ok r) → SaidBye pass before after
  parted_bye r said p = let b = p.1 said in let le = prefix_length before now begins in let low = b.2 in (b.0, b.1, omega arith, b.3, b.4 ∙ same, b.5)

  pub parted_failed : (f : NodeFault) → Failed mine [] now after f → Failed pass [] before after f
  parted_failed f w =
      let m = w.1 in (
        inl (still_none {A = ℕ} (Err f) w),
        (
          begins.0 ++ m.0,
          sym (append_assoc before begins.0 m.0) ∙ (ap (λ l. l ++ m.0) begins.1 ∙ m.1),
          subst (λ l. Caused (old_boot after) f l) (sym (of-append number_of pass begins.0 m.0)) (caused-right (old_boot after) f (of number_of pass begins.0) (of number_of pass m.0)
              (subst (λ n. Caused (old_boot after) f (of number_of n m.0)) same m.2)),
        ),
      )
