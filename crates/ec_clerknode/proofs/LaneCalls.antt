-- One more call of a lane.
use Rattle.std.proofs.Common.{◌≡◌, ℕ, zero, suc, ◌+◌, ◌<◌, ◌≤◌, List, [], ◌∷◌, ◌++◌, length, Some, Ok, Err, slice_get, sym, refl, ap, ◌∙◌, subst, ⊎_elim, arith, append_assoc, append-nil}
use mathlib.Core.List.{IsPrefix}
use Rattle.ec_plain.specs.declared.call.Call.{Call}
use Rattle.ec_lock.specs.PassViews.{front, IsPassOf}
use Rattle.ec_lock.specs.Steps.{of}
use Rattle.ec_lock.specs.declared.types.Pass.{Pass}
use Rattle.ec_lock.specs.declared.types.TracedLock.{TracedLock}
use Rattle.ec_outs.specs.Outs.{Reply}
use Rattle.ec_clerknode.specs.declared.state.Node.{Node}
use Rattle.ec_clerknode.specs.declared.fault.NodeFault.{NodeFault}
use Rattle.ec_clerknode.specs.declared.fault.NodeFault.TheVariants as fault
use Rattle.ec_clerknode.specs.declared.step.Step.{Step}
use Rattle.ec_clerknode.specs.Closed.{Caused}
use Rattle.ec_clerknode.specs.Node.{AnsweredAt}
use Rattle.ec_clerknode.specs.Run.{old_boot}
use Rattle.ec_clerknode.specs.Turns.{number_of, calls_by, BeganAt}
use Rattle.ec_clerknode.specs.PassTurns.{Failed, Called, Stays, Turned}
use Rattle.ec_clerknode.specs.Lanes.{AreReplied, IsFront}
use Rattle.ec_clerknode.specs.LaneRuns.{LaneDone, LaneRan}
use Rattle.ec_clerknode.proofs.Lists.{prefix_get, prefix_length}
use Rattle.ec_clerknode.proofs.Turns.{caused-right}
use Rattle.ec_lock.proofs.StepsLemmas.{of-append}
use Rattle.ec_base.proofs.Lists.{prefix_self, prefix_trans}

-- what stands at a place stands inside
get_inside : {A : Type 0} (xs : List A) (i : ℕ) (x : A) → slice_get xs i ≡ Some x → i < length xs
get_inside [] i x e = absurd cc
get_inside (y ∷ xs) zero x e = omega arith
get_inside (y ∷ xs) (suc i) x e = let h = get_inside xs i x e in omega arith

began_longer : (pass : ℕ) (now after : List Step) (at : ℕ) (c : Call) (number : ℕ) → IsPrefix now after → BeganAt pass now at c number → BeganAt pass after at c number
began_longer pass now after at c number p b = (b.0, b.1, prefix_get now after at b.0 p b.2, b.3, b.4, b.5)

answered_longer : (now after : List Step) (end number : ℕ) (r : Reply) → IsPrefix now after → AnsweredAt now end number r → AnsweredAt after end number r
answered_longer now after end number r p n = (n.0, prefix_get now after end n.0 p n.1, n.2)

module _ (pass : ℕ) (now after : List Step) (p : IsPrefix now after) where
  pub are_longer : (least : ℕ) (cs : List Call) (rs : List Reply) → AreReplied pass now least cs rs → AreReplied pass after least cs rs
  are_longer least [] [] a = tt
  are_longer least (c ∷ cs) (r ∷ rs) a =
      (a.0, a.1, a.2, a.3, a.4, began_longer pass now after a.1 c a.0 p a.5, answered_longer now after a.2 a.0 r p a.6, are_longer (a.2 + 1) cs rs a.7)
  are_longer least [] (r ∷ rs) a = absurd a
  are_longer least (c ∷ cs) [] a = absurd a

  are_push : (least : ℕ) (cs : List Call) (rs : List Reply) (c : Call) (r : Reply) → least ≤ length now → AreReplied pass now least cs rs → AreReplied pass after (length now) (c ∷ []) (r ∷ []) → AreReplied pass after least (cs ++ c ∷ []) (rs ++ r ∷ [])
  are_push least [] [] c r le a one = (one.0, one.1, one.2, (let low = one.3 in omega arith), one.4, one.5, one.6, tt)
  are_push least (d ∷ cs) (s ∷ rs) c r le a one =
      let inside = get_inside now a.2 a.6.0 a.6.1 in
      (a.0, a.1, a.2, a.3, a.4, began_longer pass now after a.1 d a.0 p a.5, answered_longer now after a.2 a.0 s p a.6, are_push (a.2 + 1) cs rs c r (omega arith) a.7 one)
  are_push least [] (s ∷ rs) c r le a one = absurd a
  are_push least (d ∷ cs) [] c r le a one = absurd a

pub are_from : (pass : ℕ) (steps : List Step) (low least : ℕ) (cs : List Call) (rs : List Reply) → low ≤ least → AreReplied pass steps least cs rs → AreReplied pass steps low cs rs
are_from pass steps low least [] [] le a = tt
are_from pass steps low least (c ∷ cs) (r ∷ rs) le a = (a.0, a.1, a.2, (let high = a.3 in omega arith), a.4, a.5, a.6, a.7)
are_from pass steps low least [] (r ∷ rs) le a = absurd a
are_from pass steps low least (c ∷ cs) [] le a = absurd a

-- the lane of this pass has begun `done` so far
module _ (pass mine : ℕ) (all done rest : List Call) (c : Call) (before now after : List Step) (same : mine ≡ pass) (whole : done ++ c ∷ rest ≡ all) (begins : IsPrefix before now) (goes : IsPrefix now after)
    (said : calls_by pass now ≡ calls_by pass before ++ done) where
  longer : calls_by mine after ≡ calls_by mine now ++ c ∷ [] → calls_by pass after ≡ calls_by pass before ++ (done ++ c ∷ [])
  longer e = ap (λ n. calls_by n after) (sym same) ∙ (e ∙ (ap (λ n. calls_by n now ++ c ∷ []) same ∙ (ap (λ l. l ++ c ∷ []) said ∙ append_assoc (calls_by pass before) done (c ∷ []))))

  lane_step : (replies : List Reply) (r : Reply) → AreReplied pass now (length before) done replies → Called mine c now after (Ok r) → (calls_by pass after ≡ calls_by pass before ++ (done ++ c ∷ [])) × AreReplied pass after (length before) (done ++ c ∷ []) (replies ++ r ∷ [])
  lane_step replies r had called =
      let one = called.1 in (
        longer called.0,
        are_push pass now after goes (length before) done replies c r (prefix_length before now begins) had
            (one.0, one.1, one.2, one.3, one.4, subst (λ n. BeganAt n after one.1 c one.0) same one.5, one.6, tt),
      )

  lane_fails : (replies : List Reply) (f : NodeFault) → AreReplied pass now (length before) done replies → Failed mine (c ∷ []) now after f → LaneDone pass all before after replies (Err f)
  lane_fails replies f had w =
      let m = w.1 in
      let had_after = are_longer pass now after goes (length before) done replies had in
      let begun : IsFront pass (calls_by pass before) all before after replies =
      ⊎_elim
      (λ (e : calls_by mine after ≡ calls_by mine now). record {
        answered = done;
        last = [];
        rest = c ∷ rest;
        whole = whole;
        few = omega arith;
        begun = ap (λ n. calls_by n after) (sym same) ∙ (e ∙ (ap (λ n. calls_by n now) same ∙ (said ∙ ap (λ l. calls_by pass before ++ l) (sym (append-nil done)))));
        replied = had_after;
      })
      (λ (e : calls_by mine after ≡ calls_by mine now ++ c ∷ []). record { answered = done; last = c ∷ []; rest = rest; whole = whole; few = omega arith; begun = longer e; replied = had_after })
      w.0 in (
        begun,
        (
          begins.0 ++ m.0,
          sym (append_assoc before begins.0 m.0) ∙ (ap (λ l. l ++ m.0) begins.1 ∙ m.1),
          subst (λ l. Caused (old_boot after) f l) (sym (of-append number_of pass begins.0 m.0)) (caused-right (old_boot after) f (of number_of pass begins.0) (of number_of pass m.0)
              (subst (λ n. Caused (old_boot after) f (of number_of n m.0)) same m.2)),
        ),
      )

  -- memory is wanting for the answer
  lane_lacks : (replies : List Reply) (r : Reply) → AreReplied pass now (length before) done replies → Called mine c now after (Ok r) → LaneDone pass all before after replies (Err fault.NoMemory)
  lane_lacks replies r had called = (
    record { answered = done; last = c ∷ []; rest = rest; whole = whole; few = omega arith; begun = longer called.0; replied = are_longer pass now after goes (length before) done replies had },
    (begins.0 ++ goes.0, sym (append_assoc before begins.0 goes.0) ∙ (ap (λ l. l ++ goes.0) begins.1 ∙ goes.1), tt),
  )

-- memory is wanting before the first call
lane_wants : (pass : ℕ) (all : List Call) (before : List Step) (replies : List Reply) → replies ≡ [] → LaneDone pass all before before replies (Err fault.NoMemory)
lane_wants pass all before replies none = (
  record {
    answered = [];
    last = [];
    rest = all;
    whole = refl;
    few = omega arith;
    begun = sym (append-nil (calls_by pass before));
    replied = subst (AreReplied pass before (length before) []) (sym none) tt;
  },
  ([], append-nil before, tt),
)

module _ {L : Type 0} (lock : TracedLock (Node L) Step) (old : Pass (Node L) Step) (all : List Call) where
  -- the lane's pass has made some of its calls, and `rest` are still to be made
  abbrev pub Sofar : Pass (Node L) Step → List Call → List Reply → Type 0
  Sofar now rest replies = IsPassOf lock now × Stays old now × IsPrefix (front old) (front now)
      × ((done : List Call) × (done ++ rest ≡ all) × (calls_by old.number (front now) ≡ calls_by old.number (front old) ++ done) × AreReplied old.number (front now) (length (front old)) done replies)

  pub sofar_none : (rest : List Call) (replies : List Reply) → rest ≡ all → replies ≡ [] → IsPassOf lock old → Sofar old rest replies
  sofar_none rest replies e none is =
      (is, (refl, refl, refl, omega arith), prefix_self (front old), ([], e, sym (append-nil (calls_by old.number (front old))), subst (AreReplied old.number (front old) (length (front old)) []) (sym none) tt))

  stays_both : (now next : Pass (Node L) Step) → Stays old now → Stays now next → Stays old next
  stays_both now next a b = let up = a.3 in let more = b.3 in (b.0 ∙ a.0, b.1 ∙ a.1, b.2 ∙ a.2, omega arith)

  module _ (now next : Pass (Node L) Step) (c : Call) (rest : List Call) (replies : List Reply) (s : Sofar now (c ∷ rest) replies) (t : Turned lock now next) where
    pub sofar_next : (r : Reply) → Called now.number c (front now) (front next) (Ok r) → Sofar next rest (replies ++ r ∷ [])
    sofar_next r called =
        let d = s.3 in
        let step = lane_step old.number now.number all d.0 rest c (front old) (front now) (front next) s.1.0 d.1 s.2 t.goes.1 d.2 replies r d.3 called in (
          t.is_pass,
          stays_both now next s.1 t.stays,
          prefix_trans (front old) (front now) (front next) s.2 t.goes.1,
          (d.0 ++ c ∷ [], append_assoc d.0 (c ∷ []) rest ∙ d.1, step.0, step.1),
        )

    pub sofar_fails : (f : NodeFault) → Failed now.number (c ∷ []) (front now) (front next) f → LaneRan lock old all next replies (Err f)
    sofar_fails f failed =
        let d = s.3 in
        record {
          is_pass = t.is_pass;
          stays = stays_both now next s.1 t.stays;
          later = prefix_trans (front old) (front now) (front next) s.2 t.goes.1;
          done = lane_fails old.number now.number all d.0 rest c (front old) (front now) (front next) s.1.0 d.1 s.2 t.goes.1 d.2 replies f d.3 failed;
        }

    pub sofar_lacks : (r : Reply) → Called now.number c (front now) (front next) (Ok r) → LaneRan lock old all next replies (Err fault.NoMemory)
    sofar_lacks r called =
        let d = s.3 in
        record {
          is_pass = t.is_pass;
          stays = stays_both now next s.1 t.stays;
          later = prefix_trans (front old) (front now) (front next) s.2 t.goes.1;
          done = lane_lacks old.number now.number all d.0 rest c (front old) (front now) (front next) s.1.0 d.1 s.2 t.goes.1 d.2 replies r d.3 called;
        }

  pub sofar_wants : (replies : List Reply) → replies ≡ [] → IsPassOf lock old → LaneRan lock old all old replies (Err fault.NoMemory)
  sofar_wants replies none is = record { is_pass = is; stays = (refl, refl, refl, omega arith); later = prefix_self (front old); done = lane_wants old.number all (front old) replies none }

  pub sofar_ends : (now : Pass (Node L) Step) (rest : List Call) (replies : List Reply) → rest ≡ [] → Sofar now rest replies → LaneRan lock old all now replies (Ok tt)
  sofar_ends now rest replies e s =
      let d = s.3 in
      let whole : d.0 ≡ all = sym (append-nil d.0) ∙ (ap (λ l. d.0 ++ l) (sym e) ∙ d.1) in
      record { is_pass = s.0; stays = s.1; later = s.2; done = (d.2 ∙ ap (λ l. calls_by old.number (front old) ++ l) whole, subst (λ l. AreReplied old.number (front now) (length (front old)) l replies) whole d.3) }

-- nothing is left
pub none_left : {A : Type 0} (xs : List A) (n : ℕ) → n ≡ length xs → n ≡ 0 → xs ≡ []
none_left [] n e z = refl
none_left (x ∷ xs) n e z = absurd (omega arith)
