-- What the passes hold, one call more.
use Rattle.std.proofs.Common.{◌≡◌, ◌+◌, ◌≤◌, ℕ, List, [], ◌∷◌, ◌++◌, length, Result, Ok, Err, refl, sym, ap, ◌∙◌, subst, ⊎_elim, arith, append-nil}
use mathlib.Core.List.{IsPrefix}
use Rattle.ec_plain.specs.declared.call.Call.{Call}
use Rattle.ec_lock.specs.PassViews.{front}
use Rattle.ec_lock.specs.declared.types.Pass.{Pass}
use Rattle.ec_outs.specs.Outs.{Reply}
use Rattle.ec_clerknode.specs.declared.fault.NodeFault.{NodeFault}
use Rattle.ec_clerknode.specs.declared.state.Node.{Node}
use Rattle.ec_clerknode.specs.declared.step.Step.{Step}
use Rattle.ec_clerknode.specs.Node.{AnsweredAt}
use Rattle.ec_clerknode.specs.Turns.{calls_by, BeganAt, Replied}
use Rattle.ec_clerknode.specs.PassTurns.{Called}
use Rattle.ec_clerknode.specs.Lanes.{AreReplied, IsFront}
use Rattle.ec_clerknode.proofs.Lists.{prefix_get}
use Rattle.ec_clerknode.proofs.LaneCalls.{are_longer}
use Rattle.ec_mount.specs.Run.{Has}
use Rattle.ec_mount.proofs.Causes.{failed_has, has_longer}
use Rattle.ec_mounts.specs.Mounts.{Makes, Rests}
use Rattle.ec_mount_table.specs.Runs.{Each}
use Rattle.ec_mount_table.specs.Going.{Both, Did, Holding, HoldsCalls, Tried}
use Rattle.ec_mount_table.proofs.Places.{get_other}
use Rattle.ec_mounts.proofs.Seats.{get_inside}

-- a call and its reply stand in a longer list too
still_there : (pass : ℕ) (now after : List Step) (at end number : ℕ) (c : Call) (r : Reply) → IsPrefix now after → BeganAt pass now at c number → AnsweredAt now end number r → BeganAt pass after at c number × AnsweredAt after end number r
still_there pass now after at end number c r p b n = ((b.0, b.1, prefix_get now after at b.0 p b.2, b.3, b.4, b.5), (n.0, prefix_get now after end n.0 p n.1, n.2))

module _ (pass : ℕ) (now after : List Step) (p : IsPrefix now after) where
  -- one more reply behind the others
  replied_more : (least : ℕ) (cs : List Call) (rs : List Reply) (c : Call) (r : Reply) → least ≤ length now → AreReplied pass now least cs rs → AreReplied pass after (length now) (c ∷ []) (r ∷ []) → AreReplied pass after least (cs ++ c ∷ []) (rs ++ r ∷ [])
  replied_more least [] [] c r le a one = (one.0, one.1, one.2, (let low = one.3 in omega arith), one.4, one.5, one.6, tt)
  replied_more least (d ∷ cs) (s ∷ rs) c r le a one =
      let inside = get_inside now a.2 a.6.0 a.6.1 in
      let there = still_there pass now after a.1 a.2 a.0 d s p a.5 a.6 in
      (a.0, a.1, a.2, a.3, a.4, there.0, there.1, replied_more (a.2 + 1) cs rs c r (omega arith) a.7 one)
  replied_more least [] (s ∷ rs) c r le a one = absurd a
  replied_more least (d ∷ cs) [] c r le a one = absurd a

module _ (old new : List Step) (cs : List Call) (rs : List Reply) (later : IsPrefix old new) (h : HoldsCalls cs old rs) where
  -- turns without a call
  hold_still : calls_by 0 new ≡ calls_by 0 old → HoldsCalls cs new rs
  hold_still same = (same ∙ h.0, are_longer 0 old new later 0 cs rs h.1)

  module _ (behind : List Step) (goes : IsPrefix behind new) (same : calls_by 0 new ≡ calls_by 0 behind) (c : Call) where
    hold_more : (r : Reply) → Replied 0 c old behind r → HoldsCalls (cs ++ c ∷ []) new (rs ++ r ∷ [])
    hold_more r k =
        let one = k.1 in
        let here : AreReplied 0 behind (length old) (c ∷ []) (r ∷ []) = (one.0, one.1, one.2, one.3, one.4, one.5, one.6, tt) in (
          same ∙ (k.0 ∙ ap (λ l. l ++ c ∷ []) h.0),
          replied_more 0 old new later 0 cs rs c r (omega arith) h.1 (are_longer 0 behind new goes (length old) (c ∷ []) (r ∷ []) here),
        )

    -- the call was begun and has no reply here
    front_begun : calls_by 0 behind ≡ calls_by 0 old ++ c ∷ [] → IsFront 0 [] (cs ++ c ∷ []) [] new (rs ++ [])
    front_begun e = record {
      answered = cs;
      last = c ∷ [];
      rest = [];
      whole = refl;
      few = omega arith;
      begun = same ∙ (e ∙ ap (λ l. l ++ c ∷ []) h.0);
      replied = subst (AreReplied 0 new 0 cs) (sym (append-nil rs)) (are_longer 0 old new later 0 cs rs h.1);
    }

    front_not : calls_by 0 behind ≡ calls_by 0 old → IsFront 0 [] (cs ++ c ∷ []) [] new (rs ++ [])
    front_not e = record {
      answered = cs;
      last = [];
      rest = c ∷ [];
      whole = refl;
      few = omega arith;
      begun = same ∙ (e ∙ (h.0 ∙ sym (append-nil cs)));
      replied = subst (AreReplied 0 new 0 cs) (sym (append-nil rs)) (are_longer 0 old new later 0 cs rs h.1);
    }

    front_called : (met : Result Reply NodeFault) → Called 0 c old behind met → IsFront 0 [] (cs ++ c ∷ []) [] new (rs ++ [])
    front_called (Ok r) k = front_begun k.0
    front_called (Err f) k = ⊎_elim (λ (e : calls_by 0 behind ≡ calls_by 0 old). front_not e) (λ (e : calls_by 0 behind ≡ calls_by 0 old ++ c ∷ []). front_begun e) k.0

-- all calls have replies
front_whole : (new : List Step) (cs : List Call) (rs : List Reply) → HoldsCalls cs new rs → IsFront 0 [] cs [] new rs
front_whole new cs rs h = record { answered = cs; last = []; rest = []; whole = append-nil cs; few = omega arith; begun = h.0 ∙ sym (append-nil cs); replied = h.1 }

module _ {L : Type 0} where
  module _ (old new : Pass (Node L) Step) (cs : List Call) (rs : List Reply) (zero : old.number ≡ 0) (h : HoldsCalls cs (front old) rs) where
    hold_rests : Rests old new → HoldsCalls (cs ++ []) (front new) (rs ++ [])
    hold_rests d =
        subst (λ l. HoldsCalls l (front new) (rs ++ [])) (sym (append-nil cs))
        (subst (HoldsCalls cs (front new)) (sym (append-nil rs)) (hold_still (front old) (front new) cs rs d.later h (subst (λ n. calls_by n (front new) ≡ calls_by n (front old)) zero d.begun)))

    hold_makes : (c : Call) (r : Reply) → Makes c old new (Ok r) → HoldsCalls (cs ++ c ∷ []) (front new) (rs ++ r ∷ [])
    hold_makes c r d =
        hold_more (front old) (front new) cs rs d.later h d.behind d.going_on (subst (λ n. calls_by n (front new) ≡ calls_by n d.behind) zero d.begun) c r (subst (λ n. Replied n c (front old) d.behind r) zero d.called)

    pub hold_did : (asked : List Call) (replied : List Reply) → Did asked replied old new → (new.number ≡ 0) × HoldsCalls (cs ++ asked) (front new) (rs ++ replied)
    hold_did [] [] d = (d.same.0 ∙ zero, hold_rests d)
    hold_did (c ∷ []) (r ∷ []) d = (d.same.0 ∙ zero, hold_makes c r d)
    hold_did [] (r ∷ more) d = absurd d
    hold_did (c ∷ []) [] d = absurd d
    hold_did (c ∷ []) (r ∷ s ∷ more) d = absurd d
    hold_did (c ∷ e ∷ many) [] d = absurd d
    hold_did (c ∷ e ∷ many) (r ∷ []) d = absurd d
    hold_did (c ∷ e ∷ many) (r ∷ s ∷ more) d = absurd d

    pub front_tried : (asked : List Call) (replied : List Reply) → Tried asked replied old new → (new.number ≡ 0) × IsFront 0 [] (cs ++ asked) [] (front new) (rs ++ replied)
    front_tried [] [] d = (d.same.0 ∙ zero, front_whole (front new) (cs ++ []) (rs ++ []) (hold_rests d))
    front_tried (c ∷ []) (r ∷ []) d = (d.same.0 ∙ zero, front_whole (front new) (cs ++ c ∷ []) (rs ++ r ∷ []) (hold_makes c r d))
    front_tried (c ∷ []) [] d =
        let m = d.1 in (
          m.same.0 ∙ zero,
          front_called (front old) (front new) cs rs m.later h m.behind m.going_on (subst (λ n. calls_by n (front new) ≡ calls_by n m.behind) zero m.begun) c d.0 (subst (λ n. Called n c (front old) m.behind d.0) zero m.called),
        )
    front_tried [] (r ∷ more) d = absurd d
    front_tried (c ∷ []) (r ∷ s ∷ more) d = absurd d
    front_tried (c ∷ e ∷ many) [] d = absurd d
    front_tried (c ∷ e ∷ many) (r ∷ []) d = absurd d
    front_tried (c ∷ e ∷ many) (r ∷ s ∷ more) d = absurd d

  -- a call that failed left the cause
  pub makes_has : (call : Call) (old new : Pass (Node L) Step) (f : NodeFault) → Makes call old new (Err f) → Has f (front new)
  makes_has call old new f m = has_longer m.behind (front new) m.going_on f (failed_has old.number (call ∷ []) (front old) m.behind f m.called)

  module _ (calls asked : ℕ → List Call) (replies replied : ℕ → List Reply) (olds news : List (Pass (Node L) Step)) (h : Holding calls replies olds) where
    pub did_all : Both olds news (λ place old new. Did (asked place) (replied place) old new) → Holding (λ place. calls place ++ asked place) (λ place. replies place ++ replied place) news
    did_all both i new e =
        let o = get_other olds news i new both.0 e in
        let was = h i o.0 o.1 in
        hold_did o.0 new (calls i) (replies i) was.0 was.1 (asked i) (replied i) (both.1 i o.0 new o.1 e)

    pub tried_all : Both olds news (λ place old new. Tried (asked place) (replied place) old new)
        → Each news (λ place pass. (pass.number ≡ 0) × IsFront 0 [] (calls place ++ asked place) [] (front pass) (replies place ++ replied place))
    tried_all both i new e =
        let o = get_other olds news i new both.0 e in
        let was = h i o.0 o.1 in
        front_tried o.0 new (calls i) (replies i) was.0 was.1 (asked i) (replied i) (both.1 i o.0 new o.1 e)

  pub hold_same : (calls other : ℕ → List Call) (replies others : ℕ → List Reply) (passes : List (Pass (Node L) Step)) → ((i : ℕ) → calls i ≡ other i) → ((i : ℕ) → replies i ≡ others i) → Holding calls replies passes → Holding other others passes
  hold_same calls other replies others passes p q h i pass e =
      let was = h i pass e in (was.0, subst (λ l. HoldsCalls l (front pass) (others i)) (p i) (subst (HoldsCalls (calls i) (front pass)) (q i) was.1))
