-- The volumes behind a call that one of them made.
use Rattle.std.proofs.Common.{◌≡◌, ◌==◌, ◌<◌, ℕ, List, Bool, true, false, Option, Some, None, Result, length, slice_index_or, refl, sym, ap, ◌∙◌, subst, inl, arith, if◌then◌else◌}
use Rattle.std.specs.Prelude.{map, slice_get}
use Rattle.std.proofs.lemmas.Bool.{eqb-true, eqb-false}
use Rattle.std.proofs.lemmas.List.{length-map}
use Rattle.ec_plain.specs.Walk.{Path}
use Rattle.ec_plain.specs.declared.call.Call.{Call}
use Rattle.ec_lock.specs.declared.types.Pass.{Pass}
use Rattle.ec_lock.specs.declared.types.TracedLock.{TracedLock}
use Rattle.ec_outs.specs.Outs.{Reply}
use Rattle.ec_clerknode.specs.declared.fault.NodeFault.{NodeFault}
use Rattle.ec_clerknode.specs.declared.state.Node.{Node}
use Rattle.ec_clerknode.specs.declared.step.Step.{Step}
use Rattle.ec_mount_words.specs.OfRoute.Calls.{call_below}
use Rattle.ec_mounts.specs.declared.mounts.MountAnswer.{MountAnswer}
use Rattle.ec_mounts.specs.Mounts.{AreSeated, MadeAt, Makes, Rests, raised_reply, WentTo}
use Rattle.ec_mounts.specs.Parts.{asked_at, Answered, PartRan}
use Rattle.ec_mounts.proofs.Seats.{IsNothing, some_is, found, seated_all}

-- the volume that is named makes what is asked there
here_asked : (place : ℕ) (asked : Option Call) (b : Bool) → (place == place) ≡ b → (if b then asked else None) ≡ asked
here_asked place asked true e = refl
here_asked place asked false e = absurd (eqb-false place place e refl)

-- and no other volume anything
none_asked : (place i : ℕ) (asked : Option Call) (b : Bool) → ¬ (i ≡ place) → (place == i) ≡ b → (if b then asked else None) ≡ None
none_asked place i asked true apart e = absurd (apart (sym (eqb-true place i e)))
none_asked place i asked false apart e = refl

module _ {L C S : Type 0} (lock_of : C → TracedLock (Node L) Step) (pass_of : S → Pass (Node L) Step) (asked_of : S → Option Call) (met_of : S → Option (Result Reply NodeFault)) (clerks : List C) (only : Option ℕ) (olds news : List S)
    (many : length news ≡ length olds)
    (each : (i : ℕ) (d : S) → i < length olds → PartRan lock_of clerks i (pass_of (slice_index_or olds i d)) (asked_at only i (asked_of (slice_index_or olds i d))) (pass_of (slice_index_or news i d)) (met_of (slice_index_or news i d))) where
  pub seated_behind : length olds ≡ length clerks → AreSeated (map lock_of clerks) (map pass_of news)
  seated_behind are = seated_all lock_of pass_of clerks news (many ∙ are) (λ i d l. (each i d (subst (λ n. i < n) many l)).0)

  -- what a volume did at a place
  did_at : (i : ℕ) (old new : Pass (Node L) Step) → slice_get (map pass_of olds) i ≡ Some old → slice_get (map pass_of news) i ≡ Some new
      → (x : S) × (y : S) × ((d : S) → slice_index_or olds i d ≡ x) × ((d : S) → slice_index_or news i d ≡ y) × Answered (asked_at only i (asked_of x)) old new (met_of y)
  did_at i old new p q =
      let a = found pass_of olds i old p in
      let b = found pass_of news i new q in
      let ran = (each i a.0 a.1).1 in (
        a.0,
        b.0,
        a.2,
        b.2,
        subst (λ n. Answered (asked_at only i (asked_of a.0)) old n (met_of b.0)) b.3
            (subst (λ o. Answered (asked_at only i (asked_of a.0)) o (pass_of b.0) (met_of b.0)) a.3
            (subst (λ y. Answered (asked_at only i (asked_of a.0)) (pass_of a.0) (pass_of y) (met_of y)) (b.2 a.0)
            (subst (λ x. Answered (asked_at only i (asked_of x)) (pass_of x) (pass_of (slice_index_or news i a.0)) (met_of (slice_index_or news i a.0))) (a.2 a.0) ran))),
      )

  pub made_at : (place : ℕ) (call : Call) (met : Result Reply NodeFault) → only ≡ Some place → place < length olds → ((d : S) → asked_of (slice_index_or olds place d) ≡ Some call) → ((d : S) → Some met ≡ met_of (slice_index_or news place d))
      → MadeAt place call (map pass_of olds) (map pass_of news) met
  made_at place call met is inside asked did = record {
    many = length-map news pass_of ∙ many ∙ sym (length-map olds pass_of);
    inside = subst (λ n. place < n) (sym (length-map olds pass_of)) inside;
    here = λ old new p q.
        let at = did_at place old new p q in
        let x = at.0 in
        let y = at.1 in
        let what : asked_at only place (asked_of x) ≡ Some call =
        ap (λ o. asked_at o place (asked_of x)) is ∙ here_asked place (asked_of x) (place == place) refl ∙ sym (ap asked_of (at.2 x)) ∙ asked x in
        let made = subst (λ o. Answered o old new (met_of y)) what at.4 in
        subst (Makes call old new) (some_is (sym made.1 ∙ sym (ap met_of (at.3 y)) ∙ sym (did y))) made.2;
    others = λ i old new no p q.
        let at = did_at i old new p q in
        let x = at.0 in
        let what : asked_at only i (asked_of x) ≡ None = ap (λ o. asked_at o i (asked_of x)) is ∙ none_asked place i (asked_of x) (place == i) no refl in
        (subst (λ o. Answered o old new (met_of at.1)) what at.4).0;
  }

  -- the volume that is named met something
  pub was_met : (place : ℕ) (call : Call) (d : S) → only ≡ Some place → place < length olds → asked_of (slice_index_or olds place d) ≡ Some call → met_of (slice_index_or news place d) ≡ None → ⊥
  was_met place call d is inside asked none =
      let x = slice_index_or olds place d in
      let what : asked_at only place (asked_of x) ≡ Some call = ap (λ o. asked_at o place (asked_of x)) is ∙ here_asked place (asked_of x) (place == place) refl ∙ asked in
      let made = subst (λ o. Answered o (pass_of x) (pass_of (slice_index_or news place d)) (met_of (slice_index_or news place d))) what (each place d inside).1 in
      subst IsNothing (sym none ∙ made.1) tt

-- the volume with this mount path made the call below it
pub went_to : {L : Type 0} (path : Path) (place : ℕ) (call inner : Call) (olds news : List (Pass (Node L) Step)) (met : Result Reply NodeFault) (result : Result (MountAnswer × Option ℕ) NodeFault)
    → inner ≡ call_below (length path) call → MadeAt place inner olds news met → result ≡ raised_reply (length path) met → WentTo path place call olds news result
went_to path place call inner olds news met result below made seen = inl (met, subst (λ k. MadeAt place k olds news met) below made, seen)
