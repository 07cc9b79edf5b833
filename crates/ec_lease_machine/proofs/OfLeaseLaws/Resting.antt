-- At rest the end of a step answers nothing.
use Rattle.std.proofs.Common.{◌≡◌, refl, sym, ap, subst, ◌∙◌, T, Bool, true, false, not, List, [], ◌∷◌, ◌++◌, length}
use Rattle.ec_history.specs.History.{Each}
use Rattle.ec_protocol.specs.Clerk.{Answered, Doing, Tried, Waits, evict, try, try_all, try_each, try_rounds, with_clerk}
use Rattle.ec_protocol.specs.declared.clerk.Waiting.{Waiting}
use Rattle.ec_lawful.specs.OfClerkSteps.CallLaws.{IsStill, IsStillIf, is_answer, prepared}
use Rattle.ec_lawful.specs.OfClerkSteps.Waits.{does_wait}
use Rattle.ec_lawful.proofs.OfClerkSteps.ForCalls.Quiets.{quiet-evict}
use Rattle.ec_lawful.proofs.OfClerkSteps.ForCalls.Still.{begins-still, quiet-then, still-same, still-then, still-waits, tries-answer}
use Rattle.ec_lease_machine.specs.OfLeaseLaws.Resting.{RestingIsQuiet}
use Rattle.ec_history.proofs.OfLaws.ForPlacing.BasesAlike.{each-map}

abbrev AllWait : Doing → List Waiting → Type 0
AllWait d ws = Each (λ w. T (does_wait w d.clerk)) ws

wait-on : (d e : Doing) → IsStill d e → (ws : List Waiting) → AllWait d ws → AllWait e ws
wait-on d e s ws h = each-map (λ w. T (does_wait w d.clerk)) (λ w. T (does_wait w e.clerk)) (λ w t. subst T (sym (still-waits d e s w)) t) ws h

-- trying calls that wait
abbrev Tries : List Waiting → List Waiting → Doing → Type 0
Tries before ws d = (e : Doing) × (try_each before ws d ≡ Waits e) × IsStill d e

still-each : (before ws : List Waiting) (d : Doing) → AllWait d ws → Tries before ws d
still-each before [] d h = (d, refl, still-same d)
still-each before (w ∷ ws) d h = go (still-each (before ++ w ∷ []) ws) (try w d) refl (unanswered (does_wait w d.clerk) h.0 (tries-answer w d).0) (tries-answer w d).1
  where
    unanswered : (z : Bool) → T z → is_answer (try w d) ≡ not z → is_answer (try w d) ≡ false
    unanswered true t q = q
    unanswered false t q = absurd t

    go : ((e : Doing) → AllWait e ws → Tries (before ++ w ∷ []) ws e) → (t : Tried) → try w d ≡ t → is_answer (try w d) ≡ false → IsStillIf d (try w d) → Tries before (w ∷ ws) d
    go more (Answered e) q a s = absurd (apart (sym (ap is_answer q) ∙ a))
      where
        apart : true ≡ false → ⊥
        apart e = cc
    go more (Waits e) q a s =
        let k : IsStill d e = (subst (IsStillIf d) q s).0 in
        let r = more e (wait-on d e k ws h.1) in
        (r.0, ap (λ t. elim t as (λ x. Tried) [ Waits y ↦ try_each (before ++ w ∷ []) ws y | Answered y ↦ Answered (with_clerk (λ x. record x { waiting = before ++ ws }) y) ]) q ∙ r.1, still-then d e r.0 k r.2)

still-tries : (d : Doing) → AllWait d d.clerk.waiting → IsStill d (try_all d)
still-tries d h =
    let r = still-each [] d.clerk.waiting d h in
    subst (IsStill d) (sym (ap (λ t. elim t as (λ x. Doing) [ Waits y ↦ y | Answered y ↦ try_rounds (length d.clerk.waiting) y ]) r.1)) r.2

pub resting-quiet : RestingIsQuiet
resting-quiet d none h =
    let s = (begins-still d none).0 in
    let p = prepared d in
    let w : AllWait p p.clerk.waiting = subst (AllWait p) (sym s.quiet.waiting) (wait-on d p s d.clerk.waiting h) in
    let t = still-tries p w in
    quiet-then d (try_all p) (evict (try_all p)) (quiet-then d p (try_all p) s.quiet t.quiet) (quiet-evict (try_all p))
