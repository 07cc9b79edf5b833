-- Where nothing is under way all is idle.
use Rattle.std.proofs.Common.{◌≡◌, refl, sym, ap, ◌∙◌, subst, arith, ℕ, Bool, true, false, [], ◌∷◌, inl, inr}
use Rattle.std.specs.Prelude.{Option, Some, ◌==◌, Contains}
use Rattle.std.proofs.lemmas.Bool.{eqb-true}
use Rattle.ec_base.specs.Tables.{at}
use Rattle.ec_sessions.specs.declared.slot.Slot.{Slot}
use Rattle.ec_base.specs.declared.ids.Hold.TheVariants.{Free}
use Rattle.ec_wire.specs.declared.msg.Msg.{Msg}
use Rattle.ec_wire.specs.declared.msg.Msg.TheVariants.{Back}
use Rattle.ec_protocol.specs.declared.clerk.Clerk.{Clerk}
use Rattle.ec_quiet.specs.Facts.{IsIdleBut, Same}
use Rattle.ec_quiet.specs.Phases.{Phase, Greets, Opens, Claims, Wants, Recalls, Flushes, Keeps, Grants, Asks, Gives, Refuses, Saves, Saved, Ends, HasEnded, InPhase, IsLeaving, main, messages}
use Rattle.ec_quiet.specs.Quiet.{IsIdle}
use Rattle.ec_quiet.specs.Scenes.{Mail, Scene}
use Rattle.ec_quiet.specs.Works.{Work}

module _ (j : Work) (sc : Scene) (none : sc.mail ≡ []) where
  -- no token is on its way back
  none-leaves : (k : Clerk) (x : ℕ) → IsLeaving j sc k x → ⊥
  none-leaves k x l = let c = subst (λ ms. Contains ms (j.clerk, Back j.session sc.server.durable.epoch x l.number Free)) none l.sent in omega (arith, c.1)

  ended : (e : HasEnded j sc) → IsIdleBut [] sc.server j.clerk e.slot e.clerk
  ended e = record {
    inside = e.working.inside;
    free = record { recalls = e.working.recalls; limits = e.working.limits; batches = e.batches };
    waiting = e.done.0;
    pushes = e.done.1;
    asking = e.asking;
    window = e.window;
    grants = e.grants;
    answered = e.answered;
    same = λ x f. elim (e.working.same x tt) [ inl s ↦ subst (λ z. Same sc.server z e.clerk x) (sym e.working.session) s | inr l ↦ absurd (none-leaves e.clerk x l) ];
  }

  some-same : (y z : Clerk) → ◌≡◌ {A = Option Clerk} (Some y) (Some z) → y ≡ z
  some-same y z p = cc

  idle-ends : InPhase j sc Ends → IsIdle sc
  idle-ends q = record { mail = none; wants = q.facts.0; orderly = q.orderly; clerks = λ c k e. go c k e (c == j.clerk) refl }
    where
      go : (c : ℕ) (k : Clerk) → at c sc.clerks ≡ Some k → (b : Bool) → (c == j.clerk) ≡ b → (sl : Slot) × IsIdleBut [] sc.server c sl k
      go c k e true p =
          let c-is : c ≡ j.clerk = eqb-true c j.clerk p in
          let same : q.facts.1.clerk ≡ k = some-same q.facts.1.clerk k (sym q.facts.1.working.there ∙ ap (λ z. at z sc.clerks) (sym c-is) ∙ e) in
          (q.facts.1.slot, subst (λ z. IsIdleBut [] sc.server z q.facts.1.slot k) (sym c-is) (subst (IsIdleBut [] sc.server j.clerk q.facts.1.slot) same (ended q.facts.1)))
      go c k e false p = q.others c k p refl e

  full : (m : ℕ × Msg) (ms : Mail) → [] ≡ m ∷ ms → ⊥
  full m ms e = grind (arith, e)

  is-empty : (p : Phase) → InPhase j sc p → [] ≡ messages j sc p
  is-empty p q = sym (ap (main j) none) ∙ q.main_is

  pub all-idle : (p : Phase) → InPhase j sc p → IsIdle sc
  all-idle (Greets age) q = absurd (full _ _ (is-empty (Greets age) q))
  all-idle (Opens age) q = absurd (full _ _ (is-empty (Opens age) q))
  all-idle (Claims o) q = absurd (full _ _ (is-empty (Claims o) q))
  all-idle (Wants x h n) q = absurd (full _ _ (is-empty (Wants x h n) q))
  all-idle (Recalls x h [] []) q = absurd (q.facts.0.some refl)
  all-idle (Recalls x h [] (b ∷ bs)) q = absurd (full _ _ (is-empty (Recalls x h [] (b ∷ bs)) q))
  all-idle (Recalls x h (r ∷ rs) bs) q = absurd (full _ _ (is-empty (Recalls x h (r ∷ rs) bs) q))
  all-idle (Flushes x h r b ops rest) q = absurd (full _ _ (is-empty (Flushes x h r b ops rest) q))
  all-idle (Keeps x h r b rest) q = absurd (full _ _ (is-empty (Keeps x h r b rest) q))
  all-idle (Grants x h n) q = absurd (full _ _ (is-empty (Grants x h n) q))
  all-idle (Asks again got ask) q = absurd (full _ _ (is-empty (Asks again got ask) q))
  all-idle (Gives got n first) q = absurd (full _ _ (is-empty (Gives got n first) q))
  all-idle (Refuses again ask live reserved) q = absurd (full _ _ (is-empty (Refuses again ask live reserved) q))
  all-idle (Saves b ops rest) q = absurd (full _ _ (is-empty (Saves b ops rest) q))
  all-idle (Saved b rest) q = absurd (full _ _ (is-empty (Saved b rest) q))
  all-idle Ends q = idle-ends q
