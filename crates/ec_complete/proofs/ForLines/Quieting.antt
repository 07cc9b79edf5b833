-- Where all is idle no call is under way.
use Rattle.std.proofs.Common.{◌≡◌, refl, sym, ap, ◌∙◌, subst, arith, ◌≤◌, ℕ, T, Bool, true, false, cond, List, [], ◌∷◌}
use Rattle.std.specs.Prelude.{Option, None, Some, ◌==◌}
use Rattle.std.specs.Ordering.{nat_cmp, eq_by_cmp}
use Rattle.std.specs.Cmp.{unsigned_ties}
use Rattle.std.proofs.lemmas.Bool.{eq-eqb}
use Rattle.ec_base.specs.Tables.{Table, at, at_or}
use Rattle.ec_lawful.specs.OfClerkSteps.Calls.{CallsAgree, has_number}
use Rattle.ec_coherence.specs.Sessions.{SessionsAgree}
use Rattle.ec_coherence.specs.Steps.{Stands, running_clerk}
use Rattle.ec_coherence.specs.System.{System}
use Rattle.ec_plain.specs.declared.call.Call.{Call}
use Rattle.ec_sessions.specs.declared.slot.Slot.{Slot}
use Rattle.ec_durable.specs.Durable.{slot}
use Rattle.ec_protocol.specs.World.{boot, call_of}
use Rattle.ec_protocol.specs.declared.clerk.Clerk.{Clerk}
use Rattle.ec_protocol.specs.declared.clerk.Waiting.{Waiting}
use Rattle.ec_protocol.specs.declared.world.World.{World}
use Rattle.ec_quiet.specs.Quiet.{IsIdle, IsQuiet}
use Rattle.ec_quiet.specs.Scenes.{IsScene, Scene}

-- a table without keys is empty
none-empty : {X : Type 0} (t : Table X) → ((n : ℕ) → at n t ≡ None) → t ≡ []
none-empty [] f = refl
none-empty {X} (e ∷ es) f = absurd (bad (sym here ∙ f e.0))
  where
    here : at e.0 (e ∷ es) ≡ Some e.1
    here = ap (λ b. cond b (Some e.1) (at e.0 es)) (sym (unsigned_ties e.0 e.0) ∙ eq-eqb e.0 e.0 refl)

    bad : ◌≡◌ {A = Option X} (Some e.1) None → ⊥
    bad p = grind (arith, p)

no-number : (n : ℕ) (ws : List Waiting) → ws ≡ [] → T (has_number n ws) → ⊥
no-number n ws e t = subst (λ z. T (has_number n z)) e t

module _ (w : World) (g : System) (sc : Scene) (sessions : SessionsAgree g) (agree : CallsAgree g) (stands : Stands w g) (i : IsScene w sc) (idle : IsIdle sc) where
  -- the clerk that would wait for it is idle
  none-open : (c n l : ℕ) (cl : Call) → at n (at_or [] c g.calls) ≡ Some (l, cl) → ⊥
  none-open c n l cl e =
      let open-call = agree.calls c n l cl e in
      let runs : at c sc.clerks ≡ Some open-call.clerk = sym (ap (at c) i.clerks) ∙ stands.clerks c
      ∙ ap (λ o. elim o as (λ z. Option Clerk) [ None ↦ None | Some b ↦ g.clerks c b ]) open-call.running ∙ open-call.stands in
      no-number n open-call.clerk.waiting (idle.clerks c open-call.clerk runs).1.waiting open-call.waits

  none-under-way : (c n : ℕ) → call_of c n w ≡ None
  none-under-way c n = ap (λ cs. at n (at_or [] c cs)) stands.calls ∙ go (at n (at_or [] c g.calls)) refl
    where
      go : (o : Option (ℕ × Call)) → at n (at_or [] c g.calls) ≡ o → o ≡ None
      go None e = refl
      go (Some q) e = absurd (none-open c n q.0 q.1 e)

  -- the system's durable state is the server's
  same-durable : g.durable ≡ sc.server.durable
  same-durable = sym (stands.up (subst (λ o. T (Rattle.std.specs.Prelude.is_some o)) (sym (sym stands.server ∙ i.server)) tt)) ∙ i.durable

  earlier : (c : ℕ) (sl : Slot) → slot sc.server.durable c ≡ Some sl → (sl.age).boot ≤ boot c w
  earlier c sl e =
      let there : slot g.durable c ≡ Some sl = ap (λ d. slot d c) same-durable ∙ e in
      let opened = (sessions.slots c sl there).2 in
      omega (arith, (sessions.owned sl.session (c, sl.age) opened).1, stands.boots c)

  pub quiets : IsQuiet w × ((c n : ℕ) → call_of c n w ≡ None)
  quiets = (record { scene = sc; stands = i; idle = idle; calls = λ c. none-empty (at_or [] c w.calls) (λ n. none-under-way c n); boots = earlier }, none-under-way)
