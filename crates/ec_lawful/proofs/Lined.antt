-- Between two steps each call under way has its line.
use Rattle.std.proofs.Common.{◌≡◌, refl, sym, ap, subst, ◌∙◌, ℕ, T, Bool, true, false, ◌==◌, ◌||◌, List, [], ◌∷◌, Some}
use Rattle.std.specs.List.{list_any}
use Rattle.ec_plain.specs.declared.call.Call.{Call}
use Rattle.ec_history.specs.History.{Each}
use Rattle.ec_protocol.specs.declared.clerk.Clerk.{Clerk}
use Rattle.ec_protocol.specs.declared.clerk.Waiting.{Waiting}
use Rattle.ec_coherence.specs.System.{System}
use Rattle.ec_coherence.specs.Steps.{call_of}
use Rattle.ec_coherence.proofs.ForServer.Tables.{same_some}
use Rattle.ec_lawful.specs.OfClerkSteps.Calls.{CallsAgree, IsOpenCall, is_shown}
use Rattle.ec_lawful.specs.OfClerkSteps.Waits.{AreAtRest, HasLine, does_wait}
use Rattle.ec_base.proofs.Numbers.{equal}

pub calls-lined : (g : System) → CallsAgree g → AreAtRest g → (c n l : ℕ) (cl : Call) → call_of c n g.calls ≡ Some (l, cl) → is_shown g l ≡ true
calls-lined g agree rest c n l cl q = find k.waiting i.waits (rest c i.boot k i.running i.stands).calls
  where
    i : IsOpenCall g c n l cl
    i = agree.calls c n l cl q

    k : Clerk
    k = i.clerk

    its : (w : Waiting) → (w.no == n) ≡ true → HasLine g c w → is_shown g l ≡ true
    its w e h = subst (λ m. is_shown g m ≡ true) (ap (λ x. x.0) (same_some (sym h.1 ∙ ap (λ x. call_of c x g.calls) (equal w.no n e) ∙ q))) h.2

    find : (ws : List Waiting) → T (list_any (λ w. w.no == n) ws) → Each (λ w. T (does_wait w k) × HasLine g c w) ws → is_shown g l ≡ true
    find [] t h = absurd t
    find (w ∷ ws) t h = go (w.no == n) refl t (λ u. find ws u h.1)
      where
        go : (b : Bool) → (w.no == n) ≡ b → T (b || list_any (λ v. v.no == n) ws) → (T (list_any (λ v. v.no == n) ws) → is_shown g l ≡ true) → is_shown g l ≡ true
        go true e t more = its w e (h.0).1
        go false e t more = more t
