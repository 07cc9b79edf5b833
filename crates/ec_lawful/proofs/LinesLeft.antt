-- The calls under way behind what came out of a clerk's step, and their lines.
use Rattle.std.proofs.Common.{◌≡◌, refl, sym, ap, ◌∙◌, inl, inr, ◌⊎◌, ℕ, Bool, true, false, ◌||◌, ◌&&◌, ◌==◌, cond, List, [], ◌∷◌, Option, Some, None}
use Rattle.std.specs.List.{list_any}
use Rattle.std.proofs.lemmas.List.Folds.{list_any-append}
use Rattle.ec_history.specs.History.{Each}
use Rattle.ec_history.specs.Placing.{is_numbered}
use Rattle.ec_plain.specs.declared.call.Call.{Call}
use Rattle.ec_protocol.specs.Clerk.{Doing}
use Rattle.ec_protocol.specs.World.{is_answer_to}
use Rattle.ec_protocol.specs.declared.clerk.Out.{Out}
use Rattle.ec_protocol.specs.declared.clerk.Out.TheVariants as out
use Rattle.ec_protocol.specs.declared.clerk.Waiting.{Waiting}
use Rattle.ec_coherence.specs.System.{System, Ghost}
use Rattle.ec_coherence.specs.ChangeLaws.{Calls}
use Rattle.ec_coherence.specs.Steps.{call_of, calls_after, doing_in, less_call, out_lines}
use Rattle.ec_coherence.proofs.ForBatches.ClerkIn.{start-same}
use Rattle.ec_coherence.proofs.ForServer.Lists.{each-turn}
use Rattle.ec_lawful.specs.OfClerkSteps.Calls.{Began, is_shown}
use Rattle.ec_lawful.specs.OfClerkSteps.Waits.{HasLine}
use Rattle.ec_lawful.proofs.OfClerkSteps.ForCalls.CallsLeft.{call-less}
use Rattle.ec_lawful.specs.OfClerkSteps.Trying.{IsTrying}
use Rattle.ec_base.proofs.Numbers.{same-self as same, equal}
use Rattle.ec_base.proofs.Options.{none_some}

abbrev next_calls : ℕ → ℕ → Calls → Option (ℕ × Call) → Calls
next_calls c m calls o = elim o as (λ z. Calls) [ None ↦ calls | Some l ↦ less_call c m calls ]

-- a call that is left was there
pub kept-call : (c n : ℕ) (os : List Out) (calls : Calls) (x : ℕ × Call) → call_of c n (calls_after c os calls) ≡ Some x → call_of c n calls ≡ Some x
kept-call c n [] calls x e = e
kept-call c n (out.Send m ∷ os) calls x e = kept-call c n os calls x e
kept-call c n (out.Told ns ∷ os) calls x e = kept-call c n os calls x e
kept-call c n (out.OldBoot a ∷ os) calls x e = kept-call c n os calls x e
kept-call c n (out.Answer m a op ∷ os) calls x e = go (call_of c m calls) (kept-call c n os (next_calls c m calls (call_of c m calls)) x e)
  where
    by : (z : Bool) → cond z None (call_of c n calls) ≡ Some x → call_of c n calls ≡ Some x
    by true q = absurd (none_some q)
    by false q = q

    go : (o : Option (ℕ × Call)) → call_of c n (next_calls c m calls o) ≡ Some x → call_of c n calls ≡ Some x
    go None q = q
    go (Some l) q = by ((c == c) && (n == m)) (sym (call-less c m c n calls) ∙ q)

stays-none : (c n : ℕ) (os : List Out) (calls : Calls) → call_of c n calls ≡ None → call_of c n (calls_after c os calls) ≡ None
stays-none c n os calls e = go (call_of c n (calls_after c os calls)) refl
  where
    go : (o : Option (ℕ × Call)) → call_of c n (calls_after c os calls) ≡ o → call_of c n (calls_after c os calls) ≡ None
    go None q = q
    go (Some x) q = absurd (none_some (sym e ∙ kept-call c n os calls x q))

-- one that was answered isn't
pub answered-gone : (c n : ℕ) (os : List Out) (calls : Calls) → list_any (is_answer_to n) os ≡ true → call_of c n (calls_after c os calls) ≡ None
answered-gone c n [] calls e = absurd (cc)
answered-gone c n (out.Send m ∷ os) calls e = answered-gone c n os calls e
answered-gone c n (out.Told ns ∷ os) calls e = answered-gone c n os calls e
answered-gone c n (out.OldBoot a ∷ os) calls e = answered-gone c n os calls e
answered-gone c n (out.Answer m a op ∷ os) calls e = by (n == m) refl e (answered-gone c n os (next_calls c m calls (call_of c m calls)))
  where
    first : (n == m) ≡ true → (o : Option (ℕ × Call)) → call_of c m calls ≡ o → call_of c n (next_calls c m calls o) ≡ None
    first f None q = ap (λ z. call_of c z calls) (equal n m f) ∙ q
    first f (Some l) q = call-less c m c n calls ∙ ap (λ z. cond (z && (n == m)) None (call_of c n calls)) (same c) ∙ ap (λ z. cond z None (call_of c n calls)) f

    by : (z : Bool) → (n == m) ≡ z → (z || list_any (is_answer_to n) os) ≡ true
        → (list_any (is_answer_to n) os ≡ true → call_of c n (calls_after c os (next_calls c m calls (call_of c m calls))) ≡ None) → call_of c n (calls_after c os (next_calls c m calls (call_of c m calls))) ≡ None
    by true f q more = stays-none c n os (next_calls c m calls (call_of c m calls)) (first f (call_of c m calls) refl)
    by false f q more = more q

module _ (h : System) (c b : ℕ) (e : Doing) (δ : Ghost) (t : IsTrying h c b e δ) (known : (n l : ℕ) (cl : Call) → call_of c n h.calls ≡ Some (l, cl) → (is_shown h l ≡ true) ⊎ (call_of c n (calls_after c e.outs h.calls) ≡ None)) where
  abbrev X : System
  X = doing_in c b e δ h

  shown-on : (l : ℕ) → is_shown h l ≡ true → is_shown X l ≡ true
  shown-on l p = ap (list_any (is_numbered l)) ((t.stands).0).shown ∙ list_any-append (is_numbered l) h.ghost.shown (out_lines c e.outs h.calls) ∙ ap (λ z. z || list_any (is_numbered l) (out_lines c e.outs h.calls)) p

  one : (w : Waiting) → (l : ℕ) × (call_of c w.no X.calls ≡ Some (l, w.call)) × Began X c b e.clerk w l → HasLine X c w
  one w q = elim (known w.no q.0 w.call (kept-call c w.no e.outs h.calls (q.0, w.call) q.1)) [
    | inl p ↦ (q.0, q.1, shown-on q.0 p)
    | inr p ↦ absurd (none_some (sym p ∙ q.1))
  ]

  pub lines-at-end : Each (HasLine X c) e.clerk.waiting
  lines-at-end = each-turn (λ w. (l : ℕ) × (call_of c w.no X.calls ≡ Some (l, w.call)) × Began X c b e.clerk w l) (HasLine X c) e.clerk.waiting one ((t.calls).starts c b e.clerk ((t.stands).0).runs (start-same c b e.clerk h.clerks)).lined
