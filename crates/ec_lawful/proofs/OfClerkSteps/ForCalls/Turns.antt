-- Calls in turn: where one doesn't wait the others have their lines, and they stay in turn where little changes.
use Rattle.std.proofs.Common.{◌≡◌, sym, ap, subst, ◌∙◌, inl, inr, ℕ, T, false, List, [], ◌∷◌, ◌++◌}
use Rattle.ec_history.specs.History.{Each}
use Rattle.ec_protocol.specs.Clerk.{Doing}
use Rattle.ec_protocol.specs.declared.clerk.Clerk.{Clerk}
use Rattle.ec_protocol.specs.declared.clerk.Waiting.{Waiting}
use Rattle.ec_coherence.specs.System.{System, Ghost}
use Rattle.ec_coherence.specs.Steps.{call_of, doing_in}
use Rattle.ec_lawful.specs.OfClerkSteps.Waits.{AreInTurn, HasLine, does_wait}
use Rattle.ec_lawful.specs.OfClerkSteps.CallLaws.{IsStill}
use Rattle.ec_lawful.proofs.OfClerkSteps.ForCalls.Quiet.{quiet-lines}
use Rattle.ec_lawful.proofs.OfClerkSteps.ForCalls.Still.{still-waits}
use Rattle.ec_history.proofs.OfLaws.ForPlacing.BasesAlike.{each-map}

first-is : {A : Type 0} (x y : A) (xs ys : List A) → x ∷ xs ≡ y ∷ ys → x ≡ y
first-is x y xs ys e = cc

rest-is : {A : Type 0} (x y : A) (xs ys : List A) → x ∷ xs ≡ y ∷ ys → xs ≡ ys
rest-is x y xs ys e = cc

no-end : {A : Type 0} (xs : List A) (y : A) (ys : List A) → [] ≡ xs ++ y ∷ ys → ⊥
no-end [] y ys e = absurd (cc)
no-end (x ∷ xs) y ys e = absurd (cc)

each-mid : (P : Waiting → Type 0) (xs : List Waiting) (y : Waiting) (ys : List Waiting) → Each P (xs ++ y ∷ ys) → Each P (xs ++ ys)
each-mid P [] y ys h = h.1
each-mid P (x ∷ xs) y ys h = (h.0, each-mid P xs y ys h.1)

module _ (g : System) (c : ℕ) (k : Clerk) (w : Waiting) (answers : does_wait w k ≡ false) where
  -- the one that doesn't wait is the last
  is-last : (earlier before rest : List Waiting) (new : Waiting) → earlier ++ new ∷ [] ≡ before ++ w ∷ rest → Each (λ v. T (does_wait v k) × HasLine g c v) earlier → Each (HasLine g c) (before ++ rest)
  is-last [] [] rest new e h = subst (Each (HasLine g c)) (rest-is new w [] rest e) tt
  is-last [] (y ∷ before) rest new e h = absurd (no-end before w rest (rest-is new y [] (before ++ w ∷ rest) e))
  is-last (x ∷ earlier) [] rest new e h = absurd (subst T (ap (λ z. does_wait z k) (first-is x w (earlier ++ new ∷ []) rest e) ∙ answers) (h.0).0)
  is-last (x ∷ earlier) (y ∷ before) rest new e h = (
    subst (HasLine g c) (first-is x y (earlier ++ new ∷ []) (before ++ w ∷ rest) e) (h.0).1,
    is-last earlier before rest new (rest-is x y (earlier ++ new ∷ []) (before ++ w ∷ rest) e) h.1,
  )

  pub turns-allow : AreInTurn g c k → (before rest : List Waiting) → k.waiting ≡ before ++ w ∷ rest → Each (HasLine g c) (before ++ rest)
  turns-allow (inl all) before rest e = each-mid (HasLine g c) before w rest (subst (Each (HasLine g c)) e all)
  turns-allow (inr t) before rest e = is-last t.0 before rest t.1 (sym t.2 ∙ e) t.3

pub still-turn : (g : System) (c b : ℕ) (d e : Doing) (γ : Ghost) → IsStill d e → AreInTurn (doing_in c b d γ g) c d.clerk → AreInTurn (doing_in c b e γ g) c e.clerk
still-turn g c b d e γ s (inl all) = inl (quiet-lines g c b d e γ s.quiet all)
still-turn g c b d e γ s (inr t) = inr (
  t.0,
  t.1,
  (s.quiet).waiting ∙ t.2,
  each-map (λ v. T (does_wait v d.clerk) × HasLine (doing_in c b d γ g) c v) (λ v. T (does_wait v e.clerk) × HasLine (doing_in c b e γ g) c v)
      (λ v y. (subst T (sym (still-waits d e s v)) y.0, ((y.1).0, ap (call_of c v.no) ((s.quiet).outs c g.calls) ∙ (y.1).1, (y.1).2))) t.0 t.3,
)
