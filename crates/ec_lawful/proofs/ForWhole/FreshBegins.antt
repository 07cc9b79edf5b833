-- Before anything was shown ids are fresh.
use Rattle.std.proofs.Common.{◌≡◌, refl, sym, ap, subst, ◌∙◌, List, [], ◌∷◌, ◌++◌, None}
use Rattle.ec_history.specs.History.{Each}
use Rattle.ec_history.specs.declared.shown.Shown.{Shown}
use Rattle.ec_coherence.specs.System.{System, base_of}
use Rattle.ec_lawful.specs.Fresh.{AreFresh, FreshAgrees, IsOfStart}
use Rattle.ec_base.proofs.Options.{none_some}

pub begins-fresh : (g : System) → g.clerks ≡ (λ c b. None) → g.ghost.shown ≡ [] → g.ghost.history ≡ [] → FreshAgrees g
begins-fresh g clerks shown history = record {
  stored = λ c b x t. subst (Each (IsOfStart g c b x)) (sym history) tt;
  apart = λ c b d a x t u. absurd (none_some (sym (ap (λ f. f c b) clerks) ∙ (t.2).stands));
  fronts = λ front rest e. subst (AreFresh g.origin (base_of g).fresh g.durable.next_id) (sym (none front rest (e ∙ shown))) (tt, tt);
}
  where
    none : (xs ys : List Shown) → xs ++ ys ≡ [] → xs ≡ []
    none [] ys e = refl
    none (x ∷ xs) ys e = absurd (apart e)
      where
        apart : (x ∷ xs) ++ ys ≡ [] → ⊥
        apart e = cc
