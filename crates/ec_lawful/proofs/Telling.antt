-- The lines go on to tell what became of operations in a clerk's step.
use Rattle.std.proofs.Common.{◌≡◌, refl, sym, ap, subst, ◌∙◌, inl, inr, arith, ◌≤◌, ◌+◌, ℕ, false, ◌==◌, cond, length, [], ◌∷◌, ◌++◌, Option, Some}
use Rattle.ec_base.specs.Tables.{Table, at, at_or, or_else, put}
use Rattle.ec_plain.specs.declared.call.Call.{Call}
use Rattle.ec_history.specs.declared.entry.Answer.{Answer}
use Rattle.ec_history.specs.declared.shown.Shown.{Shown}
use Rattle.ec_history.specs.declared.shown.Shown.TheVariants as show
use Rattle.ec_protocol.specs.Clerk.{Doing}
use Rattle.ec_coherence.specs.System.{System, Ghost}
use Rattle.ec_coherence.specs.Steps.{doing_in}
use Rattle.ec_coherence.proofs.ForServer.Tables.{at-put}
use Rattle.ec_coherence.specs.CommitLaws.{AllAgree}
use Rattle.ec_coherence.specs.StandLaws.{lined}
use Rattle.ec_lawful.specs.OfClerkSteps.Trying.{AnswersWith}
use Rattle.ec_history.specs.OfLaws.Accounts.{LinesTell}
use Rattle.ec_lawful.specs.Headline.{FrontsAreLawful}
use Rattle.ec_lawful.specs.HeadlineLaws.{TellsAll}
use Rattle.ec_lawful.proofs.ForWhole.LinesTell.{line-tells}

module _ (g : System) (c b : ℕ) (d e : Doing) (γ : Ghost) where
  -- whatever the clerk does, where nothing is shown
  pub quiet-step-tells : (δ : Ghost) → δ.shown ≡ γ.shown → δ.fresh ≡ γ.fresh → TellsAll (doing_in c b d γ g) → TellsAll (doing_in c b e δ g)
  quiet-step-tells δ p q t = here
    where
      here : TellsAll (doing_in c b e δ g)
      here = record {
        told = subst (λ f. LinesTell (record { volume = g.origin; fresh = λ x. at_or 0 x f }) δ.shown) (sym q) (subst (LinesTell (record { volume = g.origin; fresh = λ x. at_or 0 x γ.fresh })) (sym p) t.told);
        fronts = subst (λ f. FrontsAreLawful (record { volume = g.origin; fresh = λ x. at_or 0 x f }) g.durable.max_objects δ.shown) (sym q)
            (subst (FrontsAreLawful (record { volume = g.origin; fresh = λ x. at_or 0 x γ.fresh }) g.durable.max_objects) (sym p) t.fronts);
      }

  -- a line is shown, and no id is given to a place before it
  pub line-step-tells : (δ : Ghost) (l : Shown) → AllAgree (doing_in c b d γ g) → AllAgree (doing_in c b e δ g) → δ.shown ≡ γ.shown ++ l ∷ [] → ((p : ℕ) → p ≤ length γ.shown → at_or 0 p δ.fresh ≡ at_or 0 p γ.fresh)
      → TellsAll (doing_in c b d γ g) → TellsAll (doing_in c b e δ g)
  line-step-tells δ l before behind shown fresh t = line-tells (doing_in c b d γ g) (doing_in c b e δ g) before behind l (record { origin = refl; most = refl; shown = shown; fresh = fresh }) t

  put-later : (n x p : ℕ) (t : Table ℕ) → p ≤ n → at_or 0 p (put (n + 1) x t) ≡ at_or 0 p t
  put-later n x p t le = ap (or_else 0) (at-put p (n + 1) x t ∙ ap (λ z. cond z (Some x) (at p t)) (other n p le))
    where
      other : (n p : ℕ) → p ≤ n → (p == n + 1) ≡ false
      other n p le = grind arith

  -- a call is answered
  pub answer-step-tells : (δ : Ghost) (l : ℕ) (cl : Call) (a : Answer) (op : Option ℕ) → AllAgree (doing_in c b d γ g) → AllAgree (doing_in c b e δ g) → AnswersWith g c b d γ l cl a op δ → TellsAll (doing_in c b d γ g) → TellsAll (doing_in c b e δ g)
  answer-step-tells δ l cl a op before behind (inl q) t = line-step-tells δ (show.Answered l c cl a op) before behind (ap (λ x. x.shown) q) (λ p le. ap (λ x. at_or 0 p x.fresh) q ∙ put-later (length γ.shown) _ p γ.fresh le) t
  answer-step-tells δ l cl a op before behind (inr q) t = line-step-tells δ (show.Answered l c cl a op) before behind (ap (λ x. x.shown) q.4) (λ p le. ap (λ x. at_or 0 p x.fresh) q.4 ∙ put-later (length γ.shown) _ p γ.fresh le) t

-- a line before the step, as that of a call that waits
pub lined-tells : (g : System) (l : Shown) → AllAgree g → AllAgree (lined g l) → TellsAll g → TellsAll (lined g l)
lined-tells g l before behind t = line-tells g (lined g l) before behind l (record { origin = refl; most = refl; shown = refl; fresh = λ p le. refl }) t
