-- What uses and changes of images leave of the order of use.
use Rattle.std.proofs.Common.{◌≡◌, refl, sym, ap, ◌∙◌, arith, ℕ, T, Bool, true, false, not, ◌||◌, List, [], ◌∷◌, ◌++◌}
use Rattle.std.specs.Prelude.{Option, None, Some, ◌==◌}
use Rattle.std.specs.Ordering.{nat_cmp, eq_by_cmp}
use Rattle.std.proofs.lemmas.Bool.{eq-eqb}
use Rattle.ec_base.specs.Tables.{Table, at, keys, renewed, without}
use Rattle.ec_history.specs.History.{Each}
use Rattle.ec_volume.specs.Update.{distinct, effect, member}
use Rattle.ec_volume.specs.declared.update.Update.{Update}
use Rattle.ec_cache.specs.Cache as cache
use Rattle.ec_cache.specs.declared.state.CacheState.{CacheState}
use Rattle.ec_cache.specs.declared.state.Held.{Held}
use Rattle.ec_coherence.proofs.ForClerk.Keyed.{keyed-renewed}
use Rattle.ec_quiet.specs.Evictions.{IsOld}
use Rattle.ec_quiet.proofs.Beside.{filter-both}
use Rattle.ec_quiet.proofs.Taking.{each-both, each-of, regroup}
use Rattle.ec_complete.proofs.OfAgreedLines.OldTokens.{AreAged}

-- each token stands once, in the order of use
pub record IsOrdered (n : ℕ) (fresh : List ℕ) (k : CacheState) : Type 0 where
  pub aged : AreAged n fresh k.held
  pub once : T (distinct (keys k.held))

module _ (n : ℕ) (fresh : List ℕ) where
  renewed-ordered : (x : ℕ) (v : Held) (k : CacheState) → T (member x fresh) → IsOrdered n fresh k → IsOrdered n fresh (record k { held = renewed x v k.held })
  renewed-ordered x v k own i =
      let a = i.aged in
      record {
        aged = record {
          olds = without x a.olds;
          news = without x a.news ++ (x, v) ∷ [];
          whole = ap (λ es. without x es ++ (x, v) ∷ []) a.whole ∙ ap (λ es. es ++ (x, v) ∷ []) (filter-both (λ z. not (eq_by_cmp nat_cmp x z.0)) a.olds a.news) ∙ regroup (without x a.olds) (without x a.news) ((x, v) ∷ []);
          old = each-of (IsOld n) (λ z. not (eq_by_cmp nat_cmp x z.0)) a.olds a.old;
          own = each-both {A = ℕ × Held} (λ z. T (member z.0 fresh)) (without x a.news) ((x, v) ∷ []) (each-of {A = ℕ × Held} (λ z. T (member z.0 fresh)) (λ z. not (eq_by_cmp nat_cmp x z.0)) a.news a.own) (own, tt);
        };
        once = keyed-renewed x v k.held i.once;
      }

  used-ordered : (x : ℕ) (k : CacheState) → T (member x fresh) → IsOrdered n fresh k → IsOrdered n fresh (cache.used x k)
  used-ordered x k own i = go (at x k.held)
    where
      go : (o : Option Held) → IsOrdered n fresh (elim o as (λ z. CacheState) [ None ↦ k | Some h ↦ record k { held = renewed x h k.held } ])
      go None = i
      go (Some h) = renewed-ordered x h k own i

  change-ordered : (u : Update) (x : ℕ) (k : CacheState) → T (member x fresh) → IsOrdered n fresh k → IsOrdered n fresh (cache.change_at u x k)
  change-ordered u x k own i = go (at x k.held)
    where
      go : (o : Option Held) → IsOrdered n fresh (elim o as (λ z. CacheState) [ None ↦ k | Some h ↦ record k { held = renewed x (record h { image = effect u x h.image }) k.held } ])
      go None = i
      go (Some h) = renewed-ordered x (record h { image = effect u x h.image }) k own i

  first-one : (x : ℕ) (xs : List ℕ) → T (member x (x ∷ xs))
  first-one x xs = go (x == x) (eq-eqb x x refl)
    where
      go : (b : Bool) → b ≡ true → T (b || member x xs)
      go true e = tt
      go false e = absurd (grind (arith, e))

  later-one : (y x : ℕ) (xs : List ℕ) → T (member y xs) → T (member y (x ∷ xs))
  later-one y x xs t = go (y == x)
    where
      go : (b : Bool) → T (b || member y xs)
      go true = tt
      go false = t

  pub all-used-ordered : (xs : List ℕ) (k : CacheState) → ((x : ℕ) → T (member x xs) → T (member x fresh)) → IsOrdered n fresh k → IsOrdered n fresh (cache.all_used xs k)
  all-used-ordered [] k f i = i
  all-used-ordered (x ∷ xs) k f i = all-used-ordered xs (cache.used x k) (λ y t. f y (later-one y x xs t)) (used-ordered x k (f x (first-one x xs)) i)

  pub all-changed-ordered : (u : Update) (xs : List ℕ) (k : CacheState) → ((x : ℕ) → T (member x xs) → T (member x fresh)) → IsOrdered n fresh k → IsOrdered n fresh (cache.change u xs k)
  all-changed-ordered u [] k f i = i
  all-changed-ordered u (x ∷ xs) k f i = all-changed-ordered u xs (cache.change_at u x k) (λ y t. f y (later-one y x xs t)) (change-ordered u x k (f x (first-one x xs)) i)
