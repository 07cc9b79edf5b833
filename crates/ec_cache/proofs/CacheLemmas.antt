-- Lemmas on the definitions of `Cache` that several proofs cite.
use Rattle.std.proofs.Common.{◌≡◌, refl, ℕ, ◌∙◌, List, [], ◌∷◌}
use Rattle.std.specs.Prelude.{Option, None, Some}
use Rattle.ec_base.specs.Tables.{at, renewed}
use Rattle.ec_cache.specs.Cache as cache
use Rattle.ec_cache.specs.declared.state.CacheState.{CacheState}
use Rattle.ec_cache.specs.declared.state.Held.{Held}

pub used-lasts : (x : ℕ) (k : CacheState) → (cache.used x k).lasts ≡ k.lasts
used-lasts x k = go (at x k.held)
  where
    go : (o : Option Held) → (elim o as (λ z. CacheState) [ None ↦ k | Some h ↦ record k { held = renewed x h k.held } ]).lasts ≡ k.lasts
    go None = refl
    go (Some h) = refl

pub all-used-lasts : (xs : List ℕ) (k : CacheState) → (cache.all_used xs k).lasts ≡ k.lasts
all-used-lasts [] k = refl
all-used-lasts (x ∷ xs) k = all-used-lasts xs (cache.used x k) ∙ used-lasts x k
