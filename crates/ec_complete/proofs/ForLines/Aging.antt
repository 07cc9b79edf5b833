-- Tokens that a line's clerk takes stand behind those from before the line.
use Rattle.std.proofs.Common.{◌≡◌, ap, ◌∙◌, arith, ◌≤◌, ◌<◌, ◌+◌, ℕ, zero, suc, Bool, true, false, not, ◌||◌, T, [], ◌∷◌, ◌++◌}
use Rattle.std.specs.Ordering.{nat_cmp, eq_by_cmp}
use Rattle.ec_base.specs.Tables.{put, renewed, without}
use Rattle.ec_base.specs.declared.ids.Hold.{Hold}
use Rattle.ec_base.specs.declared.ids.Hold.TheVariants.{Write}
use Rattle.ec_volume.specs.Update.{member}
use Rattle.ec_volume.specs.declared.image.Image.{Image}
use Rattle.ec_volume.specs.declared.image.Image.TheVariants.{Gone}
use Rattle.ec_sessions.specs.Slots.{run}
use Rattle.ec_cache.specs.Cache as cache
use Rattle.ec_cache.specs.declared.state.CacheState.{CacheState}
use Rattle.ec_cache.specs.declared.state.Held.{Held}
use Rattle.ec_protocol.specs.Clerk.{take_each}
use Rattle.ec_protocol.specs.declared.clerk.Clerk.{Clerk}
use Rattle.ec_quiet.specs.Phases.{IsAged}
use Rattle.ec_quiet.specs.Works.{Work}
use Rattle.ec_quiet.proofs.Beside.{filter-both}
use Rattle.ec_quiet.proofs.Taking.{each-both, each-map, each-of, regroup}
use Rattle.ec_base.proofs.Bools.{either-way}

-- One of an object that the line is about, or of an id of the clerk.
pub take-aged : (j : Work) (k : Clerk) (x : ℕ) (h : Hold) (n : ℕ) (i : Image) → T (member x j.touched || member x k.ids) → IsAged j k → IsAged j (record k { cache = cache.take x h n i k.cache })
take-aged j k x h n i own a = go (cache.is_new x n k.cache)
  where
    v : Held
    v = record { hold = h; number = n; image = i }

    go : (b : Bool) → IsAged j (record k { cache = elim b as (λ z. CacheState) [ false ↦ k.cache | true ↦ record (k.cache) { held = renewed x v k.cache.held; lasts = put x n k.cache.lasts; limits = without x k.cache.limits } ] })
    go false = record { olds = a.olds; news = a.news; whole = a.whole; old = a.old; fresh = a.fresh }
    go true = record {
      olds = without x a.olds;
      news = without x a.news ++ (x, v) ∷ [];
      whole = ap (λ es. without x es ++ (x, v) ∷ []) a.whole
          ∙ ap (λ es. es ++ (x, v) ∷ []) (filter-both (λ z. not (eq_by_cmp nat_cmp x z.0)) a.olds a.news) ∙ regroup (without x a.olds) (without x a.news) ((x, v) ∷ []);
      old = each-of {A = ℕ × Held} (λ z. (z.1).number ≤ j.number) (λ z. not (eq_by_cmp nat_cmp x z.0)) a.olds a.old;
      fresh = each-both {A = ℕ × Held} (λ z. T (member z.0 j.touched || member z.0 k.ids)) (without x a.news) ((x, v) ∷ [])
          (each-of {A = ℕ × Held} (λ z. T (member z.0 j.touched || member z.0 k.ids)) (λ z. not (eq_by_cmp nat_cmp x z.0)) a.news a.fresh) (own, tt);
    }

-- All ids of a range that are the clerk's.
pub all-aged : (j : Work) (n m id : ℕ) (k : Clerk) → ((y : ℕ) → id ≤ y → y < id + m → T (member y k.ids)) → IsAged j k → IsAged j (record k { cache = take_each n (run id m) k.cache })
all-aged j n zero id k own a = record { olds = a.olds; news = a.news; whole = a.whole; old = a.old; fresh = a.fresh }
all-aged j n (suc m) id k own a =
    all-aged j n m (id + 1) (record k { cache = cache.take id Write n Gone k.cache }) (λ y l t. own y (omega (arith, l)) (omega (arith, t)))
    (take-aged j k id Write n Gone (right (member id j.touched) (member id k.ids) (own id (omega arith) (omega arith))) a)
  where
    right : (a b : Bool) → T b → T (a || b)
    right true b t = tt
    right false b t = t

-- More ids leave the order as it is.
pub more-aged : (j : Work) (k now : Clerk) → now.cache ≡ k.cache → ((x : ℕ) → T (member x k.ids) → T (member x now.ids)) → IsAged j k → IsAged j now
more-aged j k now same more a = record {
  olds = a.olds;
  news = a.news;
  whole = ap (λ z. z.held) same ∙ a.whole;
  old = a.old;
  fresh = each-map {A = ℕ × Held} (λ z. T (member z.0 j.touched || member z.0 k.ids)) (λ z. T (member z.0 j.touched || member z.0 now.ids)) (λ z t. either-way (member z.0 j.touched) (member z.0 k.ids) (member z.0 now.ids) (more z.0) t) a.news a.fresh;
}
