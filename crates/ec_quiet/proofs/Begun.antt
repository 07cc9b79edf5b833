-- How steps begin that take a message of the clerk's session.
use Rattle.std.proofs.Common.{◌≡◌, refl, ap, ◌∙◌, arith, ◌≤◌, ℕ, Bool, true, false, ◌&&◌}
use Rattle.std.specs.Prelude.{nat_le, nat_lt, ◌==◌}
use Rattle.ec_base.specs.declared.ids.Hold.{Hold}
use Rattle.ec_base.specs.declared.counter.Counter.TheVariants as counter
use Rattle.ec_volume.specs.declared.image.Image.{Image}
use Rattle.ec_sessions.specs.Limits.{last_grants}
use Rattle.ec_cache.specs.Cache as cache
use Rattle.ec_log.specs.Log as log
use Rattle.ec_wire.specs.declared.msg.Msg.TheVariants.{Grant, Ids, Kept, Recall}
use Rattle.ec_protocol.specs.Clerk.{Doing, add_ids, doing, in_session, is_session, spend, take_recall, take_ids, taken, with_cache, with_clerk, with_log}
use Rattle.ec_protocol.specs.declared.clerk.Clerk.{Clerk}
use Rattle.ec_quiet.specs.Tries.{IsOf, recalled}
use Rattle.ec_base.proofs.Numbers.{same-number}

module _ (s e : ℕ) (k : Clerk) (of : IsOf s e k) where
  is-own : is_session s k.session ≡ true
  is-own = ap (is_session s) of.0 ∙ same-number s

  inside : (f : Doing → Doing) → in_session s e f (doing k) ≡ f (doing k)
  inside f = go (is_session s k.session) (e == k.epoch) is-own (ap (λ z. e == z) of.1 ∙ same-number e)
    where
      go : (a b : Bool) → a ≡ true → b ≡ true → elim (a && b) as (λ z. Doing) [ true ↦ f (doing k) | false ↦ doing k ] ≡ f (doing k)
      go true true p q = refl
      go true false p q = absurd (grind (arith, q))
      go false b p q = absurd (grind (arith, p))

  pub grants : (x n : ℕ) (h : Hold) (i : Image) → taken (Grant s e x n h i) (doing k) ≡ with_cache (cache.take x h n i) (doing k)
  grants x n h i = inside (with_cache (cache.take x h n i))

  pub recalls : (x n : ℕ) (to : Hold) → cache.last x k.cache ≤ n → taken (Recall s e x n to) (doing k) ≡ recalled x n to k
  recalls x n to l = inside (take_recall x n to) ∙ go (nat_lt n (cache.last x k.cache)) (grind (arith, l))
    where
      go : (b : Bool) → b ≡ false → elim b as (λ z. Doing) [ true ↦ doing k | false ↦ recalled x n to k ] ≡ recalled x n to k
      go true p = absurd (grind (arith, p))
      go false p = refl

  pub keeps : (b f : ℕ) → taken (Kept s f b) (doing k) ≡ with_log (log.kept b) (doing k)
  keeps b f = ap (λ z. elim z as (λ z. Doing) [ true ↦ with_log (log.kept b) (doing k) | false ↦ doing k ]) is-own

  pub ids : (n first : ℕ) → nat_le last_grants k.got ≡ false → taken (Ids s e k.got n first) (doing k) ≡ with_clerk (add_ids n first) (doing k)
  ids n first l = inside (take_ids k.got n first) ∙ go (k.got == k.got) (nat_le last_grants k.got) (same-number k.got) l
    where
      go : (a b : Bool) → a ≡ true → b ≡ false → elim a as (λ z. Doing) [ false ↦ doing k | true ↦ elim b as (λ z. Doing) [ true ↦ spend counter.Id (doing k) | false ↦ with_clerk (add_ids n first) (doing k) ] ] ≡ with_clerk (add_ids n first) (doing k)
      go true false p q = refl
      go true true p q = absurd (grind (arith, q))
      go false b p q = absurd (grind (arith, p))
