-- What uses, changes of images and evictions leave of a cache.
use Rattle.std.proofs.Common.{◌≡◌, refl, sym, ap, ◌∙◌, arith, ◌≤◌, ◌+◌, ℕ, suc, Bool, true, false, not, cond, List, [], ◌∷◌, ◌++◌, length}
use Rattle.std.specs.Prelude.{Option, None, Some, ◌==◌}
use Rattle.std.specs.Ordering.{nat_cmp, eq_by_cmp}
use Rattle.std.proofs.lemmas.Bool.{eqb-true}
use Rattle.ec_base.specs.Tables.{Table, at, renewed, without}
use Rattle.ec_volume.specs.Update.{effect}
use Rattle.ec_volume.specs.declared.update.Update.{Update}
use Rattle.ec_cache.specs.Cache as cache
use Rattle.ec_cache.specs.Held.{unpinned}
use Rattle.ec_cache.specs.declared.state.CacheState.{CacheState}
use Rattle.ec_cache.specs.declared.state.Held.{Held}
use Rattle.ec_protocol.specs.Clerk.{Doing, max_tokens}
use Rattle.ec_quiet.specs.Facts.{token_of}
use Rattle.ec_quiet.specs.Evictions.{Evicts, Leaves, Uses}
use Rattle.ec_quiet.proofs.Steps.{few-stay}
use Rattle.ec_quiet.proofs.Taking.{at-renewed, each-map, few-left}
use Rattle.ec_base.proofs.Lists.{no-more}

one-more : {A : Type 0} (xs : List A) (x : A) → length (xs ++ x ∷ []) ≡ length xs + 1
one-more [] x = refl
one-more (y ∷ ys) x = omega (arith, one-more ys x)

-- One object.

fewer-without : (x : ℕ) (es : Table Held) (h : Held) → at x es ≡ Some h → length (without x es) + 1 ≤ length es
fewer-without x [] h e = absurd (grind (arith, e))
fewer-without x (e ∷ es) h f = go (eq_by_cmp nat_cmp x e.0) f (few-left {A = ℕ × Held} (λ z. not (eq_by_cmp nat_cmp x z.0)) es) (fewer-without x es h)
  where
    go : (b : Bool) → cond b (Some e.1) (at x es) ≡ Some h → length (without x es) ≤ length es → (at x es ≡ Some h → length (without x es) + 1 ≤ length es)
        → length (cond (not b) (e ∷ without x es) (without x es)) + 1 ≤ suc (length es)
    go true f l r = omega (arith, l)
    go false f l r = omega (arith, r f)

pub same-leaves : (k : CacheState) → Leaves [] k k
same-leaves k = record { capacity = refl; lasts = refl; limits = λ e. e; stay = λ x f. refl; go = λ x f. absurd (grind (arith, f)); held = tt }

pub leaves-on : (es : Table Held) (k m n : CacheState) → Leaves [] k m → Leaves es m n → Leaves es k n
leaves-on es k m n l r = record {
  capacity = r.capacity ∙ l.capacity;
  lasts = r.lasts ∙ l.lasts;
  limits = λ e. r.limits (l.limits e);
  stay = λ x f. r.stay x f ∙ l.stay x refl;
  go = r.go;
  held = each-map {A = ℕ × Held} (λ e. token_of (at e.0 m.held) ≡ token_of (Some e.1)) (λ e. token_of (at e.0 k.held) ≡ token_of (Some e.1)) (λ e p. sym (l.stay e.0 refl) ∙ p) es r.held;
}

pub uses-none : (k : CacheState) → Uses k k
uses-none k = (same-leaves k, omega arith)

pub uses-on : (k m n : CacheState) → Uses k m → Uses m n → Uses k n
uses-on k m n u v = (leaves-on [] k m n u.0 v.0, omega (arith, u.1, v.1))

module _ (x : ℕ) (k : CacheState) (h v : Held) (there : at x k.held ≡ Some h) (same : token_of (Some v) ≡ token_of (Some h)) where
  stays : (y : ℕ) → token_of (at y (renewed x v k.held)) ≡ token_of (at y k.held)
  stays y = ap token_of (at-renewed x v k.held y) ∙ go (y == x) refl
    where
      go : (b : Bool) → (y == x) ≡ b → token_of (cond b (Some v) (at y k.held)) ≡ token_of (at y k.held)
      go true e = same ∙ ap token_of (sym (ap (λ z. at z k.held) (eqb-true y x e) ∙ there))
      go false e = refl

  pub renewed-uses : Uses k (record k { held = renewed x v k.held })
  renewed-uses = (
    record { capacity = refl; lasts = refl; limits = λ e. e; stay = λ y f. stays y; go = λ y f. absurd (grind (arith, f)); held = tt },
    omega (arith, fewer-without x k.held h there, one-more (without x k.held) (x, v)),
  )

used-uses : (x : ℕ) (k : CacheState) → Uses k (cache.used x k)
used-uses x k = go (at x k.held) refl
  where
    go : (o : Option Held) → at x k.held ≡ o → Uses k (elim o as (λ z. CacheState) [ None ↦ k | Some h ↦ record k { held = renewed x h k.held } ])
    go None e = uses-none k
    go (Some h) e = renewed-uses x k h h e refl

pub all-used-uses : (xs : List ℕ) (k : CacheState) → Uses k (cache.all_used xs k)
all-used-uses [] k = uses-none k
all-used-uses (x ∷ xs) k = uses-on k (cache.used x k) (cache.all_used xs (cache.used x k)) (used-uses x k) (all-used-uses xs (cache.used x k))

change-at-uses : (u : Update) (x : ℕ) (k : CacheState) → Uses k (cache.change_at u x k)
change-at-uses u x k = go (at x k.held) refl
  where
    go : (o : Option Held) → at x k.held ≡ o → Uses k (elim o as (λ z. CacheState) [ None ↦ k | Some h ↦ record k { held = renewed x (record h { image = effect u x h.image }) k.held } ])
    go None e = uses-none k
    go (Some h) e = renewed-uses x k h (record h { image = effect u x h.image }) e refl

pub change-uses : (u : Update) (xs : List ℕ) (k : CacheState) → Uses k (cache.change u xs k)
change-uses u [] k = uses-none k
change-uses u (x ∷ xs) k = uses-on k (cache.change_at u x k) (cache.change u xs (cache.change_at u x k)) (change-at-uses u x k) (change-uses u xs (cache.change_at u x k))

-- No token goes back where there are few.

all-stay : (es : Table Held) → unpinned [] es ≡ es
all-stay [] = refl
all-stay (e ∷ es) = ap (λ l. e ∷ l) (all-stay es)

pub roomy : (n : ℕ) (d : Doing) → d.clerk.cache.capacity ≡ max_tokens → length d.clerk.cache.held ≤ max_tokens → Evicts n d
roomy n d c l = record {
  cache = d.clerk.cache;
  gone = [];
  is = few-stay d (omega (arith, c, l)) ∙ ap (λ os. record d { outs = os }) (sym (no-more d.outs));
  leaves = same-leaves d.clerk.cache;
  part = sym (all-stay d.clerk.cache.held);
  old = tt;
  room = l;
  few = omega arith;
  none = λ z. refl;
}
