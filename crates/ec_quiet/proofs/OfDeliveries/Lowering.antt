-- What lowering a token leaves of a cache.
use Rattle.std.proofs.Common.{◌≡◌, refl, sym, ap, ◌∙◌, arith, ◌≤◌, ℕ, suc, Bool, true, false, not, cond, [], ◌∷◌, length}
use Rattle.std.specs.Prelude.{Option, None, Some, ◌==◌, max}
use Rattle.std.specs.Ordering.{nat_cmp, eq_by_cmp}
use Rattle.std.specs.Cmp.{nat_cmp_total, unsigned_ties}
use Rattle.std.specs.FinMap.Entries.{find-put}
use Rattle.std.proofs.lemmas.Bool.{eq-eqb, eqb-true}
use Rattle.ec_base.specs.SortedLaws.{find-without}
use Rattle.ec_base.specs.Tables.{Table, at, or_else, without}
use Rattle.ec_base.specs.Holds.{clash, is_free, is_write, weaker}
use Rattle.ec_base.specs.declared.ids.Hold.{Hold}
use Rattle.ec_base.specs.declared.ids.Hold.TheVariants.{Free, Read, Write}
use Rattle.ec_sessions.specs.OfRecall.Due.{recall_to}
use Rattle.ec_cache.specs.Cache as cache
use Rattle.ec_cache.specs.Cache.{last}
use Rattle.ec_cache.specs.declared.state.CacheState.{CacheState}
use Rattle.ec_cache.specs.declared.state.Held.{Held}
use Rattle.ec_quiet.specs.Facts.{token_of}
use Rattle.ec_quiet.specs.Phases.{lowered_to}
use Rattle.ec_quiet.proofs.Taking.{few-left}

abbrev lower-one : Hold → Held → Held
lower-one to h = record h { hold = weaker to h.hold }

abbrev lower-some : Hold → Option Held → Option Held
lower-some to None = None
lower-some to (Some h) = Some (lower-one to h)

-- the object's token is lowered, and no other
pub at-lowered : (x : ℕ) (to : Hold) (es : Table Held) (y : ℕ) → at y (cache.lowered x to es) ≡ cond (y == x) (lower-some to (at y es)) (at y es)
at-lowered x to [] y = nothing (y == x)
  where
    nothing : (b : Bool) → ◌≡◌ {A = Option Held} None (cond b None None)
    nothing true = refl
    nothing false = refl
at-lowered x to (e ∷ es) y = go (e.0 == x) refl (eq_by_cmp nat_cmp y e.0) refl (at-lowered x to es y)
  where
    head-same : (y == e.0) ≡ true → (e.0 == x) ≡ true → (y == x) ≡ true
    head-same p q = ap (λ z. z == x) (eqb-true y e.0 p) ∙ q

    head-other : (y == e.0) ≡ true → (e.0 == x) ≡ false → (y == x) ≡ false
    head-other p q = ap (λ z. z == x) (eqb-true y e.0 p) ∙ q

    tied : {b : Bool} → eq_by_cmp nat_cmp y e.0 ≡ b → (y == e.0) ≡ b
    tied p = unsigned_ties y e.0 ∙ p

    low : ℕ × Held
    low = (e.0, lower-one to e.1)

    go : (a : Bool) → (e.0 == x) ≡ a → (b : Bool) → eq_by_cmp nat_cmp y e.0 ≡ b → at y (cache.lowered x to es) ≡ cond (y == x) (lower-some to (at y es)) (at y es)
        → at y (cond a low e ∷ cache.lowered x to es) ≡ cond (y == x) (lower-some to (cond b (Some e.1) (at y es))) (cond b (Some e.1) (at y es))
    go true q true p r = ap (λ z. cond z (Some (lower-one to e.1)) (at y (cache.lowered x to es))) p ∙ sym (ap (λ z. cond z (Some (lower-one to e.1)) (Some e.1)) (head-same (tied p) q))
    go true q false p r = ap (λ z. cond z (Some (lower-one to e.1)) (at y (cache.lowered x to es))) p ∙ r
    go false q true p r = ap (λ z. cond z (Some e.1) (at y (cache.lowered x to es))) p ∙ sym (ap (λ z. cond z (Some (lower-one to e.1)) (Some e.1)) (head-other (tied p) q))
    go false q false p r = ap (λ z. cond z (Some e.1) (at y (cache.lowered x to es))) p ∙ r

pub lowered-length : (x : ℕ) (to : Hold) (es : Table Held) → length (cache.lowered x to es) ≡ length es
lowered-length x to [] = refl
lowered-length x to (e ∷ es) = ap suc (lowered-length x to es)

-- a token that clashes goes down to just what it's recalled to
pub goes-down : (h g : Hold) → clash g h ≡ true → weaker (recall_to h) g ≡ recall_to h
goes-down Free Free e = absurd (grind (arith, e))
goes-down Free Read e = absurd (grind (arith, e))
goes-down Free Write e = absurd (grind (arith, e))
goes-down Read Free e = absurd (grind (arith, e))
goes-down Read Read e = absurd (grind (arith, e))
goes-down Read Write e = refl
goes-down Write Free e = absurd (grind (arith, e))
goes-down Write Read e = refl
goes-down Write Write e = refl

pub never-write : (h : Hold) → is_write (recall_to h) ≡ false
never-write Free = refl
never-write Read = refl
never-write Write = refl

-- The recalled token is lowered, and its mark goes.

module _ (x n : ℕ) (to : Hold) (k : CacheState) (hd : Held) (there : at x k.held ≡ Some hd) (number : hd.number ≡ n) (known : last x k ≡ n) (down : weaker to hd.hold ≡ to) where
  abbrev pub lowered-cache : CacheState
  lowered-cache = cache.passed x n (cache.lower x to k)

  pub last-same : (y : ℕ) → last y lowered-cache ≡ last y k
  last-same y = ap (or_else 0) (find-put nat_cmp nat_cmp_total y x (max n (last x k)) k.lasts ∙ ap (λ b. cond b (Some (max n (last x k))) (at y k.lasts)) (sym (unsigned_ties y x))) ∙ go (y == x) refl
    where
      same-max : max n (last x k) ≡ last x k
      same-max = ap (max n) known ∙ omega arith ∙ sym known

      go : (b : Bool) → (y == x) ≡ b → or_else 0 (cond b (Some (max n (last x k))) (at y k.lasts)) ≡ last y k
      go true e = same-max ∙ sym (ap (λ z. last z k) (eqb-true y x e))
      go false e = refl

  pub other-held : (y : ℕ) → (y == x) ≡ false → at y lowered-cache.held ≡ at y k.held
  other-held y e = go (is_free to)
    where
      turned : (y == x) ≡ false → (x == y) ≡ false
      turned e = grind (arith, e)

      go : (b : Bool) → at y (cond b (without x k.held) (cache.lowered x to k.held)) ≡ at y k.held
      go true = find-without nat_cmp nat_cmp_total y x k.held ∙ ap (λ b. cond b None (at y k.held)) (sym (unsigned_ties x y) ∙ turned e)
      go false = at-lowered x to k.held y ∙ ap (λ b. cond b (lower-some to (at y k.held)) (at y k.held)) e

  -- what is left of it
  pub own-held : token_of (at x lowered-cache.held) ≡ lowered_to to n
  own-held = go to down
    where
      gone : at x (without x k.held) ≡ None
      gone = find-without nat_cmp nat_cmp_total x x k.held ∙ ap (λ b. cond b None (at x k.held)) (sym (unsigned_ties x x) ∙ eq-eqb x x refl)

      low : (g : Hold) → at x (cache.lowered x g k.held) ≡ Some (lower-one g hd)
      low g = at-lowered x g k.held x ∙ ap (λ b. cond b (lower-some g (at x k.held)) (at x k.held)) (eq-eqb x x refl) ∙ ap (lower-some g) there

      go : (g : Hold) → weaker g hd.hold ≡ g → token_of (at x (cond (is_free g) (without x k.held) (cache.lowered x g k.held))) ≡ lowered_to g n
      go Free d = ap token_of gone
      go Read d = ap token_of (low Read) ∙ (λ i. Some (record { hold = d i; number = number i }))
      go Write d = ap token_of (low Write) ∙ (λ i. Some (record { hold = d i; number = number i }))

  pub own-number : (h : Held) → at x lowered-cache.held ≡ Some h → h.number ≡ n
  own-number h e = go to e
    where
      by : (g : Hold) → at x (cache.lowered x g k.held) ≡ Some h → h.number ≡ n
      by g e =
          let same : Some (lower-one g hd) ≡ Some h = sym (at-lowered x g k.held x ∙ ap (λ b. cond b (lower-some g (at x k.held)) (at x k.held)) (eq-eqb x x refl) ∙ ap (lower-some g) there) ∙ e in
          let one : lower-one g hd ≡ h = (cc) in
          sym (ap (λ z. z.number) one) ∙ number

      go : (g : Hold) → at x (cond (is_free g) (without x k.held) (cache.lowered x g k.held)) ≡ Some h → h.number ≡ n
      go Free e = let bad : None ≡ Some h = sym (find-without nat_cmp nat_cmp_total x x k.held ∙ ap (λ b. cond b None (at x k.held)) (sym (unsigned_ties x x) ∙ eq-eqb x x refl)) ∙ e in absurd (grind (arith, bad))
      go Read e = by Read e
      go Write e = by Write e

  pub numbers-kept : ((y : ℕ) (t : Held) → at y k.held ≡ Some t → t.number ≡ last y k) → (y : ℕ) (t : Held) → at y lowered-cache.held ≡ Some t → t.number ≡ last y lowered-cache
  numbers-kept old y t e = go (y == x) refl
    where
      go : (b : Bool) → (y == x) ≡ b → t.number ≡ last y lowered-cache
      go true q =
          let y-is : y ≡ x = eqb-true y x q in
          own-number t (ap (λ z. at z lowered-cache.held) (sym y-is) ∙ e) ∙ sym known ∙ ap (λ z. last z k) (sym y-is) ∙ sym (last-same y)
      go false q = old y t (sym (other-held y q) ∙ e) ∙ sym (last-same y)

  pub still-few : length lowered-cache.held ≤ length k.held
  still-few = go (is_free to)
    where
      go : (b : Bool) → length (cond b (without x k.held) (cache.lowered x to k.held)) ≤ length k.held
      go true = few-left {A = ℕ × Held} (λ z. not (eq_by_cmp nat_cmp x z.0)) k.held
      go false = omega (arith, lowered-length x to k.held)

  -- its mark goes
  pub unmarked : (g : Hold) → k.limits ≡ (x, g) ∷ [] → lowered-cache.limits ≡ []
  unmarked g e = ap (without x) e ∙ ap (λ b. cond (not b) ((x, g) ∷ []) []) (sym (unsigned_ties x x) ∙ eq-eqb x x refl)
