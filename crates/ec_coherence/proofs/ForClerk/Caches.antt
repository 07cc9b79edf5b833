-- What is found in a changed cache.
use Rattle.std.proofs.Common.{◌≡◌, refl, sym, ap, ◌∙◌, ℕ, Bool, true, false, not, cond, List, [], ◌∷◌}
use Rattle.std.specs.Prelude.{◌==◌, Option, None, Some, filter}
use Rattle.ec_base.specs.Tables.{Table, at, at_or, or_else, put}
use Rattle.ec_base.specs.declared.ids.Hold.{Hold}
use Rattle.ec_volume.specs.Update.{member}
use Rattle.ec_base.specs.Holds.{weaker}
use Rattle.ec_cache.specs.Cache as cache
use Rattle.ec_cache.specs.declared.state.Held.{Held}
use Rattle.ec_coherence.proofs.ForServer.Tables.{at-put}
use Rattle.ec_base.proofs.Numbers.{equal}
use Rattle.ec_coherence.proofs.ForClerk.CacheChange.{at-cons}

pub at-kept : {X : Type 0} (j : ℕ) (gone : List ℕ) (es : Table X) → at j (filter (λ e. not (member e.0 gone)) es) ≡ cond (member j gone) None (at j es)
at-kept {X} j gone [] = go (member j gone)
  where
    go : (b : Bool) → at {X = X} j [] ≡ cond b None (at {X = X} j [])
    go true = refl
    go false = refl
at-kept {X} j gone (e ∷ es) = go (member e.0 gone) (member j gone) (j == e.0) refl refl refl (at-kept j gone es) ∙ ap (cond (member j gone) None) (sym (at-cons j e es))
  where
    there : (j == e.0) ≡ true → member j gone ≡ member e.0 gone
    there p = ap (λ z. member z gone) (equal j e.0 p)

    go : (b c d : Bool) → member e.0 gone ≡ b → member j gone ≡ c → (j == e.0) ≡ d → at j (filter (λ e. not (member e.0 gone)) es) ≡ cond (member j gone) None (at j es) → at j (cond (not b) (e ∷ filter (λ e. not (member e.0 gone)) es) (filter (λ e. not (member e.0 gone)) es)) ≡ cond c None (cond d (Some e.1) (at j es))
    go true true d p q r ih = ih ∙ ap (λ z. cond z None (at j es)) q
    go true false true p q r ih = absurd (let a = there r in cc)
    go true false false p q r ih = ih ∙ ap (λ z. cond z None (at j es)) q
    go false true true p q r ih = absurd (let a = there r in cc)
    go false true false p q r ih = at-cons j e (filter (λ e. not (member e.0 gone)) es) ∙ ap (λ z. cond z (Some e.1) (at j (filter (λ e. not (member e.0 gone)) es))) r ∙ ih ∙ ap (λ z. cond z None (at j es)) q
    go false false true p q r ih = at-cons j e (filter (λ e. not (member e.0 gone)) es) ∙ ap (λ z. cond z (Some e.1) (at j (filter (λ e. not (member e.0 gone)) es))) r
    go false false false p q r ih = at-cons j e (filter (λ e. not (member e.0 gone)) es) ∙ ap (λ z. cond z (Some e.1) (at j (filter (λ e. not (member e.0 gone)) es))) r ∙ ih ∙ ap (λ z. cond z None (at j es)) q

-- the token without its number
abbrev pub bare : Option Held → Option Held
bare None = None
bare (Some d) = Some (record d { number = 0 })

pub at-numberless : (x : ℕ) (es : Table Held) → at x (cache.numberless es) ≡ bare (at x es)
at-numberless x [] = refl
at-numberless x (e ∷ es) = at-cons x (e.0, record (e.1) { number = 0 }) (cache.numberless es) ∙ ap (cond (x == e.0) (Some (record (e.1) { number = 0 }))) (at-numberless x es) ∙ go (x == e.0) ∙ ap bare (sym (at-cons x e es))
  where
    go : (b : Bool) → cond b (Some (record (e.1) { number = 0 })) (bare (at x es)) ≡ bare (cond b (Some e.1) (at x es))
    go true = refl
    go false = refl

-- the token with at most this mode
abbrev pub at_most : Hold → Option Held → Option Held
at_most to None = None
at_most to (Some d) = Some (record d { hold = weaker to d.hold })

pub at-lowered : (j x : ℕ) (to : Hold) (es : Table Held) → at j (cache.lowered x to es) ≡ cond (j == x) (at_most to (at j es)) (at j es)
at-lowered j x to [] = go (j == x)
  where
    go : (b : Bool) → None ≡ cond b (at_most to None) None
    go true = refl
    go false = refl
at-lowered j x to (e ∷ es) = go (e.0 == x) (j == x) (j == e.0) refl refl refl (at-lowered j x to es) ∙ ap (λ o. cond (j == x) (at_most to o) o) (sym (at-cons j e es))
  where
    there : (j == e.0) ≡ true → (j == x) ≡ (e.0 == x)
    there p = ap (λ z. z == x) (equal j e.0 p)

    go : (b c d : Bool) → (e.0 == x) ≡ b → (j == x) ≡ c → (j == e.0) ≡ d → at j (cache.lowered x to es) ≡ cond (j == x) (at_most to (at j es)) (at j es) → at j (cond b (e.0, record (e.1) { hold = weaker to (e.1).hold }) e ∷ cache.lowered x to es) ≡ cond c (at_most to (cond d (Some e.1) (at j es))) (cond d (Some e.1) (at j es))
    go true true true p q r ih = at-cons j (e.0, record (e.1) { hold = weaker to (e.1).hold }) (cache.lowered x to es) ∙ ap (λ z. cond z (Some (record (e.1) { hold = weaker to (e.1).hold })) (at j (cache.lowered x to es))) r
    go true false true p q r ih = absurd (let a = there r in cc)
    go true c false p q r ih = at-cons j (e.0, record (e.1) { hold = weaker to (e.1).hold }) (cache.lowered x to es) ∙ ap (λ z. cond z (Some (record (e.1) { hold = weaker to (e.1).hold })) (at j (cache.lowered x to es))) r
        ∙ ih ∙ ap (λ z. cond z (at_most to (at j es)) (at j es)) q
    go false true true p q r ih = absurd (let a = there r in cc)
    go false false true p q r ih = at-cons j e (cache.lowered x to es) ∙ ap (λ z. cond z (Some e.1) (at j (cache.lowered x to es))) r
    go false c false p q r ih = at-cons j e (cache.lowered x to es) ∙ ap (λ z. cond z (Some e.1) (at j (cache.lowered x to es))) r ∙ ih ∙ ap (λ z. cond z (at_most to (at j es)) (at j es)) q

-- the last number of an object whose number is put
pub last-put : (j x n : ℕ) (es : Table ℕ) → at_or 0 j (put x n es) ≡ cond (j == x) n (at_or 0 j es)
last-put j x n es = ap (or_else 0) (at-put j x n es) ∙ go (j == x)
  where
    go : (b : Bool) → or_else 0 (cond b (Some n) (at j es)) ≡ cond b n (at_or 0 j es)
    go true = refl
    go false = refl
