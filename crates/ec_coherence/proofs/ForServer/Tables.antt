-- What is found in a changed table, and small facts on tests.
use Rattle.std.proofs.Common.{length, ◌≡◌, ◌≢◌, refl, sym, ap, subst, ◌∙◌, arith, ℕ, Bool, true, false, not, ◌&&◌, cond, T, ◌≤◌, ◌<◌, List, [], ◌∷◌}
use Rattle.std.specs.Prelude.{◌==◌, Option, None, Some, is_some}
use Rattle.std.specs.Ordering.{nat_cmp, eq_by_cmp}
use Rattle.std.specs.Cmp.{nat_cmp_total, eq_by_cmp_equiv, unsigned_ties}
use Rattle.std.specs.FinMap.Entries.{find-put}
use Rattle.ec_base.specs.SortedLaws.{find-without}
use Rattle.ec_base.specs.Tables.{Table, at, put, without}
use Rattle.ec_base.specs.declared.ids.Hold.{Hold}
use Rattle.ec_base.specs.declared.ids.Hold.TheVariants.{Free, Read, Write}
use Rattle.ec_history.specs.History.{Each}
use Rattle.ec_sessions.specs.declared.tokens.token.Token.{Token}
use Rattle.ec_base.specs.Holds.{rank, is_free, is_write, clash}
use Rattle.ec_sessions.specs.OfTokens.Tokens as tokens
use Rattle.ec_wire.specs.Messages.{is_held_mode}
use Rattle.ec_base.proofs.Numbers.{equal}

-- Tests.

pub differs : (j k : ℕ) → (j == k) ≡ false → j ≢ k
differs j k e p = absurd (grind arith)

pub differ : (j k : ℕ) → j ≢ k → (j == k) ≡ false
differ j k d = grind arith

pub fails : (b : Bool) → b ≡ false → T (not b)
fails b e = subst (λ c. T (not c)) (sym e) tt

-- a fact about s is one about each session that is s
pub by-session : (s t : ℕ) (P : ℕ → Type 0) → P s → ((t == s) ≡ false → P t) → P t
by-session s t P own other = go (t == s) refl
  where
    go : (b : Bool) → (t == s) ≡ b → P t
    go true e = subst P (sym (equal t s e)) own
    go false e = other e

-- Options.

pub same_some : {A : Type 0} {x y : A} → Some x ≡ Some y → x ≡ y
same_some {A} {x} {y} e = ap (λ o. elim o [ None ↦ x | Some z ↦ z ]) e

pub some-of : {A : Type 0} {o : Option A} {x : A} → o ≡ Some x → T (is_some o)
some-of e = subst (λ z. T (is_some z)) (sym e) tt

-- Lists.

pub each-map : {A : Type 0} (P Q : A → Type 0) (xs : List A) → ((x : A) → P x → Q x) → Each P xs → Each Q xs
each-map P Q [] f h = tt
each-map P Q (x ∷ xs) f h = (f x h.0, each-map P Q xs f h.1)

-- Maps by number.

tied : (j k : ℕ) → eq_by_cmp nat_cmp j k ≡ (j == k)
tied j k = sym (unsigned_ties j k)

pub at-put : {X : Type 0} (j k : ℕ) (x : X) (es : Table X) → at j (put k x es) ≡ cond (j == k) (Some x) (at j es)
at-put j k x es = find-put nat_cmp nat_cmp_total j k x es ∙ ap (λ b. cond b (Some x) (at j es)) (tied j k)

pub at-without : {X : Type 0} (j k : ℕ) (es : Table X) → at j (without k es) ≡ cond (j == k) None (at j es)
at-without j k es = find-without nat_cmp nat_cmp_total j k es ∙ ap (λ b. cond b None (at j es)) ((eq_by_cmp_equiv nat_cmp_total).symm k j ∙ tied j k)

-- Tokens.

module _ (ts : tokens.Tokens) (s : ℕ) where
  pub with-row : (r : tokens.Row) (t y : ℕ) → tokens.token (put s r ts) t y ≡ cond (t == s) (at y r) (tokens.token ts t y)
  with-row r t y = ap (λ o. at y (tokens.row_of o)) (at-put t s r ts) ∙ pull (t == s)
    where
      pull : (b : Bool) → at y (tokens.row_of (cond b (Some r) (at t ts))) ≡ cond b (at y r) (tokens.token ts t y)
      pull true = refl
      pull false = refl

  pub token-dropped : (t y : ℕ) → tokens.token (without s ts) t y ≡ cond (t == s) None (tokens.token ts t y)
  token-dropped t y = ap (λ o. at y (tokens.row_of o)) (at-without t s ts) ∙ pull (t == s)
    where
      pull : (b : Bool) → at y (tokens.row_of (cond b None (at t ts))) ≡ cond b None (tokens.token ts t y)
      pull true = refl
      pull false = refl

  -- an empty row goes
  pub set-row : (r : tokens.Row) (t y : ℕ) → tokens.token (tokens.with_row s r ts) t y ≡ cond (t == s) (at y r) (tokens.token ts t y)
  set-row r t y = go r (length r == 0) refl
    where
      go : (q : tokens.Row) (b : Bool) → (length q == 0) ≡ b → tokens.token (cond b (without s ts) (put s q ts)) t y ≡ cond (t == s) (at y q) (tokens.token ts t y)
      go [] true e = token-dropped t y
      go (x ∷ q) true e = let z = equal (length (x ∷ q)) 0 e in absurd (omega arith)
      go q false e = with-row q t y

  own-row : (y t : ℕ) (o : Option Token) (b : Bool) → cond (t == s) (cond b o (at y (tokens.row ts s))) (tokens.token ts t y) ≡ cond ((t == s) && b) o (tokens.token ts t y)
  own-row y t o b = go (t == s) b refl
    where
      go : (a b : Bool) → (t == s) ≡ a → cond a (cond b o (at y (tokens.row ts s))) (tokens.token ts t y) ≡ cond (a && b) o (tokens.token ts t y)
      go true true e = refl
      go true false e = ap (λ z. tokens.token ts z y) (sym (equal t s e))
      go false b e = refl

  pub token-granted : (x : ℕ) (h : Hold) (n t y : ℕ) → tokens.token (tokens.granted s x h n ts) t y ≡ cond ((t == s) && (y == x)) (Some (record { hold = h; number = n })) (tokens.token ts t y)
  token-granted x h n t y = with-row _ t y ∙ ap (λ o. cond (t == s) o (tokens.token ts t y)) (at-put y x (record { hold = h; number = n }) (tokens.row ts s)) ∙ own-row y t _ (y == x)

  pub token-lowered : (x : ℕ) (h : Hold) (n t y : ℕ)
      → tokens.token (tokens.lowered s x h n ts) t y ≡ cond ((t == s) && (y == x)) (cond (is_free h) None (Some (record { hold = h; number = n }))) (tokens.token ts t y)
  token-lowered x h n t y = go (is_free h)
    where
      go : (f : Bool) → tokens.token (tokens.with_row s (cond f (without x (tokens.row ts s)) (put x (record { hold = h; number = n }) (tokens.row ts s))) ts) t y
          ≡ cond ((t == s) && (y == x)) (cond f None (Some (record { hold = h; number = n }))) (tokens.token ts t y)
      go true = set-row _ t y ∙ ap (λ o. cond (t == s) o (tokens.token ts t y)) (at-without y x (tokens.row ts s)) ∙ own-row y t None (y == x)
      go false = set-row _ t y ∙ ap (λ o. cond (t == s) o (tokens.token ts t y)) (at-put y x (record { hold = h; number = n }) (tokens.row ts s)) ∙ own-row y t _ (y == x)

-- Modes.

pub held-mode : (h : Hold) → is_free h ≡ false → T (is_held_mode h)
held-mode Free e = absurd (grind arith)
held-mode Read e = tt
held-mode Write e = tt

pub clash-turn : (a b : Hold) → clash a b ≡ clash b a
clash-turn a b = grind arith

-- a lower mode conflicts with nothing new
pub clash-below : (a b c : Hold) → rank a ≤ rank b → T (not (clash b c)) → T (not (clash a c))
clash-below Free b c l h = subst (λ z. T (not z)) (sym (free c)) tt
  where
    free : (c : Hold) → clash Free c ≡ false
    free c = grind arith
clash-below Read Free c l h = absurd (omega arith)
clash-below Read Read c l h = h
clash-below Read Write Free l h = tt
clash-below Read Write Read l h = absurd h
clash-below Read Write Write l h = absurd h
clash-below Write Free c l h = absurd (omega arith)
clash-below Write Read c l h = absurd (omega arith)
clash-below Write Write c l h = h

-- who is below another mode isn't Write
pub not-write : (a b : Hold) → rank a < rank b → T (is_write a) → ⊥
not-write Free b l w = w
not-write Read b l w = w
not-write Write Free l w = absurd (omega arith)
not-write Write Read l w = absurd (omega arith)
not-write Write Write l w = absurd (omega arith)
