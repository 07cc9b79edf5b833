-- Sums over lists.
use Rattle.std.proofs.Common.{◌≡◌, refl, sym, ap, ◌∙◌, subst, arith, inl, inr, ◌⊎◌, ◌+◌, ◌≤◌, ℕ, Bool, true, false, cond, not, T, List, [], ◌∷◌, length, Option, None, Some}
use Rattle.std.specs.Prelude.{◌==◌, ◌||◌, ◌&&◌}
use Rattle.std.specs.Ordering.{nat_cmp, is_eq, eq_by_cmp}
use Rattle.std.specs.declared.cmp.Ordering.{Ordering}
use Rattle.std.specs.declared.cmp.Ordering.TheVariants.{Less, Equal, Greater}
use Rattle.std.specs.Cmp.{nat_cmp_total}
use Rattle.std.specs.FinMap.{find, put, is_sorted}
use Rattle.std.specs.FinMap.Entries.{below_all, by_order}
use Rattle.std.proofs.lemmas.Bool.{eqb-true}
use Rattle.std.proofs.lemmas.Bool.Decides.{nat_tests}
use Rattle.ec_base.specs.Sorted.{without}
use Rattle.ec_base.specs.SortedLaws.{first, second, none_below, kept_below, below_first, below_tied}
use Rattle.ec_volume.specs.Update.{member}
use Rattle.ec_sessions.specs.OfTokens.Tokens.{Holder, Row, Tokens, held_by, holders, row, row_of, token, with_row}
use Rattle.ec_sessions.specs.declared.tokens.token.Token.{Token}
use Rattle.ec_quiet.specs.Measure.{sum}
use Rattle.ec_quiet.specs.Sums.{part_of, value_of}

module _ {A : Type 0} (f g : A → ℕ) where
  pub sum-same : ((x : A) → f x ≡ g x) → (xs : List A) → sum f xs ≡ sum g xs
  sum-same h [] = refl
  sum-same h (x ∷ xs) = omega (arith, h x, sum-same h xs)

  pub sum-le : ((x : A) → f x ≤ g x) → (xs : List A) → sum f xs ≤ sum g xs
  sum-le h [] = omega arith
  sum-le h (x ∷ xs) = omega (arith, h x, sum-le h xs)

module _ (f g : ℕ → ℕ) (h : (x : ℕ) → f x ≤ g x) (y d : ℕ) (less : f y + d ≤ g y) where
  pub sum-falls : (xs : List ℕ) → T (member y xs) → sum f xs + d ≤ sum g xs
  sum-falls [] m = absurd m
  sum-falls (x ∷ xs) m = go (y == x) refl m (sum-falls xs)
    where
      go : (b : Bool) → (y == x) ≡ b → T (b || member y xs) → (T (member y xs) → sum f xs + d ≤ sum g xs) → f x + sum f xs + d ≤ g x + sum g xs
      go true e m r = omega (arith, subst (λ z. f z + d ≤ g z) (eqb-true y x e) less, sum-le f g h xs)
      go false e m r = omega (arith, h x, r m)

-- Holders of tokens on an object: one row changes.

tied-to : (a b : ℕ) → nat_cmp a b ≡ Equal → a ≡ b
tied-to a b e = let t : eq_by_cmp nat_cmp a b ≡ true = ap is_eq e in grind (arith, nat_tests)

module _ (f : Holder → ℕ) (x : ℕ) where
  held-part : (s : ℕ) (o : Option Token) (more : List Holder) → sum f (held_by s o more) ≡ part_of f s o + sum f more
  held-part s None more = omega arith
  held-part s (Some t) more = refl

  pub put-part : (s : ℕ) (r : Row) (ts : Tokens) → T (is_sorted nat_cmp ts) → sum f (holders (put nat_cmp s r ts) x) + part_of f s (token ts s x) ≡ sum f (holders ts x) + part_of f s (find nat_cmp x r)
  put-part s r [] rising = omega (arith, held-part s (find nat_cmp x r) [])
  put-part s r (e ∷ es) rising = go (nat_cmp s e.0) refl (put-part s r es (second (below_all nat_cmp e.0 es) (is_sorted nat_cmp es) rising))
    where
      go : (o : Ordering) → nat_cmp s e.0 ≡ o → sum f (holders (put nat_cmp s r es) x) + part_of f s (token es s x) ≡ sum f (holders es x) + part_of f s (find nat_cmp x r)
          → sum f (holders (by_order o ((s, r) ∷ e ∷ es) ((e.0, r) ∷ es) (e ∷ put nat_cmp s r es)) x) + part_of f s (token (e ∷ es) s x) ≡ sum f (holders (e ∷ es) x) + part_of f s (find nat_cmp x r)
      go Less p h =
          let none : token (e ∷ es) s x ≡ None = ap (λ q. find nat_cmp x (row_of q)) (none_below nat_cmp s (e ∷ es) (below_first nat_cmp nat_cmp_total s e es p rising)) in
          omega (arith, held-part s (find nat_cmp x r) (holders (e ∷ es) x), ap (part_of f s) none)
      go Equal p h =
          let same : s ≡ e.0 = tied-to s e.0 p in
          let own : token (e ∷ es) s x ≡ find nat_cmp x e.1 = ap (λ q. find nat_cmp x (row_of (cond (is_eq q) (Some e.1) (find nat_cmp s es)))) p in
          omega (
            arith,
            held-part e.0 (find nat_cmp x r) (holders es x),
            held-part e.0 (find nat_cmp x e.1) (holders es x),
            ap (part_of f s) own,
            ap (λ z. part_of f z (find nat_cmp x e.1)) same,
            ap (λ z. part_of f z (find nat_cmp x r)) same,
          )
      go Greater p h =
          let later : token (e ∷ es) s x ≡ token es s x = ap (λ q. find nat_cmp x (row_of (cond (is_eq q) (Some e.1) (find nat_cmp s es)))) p in
          omega (arith, held-part e.0 (find nat_cmp x e.1) (holders (put nat_cmp s r es) x), held-part e.0 (find nat_cmp x e.1) (holders es x), ap (part_of f s) later, h)

  pub without-part : (s : ℕ) (ts : Tokens) → T (is_sorted nat_cmp ts) → sum f (holders (without nat_cmp s ts) x) + part_of f s (token ts s x) ≡ sum f (holders ts x)
  without-part s [] rising = refl
  without-part s (e ∷ es) rising = go (eq_by_cmp nat_cmp s e.0) refl (without-part s es (second (below_all nat_cmp e.0 es) (is_sorted nat_cmp es) rising))
    where
      go : (b : Bool) → eq_by_cmp nat_cmp s e.0 ≡ b → sum f (holders (without nat_cmp s es) x) + part_of f s (token es s x) ≡ sum f (holders es x)
          → sum f (holders (cond (not b) (e ∷ without nat_cmp s es) (without nat_cmp s es)) x) + part_of f s (find nat_cmp x (row_of (cond b (Some e.1) (find nat_cmp s es)))) ≡ sum f (holders (e ∷ es) x)
      go true p h =
          let same : s ≡ e.0 = grind (arith, nat_tests) in
          let kept : without nat_cmp s es ≡ es = kept_below nat_cmp s es (subst (λ z. T (below_all nat_cmp z es)) (sym same) (first (below_all nat_cmp e.0 es) (is_sorted nat_cmp es) rising)) in
          omega (arith, held-part e.0 (find nat_cmp x e.1) (holders es x), ap (λ l. sum f (holders l x)) kept, ap (λ z. part_of f z (find nat_cmp x e.1)) same)
      go false p h = omega (arith, held-part e.0 (find nat_cmp x e.1) (holders (without nat_cmp s es) x), held-part e.0 (find nat_cmp x e.1) (holders es x), h)

  -- the session's tokens become those of this row
  pub row-part : (s : ℕ) (r : Row) (ts : Tokens) → T (is_sorted nat_cmp ts) → sum f (holders (with_row s r ts) x) + part_of f s (token ts s x) ≡ sum f (holders ts x) + part_of f s (find nat_cmp x r)
  row-part s r ts rising = go r (length r == 0) refl
    where
      go : (r : Row) (b : Bool) → (length r == 0) ≡ b → sum f (holders (cond b (without nat_cmp s ts) (put nat_cmp s r ts)) x) + part_of f s (token ts s x) ≡ sum f (holders ts x) + part_of f s (find nat_cmp x r)
      go [] true p = omega (arith, without-part s ts rising)
      go (e ∷ es) true p = absurd (omega (arith, eqb-true (length (e ∷ es)) 0 p))
      go r false p = put-part s r ts rising

-- Tables: the value of one key changes.

module _ {X : Type 0} (f : ℕ × X → ℕ) where
  pub put-value : (k : ℕ) (x : X) (es : List (ℕ × X)) → T (is_sorted nat_cmp es) → sum f (put nat_cmp k x es) + value_of f k (find nat_cmp k es) ≡ sum f es + f (k, x)
  put-value k x [] rising = omega arith
  put-value k x (e ∷ es) rising = go (nat_cmp k e.0) refl (put-value k x es (second (below_all nat_cmp e.0 es) (is_sorted nat_cmp es) rising))
    where
      go : (o : Ordering) → nat_cmp k e.0 ≡ o → sum f (put nat_cmp k x es) + value_of f k (find nat_cmp k es) ≡ sum f es + f (k, x)
          → sum f (by_order o ((k, x) ∷ e ∷ es) ((e.0, x) ∷ es) (e ∷ put nat_cmp k x es)) + value_of f k (find nat_cmp k (e ∷ es)) ≡ sum f (e ∷ es) + f (k, x)
      go Less p h = omega (arith, ap (value_of f k) (none_below nat_cmp k (e ∷ es) (below_first nat_cmp nat_cmp_total k e es p rising)))
      go Equal p h =
          let same : k ≡ e.0 = tied-to k e.0 p in
          omega (arith, ap (λ q. value_of f k (cond (is_eq q) (Some e.1) (find nat_cmp k es))) p, ap (λ z. f (z, e.1)) same, ap (λ z. f (z, x)) same)
      go Greater p h = omega (arith, ap (λ q. value_of f k (cond (is_eq q) (Some e.1) (find nat_cmp k es))) p, h)
