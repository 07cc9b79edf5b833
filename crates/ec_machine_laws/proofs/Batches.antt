-- Batches in their table.
use Rattle.std.proofs.Common.{◌≡◌, refl, sym, ap, subst, ◌∙◌, inl, inr, arith, ◌<◌, ◌≤◌, ℕ, T, Bool, true, false, not, ◌||◌, cond, [], ◌∷◌, Option, Some, None}
use Rattle.std.specs.Ordering.{nat_cmp, is_lt, is_eq, eq_by_cmp}
use Rattle.std.specs.Cmp.{nat_cmp_total}
use Rattle.std.specs.FinMap.{is_sorted}
use Rattle.std.specs.FinMap.Entries.{below_all, find-put, find-where_key}
use Rattle.std.specs.declared.cmp.Ordering.TheVariants.{Equal}
use Rattle.std.specs.List.{list_any, list_all}
use Rattle.std.proofs.lemmas.Bool.{cases_Bool}
use Rattle.std.proofs.lemmas.Bool.Decides.{nat_tests}
use Rattle.ec_base.specs.Tables.{Table, at, put, without}
use Rattle.ec_base.proofs.Bools.{or-right as or_r, first as left, right, or_first as or_l, on as holds, is-true}
use Rattle.ec_base.proofs.Numbers.{less}

pub same-key : (c b : ℕ) → eq_by_cmp nat_cmp c b ≡ true → c ≡ b
same-key c b h = grind (arith, nat_tests)

pub key-self : (b : ℕ) → eq_by_cmp nat_cmp b b ≡ true
key-self b = grind (arith, nat_tests)

pub other-key : (c b : ℕ) → (c ≡ b → ⊥) → eq_by_cmp nat_cmp c b ≡ false
other-key c b n = elim (cases_Bool (eq_by_cmp nat_cmp c b)) [ inl e ↦ absurd (n (same-key c b e)) | inr e ↦ e ]

tied-key : (c b : ℕ) → nat_cmp c b ≡ Equal → c ≡ b
tied-key c b h = same-key c b (ap is_eq h)

pub none-some : {A X : Type 0} (x : X) → ◌≡◌ {A = Option X} None (Some x) → A
none-some {X = X} x e = absurd (apart e)
  where
    apart : ◌≡◌ {A = Option X} None (Some x) → ⊥
    apart e = cc

module _ {X : Type 0} where
  pub at-put : (c b : ℕ) (x : X) (es : Table X) → at c (put b x es) ≡ cond (eq_by_cmp nat_cmp c b) (Some x) (at c es)
  at-put c b x es = find-put nat_cmp nat_cmp_total c b x es

  pub at-put_same : (b : ℕ) (x : X) (es : Table X) → at b (put b x es) ≡ Some x
  at-put_same b x es = at-put b b x es ∙ ap (λ t. cond t (Some x) (at b es)) (key-self b)

  pub at-put_other : (c b : ℕ) (x : X) (es : Table X) → (c ≡ b → ⊥) → at c (put b x es) ≡ at c es
  at-put_other c b x es n = at-put c b x es ∙ ap (λ t. cond t (Some x) (at c es)) (other-key c b n)

  at-without : (c b : ℕ) (es : Table X) → at c (without b es) ≡ cond (not (eq_by_cmp nat_cmp b c)) (at c es) None
  at-without c b es = find-where_key nat_cmp (λ k. not (eq_by_cmp nat_cmp b k)) c (λ k t. ap (λ j. not (eq_by_cmp nat_cmp b j)) (sym (tied-key c k t))) es

  pub at-without_same : (b : ℕ) (es : Table X) → at b (without b es) ≡ None
  at-without_same b es = at-without b b es ∙ ap (λ t. cond (not t) (at b es) None) (key-self b)

  pub at-without_other : (c b : ℕ) (es : Table X) → (b ≡ c → ⊥) → at c (without b es) ≡ at c es
  at-without_other c b es n = at-without c b es ∙ ap (λ t. cond (not t) (at c es) None) (other-key b c n)

  -- what is found stands above each key that is below all
  pub found-above : (m c : ℕ) (x : X) (es : Table X) → T (below_all nat_cmp m es) → at c es ≡ Some x → m < c
  found-above m c x [] s f = none-some x f
  found-above m c x (e ∷ es) s f = go (eq_by_cmp nat_cmp c e.0) refl f (found-above m c x es (right (is_lt (nat_cmp m e.0)) (below_all nat_cmp m es) s))
    where
      go : (t : Bool) → eq_by_cmp nat_cmp c e.0 ≡ t → cond t (Some e.1) (at c es) ≡ Some x → (at c es ≡ Some x → m < c) → m < c
      go true q f r = omega (arith, same-key c e.0 q, less m e.0 (is-true _ (left (is_lt (nat_cmp m e.0)) (below_all nat_cmp m es) s)))
      go false q f r = r f

  pub record Least (c : ℕ) (es : Table X) : Type 0 where
    pub key : ℕ
    pub value : X
    pub rest : Table X
    pub whole : es ≡ (key, value) ∷ rest
    pub here : at key es ≡ Some value
    pub below : key ≤ c

  -- the first key is the least
  pub least-found : (c : ℕ) (x : X) (es : Table X) → T (is_sorted nat_cmp es) → at c es ≡ Some x → Least c es
  least-found c x [] s f = none-some x f
  least-found c x (e ∷ es) s f = record {
    key = e.0;
    value = e.1;
    rest = es;
    whole = refl;
    here = ap (λ t. cond t (Some e.1) (at e.0 es)) (key-self e.0);
    below = go (eq_by_cmp nat_cmp c e.0) refl f;
  }
    where
      go : (t : Bool) → eq_by_cmp nat_cmp c e.0 ≡ t → cond t (Some e.1) (at c es) ≡ Some x → e.0 ≤ c
      go true q f = omega (arith, same-key c e.0 q)
      go false q f = omega (arith, found-above e.0 c x es (left (below_all nat_cmp e.0 es) (is_sorted nat_cmp es) s) f)

  -- a test of all values holds of each one found
  pub all-found : (q : X → Bool) (c : ℕ) (x : X) (es : Table X) → T (list_all (λ e. q e.1) es) → at c es ≡ Some x → T (q x)
  all-found q c x [] h f = none-some x f
  all-found q c x (e ∷ es) h f = go (eq_by_cmp nat_cmp c e.0) f (all-found q c x es (right (q e.1) (list_all (λ d. q d.1) es) h))
    where
      go : (t : Bool) → cond t (Some e.1) (at c es) ≡ Some x → (at c es ≡ Some x → T (q x)) → T (q x)
      go true f r =
          let same : e.1 ≡ x = cc in
          subst (λ y. T (q y)) same (left (q e.1) (list_all (λ d. q d.1) es) h)
      go false f r = r f

  -- a test of some pair holds of one that is found, and the other way round
  pub any-found : (p : ℕ × X → Bool) (c : ℕ) (x : X) (es : Table X) → at c es ≡ Some x → T (p (c, x)) → T (list_any p es)
  any-found p c x [] f t = none-some x f
  any-found p c x (e ∷ es) f t = go (eq_by_cmp nat_cmp c e.0) refl f (λ k. any-found p c x es k t)
    where
      go : (b : Bool) → eq_by_cmp nat_cmp c e.0 ≡ b → cond b (Some e.1) (at c es) ≡ Some x → (at c es ≡ Some x → T (list_any p es)) → T (p e || list_any p es)
      go true q f r =
          let same : x ≡ e.1 = cc in
          or_l (p e) (list_any p es) (subst (λ y. T (p (e.0, y))) same (subst (λ k. T (p (k, x))) (same-key c e.0 q) t))
      go false q f r = or_r (p e) (list_any p es) (r f)

  pub found-any : (p : ℕ × X → Bool) (es : Table X) → T (is_sorted nat_cmp es) → T (list_any p es) → (c : ℕ) × (x : X) × (at c es ≡ Some x) × T (p (c, x))
  found-any p [] s h = absurd h
  found-any p (e ∷ es) s h = go (p e) refl h (found-any p es (right (below_all nat_cmp e.0 es) (is_sorted nat_cmp es) s))
    where
      go : (b : Bool) → p e ≡ b → T (b || list_any p es) → (T (list_any p es) → (c : ℕ) × (x : X) × (at c es ≡ Some x) × T (p (c, x))) → (c : ℕ) × (x : X) × (at c (e ∷ es) ≡ Some x) × T (p (c, x))
      go true q h r = (e.0, e.1, ap (λ t. cond t (Some e.1) (at e.0 es)) (key-self e.0), holds q)
      go false q h r =
          let f : (c : ℕ) × (x : X) × (at c es ≡ Some x) × T (p (c, x)) = r h in
          let above : e.0 < f.0 = found-above e.0 f.0 f.1 es (left (below_all nat_cmp e.0 es) (is_sorted nat_cmp es) s) f.2 in
          (f.0, f.1, ap (λ t. cond t (Some e.1) (at f.0 es)) (other-key f.0 e.0 (λ i. absurd (omega (arith, i, above)))) ∙ f.2, f.3)
