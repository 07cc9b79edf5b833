-- The holders of an object behind a change of one session's tokens.
use Rattle.std.proofs.Common.{◌≡◌, refl, sym, ap, ◌∙◌, arith, ◌≤◌, ℕ, suc, T, Bool, true, false, not, ◌==◌, ◌&&◌, cond, List, [], ◌∷◌, length, filter, Option, Some, None, Contains}
use Rattle.std.specs.Ordering.{nat_cmp, is_lt, eq_by_cmp}
use Rattle.std.specs.Cmp.{nat_cmp_total, unsigned_ties}
use Rattle.std.specs.FinMap.{find, put, is_sorted}
use Rattle.std.specs.FinMap.Entries.{below_all, by_order, find-put}
use Rattle.std.specs.declared.cmp.Ordering.{Ordering}
use Rattle.std.specs.declared.cmp.Ordering.TheVariants.{Less, Equal, Greater}
use Rattle.std.proofs.lemmas.Bool.{eqb-true}
use Rattle.std.proofs.lemmas.Bool.Decides.{nat_tests}
use Rattle.ec_base.specs.Holds.{is_free, clash}
use Rattle.ec_base.specs.Sorted.{without}
use Rattle.ec_base.specs.SortedLaws.{first, second, find-without}
use Rattle.ec_base.specs.declared.ids.Hold.{Hold}
use Rattle.ec_sessions.specs.OfTokens.Laws.{holder_has, sound_lowered}
use Rattle.ec_sessions.specs.OfTokens.Tokens.{Row, Tokens, Holder, row_of, row, token, mode, held_by, holders, is_conflict, conflicts, granted, fits_back, lowered_in, with_row, lowered}
use Rattle.ec_sessions.specs.OfTokens.SoundTokens.{IsSound}
use Rattle.ec_sessions.specs.declared.tokens.token.Token.{Token}
use Rattle.ec_base.proofs.Numbers.{same-self}
use Rattle.ec_base.proofs.Bools.{higher}

-- Keys.

ties : (j k : ℕ) → (j == k) ≡ true → nat_cmp j k ≡ Equal
ties j k e = grind (arith, nat_tests)

equals : (j k : ℕ) → nat_cmp j k ≡ Equal → (j == k) ≡ true
equals j k e = grind (arith, nat_tests)

apart : (j k : ℕ) → nat_cmp j k ≡ Greater → eq_by_cmp nat_cmp j k ≡ false
apart j k e = grind (arith, nat_tests)

apart-less : (j k : ℕ) → nat_cmp j k ≡ Less → eq_by_cmp nat_cmp j k ≡ false
apart-less j k e = grind (arith, nat_tests)

tied : (j k : ℕ) → nat_cmp j k ≡ Equal → eq_by_cmp nat_cmp j k ≡ true
tied j k e = grind (arith, nat_tests)

-- a key is not among higher ones
pub absent : {X : Type 0} (s m : ℕ) (es : List (ℕ × X)) → s ≤ m → T (below_all nat_cmp m es) → find nat_cmp s es ≡ None
absent s m [] l b = refl
absent s m (e ∷ es) l b =
    ap (λ t. cond t (Some e.1) (find nat_cmp s es)) (higher s m e.0 l (first (is_lt (nat_cmp m e.0)) (below_all nat_cmp m es) b))
    ∙ absent s m es l (second (is_lt (nat_cmp m e.0)) (below_all nat_cmp m es) b)

lower : (m k : ℕ) → nat_cmp m k ≡ Less → m ≤ k
lower m k e = grind (arith, nat_tests)

-- the session's row is not behind one of a higher session, and not behind its own
pub no-row : (s : ℕ) (e : ℕ × Row) (ts : Tokens) (y : ℕ) → T (is_sorted nat_cmp (e ∷ ts)) → nat_cmp s e.0 ≡ Less → token (e ∷ ts) s y ≡ None
no-row s e ts y sorted l =
    ap (λ o. find nat_cmp y (row_of o)) (
    ap (λ t. cond t (Some e.1) (find nat_cmp s ts)) (apart-less s e.0 l)
    ∙ absent s e.0 ts (lower s e.0 l) (first (below_all nat_cmp e.0 ts) (is_sorted nat_cmp ts) sorted)
    )

pub own-row : (s : ℕ) (e : ℕ × Row) (ts : Tokens) (y : ℕ) → nat_cmp s e.0 ≡ Equal → token (e ∷ ts) s y ≡ find nat_cmp y e.1
own-row s e ts y q = ap (λ t. find nat_cmp y (row_of (cond t (Some e.1) (find nat_cmp s ts)))) (tied s e.0 q)

pub later-row : (s : ℕ) (e : ℕ × Row) (ts : Tokens) (y : ℕ) → nat_cmp s e.0 ≡ Greater → token (e ∷ ts) s y ≡ token ts s y
later-row s e ts y q = ap (λ t. find nat_cmp y (row_of (cond t (Some e.1) (find nat_cmp s ts)))) (apart s e.0 q)

-- Rows.

pub found-put : {X : Type 0} (j k : ℕ) (x : X) (es : List (ℕ × X)) → find nat_cmp j (put nat_cmp k x es) ≡ cond (j == k) (Some x) (find nat_cmp j es)
found-put j k x es = find-put nat_cmp nat_cmp_total j k x es ∙ ap (λ b. cond b (Some x) (find nat_cmp j es)) (sym (unsigned_ties j k))

turned : (j k : ℕ) → eq_by_cmp nat_cmp k j ≡ (j == k)
turned j k = grind (arith, nat_tests)

pub found-without : {X : Type 0} (j k : ℕ) (es : List (ℕ × X)) → find nat_cmp j (without nat_cmp k es) ≡ cond (j == k) None (find nat_cmp j es)
found-without j k es = find-without nat_cmp nat_cmp_total j k es ∙ ap (λ b. cond b None (find nat_cmp j es)) (turned j k)

-- what a row has behind a token that is lowered
pub found-lowered : (x : ℕ) (to : Hold) (n : ℕ) (r : Row) (y : ℕ) → find nat_cmp y (lowered_in x to n r) ≡ cond (y == x) (cond (is_free to) None (Some (record { hold = to; number = n }))) (find nat_cmp y r)
found-lowered x to n r y = go (is_free to)
  where
    go : (b : Bool) → find nat_cmp y (cond b (without nat_cmp x r) (put nat_cmp x (record { hold = to; number = n }) r)) ≡ cond (y == x) (cond b None (Some (record { hold = to; number = n }))) (find nat_cmp y r)
    go true = found-without y x r
    go false = found-put y x (record { hold = to; number = n }) r

-- The other holders.

module _ (s : ℕ) (p : Holder → Bool) (off : (g : Holder) → (g.0 == s) ≡ true → p g ≡ false) where
  dropped : (r : ℕ) (o : Option Token) (more : List Holder) → (r == s) ≡ true → filter p (held_by r o more) ≡ filter p more
  dropped r None more e = refl
  dropped r (Some k) more e = ap (λ b. cond b ((r, k.hold, k.number) ∷ filter p more) (filter p more)) (off (r, k.hold, k.number) e)

  held-on : (r : ℕ) (o : Option Token) (xs ys : List Holder) → filter p xs ≡ filter p ys → filter p (held_by r o xs) ≡ filter p (held_by r o ys)
  held-on r None xs ys e = e
  held-on r (Some k) xs ys e = ap (λ zs. cond (p (r, k.hold, k.number)) ((r, k.hold, k.number) ∷ zs) zs) e

  backwards : (r : ℕ) → nat_cmp s r ≡ Equal → (r == s) ≡ true
  backwards r e = grind (arith, nat_tests)

  put-others : (new : Row) (ts : Tokens) (x : ℕ) → filter p (holders (put nat_cmp s new ts) x) ≡ filter p (holders ts x)
  put-others new [] x = dropped s (find nat_cmp x new) [] (same-self s)
  put-others new (e ∷ ts) x = go (nat_cmp s e.0) refl (put-others new ts x)
    where
      go : (o : Ordering) → nat_cmp s e.0 ≡ o → filter p (holders (put nat_cmp s new ts) x) ≡ filter p (holders ts x)
          → filter p (holders (by_order o ((s, new) ∷ e ∷ ts) ((e.0, new) ∷ ts) (e ∷ put nat_cmp s new ts)) x) ≡ filter p (holders (e ∷ ts) x)
      go Less q r = dropped s (find nat_cmp x new) (holders (e ∷ ts) x) (same-self s)
      go Equal q r = dropped e.0 (find nat_cmp x new) (holders ts x) (backwards e.0 q) ∙ sym (dropped e.0 (find nat_cmp x e.1) (holders ts x) (backwards e.0 q))
      go Greater q r = held-on e.0 (find nat_cmp x e.1) (holders (put nat_cmp s new ts) x) (holders ts x) r

  without-others : (ts : Tokens) (x : ℕ) → filter p (holders (without nat_cmp s ts) x) ≡ filter p (holders ts x)
  without-others [] x = refl
  without-others (e ∷ ts) x = go (eq_by_cmp nat_cmp s e.0) refl (without-others ts x)
    where
      same : eq_by_cmp nat_cmp s e.0 ≡ true → (e.0 == s) ≡ true
      same q = grind (arith, nat_tests, q)

      go : (b : Bool) → eq_by_cmp nat_cmp s e.0 ≡ b → filter p (holders (without nat_cmp s ts) x) ≡ filter p (holders ts x)
          → filter p (holders (cond (not b) (e ∷ without nat_cmp s ts) (without nat_cmp s ts)) x) ≡ filter p (holders (e ∷ ts) x)
      go true q r = r ∙ sym (dropped e.0 (find nat_cmp x e.1) (holders ts x) (same q))
      go false q r = held-on e.0 (find nat_cmp x e.1) (holders (without nat_cmp s ts) x) (holders ts x) r

  with_row-others : (new : Row) (ts : Tokens) (x : ℕ) → filter p (holders (with_row s new ts) x) ≡ filter p (holders ts x)
  with_row-others new ts x = go (length new == 0)
    where
      go : (b : Bool) → filter p (holders (cond b (without nat_cmp s ts) (put nat_cmp s new ts)) x) ≡ filter p (holders ts x)
      go true = without-others ts x
      go false = put-others new ts x

  pub granted-others : (ts : Tokens) (x : ℕ) (h : Hold) (n y : ℕ) → filter p (holders (granted s x h n ts) y) ≡ filter p (holders ts y)
  granted-others ts x h n y = put-others (put nat_cmp x (record { hold = h; number = n }) (row ts s)) ts y

  pub lowered-others : (ts : Tokens) (x : ℕ) (to : Hold) (n y : ℕ) → filter p (holders (lowered s x to n ts) y) ≡ filter p (holders ts y)
  lowered-others ts x to n y = with_row-others (lowered_in x to n (row ts s)) ts y

pub not-own : (s : ℕ) (g : Holder) → (g.0 == s) ≡ true → not (g.0 == s) ≡ false
not-own s g e = ap not e

pub no-conflict : (s : ℕ) (h : Hold) (g : Holder) → (g.0 == s) ≡ true → is_conflict s h g ≡ false
no-conflict s h g e = ap (λ b. not b && clash g.1 h) e

-- Other objects.

put-elsewhere : (s : ℕ) (new : Row) (ts : Tokens) (y : ℕ) → T (is_sorted nat_cmp ts) → find nat_cmp y new ≡ token ts s y → holders (put nat_cmp s new ts) y ≡ holders ts y
put-elsewhere s new [] y sorted e = ap (λ o. held_by s o []) e
put-elsewhere s new (r ∷ ts) y sorted e = go (nat_cmp s r.0) refl (put-elsewhere s new ts y (second (below_all nat_cmp r.0 ts) (is_sorted nat_cmp ts) sorted))
  where
    go : (o : Ordering) → nat_cmp s r.0 ≡ o → (find nat_cmp y new ≡ token ts s y → holders (put nat_cmp s new ts) y ≡ holders ts y)
        → holders (by_order o ((s, new) ∷ r ∷ ts) ((r.0, new) ∷ ts) (r ∷ put nat_cmp s new ts)) y ≡ holders (r ∷ ts) y
    go Less q more = ap (λ o. held_by s o (holders (r ∷ ts) y)) (e ∙ no-row s r ts y sorted q)
    go Equal q more = ap (λ o. held_by r.0 o (holders ts y)) (e ∙ own-row s r ts y q)
    go Greater q more = ap (held_by r.0 (find nat_cmp y r.1)) (more (e ∙ later-row s r ts y q))

without-elsewhere : (s : ℕ) (ts : Tokens) (y : ℕ) → T (is_sorted nat_cmp ts) → token ts s y ≡ None → holders (without nat_cmp s ts) y ≡ holders ts y
without-elsewhere s [] y sorted e = refl
without-elsewhere s (r ∷ ts) y sorted e = go (eq_by_cmp nat_cmp s r.0) refl (without-elsewhere s ts y (second (below_all nat_cmp r.0 ts) (is_sorted nat_cmp ts) sorted))
  where
    least : eq_by_cmp nat_cmp s r.0 ≡ true → s ≤ r.0
    least q = grind (arith, nat_tests, q)

    go : (b : Bool) → eq_by_cmp nat_cmp s r.0 ≡ b → (token ts s y ≡ None → holders (without nat_cmp s ts) y ≡ holders ts y) → holders (cond (not b) (r ∷ without nat_cmp s ts) (without nat_cmp s ts)) y ≡ holders (r ∷ ts) y
    go true q more =
        more (ap (λ o. find nat_cmp y (row_of o)) (absent s r.0 ts (least q) (first (below_all nat_cmp r.0 ts) (is_sorted nat_cmp ts) sorted)))
        ∙ ap (λ o. held_by r.0 o (holders ts y)) (sym (ap (λ t. find nat_cmp y (row_of (cond t (Some r.1) (find nat_cmp s ts)))) (sym q) ∙ e))
    go false q more = ap (held_by r.0 (find nat_cmp y r.1)) (more (sym (ap (λ t. find nat_cmp y (row_of (cond t (Some r.1) (find nat_cmp s ts)))) q) ∙ e))

none-left : (r : Row) → (length r == 0) ≡ true → r ≡ []
none-left [] e = refl
none-left (x ∷ r) e = absurd (grind (arith, e))

pub granted-elsewhere : (ts : Tokens) (s x : ℕ) (h : Hold) (n y : ℕ) → IsSound ts → (y == x) ≡ false → holders (granted s x h n ts) y ≡ holders ts y
granted-elsewhere ts s x h n y sound e =
    put-elsewhere s (put nat_cmp x (record { hold = h; number = n }) (row ts s)) ts y sound.rising
    (found-put y x (record { hold = h; number = n }) (row ts s) ∙ ap (λ b. cond b (Some (record { hold = h; number = n })) (token ts s y)) e)

pub lowered-elsewhere : (ts : Tokens) (s x : ℕ) (to : Hold) (n y : ℕ) → IsSound ts → (y == x) ≡ false → holders (lowered s x to n ts) y ≡ holders ts y
lowered-elsewhere ts s x to n y sound e = go (length (lowered_in x to n (row ts s)) == 0) refl
  where
    kept : find nat_cmp y (lowered_in x to n (row ts s)) ≡ token ts s y
    kept = found-lowered x to n (row ts s) y ∙ ap (λ b. cond b (cond (is_free to) None (Some (record { hold = to; number = n }))) (token ts s y)) e

    go : (b : Bool) → (length (lowered_in x to n (row ts s)) == 0) ≡ b → holders (cond b (without nat_cmp s ts) (put nat_cmp s (lowered_in x to n (row ts s)) ts)) y ≡ holders ts y
    go true q = without-elsewhere s ts y sound.rising (sym kept ∙ ap (find nat_cmp y) (none-left (lowered_in x to n (row ts s)) q))
    go false q = put-elsewhere s (lowered_in x to n (row ts s)) ts y sound.rising kept

-- The token itself.

pub row-of-found : (s : ℕ) (new : Row) (ts : Tokens) (y : ℕ) → token (with_row s new ts) s y ≡ find nat_cmp y new
row-of-found s new ts y = go (length new == 0) refl
  where
    go : (b : Bool) → (length new == 0) ≡ b → find nat_cmp y (row_of (find nat_cmp s (cond b (without nat_cmp s ts) (put nat_cmp s new ts)))) ≡ find nat_cmp y new
    go true q =
        ap (λ o. find nat_cmp y (row_of o)) (found-without s s ts ∙ ap (λ b. cond b None (find nat_cmp s ts)) (same-self s))
        ∙ sym (ap (find nat_cmp y) (none-left new q))
    go false q = ap (λ o. find nat_cmp y (row_of o)) (found-put s s new ts ∙ ap (λ b. cond b (Some new) (find nat_cmp s ts)) (same-self s))

pub token-lowered : (ts : Tokens) (s x : ℕ) (to : Hold) (n : ℕ) → token (lowered s x to n ts) s x ≡ cond (is_free to) None (Some (record { hold = to; number = n }))
token-lowered ts s x to n =
    row-of-found s (lowered_in x to n (row ts s)) ts x ∙ found-lowered x to n (row ts s) x
    ∙ ap (λ b. cond b (cond (is_free to) None (Some (record { hold = to; number = n }))) (token ts s x)) (same-self x)

-- What conflicts behind a token given back.

filter-same : (p q : Holder → Bool) (gs : List Holder) → ((g : Holder) → Contains gs g → p g ≡ q g) → filter p gs ≡ filter q gs
filter-same p q [] f = refl
filter-same p q (g ∷ gs) f =
    ap (λ b. cond b (g ∷ filter p gs) (filter p gs)) (f g (0, omega arith, refl))
    ∙ ap (λ zs. cond (q g) (g ∷ zs) zs) (filter-same p q gs (λ h c. f h (suc c.0, omega (arith, c.1), c.2)))

filter-both : (p q : Holder → Bool) (gs : List Holder) → filter (λ g. p g && q g) gs ≡ filter q (filter p gs)
filter-both p q [] = refl
filter-both p q (g ∷ gs) = go (p g) (filter-both p q gs)
  where
    go : (b : Bool) → filter (λ g. p g && q g) gs ≡ filter q (filter p gs) → cond (b && q g) (g ∷ filter (λ g. p g && q g) gs) (filter (λ g. p g && q g) gs) ≡ filter q (cond b (g ∷ filter p gs) (filter p gs))
    go true e = ap (λ zs. cond (q g) (g ∷ zs) zs) e
    go false e = e

off-and : (a b : Bool) → b ≡ false → (a && b) ≡ false
off-and true b e = e
off-and false b e = refl

on-and : (a b : Bool) → b ≡ true → a ≡ (a && b)
on-and true b e = sym e
on-and false b e = refl

pub conflicts-lowered : (ts : Tokens) (s t x n : ℕ) (to h : Hold) → IsSound ts → fits_back (token ts t x) n to ≡ true → clash to h ≡ false
    → conflicts (lowered t x to n ts) s x h ≡ filter (λ g. not (g.0 == t)) (conflicts ts s x h)
conflicts-lowered ts s t x n to h sound back calm =
    filter-same (is_conflict s h) (λ g. is_conflict s h g && not (g.0 == t)) (holders (lowered t x to n ts) x) (λ g c. go g c (g.0 == t) refl)
    ∙ lowered-others t (λ g. is_conflict s h g && not (g.0 == t)) (λ g e. off-and (is_conflict s h g) (not (g.0 == t)) (ap not e)) ts x to n x
    ∙ filter-both (is_conflict s h) (λ g. not (g.0 == t)) (holders ts x)
  where
    -- a token of the session has the mode given back
    own : (g : Holder) → Contains (holders (lowered t x to n ts) x) g → (g.0 == t) ≡ true → clash g.1 h ≡ false
    own g c e = free (is_free to) refl
      where
        is : cond {A = Option Token} (is_free to) None (Some (record { hold = to; number = n })) ≡ Some (record { hold = g.1; number = g.2 })
        is = sym (token-lowered ts t x to n) ∙ sym (ap (λ z. token (lowered t x to n ts) z x) (eqb-true g.0 t e)) ∙ holder_has (lowered t x to n ts) x g (sound_lowered ts t sound x to n back).rising c

        free : (b : Bool) → is_free to ≡ b → clash g.1 h ≡ false
        free true q = absurd (apart-none (sym (ap (λ b. cond {A = Option Token} b None (Some (record { hold = to; number = n }))) q) ∙ is))
          where
            apart-none : ◌≡◌ {A = Option Token} None (Some (record { hold = g.1; number = g.2 })) → ⊥
            apart-none e = cc
        free false q =
            let one : ◌≡◌ {A = Option Token} (Some (record { hold = to; number = n })) (Some (record { hold = g.1; number = g.2 })) = sym (ap (λ b. cond {A = Option Token} b None (Some (record { hold = to; number = n }))) q) ∙ is in
            sym (ap (λ o. clash (mode o) h) one) ∙ calm

    go : (g : Holder) → Contains (holders (lowered t x to n ts) x) g → (b : Bool) → (g.0 == t) ≡ b → is_conflict s h g ≡ (is_conflict s h g && not (g.0 == t))
    go g c true e =
        let none : is_conflict s h g ≡ false = off-and (not (g.0 == s)) (clash g.1 h) (own g c e) in
        none ∙ sym (off-and (is_conflict s h g) (not (g.0 == t)) (ap not e))
    go g c false e = on-and (is_conflict s h g) (not (g.0 == t)) (ap not e)
