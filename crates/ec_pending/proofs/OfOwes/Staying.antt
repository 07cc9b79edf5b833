-- Pairs that stay, where spans change.
use Rattle.std.proofs.Common.{◌≡◌, refl, sym, ap, subst, ◌∙◌, arith, ◌<◌, ◌≤◌, ◌+◌, ℕ, zero, suc, Bool, true, false, not, cond, List, [], ◌∷◌, ◌++◌, length, take, get_or, Option, Some, None}
use Rattle.std.specs.Prelude.{◌==◌, ◌&&◌, ◌||◌, is_some, nat_le, nat_lt}
use Rattle.std.specs.List.{filter}
use Rattle.std.proofs.lemmas.Bool.{eqb-true}
use Rattle.std.proofs.lemmas.Bool.Decides.{nat_tests}
use Rattle.ec_base.specs.Tables.{at, or_else, put}
use Rattle.ec_volume.specs.Update.{member}
use Rattle.ec_pending.specs.OfOwes.Owes.{Pairs, Spans, span, staying, AreIn, on_none, from_to, extended}
use Rattle.ec_pending.proofs.OfOwes.Ended.{point, AreEnded}
use Rattle.ec_order.proofs.OfObjmap.Entries.{at-put}
use Rattle.ec_base.proofs.Bools.{and-false}

and-true : (b : Bool) → b ≡ (b && true)
and-true true = refl
and-true false = refl

-- The pairs before a place, by spans that agree there.
module _ (old new : Spans) (keep : ℕ → Bool) where
  -- of those that stay, those stay that pass the test
  pub record Changed (o j : ℕ) : Type 0 where
    pub live : nat_le (span o new).0 j ≡ (nat_le (span o old).0 j && keep o)
    pub high : (span o new).0 ≤ j → j < (span o new).1

  module _ (end : ℕ) (changed : (o j : ℕ) → j < end → ((span o old).0 ≤ j → j < (span o old).1) → Changed o j) where
    pub staying-changed : (i : ℕ) (qs : Pairs) → i + length qs ≤ end → AreIn old i qs → staying new i qs ≡ filter (λ q. keep q.1) (staying old i qs)
    staying-changed i [] l h = refl
    staying-changed i (q ∷ qs) l h =
        ap (λ b. cond b (q ∷ staying new (suc i) qs) (staying new (suc i) qs)) ((changed q.1 i (omega (arith, l)) h.0).live)
        ∙ ap (λ r. cond (nat_le (span q.1 old).0 i && keep q.1) (q ∷ r) r) (staying-changed (suc i) qs (omega (arith, l)) h.1)
        ∙ go (nat_le (span q.1 old).0 i)
      where
        go : (a : Bool) → cond (a && keep q.1) (q ∷ filter (λ q. keep q.1) (staying old (suc i) qs)) (filter (λ q. keep q.1) (staying old (suc i) qs)) ≡ filter (λ q. keep q.1) (cond a (q ∷ staying old (suc i) qs) (staying old (suc i) qs))
        go true = refl
        go false = refl

    pub in-changed : (i : ℕ) (qs : Pairs) → i + length qs ≤ end → AreIn old i qs → AreIn new i qs
    in-changed i [] l h = tt
    in-changed i (q ∷ qs) l h = ((changed q.1 i (omega (arith, l)) h.0).high, in-changed (suc i) qs (omega (arith, l)) h.1)

filter-all : (qs : Pairs) → filter (λ q. true) qs ≡ qs
filter-all [] = refl
filter-all (q ∷ qs) = ap (λ l. q ∷ l) (filter-all qs)

pub staying-append : (spans : Spans) (i : ℕ) (qs rs : Pairs) → staying spans i (qs ++ rs) ≡ staying spans i qs ++ staying spans (i + length qs) rs
staying-append spans i [] rs = ap (λ n. staying spans n rs) (none i)
  where
    none : (i : ℕ) → i ≡ i + 0
    none i = omega arith
staying-append spans i (q ∷ qs) rs =
    ap (λ l. cond (nat_le (span q.1 spans).0 i) (q ∷ l) l) (staying-append spans (suc i) qs rs ∙ ap (λ n. staying spans (suc i) qs ++ staying spans n rs) (next i (length qs)))
    ∙ go (nat_le (span q.1 spans).0 i)
  where
    next : (i k : ℕ) → suc i + k ≡ i + suc k
    next i k = omega arith

    go : (b : Bool) → cond b (q ∷ (staying spans (suc i) qs ++ staying spans (i + length (q ∷ qs)) rs)) (staying spans (suc i) qs ++ staying spans (i + length (q ∷ qs)) rs) ≡ cond b (q ∷ staying spans (suc i) qs) (staying spans (suc i) qs) ++ staying spans (i + length (q ∷ qs)) rs
    go true = refl
    go false = refl

in-append : (spans : Spans) (i : ℕ) (qs : Pairs) (q : ℕ × ℕ) → AreIn spans i qs → ((span q.1 spans).0 ≤ i + length qs → i + length qs < (span q.1 spans).1) → AreIn spans i (qs ++ q ∷ [])
in-append spans i [] q h k = (subst (λ n. (span q.1 spans).0 ≤ n → n < (span q.1 spans).1) (none i) k, tt)
  where
    none : (i : ℕ) → i + 0 ≡ i
    none i = omega arith
in-append spans i (r ∷ qs) q h k = (h.0, in-append spans (suc i) qs q h.1 (subst (λ n. (span q.1 spans).0 ≤ n → n < (span q.1 spans).1) (next i (length qs)) k))
  where
    next : (i k : ℕ) → i + suc k ≡ suc i + k
    next i k = omega arith

-- One pair more at the end.
module _ (obj end : ℕ) (old new : Spans) (is : new ≡ put obj (extended (span obj old) end) old) where
  span-next : (o : ℕ) → span o new ≡ cond (o == obj) (extended (span obj old) end) (span o old)
  span-next o = ap (span o) is ∙ ap (or_else (from_to 0 0)) (at-put o obj (extended (span obj old) end) old) ∙ go (o == obj)
    where
      go : (b : Bool) → or_else (from_to 0 0) (cond b (Some (extended (span obj old) end)) (at o old)) ≡ cond b (extended (span obj old) end) (or_else (from_to 0 0) (at o old))
      go true = refl
      go false = refl

  own-live : (s : ℕ × ℕ) (j : ℕ) → j < end → (s.0 ≤ j → j < s.1) → nat_le (extended s end).0 j ≡ (nat_le s.0 j && true)
  own-live s j l h = go (nat_le s.1 s.0) (nat_lt end s.0) (nat_le s.0 j) refl refl refl
    where
      behind : nat_le end j ≡ false
      behind = grind (arith, nat_tests, l)

      early : (m n : ℕ) → nat_le m n ≡ true → m ≤ n
      early m n e = grind (arith, nat_tests)

      later : (m n : ℕ) → nat_lt m n ≡ true → m < n
      later m n e = grind (arith, nat_tests)

      go : (a b c : Bool) → nat_le s.1 s.0 ≡ a → nat_lt end s.0 ≡ b → nat_le s.0 j ≡ c → nat_le (cond (a || b) end s.0) j ≡ (c && true)
      go true b true p q r = let low = early s.0 j r in let high = h low in let up = early s.1 s.0 p in absurd (omega (arith, low, high, up))
      go true b false p q r = behind
      go false true true p q r = let low = early s.0 j r in let up = later end s.0 q in absurd (omega (arith, low, l, up))
      go false true false p q r = behind
      go false false true p q r = r
      go false false false p q r = r

  changed-next : (o j : ℕ) → j < end → ((span o old).0 ≤ j → j < (span o old).1) → Changed old new (λ o. true) o j
  changed-next o j l h = record { live = ap (λ (s : ℕ × ℕ). nat_le s.0 j) (span-next o) ∙ live (o == obj) refl; high = subst (λ (s : ℕ × ℕ). s.0 ≤ j → j < s.1) (sym (span-next o)) (high (o == obj)) }
    where
      live : (b : Bool) → (o == obj) ≡ b → nat_le (cond b (extended (span obj old) end) (span o old)).0 j ≡ (nat_le (span o old).0 j && true)
      live true e =
          let same : o ≡ obj = eqb-true o obj e in
          own-live (span obj old) j l (subst (λ k. (span k old).0 ≤ j → j < (span k old).1) same h) ∙ ap (λ k. nat_le (span k old).0 j && true) (sym same)
      live false e = and-true (nat_le (span o old).0 j)

      high : (b : Bool) → (cond b (extended (span obj old) end) (span o old)).0 ≤ j → j < (cond b (extended (span obj old) end) (span o old)).1
      high true t = omega (arith, l)
      high false t = h t

  own-next : span obj new ≡ extended (span obj old) end
  own-next = span-next obj ∙ ap (λ b. cond b (extended (span obj old) end) (span obj old)) (itself obj)
    where
      itself : (k : ℕ) → (k == k) ≡ true
      itself k = grind (arith, nat_tests)

  own-first : nat_le (span obj new).0 end ≡ true
  own-first = ap (λ (s : ℕ × ℕ). nat_le s.0 end) own-next ∙ go (nat_le (span obj old).1 (span obj old).0) (nat_lt end (span obj old).0) refl
    where
      itself : nat_le end end ≡ true
      itself = grind (arith, nat_tests)

      low : (n : ℕ) → nat_lt end n ≡ false → nat_le n end ≡ true
      low n e = grind (arith, nat_tests)

      go : (a b : Bool) → nat_lt end (span obj old).0 ≡ b → nat_le (cond (a || b) end (span obj old).0) end ≡ true
      go true b e = itself
      go false true e = itself
      go false false e = low (span obj old).0 e

  pub push-in : (qs : Pairs) → length qs ≤ end → AreIn old 0 qs → AreIn new 0 qs
  push-in qs l h = in-changed old new (λ o. true) end changed-next 0 qs (omega (arith, l)) h

  module _ (op : ℕ) (qs rs : Pairs) (at-end : end ≡ length qs) (more : rs ≡ qs ++ (op, obj) ∷ []) (h : AreIn old 0 qs) where
    pub push-more : AreIn new 0 rs
    push-more = subst (AreIn new 0) (sym more) (in-append new 0 qs (op, obj) (push-in qs (omega (arith, at-end)) h) (λ t. subst (λ (s : ℕ × ℕ). 0 + length qs < s.1) (sym own-next) (omega (arith, at-end))))

    pub push-view : staying new 0 rs ≡ staying old 0 qs ++ (op, obj) ∷ []
    push-view =
        ap (staying new 0) more
        ∙ staying-append new 0 qs ((op, obj) ∷ [])
        ∙ ap (λ l. l ++ staying new (0 + length qs) ((op, obj) ∷ [])) (staying-changed old new (λ o. true) end changed-next 0 qs (omega (arith, at-end)) h ∙ filter-all (staying old 0 qs))
        ∙ ap (λ b. staying old 0 qs ++ cond b ((op, obj) ∷ []) []) (ap (nat_le (span obj new).0) here ∙ own-first)
      where
        here : 0 + length qs ≡ end
        here = omega (arith, at-end)

-- The pairs on some objects are taken out.
module _ (objs : List ℕ) (end : ℕ) (old new : Spans) (is : AreEnded objs end old new) where
  changed-out : (o j : ℕ) → j < end → ((span o old).0 ≤ j → j < (span o old).1) → Changed old new (λ o. not (member o objs)) o j
  changed-out o j l h = record {
    live = ap (λ x. nat_le (or_else (from_to 0 0) x).0 j) (is o) ∙ live (member o objs) (at o old) h;
    high = subst (λ x. (or_else (from_to 0 0) x).0 ≤ j → j < (or_else (from_to 0 0) x).1) (sym (is o)) (high (member o objs) (at o old) h);
  }
    where
      behind : nat_le end j ≡ false
      behind = grind (arith, nat_tests, l)

      live : (m : Bool) (x : Option (ℕ × ℕ)) → ((or_else (from_to 0 0) x).0 ≤ j → j < (or_else (from_to 0 0) x).1) → nat_le (or_else (from_to 0 0) (cond (m && is_some x) (point end) x)).0 j ≡ (nat_le (or_else (from_to 0 0) x).0 j && not m)
      live true None k = let bad = k (omega arith) in absurd (omega (arith, bad))
      live true (Some s) k = behind ∙ and-false (nat_le s.0 j)
      live false None k = and-true (nat_le 0 j)
      live false (Some s) k = and-true (nat_le s.0 j)

      high : (m : Bool) (x : Option (ℕ × ℕ)) → ((or_else (from_to 0 0) x).0 ≤ j → j < (or_else (from_to 0 0) x).1) → (or_else (from_to 0 0) (cond (m && is_some x) (point end) x)).0 ≤ j → j < (or_else (from_to 0 0) (cond (m && is_some x) (point end) x)).1
      high true None k t = k t
      high true (Some s) k t = l
      high false None k t = k t
      high false (Some s) k t = k t

  module _ (qs : Pairs) (at-end : end ≡ length qs) (h : AreIn old 0 qs) where
    pub take-in : AreIn new 0 qs
    take-in = in-changed old new (λ o. not (member o objs)) end changed-out 0 qs (omega (arith, at-end)) h

    pub take-view : staying new 0 qs ≡ on_none objs (staying old 0 qs)
    take-view = staying-changed old new (λ o. not (member o objs)) end changed-out 0 qs (omega (arith, at-end)) h

-- none stays of none
pub none-stays : (spans : Spans) (qs now : Pairs) → (length qs == 0) ≡ true → staying spans 0 qs ≡ now → now ≡ []
none-stays spans [] now e is = sym is
none-stays spans (q ∷ qs) now e is = absurd (omega (arith, eqb-true (length (q ∷ qs)) 0 e))

-- The last pair goes, which doesn't stay.

pub trimmed-in : (spans : Spans) (i n : ℕ) (qs : Pairs) → AreIn spans i qs → AreIn spans i (take n qs)
trimmed-in spans i zero [] h = tt
trimmed-in spans i (suc n) [] h = tt
trimmed-in spans i zero (q ∷ qs) h = tt
trimmed-in spans i (suc n) (q ∷ qs) h = (h.0, trimmed-in spans (suc i) n qs h.1)

pub trimmed-same : (spans : Spans) (i n : ℕ) (qs : Pairs) (q : ℕ × ℕ) → n + 1 ≡ length qs → q ≡ get_or qs n q → nat_le (span q.1 spans).0 (i + n) ≡ false → staying spans i (take n qs) ≡ staying spans i qs
trimmed-same spans i n [] q l is e = absurd (omega (arith, l))
trimmed-same spans i zero (r ∷ []) q l is e = sym (ap (λ b. cond b (r ∷ []) []) (subst (λ (x : ℕ × ℕ). nat_le (span x.1 spans).0 i ≡ false) is (subst (λ k. nat_le (span q.1 spans).0 k ≡ false) (none i) e)))
  where
    none : (i : ℕ) → i + 0 ≡ i
    none i = omega arith
trimmed-same spans i zero (r ∷ s ∷ qs) q l is e = absurd (omega (arith, l))
trimmed-same spans i (suc n) (r ∷ qs) q l is e =
    ap (λ t. cond (nat_le (span r.1 spans).0 i) (r ∷ t) t) (trimmed-same spans (suc i) n qs q (omega (arith, l)) is (subst (λ k. nat_le (span q.1 spans).0 k ≡ false) (next i n) e))
  where
    next : (i n : ℕ) → i + suc n ≡ suc i + n
    next i n = omega arith

pub trimmed-count : (n : ℕ) (qs : Pairs) → n + 1 ≡ length qs → n ≡ length (take n qs)
trimmed-count n [] l = absurd (omega (arith, l))
trimmed-count zero (q ∷ qs) l = refl
trimmed-count (suc n) (q ∷ qs) l = ap suc (trimmed-count n qs (omega (arith, l)))
