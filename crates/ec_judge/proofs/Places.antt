-- The index of the starts of clerks.
use Rattle.std.proofs.Common.{◌≡◌, refl, sym, ap, subst, ◌∙◌, arith, ◌<◌, ◌+◌, ℕ, zero, suc, Bool, true, false, not, ◌==◌, ◌&&◌, cond, List, [], ◌∷◌, ◌++◌, length, get_or, Option, Some, None}
use Rattle.std.specs.Prelude.{MatchOption}
use Rattle.std.specs.List.{find, position_or_len}
use Rattle.std.proofs.Math.ListN.{set}
use Rattle.std.proofs.lemmas.Bool.{and_parts, eqb-true, cond-true, cond-false}
use Rattle.std.proofs.lemmas.Bool.Decides.{nat_tests}
use Rattle.std.proofs.lemmas.List.{length_push, length-set}
use Rattle.ec_history.specs.History.{same_start}
use Rattle.ec_judge.specs.declared.carried.Start.{Start}
use Rattle.ec_judge.specs.Index.{place, IsStartIndex, SamePlaces}

-- One start more, where none of those before it passes, or one does.

behind-none : (q : Start → Bool) (ss : List Start) (s : Start) → position_or_len q ss ≡ length ss → position_or_len q (ss ++ s ∷ []) ≡ cond (q s) (length ss) (length ss + 1)
behind-none q [] s e = go (q s)
  where
    go : (b : Bool) → cond {A = ℕ} (not b) 1 0 ≡ cond b 0 1
    go true = refl
    go false = refl
behind-none q (t ∷ ss) s e = go (q t) (behind-none q ss s) e
  where
    more : (b : Bool) (n : ℕ) → 1 + cond b n (n + 1) ≡ cond b (1 + n) (1 + n + 1)
    more true n = refl
    more false n = omega arith

    go : (b : Bool) → (position_or_len q ss ≡ length ss → position_or_len q (ss ++ s ∷ []) ≡ cond (q s) (length ss) (length ss + 1)) → cond (not b) (1 + position_or_len q ss) 0 ≡ length (t ∷ ss)
        → cond (not b) (1 + position_or_len q (ss ++ s ∷ [])) 0 ≡ cond (q s) (length (t ∷ ss)) (length (t ∷ ss) + 1)
    go true rec e = absurd (omega (arith, e))
    go false rec e = ap (λ n. 1 + n) (rec (omega (arith, e))) ∙ more (q s) (length ss) ∙ ap (λ n. cond (q s) n (n + 1)) (one (length ss))
      where
        one : (n : ℕ) → 1 + n ≡ suc n
        one n = omega arith

behind-found : (q : Start → Bool) (ss : List Start) (s : Start) → position_or_len q ss < length ss → position_or_len q (ss ++ s ∷ []) ≡ position_or_len q ss
behind-found q [] s l = absurd (omega (arith, l))
behind-found q (t ∷ ss) s l = go (q t) (behind-found q ss s) l
  where
    go : (b : Bool) → (position_or_len q ss < length ss → position_or_len q (ss ++ s ∷ []) ≡ position_or_len q ss) → cond (not b) (1 + position_or_len q ss) 0 < length (t ∷ ss) → cond (not b) (1 + position_or_len q (ss ++ s ∷ [])) 0 ≡ cond (not b) (1 + position_or_len q ss) 0
    go true rec l = refl
    go false rec l = ap (λ n. 1 + n) (rec (omega (arith, l)))

-- One start is changed.

place-set : (q : Start → Bool) (ss : List Start) (i : ℕ) (s : Start) → q s ≡ q (get_or ss i s) → position_or_len q (set ss i s) ≡ position_or_len q ss
place-set q [] i s e = refl
place-set q (x ∷ ss) zero s e = ap (λ b. cond (not b) (1 + position_or_len q ss) 0) e
place-set q (x ∷ ss) (suc i) s e = ap (λ n. cond (not (q x)) (1 + n) 0) (place-set q ss i s e)

pub same-places : (ss : List Start) (i : ℕ) (s old : Start) → old ≡ get_or ss i s → s.clerk ≡ old.clerk → s.boot ≡ old.boot → SamePlaces ss (set ss i s)
same-places ss i s old is sc sb = record {
  count = length-set ss i s;
  places = λ c b. place-set (λ t. same_start c b t.clerk t.boot) ss i s (ap (λ x. (c == x) && (b == s.boot)) sc ∙ ap (λ x. (c == old.clerk) && (b == x)) sb ∙ ap (λ (t : Start). same_start c b t.clerk t.boot) is);
}

-- What the index knows.

abbrev Knows : List Start → ℕ → ℕ → Option ℕ → Type 0
Knows ss c b x = MatchOption x (place c b ss ≡ length ss) (λ i. (i ≡ place c b ss) × (i < length ss))

pub index-empty : (known : ℕ → ℕ → Option ℕ) → ((c b : ℕ) → known c b ≡ None) → IsStartIndex known []
index-empty known e = λ c b. subst (Knows [] c b) (sym (e c b)) refl

pub index-found : (known : ℕ → ℕ → Option ℕ) (ss : List Start) → IsStartIndex known ss → (c b i : ℕ) → known c b ≡ Some i → (i ≡ place c b ss) × (i < length ss)
index-found known ss h c b i e = subst (Knows ss c b) e (h c b)

pub index-none : (known : ℕ → ℕ → Option ℕ) (ss : List Start) → IsStartIndex known ss → (c b : ℕ) → known c b ≡ None → place c b ss ≡ length ss
index-none known ss h c b e = subst (Knows ss c b) e (h c b)

pub index-kept : (old new : ℕ → ℕ → Option ℕ) (ss : List Start) → IsStartIndex old ss → ((c b : ℕ) → new c b ≡ old c b) → IsStartIndex new ss
index-kept old new ss h e = λ c b. subst (Knows ss c b) (sym (e c b)) (h c b)

pub index-same : (known : ℕ → ℕ → Option ℕ) (old new : List Start) → IsStartIndex known old → SamePlaces old new → IsStartIndex known new
index-same known old new h same = λ c b. go c b (known c b) (h c b)
  where
    go : (c b : ℕ) (x : Option ℕ) → Knows old c b x → Knows new c b x
    go c b None k = same.places c b ∙ k ∙ sym same.count
    go c b (Some i) k = (k.0 ∙ sym (same.places c b), subst (λ n. i < n) (sym same.count) k.1)

-- one start more
module _ (known new : ℕ → ℕ → Option ℕ) (ss : List Start) (h : IsStartIndex known ss) (d f at : ℕ) (s : Start) (none : known d f ≡ None) (at-is : at ≡ length ss) (sc : s.clerk ≡ d) (sb : s.boot ≡ f) where
  own : (c b : ℕ) → same_start c b s.clerk s.boot ≡ ((d == c) && (f == b))
  own c b = ap (λ x. (c == x) && (b == s.boot)) sc ∙ ap (λ x. (c == d) && (b == x)) sb ∙ ap (λ x. x && (b == f)) (flip c d) ∙ ap (λ x. (d == c) && x) (flip b f)
    where
      flip : (x y : ℕ) → (x == y) ≡ (y == x)
      flip x y = grind (arith, nat_tests)

  pub place-new : place d f (ss ++ s ∷ []) ≡ at
  place-new =
      behind-none (λ t. same_start d f t.clerk t.boot) ss s (index-none known ss h d f none)
      ∙ cond-true (same_start d f s.clerk s.boot) (length ss) (length ss + 1) (own d f ∙ ap (λ x. x && (f == f)) (itself d) ∙ itself f)
      ∙ sym at-is
    where
      itself : (x : ℕ) → (x == x) ≡ true
      itself x = grind (arith, nat_tests)

  pub within-new : at < length (ss ++ s ∷ [])
  within-new = let more = length_push ss s in omega (arith, more, at-is)

  pub index-push : ((c b : ℕ) → new c b ≡ cond ((d == c) && (f == b)) (Some at) (known c b)) → IsStartIndex new (ss ++ s ∷ [])
  index-push is = λ c b. subst (Knows (ss ++ s ∷ []) c b) (sym (is c b)) (go c b ((d == c) && (f == b)) refl (known c b) (h c b))
    where
      go : (c b : ℕ) (m : Bool) → ((d == c) && (f == b)) ≡ m → (x : Option ℕ) → Knows ss c b x → Knows (ss ++ s ∷ []) c b (cond m (Some at) x)
      go c b true e x k =
          let parts = and_parts (d == c) (f == b) e in
          (sym (ap (λ y. place y b (ss ++ s ∷ [])) (sym (eqb-true d c parts.0)) ∙ ap (λ y. place d y (ss ++ s ∷ [])) (sym (eqb-true f b parts.1)) ∙ place-new), within-new)
      go c b false e None k = behind-none (λ t. same_start c b t.clerk t.boot) ss s k ∙ cond-false (same_start c b s.clerk s.boot) (length ss) (length ss + 1) (own c b ∙ e) ∙ sym (length_push ss s)
      go c b false e (Some i) k =
          let more = length_push ss s in
          let low = k.1 in
          (k.0 ∙ sym (behind-found (λ t. same_start c b t.clerk t.boot) ss s (subst (λ n. n < length ss) k.0 k.1)), omega (arith, more, low))

-- none is found where the index knows none
pub find-none : (q : Start → Bool) (ss : List Start) → position_or_len q ss ≡ length ss → find q ss ≡ None
find-none q [] e = refl
find-none q (t ∷ ss) e = go (q t) (find-none q ss) e
  where
    go : (b : Bool) → (position_or_len q ss ≡ length ss → find q ss ≡ None) → cond (not b) (1 + position_or_len q ss) 0 ≡ length (t ∷ ss) → cond b (Some t) (find q ss) ≡ None
    go true rec e = absurd (omega (arith, e))
    go false rec e = rec (omega (arith, e))
