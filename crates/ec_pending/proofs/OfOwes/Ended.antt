-- Spans of objects, with some changed.
use Rattle.std.proofs.Common.{◌≡◌, refl, sym, ap, subst, ◌∙◌, ◌<◌, ◌≤◌, ℕ, T, Bool, true, false, cond, List, ◌∷◌, Option, Some, None}
use Rattle.std.specs.Prelude.{◌==◌, ◌&&◌, ◌||◌, is_some, OnSome, IfNone}
use Rattle.std.proofs.lemmas.Bool.{eqb-true}
use Rattle.ec_base.specs.Tables.{at, put}
use Rattle.ec_volume.specs.Update.{member}
use Rattle.ec_pending.specs.OfOwes.Owes.{Spans, span, from_to, HasAll}
use Rattle.ec_order.proofs.OfObjmap.Entries.{at-put}

-- one object more is reached
pub has-more : (spans : Spans) (objs rest : List ℕ) (obj : ℕ) (others all : ℕ × ℕ) → objs ≡ obj ∷ rest → ((i : ℕ) → (span obj spans).0 ≤ i → i < (span obj spans).1 → (all.0 ≤ i) × (i < all.1))
    → ((i : ℕ) → others.0 ≤ i → i < others.1 → (all.0 ≤ i) × (i < all.1)) → HasAll spans rest others → HasAll spans objs all
has-more spans objs rest obj others all split own more h = subst (λ l. HasAll spans l all) (sym split) (λ o i t low high. go o i (o == obj) refl t low high)
  where
    go : (o i : ℕ) (b : Bool) → (o == obj) ≡ b → T (b || member o rest) → (span o spans).0 ≤ i → i < (span o spans).1 → (all.0 ≤ i) × (i < all.1)
    go o i true e t low high =
        let same : o ≡ obj = eqb-true o obj e in
        own i (subst (λ k. (span k spans).0 ≤ i) same low) (subst (λ k. i < (span k spans).1) same high)
    go o i false e t low high = let r = h o i t low high in more i r.0 r.1

-- the empty span at a place
abbrev pub point : ℕ → Option (ℕ × ℕ)
point end = Some (from_to end end)

-- the spans of these objects end here
abbrev pub AreEnded : List ℕ → ℕ → Spans → Spans → Type 0
AreEnded objs end old new = (o : ℕ) → at o new ≡ cond (member o objs && is_some (at o old)) (point end) (at o old)

pub ended-more : (objs rest : List ℕ) (obj end : ℕ) (was : Option (ℕ × ℕ)) (old middle new : Spans) → objs ≡ obj ∷ rest → was ≡ at obj old → OnSome was (middle ≡ put obj (from_to end end) old) → IfNone was (middle ≡ old)
    → AreEnded rest end middle new → AreEnded objs end old new
ended-more objs rest obj end was old middle new split is some none h = subst (λ l. AreEnded l end old new) (sym split) (λ o. h o ∙ go o was is some none)
  where
    here : (o : ℕ) → at o middle ≡ cond (o == obj) (point end) (at o old) → is_some (at obj old) ≡ true
        → cond (member o rest && is_some (at o middle)) (point end) (at o middle) ≡ cond (((o == obj) || member o rest) && is_some (at o old)) (point end) (at o old)
    here o e there = ap (λ x. cond (member o rest && is_some x) (point end) x) e ∙ by (o == obj) (member o rest) refl
      where
        both : (m : Bool) → cond (m && true) (point end) (point end) ≡ point end
        both true = refl
        both false = refl

        by : (b m : Bool) → (o == obj) ≡ b → cond (m && is_some (cond b (point end) (at o old))) (point end) (cond b (point end) (at o old)) ≡ cond ((b || m) && is_some (at o old)) (point end) (at o old)
        by true m q = both m ∙ sym (ap (λ x. cond x (point end) (at o old)) (ap (λ k. is_some (at k old)) (eqb-true o obj q) ∙ there))
        by false m q = refl

    away : (o : ℕ) → at o middle ≡ at o old → is_some (at obj old) ≡ false
        → cond (member o rest && is_some (at o middle)) (point end) (at o middle) ≡ cond (((o == obj) || member o rest) && is_some (at o old)) (point end) (at o old)
    away o e gone = ap (λ x. cond (member o rest && is_some x) (point end) x) e ∙ by (o == obj) (member o rest) refl
      where
        both : (m : Bool) (x : Option (ℕ × ℕ)) → is_some x ≡ false → cond (m && is_some x) (point end) x ≡ cond (is_some x) (point end) x
        both true x q = refl
        both false x q = sym (ap (λ z. cond z (point end) x) q)

        by : (b m : Bool) → (o == obj) ≡ b → cond (m && is_some (at o old)) (point end) (at o old) ≡ cond ((b || m) && is_some (at o old)) (point end) (at o old)
        by true m q = both m (at o old) (ap (λ k. is_some (at k old)) (eqb-true o obj q) ∙ gone)
        by false m q = refl

    go : (o : ℕ) (x : Option (ℕ × ℕ)) → x ≡ at obj old → OnSome x (middle ≡ put obj (from_to end end) old) → IfNone x (middle ≡ old)
        → cond (member o rest && is_some (at o middle)) (point end) (at o middle) ≡ cond (((o == obj) || member o rest) && is_some (at o old)) (point end) (at o old)
    go o (Some x) e s n = here o (ap (at o) s ∙ at-put o obj (from_to end end) old) (ap is_some (sym e))
    go o None e s n = away o (ap (at o) n) (ap is_some (sym e))
