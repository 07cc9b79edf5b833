-- The pairs that are found between two places.
use Rattle.std.proofs.Common.{◌≡◌, ◌⊎◌, inl, inr, refl, sym, ap, subst, ◌∙◌, arith, ◌<◌, ◌≤◌, ◌+◌, ℕ, zero, suc, Bool, true, false, cond, List, [], ◌∷◌, ◌++◌, length, take, drop, get_or, append-nil}
use Rattle.std.specs.Prelude.{◌&&◌, nat_le, nat_lt}
use Rattle.std.proofs.lemmas.Bool.Decides.{nat_tests}
use Rattle.std.proofs.lemmas.List.{take_more, take_all, take-append-drop, length-take-le}
use Rattle.std.proofs.lemmas.List.Elements.{filter-append}
use Rattle.ec_volume.specs.Update.{member}
use Rattle.ec_pending.specs.OfOwes.Owes.{Pairs, Spans, span, staying, AreIn, HasAll, on_one}
use Rattle.ec_pending.proofs.OfOwes.Staying.{staying-append}
use Rattle.ec_base.proofs.Numbers.{early}
use Rattle.ec_base.proofs.Bools.{holds-true}

-- one pair more
pub staying-more : (spans : Spans) (qs : Pairs) (i : ℕ) (q : ℕ × ℕ) → i < length qs → q ≡ get_or qs i q → staying spans 0 (take (i + 1) qs) ≡ staying spans 0 (take i qs) ++ cond (nat_le (span q.1 spans).0 i) (q ∷ []) []
staying-more spans qs i q l is =
    ap (staying spans 0) (take_more qs i q l ∙ ap (λ z. take i qs ++ z ∷ []) (sym is))
    ∙ staying-append spans 0 (take i qs) (q ∷ [])
    ∙ ap (λ n. staying spans 0 (take i qs) ++ staying spans n (q ∷ [])) (none (length (take i qs)) ∙ length-take-le i qs (omega (arith, l)))
  where
    none : (n : ℕ) → 0 + n ≡ n
    none n = omega arith

pub all-next : (spans : Spans) (qs : Pairs) (i : ℕ) (q : ℕ × ℕ) (old new : Pairs) → i < length qs → q ≡ get_or qs i q → old ≡ staying spans 0 (take i qs) → (b : Bool) → nat_le (span q.1 spans).0 i ≡ b → new ≡ old ++ cond b (q ∷ []) [] → new ≡ staying spans 0 (take (i + 1) qs)
all-next spans qs i q old new l is h b e more = more ∙ ap (λ l. l ++ cond b (q ∷ []) []) h ∙ sym (staying-more spans qs i q l is ∙ ap (λ x. staying spans 0 (take i qs) ++ cond x (q ∷ []) []) e)

pub all-done : (spans : Spans) (qs : Pairs) (i : ℕ) (found : Pairs) → found ≡ staying spans 0 (take i qs) → length qs ≤ i → found ≡ staying spans 0 qs
all-done spans qs i found h l = h ∙ ap (staying spans 0) (take_all i qs l)

module _ (spans : Spans) (objs : List ℕ) (all : ℕ × ℕ) (has : HasAll spans objs all) where
  absent : (i : ℕ) (q : ℕ × ℕ) (rest : Pairs) → ((span q.1 spans).0 ≤ i → i < (span q.1 spans).1) → ((all.0 ≤ i) → (i < all.1) → ⊥) → on_one objs rest ≡ [] → on_one objs (cond (nat_le (span q.1 spans).0 i) (q ∷ rest) rest) ≡ []
  absent i q rest within out r = go (nat_le (span q.1 spans).0 i) (member q.1 objs) refl refl
    where
      go : (a b : Bool) → nat_le (span q.1 spans).0 i ≡ a → member q.1 objs ≡ b → on_one objs (cond a (q ∷ rest) rest) ≡ []
      go true true d e = let low = early (span q.1 spans).0 i d in let k = has q.1 i (holds-true (member q.1 objs) e) low (within low) in absurd (out k.0 k.1)
      go true false d e = ap (λ b. cond b (q ∷ on_one objs rest) (on_one objs rest)) e ∙ r
      go false b d e = r

  none-before : (i k : ℕ) (qs : Pairs) → i + k ≤ all.0 → AreIn spans i qs → on_one objs (staying spans i (take k qs)) ≡ []
  none-before i zero qs l h = refl
  none-before i (suc k) [] l h = refl
  none-before i (suc k) (q ∷ qs) l h = absent i q (staying spans (suc i) (take k qs)) h.0 (λ low high. absurd (omega (arith, low, l))) (none-before (suc i) k qs (omega (arith, l)) h.1)

  none-behind : (i : ℕ) (qs : Pairs) → all.1 ≤ i → AreIn spans i qs → on_one objs (staying spans i qs) ≡ []
  none-behind i [] l h = refl
  none-behind i (q ∷ qs) l h = absent i q (staying spans (suc i) qs) h.0 (λ low high. absurd (omega (arith, high, l))) (none-behind (suc i) qs (omega (arith, l)) h.1)

  in-behind : (i k : ℕ) (qs : Pairs) → AreIn spans i qs → AreIn spans (i + k) (drop k qs)
  in-behind i zero qs h = subst (λ n. AreIn spans n qs) (none i) h
    where
      none : (i : ℕ) → i ≡ i + 0
      none i = omega arith
  in-behind i (suc k) [] h = tt
  in-behind i (suc k) (q ∷ qs) h = subst (λ n. AreIn spans n (drop k qs)) (next i k) (in-behind (suc i) k qs h.1)
    where
      next : (i k : ℕ) → suc i + k ≡ i + suc k
      next i k = omega arith

  module _ (qs : Pairs) (h : AreIn spans 0 qs) where
    pub found-begins : (found : Pairs) → found ≡ [] → found ≡ on_one objs (staying spans 0 (take all.0 qs))
    found-begins found e = e ∙ sym (none-before 0 all.0 qs (omega arith) h)

    pub found-next : (i : ℕ) (q : ℕ × ℕ) (old new : Pairs) → i < length qs → q ≡ get_or qs i q → old ≡ on_one objs (staying spans 0 (take i qs)) → (a b : Bool) → member q.1 objs ≡ a → nat_le (span q.1 spans).0 i ≡ b → new ≡ old ++ cond (a && b) (q ∷ []) []
        → new ≡ on_one objs (staying spans 0 (take (i + 1) qs))
    found-next i q old new l is was a b d e more =
        more
        ∙ ap (λ l. l ++ cond (a && b) (q ∷ []) []) was
        ∙ sym (
        ap (on_one objs) (staying-more spans qs i q l is)
        ∙ filter-append (λ q. member q.1 objs) (staying spans 0 (take i qs)) (cond (nat_le (span q.1 spans).0 i) (q ∷ []) [])
        ∙ ap (λ x. on_one objs (staying spans 0 (take i qs)) ++ on_one objs (cond x (q ∷ []) [])) e
        ∙ ap (λ r. on_one objs (staying spans 0 (take i qs)) ++ r) (one b)
        )
      where
        on : cond (member q.1 objs) (q ∷ []) [] ≡ cond a (q ∷ []) []
        on = ap (λ x. cond x (q ∷ []) []) d

        both : (x : Bool) → cond x (q ∷ []) [] ≡ cond (x && true) (q ∷ []) []
        both true = refl
        both false = refl

        neither : (x : Bool) → [] ≡ cond (x && false) (q ∷ []) []
        neither true = refl
        neither false = refl

        one : (b : Bool) → on_one objs (cond b (q ∷ []) []) ≡ cond (a && b) (q ∷ []) []
        one true = on ∙ both a
        one false = neither a

    pub found-done : (i : ℕ) (found : Pairs) → found ≡ on_one objs (staying spans 0 (take i qs)) → (length qs ≤ i) ⊎ (i ≤ length qs) × (all.1 ≤ i) → found ≡ on_one objs (staying spans 0 qs)
    found-done i found was (inl l) = was ∙ ap (λ r. on_one objs (staying spans 0 r)) (take_all i qs l)
    found-done i found was (inr p) =
        was
        ∙ sym (append-nil (on_one objs (staying spans 0 (take i qs))))
        ∙ ap (λ r. on_one objs (staying spans 0 (take i qs)) ++ r) (sym (none-behind i (drop i qs) p.1 (subst (λ n. AreIn spans n (drop i qs)) (none i) (in-behind 0 i qs h))))
        ∙ sym (filter-append (λ q. member q.1 objs) (staying spans 0 (take i qs)) (staying spans i (drop i qs)))
        ∙ ap (λ n. on_one objs (staying spans 0 (take i qs) ++ staying spans n (drop i qs))) (sym (none (length (take i qs)) ∙ length-take-le i qs p.0))
        ∙ ap (on_one objs) (sym (staying-append spans 0 (take i qs) (drop i qs)) ∙ ap (staying spans 0) (take-append-drop i qs))
      where
        none : (n : ℕ) → 0 + n ≡ n
        none n = omega arith

    pub found-ends : (i end : ℕ) (found : Pairs) → found ≡ on_one objs (staying spans 0 (take i qs)) → end ≡ cond (nat_lt all.1 (length qs)) all.1 (length qs) → end ≤ i → found ≡ on_one objs (staying spans 0 qs)
    found-ends i end found was e l = go (nat_lt all.1 (length qs)) (nat_lt i (length qs)) refl refl
      where
        behind : (m n : ℕ) → nat_lt m n ≡ false → n ≤ m
        behind m n f = grind (arith, nat_tests)

        before : (m n : ℕ) → nat_lt m n ≡ true → m < n
        before m n f = grind (arith, nat_tests)

        go : (a b : Bool) → nat_lt all.1 (length qs) ≡ a → nat_lt i (length qs) ≡ b → found ≡ on_one objs (staying spans 0 qs)
        go a false d f = found-done i found was (inl (behind i (length qs) f))
        go true true d f = let low = before i (length qs) f in let same = e ∙ ap (λ x. cond x all.1 (length qs)) d in found-done i found was (inr (omega (arith, low), omega (arith, same, l)))
        go false true d f = let low = before i (length qs) f in let same = e ∙ ap (λ x. cond x all.1 (length qs)) d in absurd (omega (arith, low, same, l))
