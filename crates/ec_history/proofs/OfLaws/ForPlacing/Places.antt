-- The places of a transcript's entries.
use Rattle.std.proofs.Common.{◌≡◌, refl, sym, ap, subst, ◌∙◌, arith, ◌≤◌, ◌+◌, ◌-◌, ℕ, T, Bool, true, false, ◌==◌, ◌&&◌, ◌||◌, not, map, List, [], ◌∷◌, ◌++◌, length, Option, Some, None, length-append, append-nil, append_assoc}
use Rattle.std.proofs.lemmas.Bool.{or_parts, or_from, ne_eqb, true≢false}
use Rattle.std.proofs.lemmas.List.{map-append}
use Rattle.std.proofs.lemmas.List.Folds.{list_any-append}
use Rattle.ec_volume.specs.Update.{member, distinct}
use Rattle.ec_history.specs.History.{Base, History, Each, Throughout}
use Rattle.ec_history.specs.Lines.{durable, IsCovered, AreCovered}
use Rattle.std.proofs.lemmas.List.{take-append-le}
use Rattle.ec_history.specs.declared.entry.Entry.{Entry}
use Rattle.ec_history.specs.declared.entry.Entry.TheVariants as entry
use Rattle.ec_history.specs.Placing.{watch, owner, place}
use Rattle.ec_history.specs.declared.shown.Shown.{Shown}
use Rattle.ec_history.specs.declared.shown.Shown.TheVariants.{Answered, Ended}
use Rattle.ec_history.proofs.OfLaws.ForPlacing.Watching.{from_front}
use Rattle.ec_history.proofs.OfLaws.ForPlacing.Late.{place-no_call, place-ended, place-answer}
use Rattle.ec_history.proofs.OfLaws.ForPlacing.Held.{place-late}
use Rattle.ec_base.specs.Options.{or_zero}

abbrev pub places : History → List ℕ
places h = map (λ e. e.0) h

abbrev IsWithin : ℕ → ℕ → Type 0
IsWithin n p = (1 ≤ p) × (p ≤ n)

within-longer : (m n : ℕ) (ps : List ℕ) → m ≤ n → Each (IsWithin m) ps → Each (IsWithin n) ps
within-longer m n [] l h = tt
within-longer m n (p ∷ ps) l h = ((h.0.0, omega arith), within-longer m n ps l h.1)

within-put : (n p : ℕ) (xs ys : List ℕ) → IsWithin n p → Each (IsWithin n) (xs ++ ys) → Each (IsWithin n) (xs ++ p ∷ ys)
within-put n p [] ys w h = (w, h)
within-put n p (x ∷ xs) ys w h = (h.0, within-put n p xs ys w h.1)

within-fresh : (n : ℕ) (ps : List ℕ) → Each (IsWithin n) ps → member (n + 1) ps ≡ false
within-fresh n [] h = refl
within-fresh n (p ∷ ps) h = or_from (n + 1 == p) (member (n + 1) ps) (ne_eqb (n + 1) p (λ e. omega arith)) (within-fresh n ps h.1)

distinct-put : (p : ℕ) (xs ys : List ℕ) → T (distinct (xs ++ ys)) → member p (xs ++ ys) ≡ false → T (distinct (xs ++ p ∷ ys))
distinct-put p [] ys d m = subst (λ b. T (not b && distinct ys)) (sym m) d
distinct-put p (x ∷ xs) ys d m =
    let k = or_parts (p == x) (member p (xs ++ ys)) m in
    let apart : member x (xs ++ p ∷ ys) ≡ member x (xs ++ ys) =
    list_any-append (λ q. x == q) xs (p ∷ ys)
    ∙ ap (λ b. member x xs || (b || member x ys)) (ne_eqb x p (λ e. absurd (true≢false (sym (same x p e) ∙ k.0))))
    ∙ sym (list_any-append (λ q. x == q) xs ys) in
    subst (λ b. T (not b && distinct (xs ++ p ∷ ys))) (sym apart) (go (member x (xs ++ ys)) d (λ t. distinct-put p xs ys t k.1))
  where
    same : (a b : ℕ) → a ≡ b → (b == a) ≡ true
    same a b e = grind arith

    go : (b : Bool) → T (not b && distinct (xs ++ ys)) → (T (distinct (xs ++ ys)) → T (distinct (xs ++ p ∷ ys))) → T (not b && distinct (xs ++ p ∷ ys))
    go true t f = t
    go false t f = f t

-- Each place is that of a line, and no two entries have one.
abbrev ArePlaces : ℕ → History → Type 0
ArePlaces n h = Each (IsWithin n) (places h) × T (distinct (places h))

places-put : (n : ℕ) (h g : History) (ps ls : List ℕ) → ArePlaces n h → places h ≡ ps ++ ls → places g ≡ ps ++ (n + 1) ∷ ls → ArePlaces (n + 1) g
places-put n h g ps ls a e f =
    let w : Each (IsWithin n) (ps ++ ls) = subst (Each (IsWithin n)) e a.0 in
    let d : T (distinct (ps ++ ls)) = subst (λ x. T (distinct x)) e a.1 in (
      subst (Each (IsWithin (n + 1))) (sym f) (within-put (n + 1) (n + 1) ps ls (omega arith, omega arith) (within-longer n (n + 1) (ps ++ ls) (omega arith) w)),
      subst (λ x. T (distinct x)) (sym f) (distinct-put (n + 1) ps ls d (within-fresh n (ps ++ ls) w)),
    )

pub one_longer : (ss : List Shown) (s : Shown) → length (ss ++ s ∷ []) ≡ length ss + 1
one_longer ss s = length-append ss (s ∷ [])

-- one more entry at the end, or one before others
places-end : (ss : List Shown) (s : Shown) (e : Entry) → ArePlaces (length ss) (place ss) → place (ss ++ s ∷ []) ≡ place ss ++ (length ss + 1, e) ∷ [] → ArePlaces (length (ss ++ s ∷ [])) (place (ss ++ s ∷ []))
places-end ss s e a q =
    subst (λ n. ArePlaces n (place (ss ++ s ∷ []))) (sym (one_longer ss s))
    (places-put (length ss) (place ss) (place (ss ++ s ∷ [])) (places (place ss)) [] a (sym (append-nil (places (place ss)))) (ap places q ∙ map-append (λ x. x.0) (place ss) ((length ss + 1, e) ∷ [])))

places-same : (ss : List Shown) (s : Shown) → ArePlaces (length ss) (place ss) → place (ss ++ s ∷ []) ≡ place ss ++ [] → ArePlaces (length (ss ++ s ∷ [])) (place (ss ++ s ∷ []))
places-same ss s a q =
    subst (λ h. ArePlaces (length (ss ++ s ∷ [])) h) (sym (q ∙ append-nil (place ss)))
    (within-longer (length ss) (length (ss ++ s ∷ [])) (places (place ss)) (omega (arith, one_longer ss s)) a.0, a.1)

places-late : (ss : List Shown) (s : Shown) (h h' : History) (q : ℕ) (e x y : Entry) → ArePlaces (length ss) (place ss) → place ss ≡ h ++ (q, x) ∷ h' → place (ss ++ s ∷ []) ≡ h ++ (length ss + 1, e) ∷ [] ++ (q, y) ∷ h'
    → ArePlaces (length (ss ++ s ∷ [])) (place (ss ++ s ∷ []))
places-late ss s h h' q e x y a f g =
    subst (λ n. ArePlaces n (place (ss ++ s ∷ []))) (sym (one_longer ss s))
    (places-put (length ss) (place ss) (place (ss ++ s ∷ [])) (places h) (q ∷ places h') a (ap places f ∙ map-append (λ x. x.0) h ((q, x) ∷ h'))
    (ap places (g ∙ append_assoc h ((length ss + 1, e) ∷ []) ((q, y) ∷ h')) ∙ map-append (λ x. x.0) h ((length ss + 1, e) ∷ (q, y) ∷ h')))

places-next : (ss : List Shown) (s : Shown) → ArePlaces (length ss) (place ss) → ArePlaces (length (ss ++ s ∷ [])) (place (ss ++ s ∷ []))
places-next ss (Answered l c cl a op) h = go (watch c ss).untold refl
  where
    go : (u : Option (List ℕ)) → (watch c ss).untold ≡ u → ArePlaces (length (ss ++ Answered l c cl a op ∷ [])) (place (ss ++ Answered l c cl a op ∷ []))
    go None u = places-end ss (Answered l c cl a op) _ h (place-answer ss l c cl a op u)
    go (Some ns) u = let (f, q, g, is, lacks, more) = place-late ss c ns u in places-late ss (Answered l c cl a op) f g q _ _ _ h is (more l cl a op)
places-next ss (Ended c ns) h = places-end ss (Ended c ns) (entry.Loss c (or_zero (owner (watch c ss))) ns) h (place-ended ss c ns)
places-next ss s h = places-same ss s h (place-no_call ss s (λ d. refl))

pub placed : (ss : List Shown) → ArePlaces (length ss) (place ss)
placed = from_front (λ ss. ArePlaces (length ss) (place ss)) (tt, tt) places-next

pub places-within : (ss : List Shown) → Each (λ p. (1 ≤ p) × (p ≤ length ss)) (map (λ e. e.0) (place ss))
places-within ss = (placed ss).0

pub places-distinct : (ss : List Shown) → T (distinct (map (λ e. e.0) (place ss)))
places-distinct ss = (placed ss).1

-- Durable lines above an entry's line are among the lines before the last.
module _ (base : Base) (ss : List Shown) (s : Shown) where
  covered-one : (past : History) (e : ℕ × Entry) → e.0 ≤ length (ss ++ s ∷ []) → IsCovered base ss past e → IsCovered base (ss ++ s ∷ []) past e
  covered-one past (p, entry.Call c b l g cl a op) m v =
      let short : p - 1 ≤ length ss = omega (arith, one_longer ss s) in
      λ n w. subst (λ x. T (member n (durable c b x))) (sym (take-append-le (p - 1) ss (s ∷ []) short)) (v n w)
  covered-one past (p, entry.Loss c b ns) m v = tt

  covered-all : (past h : History) → Each (IsWithin (length (ss ++ s ∷ []))) (places h) → Throughout (IsCovered base ss) past h → Throughout (IsCovered base (ss ++ s ∷ [])) past h
  covered-all past [] w t = tt
  covered-all past (e ∷ h) w t = (covered-one past e w.0.1 t.0, covered-all (past ++ e ∷ []) h w.1 t.1)

  pub covered-longer : Throughout (IsCovered base ss) [] (place (ss ++ s ∷ [])) → AreCovered base (ss ++ s ∷ [])
  covered-longer t = covered-all [] (place (ss ++ s ∷ [])) (places-within (ss ++ s ∷ [])) t
