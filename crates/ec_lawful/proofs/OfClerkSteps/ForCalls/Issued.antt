-- What the numbers of a legal history say of a start's entries, losses and operations.
use Rattle.std.proofs.Common.{◌≡◌, refl, sym, ap, subst, ◌∙◌, arith, ◌≤◌, ◌<◌, ◌+◌, ℕ, T, Bool, true, false, not, ◌==◌, ◌&&◌, ◌||◌, cond, map, List, [], ◌∷◌, ◌++◌, length, Some, None, append-nil, append_assoc}
use Rattle.std.specs.List.{filter, list_any, list_all}
use Rattle.std.proofs.lemmas.Bool.{and_parts, eqb-true}
use Rattle.ec_volume.specs.Update.{member}
use Rattle.ec_volume.specs.declared.update.Update.{Update}
use Rattle.ec_history.specs.History.{Base, History, Op, Throughout, Each, same_start, of_start, is_one_of, of_issue, kept, issued, issued_by, is_lost, names}
use Rattle.ec_history.specs.Legal.{IsLegal, IsLegalNext}
use Rattle.ec_history.specs.declared.entry.Entry.{Entry}
use Rattle.ec_history.specs.declared.entry.Entry.TheVariants as entry
use Rattle.ec_history.proofs.OfLaws.ForPlacing.Cuts.{legal-step}
use Rattle.ec_history.proofs.OfLaws.ForPlacing.More.{kept-step, issued-step, is_lost-append, count-step}
use Rattle.ec_history.proofs.OfLaws.ForPlacing.Numbers.{IsUpTo, count, each-append, each-back, kept-up_to}
use Rattle.ec_coherence.proofs.ForServer.Lists.{filter-alike, filter-more, filter-two}
use Rattle.ec_history.proofs.OfLaws.Unlost.{kept-unlost}
use Rattle.ec_lawful.specs.OfClerkSteps.Calls.{IsBefore, LosesBelow}
use Rattle.ec_base.proofs.Bools.{left, right, is-true}
use Rattle.ec_base.proofs.Numbers.{equal, flip_too}
use Rattle.ec_history.proofs.OfLaws.ForPlacing.BasesAlike.{each-map}

-- an operation of the start that's among these has their greatest number at most
among : (c b m n : ℕ) (ks : List Op) → Each (IsUpTo c b m) ks → T (list_any (is_one_of c b (n ∷ [])) ks) → n ≤ m
among c b m n [] u t = absurd t
among c b m n (k ∷ ks) u t = go (of_start c b k) (k.number == n) refl refl t (among c b m n ks u.1)
  where
    go : (x y : Bool) → of_start c b k ≡ x → (k.number == n) ≡ y → T ((x && (y || false)) || list_any (is_one_of c b (n ∷ [])) ks) → (T (list_any (is_one_of c b (n ∷ [])) ks) → n ≤ m) → n ≤ m
    go true true e f r more = at-most k.number n (u.0 e) (equal k.number n f)
      where
        at-most : (j i : ℕ) → j ≤ m → j ≡ i → i ≤ m
        at-most j i l q = omega (arith, l, q)
    go true false e f r more = more r
    go false y e f r more = more r

module _ (base : Base) (most : ℕ) where
  module _ (Q : History → Type 0) (more : (past : History) (e : ℕ × Entry) → IsLegal base most past → IsLegalNext base most past e → Q past → Q (past ++ e ∷ [])) where
    steps-from : (past h : History) → IsLegal base most past → Q past → Throughout (IsLegalNext base most) past h → Q (past ++ h)
    steps-from past [] l q t = subst Q (sym (append-nil past)) q
    steps-from past (e ∷ h) l q t = subst Q (append_assoc past (e ∷ []) h) (steps-from (past ++ e ∷ []) h (legal-step base most past e l t.0) (more past e l t.0 q) t.1)

    by-steps : Q [] → (h : History) → IsLegal base most h → Q h
    by-steps q h l = steps-from [] h tt q l

  module _ (c b : ℕ) where
    longer : (past : History) (e : ℕ × Entry) → count c b past ≤ count c b (past ++ e ∷ [])
    longer past e = omega (arith, count-step c b past e)

    -- Entries with an operation.

    module _ (place : ℕ) where
      before-more : (m n : ℕ) → m ≤ n → (e : ℕ × Entry) → IsBefore c b place m e → IsBefore c b place n e
      before-more m n l (p, entry.Loss d f ns) h = tt
      before-more m n l (p, entry.Call d f i begun cl a None) h = tt
      before-more m n l (p, entry.Call d f i begun cl a (Some j)) h = λ t q. grow j (h t q)
        where
          grow : (j : ℕ) → j ≤ m → j ≤ n
          grow j k = omega (arith, k, l)

      before-next : (past : History) (e : ℕ × Entry) → IsLegalNext base most past e → IsBefore c b place (count c b (past ++ e ∷ [])) e
      before-next past (p, entry.Loss d f ns) n = tt
      before-next past (p, entry.Call d f i begun cl a None) n = tt
      before-next past (p, entry.Call d f i begun cl a (Some m)) n = λ t q. own (is-true (same_start c b d f) t)
        where
          own : same_start c b d f ≡ true → m ≤ count c b (past ++ (p, entry.Call d f i begun cl a (Some m)) ∷ [])
          own y =
              let k = and_parts (c == d) (b == f) y in
              let last : m ≡ count c b past + 1 = n.number ∙ ap (λ x. count x f past + 1) (sym (eqb-true c d k.0)) ∙ ap (λ x. count c x past + 1) (sym (eqb-true b f k.1)) in
              let one : length {A = ℕ × Entry} (cond (same_start c b d f && true) ((p, entry.Call d f i begun cl a (Some m)) ∷ []) []) ≡ 1 =
              ap (λ x. length {A = ℕ × Entry} (cond (x && true) ((p, entry.Call d f i begun cl a (Some m)) ∷ []) [])) y in
              omega (arith, last, one, count-step c b past (p, entry.Call d f i begun cl a (Some m)))

      pub before-all : (h : History) → IsLegal base most h → Each (IsBefore c b place (count c b h)) h
      before-all = by-steps (λ h. Each (IsBefore c b place (count c b h)) h)
          (λ past e l n q. each-append (IsBefore c b place (count c b (past ++ e ∷ []))) past (e ∷ [])
          (each-map (IsBefore c b place (count c b past)) (IsBefore c b place (count c b (past ++ e ∷ []))) (before-more (count c b past) (count c b (past ++ e ∷ [])) (longer past e)) past q) (before-next past e n, tt)) tt

    -- Losses.

    loses-more : (m n : ℕ) → m ≤ n → (e : ℕ × Entry) → LosesBelow c b m e → LosesBelow c b n e
    loses-more m n l (p, entry.Loss d f ns) h = λ t. each-map (λ j. j < m) (λ j. j < n) (λ j k. omega (arith, k, l)) ns (h t)
    loses-more m n l (p, entry.Call d f i begun cl a op) h = tt

    loses-next : (past : History) (e : ℕ × Entry) → IsLegal base most past → IsLegalNext base most past e → LosesBelow c b (count c b past + 1) e
    loses-next past (p, entry.Call d f i begun cl a op) l n = tt
    loses-next past (p, entry.Loss d f ns) l n = λ t. all ns (own (is-true (same_start c b d f) t) n.kept_so_far)
      where
        own : same_start c b d f ≡ true → T (list_all (λ n. list_any (is_one_of d f (n ∷ [])) (kept base past)) ns) → T (list_all (λ n. list_any (is_one_of c b (n ∷ [])) (kept base past)) ns)
        own y k =
            let two = and_parts (c == d) (b == f) y in
            subst (λ x. T (list_all (λ n. list_any (is_one_of x b (n ∷ [])) (kept base past)) ns)) (sym (eqb-true c d two.0)) (subst (λ x. T (list_all (λ n. list_any (is_one_of d x (n ∷ [])) (kept base past)) ns)) (sym (eqb-true b f two.1)) k)

        all : (ms : List ℕ) → T (list_all (λ n. list_any (is_one_of c b (n ∷ [])) (kept base past)) ms) → Each (λ j. j < count c b past + 1) ms
        all [] k = tt
        all (m ∷ ms) k = (below m (among c b (count c b past) m (kept base past) (kept-up_to base most c b past l) (left _ _ k)), all ms (right (list_any (is_one_of c b (m ∷ [])) (kept base past)) _ k))
          where
            below : (m : ℕ) → m ≤ count c b past → m < count c b past + 1
            below m q = omega (arith, q)

    pub loses-all : (h : History) → IsLegal base most h → Each (LosesBelow c b (count c b h + 1)) h
    loses-all = by-steps (λ h. Each (LosesBelow c b (count c b h + 1)) h)
        (λ past e l n q. each-append (LosesBelow c b (count c b (past ++ e ∷ []) + 1)) past (e ∷ [])
        (each-map (LosesBelow c b (count c b past + 1)) (LosesBelow c b (count c b (past ++ e ∷ []) + 1)) (loses-more _ _ (one-more past e)) past q) (loses-more _ _ (one-more past e) e (loses-next past e l n), tt)) tt
      where
        one-more : (past : History) (e : ℕ × Entry) → count c b past + 1 ≤ count c b (past ++ e ∷ []) + 1
        one-more past e = omega (arith, longer past e)

  -- What is kept is what was issued and no loss names.

  abbrev is_unlost : History → Op → Bool
  is_unlost h k = not (is_lost k.clerk k.boot k.number h)

  abbrev unlost : History → Op → Type 0
  unlost h k = T (is_lost k.clerk k.boot k.number h) → ⊥

  refuted : (x : Bool) → (T x → ⊥) → not x ≡ true
  refuted true n = absurd (n tt)
  refuted false n = refl

  named-is : (k : Op) (d f : ℕ) (ns : List ℕ) → names k.clerk k.boot k.number (entry.Loss d f ns) ≡ is_one_of d f ns k
  named-is k d f ns = ap (λ x. (x && (k.boot == f)) && member k.number ns) (flip_too k.clerk d) ∙ ap (λ x. ((d == k.clerk) && x) && member k.number ns) (flip_too k.boot f)

  all-such : (p : Op → Bool) (ks : List Op) → Each (λ k. p k ≡ true) ks → filter p ks ≡ ks
  all-such p [] h = refl
  all-such p (k ∷ ks) h = ap (λ x. cond x (k ∷ filter p ks) (filter p ks)) h.0 ∙ ap (λ x. k ∷ x) (all-such p ks h.1)

  each-all : (P : Op → Type 0) (ks : List Op) → ((k : Op) → P k) → Each P ks
  each-all P [] h = tt
  each-all P (k ∷ ks) h = (h k, each-all P ks h)

  kept-next-is : (past : History) (e : ℕ × Entry) → IsLegal base most past → IsLegalNext base most past e → kept base past ≡ filter (is_unlost past) (issued base past) → kept base (past ++ e ∷ []) ≡ filter (is_unlost (past ++ e ∷ [])) (issued base (past ++ e ∷ []))
  kept-next-is past (p, entry.Loss d f ns) l n q =
      kept-step base past (p, entry.Loss d f ns)
      ∙ ap (filter (λ k. not (is_one_of d f ns k))) q
      ∙ filter-two (λ k. not (is_one_of d f ns k)) (is_unlost past) (issued base past)
      ∙ filter-alike (λ k. is_unlost past k && not (is_one_of d f ns k)) (is_unlost (past ++ (p, entry.Loss d f ns) ∷ [])) (issued base past) (each-all _ (issued base past) alike)
      ∙ ap (filter (is_unlost (past ++ (p, entry.Loss d f ns) ∷ []))) (sym (append-nil (issued base past)) ∙ sym (issued-step base past (p, entry.Loss d f ns)))
    where
      two : (x y : Bool) → (not x && not y) ≡ not (x || (y || false))
      two true y = refl
      two false true = refl
      two false false = refl

      alike : (k : Op) → (is_unlost past k && not (is_one_of d f ns k)) ≡ is_unlost (past ++ (p, entry.Loss d f ns) ∷ []) k
      alike k = ap (λ x. is_unlost past k && not x) (sym (named-is k d f ns)) ∙ two (is_lost k.clerk k.boot k.number past) (names k.clerk k.boot k.number (entry.Loss d f ns)) ∙ ap not (sym (is_lost-append k.clerk k.boot k.number past ((p, entry.Loss d f ns) ∷ [])))
  kept-next-is past (p, entry.Call d f i begun cl a op) l n q =
      let e : ℕ × Entry = (p, entry.Call d f i begun cl a op) in
      let new : List Op = issued_by base (kept base past) e in
      let fresh : Each (unlost (past ++ e ∷ [])) new = each-back (unlost (past ++ e ∷ [])) (kept base past) new (subst (Each (unlost (past ++ e ∷ []))) (kept-step base past e) (kept-unlost base most (past ++ e ∷ []) (legal-step base most past e l n))) in
      kept-step base past e
      ∙ ap (λ x. x ++ new) q
      ∙ ap (λ x. x ++ new) (filter-alike (is_unlost past) (is_unlost (past ++ e ∷ [])) (issued base past) (each-all _ (issued base past) alike))
      ∙ ap (λ x. filter (is_unlost (past ++ e ∷ [])) (issued base past) ++ x) (sym (all-such (is_unlost (past ++ e ∷ [])) new (each-map (unlost (past ++ e ∷ [])) (λ k. is_unlost (past ++ e ∷ []) k ≡ true) (λ k u. refuted (is_lost k.clerk k.boot k.number (past ++ e ∷ [])) u) new fresh)))
      ∙ sym (filter-more (is_unlost (past ++ e ∷ [])) (issued base past) new)
      ∙ ap (filter (is_unlost (past ++ e ∷ []))) (sym (issued-step base past e))
    where
      or_false : (x : Bool) → (x || false) ≡ x
      or_false true = refl
      or_false false = refl

      alike : (k : Op) → is_unlost past k ≡ is_unlost (past ++ (p, entry.Call d f i begun cl a op) ∷ []) k
      alike k = ap not (sym (is_lost-append k.clerk k.boot k.number past ((p, entry.Call d f i begun cl a op) ∷ []) ∙ or_false (is_lost k.clerk k.boot k.number past)))

  pub kept-is : (h : History) → IsLegal base most h → kept base h ≡ filter (is_unlost h) (issued base h)
  kept-is = by-steps (λ h. kept base h ≡ filter (is_unlost h) (issued base h)) kept-next-is refl

  -- the same of one start, by numbers
  pub kept-of : (c b : ℕ) (h : History) → IsLegal base most h → of_issue c b (kept base h) ≡ filter (λ x. not (is_lost c b x.0 h)) (of_issue c b (issued base h))
  kept-of c b h l =
      ap (of_issue c b) (kept-is h l)
      ∙ ap (map pair) (filter-two (of_start c b) (is_unlost h) (issued base h) ∙ filter-alike (λ k. is_unlost h k && of_start c b k) (λ k. of_start c b k && not (is_lost c b k.number h)) (issued base h) (each-all _ (issued base h) alike)
      ∙ sym (filter-two (λ k. not (is_lost c b k.number h)) (of_start c b) (issued base h)))
      ∙ over (filter (of_start c b) (issued base h))
    where
      pair : Op → ℕ × Update
      pair k = (k.number, k.update)

      over : (ks : List Op) → map pair (filter (λ k. not (is_lost c b k.number h)) ks) ≡ filter (λ x. not (is_lost c b x.0 h)) (map pair ks)
      over [] = refl
      over (k ∷ ks) = go (not (is_lost c b k.number h)) (over ks)
        where
          go : (x : Bool) → map pair (filter (λ k. not (is_lost c b k.number h)) ks) ≡ filter (λ x. not (is_lost c b x.0 h)) (map pair ks)
              → map pair (cond x (k ∷ filter (λ k. not (is_lost c b k.number h)) ks) (filter (λ k. not (is_lost c b k.number h)) ks)) ≡ cond x (pair k ∷ filter (λ x. not (is_lost c b x.0 h)) (map pair ks)) (filter (λ x. not (is_lost c b x.0 h)) (map pair ks))
          go true r = ap (λ z. pair k ∷ z) r
          go false r = r

      alike : (k : Op) → (is_unlost h k && of_start c b k) ≡ (of_start c b k && not (is_lost c b k.number h))
      alike k = go (of_start c b k) refl
        where
          go : (x : Bool) → of_start c b k ≡ x → (is_unlost h k && x) ≡ (x && not (is_lost c b k.number h))
          go true e =
              let two = and_parts (c == k.clerk) (b == k.boot) e in
              and_true (is_unlost h k) ∙ ap (λ z. not (is_lost z k.boot k.number h)) (sym (eqb-true c k.clerk two.0)) ∙ ap (λ z. not (is_lost c z k.number h)) (sym (eqb-true b k.boot two.1))
            where
              and_true : (x : Bool) → (x && true) ≡ x
              and_true true = refl
              and_true false = refl
          go false e = and_false (is_unlost h k)
            where
              and_false : (x : Bool) → (x && false) ≡ false
              and_false true = refl
              and_false false = refl
