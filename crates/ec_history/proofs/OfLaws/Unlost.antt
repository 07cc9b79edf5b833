-- No loss of a legal history names an operation that is kept.
use Rattle.std.proofs.Common.{◌≡◌, refl, sym, ap, subst, ◌∙◌, inl, inr, arith, ◌⊎◌, ◌≤◌, ◌+◌, ℕ, T, Bool, true, false, not, ◌==◌, ◌&&◌, ◌||◌, cond, List, [], ◌∷◌, ◌++◌, length, Option, Some, None, append-nil, append_assoc}
use Rattle.std.specs.List.{filter, list_any, list_all}
use Rattle.std.proofs.lemmas.Bool.{and_parts, and_from, eqb-true, eq-eqb}
use Rattle.ec_volume.specs.Update.{member}
use Rattle.ec_volume.specs.declared.update.Update.{Update}
use Rattle.ec_history.specs.History.{Base, History, Op, Throughout, Each, same_start, of_start, is_one_of, names, is_lost, outcome, kept, issued_by, without}
use Rattle.ec_history.specs.Legal.{IsLegal, IsLegalNext, is_op_of}
use Rattle.ec_plain.specs.declared.call.Call.{Call}
use Rattle.ec_history.specs.declared.entry.Answer.{Answer}
use Rattle.ec_history.specs.declared.entry.Entry.{Entry}
use Rattle.ec_history.specs.declared.entry.Entry.TheVariants as entry
use Rattle.ec_history.proofs.OfLaws.ForPlacing.Cuts.{legal-step}
use Rattle.ec_history.proofs.OfLaws.ForPlacing.More.{kept-step, count-step}
use Rattle.ec_history.proofs.OfLaws.ForPlacing.Numbers.{count, each-append, each-filter, kept-up_to, IsUpTo}
use Rattle.ec_history.proofs.OfLaws.Members.{lost-left, lost-parts, member-all}
use Rattle.ec_base.proofs.Numbers.{same-self as self}
use Rattle.ec_base.proofs.Bools.{clash as off, none as off-from, on, is-true as is_on}
use Rattle.ec_history.proofs.OfLaws.ForPlacing.BasesAlike.{each-map}

abbrev IsUnlost : History → Op → Type 0
IsUnlost h k = T (is_lost k.clerk k.boot k.number h) → ⊥

-- what is kept isn't lost, and what is lost was issued
record Tidy (base : Base) (h : History) : Type 0 where
  unlost : Each (IsUnlost h) (kept base h)
  counted : (c b n : ℕ) → T (is_lost c b n h) → n ≤ count c b h

-- the number of an operation of the start among these
found : (c b n m : ℕ) (ks : List Op) → Each (IsUpTo c b m) ks → T (list_any (is_one_of c b (n ∷ [])) ks) → n ≤ m
found c b n m [] i t = absurd t
found c b n m (k ∷ ks) i t = go (is_one_of c b (n ∷ []) k) refl t (found c b n m ks i.1)
  where
    one : (x : Bool) → ((k.number == n) || false) ≡ x → x ≡ true → k.number ≡ n
    one x e f = eqb-true k.number n (go2 (k.number == n) (e ∙ f))
      where
        go2 : (y : Bool) → (y || false) ≡ true → y ≡ true
        go2 true e = refl
        go2 false e = e

    go : (b' : Bool) → is_one_of c b (n ∷ []) k ≡ b' → T (b' || list_any (is_one_of c b (n ∷ [])) ks) → (T (list_any (is_one_of c b (n ∷ [])) ks) → n ≤ m) → n ≤ m
    go false e t more = more t
    go true e t more = let p = and_parts (of_start c b k) (member k.number (n ∷ [])) e in omega (arith, i.0 p.0, one _ refl p.1)

count-grows : (c b : ℕ) (h : History) (e : ℕ × Entry) → count c b h ≤ count c b (h ++ e ∷ [])
count-grows c b h e = omega (arith, count-step c b h e)

module _ (base : Base) (most : ℕ) (past : History) (legal : IsLegal base most past) (tidy : Tidy base past) where
  -- behind a call, whose operation has the next number
  module _ (p d f l g : ℕ) (cl : Call) (a : Answer) where
    none-more : (op : Option ℕ) (c b n : ℕ) → T (is_lost c b n (past ++ (p, entry.Call d f l g cl a op) ∷ [])) → T (is_lost c b n past)
    none-more op c b n t = elim (lost-parts c b n past ((p, entry.Call d f l g cl a op) ∷ []) t) [ inl x ↦ x | inr x ↦ absurd x ]

    new-unlost : (op : Option ℕ) → IsLegalNext base most past (p, entry.Call d f l g cl a op) → Each (IsUnlost (past ++ (p, entry.Call d f l g cl a op) ∷ [])) (issued_by base (kept base past) (p, entry.Call d f l g cl a op))
    new-unlost None k = tt
    new-unlost (Some m) k = go ((outcome base (kept base past) p cl).update)
      where
        fresh : T (is_lost d f m past) → ⊥
        fresh t = omega (arith, tidy.counted d f m t, k.number)

        go : (u : Option Update) → Each (IsUnlost (past ++ (p, entry.Call d f l g cl a (Some m)) ∷ [])) (elim u [ None ↦ [] | Some w ↦ record { clerk = d; boot = f; number = m; place = p; update = w } ∷ [] ])
        go None = tt
        go (Some w) = (λ t. fresh (none-more (Some m) d f m t), tt)

    tidy-call : (op : Option ℕ) → IsLegalNext base most past (p, entry.Call d f l g cl a op) → Tidy base (past ++ (p, entry.Call d f l g cl a op) ∷ [])
    tidy-call op k = record {
      unlost = subst (Each (IsUnlost (past ++ (p, entry.Call d f l g cl a op) ∷ []))) (sym (kept-step base past (p, entry.Call d f l g cl a op)))
          (each-append _ (kept base past) (issued_by base (kept base past) (p, entry.Call d f l g cl a op))
          (each-map _ (IsUnlost (past ++ (p, entry.Call d f l g cl a op) ∷ [])) (λ j u t. u (none-more op j.clerk j.boot j.number t)) (kept base past) tidy.unlost) (new-unlost op k));
      counted = λ c b n t. omega (arith, tidy.counted c b n (none-more op c b n t), count-grows c b past (p, entry.Call d f l g cl a op));
    }

  -- behind a loss, which names what was kept
  module _ (p d f : ℕ) (ns : List ℕ) (k : IsLegalNext base most past (p, entry.Loss d f ns)) where
    abbrev e : ℕ × Entry
    e = (p, entry.Loss d f ns)

    left : (ks : List Op) → Each (λ j. T (not (is_one_of d f ns j))) (without d f ns ks)
    left [] = tt
    left (j ∷ ks) = go (is_one_of d f ns j) refl (left ks)
      where
        go : (b : Bool) → is_one_of d f ns j ≡ b → Each (λ i. T (not (is_one_of d f ns i))) (without d f ns ks) → Each (λ i. T (not (is_one_of d f ns i))) (cond (not b) (j ∷ without d f ns ks) (without d f ns ks))
        go true q more = more
        go false q more = (subst (λ b. T (not b)) (sym q) tt, more)

    unnamed : (j : Op) → T (not (is_one_of d f ns j)) → T (names j.clerk j.boot j.number e.1) → ⊥
    unnamed j u t =
        let both = and_parts (same_start j.clerk j.boot d f) (member j.number ns) (is_on _ t) in
        let ids = and_parts (j.clerk == d) (j.boot == f) both.0 in
        off _ u (on (and_from (of_start d f j) _ (and_from (d == j.clerk) _ (eq-eqb d j.clerk (sym (eqb-true j.clerk d ids.0))) (eq-eqb f j.boot (sym (eqb-true j.boot f ids.1)))) both.1))

    unlost-still : (j : Op) → IsUnlost past j → T (not (is_one_of d f ns j)) → IsUnlost (past ++ e ∷ []) j
    unlost-still j u o t = elim (lost-parts j.clerk j.boot j.number past (e ∷ []) t) [ inl x ↦ u x | inr x ↦ unnamed j o (one _ x) ]
      where
        one : (b : Bool) → T (b || false) → T b
        one true t = tt
        one false t = t

    both-of : (ks : List Op) → Each (IsUnlost past) ks → Each (IsUnlost (past ++ e ∷ [])) (without d f ns ks)
    both-of ks u = pairs (without d f ns ks) (each-filter (IsUnlost past) (λ j. not (is_one_of d f ns j)) ks u) (left ks)
      where
        pairs : (js : List Op) → Each (IsUnlost past) js → Each (λ j. T (not (is_one_of d f ns j))) js → Each (IsUnlost (past ++ e ∷ [])) js
        pairs [] x y = tt
        pairs (j ∷ js) x y = (unlost-still j x.0 y.0, pairs js x.1 y.1)

    named-counted : (c b n : ℕ) → T (names c b n e.1) → n ≤ count c b past
    named-counted c b n t =
        let both = and_parts (same_start c b d f) (member n ns) (is_on _ t) in
        let ids = and_parts (c == d) (b == f) both.0 in
        let at = found d f n (count d f past) (kept base past) (kept-up_to base most d f past legal) (member-all (λ m. list_any (is_one_of d f (m ∷ [])) (kept base past)) n ns k.kept_so_far (on both.1)) in
        subst (λ x. n ≤ count x b past) (sym (eqb-true c d ids.0)) (subst (λ x. n ≤ count d x past) (sym (eqb-true b f ids.1)) at)

    tidy-loss : Tidy base (past ++ e ∷ [])
    tidy-loss = record {
      unlost = subst (Each (IsUnlost (past ++ e ∷ []))) (sym (kept-step base past e)) (both-of (kept base past) tidy.unlost);
      counted = λ c b n t. elim (lost-parts c b n past (e ∷ []) t) [
        | inl x ↦ omega (arith, tidy.counted c b n x, count-grows c b past e)
        | inr x ↦ omega (arith, named-counted c b n (one _ x), count-grows c b past e)
      ];
    }
      where
        one : (b : Bool) → T (b || false) → T b
        one true t = tt
        one false t = t

module _ (base : Base) (most : ℕ) where
  tidy-next : (past : History) (e : ℕ × Entry) → IsLegal base most past → Tidy base past → IsLegalNext base most past e → Tidy base (past ++ e ∷ [])
  tidy-next past (p, entry.Call d f l g cl a op) legal tidy k = tidy-call base most past legal tidy p d f l g cl a op k
  tidy-next past (p, entry.Loss d f ns) legal tidy k = tidy-loss base most past legal tidy p d f ns k

  tidy-from : (past h : History) → IsLegal base most past → Tidy base past → Throughout (IsLegalNext base most) past h → Tidy base (past ++ h)
  tidy-from past [] legal tidy t = subst (Tidy base) (sym (append-nil past)) tidy
  tidy-from past (e ∷ h) legal tidy t =
      subst (Tidy base) (append_assoc past (e ∷ []) h) (tidy-from (past ++ e ∷ []) h (legal-step base most past e legal t.0) (tidy-next past e legal tidy t.0) t.1)

  pub kept-unlost : (h : History) → IsLegal base most h → Each (λ k. T (is_lost k.clerk k.boot k.number h) → ⊥) (kept base h)
  kept-unlost h t = (tidy-from [] h tt record { unlost = tt; counted = λ c b n x. absurd x } t).unlost
