-- The numbers of a start's operations: none is above the count of its entries with an operation.
use Rattle.std.proofs.Common.{◌≡◌, refl, sym, ap, subst, ◌∙◌, inl, inr, arith, ◌≤◌, ◌+◌, ℕ, Bool, true, false, not, ◌==◌, ◌&&◌, cond, map, List, [], ◌∷◌, ◌++◌, length, Option, Some, None, append-nil, append_assoc}
use Rattle.std.proofs.lemmas.Bool.{and_parts, eqb-true}
use Rattle.std.specs.List.{filter}
use Rattle.ec_volume.specs.declared.update.Update.{Update}
use Rattle.ec_order.specs.Order.{Holds, InClosure, ask, need}
use Rattle.ec_history.specs.History.{Base, History, Op, Throughout, Each, same_start, of_start, is_one_of, of_issue, outcome, kept, kept_from, issued, issued_by, issued_from, without, Covers}
use Rattle.ec_history.specs.Legal.{IsLegal, IsLegalNext, is_op_of}
use Rattle.ec_history.specs.declared.entry.Entry.{Entry}
use Rattle.ec_history.specs.declared.entry.Entry.TheVariants as entry
use Rattle.ec_history.proofs.OfLaws.ForPlacing.More.{issued-append, issued-step, count-step}
use Rattle.ec_history.proofs.OfLaws.ForPlacing.BasesAlike.{each-map}

module _ {A : Type 0} (P : A → Type 0) where
  pub each-append : (xs ys : List A) → Each P xs → Each P ys → Each P (xs ++ ys)
  each-append [] ys h k = k
  each-append (x ∷ xs) ys h k = (h.0, each-append xs ys h.1 k)

  pub each-front : (xs ys : List A) → Each P (xs ++ ys) → Each P xs
  each-front [] ys h = tt
  each-front (x ∷ xs) ys h = (h.0, each-front xs ys h.1)

  pub each-back : (xs ys : List A) → Each P (xs ++ ys) → Each P ys
  each-back [] ys h = h
  each-back (x ∷ xs) ys h = each-back xs ys h.1

  pub each-filter : (p : A → Bool) (xs : List A) → Each P xs → Each P (filter p xs)
  each-filter p [] h = tt
  each-filter p (x ∷ xs) h = elim (p x) as (λ b. Each P (cond b (x ∷ filter p xs) (filter p xs))) [
    | true ↦ (h.0, each-filter p xs h.1)
    | false ↦ each-filter p xs h.1
  ]

-- What holds of all that is issued holds of all that is kept, and of what was issued before.
module _ (base : Base) (P : Op → Type 0) where
  kept_from-each : (ks : List Op) (h : History) → Each P ks → Each P (issued_from base ks h) → Each P (kept_from base ks h)
  kept_from-each ks [] k i = k
  kept_from-each ks ((p, entry.Call c b l begun cl a op) ∷ h) k i =
      let new : List Op = issued_by base ks (p, entry.Call c b l begun cl a op) in
      kept_from-each (ks ++ new) h (each-append P ks new k (each-front P new (issued_from base (ks ++ new) h) i)) (each-back P new (issued_from base (ks ++ new) h) i)
  kept_from-each ks ((p, entry.Loss c b ns) ∷ h) k i = kept_from-each (without c b ns ks) h (each-filter P (λ k. not (is_one_of c b ns k)) ks k) i

  pub kept-each : (h : History) → Each P (issued base h) → Each P (kept base h)
  kept-each h i = kept_from-each [] h tt i

  pub issued-front : (h g : History) → Each P (issued base (h ++ g)) → Each P (issued base h)
  issued-front h g i = each-front P (issued base h) (issued_from base (kept base h) g) (subst (Each P) (issued-append base h g) i)

  -- a property of entries, told by one of all that is issued
  pub throughout-issued : (Q R : History → ℕ × Entry → Type 0) → ((g : History) (e : ℕ × Entry) → Each P (issued base g) → Q g e → R g e)
      → (past h : History) → Each P (issued base (past ++ h)) → Throughout Q past h → Throughout R past h
  throughout-issued Q R f past [] i t = tt
  throughout-issued Q R f past (e ∷ h) i t =
      (f past e (issued-front past (e ∷ h) i) t.0, throughout-issued Q R f (past ++ e ∷ []) h (subst (λ x. Each P (issued base x)) (sym (append_assoc past (e ∷ []) h)) i) t.1)

-- how many operations of the start have been issued
abbrev pub count : ℕ → ℕ → History → ℕ
count c b h = length (filter (is_op_of c b) h)

-- an operation of the start has at most this number
abbrev pub IsUpTo : ℕ → ℕ → ℕ → Op → Type 0
IsUpTo c b m k = of_start c b k ≡ true → k.number ≤ m

module _ (base : Base) (most c b : ℕ) where
  new-up_to : (past : History) (e : ℕ × Entry) → IsLegalNext base most past e → Each (IsUpTo c b (count c b (past ++ e ∷ []))) (issued_by base (kept base past) e)
  new-up_to past (p, entry.Call d f l begun cl a None) n = tt
  new-up_to past (p, entry.Loss d f ns) n = tt
  new-up_to past (p, entry.Call d f l begun cl a (Some m)) n = go ((outcome base (kept base past) p cl).update)
    where
      own : (c == d) && (b == f) ≡ true → m ≤ count c b (past ++ (p, entry.Call d f l begun cl a (Some m)) ∷ [])
      own y =
          let k = and_parts (c == d) (b == f) y in
          let last : m ≡ count c b past + 1 = n.number ∙ ap (λ x. count x f past + 1) (sym (eqb-true c d k.0)) ∙ ap (λ x. count c x past + 1) (sym (eqb-true b f k.1)) in
          let one : length {A = ℕ × Entry} (cond (same_start c b d f && true) ((p, entry.Call d f l begun cl a (Some m)) ∷ []) []) ≡ 1 =
          ap (λ x. length {A = ℕ × Entry} (cond (x && true) ((p, entry.Call d f l begun cl a (Some m)) ∷ []) [])) y in
          omega (arith, last, one, count-step c b past (p, entry.Call d f l begun cl a (Some m)))

      go : (u : Option Update) → Each (IsUpTo c b (count c b (past ++ (p, entry.Call d f l begun cl a (Some m)) ∷ [])))
          (elim u [ None ↦ [] | Some w ↦ record { clerk = d; boot = f; number = m; place = p; update = w } ∷ [] ])
      go None = tt
      go (Some w) = (own, tt)

  issued-up_to-from : (past h : History) → Throughout (IsLegalNext base most) past h → Each (IsUpTo c b (count c b past)) (issued base past) → Each (IsUpTo c b (count c b (past ++ h))) (issued base (past ++ h))
  issued-up_to-from past [] t i = subst (λ x. Each (IsUpTo c b (count c b x)) (issued base x)) (sym (append-nil past)) i
  issued-up_to-from past (e ∷ h) t i =
      let old : Each (IsUpTo c b (count c b (past ++ e ∷ []))) (issued base past) = each-map (IsUpTo c b (count c b past)) (IsUpTo c b (count c b (past ++ e ∷ []))) (λ k u o. omega (arith, u o, count-step c b past e)) (issued base past) i in
      let all : Each (IsUpTo c b (count c b (past ++ e ∷ []))) (issued base (past ++ e ∷ [])) =
      subst (Each (IsUpTo c b (count c b (past ++ e ∷ [])))) (sym (issued-step base past e)) (each-append _ (issued base past) (issued_by base (kept base past) e) old (new-up_to past e t.0)) in
      subst (λ x. Each (IsUpTo c b (count c b x)) (issued base x)) (append_assoc past (e ∷ []) h) (issued-up_to-from (past ++ e ∷ []) h t.1 all)

  pub issued-up_to : (h : History) → IsLegal base most h → Each (IsUpTo c b (count c b h)) (issued base h)
  issued-up_to h t = issued-up_to-from [] h t tt

  pub kept-up_to : (h : History) → IsLegal base most h → Each (IsUpTo c b (count c b h)) (kept base h)
  kept-up_to h t = kept-each base (IsUpTo c b (count c b h)) h (issued-up_to h t)

-- A closure has issued operations alone.
closure-held : (is : List (ℕ × Update)) (asked : ℕ → Bool) (n : ℕ) → InClosure is asked n → (u : Update) × Holds is n u
closure-held is asked n (ask m u h t) = (u, h)
closure-held is asked n (need m k a b h i l t r) = (a, h)

holds-up_to : (c b m n : ℕ) (u : Update) (ks : List Op) → Each (IsUpTo c b m) ks → Holds (of_issue c b ks) n u → n ≤ m
holds-up_to c b m n u [] i h = absurd h
holds-up_to c b m n u (k ∷ ks) i h = go (of_start c b k) i.0 h (λ r. holds-up_to c b m n u ks i.1 r)
  where
    go : (x : Bool) → (x ≡ true → k.number ≤ m) → Holds (map (λ j. (j.number, j.update)) (cond x (k ∷ filter (of_start c b) ks) (filter (of_start c b) ks))) n u → (Holds (of_issue c b ks) n u → n ≤ m) → n ≤ m
    go true f (inl e) more = omega (arith, f refl, e.0)
    go true f (inr r) more = more r
    go false f r more = more r

-- an entry covers no operation that isn't issued before it
pub covers-up_to : (base : Base) (past : History) (e : ℕ × Entry) (c b m n : ℕ) → Each (IsUpTo c b m) (issued base past) → Covers base past e c b n → n ≤ m
covers-up_to base past e c b m n i v =
    let h = closure-held (of_issue c b (issued base past)) _ n v.closed_in in
    holds-up_to c b m n h.0 (issued base past) i h.1
