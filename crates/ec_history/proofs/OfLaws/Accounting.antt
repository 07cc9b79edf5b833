-- Each operation that a start issued is durable, lost, or of its open session and not durable: line by line.
use Rattle.std.proofs.Common.{◌≡◌, refl, sym, ap, subst, ◌∙◌, inl, inr, arith, ◌≤◌, ◌+◌, ◌⊎◌, ℕ, zero, suc, T, Bool, true, false, not, ◌==◌, ◌&&◌, ◌||◌, cond, length, List, [], ◌∷◌, ◌++◌, Option, Some, None, is_some, is_none, append-nil}
use Rattle.std.specs.List.{filter, list_all}
use Rattle.std.proofs.lemmas.Bool.{cond-true, cond-false, cases_Bool, and_parts, and_from, or_left, or_right, eqb-true, eq-eqb}
use Rattle.std.proofs.lemmas.List.Elements.{filter-append}
use Rattle.std.proofs.lemmas.List.{length-append}
use Rattle.ec_volume.specs.Image.{is_id}
use Rattle.ec_volume.specs.Update.{listed, member}
use Rattle.ec_volume.specs.declared.update.Update.{Update}
use Rattle.ec_plain.specs.declared.call.Call.{Call}
use Rattle.ec_history.specs.History.{Base, History, Op, Each, same_start, of_start, names, is_lost, outcome, issued, issued_by}
use Rattle.ec_history.specs.Legal.{is_op_of}
use Rattle.ec_history.specs.Lines.{durable, made_durable}
use Rattle.ec_history.specs.Placing.{watch, watch_next, begun, answered, owner, shows, gives_entry, may_show, place, same_numbers}
use Rattle.ec_history.specs.declared.entry.Answer.{Answer}
use Rattle.ec_history.specs.declared.entry.Entry.{Entry}
use Rattle.ec_history.specs.declared.entry.Entry.TheVariants as entry
use Rattle.ec_history.specs.declared.watch.Watch.{Watch}
use Rattle.ec_history.specs.declared.shown.Shown.{Shown}
use Rattle.ec_history.specs.declared.shown.Shown.TheVariants.{Answered, Durable, Ended}
use Rattle.ec_history.proofs.OfLaws.ForPlacing.Late.{place-ended}
use Rattle.ec_history.proofs.OfLaws.ForPlacing.Held.{place-other}
use Rattle.ec_history.proofs.OfLaws.ForPlacing.More.{count-next, durable-step, issued-step, watch-step}
use Rattle.ec_history.proofs.OfLaws.ForPlacing.Numbers.{each-append, each-back, each-front}
use Rattle.ec_history.proofs.OfLaws.ForPlacing.Watching.{closed-undurable}
use Rattle.ec_history.specs.OfLaws.Accounts.{IsUndurable, IsAccounted, count_of}
use Rattle.ec_history.proofs.OfLaws.Members.{left-apart, left-or, lost-left, member-all, member-left, member-parts, member-right}
use Rattle.ec_history.proofs.OfLaws.Watched.{Has, begun-has, has-begun, stays, was, own}
use Rattle.ec_base.specs.Options.{or_zero}
use Rattle.ec_base.proofs.Numbers.{same-self as self}
use Rattle.ec_base.proofs.Bools.{clash as off, none as off-from, on, is-true as is_on}
use Rattle.ec_history.proofs.OfLaws.ForPlacing.BasesAlike.{each-map}

abbrev pub Accounts : Base → List Shown → Type 0
Accounts base ss = (c b : ℕ) → Each (λ k. of_start c b k ≡ true → IsAccounted c b k.number ss) (issued base (place ss))

-- what the lines name as durable or not is apart, and was issued
pub record Named (ss : List Shown) : Type 0 where
  pub apart : (c b n : ℕ) → IsUndurable c b n ss → T (not (member n (durable c b ss)))
  pub counted : (c b n : ℕ) → T (member n (durable c b ss)) ⊎ IsUndurable c b n ss → n ≤ count_of c b ss

pub has-of : (c b n : ℕ) (ss : List Shown) → IsUndurable c b n ss → Has b n (watch c ss)
has-of c b n ss u = (u.open_start, u.among)

pub of-has : (c b n : ℕ) (ss : List Shown) → Has b n (watch c ss) → IsUndurable c b n ss
of-has c b n ss h = record { open_start = h.0; among = h.1 }

-- behind one more line the watch is that behind it
pub now-has : (c b n : ℕ) (ss : List Shown) (s : Shown) → Has b n (watch_next c (watch c ss) s) → IsUndurable c b n (ss ++ s ∷ [])
now-has c b n ss s h = of-has c b n (ss ++ s ∷ []) (subst (Has b n) (sym (watch-step c ss s)) h)

pub has-now : (c b n : ℕ) (ss : List Shown) (s : Shown) → IsUndurable c b n (ss ++ s ∷ []) → Has b n (watch_next c (watch c ss) s)
has-now c b n ss s u = subst (Has b n) (watch-step c ss s) (has-of c b n (ss ++ s ∷ []) u)

-- what is durable stays so
pub stays-durable : (c b n : ℕ) (ss : List Shown) (s : Shown) → T (member n (durable c b ss)) → T (member n (durable c b (ss ++ s ∷ [])))
stays-durable c b n ss s t = subst (λ x. T (member n x)) (sym (durable-step c b ss s)) (member-left n (durable c b ss) _ t)

module _ (base : Base) (ss : List Shown) (s : Shown) (a : Accounts base ss) where
  -- the operations stay, and so do losses
  pub accounts-stay : issued base (place (ss ++ s ∷ [])) ≡ issued base (place ss) → ((c b n : ℕ) → T (is_lost c b n (place ss)) → T (is_lost c b n (place (ss ++ s ∷ []))))
      → ((c b n : ℕ) → IsUndurable c b n ss → IsAccounted c b n (ss ++ s ∷ [])) → Accounts base (ss ++ s ∷ [])
  accounts-stay same lost later c b =
      subst (Each _) (sym same) (each-map _ (λ k. of_start c b k ≡ true → IsAccounted c b k.number (ss ++ s ∷ [])) (λ k f o. elim (f o) [
        | inl y ↦ inl (stays-durable c b k.number ss s y)
        | inr (inl y) ↦ inr (inl (lost c b k.number y))
        | inr (inr y) ↦ later c b k.number y
      ]) (issued base (place ss)) (a c b))

  -- no entry comes
  pub accounts-plain : place (ss ++ s ∷ []) ≡ place ss → ((c b n : ℕ) → IsUndurable c b n ss → IsAccounted c b n (ss ++ s ∷ [])) → Accounts base (ss ++ s ∷ [])
  accounts-plain e later = accounts-stay (ap (issued base) e) (λ c b n t. subst (λ h. T (is_lost c b n h)) (sym e) t) later

-- A line that leaves the open session and its operations.
module _ (ss : List Shown) (s : Shown) (gives : (c b : ℕ) (w : Watch) → gives_entry c b w s ≡ false)
    (stays : (c b n : ℕ) → Has b n (watch c ss) → Has b n (watch_next c (watch c ss) s)) (back : (c b n : ℕ) → Has b n (watch_next c (watch c ss) s) → Has b n (watch c ss))
    (none : (c b : ℕ) → made_durable c b (watch c ss) s ≡ []) where
  same-place : place (ss ++ s ∷ []) ≡ place ss
  same-place = place-other ss s gives

  pub accounts-quiet : (base : Base) → Accounts base ss → Accounts base (ss ++ s ∷ [])
  accounts-quiet base a = accounts-plain base ss s a same-place (λ c b n u. inr (inr (now-has c b n ss s (stays c b n (has-of c b n ss u)))))

  pub named-quiet : Named ss → Named (ss ++ s ∷ [])
  named-quiet m = record {
    apart = λ c b n u. subst (λ l. T (not (member n l))) (sym (same c b)) (m.apart c b n (of-has c b n ss (back c b n (has-now c b n ss s u))));
    counted = λ c b n k. subst (λ h. n ≤ length (filter (is_op_of c b) h)) (sym same-place) (m.counted c b n (elim k [
      | inl t ↦ inl (subst (λ l. T (member n l)) (same c b) t)
      | inr u ↦ inr (of-has c b n ss (back c b n (has-now c b n ss s u)))
    ]));
  }
    where
      same : (c b : ℕ) → durable c b (ss ++ s ∷ []) ≡ durable c b ss
      same c b = durable-step c b ss s ∙ ap (λ l. durable c b ss ++ l) (none c b) ∙ append-nil (durable c b ss)

-- A durable line: its operations are durable now.
module _ (ss : List Shown) (d : ℕ) (ns : List ℕ) where
  abbrev s : Shown
  s = Durable d ns

  abbrev left : Watch → Watch
  left w = record w { undurable = filter (λ m. not (member m ns)) w.undurable }

  away : (c : ℕ) → (c == d) ≡ false → watch_next c (watch c ss) s ≡ watch c ss
  away c y = cond-false (c == d) (left (watch c ss)) (watch c ss) y

  here : (c : ℕ) → (c == d) ≡ true → watch_next c (watch c ss) s ≡ left (watch c ss)
  here c y = cond-true (c == d) (left (watch c ss)) (watch c ss) y

  made : (c b n : ℕ) → (c == d) ≡ true → (watch c ss).open_start ≡ Some b → T (member n ns) → T (member n (durable c b (ss ++ s ∷ [])))
  made c b n y o h = subst (λ x. T (member n x)) (sym (durable-step c b ss s)) (member-right n (durable c b ss) (made_durable c b (watch c ss) s)
      (subst (λ x. T (member n x)) (sym (cond-true ((c == d) && is_id b (watch c ss).open_start) ns [] (and_from (c == d) _ y (ap (is_id b) o ∙ self b)))) h))

  same-at : place (ss ++ s ∷ []) ≡ place ss
  same-at = place-other ss s (λ c b w. refl)

  pub accounts-durable : (base : Base) → Accounts base ss → Accounts base (ss ++ s ∷ [])
  accounts-durable base a = accounts-plain base ss s a same-at λ c b n u. elim (cases_Bool (c == d)) [
    | inr y ↦ inr (inr (now-has c b n ss s (subst (Has b n) (sym (away c y)) (has-of c b n ss u))))
    | inl y ↦ elim (left-or n ns (watch c ss).undurable u.among) [
      | inl h ↦ inl (made c b n y u.open_start h)
      | inr h ↦ inr (inr (now-has c b n ss s (subst (Has b n) (sym (here c y)) (u.open_start, h))))
    ]
  ]

  -- what it names was not durable
  pub named-durable : T (list_all (λ n. member n (watch d ss).undurable) ns) → Named ss → Named (ss ++ s ∷ [])
  named-durable may m = record {
    apart = λ c b n u. elim (cases_Bool (c == d)) [
      | inr y ↦ off-from _ (λ t. off _ (m.apart c b n (of-has c b n ss (subst (Has b n) (away c y) (has-now c b n ss s u)))) (not-more c b n y t))
      | inl y ↦
          let h : Has b n (left (watch c ss)) = subst (Has b n) (here c y) (has-now c b n ss s u) in
          let p = left-apart n ns (watch c ss).undurable h.1 in
          off-from _ (λ t. elim (parts c b n t) [ inl x ↦ off _ (m.apart c b n (of-has c b n ss (h.0, p.0))) x | inr x ↦ off _ p.1 x.1 ])
    ];
    counted = λ c b n k. subst (λ h. n ≤ length (filter (is_op_of c b) h)) (sym same-at) (m.counted c b n (elim k [
      | inl t ↦ elim (parts c b n t) [
        | inl x ↦ inl x
        | inr x ↦ inr (of-has c b n ss (x.0.1, subst (λ j. T (member n (watch j ss).undurable)) (sym (eqb-true c d x.0.0)) (member-all (λ i. member i (watch d ss).undurable) n ns may x.1)))
      ]
      | inr u ↦ inr (elim (cases_Bool (c == d)) [
        | inr y ↦ of-has c b n ss (subst (Has b n) (away c y) (has-now c b n ss s u))
        | inl y ↦ let h : Has b n (left (watch c ss)) = subst (Has b n) (here c y) (has-now c b n ss s u) in of-has c b n ss (h.0, (left-apart n ns (watch c ss).undurable h.1).0)
      ])
    ]));
  }
    where
      id-is : (b : ℕ) (o : Option ℕ) → is_id b o ≡ true → o ≡ Some b
      id-is b None e = absurd (on e)
      id-is b (Some a) e = ap Some (sym (eqb-true b a e))

      parts : (c b n : ℕ) → T (member n (durable c b (ss ++ s ∷ []))) → T (member n (durable c b ss)) ⊎ ((((c == d) ≡ true) × ((watch c ss).open_start ≡ Some b)) × T (member n ns))
      parts c b n t = elim (member-parts n (durable c b ss) (made_durable c b (watch c ss) s) (subst (λ l. T (member n l)) (durable-step c b ss s) t)) [
        | inl x ↦ inl x
        | inr x ↦ go ((c == d) && is_id b (watch c ss).open_start) refl x
      ]
        where
          go : (z : Bool) → ((c == d) && is_id b (watch c ss).open_start) ≡ z → T (member n (cond z ns [])) → T (member n (durable c b ss)) ⊎ ((((c == d) ≡ true) × ((watch c ss).open_start ≡ Some b)) × T (member n ns))
          go true e x = let p = and_parts (c == d) _ e in inr ((p.0, id-is b (watch c ss).open_start p.1), x)
          go false e x = absurd x

      not-more : (c b n : ℕ) → (c == d) ≡ false → T (member n (durable c b (ss ++ s ∷ []))) → T (member n (durable c b ss))
      not-more c b n y t = elim (parts c b n t) [ inl x ↦ x | inr x ↦ absurd (true-false (sym x.0.0 ∙ y)) ]
        where
          true-false : true ≡ false → ⊥
          true-false q = cc
