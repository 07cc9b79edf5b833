-- What the lines tell of operations behind an answer.
use Rattle.std.proofs.Common.{◌≡◌, refl, sym, ap, subst, ◌∙◌, inl, inr, arith, ◌+◌, ◌-◌, ◌≤◌, ◌⊎◌, ℕ, suc, T, Bool, true, false, not, ◌==◌, ◌&&◌, ◌||◌, cond, map, length, List, [], ◌∷◌, ◌++◌, Option, Some, None, is_some, append-nil}
use Rattle.std.specs.Prelude.{take}
use Rattle.std.specs.List.{filter, list_any}
use Rattle.std.proofs.lemmas.Bool.{cond-true, cond-false, cases_Bool, and_parts, and_from, eqb-true, eq-eqb, true≢false}
use Rattle.ec_volume.specs.Update.{listed, member}
use Rattle.ec_volume.specs.declared.update.Update.{Update}
use Rattle.ec_plain.specs.declared.call.Call.{Call}
use Rattle.ec_order.specs.Order.{Issued, Holds, InClosure, ask, need}
use Rattle.ec_history.specs.History.{Base, History, Op, Each, Throughout, Covers, same_start, of_start, of_issue, names, is_lost, is_entry_of, outcome, kept, issued, issued_by, issued_from}
use Rattle.ec_history.specs.Legal.{IsLegal, IsLegalNext, IsLawful, is_op_of}
use Rattle.ec_history.specs.Lines.{durable, IsCovered}
use Rattle.ec_history.specs.Placing.{watch, watch_next, unwatched, begun, answered, shows, may_show, last_place, before_line, place, MayFollow}
use Rattle.ec_history.specs.declared.entry.Answer.{Answer}
use Rattle.ec_history.specs.declared.entry.Entry.{Entry}
use Rattle.ec_history.specs.declared.entry.Entry.TheVariants as entry
use Rattle.ec_history.specs.declared.watch.Watch.{Watch}
use Rattle.ec_history.specs.declared.shown.Shown.{Shown}
use Rattle.ec_history.specs.declared.shown.Shown.TheVariants.{Answered}
use Rattle.ec_history.proofs.OfLaws.ForPlacing.Cuts.{placeable-split, throughout-front, throughout-back}
use Rattle.ec_history.proofs.OfLaws.ForPlacing.Held.{place-late}
use Rattle.ec_history.proofs.OfLaws.ForPlacing.More.{durable-step, issued-append, watch-step}
use Rattle.ec_history.proofs.OfLaws.ForPlacing.Numbers.{each-append, each-back, each-front}
use Rattle.ec_history.proofs.OfLaws.ForPlacing.Watching.{closed-undurable, untold-runs}
use Rattle.ec_history.specs.OfLaws.Accounts.{IsUndurable, IsAccounted}
use Rattle.ec_history.specs.OfLaws.Laws.{OneMore}
use Rattle.ec_history.proofs.OfLaws.Members.{lost-left, lost-parts, lost-right, member-left, member-right, none_some, some_is}
use Rattle.ec_history.proofs.OfLaws.Watched.{Has, begun-has, has-begun, listed-has, stays, was, own}
use Rattle.ec_history.proofs.OfLaws.Accounting.{Accounts, Named, has-now, has-of, now-has, of-has, stays-durable}
use Rattle.ec_history.proofs.OfLaws.Answering.{Grows, b, e, grows, number-last}
use Rattle.ec_base.proofs.Numbers.{same-self as self}
use Rattle.ec_base.proofs.Bools.{clash as off, none as off-from, on, is-true as is_on}
use Rattle.ec_base.proofs.Lists.{all-taken}
use Rattle.ec_history.proofs.OfLaws.ForPlacing.BasesAlike.{each-map}

-- a call's own operation
each-own : (P : Op → Type 0) (base : Base) (ks : List Op) (p c f l g : ℕ) (cl : Call) (a : Answer) (op : Option ℕ)
    → ((n : ℕ) (u : Update) → op ≡ Some n → P (record { clerk = c; boot = f; number = n; place = p; update = u })) → Each P (issued_by base ks (p, entry.Call c f l g cl a op))
each-own P base ks p c f l g cl a None k = tt
each-own P base ks p c f l g cl a (Some n) k = go ((outcome base ks p cl).update)
  where
    go : (u : Option Update) → Each P (elim u [ None ↦ [] | Some v ↦ record { clerk = c; boot = f; number = n; place = p; update = v } ∷ [] ])
    go None = tt
    go (Some v) = (k n v refl, tt)

-- a closure has issued operations alone
pub closure-held : (is : Issued) (asked : ℕ → Bool) (n : ℕ) → InClosure is asked n → (u : Update) × Holds is n u
closure-held is asked n (ask m u h t) = (u, h)
closure-held is asked n (need m k x y h i l t r) = (x, h)

held-each : (c f n : ℕ) (u : Update) (Q : ℕ → Type 0) (ks : List Op) → Each (λ k. of_start c f k ≡ true → Q k.number) ks → Holds (of_issue c f ks) n u → Q n
held-each c f n u Q [] all h = absurd h
held-each c f n u Q (k ∷ ks) all h = go (of_start c f k) all.0 h (λ r. held-each c f n u Q ks all.1 r)
  where
    go : (x : Bool) → (x ≡ true → Q k.number) → Holds (map (λ j. (j.number, j.update)) (cond x (k ∷ filter (of_start c f) ks) (filter (of_start c f) ks))) n u → (Holds (of_issue c f ks) n u → Q n) → Q n
    go true g (inl q) more = subst Q q.0 (g refl)
    go true g (inr r) more = more r
    go false g r more = more r

above : (ss : List Shown) → take ((length ss + 1) - 1) ss ≡ ss
above ss = ap (λ k. take k ss) (less (length ss)) ∙ all-taken ss
  where
    less : (m : ℕ) → (m + 1) - 1 ≡ m
    less m = omega arith

-- what a lawful loss behind an entry names the entry doesn't cover
uncovered : (base : Base) (most : ℕ) (past front rest : History) (x : ℕ × Entry) (c f n : ℕ) → IsLegalNext base most past x → Covers base past x c f n
    → Throughout (IsLegalNext base most) ((past ++ x ∷ []) ++ front) rest → T (is_lost c f n rest) → ⊥
uncovered base most past front [] x c f n k v t m = m
uncovered base most past front ((q, entry.Call d i l g cl a op) ∷ rest) x c f n k v t m =
    uncovered base most past (front ++ (q, entry.Call d i l g cl a op) ∷ []) rest x c f n k v (subst (λ h. Throughout (IsLegalNext base most) h rest) (assoc (past ++ x ∷ []) front (q, entry.Call d i l g cl a op)) t.1) m
  where
    assoc : (xs ys : History) (z : ℕ × Entry) → (xs ++ ys) ++ z ∷ [] ≡ xs ++ (ys ++ z ∷ [])
    assoc [] ys z = refl
    assoc (y ∷ xs) ys z = ap (λ w. y ∷ w) (assoc xs ys z)
uncovered base most past front ((q, entry.Loss d i ns) ∷ rest) x c f n k v t m = go (names c f n (entry.Loss d i ns)) refl m
    (λ r. uncovered base most past (front ++ (q, entry.Loss d i ns) ∷ []) rest x c f n k v (subst (λ h. Throughout (IsLegalNext base most) h rest) (assoc (past ++ x ∷ []) front (q, entry.Loss d i ns)) t.1) r)
  where
    assoc : (xs ys : History) (z : ℕ × Entry) → (xs ++ ys) ++ z ∷ [] ≡ xs ++ (ys ++ z ∷ [])
    assoc [] ys z = refl
    assoc (y ∷ xs) ys z = ap (λ w. y ∷ w) (assoc xs ys z)

    each-at : (P : ℕ → Type 0) (ms : List ℕ) → Each P ms → T (member n ms) → P n
    each-at P [] y m = absurd m
    each-at P (j ∷ ms) y m = at (n == j) refl m (each-at P ms y.1)
      where
        at : (z : Bool) → (n == j) ≡ z → T (z || member n ms) → (T (member n ms) → P n) → P n
        at true r m more = subst P (sym (eqb-true n j r)) y.0
        at false r m more = more m

    go : (z : Bool) → names c f n (entry.Loss d i ns) ≡ z → T (z || is_lost c f n rest) → (T (is_lost c f n rest) → ⊥) → ⊥
    go false r m more = more m
    go true r m more =
        let both = and_parts (same_start c f d i) (member n ns) r in
        let ids = and_parts (c == d) (f == i) both.0 in
        let here = throughout-front (λ h y. Each (λ j. ¬ (Covers base h y d i j)) ns) [] (past ++ x ∷ []) front (t.0).uncovered in
        let last = (throughout-back (λ h y. Each (λ j. ¬ (Covers base h y d i j)) ns) [] past (x ∷ []) here).0 in
        each-at (λ j. ¬ (Covers base past x d i j)) ns last (on both.1) (subst (λ y. Covers base past x y i n) (eqb-true c d ids.0) (subst (λ y. Covers base past x c y n) (eqb-true f i ids.1) v))

module _ (base : Base) (most : ℕ) (ss : List Shown) (c l : ℕ) (cl : Call) (a : Answer) (op : Option ℕ) (more : OneMore base most ss (Answered l c cl a op)) where
  abbrev line : Shown
  line = Answered l c cl a op

  abbrev lines : List Shown
  lines = ss ++ line ∷ []

  abbrev entry-of : ℕ × Entry
  entry-of = e ss c l cl a op

  abbrev start : ℕ
  start = b ss c l cl a op

  g : Grows base most (place ss) (place lines) entry-of
  g = grows ss c l cl a op base most more.legal

  here : (d : ℕ) → (d == c) ≡ true → watch_next d (watch d ss) line ≡ answered (begun (watch d ss)) (shows cl a) op
  here d y = cond-true (d == c) (answered (begun (watch d ss)) (shows cl a) op) (watch d ss) y

  away : (d : ℕ) → (d == c) ≡ false → watch_next d (watch d ss) line ≡ watch d ss
  away d y = cond-false (d == c) (answered (begun (watch d ss)) (shows cl a) op) (watch d ss) y

  early-begun : (d : ℕ) → (begun (watch d ss)).early ≡ []
  early-begun d = on-begun (watch d ss) (more.early_before d)
    where
      on-begun : (w : Watch) → w.early ≡ [] → (begun w).early ≡ []
      on-begun w q = go w.running
        where
          go : (r : Bool) → (cond r w (record w { starts = w.starts + 1; running = true })).early ≡ []
          go true = q
          go false = q

  early-behind : (d : ℕ) → (d == c) ≡ true → (answered (begun (watch d ss)) (shows cl a) op).early ≡ []
  early-behind d y = ap (λ w. w.early) (sym (here d y) ∙ sym (watch-step d ss line)) ∙ more.early d

  closed-begun : (d : ℕ) → (begun (watch d ss)).open_start ≡ None → (begun (watch d ss)).undurable ≡ []
  closed-begun d = go (watch d ss) (closed-undurable d ss)
    where
      go : (w : Watch) → (w.open_start ≡ None → w.undurable ≡ []) → (begun w).open_start ≡ None → (begun w).undurable ≡ []
      go w f = by w.running
        where
          by : (r : Bool) → (cond r w (record w { starts = w.starts + 1; running = true })).open_start ≡ None → (cond r w (record w { starts = w.starts + 1; running = true })).undurable ≡ []
          by true = f
          by false = f

  -- what was not durable still isn't
  still : (d f n : ℕ) → IsUndurable d f n ss → IsUndurable d f n lines
  still d f n u = now-has d f n ss line (elim (cases_Bool (d == c)) [
    | inr y ↦ subst (Has f n) (sym (away d y)) (has-of d f n ss u)
    | inl y ↦ subst (Has f n) (sym (here d y)) (stays (begun (watch d ss)) (shows cl a) op (early-begun d) (early-behind d y) (closed-begun d) f n (has-begun f n (watch d ss) (has-of d f n ss u)))
  ])

  same-durable : (d f : ℕ) → durable d f lines ≡ durable d f ss
  same-durable d f = durable-step d f ss line ∙ append-nil (durable d f ss)

  -- The call's own operation, if it has one, is of the open session, or lost.

  placeable : MayFollow ss line
  placeable = (placeable-split ss (line ∷ []) more.placeable).1.0

  untold-begun : (begun (watch c ss)).untold ≡ (watch c ss).untold
  untold-begun = go (watch c ss).running
    where
      go : (r : Bool) → (cond r (watch c ss) (record (watch c ss) { starts = (watch c ss).starts + 1; running = true })).untold ≡ (watch c ss).untold
      go true = refl
      go false = refl

  own-told : (n : ℕ) → op ≡ Some n → IsAccounted c start n lines
  own-told n q = go (watch c ss).untold refl
    where
      go : (u : Option (List ℕ)) → (watch c ss).untold ≡ u → IsAccounted c start n lines
      go None z = inr (inr (now-has c start n ss line (subst (Has start n) (sym (here c (self c)))
          (own (begun (watch c ss)) (shows cl a) op (early-begun c) (early-behind c (self c)) (closed-begun c) n q (untold-begun ∙ z) placeable.2))))
      go (Some ns) z =
          let p = place-late ss c ns z in
          let same : (watch c ss).starts ≡ start = ap (λ w. w.starts) (sym (untold-runs c ss ns z).2) in
          inr (inl (subst (λ h. T (is_lost c start n h)) (sym (p.5 l cl a op)) (lost-right c start n (p.0 ++ entry-of ∷ []) ((p.1, entry.Loss c (watch c ss).starts (ns ++ listed op)) ∷ p.2)
          (lost-left c start n ((p.1, entry.Loss c (watch c ss).starts (ns ++ listed op)) ∷ []) p.2 (on (ap (λ x. x || false) (and_from (same_start c start c (watch c ss).starts) _
          (and_from (c == c) _ (self c) (eq-eqb start (watch c ss).starts (sym same))) (is_on _ (member-right n ns (listed op) (subst (λ o. T (member n (listed o))) (sym q) (listed-has n)))))))))))

  abbrev IsTold : ℕ → ℕ → Op → Type 0
  IsTold d f k = of_start d f k ≡ true → IsAccounted d f k.number lines

  pub accounts-answered : Accounts base ss → Accounts base lines
  accounts-answered acc d f =
      subst (Each (IsTold d f)) (sym g.is) (each-append (IsTold d f) (issued base g.past) (issued_by base (kept base g.past) entry-of ++ g.back) (each-front (IsTold d f) (issued base g.past) g.back old)
      (each-append (IsTold d f) (issued_by base (kept base g.past) entry-of) g.back mine (each-back (IsTold d f) (issued base g.past) g.back old)))
    where
      old : Each (IsTold d f) (issued base g.past ++ g.back)
      old = subst (Each (IsTold d f)) g.was (each-map _ (IsTold d f) (λ k h o. elim (h o) [
        | inl y ↦ inl (stays-durable d f k.number ss line y)
        | inr (inl y) ↦ inr (inl (g.lost d f k.number y))
        | inr (inr y) ↦ inr (inr (still d f k.number y))
      ]) (issued base (place ss)) (acc d f))

      mine : Each (IsTold d f) (issued_by base (kept base g.past) entry-of)
      mine = each-own (IsTold d f) base (kept base g.past) (length ss + 1) c start l (last_place c start unwatched 1 0 (before_line l ss)) cl a op λ n u q o.
          let p = and_parts (d == c) (f == start) o in
          subst (λ x. IsAccounted x f n lines) (sym (eqb-true d c p.0)) (subst (λ x. IsAccounted c x n lines) (sym (eqb-true f start p.1)) (own-told n q))

  -- what isn't durable behind it wasn't before, or is its own operation
  was-or : (d f n : ℕ) → IsUndurable d f n lines → IsUndurable d f n ss ⊎ ((d ≡ c) × (f ≡ start) × (op ≡ Some n) × ((watch c ss).untold ≡ None))
  was-or d f n u = elim (cases_Bool (d == c)) [
    | inr y ↦ inl (of-has d f n ss (subst (Has f n) (away d y) (has-now d f n ss line u)))
    | inl y ↦
        let q : d ≡ c = eqb-true d c y in
        let h : Has f n (answered (begun (watch c ss)) (shows cl a) op) = subst (λ x. Has f n (answered (begun (watch x ss)) (shows cl a) op)) q (subst (Has f n) (here d y) (has-now d f n ss line u)) in
        elim (was (begun (watch c ss)) (shows cl a) op (early-begun c) (early-behind c (self c)) (closed-begun c) placeable.2 f n h) [
          | inl x ↦ inl (subst (λ z. IsUndurable z f n ss) (sym q) (of-has c f n ss (begun-has f n (watch c ss) x)))
          | inr x ↦ inr (q, x.2, x.0, sym untold-begun ∙ x.1)
        ]
  ]

  grown : (x : Bool) (m : ℕ) → m ≤ cond x (m + 1) m
  grown true m = omega arith
  grown false m = omega arith

  pub named-answered : Named ss → Named lines
  named-answered m = record {
    apart = λ d f n u. subst (λ x. T (not (member n x))) (sym (same-durable d f)) (elim (was-or d f n u) [
      | inl x ↦ m.apart d f n x
      | inr x ↦ off-from _ (λ t. fresh n x.2 x.3 (subst (λ z. T (member n (durable c z ss))) x.1 (subst (λ z. T (member n (durable z f ss))) x.0 t)))
    ]);
    counted = λ d f n k. subst (λ x. n ≤ x) (sym (g.counts d f)) (elim k [
      | inl t ↦ omega (arith, m.counted d f n (inl (subst (λ x. T (member n x)) (same-durable d f) t)), grown (is_op_of d f entry-of) (length (filter (is_op_of d f) (place ss))))
      | inr u ↦ elim (was-or d f n u) [
        | inl x ↦ omega (arith, m.counted d f n (inr x), grown (is_op_of d f entry-of) (length (filter (is_op_of d f) (place ss))))
        | inr x ↦ last d f n x.0 x.1 x.2 x.3
      ]
    ]);
  }
    where
      number : (n : ℕ) → op ≡ Some n → (watch c ss).untold ≡ None → n ≡ length (filter (is_op_of c start) (place ss)) + 1
      number n q z = number-last ss c l cl a op base most more.legal z n q

      fresh : (n : ℕ) → op ≡ Some n → (watch c ss).untold ≡ None → T (member n (durable c start ss)) → ⊥
      fresh n q z t = omega (arith, m.counted c start n (inl t), number n q z)

      last : (d f n : ℕ) → d ≡ c → f ≡ start → op ≡ Some n → (watch c ss).untold ≡ None → n ≤ cond (is_op_of d f entry-of) (length (filter (is_op_of d f) (place ss)) + 1) (length (filter (is_op_of d f) (place ss)))
      last d f n x y q z =
          let is : is_op_of c start entry-of ≡ true = and_from (same_start c start c start) (is_some op) (and_from (c == c) _ (self c) (self start)) (ap is_some q) in
          subst (λ i. n ≤ cond (is_op_of i f entry-of) (length (filter (is_op_of i f) (place ss)) + 1) (length (filter (is_op_of i f) (place ss)))) (sym x)
          (subst (λ i. n ≤ cond (is_op_of c i entry-of) (length (filter (is_op_of c i) (place ss)) + 1) (length (filter (is_op_of c i) (place ss)))) (sym y)
          (subst (λ i. n ≤ i) (sym (cond-true (is_op_of c start entry-of) (length (filter (is_op_of c start) (place ss)) + 1) (length (filter (is_op_of c start) (place ss))) is)) (omega (arith, number n q z))))

  -- durable lines above it name what it covers
  covers-new : Accounts base lines → IsCovered base ss g.past entry-of
  covers-new acc n v = subst (λ x. T (member n (durable c start x))) (sym (above ss)) (elim accounted [
    | inl y ↦ subst (λ x. T (member n x)) (same-durable c start) y
    | inr (inl y) ↦ absurd (elim (lost-parts c start n g.past (entry-of ∷ g.rest) (subst (λ h. T (is_lost c start n h)) g.at y)) [
      | inl x ↦ off _ v.not_lost x
      | inr x ↦ uncovered base most g.past [] g.rest entry-of c start n g.legal v rest-legal x
    ])
    | inr (inr y) ↦ absurd ((throughout-back _ [] g.past (entry-of ∷ g.rest) (subst (Throughout _ []) g.at more.settled)).0 c start n v y)
  ])
    where
      front : Each (λ k. of_start c start k ≡ true → IsAccounted c start k.number lines) (issued base g.past)
      front = each-front _ (issued base g.past) _ (subst (Each _) g.is (acc c start))

      accounted : IsAccounted c start n lines
      accounted =
          let h = closure-held (of_issue c start (issued base g.past)) _ n v.closed_in in
          held-each c start n h.0 (λ m. IsAccounted c start m lines) (issued base g.past) front h.1

      rest-legal : Throughout (IsLegalNext base most) ((g.past ++ entry-of ∷ []) ++ []) g.rest
      rest-legal = subst (λ h. Throughout (IsLegalNext base most) h g.rest) (sym (append-nil (g.past ++ entry-of ∷ []))) (throughout-back (IsLegalNext base most) [] g.past (entry-of ∷ g.rest) (subst (IsLegal base most) g.at more.legal)).1

  pub covered-answered : Accounts base lines → Throughout (IsCovered base ss) [] (place ss) → Throughout (IsCovered base ss) [] (place lines)
  covered-answered acc t = g.covers ss t (covers-new acc)
