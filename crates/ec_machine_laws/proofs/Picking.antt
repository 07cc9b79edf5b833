-- What picks say.
use Rattle.std.proofs.Common.{◌≡◌, refl, sym, ap, subst, ◌∙◌, inl, inr, arith, ◌+◌, ◌<◌, ◌≤◌, ℕ, T, Bool, true, false, not, ◌==◌, ◌&&◌, cond, List, [], ◌∷◌, ◌++◌, take, Option, Some, None}
use Rattle.std.specs.Ordering.{nat_cmp}
use Rattle.std.specs.FinMap.{is_sorted}
use Rattle.std.specs.FinMap.Entries.{below_all}
use Rattle.std.specs.List.{filter, list_any, list_all}
use Rattle.std.proofs.lemmas.Bool.{cases_Bool, or_cases, eqb-true, true≢false}
use Rattle.ec_base.specs.Tables.{Table, keys, first as first_that}
use Rattle.ec_volume.specs.Update.{member}
use Rattle.ec_volume.specs.declared.update.Update.{Update}
use Rattle.ec_order.specs.Order.{Issued, Holds, InClosure, ask, closure, needs}
use Rattle.ec_history.proofs.OfLaws.ForPlacing.Least.{list-complete, list-part, list-sorted, needed-by_number, closure-needed, closure-within, closure-rest, taken-needed}
use Rattle.ec_log.specs.Log.{is_asked, asked_for, first_number, first, closure_of, has_one_of, in_window, least, new_batch, pick_from, pick}
use Rattle.ec_log.specs.declared.state.Asked.{Asked}
use Rattle.ec_log.specs.declared.state.Pick.{Pick}
use Rattle.ec_log.specs.declared.state.Pick.TheVariants.{Batch, Settled, Behind, Window}
use Rattle.ec_log.specs.declared.state.LogState.{LogState}
use Rattle.ec_machine_laws.specs.Picks.{IsAskedIn, IsPicked, IsAtWindow, Says, IsRest, HoldNeeds}
use Rattle.ec_machine_laws.proofs.Holding.{number-of, held-by, holds-front, holds-passed, holds-kept, sorted-part, take-holds, above-holds}
use Rattle.ec_base.proofs.Numbers.{same-self}
use Rattle.ec_base.proofs.Bools.{or-right as or_r, both, first as left, right, or_first as or_l, on as holds, is-true}

-- Nothing is asked for exactly where the closure is empty.

none-closure : (xs : Issued) → closure (λ n. false) xs ≡ []
none-closure [] = refl
none-closure (x ∷ xs) = ap (λ ys. cond (list_any (λ y. needs x.1 y.1) ys) (x ∷ ys) ys) (none-closure xs)

pub none-asked : (a : Asked) (l : LogState) → asked_for a l ≡ [] → closure_of a l ≡ []
none-asked a l e = ap (λ xs. closure (λ n. member n (keys xs)) l.undurable) e ∙ none-closure l.undurable

-- what is asked for is in the closure
pub asked-closure : (a : Asked) (l : LogState) → T (is_sorted nat_cmp l.undurable) → (n : ℕ) (u : Update) → Holds (asked_for a l) n u → T (member n (keys (closure_of a l)))
asked-closure a l s n u h =
    let c = list-complete l.undurable (λ m. member m (keys (asked_for a l))) n s (ask n u (holds-front (is_asked a) l.undurable n u h) (number-of (asked_for a l) n u h)) in
    number-of (closure_of a l) n c.0 c.1

none-closed : (a : Asked) (l : LogState) → T (is_sorted nat_cmp l.undurable) → closure_of a l ≡ [] → asked_for a l ≡ []
none-closed a l s e = go (asked_for a l) (asked-closure a l s)
  where
    go : (xs : Issued) → ((n : ℕ) (u : Update) → Holds xs n u → T (member n (keys (closure_of a l)))) → xs ≡ []
    go [] h = refl
    go (x ∷ xs) h = absurd (subst (λ ys. T (member x.0 (keys ys))) e (h x.0 x.1 (inl (refl, refl))))

-- The first of a list that passes.

record Found {A : Type 0} (p : A → Bool) (x : A) (xs : List A) : Type 0 where
  front : List A
  back : List A
  whole : xs ≡ front ++ x ∷ back
  here : p x ≡ true
  before : T (list_all (λ y. not (p y)) front)

first-some : {A : Type 0} (p : A → Bool) (xs : List A) (x : A) → first_that p xs ≡ Some x → Found p x xs
first-some {A} p [] x e = absurd (apart e)
  where
    apart : ◌≡◌ {A = Option A} None (Some x) → ⊥
    apart e = cc
first-some {A} p (y ∷ xs) x e = go (p y) refl e (first-some p xs x)
  where
    go : (b : Bool) → p y ≡ b → elim b as (λ z. Option A) [ true ↦ Some y | false ↦ first_that p xs ] ≡ Some x → (first_that p xs ≡ Some x → Found p x xs) → Found p x (y ∷ xs)
    go true q e r =
        let same : y ≡ x = cc in
        record { front = []; back = xs; whole = ap (λ z. z ∷ xs) same; here = ap p (sym same) ∙ q; before = tt }
    go false q e r =
        let f : Found p x xs = r e in
        record {
          front = y ∷ f.front;
          back = f.back;
          whole = ap (λ zs. y ∷ zs) f.whole;
          here = f.here;
          before = both (not (p y)) (list_all (λ z. not (p z)) f.front) (holds (ap not q)) f.before;
        }

first-none : {A : Type 0} (p : A → Bool) (xs : List A) → first_that p xs ≡ None → T (list_all (λ y. not (p y)) xs)
first-none p [] e = tt
first-none {A} p (y ∷ xs) e = go (p y) refl e (first-none p xs)
  where
    go : (b : Bool) → p y ≡ b → elim b as (λ z. Option A) [ true ↦ Some y | false ↦ first_that p xs ] ≡ None → (first_that p xs ≡ None → T (list_all (λ z. not (p z)) xs)) → T (not (p y) && list_all (λ z. not (p z)) xs)
    go true q e r = absurd (apart e)
      where
        apart : ◌≡◌ {A = Option A} (Some y) None → ⊥
        apart e = cc
    go false q e r = both (not (p y)) (list_all (λ z. not (p z)) xs) (holds (ap not q)) (r e)

-- Batches that have one of these operations.

one-of : (ns ms : List ℕ) → T (list_any (λ n. member n ms) ns) → (n : ℕ) × T (member n ns) × T (member n ms)
one-of [] ms h = absurd h
one-of (n ∷ ns) ms h = elim (or_cases (member n ms) (list_any (λ k. member k ms) ns) (is-true _ h)) [
  | inl e ↦ (n, or_l (n == n) (member n ns) (holds (same-self n)), holds e)
  | inr e ↦ let f = one-of ns ms (holds e) in (f.0, or_r (f.0 == n) (member f.0 ns) f.1, f.2)
]

any-of : (ns ms : List ℕ) (n : ℕ) → T (member n ns) → T (member n ms) → T (list_any (λ k. member k ms) ns)
any-of [] ms n h k = absurd h
any-of (m ∷ ns) ms n h k = elim (or_cases (n == m) (member n ns) (is-true _ h)) [
  | inl e ↦ or_l (member m ms) (list_any (λ j. member j ms) ns) (subst (λ j. T (member j ms)) (eqb-true n m e) k)
  | inr e ↦ or_r (member m ms) (list_any (λ j. member j ms) ns) (any-of ns ms n (holds e) k)
]

-- none of the batches has one of the operations, so none has this one
free-of : (ns : List ℕ) (bs : Table (List ℕ)) → T (list_all (λ b. not (has_one_of ns b)) bs) → (n : ℕ) → T (member n ns) → T (list_all (λ e. not (member n e.1)) bs)
free-of ns [] h n m = tt
free-of ns (b ∷ bs) h n m =
    both (not (member n b.1)) (list_all (λ e. not (member n e.1)) bs) (here (member n b.1) refl)
    (free-of ns bs (right (not (has_one_of ns b)) (list_all (λ e. not (has_one_of ns e)) bs) h) n m)
  where
    off : (t : Bool) → T (not t) → T t → ⊥
    off true p q = absurd p
    off false p q = absurd q

    here : (t : Bool) → member n b.1 ≡ t → T (not t)
    here true e = absurd (off (has_one_of ns b) (left (not (has_one_of ns b)) (list_all (λ e. not (has_one_of ns e)) bs) h) (any-of ns b.1 n m (holds e)))
    here false e = tt

-- The pick.

module _ (a : Asked) (l : LogState) (s : T (is_sorted nat_cmp l.undurable)) where
  abbrev closed : Issued
  closed = closure_of a l

  -- the first of the closure hold what they need
  front-needs : (k m n : ℕ) (x y : Update) → Holds l.undurable m x → Holds l.undurable n y → m < n → T (needs x y) → T (member n (keys (take k closed))) → T (member m (keys (take k closed)))
  front-needs k =
      needed-by_number l.undurable (λ n. member n (keys (take k closed))) s
      (taken-needed l.undurable closed k s (list-sorted l.undurable (λ m. member m (keys (asked_for a l))) s) (closure-needed l.undurable (λ m. member m (keys (asked_for a l))) s))

  front-held : (k n : ℕ) → T (member n (keys (take k closed))) → (u : Update) × Holds l.undurable n u
  front-held k n m =
      let f = held-by (take k closed) n m in
      (f.0, list-part l.undurable (λ i. member i (keys (asked_for a l))) n f.0 (take-holds k closed n f.0 f.1))

  front-closed : (k n : ℕ) → T (member n (keys (take k closed))) → T (member n (keys closed))
  front-closed k n m = let f = held-by (take k closed) n m in number-of closed n f.0 (take-holds k closed n f.0 f.1)

  -- the next batch isn't 8 above the least
  within : (bs : Table (List ℕ)) → in_window l bs ≡ true → (c : ℕ) (ms : List ℕ) (es : Table (List ℕ)) → bs ≡ (c, ms) ∷ es → l.next_batch ≡ c + 8 → ⊥
  within bs e c ms es w n = true≢false (sym (sym (ap (in_window l) w) ∙ e) ∙ ap not (ap (λ k. k == c + 8) n ∙ same-self (c + 8)))

  some-closed : (op : ℕ × Update) (ops : Issued) → closed ≡ op ∷ ops → T (member op.0 (keys closed))
  some-closed op ops e = subst (λ xs. T (member op.0 (keys xs))) (sym e) (or_l (op.0 == op.0) (member op.0 (keys ops)) (holds (same-self op.0)))

  some-front : (op : ℕ × Update) (ops : Issued) → closed ≡ op ∷ ops → T (member op.0 (keys (take 64 closed)))
  some-front op ops e = subst (λ xs. T (member op.0 (keys (take 64 xs)))) (sym e) (or_l (op.0 == op.0) _ (holds (same-self op.0)))

  -- a new batch, or none because of the window
  news : (op : ℕ × Update) (ops : Issued) → closed ≡ op ∷ ops → T (list_all (λ b. not (has_one_of (keys closed) b)) l.batches) → Says a l (new_batch closed l)
  news op ops c f = go (in_window l l.batches) refl
    where
      full : (bs : Table (List ℕ)) → l.batches ≡ bs → in_window l bs ≡ false → IsAtWindow a l (least bs)
      full [] w e = absurd (true≢false e)
      full (b ∷ bs) w e = record {
        ns = b.1;
        back = bs;
        whole = w;
        next = eight (l.next_batch == b.0 + 8) refl e;
        some = (op.0, some-closed op ops c);
        free = free-of (keys closed) l.batches f;
      }
        where
          eight : (t : Bool) → (l.next_batch == b.0 + 8) ≡ t → not t ≡ false → l.next_batch ≡ b.0 + 8
          eight true q e = eqb-true l.next_batch (b.0 + 8) q
          eight false q e = absurd (true≢false e)

      go : (t : Bool) → in_window l l.batches ≡ t → Says a l (elim t as (λ z. Pick) [ true ↦ Batch l.next_batch (keys (take 64 closed)) | false ↦ Window (least l.batches) ])
      go true e = record {
        next = refl;
        members = refl;
        some = (op.0, some-front op ops c);
        held = front-held 64;
        free = λ n m. free-of (keys closed) l.batches f n (front-closed 64 n m);
        needs = front-needs 64;
        near = within l.batches e;
      }
      go false e = full l.batches refl e

  picks : (xs : Issued) → closed ≡ xs → Says a l (pick_from xs l)
  picks [] c = (c, none-closed a l s c)
  picks (op ∷ ops) c = go (first_that (has_one_of (keys (op ∷ ops))) l.batches) refl
    where
      go : (r : Option (ℕ × List ℕ)) → first_that (has_one_of (keys (op ∷ ops))) l.batches ≡ r → Says a l (elim r as (λ z. Pick) [ Some b ↦ Behind b.0 | None ↦ new_batch (op ∷ ops) l ])
      go (Some b) e =
          let f = first-some (has_one_of (keys (op ∷ ops))) l.batches b e in
          let o : (n : ℕ) × T (member n (keys (op ∷ ops))) × T (member n b.1) = one-of (keys (op ∷ ops)) b.1 (holds f.here) in
          record {
            ns = b.1;
            front = f.front;
            back = f.back;
            whole = f.whole;
            meets = (o.0, subst (λ xs. T (member o.0 (keys xs))) (sym c) o.1, o.2);
            before = λ n m. free-of (keys (op ∷ ops)) f.front f.before n (subst (λ xs. T (member n (keys xs))) c m);
          }
      go None e =
          subst (λ xs. Says a l (new_batch xs l)) c
          (news op ops c (subst (λ xs. T (list_all (λ b. not (has_one_of (keys xs) b)) l.batches)) (sym c) (first-none (has_one_of (keys (op ∷ ops))) l.batches e)))

pub pick-says : (a : Asked) (l : LogState) → T (is_sorted nat_cmp l.undurable) → Says a l (pick a l)
pick-says a l s = picks a l s (closure_of a l) refl

pub settled-where : (a : Asked) (l : LogState) → asked_for a l ≡ [] → pick a l ≡ Settled
settled-where a l e = ap (λ xs. pick_from xs l) (none-asked a l e)

-- What is asked for by itself.

pub first-asked : (a : Asked) (l : LogState) (m : ℕ) → first a l ≡ Some m → IsAskedIn a l m
first-asked a l m e = go (asked_for a l) refl e
  where
    apart : ◌≡◌ {A = Option ℕ} None (Some m) → ⊥
    apart e = cc

    go : (xs : Issued) → asked_for a l ≡ xs → first_number xs ≡ Some m → IsAskedIn a l m
    go [] q e = absurd (apart e)
    go (x ∷ xs) q e =
        let same : x.0 ≡ m = cc in
        let h : Holds (asked_for a l) m x.1 = subst (λ ys. Holds ys m x.1) (sym q) (inl (same, refl)) in
        (x.1, holds-front (is_asked a) l.undurable m x.1 h, holds (holds-passed (is_asked a) l.undurable m x.1 h))

least-of : (p : ℕ × Update → Bool) (xs : Issued) → T (is_sorted nat_cmp xs) → (n : ℕ) (u : Update) → Holds xs n u → p (n, u) ≡ true → (m : ℕ) × (first_number (filter p xs) ≡ Some m) × (m ≤ n)
least-of p [] s n u h t = absurd h
least-of p (x ∷ xs) s n u h t = go (p x) refl h (λ k. least-of p xs (right (below_all nat_cmp x.0 xs) (is_sorted nat_cmp xs) s) n u k t)
  where
    go : (b : Bool) → p x ≡ b → Holds (x ∷ xs) n u → (Holds xs n u → (m : ℕ) × (first_number (filter p xs) ≡ Some m) × (m ≤ n)) → (m : ℕ) × (first_number (cond b (x ∷ filter p xs) (filter p xs)) ≡ Some m) × (m ≤ n)
    go true e (inl k) r = (x.0, refl, omega (arith, k.0))
    go true e (inr k) r = (x.0, refl, omega (arith, above-holds x.0 xs (left (below_all nat_cmp x.0 xs) (is_sorted nat_cmp xs) s) n u k))
    go false e (inl k) r = absurd (true≢false (sym t ∙ ap (λ i. p (i, u)) (sym k.0) ∙ ap (λ w. p (x.0, w)) (sym k.1) ∙ e))
    go false e (inr k) r = r k

pub first-least : (a : Asked) (l : LogState) → T (is_sorted nat_cmp l.undurable) → (n : ℕ) → IsAskedIn a l n → (m : ℕ) × (first a l ≡ Some m) × (m ≤ n)
first-least a l s n k = least-of (is_asked a) l.undurable s n k.0 k.1 (is-true _ k.2)

pub none-first : (a : Asked) (l : LogState) → T (is_sorted nat_cmp l.undurable) → first a l ≡ None → (n : ℕ) → IsAskedIn a l n → ⊥
none-first a l s e n k = let f = first-least a l s n k in apart f.0 (sym e ∙ f.1)
  where
    apart : (m : ℕ) → ◌≡◌ {A = Option ℕ} None (Some m) → ⊥
    apart m e = cc

-- All operations of the start.

module _ (issued : Issued) (done : ℕ → Bool) (l : LogState) (r : IsRest issued done l) where
  abbrev left_out : ℕ × Update → Bool
  left_out x = not (done x.0)

  sorted : T (is_sorted nat_cmp l.undurable)
  sorted = subst (λ xs. T (is_sorted nat_cmp xs)) (sym r.rest) (sorted-part left_out issued r.sorted)

  still : (n : ℕ) (u : Update) → Holds issued n u → done n ≡ false → Holds l.undurable n u
  still n u h e = subst (λ xs. Holds xs n u) (sym r.rest) (holds-kept left_out issued n u h (ap not e))

  undone : (n : ℕ) (u : Update) → Holds l.undurable n u → done n ≡ false
  undone n u h = off (done n) (holds-passed left_out issued n u (subst (λ xs. Holds xs n u) r.rest h))
    where
      off : (b : Bool) → not b ≡ true → b ≡ false
      off true e = sym e
      off false e = refl

  -- operations that hold what they need among the undurable ones, do so among all but those done with
  pub needs-all : (ns : List ℕ) → ((n : ℕ) → T (member n ns) → (u : Update) × Holds l.undurable n u)
      → ((m n : ℕ) (x y : Update) → Holds l.undurable m x → Holds l.undurable n y → m < n → T (needs x y) → T (member n ns) → T (member m ns)) → HoldNeeds issued done ns
  needs-all ns h k m n x y hm hn lt nd i = elim (cases_Bool (done m)) [
    | inl e ↦ or_l (done m) (member m ns) (holds e)
    | inr e ↦ let f = h n i in or_r (done m) (member m ns) (k m n x y (still m x hm e) (still n y hn (undone n f.0 f.1)) lt nd i)
  ]

  -- where the first undurable one that is asked for comes later, all that was asked before is done with
  pub done-before : (a : Asked) (begun : ℕ) (asked : ℕ → Bool) → ((m : ℕ) → first a l ≡ Some m → begun < m)
      → ((n : ℕ) (u : Update) → Holds issued n u → T (asked n) → (n ≤ begun) × T (is_asked a (n, u))) → (n : ℕ) → InClosure issued asked n → T (done n)
  done-before a begun asked f q n c = closure-within issued asked done r.sorted r.closed all n c
    where
      all : (n : ℕ) (u : Update) → Holds issued n u → T (asked n) → T (done n)
      all n u h t = elim (cases_Bool (done n)) [
        | inl e ↦ holds e
        | inr e ↦
            let k = q n u h t in
            let g = first-least a l sorted n (u, still n u h e, k.1) in
            absurd (omega (arith, f g.0 g.1, g.2, k.0))
      ]

  -- the closure is that of all operations, without those done with
  pub closure-left : (a : Asked) (asked : ℕ → Bool) → ((n : ℕ) (u : Update) → Holds issued n u → asked n ≡ is_asked a (n, u)) → (n : ℕ) → InClosure issued asked n → done n ≡ false → T (member n (keys (closure_of a l)))
  closure-left a asked q n c e =
      let c' : InClosure l.undurable asked n = subst (λ xs. InClosure xs asked n) (sym r.rest) (closure-rest issued asked done n r.sorted r.closed c e) in
      within' n c'
    where
      within' : (n : ℕ) → InClosure l.undurable asked n → T (member n (keys (closure_of a l)))
      within' =
          closure-within l.undurable asked (λ m. member m (keys (closure_of a l))) sorted (closure-needed l.undurable (λ m. member m (keys (asked_for a l))) sorted)
          (λ m u h t. asked-closure a l sorted m u (holds-kept (is_asked a) l.undurable m u h (sym (q m u (issued-of m u h)) ∙ is-true _ t)))
        where
          issued-of : (m : ℕ) (u : Update) → Holds l.undurable m u → Holds issued m u
          issued-of m u h = holds-front left_out issued m u (subst (λ xs. Holds xs m u) r.rest h)

pub pick-needs : (issued : Issued) (done : ℕ → Bool) (l : LogState) → IsRest issued done l → (a : Asked) (b : ℕ) (ns : List ℕ) → pick a l ≡ Batch b ns → HoldNeeds issued done ns
pick-needs issued done l r a b ns e =
    let p : IsPicked a l b ns = subst (Says a l) e (pick-says a l (sorted issued done l r)) in
    needs-all issued done l r ns p.held p.needs
