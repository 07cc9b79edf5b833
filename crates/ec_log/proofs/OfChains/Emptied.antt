-- What is kept of places, of which some are empty.
use Rattle.std.proofs.Common.{◌≡◌, ◌≤◌, ◌<◌, ◌-◌, ◌+◌, ◌∙◌, inl, inr, refl, sym, ap, subst, arith, ℕ, zero, suc, T, Bool, true, false, cond, not, [], ◌∷◌, ◌++◌, length, take, drop, get_or, set, Option, None, Some, Bor}
use Rattle.std.specs.Prelude.{◌==◌, ◌||◌, is_some, filter, min, option_copied, MatchOption, Result, Ok, Err, OnOk}
use Rattle.std.specs.Cmp.{unsigned_ties}
use Rattle.std.specs.Ordering.{nat_cmp}
use Rattle.std.specs.FinMap.{is_sorted}
use Rattle.std.proofs.lemmas.Bool.{true≢false}
use Rattle.std.proofs.lemmas.Bool.Decides.{nat_tests}
use Rattle.std.proofs.lemmas.List.{take-take, length-take-le, length-set}
use Rattle.ec_base.specs.SortedLaws.{first, second}
use Rattle.ec_base.specs.Tables.{at}
use Rattle.ec_volume.specs.declared.update.Update.{Update}
use Rattle.ec_order.specs.Order.{Issued, Holds}
use Rattle.ec_log.specs.OfChains.Chains.{IsAt}
use Rattle.ec_log.specs.OfChains.ClosureLaws.{above-held}
use Rattle.ec_log.specs.OfChains.Held.{is_behind, settle}
use Rattle.ec_log.specs.OfChains.Slots.{Slots, live, shown_update, placed}
use Rattle.ec_log.proofs.OfChains.Chained.{tail-is}
use Rattle.ec_log.proofs.OfChains.Live.{placed-length, placed-drop, placed-take, live-both, live-behind, live-before, live-fewer, live-left, sorted-live, sorted-left, placed-kept, live-kept, live-at, stays}
use Rattle.ec_log.proofs.OfChains.Places.{no-item, found-held}
use Rattle.ec_log.proofs.OfChains.Reached.{sorted-behind}
use Rattle.ec_log.proofs.OfChains.Fronts.{sorted-front}
use Rattle.ec_log.proofs.OfChains.Rising.{sorted_more}

abbrev pub IsHeld : ℕ → Slots → ℕ → Type 0
IsHeld gone slots count = (gone ≤ length slots) × (live (take gone slots) ≡ []) × T (is_sorted nat_cmp (placed slots)) × (count ≡ length (live slots))

pub held-none : (slots : Slots) → slots ≡ [] → IsHeld 0 slots 0
held-none slots e = subst (λ s. IsHeld 0 s 0) (sym e) (omega arith, refl, tt, refl)

-- The places behind the first empty ones.

module _ (gone count : ℕ) (slots now : Slots) (e : now ≡ slots) (h : IsHeld gone slots count) where
  pub lent-live : live (take (length now - gone) (drop gone now)) ≡ live slots
  lent-live = ap live (tail-is gone slots now e) ∙ live-behind gone slots h.1

  pub lent-rising : T (is_sorted nat_cmp (placed (take (length now - gone) (drop gone now))))
  lent-rising = subst (λ l. T (is_sorted nat_cmp (placed l))) (sym (tail-is gone slots now e)) (subst (λ l. T (is_sorted nat_cmp l)) (sym (placed-drop gone slots)) (sorted-behind gone (placed slots) h.2))

-- One more.

module _ (gone count op end : ℕ) (slots : Slots) (h : IsHeld gone slots count) (within : end ≤ length slots) (none : live (drop end slots) ≡ []) (gone' : ℕ) (less : gone' ≡ min gone end) (cut : Slots) (is : cut ≡ take end slots) where
  pub cut-live : live cut ≡ live slots
  cut-live = ap live is ∙ live-before end slots none

  pub cut-held : IsHeld gone' cut count
  cut-held = subst (λ s. IsHeld gone' s count) (sym is) (
    omega (arith, less, long),
    ap live (take-take gone' end slots (omega (arith, less))) ∙ live-fewer gone' gone slots (omega (arith, less)) h.1,
    subst (λ l. T (is_sorted nat_cmp l)) (sym (placed-take end slots)) (sorted-front end (placed slots) h.2),
    h.3 ∙ ap length (sym (live-before end slots none)),
  )
    where
      long : length (take end slots) ≡ end
      long = length-take-le end slots within

  module _ (u : Update) (below : is_behind op (placed (take end slots)) ≡ true) (new : Slots) (more : new ≡ cut ++ (op, Some u) ∷ []) where
    pub more-live : live new ≡ live slots ++ (op, u) ∷ []
    more-live = ap live more ∙ live-both cut ((op, Some u) ∷ []) ∙ ap (λ l. l ++ (op, u) ∷ []) cut-live

    placed-both : (xs ys : Slots) → placed (xs ++ ys) ≡ placed xs ++ placed ys
    placed-both [] ys = refl
    placed-both (x ∷ xs) ys = ap (λ l. (x.0, shown_update x.1) ∷ l) (placed-both xs ys)

    longer : (xs : Slots) (x : ℕ × Option Update) → length (xs ++ x ∷ []) ≡ length xs + 1
    longer [] x = refl
    longer (y ∷ ys) x = let r = longer ys x in omega (arith, r)

    longer-held : (xs : Issued) (x : ℕ × Update) → length (xs ++ x ∷ []) ≡ length xs + 1
    longer-held [] x = refl
    longer-held (y ∷ ys) x = let r = longer-held ys x in omega (arith, r)

    take-cut : (k : ℕ) (xs ys : Slots) → k ≤ length xs → take k (xs ++ ys) ≡ take k xs
    take-cut zero xs ys l = refl
    take-cut (suc k) [] ys l = absurd (omega (arith, l))
    take-cut (suc k) (x ∷ xs) ys l = ap (λ l. x ∷ l) (take-cut k xs ys (omega (arith, l)))

    pub more-held : (n : ℕ) → n ≡ count + 1 → IsHeld gone' new n
    more-held n plus =
        let c : IsHeld gone' cut count = cut-held in
        let low : gone' ≤ length cut = c.0 in
        let long : length new ≡ length cut + 1 = ap length more ∙ longer cut (op, Some u) in
        let same : count ≡ length (live slots) = h.3 in
        let held : length (live new) ≡ length (live slots) + 1 = ap length more-live ∙ longer-held (live slots) (op, u) in (
          omega (arith, low, long),
          ap (λ s. live (take gone' s)) more ∙ ap live (take-cut gone' cut ((op, Some u) ∷ []) low) ∙ c.1,
          subst (λ l. T (is_sorted nat_cmp l)) (sym (ap placed more ∙ placed-both cut ((op, Some u) ∷ []))) (sorted_more (placed cut) op u c.2 (ap (λ s. is_behind op (placed s)) is ∙ below)),
          omega (arith, plus, same, held),
        )

-- One leaves.

at-one : (op : ℕ) (xs : Issued) → T (is_sorted nat_cmp xs) → (u : Update) → at op xs ≡ Some u → length (settle (op ∷ []) xs) + 1 ≡ length xs
at-one op [] s u e = absurd (no-item e)
at-one op (x ∷ xs) s u e = go (op == x.0) refl (at-one op xs (second _ _ s) u)
  where
    alike : (op == x.0) ≡ true → op ≡ x.0
    alike q = grind (arith, nat_tests, q)

    turned : (b : Bool) → (op == x.0) ≡ b → (x.0 == op) ≡ b
    turned true q = grind (arith, nat_tests, q)
    turned false q = grind (arith, nat_tests, q)

    step : (b : Bool) → (op == x.0) ≡ b → settle (op ∷ []) (x ∷ xs) ≡ cond (not (b || false)) (x ∷ settle (op ∷ []) xs) (settle (op ∷ []) xs)
    step b q = ap (λ t. cond (not (t || false)) (x ∷ settle (op ∷ []) xs) (settle (op ∷ []) xs)) (turned b q)

    none : op ≡ x.0 → (w : Update) → Holds xs op w → ⊥
    none q w h = let l = above-held x.0 xs (first _ _ s) op w h in omega (arith, q, l)

    plus : (ys : Issued) → length ys + 1 ≡ length (x ∷ ys)
    plus ys = omega arith

    more : (ys zs : Issued) → length ys + 1 ≡ length zs → length (x ∷ ys) + 1 ≡ length (x ∷ zs)
    more ys zs q = omega (arith, q)

    go : (b : Bool) → (op == x.0) ≡ b → (at op xs ≡ Some u → length (settle (op ∷ []) xs) + 1 ≡ length xs) → length (settle (op ∷ []) (x ∷ xs)) + 1 ≡ length (x ∷ xs)
    go true q r = ap (λ l. length l + 1) (step true q ∙ stays op xs (none (alike q))) ∙ plus xs
    go false q r =
        ap (λ l. length l + 1) (step false q)
        ∙ more (settle (op ∷ []) xs) xs (r (sym (ap (λ t. cond t (Some x.1) (at op xs)) (sym (unsigned_ties op x.0) ∙ q)) ∙ e))

none-settles : (op : ℕ) (xs : Issued) → T (is_sorted nat_cmp xs) → at op xs ≡ None → settle (op ∷ []) xs ≡ xs
none-settles op [] s e = refl
none-settles op (x ∷ xs) s e = go (op == x.0) refl (none-settles op xs (second _ _ s))
  where
    found : (b : Bool) → (op == x.0) ≡ b → cond b (Some x.1) (at op xs) ≡ None
    found b q = sym (ap (λ t. cond t (Some x.1) (at op xs)) (sym (unsigned_ties op x.0) ∙ q)) ∙ e

    turned : (op == x.0) ≡ false → (x.0 == op) ≡ false
    turned q = grind (arith, nat_tests, q)

    go : (b : Bool) → (op == x.0) ≡ b → (at op xs ≡ None → settle (op ∷ []) xs ≡ xs) → settle (op ∷ []) (x ∷ xs) ≡ x ∷ xs
    go true q r = absurd (no-item (sym (found true q)))
    go false q r = ap (λ t. cond (not (t || false)) (x ∷ settle (op ∷ []) xs) (settle (op ∷ []) xs)) (turned q) ∙ ap (λ l. x ∷ l) (r (found false q))

module _ (gone count op place : ℕ) (slots new : Slots) (h : IsHeld gone slots count) (here : IsAt op (placed slots) place) (x : ℕ × Option Update) (is : x ≡ get_or slots place x) (rest : new ≡ set slots place (x.0, None)) where
  pub left-live : live new ≡ settle (op ∷ []) (live slots)
  left-live = ap live rest ∙ live-left op slots place x h.2 here

  pub left-taken : x.1 ≡ at op (live slots)
  left-taken = live-at op slots place x h.2 here is

  none-front : (k i : ℕ) (ss : Slots) → live (take k ss) ≡ [] → live (take k (set ss i (x.0, None))) ≡ []
  none-front zero i ss e = refl
  none-front (suc k) i [] e = refl
  none-front (suc k) zero (s ∷ ss) e = after s.1 e
    where
      after : (o : Option Update) → live ((s.0, o) ∷ take k ss) ≡ [] → live (take k ss) ≡ []
      after None f = f
      after (Some u) f = absurd (apart f)
        where
          apart : ◌≡◌ {A = Issued} ((s.0, u) ∷ live (take k ss)) [] → ⊥
          apart f = cc
  none-front (suc k) (suc i) (s ∷ ss) e = both s.1 e (none-front k i ss)
    where
      both : (o : Option Update) → live ((s.0, o) ∷ take k ss) ≡ [] → (live (take k ss) ≡ [] → live (take k (set ss i (x.0, None))) ≡ []) → live ((s.0, o) ∷ take k (set ss i (x.0, None))) ≡ []
      both None f r = r f
      both (Some u) f r = absurd (apart f)
        where
          apart : ◌≡◌ {A = Issued} ((s.0, u) ∷ live (take k ss)) [] → ⊥
          apart f = cc

  parts : (n : ℕ) → n ≡ length (settle (op ∷ []) (live slots)) → IsHeld gone new n
  parts n e =
      let low : gone ≤ length slots = h.0 in
      let long : length new ≡ length slots = ap length rest ∙ length-set slots place (x.0, None) in (
        omega (arith, low, long),
        ap (λ s. live (take gone s)) rest ∙ none-front gone place slots h.1,
        subst (λ s. T (is_sorted nat_cmp (placed s))) (sym rest) (sorted-left slots place x (ap (λ (y : ℕ × Option Update). y.0) is) h.2),
        e ∙ ap length (sym left-live),
      )

  pub left-held : (n : ℕ) → n ≡ count - 1 → is_some x.1 ≡ true → IsHeld gone new n
  left-held n less some = go x.1 refl some
    where
      go : (o : Option Update) → x.1 ≡ o → is_some o ≡ true → IsHeld gone new n
      go None e f = absurd (true≢false (sym f))
      go (Some u) e f =
          let one = at-one op (live slots) (sorted-live slots h.2) u (sym left-taken ∙ e) in
          let same : count ≡ length (live slots) = h.3 in
          parts n (omega (arith, less, one, same))

  pub left-some : is_some x.1 ≡ true → 1 ≤ count
  left-some some = go x.1 refl some
    where
      go : (o : Option Update) → x.1 ≡ o → is_some o ≡ true → 1 ≤ count
      go None e f = absurd (true≢false (sym f))
      go (Some u) e f =
          let one = at-one op (live slots) (sorted-live slots h.2) u (sym left-taken ∙ e) in
          let same : count ≡ length (live slots) = h.3 in
          omega (arith, one, same)

  pub left-same : is_some x.1 ≡ false → IsHeld gone new count
  left-same none = go x.1 refl none
    where
      go : (o : Option Update) → x.1 ≡ o → is_some o ≡ false → IsHeld gone new count
      go None e f = parts count (h.3 ∙ ap length (sym (none-settles op (live slots) (sorted-live slots h.2) (sym left-taken ∙ e))))
      go (Some u) e f = absurd (true≢false f)

pub at-within : (ss : Slots) (op place : ℕ) → IsAt op (placed ss) place → place < length ss
at-within ss op place here = subst (λ n. place < n) (placed-length ss) here.0

item : (ss : Slots) (i : ℕ) → i < length ss → (x : ℕ × Option Update) × (x ≡ get_or ss i x)
item [] i l = absurd (omega (arith, l))
item (s ∷ ss) zero l = (s, refl)
item (s ∷ ss) (suc i) l = item ss i (omega (arith, l))

module _ (gone count op place : ℕ) (slots new : Slots) (h : IsHeld gone slots count) (here : IsAt op (placed slots) place) (result : Option Update) (taken : (s : ℕ × Option Update) → result ≡ (get_or slots place s).1)
    (rest : (s : ℕ × Option Update) → new ≡ set slots place ((get_or slots place s).0, None)) where
  it : (x : ℕ × Option Update) × (x ≡ get_or slots place x)
  it = item slots place (subst (λ n. place < n) (placed-length slots) here.0)

  cleared : new ≡ set slots place ((it.0).0, None)
  cleared = rest it.0 ∙ ap (λ (y : ℕ × Option Update). set slots place (y.0, None)) (sym it.1)

  is-it : result ≡ (it.0).1
  is-it = taken it.0 ∙ ap (λ (y : ℕ × Option Update). y.1) (sym it.1)

  pub taken-value : result ≡ at op (live slots)
  taken-value = is-it ∙ left-taken gone count op place slots new h here it.0 it.1 cleared

  pub taken-live : live new ≡ settle (op ∷ []) (live slots)
  taken-live = left-live gone count op place slots new h here it.0 it.1 cleared

  pub taken-held : is_some result ≡ true → IsHeld gone new (count - 1)
  taken-held some = left-held gone count op place slots new h here it.0 it.1 cleared (count - 1) refl (ap is_some (sym is-it) ∙ some)

  pub taken-some : is_some result ≡ true → 1 ≤ count
  taken-some some = left-some gone count op place slots new h here it.0 it.1 cleared (ap is_some (sym is-it) ∙ some)

  pub taken-same : is_some result ≡ false → IsHeld gone new count
  taken-same none = left-same gone count op place slots new h here it.0 it.1 cleared (ap is_some (sym is-it) ∙ none)

-- The others close up.

module _ (gone count : ℕ) (slots new : Slots) (h : IsHeld gone slots count) (is : new ≡ filter (λ s. is_some s.1) slots) where
  pub closed-live : live new ≡ live slots
  closed-live = ap live is ∙ live-kept slots

  pub closed-held : IsHeld 0 new count
  closed-held = (
    omega arith,
    refl,
    subst (λ l. T (is_sorted nat_cmp l)) (sym (ap placed is ∙ placed-kept slots)) (sorted-live slots h.2),
    h.3 ∙ ap length (sym closed-live),
  )

-- What is found is held.

pub found-one : (op : ℕ) (xs : Issued) (u : Update) → at op xs ≡ Some u → Holds xs op u
found-one op [] u e = absurd (no-item e)
found-one op (x ∷ xs) u e = go (op == x.0) refl (found-one op xs u)
  where
    alike : (op == x.0) ≡ true → x.0 ≡ op
    alike q = grind (arith, nat_tests, q)

    same : {w v : Update} → ◌≡◌ {A = Option Update} (Some w) (Some v) → w ≡ v
    same q = cc

    found : (b : Bool) → (op == x.0) ≡ b → cond b (Some x.1) (at op xs) ≡ Some u
    found b q = sym (ap (λ t. cond t (Some x.1) (at op xs)) (sym (unsigned_ties op x.0) ∙ q)) ∙ e

    go : (b : Bool) → (op == x.0) ≡ b → (at op xs ≡ Some u → Holds xs op u) → Holds (x ∷ xs) op u
    go true q r = inl (alike q, same (found true q))
    go false q r = inr (r (found false q))

pub has-yes : (op : ℕ) (xs : Issued) (r : Option (Bor Update)) → option_copied r ≡ at op xs → is_some r ≡ true → (u : Update) × Holds xs op u
has-yes op xs None e s = absurd (true≢false (sym s))
has-yes op xs (Some b) e s = (b.now, found-one op xs b.now (sym e))

pub has-no : (op : ℕ) (xs : Issued) (r : Option (Bor Update)) → T (is_sorted nat_cmp xs) → option_copied r ≡ at op xs → is_some r ≡ false → (u : Update) → Holds xs op u → ⊥
has-no op xs None s e none u h = no-item (e ∙ found-held xs op u s h)
has-no op xs (Some b) s e none u h = true≢false none

pub some-place : (A : Type 0) (B : ℕ → Type 0) (r : Option ℕ) → MatchOption r A B → is_some r ≡ true → (k : ℕ) × B k
some-place A B None m s = absurd (true≢false (sym s))
some-place A B (Some k) m s = (k, m)

pub ok-always : {A E P : Type 0} (r : Result A E) → P → OnOk r P
ok-always (Ok a) p = p
ok-always (Err e) p = tt
