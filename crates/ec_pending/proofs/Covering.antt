-- What is asked, covered one by one.
use Rattle.std.proofs.Common.{◌≡◌, inl, inr, refl, sym, ap, subst, ◌∙◌, arith, ◌<◌, ◌≤◌, ℕ, T, Bool, true, false, not, cond, List, [], ◌∷◌, length, Option, Some, None}
use Rattle.std.specs.Prelude.{◌==◌, ◌&&◌, ◌||◌, ⊤, nat_le, filter}
use Rattle.std.specs.Ordering.{nat_cmp}
use Rattle.std.specs.FinMap.{is_sorted}
use Rattle.std.specs.List.{list_any}
use Rattle.std.proofs.lemmas.Bool.Decides.{nat_tests}
use Rattle.ec_base.specs.Tables.{Table, at_or, keys}
use Rattle.ec_volume.specs.Update.{member}
use Rattle.ec_volume.specs.declared.update.Update.{Update}
use Rattle.ec_order.specs.Order.{Issued, Holds, needs, closure}
use Rattle.ec_log.specs.OfChains.ClosureLaws.{passes-member, walk-closure}
use Rattle.ec_log.specs.OfChains.Held.{settle, closure_of_op, first_number}
use Rattle.ec_log.specs.OfChains.Walk.{passes, walk}
use Rattle.ec_log.specs.declared.chains.closure.Ask.{Ask}
use Rattle.ec_pending.specs.declared.issue.Issue.{Issue}
use Rattle.ec_pending.proofs.Holding.{Known, known, issues-of}
use Rattle.ec_pending.proofs.Leaving.{left-are, numbers-are, taken-walk}
use Rattle.ec_pending.specs.Pending.{numbers_in, picked_out, rest, issue_at, issues, is_early, AreRising, IsPart}
use Rattle.ec_base.proofs.Options.{one_entry}

-- What is taken at once is what is taken in two goes: first some that are asked, and then the others.
module _ (p q : Issue → Bool) where
  abbrev pub AreAsked : List Issue → Type 0
  AreAsked [] = ⊤
  AreAsked (i ∷ is) = (q i ≡ true → p i ≡ true) × AreAsked is

  any-of : (f : Issue → Bool) (i : Issue) (all one two : List Issue) (a b c d : Bool) → (a ≡ true → c ≡ true) → list_any f all ≡ (list_any f one || list_any f two)
      → list_any f (cond (c || (b || d)) (i ∷ all) all) ≡ (list_any f (cond (a || b) (i ∷ one) one) || list_any f (cond (a || b) two (cond (c || d) (i ∷ two) two)))
  any-of f i all one two true b true d h e = ap (λ z. f i || z) e ∙ inner (f i) (list_any f one) (list_any f two)
    where
      inner : (x y z : Bool) → (x || (y || z)) ≡ ((x || y) || z)
      inner true y z = refl
      inner false y z = refl
  any-of f i all one two true b false d h e = absurd (subst T (sym (h refl)) tt)
  any-of f i all one two false true true d h e = ap (λ z. f i || z) e ∙ inner (f i) (list_any f one) (list_any f two)
    where
      inner : (x y z : Bool) → (x || (y || z)) ≡ ((x || y) || z)
      inner true y z = refl
      inner false y z = refl
  any-of f i all one two false true false d h e = ap (λ z. f i || z) e ∙ inner (f i) (list_any f one) (list_any f two)
    where
      inner : (x y z : Bool) → (x || (y || z)) ≡ ((x || y) || z)
      inner true y z = refl
      inner false y z = refl
  any-of f i all one two false false true d h e = ap (λ z. f i || z) e ∙ inner (f i) (list_any f one) (list_any f two)
    where
      inner : (x y z : Bool) → (x || (y || z)) ≡ (y || (x || z))
      inner true true z = refl
      inner true false z = refl
      inner false y z = refl
  any-of f i all one two false false false true h e = ap (λ z. f i || z) e ∙ inner (f i) (list_any f one) (list_any f two)
    where
      inner : (x y z : Bool) → (x || (y || z)) ≡ (y || (x || z))
      inner true true z = refl
      inner true false z = refl
      inner false y z = refl
  any-of f i all one two false false false false h e = e

  rest-of : (i : Issue) (left all : List Issue) (a b c d : Bool) → (a ≡ true → c ≡ true) → left ≡ all
      → cond (a || b) left (cond (c || d) left (i ∷ left)) ≡ cond (c || (b || d)) all (i ∷ all)
  rest-of i left all true b true d h e = e
  rest-of i left all true b false d h e = absurd (subst T (sym (h refl)) tt)
  rest-of i left all false true true d h e = e
  rest-of i left all false true false d h e = e
  rest-of i left all false false true d h e = e
  rest-of i left all false false false true h e = e
  rest-of i left all false false false false h e = ap (λ l. i ∷ l) e

  taken-either : (t : Bool) (i : Issue) (is : List Issue) → picked_out p (cond t is (i ∷ is)) ≡ cond t (picked_out p is) (picked_out p (i ∷ is))
  taken-either true i is = refl
  taken-either false i is = refl

  rest-either : (t : Bool) (i : Issue) (is : List Issue) → rest p (cond t is (i ∷ is)) ≡ cond t (rest p is) (rest p (i ∷ is))
  rest-either true i is = refl
  rest-either false i is = refl

  any-taken : (is : List Issue) → AreAsked is → (f : Issue → Bool) → list_any f (picked_out p is) ≡ (list_any f (picked_out q is) || list_any f (picked_out p (rest q is)))
  any-taken [] h f = refl
  any-taken (i ∷ is) h f =
      ap (λ z. list_any f (cond (p i || z) (i ∷ picked_out p is) (picked_out p is))) (any-taken is h.1 (λ j. needs i.update j.update))
      ∙ any-of f i (picked_out p is) (picked_out q is) (picked_out p (rest q is)) (q i) (list_any (λ j. needs i.update j.update) (picked_out q is)) (p i) (list_any (λ j. needs i.update j.update) (picked_out p (rest q is))) h.0 (any-taken is h.1 f)
      ∙ ap (λ l. list_any f (picked_out q (i ∷ is)) || list_any f l) (sym (taken-either (q i || list_any (λ j. needs i.update j.update) (picked_out q is)) i (rest q is)))

  pub rest-rest : (is : List Issue) → AreAsked is → rest p (rest q is) ≡ rest p is
  rest-rest [] h = refl
  rest-rest (i ∷ is) h =
      rest-either (q i || list_any (λ j. needs i.update j.update) (picked_out q is)) i (rest q is)
      ∙ rest-of i (rest p (rest q is)) (rest p is) (q i) (list_any (λ j. needs i.update j.update) (picked_out q is)) (p i) (list_any (λ j. needs i.update j.update) (picked_out p (rest q is))) h.0 (rest-rest is h.1)
      ∙ ap (λ z. cond (p i || z) (rest p is) (i ∷ rest p is)) (sym (any-taken is h.1 (λ j. needs i.update j.update)))

module _ (ps : Table ℕ) (p : Issue → Bool) where
  are-asked : (op : ℕ) (xs : Issued) → ((u : Update) → Holds xs op u → p (issue_at ps (op, u)) ≡ true) → AreAsked p (λ i. i.number == op) (issues ps xs)
  are-asked op [] h = tt
  are-asked op (x ∷ xs) h = ((λ e. here (same x.0 op e)), are-asked op xs (λ u k. h u (inr k)))
    where
      same : (m n : ℕ) → (m == n) ≡ true → m ≡ n
      same m n e = grind (arith, nat_tests)

      here : x.0 ≡ op → p (issue_at ps x) ≡ true
      here e = subst (λ k. p (issue_at ps (k, x.1)) ≡ true) (sym e) (h x.1 (inl (e, refl)))

  -- the closure of an operation that is asked leaves
  pub one-covered : (op : ℕ) (ops : List ℕ) (xs new : Issued) → T (is_sorted nat_cmp xs) → ((u : Update) → Holds xs op u → p (issue_at ps (op, u)) ≡ true) → ops ≡ keys (closure_of_op op xs) → new ≡ settle ops xs
      → rest p (issues ps new) ≡ rest p (issues ps xs)
  one-covered op ops xs new s h is left =
      ap (λ l. rest p (issues ps l)) (left ∙ ap (λ l. settle l xs) (is ∙ sym taken-are))
      ∙ ap (rest p) (left-are ps (λ i. i.number == op) xs s)
      ∙ rest-rest p (λ i. i.number == op) (issues ps xs) (are-asked op xs h)
    where
      taken-are : numbers_in (picked_out (λ i. i.number == op) (issues ps xs)) ≡ keys (closure_of_op op xs)
      taken-are =
          ap numbers_in (taken-walk ps (λ i. i.number == op) (λ x. x.0 == op) xs (λ n u k. refl))
          ∙ numbers-are ps (walk (λ x. x.0 == op) xs)
          ∙ ap keys (walk-closure (λ x. x.0 == op) (λ n. n == op) xs (λ n u k. refl))

  none-taken : (xs : Issued) → ((n : ℕ) (u : Update) → Holds xs n u → p (issue_at ps (n, u)) ≡ false) → picked_out p (issues ps xs) ≡ []
  none-taken [] h = refl
  none-taken (x ∷ xs) h =
      ap (λ l. cond (p (issue_at ps x) || list_any (λ j. needs x.1 j.update) l) (issue_at ps x ∷ l) l) (none-taken xs (λ n u k. h n u (inr k)))
      ∙ ap (λ b. cond (b || false) (issue_at ps x ∷ []) []) (h x.0 x.1 (inl (refl, refl)))

  -- nothing is asked any more
  pub none-left : (xs : Issued) → ((n : ℕ) (u : Update) → Holds xs n u → p (issue_at ps (n, u)) ≡ false) → rest p (issues ps xs) ≡ issues ps xs
  none-left [] h = refl
  none-left (x ∷ xs) h =
      ap (λ l. cond (p (issue_at ps x) || list_any (λ j. needs x.1 j.update) l) (rest p (issues ps xs)) (issue_at ps x ∷ rest p (issues ps xs))) (none-taken xs (λ n u k. h n u (inr k)))
      ∙ ap (λ b. cond (b || false) (rest p (issues ps xs)) (issue_at ps x ∷ rest p (issues ps xs))) (h x.0 x.1 (inl (refl, refl)))
      ∙ ap (λ l. issue_at ps x ∷ l) (none-left xs (λ n u k. h n u (inr k)))

-- Each time fewer are held.

fewer-filter : (p : ℕ × Update → Bool) (xs : Issued) → length (filter p xs) ≤ length xs
fewer-filter p [] = omega arith
fewer-filter p (x ∷ xs) = go (p x) (fewer-filter p xs)
  where
    go : (c : Bool) → length (filter p xs) ≤ length xs → length (cond c (x ∷ filter p xs) (filter p xs)) ≤ length (x ∷ xs)
    go true h = omega (arith, h)
    go false h = omega (arith, h)

in-closure : (op : ℕ) (xs : Issued) → member op (keys xs) ≡ true → member op (keys (closure (λ n. n == op) xs)) ≡ true
in-closure op [] h = h
in-closure op (x ∷ xs) h = go (x.0 == op) refl (in-closure op xs)
  where
    turned : (m n : ℕ) → (m == n) ≡ (n == m)
    turned m n = grind (arith, nat_tests)

    either : (t : Bool) → member op (keys (closure (λ n. n == op) xs)) ≡ true → member op (keys (cond t (x ∷ closure (λ n. n == op) xs) (closure (λ n. n == op) xs))) ≡ true
    either true h = ap (λ z. (op == x.0) || z) h ∙ or-true (op == x.0)
      where
        or-true : (b : Bool) → (b || true) ≡ true
        or-true true = refl
        or-true false = refl
    either false h = h

    go : (b : Bool) → (x.0 == op) ≡ b → (member op (keys xs) ≡ true → member op (keys (closure (λ n. n == op) xs)) ≡ true) → member op (keys (closure (λ n. n == op) (x ∷ xs))) ≡ true
    go true e r =
        ap (λ b. member op (keys (cond (b || list_any (λ y. needs x.1 y.1) (closure (λ n. n == op) xs)) (x ∷ closure (λ n. n == op) xs) (closure (λ n. n == op) xs)))) e
        ∙ ap (λ b. b || member op (keys (closure (λ n. n == op) xs))) (turned op x.0 ∙ e)
    go false e r = either ((x.0 == op) || list_any (λ y. needs x.1 y.1) (closure (λ n. n == op) xs)) (r (ap (λ b. b || member op (keys xs)) (sym (turned op x.0 ∙ e)) ∙ h))

fewer : (op : ℕ) (ns : List ℕ) (xs : Issued) → member op ns ≡ true → member op (keys xs) ≡ true → length (settle ns xs) < length xs
fewer op ns [] m h = absurd (subst T (sym h) tt)
fewer op ns (x ∷ xs) m h = go (op == x.0) refl (fewer op ns xs m)
  where
    same : (m n : ℕ) → (m == n) ≡ true → m ≡ n
    same m n e = grind (arith, nat_tests)

    either : (c : Bool) → length (settle ns xs) < length xs → length (cond c (x ∷ settle ns xs) (settle ns xs)) < length (x ∷ xs)
    either true h = omega (arith, h)
    either false h = omega (arith, h)

    go : (b : Bool) → (op == x.0) ≡ b → (member op (keys xs) ≡ true → length (settle ns xs) < length xs) → length (settle ns (x ∷ xs)) < length (x ∷ xs)
    go true e r =
        let less : length (settle ns xs) ≤ length xs = fewer-filter (λ y. not (member y.0 ns)) xs in
        subst (λ c. length (cond (not c) (x ∷ settle ns xs) (settle ns xs)) < length (x ∷ xs)) (sym (subst (λ k. member k ns ≡ true) (same op x.0 e) m)) (omega (arith, less))
    go false e r = either (not (member x.0 ns)) (r (ap (λ b. b || member op (keys xs)) (sym e) ∙ h))

pub fewer-left : (op : ℕ) (ops : List ℕ) (xs new : Issued) → member op (keys xs) ≡ true → ops ≡ keys (closure_of_op op xs) → new ≡ settle ops xs → length new < length xs
fewer-left op ops xs new h is left = subst (λ l. length l < length xs) (sym left) (fewer op ops xs (ap (member op) is ∙ in-closure op xs h) h)

-- Some of some.

part-filter : (p q : ℕ × Update → Bool) (xs : Issued) → filter q (filter p xs) ≡ filter (λ x. p x && q x) xs
part-filter p q [] = refl
part-filter p q (x ∷ xs) = go (p x) (part-filter p q xs)
  where
    go : (c : Bool) → filter q (filter p xs) ≡ filter (λ x. p x && q x) xs → filter q (cond c (x ∷ filter p xs) (filter p xs)) ≡ cond (c && q x) (x ∷ filter (λ x. p x && q x) xs) (filter (λ x. p x && q x) xs)
    go true h = ap (λ l. cond (q x) (x ∷ l) l) h
    go false h = h

pub part-left : (ops : List ℕ) (all some new : Issued) → IsPart some all → new ≡ settle ops some → IsPart new all
part-left ops all some new h left = ((λ x. h.0 x && not (member x.0 ops)), left ∙ ap (settle ops) h.1 ∙ part-filter h.0 (λ x. not (member x.0 ops)) all)

pub part-all : (xs : Issued) → IsPart xs xs
part-all xs = ((λ x. true), sym (whole xs))
  where
    whole : (xs : Issued) → filter (λ x. true) xs ≡ xs
    whole [] = refl
    whole (x ∷ xs) = ap (λ l. x ∷ l) (whole xs)

-- The first one that is asked for by itself.

abbrev pub Late : Table ℕ → ℕ → Option ℕ → Type 0
Late ps begun None = ⊤
Late ps begun (Some op) = begun < at_or 0 op ps

late : (m n : ℕ) → n < m → nat_le m n ≡ false
late m n l = grind (arith, nat_tests)

pub none-early : (ps : Table ℕ) (ask : Ask) (begun : ℕ) (xs : Issued) → AreRising ps xs → (found : Option ℕ) → found ≡ first_number (filter (passes ask) xs) → Late ps begun found → (n : ℕ) (u : Update) → Holds xs n u → is_early ps ask begun (n, u) ≡ false
none-early ps ask begun [] r found is l n u h = absurd h
none-early ps ask begun (x ∷ xs) r found is l n u h = go (passes ask x) refl (subst (Late ps begun) is l) h (λ m k. none-early ps ask begun xs r.1 (first_number (filter (passes ask) xs)) refl m n u k)
  where
    here : at_or 0 x.0 ps ≤ at_or 0 n ps → begun < at_or 0 x.0 ps → is_early ps ask begun (n, u) ≡ false
    here m l = ap (λ b. b && passes ask (n, u)) (late (at_or 0 n ps) begun (omega (arith, m, l)))

    and-false : (b : Bool) → (b && false) ≡ false
    and-false true = refl
    and-false false = refl

    go : (t : Bool) → passes ask x ≡ t → Late ps begun (first_number (cond t (x ∷ filter (passes ask) xs) (filter (passes ask) xs))) → Holds (x ∷ xs) n u → (Late ps begun (first_number (filter (passes ask) xs)) → Holds xs n u → is_early ps ask begun (n, u) ≡ false) → is_early ps ask begun (n, u) ≡ false
    go true e l (inl k) f = here (let q : at_or 0 x.0 ps ≡ at_or 0 n ps = ap (λ m. at_or 0 m ps) k.0 in omega (arith, q)) l
    go true e l (inr k) f = here (r.0 n u k) l
    go false e l (inl k) f = subst (λ m. is_early ps ask begun (m, u) ≡ false) k.0 (subst (λ w. is_early ps ask begun (x.0, w) ≡ false) k.1 (ap (λ b. nat_le (at_or 0 x.0 ps) begun && b) e ∙ and-false (nat_le (at_or 0 x.0 ps) begun)))
    go false e l (inr k) f = f l k

pub first-early : (ps : Table ℕ) (ask : Ask) (begun op : ℕ) (xs : Issued) → T (is_sorted nat_cmp xs) → Some op ≡ first_number (filter (passes ask) xs) → at_or 0 op ps ≤ begun → (u : Update) → Holds xs op u → is_early ps ask begun (op, u) ≡ true
first-early ps ask begun op xs s is l u h =
    ap (λ b. b && passes ask (op, u)) (low (at_or 0 op ps) begun l)
    ∙ passes-member (passes ask) xs s op u h
    ∙ found (filter (passes ask) xs) is
  where
    low : (m n : ℕ) → m ≤ n → nat_le m n ≡ true
    low m n l = grind (arith, nat_tests)

    same : (n m : ℕ) → Some n ≡ Some m → (n == m) ≡ true
    same n m e = let q : n ≡ m = one_entry n m e in grind (arith, nat_tests, q)

    not-none : Some op ≡ None → ⊥
    not-none e = cc

    found : (ys : Issued) → Some op ≡ first_number ys → member op (keys ys) ≡ true
    found [] e = absurd (not-none e)
    found (y ∷ ys) e = ap (λ b. b || member op (keys ys)) (same op y.0 e)

pub early-view : (count : ℕ) (ps : Table ℕ) (xs new : Issued) (now : Known) (p : Issue → Bool) → known count (issues ps xs) ≡ now → issues ps new ≡ rest p (issues ps xs) → known count (issues ps new) ≡ known now.0 (rest p (issues-of now))
early-view count ps xs new now p view left = ap (known count) left ∙ ap (λ v. known v.0 (rest p (issues-of v))) view
