-- Held operations, one more.
use Rattle.std.proofs.Common.{◌≡◌, inl, inr, refl, sym, ap, subst, ◌∙◌, arith, ◌<◌, ◌≤◌, ◌+◌, ℕ, T, Bool, true, false, cond, List, [], ◌∷◌, ◌++◌, Option, Some, None, Bor}
use Rattle.std.specs.Prelude.{◌==◌, ◌&&◌, ◌||◌, is_some, nat_lt, filter, option_copied, Result, Ok, Err, OnOk, OnErr}
use Rattle.std.specs.Cmp.{unsigned_ties}
use Rattle.std.proofs.lemmas.Bool.{and_from, and_parts}
use Rattle.std.proofs.lemmas.Bool.Decides.{nat_tests}
use Rattle.std.proofs.lemmas.List.Folds.{list_all-append}
use Rattle.ec_base.specs.Tables.{Table, at, at_or, or_else, put}
use Rattle.ec_volume.specs.Update.{member, operands, has_operand}
use Rattle.ec_volume.specs.declared.update.Update.{Update}
use Rattle.ec_order.specs.Order.{Issued, Holds}
use Rattle.ec_log.specs.OfChains.Held.{is_behind}
use Rattle.ec_log.proofs.OfChains.Fronts.{holds-last, holds-part}
use Rattle.ec_pending.specs.declared.issue.Issue.{Issue}
use Rattle.ec_pending.specs.Pending.{numbers_in, issues_of, issue_at, issues, AreEarly, AreUpTo, AreWithin}
use Rattle.ec_order.proofs.OfObjmap.Entries.{at-put}

-- Numbers.

pub behind-on : (m n : ℕ) (xs : Issued) → m ≤ n → is_behind m xs ≡ true → is_behind n xs ≡ true
behind-on m n [] l b = refl
behind-on m n (x ∷ xs) l b =
    let parts = and_parts (nat_lt x.0 m) (is_behind m xs) b in
    and_from (nat_lt x.0 n) (is_behind n xs) (higher x.0 l parts.0) (behind-on m n xs l parts.1)
  where
    higher : (k : ℕ) → m ≤ n → nat_lt k m ≡ true → nat_lt k n ≡ true
    higher k l e = grind (arith, nat_tests)

pub behind-filter : (n : ℕ) (p : ℕ × Update → Bool) (xs : Issued) → is_behind n xs ≡ true → is_behind n (filter p xs) ≡ true
behind-filter n p [] b = refl
behind-filter n p (x ∷ xs) b =
    let parts = and_parts (nat_lt x.0 n) (is_behind n xs) b in
    go (p x) parts.0 (behind-filter n p xs parts.1)
  where
    go : (c : Bool) → nat_lt x.0 n ≡ true → is_behind n (filter p xs) ≡ true → is_behind n (cond c (x ∷ filter p xs) (filter p xs)) ≡ true
    go true h r = and_from (nat_lt x.0 n) (is_behind n (filter p xs)) h r
    go false h r = r

-- a number above those before it
pub behind-held : (count op : ℕ) (xs : Issued) → count < op → AreUpTo count xs → is_behind op xs ≡ true
behind-held count op xs l b = behind-on (count + 1) op xs (omega (arith, l)) b

pub up_to-on : (count op : ℕ) (xs : Issued) → count < op → AreUpTo count xs → AreUpTo op xs
up_to-on count op xs l b = behind-on (count + 1) (op + 1) xs (omega (arith, l)) b

pub up_to-more : (count op : ℕ) (u : Update) (xs : Issued) → count < op → AreUpTo count xs → AreUpTo op (xs ++ (op, u) ∷ [])
up_to-more count op u xs l b = list_all-append (λ x. nat_lt x.0 (op + 1)) xs ((op, u) ∷ []) ∙ and_from (is_behind (op + 1) xs) (nat_lt op (op + 1) && true) (up_to-on count op xs l b) (last op)
  where
    last : (k : ℕ) → (nat_lt k (k + 1) && true) ≡ true
    last k = grind (arith, nat_tests)

-- Places.

pub at_or-put : (n op place : ℕ) (ps : Table ℕ) → at_or 0 n (put op place ps) ≡ cond (n == op) place (at_or 0 n ps)
at_or-put n op place ps = ap (or_else 0) (at-put n op place ps) ∙ go (n == op)
  where
    go : (b : Bool) → or_else 0 (cond b (Some place) (at n ps)) ≡ cond b place (or_else 0 (at n ps))
    go true = refl
    go false = refl

pub within-on : (last next : ℕ) (ps : Table ℕ) → last ≤ next → AreWithin last ps → AreWithin next ps
within-on last next ps l h n = let k = h n in omega (arith, l, k)

pub within-more : (last next op place : ℕ) (ps : Table ℕ) → last ≤ next → place ≤ next → AreWithin last ps → AreWithin next (put op place ps)
within-more last next op place ps l m h n = subst (λ k. k ≤ next) (sym (at_or-put n op place ps)) (go (n == op))
  where
    go : (b : Bool) → cond b place (at_or 0 n ps) ≤ next
    go true = m
    go false = let k = h n in omega (arith, l, k)

-- The places of an object's operations.

pub early-part : (lasts ps : Table ℕ) (p : ℕ × Update → Bool) (xs : Issued) → AreEarly lasts ps xs → AreEarly lasts ps (filter p xs)
early-part lasts ps p xs h n u k = h n u (holds-part p xs n u k)

pub held-lower : (op n : ℕ) (u : Update) (xs : Issued) → is_behind op xs ≡ true → Holds xs n u → n < op
held-lower op n u [] b h = absurd h
held-lower op n u (x ∷ xs) b (inl e) = let parts = and_parts (nat_lt x.0 op) (is_behind op xs) b in lower x.0 n parts.0 e.0
  where
    lower : (m n : ℕ) → nat_lt m op ≡ true → m ≡ n → n < op
    lower m n l e = grind (arith, nat_tests)
held-lower op n u (x ∷ xs) b (inr h) = held-lower op n u xs (and_parts (nat_lt x.0 op) (is_behind op xs) b).1 h

pub early-kept : (last : ℕ) (ps lasts lasts' : Table ℕ) (xs : Issued) → AreWithin last ps → ((o n : ℕ) → n ≤ at_or 0 o lasts → n ≤ last → n ≤ at_or 0 o lasts') → AreEarly lasts ps xs → AreEarly lasts' ps xs
early-kept last ps lasts lasts' xs within raised h n u k o t = raised o (at_or 0 n ps) (h n u k o t) (within n)

module _ (op place last : ℕ) (ps lasts lasts' : Table ℕ) (xs : Issued) (behind : is_behind op xs ≡ true) (within : AreWithin last ps) (raised : (o n : ℕ) → n ≤ at_or 0 o lasts → n ≤ last → n ≤ at_or 0 o lasts') where
  other : (n : ℕ) (u : Update) → Holds xs n u → at_or 0 n (put op place ps) ≡ at_or 0 n ps
  other n u h = at_or-put n op place ps ∙ ap (λ c. cond c place (at_or 0 n ps)) (apart (held-lower op n u xs behind h))
    where
      apart : n < op → (n == op) ≡ false
      apart l = grind (arith, nat_tests)

  pub early-raised : AreEarly lasts ps xs → AreEarly lasts' (put op place ps) xs
  early-raised h n u k o t = subst (λ m. m ≤ at_or 0 o lasts') (sym (other n u k)) (raised o (at_or 0 n ps) (h n u k o t) (within n))

  pub early-more : (w : Update) → place ≤ last → ((o : ℕ) → T (member o (operands w)) → last ≤ at_or 0 o lasts') → AreEarly lasts ps xs → AreEarly lasts' (put op place ps) (xs ++ (op, w) ∷ [])
  early-more w low new h n u k o t = elim (holds-last xs (op, w) n u k) [
    | inl a ↦ early-raised h n u a o t
    | inr e ↦
        let here : at_or 0 n (put op place ps) ≡ place = ap (λ m. at_or 0 m (put op place ps)) (sym e.0) ∙ at_or-put op op place ps ∙ ap (λ c. cond c place (at_or 0 op ps)) (self op) in
        let high : last ≤ at_or 0 o lasts' = new o (subst (λ v. T (has_operand o v)) (sym e.1) t) in
        subst (λ m. m ≤ at_or 0 o lasts') (sym here) (omega (arith, low, high))
  ]
    where
      self : (k : ℕ) → (k == k) ≡ true
      self k = grind (arith, nat_tests)

pub early-issued : {A E : Type 0} (r : Result A E) (op place last : ℕ) (u : Update) (ps lasts lasts' : Table ℕ) (xs new : Issued) → is_behind op xs ≡ true → AreWithin last ps → ((o n : ℕ) → n ≤ at_or 0 o lasts → n ≤ last → n ≤ at_or 0 o lasts')
    → place ≤ last → ((o : ℕ) → T (member o (operands u)) → last ≤ at_or 0 o lasts') → AreEarly lasts ps xs → OnOk r (new ≡ xs ++ (op, u) ∷ []) → OnErr r (new ≡ xs) → AreEarly lasts' (put op place ps) new
early-issued (Ok a) op place last u ps lasts lasts' xs new b w raised low there h ok err = subst (AreEarly lasts' (put op place ps)) (sym ok) (early-more op place last ps lasts lasts' xs b w raised u low there h)
early-issued (Err e) op place last u ps lasts lasts' xs new b w raised low there h ok err = subst (AreEarly lasts' (put op place ps)) (sym err) (early-raised op place last ps lasts lasts' xs b w raised h)

-- Issues.

-- the same with another place
abbrev pub placed-at : ℕ × Update → ℕ → Issue
placed-at x k = record { number = x.0; place = k; update = x.1 }

pub issues-put : (op place : ℕ) (ps : Table ℕ) (xs : Issued) → is_behind op xs ≡ true → issues (put op place ps) xs ≡ issues ps xs
issues-put op place ps [] b = refl
issues-put op place ps (x ∷ xs) b =
    let parts = and_parts (nat_lt x.0 op) (is_behind op xs) b in
    ap (λ k. placed-at x k ∷ issues (put op place ps) xs) (at_or-put x.0 op place ps ∙ ap (λ c. cond c place (at_or 0 x.0 ps)) (other x.0 parts.0))
    ∙ ap (λ l. issue_at ps x ∷ l) (issues-put op place ps xs parts.1)
  where
    other : (k : ℕ) → nat_lt k op ≡ true → (k == op) ≡ false
    other k e = grind (arith, nat_tests)

issues-append : (ps : Table ℕ) (xs ys : Issued) → issues ps (xs ++ ys) ≡ issues ps xs ++ issues ps ys
issues-append ps [] ys = refl
issues-append ps (x ∷ xs) ys = ap (λ l. issue_at ps x ∷ l) (issues-append ps xs ys)

pub issues-more : (op place : ℕ) (u : Update) (ps : Table ℕ) (xs : Issued) → is_behind op xs ≡ true → issues (put op place ps) (xs ++ (op, u) ∷ []) ≡ issues ps xs ++ issues_of place (Some op) (Some u)
issues-more op place u ps xs b =
    issues-append (put op place ps) xs ((op, u) ∷ [])
    ∙ ap (λ l. l ++ issues (put op place ps) ((op, u) ∷ [])) (issues-put op place ps xs b)
    ∙ ap (λ k. issues ps xs ++ placed-at (op, u) k ∷ []) (at_or-put op op place ps ∙ ap (λ c. cond c place (at_or 0 op ps)) (itself op))
  where
    itself : (k : ℕ) → (k == k) ≡ true
    itself k = grind (arith, nat_tests)

-- a held operation is one of the issues
pub held-member : (n : ℕ) (ps : Table ℕ) (xs : Issued) → is_some (at n xs) ≡ member n (numbers_in (issues ps xs))
held-member n ps [] = refl
held-member n ps (x ∷ xs) = ap (λ b. is_some (cond b (Some x.1) (at n xs))) (sym (unsigned_ties n x.0)) ∙ go (n == x.0) ∙ ap (λ z. (n == x.0) || z) (held-member n ps xs)
  where
    go : (b : Bool) → is_some (cond b (Some x.1) (at n xs)) ≡ (b || is_some (at n xs))
    go true = refl
    go false = refl

-- What is held of a start, and what its operations come to.

abbrev pub Known : Type 0
Known = ℕ × List Issue

abbrev pub known : ℕ → List Issue → Known
known count is = (count, is)

abbrev pub issues-of : Known → List Issue
issues-of k = k.1

abbrev pub count-of : Known → ℕ
count-of k = k.0

pub has-is : (n count : ℕ) (ps : Table ℕ) (xs : Issued) (now : Known) (found : Option (Bor Update)) → known count (issues ps xs) ≡ now → option_copied found ≡ at n xs → is_some found ≡ member n (numbers_in (issues-of now))
has-is n count ps xs now found view is = copied found ∙ ap is_some is ∙ held-member n ps xs ∙ ap (λ v. member n (numbers_in (issues-of v))) view
  where
    copied : (found : Option (Bor Update)) → is_some found ≡ is_some (option_copied found)
    copied None = refl
    copied (Some b) = refl

-- a number above those before it
pub count-below : (count number op : ℕ) (is : List Issue) (now : Known) → known count is ≡ now → number ≡ op → count-of now < op → count < number
count-below count number op is now view same l = let first : count ≡ count-of now = ap count-of view in omega (arith, first, same, l)

pub issued-up_to : {A E : Type 0} (r : Result A E) (count op : ℕ) (u : Update) (xs new : Issued) → count < op → AreUpTo count xs → OnOk r (new ≡ xs ++ (op, u) ∷ []) → OnErr r (new ≡ xs) → AreUpTo op new
issued-up_to (Ok a) count op u xs new l b ok err = subst (AreUpTo op) (sym ok) (up_to-more count op u xs l b)
issued-up_to (Err e) count op u xs new l b ok err = subst (AreUpTo op) (sym err) (up_to-on count op xs l b)

pub issued-view : (count op number place : ℕ) (u : Update) (ps ps' : Table ℕ) (xs new : Issued) (now : Known) (update : Option Update) → known count (issues ps xs) ≡ now → number ≡ op → update ≡ Some u → ps' ≡ put op place ps → is_behind op xs ≡ true → new ≡ xs ++ (op, u) ∷ []
    → known number (issues ps' new) ≡ known op (issues-of now ++ issues_of place (Some op) update)
issued-view count op number place u ps ps' xs new now update view same is placed b more =
    ap (λ n. known n (issues ps' new)) same
    ∙ ap (known op) (
    ap (λ q. issues q new) placed
    ∙ ap (issues (put op place ps)) more
    ∙ issues-more op place u ps xs b
    ∙ ap (λ v. issues-of v ++ issues_of place (Some op) (Some u)) view
    ∙ ap (λ w. issues-of now ++ issues_of place (Some op) w) (sym is)
    )
