-- What is left of the held operations where some are asked to be durable.
use Rattle.std.proofs.Common.{◌≡◌, inl, inr, refl, sym, ap, subst, ◌∙◌, arith, ◌<◌, ◌≤◌, ℕ, T, Bool, true, false, not, cond, List, [], ◌∷◌}
use Rattle.std.specs.Prelude.{◌==◌, ◌&&◌, ◌||◌, nat_le}
use Rattle.std.specs.Ordering.{nat_cmp}
use Rattle.std.specs.FinMap.{is_sorted}
use Rattle.std.specs.FinMap.Entries.{below_all}
use Rattle.std.specs.List.{list_any}
use Rattle.std.proofs.lemmas.Bool.Decides.{nat_tests}
use Rattle.ec_base.specs.SortedLaws.{first, second}
use Rattle.ec_base.specs.Tables.{Table, keys, at_or}
use Rattle.ec_volume.specs.Update.{member, has_operand}
use Rattle.ec_volume.specs.declared.update.Update.{Update}
use Rattle.ec_order.specs.Order.{Issued, Holds, needs}
use Rattle.ec_log.specs.OfChains.ClosureLaws.{walk-passing}
use Rattle.ec_log.specs.OfChains.Held.{settle, closure_of_object}
use Rattle.ec_log.specs.OfChains.Walk.{walk}
use Rattle.ec_pending.specs.declared.issue.Issue.{Issue}
use Rattle.ec_pending.specs.declared.asked.Asked.TheVariants as asks
use Rattle.ec_pending.proofs.Holding.{Known, known, issues-of}
use Rattle.ec_pending.specs.Pending.{numbers_in, numbered, is_asked, picked_out, rest, issue_at, issues, AreEarly}
use Rattle.ec_base.proofs.Numbers.{itself}
use Rattle.ec_base.proofs.Bools.{below as lower}

above : (m n : ℕ) → m < n → (n == m) ≡ false
above m n l = grind (arith, nat_tests)

below : (m n : ℕ) → m < n → (m == n) ≡ false
below m n l = grind (arith, nat_tests)

-- a number below those of the others isn't among these
pub apart : (n : ℕ) (ns : List ℕ) (xs : Issued) → T (below_all nat_cmp n xs) → settle (n ∷ ns) xs ≡ settle ns xs
apart n ns [] b = refl
apart n ns (x ∷ xs) b =
    ap (λ z. cond (not (z || member x.0 ns)) (x ∷ settle (n ∷ ns) xs) (settle (n ∷ ns) xs)) (above n x.0 (lower n x.0 (first _ _ b)))
    ∙ ap (λ l. cond (not (member x.0 ns)) (x ∷ l) l) (apart n ns xs (second _ _ b))

pub numbers-are : (ps : Table ℕ) (xs : Issued) → numbers_in (issues ps xs) ≡ keys xs
numbers-are ps [] = refl
numbers-are ps (x ∷ xs) = ap (λ l. x.0 ∷ l) (numbers-are ps xs)

pub numbered-are : (ps : Table ℕ) (xs : Issued) → numbered (issues ps xs) ≡ xs
numbered-are ps [] = refl
numbered-are ps (x ∷ xs) = ap (λ l. x ∷ l) (numbered-are ps xs)

any-needs : (ps : Table ℕ) (u : Update) (xs : Issued) → list_any (λ j. needs u j.update) (issues ps xs) ≡ list_any (λ y. needs u y.1) xs
any-needs ps u [] = refl
any-needs ps u (x ∷ xs) = ap (λ z. needs u x.1 || z) (any-needs ps u xs)

module _ (ps : Table ℕ) (p : Issue → Bool) where
  absent : (n : ℕ) (xs : Issued) → T (below_all nat_cmp n xs) → member n (numbers_in (picked_out p (issues ps xs))) ≡ false
  absent n [] b = refl
  absent n (x ∷ xs) b = go (p (issue_at ps x) || list_any (λ j. needs x.1 j.update) (picked_out p (issues ps xs))) (absent n xs (second _ _ b))
    where
      go : (c : Bool) → member n (numbers_in (picked_out p (issues ps xs))) ≡ false → member n (numbers_in (cond c (issue_at ps x ∷ picked_out p (issues ps xs)) (picked_out p (issues ps xs)))) ≡ false
      go true r = ap (λ z. z || member n (numbers_in (picked_out p (issues ps xs)))) (below n x.0 (lower n x.0 (first _ _ b))) ∙ r
      go false r = r

  -- without what is taken, the others are left
  pub left-are : (xs : Issued) → T (is_sorted nat_cmp xs) → issues ps (settle (numbers_in (picked_out p (issues ps xs))) xs) ≡ rest p (issues ps xs)
  left-are [] s = refl
  left-are (x ∷ xs) s = go (p (issue_at ps x) || list_any (λ j. needs x.1 j.update) (picked_out p (issues ps xs))) (left-are xs (second _ _ s))
    where
      go : (c : Bool) → issues ps (settle (numbers_in (picked_out p (issues ps xs))) xs) ≡ rest p (issues ps xs)
          → issues ps (settle (numbers_in (cond c (issue_at ps x ∷ picked_out p (issues ps xs)) (picked_out p (issues ps xs)))) (x ∷ xs)) ≡ cond c (rest p (issues ps xs)) (issue_at ps x ∷ rest p (issues ps xs))
      go true r =
          ap (λ z. issues ps (cond (not (z || member x.0 (numbers_in (picked_out p (issues ps xs))))) (x ∷ settle (x.0 ∷ numbers_in (picked_out p (issues ps xs))) xs) (settle (x.0 ∷ numbers_in (picked_out p (issues ps xs))) xs))) (itself x.0)
          ∙ ap (issues ps) (apart x.0 (numbers_in (picked_out p (issues ps xs))) xs (first _ _ s))
          ∙ r
      go false r =
          ap (λ z. issues ps (cond (not z) (x ∷ settle (numbers_in (picked_out p (issues ps xs))) xs) (settle (numbers_in (picked_out p (issues ps xs))) xs))) (absent x.0 xs (first _ _ s))
          ∙ ap (λ l. issue_at ps x ∷ l) r

  -- by a test of the update alone, that agrees on these operations
  pub taken-walk : (q : ℕ × Update → Bool) (xs : Issued) → ((n : ℕ) (u : Update) → Holds xs n u → p (issue_at ps (n, u)) ≡ q (n, u)) → picked_out p (issues ps xs) ≡ issues ps (walk q xs)
  taken-walk q [] same = refl
  taken-walk q (x ∷ xs) same =
      ap (λ l. cond (p (issue_at ps x) || list_any (λ j. needs x.1 j.update) l) (issue_at ps x ∷ l) l) (taken-walk q xs (λ n u h. same n u (inr h)))
      ∙ ap (λ b. cond (b || list_any (λ j. needs x.1 j.update) (issues ps (walk q xs))) (issue_at ps x ∷ issues ps (walk q xs)) (issues ps (walk q xs))) (same x.0 x.1 (inl (refl, refl)))
      ∙ ap (λ b. cond (q x || b) (issue_at ps x ∷ issues ps (walk q xs)) (issues ps (walk q xs))) (any-needs ps x.1 (walk q xs))
      ∙ go (q x || list_any (λ y. needs x.1 y.1) (walk q xs))
    where
      go : (b : Bool) → cond b (issue_at ps x ∷ issues ps (walk q xs)) (issues ps (walk q xs)) ≡ issues ps (cond b (x ∷ walk q xs) (walk q xs))
      go true = refl
      go false = refl

-- where all on the object have places up to this one
pub closure-taken : (ps lasts : Table ℕ) (o begun : ℕ) (xs : Issued) → AreEarly lasts ps xs → at_or 0 o lasts ≤ begun → T (is_sorted nat_cmp xs)
    → numbers_in (picked_out (is_asked (asks.On o begun)) (issues ps xs)) ≡ keys (closure_of_object o xs)
closure-taken ps lasts o begun xs early l s =
    ap numbers_in (taken-walk ps (is_asked (asks.On o begun)) (λ x. has_operand o x.1) xs (λ n u h. go n u h (has_operand o u) refl))
    ∙ numbers-are ps (walk (λ x. has_operand o x.1) xs)
    ∙ ap keys (walk-passing (λ x. has_operand o x.1) xs s)
  where
    low : (m n : ℕ) → m ≤ n → n ≤ begun → nat_le m begun ≡ true
    low m n a b = grind (arith, nat_tests)

    none : (b : Bool) → (b && false) ≡ false
    none true = refl
    none false = refl

    go : (n : ℕ) (u : Update) → Holds xs n u → (b : Bool) → has_operand o u ≡ b → (nat_le (at_or 0 n ps) begun && has_operand o u) ≡ has_operand o u
    go n u h true e = ap (λ b. b && has_operand o u) (low (at_or 0 n ps) (at_or 0 o lasts) (early n u h o (subst T (sym e) tt)) l)
    go n u h false e = ap (λ b. nat_le (at_or 0 n ps) begun && b) e ∙ none (nat_le (at_or 0 n ps) begun) ∙ sym e

-- nothing is asked
pub taken-none : (is : List Issue) → numbers_in (picked_out (λ i. false) is) ≡ []
taken-none is = ap numbers_in (none is)
  where
    none : (is : List Issue) → picked_out (λ i. false) is ≡ []
    none [] = refl
    none (i ∷ is) = ap (λ l. cond (list_any (λ j. needs i.update j.update) l) (i ∷ l) l) (none is)

-- What is held, and what its operations come to.

pub sorted-view : (count : ℕ) (ps : Table ℕ) (xs : Issued) (now : Known) → known count (issues ps xs) ≡ now → T (is_sorted nat_cmp xs) → T (is_sorted nat_cmp (numbered (issues-of now)))
sorted-view count ps xs now view s = subst (λ l. T (is_sorted nat_cmp l)) (sym (numbered-are ps xs) ∙ ap (λ v. numbered (issues-of v)) view) s

pub left-view : (count : ℕ) (ps : Table ℕ) (xs new : Issued) (now : Known) (p : Issue → Bool) (ops : List ℕ) → known count (issues ps xs) ≡ now → ops ≡ numbers_in (picked_out p (issues-of now)) → T (is_sorted nat_cmp (numbered (issues-of now))) → new ≡ settle ops xs
    → known count (issues ps new) ≡ known now.0 (rest p (issues-of now))
left-view count ps xs new now p ops view is s left =
    ap (known count) (
    ap (issues ps) left
    ∙ ap (λ l. issues ps (settle l xs)) (is ∙ ap (λ v. numbers_in (picked_out p (issues-of v))) (sym view))
    ∙ left-are ps p xs (subst (λ l. T (is_sorted nat_cmp l)) (ap (λ v. numbered (issues-of v)) (sym view) ∙ numbered-are ps xs) s)
    )
    ∙ ap (λ v. known v.0 (rest p (issues-of v))) view
