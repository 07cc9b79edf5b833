-- Chains, with one more operation and without some.
use Rattle.std.proofs.Common.{◌≡◌, ◌<◌, ◌∙◌, inl, inr, refl, sym, ap, subst, arith, ℕ, T, Bool, true, false, cond, not, List, [], ◌∷◌, ◌++◌, None, Some}
use Rattle.std.specs.Prelude.{◌==◌, nat_lt, is_some, Result, Ok, Err, OnOk, OnErr}
use Rattle.std.proofs.lemmas.Bool.Decides.{nat_tests}
use Rattle.std.proofs.lemmas.Bool.{and_parts, ltb-true}
use Rattle.ec_base.specs.Tables.{Table, at, at_or, or_else, put}
use Rattle.ec_volume.specs.Update.{member, has_operand, operands}
use Rattle.ec_volume.specs.declared.update.Update.{Update}
use Rattle.ec_order.specs.Order.{Issued, Holds}
use Rattle.ec_log.specs.OfChains.Chains.{AreLinked, AreKept}
use Rattle.ec_log.specs.OfChains.Held.{is_behind, settle}
use Rattle.ec_log.proofs.OfChains.Fronts.{holds-last, holds-part}
use Rattle.ec_base.proofs.Numbers.{itself}
use Rattle.ec_order.proofs.OfObjmap.Entries.{at-put}

pub held-below : (op : ℕ) (xs : Issued) → is_behind op xs ≡ true → (n : ℕ) (u : Update) → Holds xs n u → n < op
held-below op [] b n u h = absurd h
held-below op (x ∷ xs) b n u (inl e) = subst (λ k. k < op) e.0 (ltb-true x.0 op (and_parts (nat_lt x.0 op) (is_behind op xs) b).0)
held-below op (x ∷ xs) b n u (inr h) = held-below op xs (and_parts (nat_lt x.0 op) (is_behind op xs) b).1 n u h

-- numbers below this one stay in their chains
abbrev pub Stay : ℕ → Table (List ℕ) → Table (List ℕ) → Type 0
Stay op old new = (o n : ℕ) → n < op → T (member n (at_or [] o old)) → T (member n (at_or [] o new))

pub linked-raised : (old new : Table (List ℕ)) (xs : Issued) (op : ℕ) → is_behind op xs ≡ true → AreLinked old xs → Stay op old new → AreLinked new xs
linked-raised old new xs op b l stay o n u h t = stay o n (held-below op xs b n u h) (l o n u h t)

pub linked-more : (old new : Table (List ℕ)) (xs : Issued) (op : ℕ) (w : Update) → is_behind op xs ≡ true → AreLinked old xs → Stay op old new → ((o : ℕ) → T (member o (operands w)) → T (member op (at_or [] o new))) → AreLinked new (xs ++ (op, w) ∷ [])
linked-more old new xs op w b l stay its o n u h t = elim (holds-last xs (op, w) n u h) [
  | inl k ↦ linked-raised old new xs op b l stay o n u k t
  | inr k ↦ subst (λ m. T (member m (at_or [] o new))) k.0 (its o (subst (λ z. T (has_operand o z)) (sym k.1) t))
]

pub linked-none : (chains : Table (List ℕ)) → AreLinked chains []
linked-none chains o n u h t = absurd h

pub linked-part : (ops : List ℕ) (old new : Table (List ℕ)) (xs after : Issued) → after ≡ settle ops xs → AreKept after old new → AreLinked old xs → AreLinked new after
linked-part ops old new xs after e kept l o n u h t = kept o n u h (l o n u (holds-part (λ x. not (member x.0 ops)) xs n u (subst (λ ys. Holds ys n u) e h)) t)

-- Chains that are changed one by one.

pub kept-same : (xs : Issued) (old : Table (List ℕ)) → AreKept xs old old
kept-same xs old o n u h t = t

pub kept-twice : (xs : Issued) (old middle new : Table (List ℕ)) → AreKept xs old middle → AreKept xs middle new → AreKept xs old new
kept-twice xs old middle new a b o n u h t = b o n u h (a o n u h t)

-- a chain that is there takes the place of the empty one that took its place
pub put-twice : (obj o : ℕ) (none now : List ℕ) (old middle new : Table (List ℕ)) → middle ≡ put obj none old → new ≡ put obj now middle → at_or [] o new ≡ or_else [] (cond (o == obj) (Some now) (at o old))
put-twice obj o none now old middle new a b = ap (at_or [] o) b ∙ ap (or_else []) (at-put o obj now middle) ∙ go (o == obj) refl
  where
    go : (c : Bool) → (o == obj) ≡ c → or_else [] (cond c (Some now) (at o middle)) ≡ or_else [] (cond c (Some now) (at o old))
    go true e = refl
    go false e = ap (or_else []) (ap (at o) a ∙ at-put o obj none old ∙ ap (λ c. cond c (Some none) (at o old)) e)

-- where each number of the old chain that is to stay is in the new one, it stays in all
pub stays-at : (obj o n : ℕ) (was now : List ℕ) (old new : Table (List ℕ)) → at obj old ≡ Some was → ((p : ℕ) → at_or [] p new ≡ or_else [] (cond (p == obj) (Some now) (at p old))) → (T (member n was) → T (member n now)) → T (member n (at_or [] o old)) → T (member n (at_or [] o new))
stays-at obj o n was now old new is new_is f t = subst (λ l. T (member n l)) (sym (new_is o)) (go (o == obj) refl)
  where
    same : (o == obj) ≡ true → o ≡ obj
    same e = grind (arith, nat_tests, e)

    go : (c : Bool) → (o == obj) ≡ c → T (member n (or_else [] (cond c (Some now) (at o old))))
    go true e = f (subst (λ l. T (member n l)) (ap (λ p. at_or [] p old) (same e) ∙ ap (or_else []) is) t)
    go false e = t

pub put-there : (k : ℕ) (x : List ℕ) (old new : Table (List ℕ)) → new ≡ put k x old → is_some (at k new) ≡ true
put-there k x old new e = ap (λ es. is_some (at k es)) e ∙ ap is_some (at-put k k x old ∙ ap (λ b. cond b (Some x) (at k old)) (itself k))

pub put-here : (obj : ℕ) (none now : List ℕ) (old middle new : Table (List ℕ)) → middle ≡ put obj none old → new ≡ put obj now middle → at_or [] obj new ≡ now
put-here obj none now old middle new a b = put-twice obj obj none now old middle new a b ∙ ap (λ c. or_else [] (cond c (Some now) (at obj old))) (itself obj)

-- a chain where there was none
pub first-here : (obj : ℕ) (now : List ℕ) (old new : Table (List ℕ)) → new ≡ put obj now old → at_or [] obj new ≡ now
first-here obj now old new e = ap (at_or [] obj) e ∙ ap (or_else []) (at-put obj obj now old ∙ ap (λ c. cond c (Some now) (at obj old)) (itself obj))

pub first-stays : {A E : Type 0} (r : Result A E) (obj o n : ℕ) (now : List ℕ) (old middle new : Table (List ℕ)) → at obj old ≡ None → middle ≡ old → OnOk r (new ≡ put obj now middle) → OnErr r (new ≡ middle) → T (member n (at_or [] o old)) → T (member n (at_or [] o new))
first-stays (Err e) obj o n now old middle new none same ok err t = subst (λ es. T (member n (at_or [] o es))) (sym (err ∙ same)) t
first-stays (Ok a) obj o n now old middle new none same ok err t =
    subst (λ l. T (member n l)) (sym (ap (at_or [] o) (ok ∙ ap (put obj now) same) ∙ ap (or_else []) (at-put o obj now old))) (go (o == obj) refl)
  where
    alike : (o == obj) ≡ true → o ≡ obj
    alike e = grind (arith, nat_tests, e)

    go : (c : Bool) → (o == obj) ≡ c → T (member n (or_else [] (cond c (Some now) (at o old))))
    go true e = absurd (subst (λ l. T (member n l)) (ap (λ p. at_or [] p old) (alike e) ∙ ap (or_else []) none) t)
    go false e = t

-- a chain that got empty is removed
pub removed-at : (obj o : ℕ) (none now : List ℕ) (old middle new : Table (List ℕ)) → middle ≡ put obj none old → ((p : ℕ) → at p new ≡ cond (p == obj) None (at p middle)) → now ≡ [] → at_or [] o new ≡ or_else [] (cond (o == obj) (Some now) (at o old))
removed-at obj o none now old middle new a b e = ap (or_else []) (b o) ∙ go (o == obj) refl
  where
    go : (c : Bool) → (o == obj) ≡ c → or_else [] (cond c None (at o middle)) ≡ or_else [] (cond c (Some now) (at o old))
    go true q = sym e
    go false q = ap (or_else []) (ap (at o) a ∙ at-put o obj none old ∙ ap (λ c. cond c (Some none) (at o old)) q)

pub on-both : {A E P Q R : Type 0} (r : Result A E) → OnOk r P → OnOk r Q → (P → Q → R) → OnOk r R
on-both (Ok a) p q f = f p q
on-both (Err e) p q f = tt
