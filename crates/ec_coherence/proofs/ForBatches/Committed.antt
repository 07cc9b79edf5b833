-- A batch of an open session is committed: the log and the images go on agreeing.
use Rattle.std.proofs.Common.{◌≡◌, refl, sym, ap, subst, ◌∙◌, inl, inr, ◌⊎◌, ℕ, Bool, true, false, not, ◌||◌, cond, T, ◌+◌, ◌^◌, nat_lt, List, [], ◌∷◌, ◌++◌}
use Rattle.std.specs.Prelude.{◌==◌, nat_le, Option, None, Some}
use Rattle.std.specs.List.{filter}
use Rattle.ec_base.specs.declared.ids.Age.{Age}
use Rattle.ec_volume.specs.Update.{member, distinct, operands}
use Rattle.ec_history.specs.History.{Op, updates}
use Rattle.ec_sessions.specs.WindowLaws.{kept_over}
use Rattle.ec_sessions.specs.Windows.{has, after_mark, mark_answer, is_marked}
use Rattle.ec_sessions.specs.WindowMarks.{after_marks}
use Rattle.ec_sessions.specs.declared.window.Window.{Window}
use Rattle.ec_sessions.specs.declared.window.Marked.TheVariants as answer
use Rattle.ec_sessions.specs.Slots as slots
use Rattle.ec_durable.specs.Durable.{slot}
use Rattle.ec_protocol.specs.declared.clerk.Clerk.{Clerk}
use Rattle.ec_coherence.specs.System.{clerk_of, if_in}
use Rattle.ec_coherence.specs.Log as log
use Rattle.ec_coherence.specs.Log.{Knows, LogAgrees, LogsAgree, HasWrites, IdsAgree, IsNumbered, OfOpen, InSession, mine, numbered, made_by, next_of}
use Rattle.ec_coherence.proofs.ForBatches.Carried.{less, still-in, was-in, not-in, less_distinct}
use Rattle.ec_coherence.proofs.ForBatches.Ids.{not-less, in-front, in-back, in-either, distinct-back, part-member}
use Rattle.ec_coherence.proofs.ForServer.Lists.{or_else}
use Rattle.ec_coherence.proofs.ForServer.Tables.{same_some}
use Rattle.ec_protocol.specs.Clerk.{is_session}
use Rattle.ec_base.proofs.Bools.{left as and_first, not-both as no_both, first-false, or-right as or_next, right as and_next, or_first, no-longer as is-false, is-true, holds-true as holds}
use Rattle.ec_base.proofs.Numbers.{same-self as same, equal}
use Rattle.ec_base.proofs.Options.{none_some}

-- Windows.

pub marks-more : (w : Window) (ns : List ℕ) (n : ℕ) → after_mark (after_marks w ns) n ≡ after_marks w (ns ++ n ∷ [])
marks-more w [] n = refl
marks-more w (m ∷ ns) n = marks-more (after_mark w m) ns n

pub is-new : (w : Window) (b : ℕ) → T (not (has w b)) → (nat_lt (w.low + 8) b || nat_le (2 ^ 62) w.low) ≡ false → is_marked (mark_answer w b) ≡ true
is-new w b n e = ap (λ x. is_marked (cond x (answer.Beyond w.low) (cond (has w b) answer.Already answer.Marked))) (first-false (nat_lt (w.low + 8) b) _ e) ∙ ap (λ x. is_marked (cond x answer.Already answer.Marked)) (is-false (has w b) n)

pub stays-had : (w : Window) (b m : ℕ) → T (not (has (after_mark w b) m)) → T (not (has w m))
stays-had w b m n = not-less (has w m) (has (after_mark w b) m) (λ t. holds (has (after_mark w b) m) (kept_over w (b ∷ []) m (is-true (has w m) t))) n

-- Ids.

pub less-none : (xs : List ℕ) → less xs [] ≡ []
less-none [] = refl
less-none (x ∷ xs) = less-none xs

pub less-was : (x : ℕ) (os us : List ℕ) → T (member x (less os us)) → T (member x us)
less-was x [] us m = m
less-was x (o ∷ os) us m = was-in x o us (less-was x os (slots.without o us) m)

pub less-stays : (x : ℕ) (os us : List ℕ) → T (member x us) → T (not (member x os)) → T (member x (less os us))
less-stays x [] us m n = m
less-stays x (o ∷ os) us m n =
    less-stays x os (slots.without o us) (still-in x o us m (λ e. absurd (no_both ((x == o) || member x os) (or_first (x == o) (member x os) (holds (x == o) (ap (λ z. x == z) (sym e) ∙ same x))) n)))
    (not-less (member x os) ((x == o) || member x os) (or_next (x == o) (member x os)) n)

pub less-once : (os us : List ℕ) → T (distinct us) → T (distinct (less os us))
less-once [] us d = d
less-once (o ∷ os) us d = less-once os (slots.without o us) (less_distinct o us d)

pub less-away : (x : ℕ) (os us : List ℕ) → T (distinct us) → T (member x (less os us)) → T (not (member x os))
less-away x [] us d m = tt
less-away x (o ∷ os) us d m = go (x == o) refl (less-away x os (slots.without o us) (less_distinct o us d) m)
  where
    go : (b : Bool) → (x == o) ≡ b → T (not (member x os)) → T (not (b || member x os))
    go true e n = absurd (no_both (member o (slots.without o us)) (subst (λ z. T (member z (slots.without o us))) (equal x o e) (less-was x os (slots.without o us) m)) (not-in o us d))
    go false e n = n

pub in-both : (x : ℕ) (xs ys : List ℕ) → T (distinct (xs ++ ys)) → T (member x xs) → T (member x ys) → ⊥
in-both x [] ys d a b = a
in-both x (z ∷ xs) ys d a b = elim (or_else (x == z) (member x xs) a) [
  | inl e ↦ no_both (member z (xs ++ ys)) (in-back z xs ys (subst (λ w. T (member w ys)) (equal x z (is-true (x == z) e)) b)) (and_first (not (member z (xs ++ ys))) _ d)
  | inr r ↦ in-both x xs ys (and_next (not (member z (xs ++ ys))) (distinct (xs ++ ys)) d) r b
]

-- those of a part, and of the rest
module _ (q : Op → Bool) where
  pub apart-parts : (x : ℕ) (os : List Op) → T (distinct (made_by (updates os))) → T (member x (made_by (updates (filter q os)))) → T (member x (made_by (updates (filter (λ o. not (q o)) os)))) → ⊥
  apart-parts x [] d m n = m
  apart-parts x (o ∷ os) d m n = go (q o) m n (apart-parts x os (distinct-back (log.made_by (o.update ∷ [])) (made_by (updates os)) (subst (λ xs. T (distinct xs)) (one (Rattle.ec_volume.specs.Update.listed (Rattle.ec_durable.specs.Durable.made o.update)) (made_by (updates os))) d)))
    where
      mo : List ℕ
      mo = Rattle.ec_volume.specs.Update.listed (Rattle.ec_durable.specs.Durable.made o.update)

      one : (xs ys : List ℕ) → xs ++ ys ≡ (xs ++ []) ++ ys
      one [] ys = refl
      one (z ∷ xs) ys = ap (λ w. z ∷ w) (one xs ys)

      go : (b : Bool) → T (member x (made_by (updates (cond b (o ∷ filter q os) (filter q os))))) → T (member x (made_by (updates (cond (not b) (o ∷ filter (λ o. not (q o)) os) (filter (λ o. not (q o)) os)))))
          → (T (member x (made_by (updates (filter q os)))) → T (member x (made_by (updates (filter (λ o. not (q o)) os)))) → ⊥) → ⊥
      go true m n f = elim (in-either x mo (made_by (updates (filter q os))) m) [ inl a ↦ in-both x mo (made_by (updates os)) d a (part-member (λ o. not (q o)) x os n) | inr a ↦ f a n ]
      go false m n f = elim (in-either x mo (made_by (updates (filter (λ o. not (q o)) os))) n) [ inl a ↦ in-both x mo (made_by (updates os)) d a (part-member q x os m) | inr a ↦ f m a ]

  pub one-part : (x : ℕ) (os : List Op) → T (member x (made_by (updates os))) → T (member x (made_by (updates (filter q os)))) ⊎ T (member x (made_by (updates (filter (λ o. not (q o)) os))))
  one-part x [] m = absurd m
  one-part x (o ∷ os) m = go (q o) (in-either x mo (made_by (updates os)) m) (λ k. one-part x os k)
    where
      mo : List ℕ
      mo = Rattle.ec_volume.specs.Update.listed (Rattle.ec_durable.specs.Durable.made o.update)

      go : (b : Bool) → T (member x mo) ⊎ T (member x (made_by (updates os))) → (T (member x (made_by (updates os))) → T (member x (made_by (updates (filter q os)))) ⊎ T (member x (made_by (updates (filter (λ o. not (q o)) os)))))
          → T (member x (made_by (updates (cond b (o ∷ filter q os) (filter q os))))) ⊎ T (member x (made_by (updates (cond (not b) (o ∷ filter (λ o. not (q o)) os) (filter (λ o. not (q o)) os)))))
      go true (inl a) f = inl (in-front x mo (made_by (updates (filter q os))) a)
      go false (inl a) f = inr (in-front x mo (made_by (updates (filter (λ o. not (q o)) os))) a)
      go true (inr a) f = elim (f a) [ inl p ↦ inl (in-back x mo (made_by (updates (filter q os))) p) | inr p ↦ inr p ]
      go false (inr a) f = elim (f a) [ inl p ↦ inl p | inr p ↦ inr (in-back x mo (made_by (updates (filter (λ o. not (q o)) os))) p) ]

-- The clerk's start.

pub session-there : (s : ℕ) (o : Option (ℕ × Age)) (clerks : ℕ → ℕ → Option Clerk) (k : Clerk) → clerk_of s o clerks ≡ Some k → k.session ≡ Some s
session-there s None clerks k p = absurd (none_some p)
session-there s (Some o) clerks k p = go (clerks o.0 (o.1).boot) p
  where
    in-it : (z : Option ℕ) → is_session s z ≡ true → z ≡ Some s
    in-it None e = absurd (cc)
    in-it (Some t) e = ap Some (sym (equal s t e))

    go : (m : Option Clerk) → if_in s m ≡ Some k → k.session ≡ Some s
    go None p = absurd (none_some p)
    go (Some m) p = inner (is_session s m.session) refl p
      where
        inner : (b : Bool) → is_session s m.session ≡ b → elim b as (λ z. Option Clerk) [ true ↦ Some m | false ↦ None ] ≡ Some k → k.session ≡ Some s
        inner true e p = sym (ap (λ w. w.session) (same_some p)) ∙ in-it m.session e
        inner false e p = absurd (none_some p)

pub start-there : (s : ℕ) (o : Option (ℕ × Age)) (c : ℕ) (a : Age) (clerks : ℕ → ℕ → Option Clerk) (k : Clerk) → o ≡ Some (c, a) → clerk_of s o clerks ≡ Some k → clerks c a.boot ≡ Some k
start-there s o c a clerks k e p = go (clerks c a.boot) (sym (ap (λ z. clerk_of s z clerks) e) ∙ p)
  where
    go : (m : Option Clerk) → if_in s m ≡ Some k → m ≡ Some k
    go None p = absurd (none_some p)
    go (Some m) p = inner (is_session s m.session) p
      where
        inner : (b : Bool) → elim b as (λ z. Option Clerk) [ true ↦ Some m | false ↦ None ] ≡ Some k → Some m ≡ Some k
        inner true p = p
        inner false p = absurd (none_some p)
