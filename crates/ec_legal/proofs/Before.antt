-- The entries before the first one of a line.
use Rattle.std.proofs.Common.{arith, ◌≡◌, refl, sym, ap, subst, inl, inr, ◌<◌, ◌^◌, ℕ, T, Bool, true, false, not, cond, ◌||◌, ◌==◌, [], ◌∷◌, ◌++◌}
use Rattle.std.proofs.lemmas.Bool.Decides.{nat_tests}
use Rattle.ec_volume.specs.Update.{member, distinct}
use Rattle.ec_history.proofs.OfLaws.ForPlacing.Numbers.{each-front}
use Rattle.ec_history.specs.History.{History, Each}
use Rattle.ec_history.specs.Legal.{IsLegal, from_formatted}
use Rattle.ec_history.specs.declared.entry.Entry.{Entry}
use Rattle.ec_history.specs.declared.rule.Rule.{Rule}
use Rattle.ec_judge.specs.Faults.{IsFirstEntry}
use Rattle.ec_judge.proofs.Firsts.{excludes}
use Rattle.ec_judge.proofs.Checks.{legal-less, lines-front}
use Rattle.ec_legal.specs.Bounded.{AreEntries}
use Rattle.ec_legal.specs.Fronts.{IsLegalFront, before_line}
use Rattle.ec_base.proofs.Bools.{first as left, right}
use Rattle.ec_history.proofs.OfLaws.ForPlacing.Places.{places}

-- a place that stands behind isn't apart from those in front
stands-twice : (p : ℕ) (its : Entry) (h g : History) → T (not (member p (places (h ++ (p, its) ∷ g)))) → ⊥
stands-twice p its [] g t = go (p == p) refl t
  where
    go : (b : Bool) → (p == p) ≡ b → T (not (b || member p (places g))) → ⊥
    go true e t = t
    go false e t = absurd (grind (arith, nat_tests, e))
stands-twice p its (e ∷ h) g t = go (p == e.0) (stands-twice p its h g) t
  where
    go : (b : Bool) → (T (not (member p (places (h ++ (p, its) ∷ g)))) → ⊥) → T (not (b || member p (places (h ++ (p, its) ∷ g)))) → ⊥
    go true f t = t
    go false f t = f t

not-behind : (n p : ℕ) (its : Entry) (h g : History) → (n == p) ≡ true → T (not (member n (places (h ++ (p, its) ∷ g)))) → ⊥
not-behind n p its h g q u =
    let same : n ≡ p = grind (arith, nat_tests, q) in
    stands-twice p its h g (subst (λ m. T (not (member m (places (h ++ (p, its) ∷ g))))) same u)

pub first-of : (p : ℕ) (its : Entry) (h g : History) → T (distinct (places (h ++ (p, its) ∷ g))) → before_line p (h ++ (p, its) ∷ g) ≡ h
first-of p its [] g t = go (p == p) refl
  where
    go : (b : Bool) → (p == p) ≡ b → cond b [] ((p, its) ∷ before_line p g) ≡ []
    go true e = refl
    go false e = absurd (grind (arith, nat_tests, e))
first-of p its (e ∷ h) g t =
    let apart = left (not (member e.0 (places (h ++ (p, its) ∷ g)))) _ t in
    let rest = first-of p its h g (right (not (member e.0 (places (h ++ (p, its) ∷ g)))) _ t) in
    go (e.0 == p) refl apart rest
  where
    go : (b : Bool) → (e.0 == p) ≡ b → T (not (member e.0 (places (h ++ (p, its) ∷ g)))) → before_line p (h ++ (p, its) ∷ g) ≡ h → cond b [] (e ∷ before_line p (h ++ (p, its) ∷ g)) ≡ e ∷ h
    go true q u i = absurd (not-behind e.0 p its h g q u)
    go false q u i = ap (λ l. e ∷ l) i

pub entries-front : (h g : History) → AreEntries (h ++ g) → AreEntries h
entries-front h g a = record { lines = lines-front h g a.lines; few = each-front (λ e. e.0 < 2 ^ 31) h g a.few }

module _ (h : History) (p : ℕ) (r : Rule) (a : AreEntries h) (first : IsFirstEntry from_formatted 0 h p r) where
  pub front-is : before_line p h ≡ first.before
  front-is =
      subst (λ l. before_line p l ≡ first.before) first.parts (first-of p first.its first.before first.after (subst (λ l. T (distinct (places l))) (sym first.parts) a.lines.apart))

  pub front-legal : IsLegal from_formatted 0 (before_line p h)
  front-legal = subst (IsLegal from_formatted 0) (sym front-is) first.legal

  pub front-entries : AreEntries (before_line p h)
  front-entries = subst AreEntries (sym front-is) (entries-front first.before ((p, first.its) ∷ first.after) (subst AreEntries (sym first.parts) a))

-- a legal history is its own legal front
pub whole-front : (most : ℕ) (h front : History) → IsLegal from_formatted most h → IsLegalFront h front → front ≡ h
whole-front most h front l (inl w) = w.0
whole-front most h front l (inr f) = absurd (excludes from_formatted 0 h f.0 f.1 f.2 (legal-less most h l))
