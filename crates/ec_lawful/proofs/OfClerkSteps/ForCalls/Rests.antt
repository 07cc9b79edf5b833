-- What is left of all operations of a start, the lost ones too: those known durable and those lost are done with.
use Rattle.std.proofs.Common.{◌≡◌, refl, sym, ap, subst, ◌∙◌, arith, ◌≤◌, ◌<◌, ℕ, T, Bool, true, false, not, ◌==◌, ◌&&◌, ◌||◌, List, [], ◌∷◌, ◌⊎◌, inl, inr}
use Rattle.std.specs.Prelude.{nat_le}
use Rattle.std.specs.List.{filter}
use Rattle.std.specs.Ordering.{nat_cmp}
use Rattle.std.specs.FinMap.{is_sorted}
use Rattle.std.proofs.lemmas.Bool.Decides.{nat_tests}
use Rattle.ec_volume.specs.Update.{member}
use Rattle.ec_volume.specs.declared.update.Update.{Update}
use Rattle.ec_order.specs.Order.{Issued, Holds, needs}
use Rattle.ec_history.specs.History.{Base, History, Each, is_lost, issued, kept, names, of_issue, same_start}
use Rattle.ec_history.specs.Legal.{IsLegal}
use Rattle.ec_history.specs.declared.entry.Entry.{Entry}
use Rattle.ec_history.specs.declared.entry.Entry.TheVariants as entry
use Rattle.ec_history.proofs.OfLaws.ForPlacing.Least.{needed-by_number, needed-from_numbers}
use Rattle.ec_log.specs.LogOrder.{is_from}
use Rattle.ec_log.specs.declared.state.LogState.{LogState}
use Rattle.ec_machine_laws.specs.Picks.{IsRest}
use Rattle.ec_machine_laws.proofs.Holding.{holds-kept}
use Rattle.ec_coherence.proofs.ForServer.Lists.{filter-alike, filter-two}
use Rattle.ec_history.proofs.OfLaws.Issues.{issue-sorted}
use Rattle.ec_lawful.specs.OfClerkSteps.Calls.{LosesBelow}
use Rattle.ec_lawful.proofs.OfClerkSteps.ForCalls.Issued.{kept-of}
use Rattle.ec_base.proofs.Bools.{holds-true}

-- an operation of the log isn't below its first one
from-first : (n : ℕ) (xs : Issued) → T (is_from n xs) → (m : ℕ) (u : Update) → Holds xs m u → n ≤ m
from-first n [] f m u h = absurd h
from-first n (x ∷ xs) f m u h = go (nat_le n x.0) refl f h (λ i p. from-first n xs i m u p)
  where
    at-most : (j i : ℕ) → nat_le n j ≡ true → j ≡ i → n ≤ i
    at-most j i e q = grind (arith, nat_tests, q)

    go : (y : Bool) → nat_le n x.0 ≡ y → T (y && is_from n xs) → ((x.0 ≡ m) × (x.1 ≡ u)) ⊎ Holds xs m u → (T (is_from n xs) → Holds xs m u → n ≤ m) → n ≤ m
    go true e f (inl p) r = at-most x.0 m e p.0
    go true e f (inr p) r = r f p
    go false e f p r = absurd f

-- a member of a list below it
in-all : (n m : ℕ) (ns : List ℕ) → Each (λ j. j < n) ns → T (member m ns) → m < n
in-all n m [] q t = absurd t
in-all n m (j ∷ ns) q t = at (m == j) refl t (in-all n m ns q.1)
  where
    at : (x : Bool) → (m == j) ≡ x → T (x || member m ns) → (T (member m ns) → m < n) → m < n
    at true e t r = less m j q.0 e
      where
        less : (m j : ℕ) → j < n → (m == j) ≡ true → m < n
        less m j l e = grind (arith, nat_tests, l)
    at false e t r = r t

-- a lost number is below what all losses are below
below-lost : (c b n m : ℕ) (h : History) → Each (LosesBelow c b n) h → T (is_lost c b m h) → m < n
below-lost c b n m [] k t = absurd t
below-lost c b n m (e ∷ h) k t = go e k.0 (names c b m e.1) refl t (below-lost c b n m h k.1)
  where
    parts : (x y : Bool) → T (x && y) → T x × T y
    parts true true t = (tt, tt)
    parts true false t = absurd t
    parts false y t = absurd t

    go : (e : ℕ × Entry) → LosesBelow c b n e → (x : Bool) → names c b m e.1 ≡ x → T (x || is_lost c b m h) → (T (is_lost c b m h) → m < n) → m < n
    go e q false f t r = r t
    go (p, entry.Loss d f ns) q true i t r = let two = parts (same_start c b d f) (member m ns) (holds-true _ i) in in-all n m ns (q two.0) two.1
    go (p, entry.Call d f j begun cl a op) q true i t r = absurd (no i)
      where
        no : false ≡ true → ⊥
        no e = cc

module _ (issued : Issued) (sorted : T (is_sorted nat_cmp issued)) (lost known : ℕ → Bool) (l : LogState) (first : ℕ) (r : IsRest (filter (λ x. not (lost x.0)) issued) known l) (own : T (is_from first l.undurable)) (below : (n : ℕ) → T (lost n) → n < first) where
  abbrev done : ℕ → Bool
  done n = known n || lost n

  left : l.undurable ≡ filter (λ x. not (done x.0)) issued
  left = r.rest ∙ filter-two (λ x. not (known x.0)) (λ x. not (lost x.0)) issued ∙ filter-alike (λ x. not (lost x.0) && not (known x.0)) (λ x. not (done x.0)) issued (each issued)
    where
      two : (x y : Bool) → (not x && not y) ≡ not (y || x)
      two true true = refl
      two true false = refl
      two false true = refl
      two false false = refl

      each : (xs : Issued) → Each (λ x. (not (lost x.0) && not (known x.0)) ≡ not (done x.0)) xs
      each [] = tt
      each (x ∷ xs) = (two (lost x.0) (known x.0), each xs)

  closed : (m n : ℕ) (x y : Update) → Holds issued m x → Holds issued n y → m < n → T (needs x y) → T (done n) → T (done m)
  closed m n x y hm hn lt nd d = go (known m) (lost m) refl refl
    where
      go : (a b : Bool) → known m ≡ a → lost m ≡ b → T (known m || lost m)
      go true b e f = subst (λ z. T (z || lost m)) (sym e) tt
      go false true e f = subst (λ z. T (known m || z)) (sym f) (or_true (known m))
        where
          or_true : (x : Bool) → T (x || true)
          or_true true = tt
          or_true false = tt
      go false false e f = absurd (by (lost n) refl d)
        where
          there : Holds l.undurable m x
          there = subst (λ xs. Holds xs m x) (sym left) (holds-kept (λ x. not (done x.0)) issued m x hm (ap (λ z. not (z || lost m)) e ∙ ap not f))

          kept-m : Holds (filter (λ x. not (lost x.0)) issued) m x
          kept-m = holds-kept (λ x. not (lost x.0)) issued m x hm (ap not f)

          by : (z : Bool) → lost n ≡ z → T (known n || lost n) → ⊥
          by true i t = omega (arith, below n (holds-true (lost n) i), from-first first l.undurable own m x there, lt)
          by false i t =
              let sure : T (known n) = subst T (ap (λ z. known n || z) i ∙ or_false (known n)) t in
              no (known m) e (needed-by_number (filter (λ x. not (lost x.0)) issued) known r.sorted r.closed m n x y kept-m (holds-kept (λ x. not (lost x.0)) issued n y hn (ap not i)) lt nd sure)
            where
              or_false : (x : Bool) → (x || false) ≡ x
              or_false true = refl
              or_false false = refl

              no : (b : Bool) → b ≡ false → T b → ⊥
              no true e t = cc
              no false e t = t

  pub rest-of-all : IsRest issued done l
  rest-of-all = record { sorted = sorted; rest = left; closed = needed-from_numbers issued done sorted closed }

-- of a legal history
pub rest-issued : (base : Base) (most c b : ℕ) (h : History) → IsLegal base most h → (known : ℕ → Bool) (l : LogState) → IsRest (of_issue c b (kept base h)) known l → T (is_from l.first l.undurable) → Each (LosesBelow c b l.first) h
    → IsRest (of_issue c b (issued base h)) (λ n. known n || is_lost c b n h) l
rest-issued base most c b h legal known l r own lost =
    rest-of-all (of_issue c b (issued base h)) (issue-sorted base most c b h legal) (λ n. is_lost c b n h) known l l.first
    (subst (λ xs. IsRest xs known l) (kept-of base most c b h legal) r) own (λ n t. below-lost c b l.first n h lost t)
