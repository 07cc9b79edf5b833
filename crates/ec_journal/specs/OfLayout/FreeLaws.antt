-- There are slots enough, and none of them is named or stands twice.
use Rattle.std.specs.Prelude.{◌≡◌, ◌⊎◌, ◌<◌, ◌≤◌, ◌+◌, ◌==◌, ◌||◌, ℕ, zero, suc, Bool, true, false, List, [], ◌∷◌, ◌++◌, length, get_or, take}
use Rattle.std.specs.List.{All}
use Rattle.std.specs.List.Sorted.{IsStrictlyIncreasing}
use Rattle.std.proofs.Math.ListN.{set}
use Rattle.std.proofs.Math.Seq.{get_or-append_seam}
use Rattle.std.proofs.Common.{inl, inr, ⊎_elim, arith, ◌∙◌, ap, sym, subst, refl, cond, length-append}
use Rattle.std.proofs.lemmas.Bool.{cases_lt, cases_eq}
use Rattle.std.proofs.lemmas.Bool.{eqb-true, eq-eqb, ne_eqb}
use Rattle.std.proofs.lemmas.List.Elements.{All-push}
use Rattle.std.proofs.lemmas.List.{append-nil, take_more, length-set, get_or-set_same, get_or-set_other, get_or_append_left}
use Rattle.ec_journal.specs.OfLayout.Free.{is_named, if_free, free_below, IsFreeBelow}

-- One slot more that is named takes at most one, and none where it's not below the number.
one_named : (k n : ℕ) (named : List ℕ) → length (free_below k named) ≤ length (free_below k (n ∷ named)) + 1
one_named k n named = ⊎_elim (λ below. (go k).0) (λ above. omega (arith, (go k).1 above)) (cases_lt n k)
  where
    at : (j : ℕ) → (b : Bool) (p : (j == n) ≡ b) → (length (if_free j named) ≤ length (if_free j (n ∷ named)) + (cond b 1 0))
    at j true p = subst (λ e. length (if_free j named) ≤ length (cond (e || is_named j named) [] (j ∷ [])) + 1) (sym p) (small (is_named j named))
      where
        small : (c : Bool) → length (cond c [] (j ∷ [])) ≤ 0 + 1
        small true = omega arith
        small false = omega arith
    at j false p = subst (λ e. length (if_free j named) ≤ length (cond (e || is_named j named) [] (j ∷ [])) + 0) (sym p) (omega arith)

    cases : (j : ℕ) → ((j == n) ≡ true) ⊎ ((j == n) ≡ false)
    cases j = by (j == n) refl
      where
        by : (b : Bool) → (j == n) ≡ b → ((j == n) ≡ true) ⊎ ((j == n) ≡ false)
        by true p = inl p
        by false p = inr p

    go : (j : ℕ) → (length (free_below j named) ≤ length (free_below j (n ∷ named)) + 1) × (j ≤ n → length (free_below j named) ≤ length (free_below j (n ∷ named)))
    go zero = (omega arith, λ le. omega arith)
    go (suc j) =
        let before = go j in
        let sizes = length-append (free_below j named) (if_free j named) in
        let sizes2 = length-append (free_below j (n ∷ named)) (if_free j (n ∷ named)) in
        ⊎_elim
        (λ is.
        let same : j ≡ n = eqb-true j n is in
        (omega (arith, before.1 (omega (arith, same)), sizes, sizes2, at j true is), λ le. absurd (omega (arith, le, same))))
        (λ isnt. (omega (arith, before.0, sizes, sizes2, at j false isnt), λ le. omega (arith, before.1 (omega (arith, le)), sizes, sizes2, at j false isnt)))
        (cases j)

-- as many as there are slots beside the named ones
pub free_enough : (count : ℕ) (named : List ℕ) → count ≤ length (free_below count named) + length named
free_enough count [] = omega (arith, all count)
  where
    all : (k : ℕ) → length (free_below k []) ≡ k
    all zero = refl
    all (suc k) = omega (arith, length-append (free_below k []) (k ∷ []), all k)
free_enough count (n ∷ named) = omega (arith, free_enough count named, one_named count n named)

all_more : (k : ℕ) (named slots : List ℕ) → All (IsFreeBelow k named) slots → All (IsFreeBelow (suc k) named) slots
all_more k named slots all i d lt = (omega (arith, (all i d lt).0), (all i d lt).1)

-- each is below the number, and isn't named
pub free_are : (count : ℕ) (named : List ℕ) → All (IsFreeBelow count named) (free_below count named)
free_are zero named = λ i d lt. absurd (omega (arith, lt))
free_are (suc k) named = go (is_named k named) refl (all_more k named (free_below k named) (free_are k named))
  where
    go : (b : Bool) → is_named k named ≡ b → All (IsFreeBelow (suc k) named) (free_below k named) → All (IsFreeBelow (suc k) named) (free_below k named ++ cond b [] (k ∷ []))
    go true p before = subst (All (IsFreeBelow (suc k) named)) (sym (append-nil (free_below k named))) before
    go false p before = All-push (IsFreeBelow (suc k) named) (free_below k named) k before (omega arith, p)

rising_push : (xs : List ℕ) (k : ℕ) → IsStrictlyIncreasing xs → All (λ x. x < k) xs → IsStrictlyIncreasing (xs ++ k ∷ [])
rising_push xs k rising below i lt =
    let len = length-append xs (k ∷ []) in
    let inside : i < length xs = omega (arith, lt, len) in
    let here = get_or_append_left xs (k ∷ []) 0 i inside in
    elim (cases_lt (i + 1) (length xs)) [
      | inl next ↦ omega (arith, here, get_or_append_left xs (k ∷ []) 0 (i + 1) next, rising i next)
      | inr past ↦
          let last : i + 1 ≡ length xs = omega (arith, past, inside) in
          omega (arith, here, ap (λ (j : ℕ). get_or (xs ++ k ∷ []) j 0) last, get_or-append_seam xs k [] 0, below i 0 inside)
    ]

-- they rise
pub free_rise : (count : ℕ) (named : List ℕ) → IsStrictlyIncreasing (free_below count named)
free_rise zero named = λ i lt. absurd (omega (arith, lt))
free_rise (suc k) named = go (is_named k named) (free_rise k named)
  where
    go : (b : Bool) → IsStrictlyIncreasing (free_below k named) → IsStrictlyIncreasing (free_below k named ++ cond b [] (k ∷ []))
    go true before = subst IsStrictlyIncreasing (sym (append-nil (free_below k named))) before
    go false before = rising_push (free_below k named) k before (λ i d lt. (free_are k named i d lt).0)

-- One step of the marking, and one of the collecting.

named_push : (k : ℕ) (named : List ℕ) (x : ℕ) → is_named k (named ++ x ∷ []) ≡ (is_named k named || (k == x))
named_push k [] x = or_none (k == x)
  where
    or_none : (b : Bool) → (b || false) ≡ b
    or_none true = refl
    or_none false = refl
named_push k (n ∷ named) x = ap (λ (b : Bool). (k == n) || b) (named_push k named x) ∙ shift (k == n) (is_named k named) (k == x)
  where
    shift : (a b c : Bool) → (a || (b || c)) ≡ ((a || b) || c)
    shift true b c = refl
    shift false b c = refl

abbrev pub AreMarked : List Bool → ℕ → List ℕ → Type 0
AreMarked marks count named = (length marks ≡ count) × ((k : ℕ) → k < count → get_or marks k false ≡ is_named k named)

pub mark_more : (marks : List Bool) (count : ℕ) (named : List ℕ) (i : ℕ) → i < length named → get_or named i 0 < count → AreMarked marks count (take i named) → AreMarked (set marks (get_or named i 0) true) count (take (i + 1) named)
mark_more marks count named i lt below marked = (length-set marks x true ∙ marked.0, λ k small. at k small ∙ ap (λ (l : List ℕ). is_named k l) (sym (take_more named i 0 lt)))
  where
    x : ℕ
    x = get_or named i 0

    or_true : (b : Bool) → (b || true) ≡ true
    or_true true = refl
    or_true false = refl

    or_false : (b : Bool) → (b || false) ≡ b
    or_false true = refl
    or_false false = refl

    at : (k : ℕ) → k < count → get_or (set marks x true) k false ≡ is_named k (take i named ++ x ∷ [])
    at k small = elim (cases_eq k x) [
      | inl same ↦
          ap (λ (j : ℕ). get_or (set marks x true) j false) same
          ∙ get_or-set_same marks x true false (omega (arith, below, marked.0))
          ∙ sym (or_true (is_named k (take i named)))
          ∙ ap (λ (b : Bool). is_named k (take i named) || b) (sym (eq-eqb k x same))
          ∙ sym (named_push k (take i named) x)
      | inr differs ↦
          get_or-set_other marks x k true false differs
          ∙ marked.1 k small
          ∙ sym (or_false (is_named k (take i named)))
          ∙ ap (λ (b : Bool). is_named k (take i named) || b) (sym (ne_eqb k x differs))
          ∙ sym (named_push k (take i named) x)
    ]

free_step : (k : ℕ) (named : List ℕ) (b : Bool) → is_named k named ≡ b → free_below (k + 1) named ≡ free_below k named ++ cond b [] (k ∷ [])
free_step k named b is = ap (λ (n : ℕ). free_below n named) (plus k) ∙ ap (λ (c : Bool). free_below k named ++ cond c [] (k ∷ [])) is
  where
    plus : (n : ℕ) → n + 1 ≡ suc n
    plus n = omega arith

pub free_more : (k : ℕ) (named slots : List ℕ) → is_named k named ≡ false → slots ≡ free_below k named → slots ++ k ∷ [] ≡ free_below (k + 1) named
free_more k named slots is so_far = ap (λ (l : List ℕ). l ++ k ∷ []) so_far ∙ sym (free_step k named false is)

pub free_same : (k : ℕ) (named slots : List ℕ) → is_named k named ≡ true → slots ≡ free_below k named → slots ≡ free_below (k + 1) named
free_same k named slots is so_far = so_far ∙ sym (free_step k named true is ∙ append-nil (free_below k named))
