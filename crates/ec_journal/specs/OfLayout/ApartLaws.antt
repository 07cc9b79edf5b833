-- Pieces for free slots, taken in order, are apart, and none is for a named slot.
use Rattle.std.specs.Prelude.{◌≡◌, ◌<◌, ◌≤◌, ◌==◌, ◌||◌, ℕ, suc, Bool, true, false, List, [], ◌∷◌, length, take}
use Rattle.std.specs.List.{All, AllPairs}
use Rattle.std.proofs.Common.{arith, sym, subst, refl}
use Rattle.std.proofs.lemmas.Bool.{eqb-false}
use Rattle.std.proofs.lemmas.List.{get_or-take, length-take}
use Rattle.std.proofs.lemmas.List.Elements.{All-take}
use Rattle.std.proofs.lemmas.List.Kept.{AllPairs-from_increasing}
use Rattle.ec_journal.specs.OfLayout.Free.{is_named, free_below, IsFreeBelow}
use Rattle.ec_journal.specs.OfLayout.FreeLaws.{free_are, free_rise}
use Rattle.ec_journal.specs.OfLayout.Layout.{IsFree, AreFree}
use Rattle.ec_journal.specs.OfLayout.Pieces.{slots_of, AreApart}

-- Rising slots are apart.

not_there : (k : ℕ) (slots : List (ℕ × List ℕ)) → All (λ j. k < j) (slots_of slots) → IsFree k slots
not_there k [] above = tt
not_there k (s ∷ slots) above = (λ same. omega (arith, same, above 0 0 (omega arith)), not_there k slots (λ i d lt. above (suc i) d (omega (arith, lt))))

apart_of : (pieces : List (ℕ × List ℕ)) → AllPairs (λ x y. x < y) (slots_of pieces) → All (λ k. k < 2048) (slots_of pieces) → All (λ p. length p.1 ≤ 65600) pieces → AreApart pieces
apart_of [] rising below small = tt
apart_of (p ∷ pieces) rising below small = (
  below 0 0 (omega arith),
  small 0 p (omega arith),
  not_there p.0 pieces (λ i d lt. rising 0 (suc i) d (omega arith) (omega (arith, lt))),
  apart_of pieces (λ i j d before within. rising (suc i) (suc j) d (omega (arith, before)) (omega (arith, within))) (λ i d lt. below (suc i) d (omega (arith, lt))) (λ i d lt. small (suc i) d (omega (arith, lt))),
)

rising_front : (n : ℕ) (xs : List ℕ) → AllPairs (λ x y. x < y) xs → AllPairs (λ x y. x < y) (take n xs)
rising_front n xs rising i j d before within =
    let j_in : j < n = omega (arith, within, length-take n xs) in
    let i_in : i < n = omega (arith, before, j_in) in
    omega (arith, get_or-take n xs i d i_in, get_or-take n xs j d j_in, rising i j d before (omega (arith, within, length-take n xs)))

-- Slots that aren't named.

or_parts : (a b : Bool) → (a || b) ≡ false → (a ≡ false) × (b ≡ false)
or_parts true b h = absurd cc
or_parts false b h = (refl, h)

not_named : (k : ℕ) (slots : List (ℕ × List ℕ)) → is_named k (slots_of slots) ≡ false → IsFree k slots
not_named k [] h = tt
not_named k (s ∷ slots) h = let p = or_parts (k == s.0) (is_named k (slots_of slots)) h in (eqb-false k s.0 p.0, not_named k slots p.1)

none_named : (slots pieces : List (ℕ × List ℕ)) → All (λ k. is_named k (slots_of slots) ≡ false) (slots_of pieces) → AreFree pieces slots
none_named slots [] h = tt
none_named slots (p ∷ pieces) h = (not_named p.0 slots (h 0 0 (omega arith)), none_named slots pieces (λ i d lt. h (suc i) d (omega (arith, lt))))

-- Pieces for the first ones of the free slots: below 2,048, apart, and none of them is named.
pub free_apart : (count : ℕ) (slots pieces : List (ℕ × List ℕ)) (n : ℕ) → count ≤ 2048 → slots_of pieces ≡ take n (free_below count (slots_of slots)) → All (λ p. length p.1 ≤ 65600) pieces → AreApart pieces × AreFree pieces slots
free_apart count slots pieces n most is small =
    let named = slots_of slots in
    let free = free_below count named in
    let each : All (IsFreeBelow count named) (slots_of pieces) = subst (All (IsFreeBelow count named)) (sym is) (All-take (IsFreeBelow count named) n free (free_are count named)) in (
      apart_of pieces (subst (AllPairs (λ x y. x < y)) (sym is) (rising_front n free (AllPairs-from_increasing free (free_rise count named)))) (λ i d lt. omega (arith, (each i d lt).0, most)) small,
      none_named slots pieces (λ i d lt. (each i d lt).1),
    )
