-- What a mirror shows, from what its disks do.
use Rattle.std.specs.Prelude.{◌≡◌, List, [], ◌∷◌, ℕ}
use Rattle.std.proofs.Common.{◌∙◌, ap, sym, subst, refl}
use Rattle.ec_disk.specs.Disk.{View}
use Rattle.ec_half.specs.Contents.{Content, Rested, Stays, Fewer, Loosened}
use Rattle.ec_mirror.specs.Joins.{lead}
use Rattle.ec_mirror.specs.Shown.{first_of, second_of, given_by, saved_by, shown_by, shown}
use Rattle.ec_mirror.specs.declared.kept.Kept.{Kept}
use Rattle.ec_mirror.specs.declared.kept.Kept.TheVariants as left
use Rattle.ec_mirror.specs.declared.pair.Pair.{Pair}
use Rattle.ec_mirror.proofs.Showing.{rested-of, stays-of, fewer-of, loosened-of, leaving-fewer, second-fewer, first-fewer}

module _ {A B : Type 0} {p : _} {q : _} {r : _} {s : _} (first : A → View) (second : B → View) (P : Content → Type 0) where
  -- where nothing is made anew it shows what it is
  pub shown-live : (frozen : List (Pair A B p q r s)) (pair : Pair A B p q r s) (saved : List ℕ) → frozen ≡ [] → P (shown pair.kept (first_of first second pair) (second_of first second pair) saved) → P (shown_by first second frozen pair saved)
  shown-live frozen pair saved is known = subst (λ (l : List (Pair A B p q r s)). P (shown_by first second l pair saved)) (sym is) known

  -- where it's told that all is synced
  pub shown-saved : (frozen : List (Pair A B p q r s)) (now pair : Pair A B p q r s) (saved : List (Pair A B p q r s)) → frozen ≡ [] → now ≡ pair → saved ≡ pair ∷ [] → P (shown pair.kept (first_of first second pair) (second_of first second pair) (given_by first second pair)) → P (shown_by first second frozen now (saved_by first second saved))
  shown-saved frozen now pair saved is same told known =
      shown-live frozen now (saved_by first second saved) is
      (subst (λ (x : Pair A B p q r s). P (shown x.kept (first_of first second x) (second_of first second x) (saved_by first second saved))) (sym same)
      (subst (λ (l : List (Pair A B p q r s)). P (shown pair.kept (first_of first second pair) (second_of first second pair) (saved_by first second l))) (sym told) known))

module _ {A B : Type 0} {p : _} {q : _} {r : _} {s : _} (first : A → View) (second : B → View) (R : Content → Content → Type 0) where
  -- calls on the disks of a mirror of which nothing is made anew
  live-both : (frozen : List (Pair A B p q r s)) (old new : Pair A B p q r s) (saved : List ℕ) → frozen ≡ [] → R (shown old.kept (first_of first second old) (second_of first second old) saved) (shown new.kept (first_of first second new) (second_of first second new) saved) → R (shown_by first second frozen old saved) (shown_by first second frozen new saved)
  live-both frozen old new saved is known = subst (λ (l : List (Pair A B p q r s)). R (shown_by first second l old saved) (shown_by first second l new saved)) (sym is) known

  -- and where it's made anew then
  live-frozen : (frozen later : List (Pair A B p q r s)) (old was new : Pair A B p q r s) (saved told : List ℕ) → frozen ≡ [] → later ≡ was ∷ [] → told ≡ saved → R (shown old.kept (first_of first second old) (second_of first second old) saved) (shown was.kept (first_of first second was) (second_of first second was) saved) → R (shown_by first second frozen old saved) (shown_by first second later new told)
  live-frozen frozen later old was new saved told is then kept known =
      subst (λ (l : List (Pair A B p q r s)). R (shown_by first second l old saved) (shown_by first second later new told)) (sym is)
      (subst (λ (l : List (Pair A B p q r s)). R (shown old.kept (first_of first second old) (second_of first second old) saved) (shown_by first second l new told)) (sym then)
      (subst (λ (l : List ℕ). R (shown old.kept (first_of first second old) (second_of first second old) saved) (shown was.kept (first_of first second was) (second_of first second was) l)) (sym kept) known))

  -- and where it's sound again
  live-thawed : (frozen later : List (Pair A B p q r s)) (old now new : Pair A B p q r s) (saved told : List ℕ) → frozen ≡ [] → later ≡ [] → now ≡ new → told ≡ saved → R (shown old.kept (first_of first second old) (second_of first second old) saved) (shown new.kept (first_of first second new) (second_of first second new) saved) → R (shown_by first second frozen old saved) (shown_by first second later now told)
  live-thawed frozen later old now new saved told is thawed same kept known =
      subst (λ (l : List (Pair A B p q r s)). R (shown_by first second l old saved) (shown_by first second later now told)) (sym is)
      (subst (λ (l : List (Pair A B p q r s)). R (shown old.kept (first_of first second old) (second_of first second old) saved) (shown_by first second l now told)) (sym thawed)
      (subst (λ (x : Pair A B p q r s). R (shown old.kept (first_of first second old) (second_of first second old) saved) (shown x.kept (first_of first second x) (second_of first second x) told)) (sym same)
      (subst (λ (l : List ℕ). R (shown old.kept (first_of first second old) (second_of first second old) saved) (shown new.kept (first_of first second new) (second_of first second new) l)) (sym kept) known)))

module _ {A B : Type 0} {p : _} {q : _} {r : _} {s : _} (first : A → View) (second : B → View) where
  -- the same disks count before and behind a call
  same_kept : (R : Content → Content → Type 0) (old new : Pair A B p q r s) (saved : List ℕ) → new.kept ≡ old.kept → R (shown old.kept (first_of first second old) (second_of first second old) saved) (shown old.kept (first_of first second new) (second_of first second new) saved) → R (shown old.kept (first_of first second old) (second_of first second old) saved) (shown new.kept (first_of first second new) (second_of first second new) saved)
  same_kept R old new saved kept known = subst (λ (k : Kept). R (shown old.kept (first_of first second old) (second_of first second old) saved) (shown k (first_of first second new) (second_of first second new) saved)) (sym kept) known

  pub rested-live : (frozen : List (Pair A B p q r s)) (old new : Pair A B p q r s) (saved : List ℕ) → frozen ≡ [] → new.kept ≡ old.kept → Rested (first_of first second old) (first_of first second new) → Rested (second_of first second old) (second_of first second new) → Rested (shown_by first second frozen old saved) (shown_by first second frozen new saved)
  rested-live frozen old new saved is kept one two =
      live-both first second Rested frozen old new saved is (same_kept Rested old new saved kept (rested-of old.kept (first_of first second old) (second_of first second old) (first_of first second new) (second_of first second new) saved one two))

  pub stays-live : (frozen : List (Pair A B p q r s)) (old new : Pair A B p q r s) (saved : List ℕ) → frozen ≡ [] → new.kept ≡ old.kept → Stays (first_of first second old) (first_of first second new) → Stays (second_of first second old) (second_of first second new) → Stays (shown_by first second frozen old saved) (shown_by first second frozen new saved)
  stays-live frozen old new saved is kept one two =
      live-both first second Stays frozen old new saved is (same_kept Stays old new saved kept (stays-of old.kept (first_of first second old) (second_of first second old) (first_of first second new) (second_of first second new) saved one two))

  pub fewer-live : (frozen : List (Pair A B p q r s)) (old new : Pair A B p q r s) (saved : List ℕ) → frozen ≡ [] → new.kept ≡ old.kept → Fewer (first_of first second old) (first_of first second new) → Fewer (second_of first second old) (second_of first second new) → Fewer (shown_by first second frozen old saved) (shown_by first second frozen new saved)
  fewer-live frozen old new saved is kept one two =
      live-both first second Fewer frozen old new saved is (same_kept Fewer old new saved kept (fewer-of old.kept (first_of first second old) (second_of first second old) (first_of first second new) (second_of first second new) saved one two))

  pub loosened-live : (W : ℕ → Type 0) (frozen : List (Pair A B p q r s)) (old new : Pair A B p q r s) (saved : List ℕ) → frozen ≡ [] → new.kept ≡ old.kept → Loosened W (first_of first second old) (first_of first second new) → Loosened W (second_of first second old) (second_of first second new) → Loosened W (shown_by first second frozen old saved) (shown_by first second frozen new saved)
  loosened-live W frozen old new saved is kept one two =
      live-both first second (Loosened W) frozen old new saved is (same_kept (Loosened W) old new saved kept (loosened-of W old.kept (first_of first second old) (second_of first second old) (first_of first second new) (second_of first second new) saved one two))

  pub fewer-frozen : (frozen later : List (Pair A B p q r s)) (old was new : Pair A B p q r s) (saved told : List ℕ) → frozen ≡ [] → later ≡ was ∷ [] → told ≡ saved → was.kept ≡ old.kept → Fewer (first_of first second old) (first_of first second was) → Fewer (second_of first second old) (second_of first second was) → Fewer (shown_by first second frozen old saved) (shown_by first second later new told)
  fewer-frozen frozen later old was new saved told is then same kept one two =
      live-frozen first second Fewer frozen later old was new saved told is then same (same_kept Fewer old was saved kept (fewer-of old.kept (first_of first second old) (second_of first second old) (first_of first second was) (second_of first second was) saved one two))

  pub gives-frozen : (frozen later : List (Pair A B p q r s)) (old was new : Pair A B p q r s) (saved told : List ℕ) → frozen ≡ [] → later ≡ was ∷ [] → told ≡ saved → given_by first second was ≡ given_by first second old → (shown_by first second later new told).gives ≡ (shown_by first second frozen old saved).gives
  gives-frozen frozen later old was new saved told is then same gives = live-frozen first second (λ x y. y.gives ≡ x.gives) frozen later old was new saved told is then same gives

  -- the first disk of two is left alone
  pub fewer-leaving : (frozen later : List (Pair A B p q r s)) (old new : Pair A B p q r s) (saved told : List ℕ) → frozen ≡ [] → later ≡ record old { kept = left.Leaving } ∷ [] → told ≡ saved → old.kept ≡ left.Both → Fewer (shown_by first second frozen old saved) (shown_by first second later new told)
  fewer-leaving frozen later old new saved told is then same both =
      live-frozen first second Fewer frozen later old (record old { kept = left.Leaving }) new saved told is then same
      (subst (λ (k : Kept). Fewer (shown k (first_of first second old) (second_of first second old) saved) (shown left.Leaving (first_of first second old) (second_of first second old) saved)) (sym both) (leaving-fewer (first_of first second old) (second_of first second old) saved))

  pub gives-leaving : (frozen later : List (Pair A B p q r s)) (old new : Pair A B p q r s) (saved told : List ℕ) → frozen ≡ [] → later ≡ record old { kept = left.Leaving } ∷ [] → told ≡ saved → old.kept ≡ left.Both → (first_of first second old).gives ≡ (second_of first second old).gives → (shown_by first second later new told).gives ≡ (shown_by first second frozen old saved).gives
  gives-leaving frozen later old new saved told is then same both alike =
      gives-frozen frozen later old (record old { kept = left.Leaving }) new saved told is then same
      (subst (λ (k : Kept). (second_of first second old).gives ≡ (lead k (first_of first second old) (second_of first second old)).gives) (sym both) (sym alike))

  -- one disk of two goes on alone
  pub fewer-second : (frozen later : List (Pair A B p q r s)) (old now new : Pair A B p q r s) (saved told : List ℕ) → frozen ≡ [] → later ≡ [] → now ≡ new → told ≡ saved → old.kept ≡ left.Both → new.kept ≡ left.Second → Fewer (second_of first second old) (second_of first second new) → Fewer (shown_by first second frozen old saved) (shown_by first second later now told)
  fewer-second frozen later old now new saved told is thawed same kept both alone fewer =
      live-thawed first second Fewer frozen later old now new saved told is thawed same kept
      (subst (λ (k : Kept). Fewer (shown k (first_of first second old) (second_of first second old) saved) (shown new.kept (first_of first second new) (second_of first second new) saved)) (sym both)
      (subst (λ (k : Kept). Fewer (shown left.Both (first_of first second old) (second_of first second old) saved) (shown k (first_of first second new) (second_of first second new) saved)) (sym alone)
      (second-fewer (first_of first second old) (second_of first second old) (first_of first second new) (second_of first second new) saved fewer)))

  pub fewer-first : (frozen later : List (Pair A B p q r s)) (old now new : Pair A B p q r s) (saved told : List ℕ) → frozen ≡ [] → later ≡ [] → now ≡ new → told ≡ saved → old.kept ≡ left.Both → new.kept ≡ left.First → Fewer (first_of first second old) (first_of first second new) → Fewer (shown_by first second frozen old saved) (shown_by first second later now told)
  fewer-first frozen later old now new saved told is thawed same kept both alone fewer =
      live-thawed first second Fewer frozen later old now new saved told is thawed same kept
      (subst (λ (k : Kept). Fewer (shown k (first_of first second old) (second_of first second old) saved) (shown new.kept (first_of first second new) (second_of first second new) saved)) (sym both)
      (subst (λ (k : Kept). Fewer (shown left.Both (first_of first second old) (second_of first second old) saved) (shown k (first_of first second new) (second_of first second new) saved)) (sym alone)
      (first-fewer (first_of first second old) (second_of first second old) (first_of first second new) (second_of first second new) saved fewer)))

  -- what a read gives, where nothing is made anew
  pub gives-live : (frozen : List (Pair A B p q r s)) (pair : Pair A B p q r s) (saved : List ℕ) → frozen ≡ [] → (shown_by first second frozen pair saved).gives ≡ given_by first second pair
  gives-live frozen pair saved is = shown-live first second (λ x. x.gives ≡ given_by first second pair) frozen pair saved is refl

  pub gives-first : (frozen : List (Pair A B p q r s)) (pair : Pair A B p q r s) (saved : List ℕ) → frozen ≡ [] → (pair.kept ≡ left.Leaving → ⊥) → (pair.kept ≡ left.Second → ⊥) → (shown_by first second frozen pair saved).gives ≡ (first_of first second pair).gives
  gives-first frozen pair saved is stands out = gives-live frozen pair saved is ∙ by pair.kept stands out
    where
      by : (k : Kept) → (k ≡ left.Leaving → ⊥) → (k ≡ left.Second → ⊥) → (lead k (first_of first second pair) (second_of first second pair)).gives ≡ (first_of first second pair).gives
      by left.Both stands out = refl
      by left.Leaving stands out = absurd (stands refl)
      by left.First stands out = refl
      by left.Second stands out = absurd (out refl)

  pub gives-by-first : (frozen : List (Pair A B p q r s)) (pair : Pair A B p q r s) (saved : List ℕ) → frozen ≡ [] → pair.kept ≡ left.First → (shown_by first second frozen pair saved).gives ≡ (first_of first second pair).gives
  gives-by-first frozen pair saved is kept = gives-live frozen pair saved is ∙ ap (λ (k : Kept). (lead k (first_of first second pair) (second_of first second pair)).gives) kept

  pub gives-by-both : (frozen : List (Pair A B p q r s)) (pair : Pair A B p q r s) (saved : List ℕ) → frozen ≡ [] → pair.kept ≡ left.Both → (shown_by first second frozen pair saved).gives ≡ (first_of first second pair).gives
  gives-by-both frozen pair saved is kept = gives-live frozen pair saved is ∙ ap (λ (k : Kept). (lead k (first_of first second pair) (second_of first second pair)).gives) kept

  pub gives-by-second : (frozen : List (Pair A B p q r s)) (pair : Pair A B p q r s) (saved : List ℕ) → frozen ≡ [] → pair.kept ≡ left.Second → (shown_by first second frozen pair saved).gives ≡ (second_of first second pair).gives
  gives-by-second frozen pair saved is kept = gives-live frozen pair saved is ∙ ap (λ (k : Kept). (lead k (first_of first second pair) (second_of first second pair)).gives) kept

  pub given-first : (pair : Pair A B p q r s) → pair.kept ≡ left.First → given_by first second pair ≡ (first_of first second pair).gives
  given-first pair alone = ap (λ (k : Kept). (lead k (first_of first second pair) (second_of first second pair)).gives) alone

  pub given-both : (pair : Pair A B p q r s) → pair.kept ≡ left.Both → given_by first second pair ≡ (first_of first second pair).gives
  given-both pair both = ap (λ (k : Kept). (lead k (first_of first second pair) (second_of first second pair)).gives) both

  pub given-second : (pair : Pair A B p q r s) → pair.kept ≡ left.Second → given_by first second pair ≡ (second_of first second pair).gives
  given-second pair alone = ap (λ (k : Kept). (lead k (first_of first second pair) (second_of first second pair)).gives) alone
