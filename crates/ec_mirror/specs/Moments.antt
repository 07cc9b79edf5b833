-- What a mirror shows at one moment.
use Rattle.std.specs.Prelude.{◌≡◌, ℕ, List, [], ◌∷◌, length}
use Rattle.std.proofs.Common.{inl, inr, refl, ap}
use Rattle.ec_disk.specs.Disk.{View}
use Rattle.ec_half.specs.Contents.{Content, content_behind}
use Rattle.ec_mirror.specs.Shown.{first_of, second_of, saved_by, shown_by, shown_of, shown}
use Rattle.ec_mirror.specs.declared.kept.Kept.{Kept}
use Rattle.ec_mirror.specs.declared.kept.Kept.TheVariants as left
use Rattle.ec_mirror.specs.declared.pair.Pair.{Pair}
use Rattle.ec_mirror.specs.declared.pair.Moment.{Moment}

-- what is read is one of the images that a crash may leave
pub shown-given : (kept : Kept) (a b : Content) (saved : List ℕ) → a.may_leave a.gives → b.may_leave b.gives → (shown kept a b saved).may_leave (shown kept a b saved).gives
shown-given left.Both a b saved first second = inl (inl first)
shown-given left.Leaving a b saved first second = inl (inr second)
shown-given left.First a b saved first second = inl first
shown-given left.Second a b saved first second = inl second

pub behind-given : (now : View) → now.may_leave now.gives → (content_behind now).may_leave (content_behind now).gives
behind-given now given = (now.gives, given, refl)

module _ {A B : Type 0} {p : _} {q : _} {r : _} {s : _} (first : A → View) (second : B → View) where
  given_in : ((a : A) → (first a).may_leave (first a).gives) → ((b : B) → (second b).may_leave (second b).gives) → (frozen : List (Pair A B p q r s)) (pair : Pair A B p q r s) (saved : List ℕ) → (shown_by first second frozen pair saved).may_leave (shown_by first second frozen pair saved).gives
  given_in of_first of_second [] pair saved =
      shown-given pair.kept (first_of first second pair) (second_of first second pair) saved (behind-given (first pair.first.disk.now) (of_first pair.first.disk.now)) (behind-given (second pair.second.disk.now) (of_second pair.second.disk.now))
  given_in of_first of_second (frozen ∷ more) pair saved =
      shown-given frozen.kept (first_of first second frozen) (second_of first second frozen) saved (behind-given (first frozen.first.disk.now) (of_first frozen.first.disk.now)) (behind-given (second frozen.second.disk.now) (of_second frozen.second.disk.now))

  pub given : ((a : A) → (first a).may_leave (first a).gives) → ((b : B) → (second b).may_leave (second b).gives) → (m : Moment A B p q r s) → (shown_of first second m).may_leave (shown_of first second m).gives
  given of_first of_second m = given_in of_first of_second m.frozen.items m.pair (saved_by first second m.saved.items)

  synced_in : (frozen : List (Pair A B p q r s)) (pair : Pair A B p q r s) (saved : List ℕ) → (shown_by first second frozen pair saved).may_leave (shown_by first second frozen pair saved).synced
  synced_in [] pair saved = inr refl
  synced_in (frozen ∷ more) pair saved = inr refl

  pub given_synced : (m : Moment A B p q r s) → (shown_of first second m).may_leave (shown_of first second m).synced
  given_synced m = synced_in m.frozen.items m.pair (saved_by first second m.saved.items)

  -- what was synced is what the mirror told
  synced_told : (frozen : List (Pair A B p q r s)) (pair : Pair A B p q r s) (saved : List ℕ) → (shown_by first second frozen pair saved).synced ≡ saved
  synced_told [] pair saved = refl
  synced_told (frozen ∷ more) pair saved = refl

  pub synced-is : (m : Moment A B p q r s) → (shown_of first second m).synced ≡ saved_by first second m.saved.items
  synced-is m = synced_told m.frozen.items m.pair (saved_by first second m.saved.items)

  -- where nothing is made anew, it shows what it is
  live_in : (frozen : List (Pair A B p q r s)) (pair : Pair A B p q r s) (saved : List ℕ) → frozen ≡ [] → shown_by first second frozen pair saved ≡ shown pair.kept (first_of first second pair) (second_of first second pair) saved
  live_in frozen pair saved is = ap (λ (l : List (Pair A B p q r s)). shown_by first second l pair saved) is

  pub live : (m : Moment A B p q r s) → m.frozen.items ≡ [] → shown_of first second m ≡ shown m.pair.kept (first_of first second m.pair) (second_of first second m.pair) (saved_by first second m.saved.items)
  live m is = live_in m.frozen.items m.pair (saved_by first second m.saved.items) is

  -- where it's made anew, what it was then
  pub frozen-is : (m : Moment A B p q r s) (pair : Pair A B p q r s) → m.frozen.items ≡ pair ∷ [] → shown_of first second m ≡ shown pair.kept (first_of first second pair) (second_of first second pair) (saved_by first second m.saved.items)
  frozen-is m pair is = ap (λ (l : List (Pair A B p q r s)). shown_by first second l m.pair (saved_by first second m.saved.items)) is

  -- the length that is told then
  len_in : (frozen : List (Pair A B p q r s)) (pair : Pair A B p q r s) (saved : List ℕ) → (frozen ≡ [] → ⊥) → length (shown_by first second frozen pair saved).gives ≡ length (saved_by first second frozen)
  len_in [] pair saved none = absurd (none refl)
  len_in (frozen ∷ more) pair saved none = refl

  pub dead-len : (m : Moment A B p q r s) → (m.frozen.items ≡ [] → ⊥) → length (shown_of first second m).gives ≡ length (saved_by first second m.frozen.items)
  dead-len m none = len_in m.frozen.items m.pair (saved_by first second m.saved.items) none
