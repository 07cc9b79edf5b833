-- What the two disks of a mirror show as one.
use Rattle.std.specs.Prelude.{◌≡◌, ◌⊎◌, ℕ, List, [], ◌∷◌, Bool, true, false, Option, None}
use Rattle.ec_disk.specs.Disk.{View}
use Rattle.ec_disk.specs.declared.disk.DiskAnswer.{DiskAnswer}
use Rattle.ec_disk.specs.declared.disk.DiskAnswer.TheVariants as said
use Rattle.ec_half.specs.Contents.{Content, content_behind, Stays, AllSynced}
use Rattle.ec_mirror.specs.Joins.{lead}
use Rattle.ec_mirror.specs.declared.kept.Kept.{Kept}
use Rattle.ec_mirror.specs.declared.kept.Kept.TheVariants as left
use Rattle.ec_mirror.specs.declared.pair.Pair.{Pair}
use Rattle.ec_mirror.specs.declared.pair.Moment.{Moment}

-- what a crash may leave of the disks that aren't dropped
abbrev pub LeftOf : Kept → Content → Content → List ℕ → Type 0
LeftOf left.Both a b c = a.may_leave c ⊎ b.may_leave c
LeftOf left.Leaving a b c = a.may_leave c ⊎ b.may_leave c
LeftOf left.First a b c = a.may_leave c
LeftOf left.Second a b c = b.may_leave c

-- Two disks as one. What was synced is told by the mirror: a disk may be ahead of it.
abbrev pub shown : Kept → Content → Content → List ℕ → Content
shown kept a b saved = record { gives = (lead kept a b).gives; synced = saved; may_leave = λ c. LeftOf kept a b c ⊎ (c ≡ saved) }

-- Each disk that isn't dropped is known: its length, and, of two, that they give the same.
pub record IsWhole (told : Type 0) (kept : Kept) (a b : Content) (first_len second_len : Option ℕ) (is_dirty : Bool) (saved : List ℕ) : Type 0 where
  pub first_known : (kept ≡ left.Second → ⊥) → first_len ≡ None → ⊥
  pub second_known : (kept ≡ left.First → ⊥) → second_len ≡ None → ⊥
  pub alike : told → kept ≡ left.Both → a.gives ≡ b.gives
  pub clean : told → is_dirty ≡ false → (lead kept a b).gives ≡ saved

-- Each disk that isn't dropped is synced, and what was synced is what a read gives.
pub record IsSaved (told : Type 0) (kept : Kept) (a b : Content) : Type 0 where
  pub first_saved : told → (kept ≡ left.Second → ⊥) → a.synced ≡ (lead kept a b).gives
  pub second_saved : told → (kept ≡ left.First → ⊥) → b.synced ≡ (lead kept a b).gives
  pub first_synced : told → (kept ≡ left.Second → ⊥) → AllSynced a
  pub second_synced : told → (kept ≡ left.First → ⊥) → AllSynced b

-- A sync that answers so: where it's done, all is synced; else what was synced stays.
pub record Syncs (answer : DiskAnswer) (old new : Content) : Type 0 where
  pub stays : Stays old new
  pub all_synced : answer ≡ said.Done → AllSynced new
  pub saved : answer ≡ said.Done → new.synced ≡ new.gives
  pub unsaved : (answer ≡ said.Done → ⊥) → new.synced ≡ old.synced

module _ {A B : Type 0} {p : _} {q : _} {r : _} {s : _} (first : A → View) (second : B → View) where
  abbrev pub first_of : Pair A B p q r s → Content
  first_of pair = content_behind (first pair.first.disk.now)

  abbrev pub second_of : Pair A B p q r s → Content
  second_of pair = content_behind (second pair.second.disk.now)

  -- what a read gives
  abbrev pub given_by : Pair A B p q r s → List ℕ
  given_by pair = (lead pair.kept (first_of pair) (second_of pair)).gives

  -- what that disk has synced
  abbrev pub synced_by : Pair A B p q r s → List ℕ
  synced_by pair = (lead pair.kept (first_of pair) (second_of pair)).synced

  -- what it gave when all was synced
  abbrev pub saved_by : List (Pair A B p q r s) → List ℕ
  saved_by [] = []
  saved_by (pair ∷ more) = given_by pair

  -- the disks as they are, or as they were when they began to be made anew
  abbrev pub shown_by : List (Pair A B p q r s) → Pair A B p q r s → List ℕ → Content
  shown_by [] pair saved = shown pair.kept (first_of pair) (second_of pair) saved
  shown_by (frozen ∷ more) pair saved = shown frozen.kept (first_of frozen) (second_of frozen) saved

  abbrev pub shown_of : Moment A B p q r s → Content
  shown_of m = shown_by m.frozen.items m.pair (saved_by m.saved.items)

  abbrev pub IsWholeAt : Type 0 → Bool → Moment A B p q r s → Type 0
  IsWholeAt told is_dirty m = IsWhole told m.pair.kept (first_of m.pair) (second_of m.pair) m.pair.first.len m.pair.second.len is_dirty (saved_by m.saved.items)

  abbrev pub IsSavedAt : Type 0 → Moment A B p q r s → Type 0
  IsSavedAt told m = IsSaved told m.pair.kept (first_of m.pair) (second_of m.pair)

-- The borrows of both disks by their names, and each disk as it was handed in.
pub record Lent (A B : Type 0) : Type 0 where
  pub first : ℕ
  pub first_from : List A
  pub second : ℕ
  pub second_from : List B

-- each disk is still the one that was handed in
module _ {A B : Type 0} {p : _} {q : _} {r : _} {s : _} where
  abbrev pub lent_of : Pair A B p q r s → Lent A B
  lent_of pair = record {
    first = pair.first.disk.ghost_name;
    first_from = pair.first.from.items;
    second = pair.second.disk.ghost_name;
    second_from = pair.second.from.items;
  }

  abbrev pub SameDisks : Pair A B p q r s → Pair A B p q r s → Type 0
  SameDisks old new = lent_of new ≡ lent_of old

  -- and a call that is done leaves the mirror sound
  abbrev pub StaysSound : DiskAnswer → Pair A B p q r s → Pair A B p q r s → Bool → Type 0
  StaysSound answer old new is_sound = SameDisks old new × (answer ≡ said.Done → is_sound ≡ true)
