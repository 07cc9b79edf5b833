-- A mirror from outside: what it is as a disk, which two disks it's over, and how these stand to it.
use Rattle.std.specs.Prelude.{◌≡◌, ◌⊎◌, ◌≤◌, ℕ, List, [], ◌∷◌, length, Bool, true, false}
use Rattle.ec_base.specs.Outside.{Rose}
use Rattle.ec_disk.specs.Disk.{View, Counts}
use Rattle.ec_half.specs.OfSlots.Contents.{content}
use Rattle.ec_mirror.specs.Past.{view_at}
use Rattle.ec_mirror.specs.Shown.{Lent, lent_of, shown_of}
use Rattle.ec_mirror.specs.declared.kept.Kept.{Kept}
use Rattle.ec_mirror.specs.declared.kept.Kept.TheVariants as left
use Rattle.ec_mirror.specs.declared.mirror.Mirror.{Mirror}

-- how often a disk had failed when it was handed in
abbrev pub faults_in : {D : Type 0} → (D → Counts) → List D → ℕ
faults_in counts [] = 0
faults_in counts (before ∷ more) = (counts before).faults

-- one disk was handed in
abbrev pub IsOne : {D : Type 0} → List D → Type 0
IsOne from = length from ≡ 1

-- The borrows have these names, and each disk had failed so often when it was handed in.
pub record IsPinned {A B : Type 0} (first_counts : A → Counts) (second_counts : B → Counts) (first second first_faults second_faults : ℕ) (lent : Lent A B) : Type 0 where
  pub first_is : lent.first ≡ first
  pub second_is : lent.second ≡ second
  pub first_one : IsOne lent.first_from
  pub second_one : IsOne lent.second_from
  pub first_failed : faults_in first_counts lent.first_from ≡ first_faults
  pub second_failed : faults_in second_counts lent.second_from ≡ second_faults

-- how a mirror goes on, and with which disks
pub record Standing : Type 0 where
  pub kept : Kept
  -- reads, writes and syncs are carried out
  pub is_sound : Bool
  -- generations or contents were left half written
  pub is_dead : Bool
  -- the fault of one disk was the mirror's: in a power cut, or at a question for the length behind a write that wasn't done
  pub failed_alone : Bool

-- A mirror that stands so and failed so often shows this view over two disks, which had failed so often before.
pub record StandsOver (told : Type 0) (s : Standing) (faults first_before second_before : ℕ) (mirror first second : View) (first_counts second_counts : Counts) : Type 0 where
  pub first_later : first_before ≤ first_counts.faults
  pub second_later : second_before ≤ second_counts.faults
  -- a disk is dropped only where it has failed
  pub first_dropped : (s.kept ≡ left.Second) ⊎ (s.kept ≡ left.Leaving) → Rose first_before first_counts.faults
  pub second_dropped : s.kept ≡ left.First → Rose second_before second_counts.faults
  -- and the mirror only where both have, or one of them alone
  pub both_failed : 1 ≤ faults → s.failed_alone ≡ false → Rose first_before first_counts.faults × Rose second_before second_counts.faults
  pub one_failed : 1 ≤ faults → Rose first_before first_counts.faults ⊎ Rose second_before second_counts.faults
  -- while it goes on, a read gives what each disk gives that isn't dropped
  pub first_gives : told → s.is_sound ≡ true → (s.kept ≡ left.Second → ⊥) → mirror.gives ≡ content first.gives
  pub second_gives : told → s.is_sound ≡ true → (s.kept ≡ left.First → ⊥) → mirror.gives ≡ content second.gives
  -- what a crash may leave of such a disk is among what it may leave of the mirror, unless generations or contents were left half written
  pub first_left : told → s.is_dead ≡ false → (s.kept ≡ left.Second → ⊥) → (image : List ℕ) → first.may_leave image → mirror.may_leave (content image)
  pub second_left : told → s.is_dead ≡ false → (s.kept ≡ left.First → ⊥) → (image : List ℕ) → second.may_leave image → mirror.may_leave (content image)

module _ {A B : Type 0} {p : _} {q : _} {r : _} {s : _} (first : A → View) (second : B → View) where
  -- what a mirror is as a disk
  abbrev pub mirror_view : Mirror A B p q r s → View
  mirror_view m = view_at (shown_of first second) m.past.items (shown_of first second m.parts.present)

module _ {A B : Type 0} {p : _} {q : _} {r : _} {s : _} where
  abbrev pub standing : Mirror A B p q r s → Standing
  standing m = record {
    kept = m.parts.present.pair.kept;
    is_sound = m.parts.is_sound;
    is_dead = m.parts.is_dead;
    failed_alone = m.parts.tally.failed_alone;
  }
