-- A mirror stays over the same disks.
use Rattle.std.specs.Prelude.{◌≡◌, ℕ}
use Rattle.std.proofs.Common.{sym, subst}
use Rattle.ec_disk.specs.Disk.{Counts}
use Rattle.ec_mirror.specs.Disks.{IsPinned}
use Rattle.ec_mirror.specs.Shown.{Lent}

pub pinned-same : {A B : Type 0} (first_counts : A → Counts) (second_counts : B → Counts) (first second first_faults second_faults : ℕ) (old new : Lent A B)
    → IsPinned first_counts second_counts first second first_faults second_faults old → new ≡ old → IsPinned first_counts second_counts first second first_faults second_faults new
pinned-same {A} {B} first_counts second_counts first second first_faults second_faults old new is same = subst (λ (l : Lent A B). IsPinned first_counts second_counts first second first_faults second_faults l) (sym same) is
