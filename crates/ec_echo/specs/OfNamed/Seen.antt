-- What a clause says of a source, a sink and a disk, before and after.
use Rattle.std.specs.Prelude.{◌≡◌, ℕ, List, Option, length}
use Rattle.ec_disk.specs.Disk.{View, Counts}
use Rattle.ec_drill.specs.Seen.{Stream, Store}

abbrev pub stream : {A : Type 0} → (A → Option (List ℕ)) → (A → ℕ) → A → A → Stream
stream bytes faults old new = record { bytes = bytes old; bytes_after = bytes new; faults = faults old; faults_after = faults new }

abbrev pub store : {A : Type 0} → Type 0 → (A → View) → (A → Counts) → A → A → Store
store tells view counts old new = record { tells = tells; disk = view old; disk_after = view new; counts = counts old; counts_after = counts new }

-- the disk tells its content, of which it had none
abbrev pub IsNew : Store → Type 0
IsNew s = s.tells × (length s.disk.gives ≡ 0)

-- a read of the disk gives what it gave
abbrev pub GivesAsBefore : Store → Type 0
GivesAsBefore s = s.disk_after.gives ≡ s.disk.gives
