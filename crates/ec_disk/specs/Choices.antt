-- What a power cut leaves, by its choice.
use Rattle.std.specs.Prelude.{◌≡◌, ℕ, List}
use Rattle.ec_disk.specs.Disk.{View}
use Rattle.ec_disk.specs.Undo.{torn}
use Rattle.ec_disk.specs.declared.disk.DiskAnswer.{DiskAnswer}
use Rattle.ec_disk.specs.declared.disk.DiskAnswer.TheVariants as answer
use Rattle.ec_disk.specs.declared.disk.Choice.{Choice}
use Rattle.ec_disk.specs.declared.disk.Choice.TheVariants as choice

-- of what is there now and what was synced
abbrev pub cut : Choice → List ℕ → List ℕ → List ℕ
cut choice.Old now synced = synced
cut choice.New now synced = now
cut choice.Torn now synced = torn 0 now synced

-- Behind a sync that is done, what is there is synced. One that isn't done syncs nothing.
abbrev pub Saves : DiskAnswer → View → View → Type 0
Saves answer.Done old new = new.synced ≡ new.gives
Saves answer.Failed old new = new.synced ≡ old.synced
Saves answer.Stopped old new = new.synced ≡ old.synced
Saves answer.NoMemory old new = new.synced ≡ old.synced
