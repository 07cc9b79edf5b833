-- What follows for a store that its disk holds.
use Rattle.std.proofs.Common.{ℕ, List}
use Rattle.ec_disk.specs.Disk.{View}
use Rattle.ec_stands.specs.Laws.{lies_stands}
use Rattle.ec_stands.specs.Stands.{StandsFor}
use Rattle.ec_store.specs.Store.{IsHeld, view_of as state_of}
use Rattle.ec_store.specs.declared.store.Store.{Store}

-- whatever a crash leaves of the disk stands for the store's state
pub held_stands : (now : View) (s : Store) → IsHeld now s → (image : List ℕ) → now.may_leave image → StandsFor image (state_of s)
held_stands now s h image left = lies_stands image h.layout h.base (state_of s) h.places (h.on.laid image left) h.checkpoint h.steps
