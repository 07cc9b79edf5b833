-- What a run over records kept, or left.
use Rattle.std.specs.Prelude.{◌≡◌, ◌⊎◌, ◌≤◌, ◌+◌, ℕ, List, Option, Some}
use Rattle.ec_disk.specs.Disk.{View, Counts, NoneDue, after_calls}
use Rattle.ec_durable.specs.declared.state.Durable.{Durable}
use Rattle.ec_durable.specs.declared.record.Record.{Record}
use Rattle.ec_stands.specs.Stands.{StandsFor}
use Rattle.ec_store.specs.Store.{StandsForEither}
use Rattle.ec_marking.specs.Runs.{Takes}

-- None of them was due to stop.
pub record HasRun (before after : Durable) (old new : Counts) : Type 0 where
  pub turns : ℕ
  pub takes : Takes turns before after
  pub next : new.armed ≡ after_calls turns old.armed
  pub none_due : NoneDue turns old.armed

-- Whatever a crash leaves stands for the state before the record, or for the stepped one.
abbrev pub LeavesEither : Record → Durable → View → Type 0
LeavesEither r d now = (image : List ℕ) → now.may_leave image → StandsForEither r d image

-- How a commit of so many turns left the disk that stopped in this one: four of them, or nine and more where the journal begins anew. Before the last two
-- turns each image that a crash may leave stands for the state before the record; in these a read gives the stepped one.
pub record Halfway (turn : ℕ) (before stepped : Durable) (now : View) : Type 0 where
  pub most : ℕ
  pub usual : (most ≡ 4) ⊎ (9 ≤ most)
  pub within : turn ≤ most
  pub early : turn + 2 ≤ most → (image : List ℕ) → now.may_leave image → StandsFor image before
  pub late : most ≤ turn + 1 → StandsFor now.gives stepped

-- the turn is the one that the disk was armed for
abbrev pub StopsAt : Option ℕ → Durable → Durable → View → Type 0
StopsAt armed before stepped now = (turn : ℕ) → armed ≡ Some turn → Halfway turn before stepped now
