-- What a power cut behind a record leaves.
use Rattle.std.specs.Prelude.{◌≡◌, Bool, true, false}
use Rattle.ec_disk.specs.Choices.{cut}
use Rattle.ec_disk.specs.Disk.{View}
use Rattle.ec_disk.specs.declared.disk.Choice.{Choice}
use Rattle.ec_durable.specs.declared.state.Durable.{Durable}
use Rattle.ec_stands.specs.Stands.{StandsFor}

-- What a power cut leaves by its choice is one of the images that a crash may leave, and tells whether the record is there that leads from one state to the
-- other.
pub record LeavesBy (ch : Choice) (before stepped : Durable) (now : View) (there : Bool) : Type 0 where
  pub left : now.may_leave (cut ch now.gives now.synced)
  pub taken_back : StandsFor (cut ch now.gives now.synced) before → there ≡ false
  pub kept : StandsFor (cut ch now.gives now.synced) stepped → there ≡ true

-- the stepped state where the record is there, and else the one before
abbrev pub left_of : Bool → Durable → Durable → Durable
left_of true before stepped = stepped
left_of false before stepped = before
