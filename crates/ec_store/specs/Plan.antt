-- What a checkpoint writes.
use Rattle.std.specs.Prelude.{◌≡◌, ◌≤◌, ◌*◌, ℕ, true, None, if◌then◌else◌, List, length}
use Rattle.ec_base.specs.Tables.{at}
use Rattle.ec_volume.specs.Update.{member}
use Rattle.ec_durable.specs.declared.state.Durable.{Durable}
use Rattle.ec_stands.specs.OfTable.Codes.{table_code, described}
use Rattle.ec_stands.specs.declared.table.table.Version.TheVariants.{Two}
use Rattle.ec_journal.specs.OfLayout.Places.{table_bytes}
use Rattle.std.specs.List.{All}
use Rattle.ec_volume.specs.declared.image.Image.{Image}
use Rattle.ec_stands.specs.OfTable.Codes.{numbers_in}
use Rattle.ec_journal.specs.OfLayout.Free.{free_below}
use Rattle.ec_journal.specs.OfLayout.Pieces.{pieces_of}
use Rattle.ec_store.specs.Places.{IsPlaced, placed, pieces}
use Rattle.ec_store.specs.declared.plan.Plan.{Plan}

-- Each object stays where it's kept, or goes to the least slot that isn't named or taken.
pub record IsPlan (most : ℕ) (named : List ℕ) (kept : List (ℕ × ℕ)) (volume : List (ℕ × Image)) (plan : Plan) : Type 0 where
  pub each : All (IsPlaced kept) volume
  pub places : plan.kept ≡ placed kept volume (free_below (2 * most) named)
  pub pieces_are : pieces_of plan.pieces.items ≡ pieces kept volume (free_below (2 * most) named)
  pub numbers : plan.named.items ≡ numbers_in plan.kept

-- The checkpoint of a state where the images of these objects aren't kept.
pub record PlansFor (state : Durable) (named : List ℕ) (wider : List (ℕ × ℕ)) (ids : List ℕ) (plan : Plan) : Type 0 where
  pub kept : List (ℕ × ℕ)
  pub left : (o : ℕ) → at o kept ≡ (if member o ids then None else at o wider)
  pub is : IsPlan state.max_objects named kept state.volume plan
  pub spelled : plan.table.items ≡ (table_code state.max_objects).spell (Two, described state plan.kept)
  pub fits : (table_code state.max_objects).fits (Two, described state plan.kept) ≡ true
  pub short : length plan.table.items ≤ table_bytes
