use Rattle.std.proofs.Common.{◌≡◌, ℕ, false, ◌+◌, ◌<◌, length, take}
use Rattle.ec_volume.specs.Update.{member}
use Rattle.ec_durable.specs.WellFormed.{WellFormed}
use Rattle.ec_journal.specs.Records.{records}
use Rattle.ec_stands.specs.Stands.{StepsTo}
use Rattle.ec_store.specs.Replay.{Spares, IsUntouched}
use Rattle.ec_store.proofs.replay.replay.Given as goal

abbrev pub invariant-bodies : goal.invariant-bodies
invariant-bodies l = record {
  steps : StepsTo (take l.body-index l.bodies) l.fn.state l.state;
  formed : WellFormed l.state;
  spares : Spares l.ids.items l.fn.state l.state;
  touches : (o : ℕ) → IsUntouched o (take l.body-index l.bodies) → member o l.ids.items ≡ false;
  gate : length (records (take l.body-index l.bodies)) < 2097152 → l.gate ≡ l.at + length (records (take l.body-index l.bodies));
}
