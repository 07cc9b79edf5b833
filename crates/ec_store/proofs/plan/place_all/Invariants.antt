use Rattle.std.proofs.Common.{◌≡◌, ◌≤◌, ◌++◌, take, drop}
use Rattle.std.specs.List.{All}
use Rattle.ec_journal.specs.OfLayout.Pieces.{pieces_of}
use Rattle.ec_store.specs.Places.{IsPlaced, placed, pieces}
use Rattle.ec_store.specs.Placing.{free_now}
use Rattle.ec_store.proofs.plan.place_all.Given as goal

abbrev pub invariant-objects : goal.invariant-objects
invariant-objects l = record {
  places : l.placing.places.items ++ placed l.kept (drop l.place l.volume) (free_now l.placing) ≡ placed l.kept l.volume l.fn.free.items;
  pieces_are : pieces_of l.placing.pieces.items ++ pieces l.kept (drop l.place l.volume) (free_now l.placing) ≡ pieces l.kept l.volume l.fn.free.items;
  free : l.placing.free.items ≡ l.fn.free.items;
  used : l.placing.used ≤ l.place;
  each : All (IsPlaced l.kept) (take l.place l.volume);
}
