use Rattle.std.proofs.Common.{◌≡◌, ◌<◌, take, ℕ}
use Rattle.ec_disk.specs.Disk.{byte}
use Rattle.ec_disk.specs.Effects.{Counted, Called}
use Rattle.ec_disk.specs.Runs.{Ran}
use Rattle.ec_journal.specs.Ends.{DidAll, TurnedUpTo}
use Rattle.ec_journal.specs.OfLayout.Places.{slot_at}
use Rattle.ec_journal.specs.OfLayout.Layout.{HasSlots}
use Rattle.ec_journal.specs.OfLayout.Pieces.{pieces_of, InSlots}
use Rattle.ec_journal.specs.OfLayout.Traces.{NoSync}
use Rattle.ec_journal.proofs.layout.slots.write_slots.Given as goal

abbrev pub invariant-slots : goal.invariant-slots
invariant-slots g l = record {
  ran : g.D.Disk.tells → Ran (InSlots (pieces_of l.pieces)) (g.D.Disk.view l.fn.disk) (g.D.Disk.view l.disk);
  written : g.D.Disk.tells → HasSlots (g.D.Disk.view l.disk).gives (pieces_of (take l.piece-index l.pieces));
  below : g.D.Disk.tells → (i : ℕ) → i < slot_at 0 → byte (g.D.Disk.view l.disk).gives i ≡ byte (g.D.Disk.view l.fn.disk).gives i;
  calls : Called l.piece-index (g.D.Disk.counts l.fn.disk) (g.D.Disk.counts l.disk);
  did : DidAll g.D.Disk.does l.piece-index l.fn.disk l.disk;
  turns : TurnedUpTo l.piece-index (g.D.Disk.counts l.fn.disk).armed (g.D.Disk.counts l.disk).armed (Unit {0}) ⊥;
  kept : g.D.Disk.tells → (g.D.Disk.view l.disk).synced ≡ (g.D.Disk.view l.fn.disk).synced;
  unsynced : NoSync g.D.Disk.does l.fn.disk l.disk;
  counts : Counted (g.D.Disk.counts l.fn.disk) (g.D.Disk.counts l.disk) ⊥ ⊥;
}
