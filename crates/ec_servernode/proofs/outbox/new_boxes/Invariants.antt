use Rattle.std.proofs.Common.{◌≡◌, ℕ, [], None, length}
use Rattle.ec_servernode.specs.Node.{queue_at, owner_at}
use Rattle.ec_servernode.proofs.outbox.new_boxes.Given as goal

abbrev pub invariant-loop : goal.invariant-loop
invariant-loop l = (length l.boxes.items ≡ l.counter) × ((c : ℕ) → (queue_at l.boxes.items c ≡ []) × (owner_at l.boxes.items c ≡ None))
