use Rattle.std.proofs.Common.{◌≡◌, ℕ, length, vec_len}
use Rattle.std.specs.Prelude.{reverse}
use Rattle.ec_base.specs.Limits.{clerk_count}
use Rattle.ec_servernode.specs.Node.{queue_at, owner_at}
use Rattle.ec_servernode.specs.Run.{put_all, for_clerk}
use Rattle.ec_servernode.proofs.outbox.post_all.Given as goal

abbrev pub invariant-sent : goal.invariant-sent
invariant-sent l =
    (length l.boxes.items ≡ clerk_count)
    × ((c : ℕ) → put_all (queue_at l.boxes.items c) (for_clerk c (reverse l.sent.items)) ≡ put_all (queue_at l.fn.boxes.items c) (for_clerk c l.fn.sent.items))
    × ((c : ℕ) → owner_at l.boxes.items c ≡ owner_at l.fn.boxes.items c)

abbrev pub decreases-sent : goal.decreases-sent
decreases-sent l = vec_len l.sent
