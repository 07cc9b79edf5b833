use Rattle.std.proofs.Common.{◌≡◌, vec_len}
use Rattle.std.specs.Prelude.{reverse}
use Rattle.ec_pending.specs.Deferred.{behind_notes, AreAbove}
use Rattle.ec_pending.proofs.deferred.follow_back.Given as goal

abbrev pub invariant-each : goal.invariant-each
invariant-each l = AreAbove l.count l.pending.0 (reverse l.left.items) × (behind_notes (reverse l.left.items) l.pending.1 ≡ behind_notes (reverse l.fn.notes.items) l.fn.pending.1)

abbrev pub decreases-each : goal.decreases-each
decreases-each l = vec_len l.left
