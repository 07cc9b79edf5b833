use Rattle.ec_mount_table.proofs.Gathering.{AreFirst}
use Rattle.ec_mount_table.proofs.rows.gather.Given as goal

abbrev pub invariant-parts : goal.invariant-parts
invariant-parts g l = AreFirst (λ p. p.met) l.parts l.part-index l.replies.items
