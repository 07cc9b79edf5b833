use Rattle.ec_mount_table.proofs.Working.{if_some}
use Rattle.ec_mount_table.proofs.ending.joined.Goals as goal

pub returns : goal.returns
returns c = if_some _ _ c.joined_with.result (λ r p. (c.in-Some.one, c.in-Some-all.others, c.in-Some.is, c.in-Some-all.is, p.0, p.1, p.2)) c.joined_with.ensures
