use Rattle.std.proofs.Common.{sym}
use Rattle.ec_base.specs.Names.{is_slash}
use Rattle.ec_mount_words.proofs.Cuts.{cut_first, cut_none}
use Rattle.ec_mount_words.proofs.paths.cut.Goals as goal

pub returns-in-Some : goal.returns-in-Some
returns-in-Some c = cut_first is_slash c.args.bytes.now c.in-Some.at (sym c.in-Some.ensures)

pub returns-in-None : goal.returns-in-None
returns-in-None c = cut_none is_slash c.args.bytes.now (sym c.in-None.ensures)
