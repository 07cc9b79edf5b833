use Rattle.std.proofs.Common.{◌-◌, length, arith}
use Rattle.ec_log.proofs.OfChains.Taken.{last-key}
use Rattle.ec_log.proofs.chains.walking.last_of.Goals as goal

pub returns-in-len1-up : goal.returns-in-len1-up
returns-in-len1-up c = let some = c.in-len1-up.len_at_least in last-key c.args.places.now (length c.args.places.now - 1) (0, tt) c.requires (omega (arith, some))
