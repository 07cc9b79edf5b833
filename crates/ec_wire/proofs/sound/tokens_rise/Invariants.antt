use Rattle.std.proofs.Common.{◌≡◌, drop}
use Rattle.ec_base.specs.Tables.{keys}
use Rattle.ec_wire.specs.Messages.{rises}
use Rattle.ec_wire.specs.RowLaws.{rises_over}
use Rattle.ec_wire.proofs.sound.tokens_rise.Given as goal

abbrev pub invariant-loop-token : goal.invariant-loop-token
invariant-loop-token l = rises_over l.last (keys (drop l.token-index l.tokens)) ≡ rises (keys l.tokens)
