-- What a flush answers.
use Rattle.ec_log.specs.Log as log
use Rattle.ec_log.specs.declared.state.Asked.{Asked}
use Rattle.ec_log.specs.declared.state.Pick.{Pick}
use Rattle.ec_log.specs.declared.state.Pick.TheVariants as pick_of
use Rattle.ec_protocol.specs.declared.clerk.Clerk.{Clerk}
use Rattle.ec_protocol.specs.declared.clerk.Flushed.{Flushed}
use Rattle.ec_protocol.specs.declared.clerk.Flushed.TheVariants as flushed

abbrev pub flushed_by : Pick → Flushed
flushed_by (pick_of.Batch b ns) = flushed.Sent b
flushed_by pick_of.Settled = flushed.Settled
flushed_by (pick_of.Behind b) = flushed.Behind b
flushed_by (pick_of.Window b) = flushed.Window b

abbrev pub flush_answer : Asked → Clerk → Flushed
flush_answer a k = flushed_by (log.pick a k.log)
