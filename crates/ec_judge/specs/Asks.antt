-- What a call asks to be durable. No public clause cites this module.
use Rattle.std.specs.Prelude.{◌-◌, ℕ, List, length, slice_get, None, Some}
use Rattle.ec_volume.specs.Volume.{Images}
use Rattle.ec_plain.specs.Walk.{walk, At, Not}
use Rattle.ec_plain.specs.declared.call.Call.{Call}
use Rattle.ec_plain.specs.declared.call.Call.TheVariants as call
use Rattle.ec_plain.specs.declared.call.Reply.TheVariants as reply
use Rattle.ec_history.specs.declared.entry.Answer.{Answer}
use Rattle.ec_history.specs.declared.entry.Answer.TheVariants as answer
use Rattle.ec_pending.specs.declared.asked.Asked.{Asked}
use Rattle.ec_pending.specs.declared.asked.Asked.TheVariants as asks

-- what a call on the volume, begun at a place, asks to be durable of its start's operations
abbrev pub asked_on : Images → ℕ → Call → Answer → Asked
asked_on v begun (call.Fsync path) (answer.Reply reply.Ok) = elim ((walk v path).to) [ At o ↦ asks.On o begun | Not r ↦ asks.Nothing ]
asked_on v begun call.Sync (answer.Reply reply.Ok) = asks.All begun
asked_on v begun _ _ = asks.Nothing

-- the same, by the objects that the answered call touched
abbrev pub asked_by_call : List ℕ → ℕ → Call → Answer → Asked
asked_by_call os begun (call.Fsync path) (answer.Reply reply.Ok) = elim (slice_get os (length os - 1)) [ Some o ↦ asks.On o begun | None ↦ asks.Nothing ]
asked_by_call os begun call.Sync (answer.Reply reply.Ok) = asks.All begun
asked_by_call os begun _ _ = asks.Nothing
