-- How it's known from a state whether a record is in it.
use Rattle.std.specs.Prelude.{Bool, not, nat_lt, nat_le}
use Rattle.ec_sessions.specs.Slots.{is_open}
use Rattle.ec_durable.specs.Durable.{slot, has_batch}
use Rattle.ec_durable.specs.declared.state.Durable.{Durable}
use Rattle.ec_durable.specs.declared.record.Record.{Record}
use Rattle.ec_durable.specs.declared.record.Record.TheVariants as record_of
use Rattle.ec_marking.specs.declared.signs.Sign.{Sign}
use Rattle.ec_marking.specs.declared.signs.Sign.TheVariants as sign

abbrev pub sign_of : Record → Sign
sign_of (record_of.Batch c s b ops) = sign.Batch c b
sign_of (record_of.Open c age s) = sign.Open s
sign_of (record_of.End c s) = sign.End c
sign_of (record_of.Ids c s got x) = sign.Ids x
sign_of (record_of.Epoch e) = sign.Epoch e

abbrev pub is_there : Sign → Durable → Bool
is_there (sign.Batch c b) d = has_batch b (slot d c)
is_there (sign.Open s) d = nat_lt s d.next_session
is_there (sign.End c) d = not (is_open (slot d c))
is_there (sign.Ids x) d = nat_lt x d.next_id
is_there (sign.Epoch e) d = nat_le e d.epoch
