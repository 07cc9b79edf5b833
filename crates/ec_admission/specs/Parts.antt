-- What a message says of its session.
use Rattle.std.specs.Prelude.{true, false, Option, None, Some}
use Rattle.ec_wire.specs.declared.msg.Msg.{Msg}
use Rattle.ec_wire.specs.declared.msg.Msg.TheVariants as msg
use Rattle.ec_admission.specs.declared.messages.Part.{Part}

-- The session and the epoch of a message that is for a session, and whether it needs no claim.
abbrev pub part_of : Msg → Option Part
part_of (msg.Want ss e x h last) = Some (record { session = ss; at_epoch = e; needs_no_claim = false })
part_of (msg.Back ss e x n h) = Some (record { session = ss; at_epoch = e; needs_no_claim = false })
part_of (msg.Flush ss e b ops) = Some (record { session = ss; at_epoch = e; needs_no_claim = false })
part_of (msg.Room ss e got ask) = Some (record { session = ss; at_epoch = e; needs_no_claim = false })
part_of (msg.Claim ss e list) = Some (record { session = ss; at_epoch = e; needs_no_claim = true })
part_of (msg.Bye ss e) = Some (record { session = ss; at_epoch = e; needs_no_claim = true })
part_of _ = None
