-- The clerk's steps, by the functions of the protocol. They stay folded: what stands above needs no more than that they are functions.
use Rattle.std.specs.Prelude.{ℕ}
use Rattle.ec_log.specs.declared.state.Asked.{Asked}
use Rattle.ec_plain.specs.declared.call.Call.{Call}
use Rattle.ec_wire.specs.declared.msg.Msg.{Msg}
use Rattle.ec_protocol.specs.declared.clerk.Clerk.{Clerk}
use Rattle.ec_protocol.specs.Clerk as protocol
use Rattle.ec_protocol.specs.Clerk.{Doing}

unfoldable pub begun : Call → Clerk → Doing
begun call c = protocol.begin call c

unfoldable pub taken : Msg → Clerk → Doing
taken msg c = protocol.take msg c

unfoldable pub picked : Asked → Clerk → Doing
picked asked c = protocol.flush asked c

unfoldable pub parted : Clerk → Doing
parted c = protocol.bye c

unfoldable pub resent : Clerk → Doing
resent c = protocol.resend c

-- it greets with its present age
unfoldable pub linked : Clerk → Doing
linked c = protocol.hello (protocol.doing c)

unfoldable pub floor_of : Clerk → ℕ
floor_of c = protocol.floor c
