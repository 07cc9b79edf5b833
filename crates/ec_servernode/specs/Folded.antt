-- The server's steps, by the functions of the protocol. They stay folded: what stands above needs no more than that they're functions.
use Rattle.std.specs.Prelude.{ℕ}
use Rattle.ec_wire.specs.declared.msg.Msg.{Msg}
use Rattle.ec_protocol.specs.Server as protocol
use Rattle.ec_protocol.specs.Server.{Serving}
use Rattle.ec_protocol.specs.declared.server.Server.{Server}

unfoldable pub message_taken : ℕ → Msg → Server → Serving
message_taken c m s = protocol.take c m s

unfoldable pub session_ended : ℕ → Server → Serving
session_ended c s = protocol.end c s
