-- A server that takes any messages, from anybody, is told any ends, and starts again over what is durable.
use Rattle.std.specs.Prelude.{ℕ, List, [], ◌∷◌, None, Some}
use Rattle.ec_wire.specs.declared.msg.Msg.{Msg}
use Rattle.ec_protocol.specs.Server.{Serving, take, end, start}
use Rattle.ec_protocol.specs.declared.server.Server.{Server}

pub data Act : Type 0 where
  takes : ℕ → Msg → Act
  ends : ℕ → Act
  starts : Act

abbrev pub does : Act → Server → Serving
does (takes c m) v = take c m v
does (ends c) v = end c v
does starts v = start v.durable

-- A step that would spend a counter is refused, and changes nothing.
abbrev pub server_after : Serving → Server → Server
server_after t v = elim t.spent [ None ↦ t.server | Some n ↦ v ]

abbrev pub acted : List Act → Server → Server
acted [] v = v
acted (a ∷ more) v = acted more (server_after (does a v) v)
