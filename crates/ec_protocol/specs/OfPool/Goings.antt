-- To which clerks kept messages go, and the least one that isn't kept from some of them.
use Rattle.std.specs.Prelude.{ℕ, Bool, true, false, not, ◌&&◌, List, Option, None, Some}
use Rattle.ec_base.specs.Tables.{at, first}
use Rattle.ec_volume.specs.Update.{member}
use Rattle.ec_wire.specs.Messages.{kind, same_kind}
use Rattle.ec_wire.specs.declared.msg.MsgKind.{MsgKind}
use Rattle.ec_wire.specs.declared.msg.MsgKind.TheVariants.{Ended}
use Rattle.ec_protocol.specs.World.{is_deliverable, is_for_server}
use Rattle.ec_protocol.specs.declared.world.Sent.{Sent}
use Rattle.ec_protocol.specs.declared.world.World.{World}

-- to which clerk a message goes, and its kind
abbrev pub going : Option Sent → Option (ℕ × MsgKind)
going None = None
going (Some s) = elim (is_for_server s) [ true ↦ None | false ↦ Some (s.clerk, kind s.msg) ]

abbrev pub goes_to : ℕ → World → Option (ℕ × MsgKind)
goes_to n w = going (at n w.pool)

-- it's no Ended, and goes to one of these clerks
abbrev pub is_kept_from : List ℕ → Option (ℕ × MsgKind) → Bool
is_kept_from held None = false
is_kept_from held (Some to) = not (same_kind to.1 Ended) && member to.0 held

-- the least pending message that can be delivered and isn't kept from these clerks
abbrev pub due_but : List ℕ → World → Option ℕ
due_but held w = first (λ n. is_deliverable w (at n w.pool) && not (is_kept_from held (goes_to n w))) w.pending
