-- What leases need of a world: its sessions, and calls whose line was shown before they begin.
use Rattle.std.specs.Prelude.{◌+◌, ℕ, true, false, Option, None, Some}
use Rattle.ec_base.specs.Tables.{at}
use Rattle.ec_plain.specs.declared.call.Call.{Call}
use Rattle.ec_history.specs.declared.shown.Shown.TheVariants.{Waits}
use Rattle.ec_sessions.specs.declared.slot.Slot.{Slot}
use Rattle.ec_durable.specs.Durable.{slot}
use Rattle.ec_protocol.specs.Clerk.{begin}
use Rattle.ec_protocol.specs.World.{Moving, add_call, clerk_does, fails, moving, show_line}
use Rattle.ec_protocol.specs.declared.clerk.Clerk.{Clerk}
use Rattle.ec_protocol.specs.declared.world.World.{World}
use Rattle.ec_protocol.specs.declared.world.WorldFault.TheVariants.{Spent}

-- Sessions.

-- the session of a running clerk
abbrev pub session : ℕ → World → Option ℕ
session c w = elim (at c w.clerks) [ None ↦ None | Some k ↦ k.session ]

abbrev pub open_in : Option Slot → Option ℕ
open_in None = None
open_in (Some sl) = elim sl.is_open [ true ↦ Some sl.session | false ↦ None ]

-- the session of the clerk that the running server has open
abbrev pub open_session : ℕ → World → Option ℕ
open_session c w = elim w.server [ None ↦ None | Some v ↦ open_in (slot v.durable c) ]

-- Calls that begin behind their line.

-- the line of a call that waits before it begins
abbrev pub wait : ℕ → ℕ → Call → World → Moving
wait c line cl w = show_line (Waits line c cl) (moving w)

-- such a call of a running clerk begins, and no line shows again that it waits
abbrev pub resume_on : ℕ → ℕ → Call → Option Clerk → World → Moving
resume_on c line cl None w = moving w
resume_on c line cl (Some k) w =
    let d = begin cl k in
    elim d.spent [ Some n ↦ fails (Spent n) w | None ↦ clerk_does c d (moving (add_call c (k.calls + 1) line cl w)) ]

abbrev pub resume : ℕ → ℕ → Call → World → Moving
resume c line cl w = resume_on c line cl (at c w.clerks) w
