-- What each event makes of a world with leases, with the lines that it shows.
use Rattle.std.specs.Prelude.{◌==◌, ◌+◌, ◌-◌, ℕ, Bool, true, false, not, ◌&&◌, nat_lt, nat_le, List, []}
use Rattle.std.specs.Prelude.{◌∷◌, ◌++◌, filter, map, Option, None, Some}
use Rattle.std.specs.List.{list_any}
use Rattle.ec_base.specs.Tables.{at, at_or, or_else, put, without}
use Rattle.ec_plain.specs.declared.call.Call.{Call}
use Rattle.ec_volume.specs.Update.{member}
use Rattle.ec_history.specs.declared.shown.Shown.{Shown}
use Rattle.ec_history.specs.declared.shown.Shown.TheVariants.{Nothing, Started}
use Rattle.ec_sessions.specs.Slots.{Slots}
use Rattle.ec_sessions.specs.declared.slot.Slot.{Slot}
use Rattle.ec_protocol.specs.World.{Fate, Moving, clerks, happen}
use Rattle.ec_protocol.specs.World as world
use Rattle.ec_protocol.specs.declared.server.Server.{Server}
use Rattle.ec_protocol.specs.declared.world.World.{World}
use Rattle.ec_protocol.specs.declared.world.Event.{Event}
use Rattle.ec_protocol.specs.declared.world.Event.TheVariants as of_world
use Rattle.ec_protocol.specs.OfPool.Goings.{goes_to, is_kept_from}
use Rattle.ec_protocol.specs.Resumes.{open_in, open_session, resume, session, wait}
use Rattle.ec_lease_machine.specs.declared.world.Lease.{Lease}
use Rattle.ec_lease_machine.specs.declared.world.LeaseEvent.{LeaseEvent}
use Rattle.ec_lease_machine.specs.declared.world.LeaseEvent.TheVariants as event
use Rattle.ec_lease_machine.specs.declared.world.LeaseFault.{LeaseFault}
use Rattle.ec_lease_machine.specs.declared.world.LeaseFault.TheVariants as fault
use Rattle.ec_lease_machine.specs.declared.world.LeaseShown.{LeaseShown}
use Rattle.ec_lease_machine.specs.declared.world.LeaseShown.TheVariants.{Line, Held}
use Rattle.ec_lease_machine.specs.declared.world.LeaseWorld.{LeaseWorld}
use Rattle.ec_protocol.specs.Clerk.{is_session}

-- A step under way: the world, the lines that it has shown, and its fault, if any. What happened before a fault stands.
pub record LeaseMoving : Type 0 where
  pub world : LeaseWorld
  pub shown : List LeaseShown
  pub fault : Option LeaseFault

abbrev pub shows : List LeaseShown → LeaseWorld → LeaseMoving
shows ss x = record { world = x; shown = ss; fault = None }

abbrev pub moving : LeaseWorld → LeaseMoving
moving x = shows [] x

abbrev pub fails : LeaseFault → LeaseWorld → LeaseMoving
fails f x = record (moving x) { fault = Some f }

-- one step behind others
abbrev pub onward : LeaseMoving → LeaseMoving → LeaseMoving
onward m n = record { world = n.world; shown = m.shown ++ n.shown; fault = n.fault }

abbrev pub in_world : World → LeaseWorld → LeaseWorld
in_world w x = record x { world = w }

-- a step of the world, and the lines that it shows
abbrev pub moved : Moving → LeaseWorld → LeaseMoving
moved m x = elim m.fault [ Some f ↦ fails (fault.World f) x | None ↦ shows (map Line m.shown) (in_world m.world x) ]

abbrev pub nothing : LeaseWorld → LeaseMoving
nothing x = moved (world.nothing x.world) x

-- Clocks. A clerk's clock is t + s - E, so it has come to a moment m where m + E is at most t + s.

abbrev pub skew : ℕ → LeaseWorld → ℕ
skew c x = at_or x.most c x.skews

abbrev pub is_past : ℕ → ℕ → LeaseWorld → Bool
is_past c m x = nat_le (m + x.most) (x.now + skew c x)

-- the moment of a Lease, where it's of this session
abbrev pub moment_in : ℕ → Option Lease → Option ℕ
moment_in s None = None
moment_in s (Some a) = elim (a.session == s) [ true ↦ Some a.moment | false ↦ None ]

-- Held clerks.

-- there is no Lease, or its moment is past on the clerk's clock
abbrev pub has_run_out : ℕ → Option ℕ → LeaseWorld → Bool
has_run_out c None x = true
has_run_out c (Some m) x = is_past c m x

-- A clerk is held where it runs, has a session, and its lease doesn't run.
abbrev pub is_held : ℕ → LeaseWorld → Bool
is_held c x = elim (session c x.world) [ None ↦ false | Some s ↦ has_run_out c (moment_in s (at c x.leases)) x ]

abbrev pub held : LeaseWorld → List ℕ
held x = filter (λ c. is_held c x) clerks

-- Leases.

-- a Lease that is issued now
abbrev pub lease : ℕ → LeaseWorld → Lease
lease s x = record { session = s; moment = x.now + x.length }

abbrev pub greater : ℕ → ℕ → ℕ
greater m n = elim (nat_lt m n) [ true ↦ n | false ↦ m ]

-- the server notes the greatest moment of a session
abbrev pub note : ℕ → Lease → LeaseWorld → LeaseWorld
note c a x = record x { noted = put c (record a { moment = greater (or_else 0 (moment_in a.session (at c x.noted))) a.moment }) x.noted }

abbrev pub issue : ℕ → ℕ → LeaseWorld → LeaseWorld
issue c s x = note c (lease s x) (record x { issued = put c (at_or [] c x.issued ++ lease s x ∷ []) x.issued })

abbrev pub is_above : Option ℕ → ℕ → Bool
is_above None m = true
is_above (Some n) m = nat_lt n m

-- the Lease is of the clerk's session, and its moment is above that of its own
abbrev pub may_receive : ℕ → Lease → LeaseWorld → Bool
may_receive c a x = is_session a.session (session c x.world) && is_above (moment_in a.session (at c x.leases)) a.moment

abbrev pub receive : ℕ → Lease → LeaseWorld → LeaseWorld
receive c a x = record x { leases = put c a x.leases }

-- Queues.

-- a call of a held clerk is queued, and its line shows that it waits
abbrev pub queue : ℕ → ℕ → Call → LeaseWorld → LeaseMoving
queue c line cl x = moved (wait c line cl x.world) (record x { queued = put c (at_or [] c x.queued ++ (line, cl) ∷ []) x.queued })

-- the calls of a clerk that are still queued
abbrev pub with_queue : ℕ → List (ℕ × Call) → LeaseWorld → LeaseWorld
with_queue c [] x = record x { queued = without c x.queued }
with_queue c (q ∷ qs) x = record x { queued = put c (q ∷ qs) x.queued }

-- The clerk's queued calls begin, in order, as long as it isn't held.
abbrev pub begin_each : ℕ → List (ℕ × Call) → LeaseMoving → LeaseMoving
begin_each c [] m = record m { world = with_queue c [] m.world }
begin_each c (q ∷ qs) m =
    elim (is_held c m.world) [
      | true ↦ record m { world = with_queue c (q ∷ qs) m.world }
      | false ↦
          let n = onward m (moved (resume c q.0 q.1 m.world.world) m.world) in
          elim n.fault [ Some f ↦ n | None ↦ begin_each c qs n ]
    ]

abbrev pub begin_queued : List ℕ → LeaseMoving → LeaseMoving
begin_queued [] m = m
begin_queued (c ∷ cs) m = elim m.fault [ Some f ↦ m | None ↦ begin_queued cs (begin_each c (at_or [] c m.world.queued) m) ]

-- Renewing: each running clerk on a link that isn't cut, in the session that the running server has open, is issued a Lease where its moment is below
-- that of one issued now, and receives it at once.

abbrev pub renew_in : ℕ → Option ℕ → LeaseWorld → LeaseWorld
renew_in c None x = x
renew_in c (Some s) x =
    elim ((not (member c x.world.cut) && is_session s (open_session c x.world)) && may_receive c (lease s x) x) [
      | true ↦ receive c (lease s x) (issue c s x)
      | false ↦ x
    ]

abbrev pub renew_each : List ℕ → LeaseWorld → LeaseWorld
renew_each [] x = x
renew_each (c ∷ cs) x = renew_each cs (renew_in c (session c x.world) x)

-- A restart that comes up notes for each open session the moment of a Lease that were issued now.

abbrev pub note_slot : ℕ → Option Slot → LeaseWorld → LeaseWorld
note_slot c sl x = elim (open_in sl) [ None ↦ x | Some s ↦ note c (lease s x) x ]

abbrev pub note_slots : ℕ → Slots → LeaseWorld → LeaseWorld
note_slots c [] x = x
note_slots c (sl ∷ slots) x = note_slots (c + 1) slots (note_slot c sl x)

abbrev pub note_open : Option Server → LeaseWorld → LeaseWorld
note_open None x = x
note_open (Some v) x = note_slots 0 v.durable.sessions x

abbrev pub is_started : LeaseShown → Bool
is_started (Line Started) = true
is_started _ = false

abbrev pub noted_if_started : LeaseMoving → LeaseMoving
noted_if_started m = elim (list_any is_started m.shown) [ true ↦ record m { world = note_open m.world.world.server m.world } | false ↦ m ]

-- What an event of the world makes of it.

abbrev pub world_happens : Fate → Event → LeaseWorld → LeaseMoving
world_happens fate e x = moved (happen fate e x.world) x

-- the moment before which a session may not end: the one noted for it, plus E
abbrev pub ends_at : ℕ → Option ℕ → LeaseWorld → Option ℕ
ends_at c None x = None
ends_at c (Some s) x = elim (moment_in s (at c x.noted)) [ None ↦ None | Some m ↦ Some (m + x.most) ]

abbrev pub end : Fate → ℕ → Option ℕ → LeaseWorld → LeaseMoving
end fate c None x = world_happens fate (of_world.End c) x
end fate c (Some m) x = elim (nat_lt x.now m) [ true ↦ shows (Held c m ∷ []) x | false ↦ world_happens fate (of_world.End c) x ]

-- a message other than Ended isn't delivered to a held clerk
abbrev pub is_kept : ℕ → LeaseWorld → Bool
is_kept n x = is_kept_from (held x) (goes_to n x.world)

abbrev pub event_happens : Fate → Event → LeaseWorld → LeaseMoving
event_happens fate (of_world.Call c line cl) x =
    elim (is_held c x) [ true ↦ queue c line cl x | false ↦ world_happens fate (of_world.Call c line cl) x ]
event_happens fate (of_world.Deliver n) x = elim (is_kept n x) [ true ↦ nothing x | false ↦ world_happens fate (of_world.Deliver n) x ]
event_happens fate (of_world.Crash c) x = world_happens fate (of_world.Crash c) (with_queue c [] x)
event_happens fate (of_world.End c) x = end fate c (ends_at c (open_session c x.world) x) x
event_happens fate of_world.Restart x = noted_if_started (world_happens fate of_world.Restart x)
event_happens fate e x = world_happens fate e x

-- The other events.

abbrev pub grant : ℕ → Option ℕ → LeaseWorld → LeaseMoving
grant c None x = nothing x
grant c (Some s) x = moving (issue c s x)

-- the nth of a list, from 1
abbrev pub nth : ℕ → List Lease → Option Lease
nth n [] = None
nth n (a ∷ more) = elim (n == 1) [ true ↦ Some a | false ↦ nth (n - 1) more ]

abbrev pub hand : ℕ → Option Lease → LeaseWorld → LeaseMoving
hand c None x = fails fault.NoSuchLease x
hand c (Some a) x = elim (may_receive c a x) [ true ↦ moving (receive c a x) | false ↦ nothing x ]

abbrev pub happens : Fate → LeaseEvent → LeaseWorld → LeaseMoving
happens fate (event.World e) x = event_happens fate e x
happens fate (event.Tick n) x = moving (record x { now = x.now + n })
happens fate (event.Skew c s) x = moving (record x { skews = put c s x.skews })
happens fate (event.Grant c) x = grant c (open_session c x.world) x
happens fate (event.Hand c n) x = hand c (nth n (at_or [] c x.issued)) x
happens fate event.Renew x = moving (renew_each clerks x)

-- A step: what happens, and behind it queued calls of clerks that aren't held begin, in the order of the clerks.
abbrev pub step : Fate → LeaseEvent → LeaseWorld → LeaseMoving
step fate e x = begin_queued clerks (happens fate e x)

-- The opening of a world with Leases of this length, and clocks that differ by at most so much.
abbrev pub opened_leases : ℕ → ℕ → World → LeaseWorld
opened_leases length most w = record { world = w; length = length; most = most; now = 0; skews = []; issued = []; noted = []; leases = []; queued = [] }
