-- Steps of the machine in parts, each by what its test or its step tells.
use Rattle.std.specs.Prelude.{ℕ, Bool, true, false, List, [], ◌∷◌, map, Option, None, Some}
use Rattle.ec_base.specs.Tables.{at_or}
use Rattle.ec_plain.specs.declared.call.Call.{Call}
use Rattle.ec_protocol.specs.Resumes.{resume}
use Rattle.ec_protocol.specs.World.{Moving}
use Rattle.ec_protocol.specs.declared.world.WorldFault.{WorldFault}
use Rattle.ec_lease_machine.specs.Leases.{LeaseMoving, begin_each, begin_queued, fails, in_world, issue, lease, moved, moving, note, note_open, nothing, onward, receive, shows, with_queue}
use Rattle.ec_lease_machine.specs.declared.world.Lease.{Lease}
use Rattle.ec_lease_machine.specs.declared.world.LeaseFault.{LeaseFault}
use Rattle.ec_lease_machine.specs.declared.world.LeaseFault.TheVariants as fault
use Rattle.ec_lease_machine.specs.declared.world.LeaseShown.TheVariants.{Line}
use Rattle.ec_lease_machine.specs.declared.world.LeaseWorld.{LeaseWorld as State}

abbrev pub moved_by : Moving → State → Option WorldFault → LeaseMoving
moved_by r x o = elim o [ Some f ↦ fails (fault.World f) x | None ↦ shows (map Line r.shown) (in_world r.world x) ]

-- one queued call begins
abbrev pub begun : ℕ → ℕ × Call → LeaseMoving → LeaseMoving
begun c q m = onward m (moved (resume c q.0 q.1 m.world.world) m.world)

-- and those behind it, unless it failed
abbrev pub begin_more : ℕ → List (ℕ × Call) → LeaseMoving → Option LeaseFault → LeaseMoving
begin_more c qs n o = elim o [ Some f ↦ n | None ↦ begin_each c qs n ]

abbrev pub begin_by : ℕ → ℕ × Call → List (ℕ × Call) → LeaseMoving → Bool → LeaseMoving
begin_by c q qs m held = elim held [ true ↦ record m { world = with_queue c (q ∷ qs) m.world } | false ↦ begin_more c qs (begun c q m) (begun c q m).fault ]

abbrev pub queued_by : ℕ → List ℕ → LeaseMoving → Option LeaseFault → LeaseMoving
queued_by c cs m o = elim o [ Some f ↦ m | None ↦ begin_queued cs (begin_each c (at_or [] c m.world.queued) m) ]

abbrev pub renew_by : ℕ → ℕ → State → Bool → State
renew_by c s x may = elim may [ true ↦ receive c (lease s x) (issue c s x) | false ↦ x ]

abbrev pub note_by : ℕ → State → Option ℕ → State
note_by c x o = elim o [ None ↦ x | Some s ↦ note c (lease s x) x ]

abbrev pub noted_by : LeaseMoving → Bool → LeaseMoving
noted_by m started = elim started [ true ↦ record m { world = note_open m.world.world.server m.world } | false ↦ m ]

abbrev pub hand_by : ℕ → Lease → State → Bool → LeaseMoving
hand_by c a x may = elim may [ true ↦ moving (receive c a x) | false ↦ nothing x ]
