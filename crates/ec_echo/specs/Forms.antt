-- What each form of words does, by the exit status.
use Rattle.std.specs.Prelude.{◌≡◌, ◌⊎◌, ℕ, List}
use Rattle.ec_drill.specs.Drill.{Outside, Drilled, IsDiskUntouched}
use Rattle.ec_drill.specs.declared.status.Status as drilled
use Rattle.ec_drill.specs.OfPromise.LawfulEnds.{IsLawful}
use Rattle.ec_drill.specs.OfPromise.PlainEnds.{Completes}
use Rattle.ec_drill.specs.OfPromise.Rooms.{TellsRoom}
use Rattle.ec_drill.specs.OfPromise.Spent.{TellsSpent}
use Rattle.ec_lease.specs.OfDrill.Drill.{LeaseDrilled}
use Rattle.ec_lease.specs.declared.drill.status.Status as leased
use Rattle.ec_machine_laws.specs.OfNodeLaws.Claims.{ClaimsComeFirst}
use Rattle.ec_mount.specs.Mount.{Mounts, StartsAs}
use Rattle.ec_mount.specs.declared.status.Status as mounted
use Rattle.ec_echo.specs.Check.{Judged}
use Rattle.ec_echo.specs.Greeting.{Greets}
use Rattle.ec_echo.specs.SoakDrills.{Soaked}
use Rattle.ec_echo.specs.Serving.{Served}
use Rattle.ec_echo.specs.Mounting.{MountsTable}
use Rattle.ec_echo.specs.Statuses.{of_drill, of_leases, of_mount}
use Rattle.ec_echo.specs.Words.{Spells}
use Rattle.ec_echo.specs.declared.command.Command.{Command}
use Rattle.ec_echo.specs.declared.command.Command.TheVariants.{Drill, Check, Make, Soak, Serve, Mount, Leases, MountTable}
use Rattle.ec_echo.specs.declared.status.Status.{Status}
use Rattle.ec_echo.specs.declared.status.Status.TheVariants as status
use Rattle.ec_echo.specs.Echo.{IsSourceUntouched, IsUntouched, Links, leasing, serving, mounting, Made}

-- What each form of words does. The lines that a drill wrote are lawful besides, also those of the drill of `soak`: they stand in one legal history of one uncached
-- volume. Over a plain script on a new disk a drill ends well, unless something outside of it fails. A refusal for
-- want of room tells counts within the number of objects, a counter that is spent is one that the disk keeps, and its servers serve no noted want before each open session has claimed or was ended.
abbrev pub DoesAlone : Command → Status → Outside → Type 0
DoesAlone (Drill most) st w = (end : drilled.Status) × (st ≡ of_drill end) × (did : Drilled most end w) × IsLawful most end w did × Completes most end w did × TellsRoom most end w did × TellsSpent most end w did × ClaimsComeFirst
DoesAlone (Check most) st w = Judged most st w.source w.sink × IsDiskUntouched w
DoesAlone (Make n) st w = Made n st w.sink.bytes w.sink.bytes_after w.sink.faults w.sink.faults_after × IsSourceUntouched w × IsDiskUntouched w
DoesAlone (Soak n) st w = Soaked n st w × IsSourceUntouched w
DoesAlone (Serve count) st w = ⊥
DoesAlone (Mount c) st w = ⊥
DoesAlone (Leases l e) st w = (end : leased.Status) × (st ≡ of_leases end) × LeaseDrilled l e end (leasing w)
DoesAlone (MountTable c) st w = ⊥

-- A server and mounts use the net, and the other forms don't. The boot is the number of this start of the process: a mounted clerk greets with it.
abbrev pub DoesForm : ℕ → List (List ℕ) → Command → Status → Outside → Links → Type 0
DoesForm boot words (Drill most) st w n = DoesAlone (Drill most) st w × (n.later ≡ n.before)
DoesForm boot words (Check most) st w n = DoesAlone (Check most) st w × (n.later ≡ n.before)
DoesForm boot words (Make number) st w n = DoesAlone (Make number) st w × (n.later ≡ n.before)
DoesForm boot words (Soak number) st w n = DoesAlone (Soak number) st w × (n.later ≡ n.before)
DoesForm boot words (Serve count) st w n = Served count st w.sink.bytes w.sink.bytes_after w.sink.faults w.sink.faults_after (serving w n) × IsSourceUntouched w
DoesForm boot words (Mount c) st w n = (end : mounted.Status) × (st ≡ of_mount end) × Mounts c boot end (mounting w n) × Greets c boot end (mounting w n).net (mounting w n).net_after × IsDiskUntouched w × StartsAs end n.before.starts n.later.starts
DoesForm boot words (Leases l e) st w n = DoesAlone (Leases l e) st w × (n.later ≡ n.before)
DoesForm boot words (MountTable c) st w n = (end : mounted.Status) × (st ≡ of_mount end) × MountsTable boot words c end w n

-- Words of no form touch nothing; any others do what they spell, with its causes and what was written.
abbrev pub Echoes : ℕ → List (List ℕ) → Status → Outside → Links → Type 0
Echoes boot words st w n =
    ((st ≡ status.Usage) × ((c : Command) → Spells words c → ⊥) × IsUntouched w × (n.later ≡ n.before))
    ⊎ ((c : Command) × Spells words c × DoesForm boot words c st w n)
