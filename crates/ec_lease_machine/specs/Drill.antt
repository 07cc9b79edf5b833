-- A run over the lines of a script with leases: each is an event, after which the world settles.
use Rattle.std.specs.Prelude.{◌+◌, ◌*◌, ℕ, zero, suc, nat_lt, Bool, true, false, List, [], ◌∷◌, ◌++◌, length, map, Option, None, Some, Result, Ok, Err}
use Rattle.ec_base.specs.Tables.{once}
use Rattle.ec_base.specs.declared.counter.Counter.{Counter}
use Rattle.ec_history.specs.declared.shown.Shown.TheVariants.{Unsettled, Spent}
use Rattle.ec_durable.specs.declared.state.Durable.{Durable}
use Rattle.ec_protocol.specs.World.{Fate, runs, find, forget, pending, show_line, open_world}
use Rattle.ec_protocol.specs.World as world
use Rattle.ec_protocol.specs.Drill.{Fates, this_fate, later_fates, first_fates, rest_fates, clerk_in, deliveries, max_pending, Ending, Done, BadLine, TooMany, IsSpent, last_line, status}
use Rattle.ec_protocol.specs.declared.script.Line.{Line}
use Rattle.ec_protocol.specs.declared.script.Line.TheVariants as line
use Rattle.ec_protocol.specs.declared.world.World.{World}
use Rattle.ec_protocol.specs.declared.world.Event.{Event}
use Rattle.ec_protocol.specs.declared.world.Event.TheVariants as of_world
use Rattle.ec_protocol.specs.declared.world.WorldFault.TheVariants as world_fault
use Rattle.ec_protocol.specs.OfPool.Goings.{due_but}
use Rattle.ec_lease_machine.specs.Leases.{LeaseMoving, fails, held, in_world, moved, moving, onward, opened_leases, step}
use Rattle.ec_lease_machine.specs.declared.script.LeaseLine.{LeaseLine}
use Rattle.ec_lease_machine.specs.declared.script.LeaseLine.TheVariants as lines
use Rattle.ec_lease_machine.specs.declared.world.LeaseEvent.{LeaseEvent}
use Rattle.ec_lease_machine.specs.declared.world.LeaseEvent.TheVariants as event
use Rattle.ec_lease_machine.specs.declared.world.LeaseFault.{LeaseFault}
use Rattle.ec_lease_machine.specs.declared.world.LeaseFault.TheVariants as fault
use Rattle.ec_lease_machine.specs.declared.world.LeaseShown.{LeaseShown}
use Rattle.ec_lease_machine.specs.declared.world.LeaseShown.TheVariants as show
use Rattle.ec_lease_machine.specs.declared.world.LeaseWorld.{LeaseWorld}

-- One line.

abbrev pub world_happens : Fate → Event → LeaseWorld → LeaseMoving
world_happens fate e x = step fate (event.World e) x

-- a message that a line names, where it's kept
abbrev pub on_message : Fate → (ℕ → Event) → Option ℕ → LeaseWorld → LeaseMoving
on_message fate f None x = fails (fault.World world_fault.NoSuchMsg) x
on_message fate f (Some n) x = world_happens fate (f n) x

-- the event of a drill's line; its number is that of its line
abbrev pub drill_line : Fate → ℕ → Line → LeaseWorld → LeaseMoving
drill_line fate number line.Comment x = moving x
drill_line fate number (line.Call c cl) x = world_happens fate (of_world.Call c number cl) x
drill_line fate number (line.Push c n) x = world_happens fate (of_world.Push c n) x
drill_line fate number (line.Cut c) x = world_happens fate (of_world.Cut c) x
drill_line fate number (line.Uncut c) x = world_happens fate (of_world.Uncut c) x
drill_line fate number (line.Drop c k n) x = on_message fate of_world.Drop (find c k n x.world) x
drill_line fate number (line.Repeat c k n) x = on_message fate of_world.Repeat (find c k n x.world) x
drill_line fate number (line.Deliver c k n) x = on_message fate of_world.Deliver (find c k n x.world) x
drill_line fate number (line.Resend c) x = world_happens fate (of_world.Resend c) x
drill_line fate number (line.Crash c) x = world_happens fate (of_world.Crash c) x
drill_line fate number (line.End c) x = world_happens fate (of_world.End c) x
drill_line fate number line.Stop x = world_happens fate of_world.Stop x
drill_line fate number (line.Arm n ch) x = world_happens fate (of_world.Arm n ch) x
drill_line fate number line.Restart x = world_happens fate of_world.Restart x

abbrev pub line_happens : Fate → ℕ → LeaseLine → LeaseWorld → LeaseMoving
line_happens fate number (lines.Drill l) x = drill_line fate number l x
line_happens fate number (lines.Tick n) x = step fate (event.Tick n) x
line_happens fate number (lines.Skew c s) x = step fate (event.Skew c s) x
line_happens fate number (lines.Grant c) x = step fate (event.Grant c) x
line_happens fate number (lines.Hand c n) x = step fate (event.Hand c n) x

-- Settling: the least message that can be delivered and isn't kept from a held clerk is, again and again, at most so many times. Leases are renewed
-- at the start and after each delivery.

abbrev pub renewed : LeaseMoving → LeaseMoving
renewed m = elim m.fault [ Some f ↦ m | None ↦ onward m (step runs event.Renew m.world) ]

abbrev pub delivered : Fate → ℕ → LeaseMoving → LeaseMoving
delivered fate n m = renewed (onward m (world_happens fate (of_world.Deliver n) m.world))

abbrev pub unsettled : LeaseMoving → LeaseMoving
unsettled m = onward m (moved (show_line Unsettled (world.moving m.world.world)) m.world)

abbrev pub due_now : LeaseWorld → Option ℕ
due_now x = due_but (held x) x.world

abbrev pub settle : ℕ → Fates → LeaseMoving → LeaseMoving
settle zero fates m = elim m.fault [ Some f ↦ m | None ↦ elim (due_now m.world) [ None ↦ m | Some n ↦ unsettled m ] ]
settle (suc k) fates m =
    elim m.fault [
      | Some f ↦ m
      | None ↦ elim (due_now m.world) [ None ↦ m | Some n ↦ settle k (later_fates fates) (delivered (this_fate fates) n m) ]
    ]

abbrev pub carry_out : ℕ → Fates → ℕ → LeaseLine → LeaseWorld → LeaseMoving
carry_out bound fates number l x = settle bound (later_fates fates) (renewed (line_happens (this_fate fates) number l x))

-- A script.

-- A line as it was read: the line with the column of its last word, or the column at which it doesn't fit.
pub data LeaseRead : Type 0 where
  reads : LeaseLine → ℕ → LeaseRead
  unfit : ℕ → LeaseRead

abbrev pub clerks_in : LeaseLine → List ℕ
clerks_in (lines.Drill l) = clerk_in l
clerks_in (lines.Tick n) = []
clerks_in (lines.Skew c s) = c ∷ []
clerks_in (lines.Grant c) = c ∷ []
clerks_in (lines.Hand c n) = c ∷ []

abbrev pub named_in : List LeaseRead → List ℕ
named_in [] = []
named_in (reads l col ∷ ls) = clerks_in l ++ named_in ls
named_in (unfit col ∷ ls) = named_in ls

-- how many messages are delivered after a line before it's unsettled
abbrev pub bound : List LeaseRead → ℕ
bound ls = deliveries * (length (once (named_in ls)) + 1)

-- the world, the lines shown in pieces, one for each line carried out, and the ending
pub record LeaseRan : Type 0 where
  pub world : LeaseWorld
  pub pieces : List (List LeaseShown)
  pub ending : Ending

abbrev pub lease_ending : ℕ → ℕ → LeaseFault → Ending
lease_ending number col (fault.World (world_fault.Spent n)) = IsSpent n
lease_ending number col _ = BadLine number col

abbrev pub ends : LeaseWorld → List LeaseShown → Ending → LeaseRan
ends x piece e = record { world = x; pieces = piece ∷ []; ending = e }

abbrev pub piece_before : List LeaseShown → LeaseRan → LeaseRan
piece_before piece r = record r { pieces = piece ∷ r.pieces }

abbrev pub forgotten : LeaseWorld → LeaseWorld
forgotten x = in_world (forget x.world) x

-- The lines from this number on, each with its fates.
abbrev pub run_from : ℕ → ℕ → List LeaseRead → List Fates → LeaseWorld → LeaseRan
run_from k number [] fs x = record { world = x; pieces = []; ending = Done }
run_from k number (unfit col ∷ ls) fs x = ends x [] (BadLine number col)
run_from k number (reads l col ∷ ls) fs x =
    let m = carry_out k (first_fates fs) number l x in
    elim m.fault [
      | Some f ↦ ends m.world m.shown (lease_ending number col f)
      | None ↦ elim (nat_lt max_pending (pending m.world.world)) [
        | true ↦ ends m.world m.shown (TooMany (pending m.world.world))
        | false ↦ piece_before m.shown (run_from k (number + 1) ls (rest_fates fs) (forgotten m.world))
      ]
    ]

-- At the end a stopped server is restarted, on a disk that isn't armed; but not behind a spent counter.
abbrev pub is_stopped : LeaseRan → Bool
is_stopped r = elim r.world.world.server [ None ↦ true | Some s ↦ false ]

abbrev pub last_restart : LeaseRan → LeaseRan
last_restart r =
    let m = world_happens runs of_world.Restart r.world in
    elim m.fault [ Some f ↦ record r { ending = lease_ending 0 0 f } | None ↦ record r { world = m.world; pieces = r.pieces ++ m.shown ∷ [] } ]

abbrev pub close : Ending → LeaseRan → LeaseRan
close (IsSpent n) r = r
close _ r = elim (is_stopped r) [ true ↦ last_restart r | false ↦ r ]

abbrev pub joined_lease : List (List LeaseShown) → List LeaseShown
joined_lease [] = []
joined_lease (piece ∷ more) = piece ++ joined_lease more

-- A drill with leases on a disk that stands for this state: its lines, the last one, and its status.

abbrev pub drill_in : ℕ → ℕ → List LeaseRead → List Fates → Result World Counter → List LeaseShown × ℕ
drill_in l e ls fs (Err n) = (show.Line (Spent n) ∷ [], status (IsSpent n))
drill_in l e ls fs (Ok w) =
    let ran = run_from (bound ls) 1 ls fs (opened_leases l e w) in
    let r = close ran.ending ran in
    (joined_lease r.pieces ++ map show.Line (last_line r.ending), status r.ending)

abbrev pub drill : ℕ → ℕ → List LeaseRead → List Fates → Durable → List LeaseShown × ℕ
drill l e ls fs d = drill_in l e ls fs (open_world d)
