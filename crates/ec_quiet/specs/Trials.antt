-- Scripts without faults, on which the definitions are tried: in each state of a line that settles its work is in a phase, each delivery lowers the measure,
-- and behind the line all is quiet.
use Rattle.std.specs.Prelude.{◌==◌, ◌+◌, ◌-◌, ℕ, zero, suc, Bool, true, false, not, ◌&&◌, nat_le, List, [], ◌∷◌, ◌++◌, filter, length, Option, None, Some}
use Rattle.std.specs.List.{list_all}
use Rattle.ec_base.specs.Tables.{Table, at}
use Rattle.ec_base.specs.Holds.{is_write}
use Rattle.ec_volume.specs.Update.{member}
use Rattle.ec_volume.specs.Volume.{Images, images}
use Rattle.ec_volume.specs.declared.image.Image.{Image}
use Rattle.ec_plain.specs.Plain.{plain}
use Rattle.ec_plain.specs.declared.call.Call.{Call}
use Rattle.ec_durable.specs.Durable.{formatted}
use Rattle.ec_cache.specs.declared.state.Held.{Held}
use Rattle.ec_protocol.specs.Drill.{Read, carry_out, reads, unfit, line_happens}
use Rattle.ec_protocol.specs.Server.{start}
use Rattle.ec_protocol.specs.World.{due, deliver, forget, new_world, runs}
use Rattle.ec_protocol.specs.declared.clerk.Clerk.{Clerk}
use Rattle.ec_protocol.specs.declared.script.Line.{Line}
use Rattle.ec_protocol.specs.declared.script.Line.TheVariants as line
use Rattle.ec_protocol.specs.declared.server.Server.{Server}
use Rattle.ec_protocol.specs.declared.world.World.{World}
use Rattle.ec_quiet.specs.Measure.{measure}
use Rattle.ec_quiet.specs.Phases.{Phase}
use Rattle.ec_quiet.specs.Scenes.{Scene, mail_of}
use Rattle.ec_quiet.specs.Tests.{is_idle, is_phase, phase_of}
use Rattle.ec_quiet.specs.Works.{Task, Calls, Pushes, Work}

-- The work of a line.

abbrev pub written : ℕ → Image → Option Held → Image
written x i None = i
written x i (Some h) = elim (is_write h.hold) [ true ↦ h.image | false ↦ i ]

-- what is kept: the server's volume, but where a clerk may have written
abbrev pub kept_by : Table Clerk → Images → Images
kept_by [] v x = v x
kept_by (e ∷ es) v x = written x (kept_by es v x) (at x (e.1).cache.held)

abbrev pub front : List ℕ → List ℕ
front [] = []
front (x ∷ xs) = x ∷ []

abbrev pub ids_in : Option Clerk → List ℕ
ids_in None = []
ids_in (Some k) = front k.ids

abbrev pub touched_by : Call → Table Clerk → Server → Option Clerk → List ℕ
touched_by cl clerks v k = filter (λ x. not (x == 0)) (plain (kept_by clerks (images v.durable.volume)) cl 0).touched ++ ids_in k

abbrev pub session_of : Server → Option Clerk → ℕ
session_of v None = v.durable.next_session
session_of v (Some k) = elim k.session [ None ↦ v.durable.next_session | Some s ↦ s ]

abbrev pub work_of : Server → Table Clerk → Line → Option Work
work_of v clerks (line.Call c cl) = Some (record { clerk = c; session = session_of v (at c clerks); task = Calls cl; touched = touched_by cl clerks v (at c clerks); number = v.number })
work_of v clerks (line.Push c n) = Some (record { clerk = c; session = session_of v (at c clerks); task = Pushes n; touched = []; number = v.number })
work_of v clerks _ = None

-- One line.

abbrev pub scene_of : Server → World → Scene
scene_of v w = record { server = v; clerks = w.clerks; mail = mail_of w.pool w.pending }

-- the phase holds, with at most this measure; then comes what is said of its measure
abbrev pub in_phase : Work → Scene → Option Phase → ℕ → (ℕ → Bool) → Bool
in_phase j sc None most next = false
in_phase j sc (Some p) most next =
    let m = measure j sc p in
    elim (is_phase j sc p && nat_le m most) [ true ↦ next m | false ↦ false ]

-- behind a delivery, which lowered the measure
abbrev pub settles : ℕ → Work → ℕ → World → Option Server → Bool
settles zero j most w v = false
settles (suc fuel) j most w None = false
settles (suc fuel) j most w (Some v) =
    let sc = scene_of v w in
    in_phase j sc (phase_of j sc) most (λ m. elim (due w) [
      | None ↦ is_idle sc
      | Some n ↦
          let u = (deliver runs n w).world in
          nat_le 32 m && settles fuel j (m - 32) u u.server
    ])

-- so many deliveries behind a line, and no more
abbrev pub fuel : ℕ
fuel = 400

abbrev pub line_settles : Option Work → World → Bool
line_settles None w = true
line_settles (Some j) w = settles fuel j 262144 w w.server

abbrev pub works_in : Option Server → Table Clerk → Line → Option Work
works_in None clerks l = None
works_in (Some v) clerks l = work_of v clerks l

-- each line of the script settles so, and the machine carries it out
abbrev pub lines_settle : ℕ → List Read → World → Bool
lines_settle n [] w = true
lines_settle n (unfit column ∷ ls) w = false
lines_settle n (reads l column ∷ ls) w =
    line_settles (works_in w.server w.clerks l) (line_happens runs n l w).world && lines_settle (n + 1) ls (forget (carry_out fuel [] n l w).world)

-- the script settles so, on a disk formatted for so many objects
abbrev pub settles_well : ℕ → List Read → Bool
settles_well most ls = lines_settle 1 ls (new_world (start (formatted most)).server [])
