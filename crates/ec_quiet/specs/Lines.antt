-- The first step of a line and its end, in the world and in its scene, as contracts name them.
use Rattle.std.specs.Prelude.{◌≡◌, ◌⊎◌, ◌+◌, ℕ, true, [], None, Some, Ok}
use Rattle.ec_base.specs.Tables.{at}
use Rattle.ec_plain.specs.declared.call.Call.{Call}
use Rattle.ec_durable.specs.Durable.{formatted}
use Rattle.ec_protocol.specs.Clerk.{begin, has_issued, push, start}
use Rattle.ec_protocol.specs.World as world
use Rattle.ec_protocol.specs.World.{boot, call, forget, open_world, pending}
use Rattle.ec_protocol.specs.declared.clerk.Clerk.{Clerk}
use Rattle.ec_protocol.specs.declared.world.World.{World}
use Rattle.ec_quiet.specs.Quiet.{IsQuiet}
use Rattle.ec_quiet.specs.Scenes.{IsScene, Scene, done_by}
use Rattle.ec_quiet.specs.First.{start_calling}

-- A call of a clerk that doesn't run: it starts with its next boot, and calls in the same step.
abbrev pub StartsKeepScenes : Type 0
StartsKeepScenes = (w : World) (sc : Scene) (c line : ℕ) (cl : Call) → IsScene w sc → at c w.clerks ≡ None → let b = boot c w + 1 in (start c b).spent ≡ None → (begin cl (start c b).clerk).spent ≡ None
    → ((call c line cl w).fault ≡ None) × IsScene (call c line cl w).world (done_by c (start_calling c b cl) sc.mail sc)

-- A call of a clerk that runs, where no counter is spent.
abbrev pub CallsAreCarriedOut : Type 0
CallsAreCarriedOut = (w : World) (sc : Scene) (c line : ℕ) (cl : Call) (k : Clerk) → IsScene w sc → at c w.clerks ≡ Some k → (begin cl k).spent ≡ None
    → ((call c line cl w).fault ≡ None) × IsScene (call c line cl w).world (done_by c (begin cl k) sc.mail sc)

-- A push of an operation that the start issued: of one that's durable already only a line says so.
abbrev pub PushesKeepScenes : Type 0
PushesKeepScenes = (w : World) (sc : Scene) (c n : ℕ) (k : Clerk) → IsScene w sc → at c w.clerks ≡ Some k → has_issued n k ≡ true → (push n k).spent ≡ None
    → ((world.push c n (Some k) w).fault ≡ None) × (IsScene (world.push c n (Some k) w).world (done_by c (push n k) sc.mail sc) ⊎ IsScene (world.push c n (Some k) w).world sc)

-- Where nothing is under way, nothing is pending, and old messages may be forgotten.
abbrev pub EndsKeepScenes : Type 0
EndsKeepScenes = (w : World) (sc : Scene) → IsScene w sc → sc.mail ≡ [] → (pending w ≡ 0) × IsScene (forget w) sc

-- A world that is opened on a new disk is quiet.
abbrev pub OpeningsAreQuiet : Type 0
OpeningsAreQuiet = (most : ℕ) (w : World) → open_world (formatted most) ≡ Ok w → IsQuiet w
