-- A restart of a stopped server, over what came of its start.
use Rattle.std.proofs.Common.{◌≡◌, ◌⊎◌, inl, ℕ, Bool, true, false, List, Option, None, Some, refl, sym, ap, subst, ◌∙◌}
use Rattle.std.specs.Prelude.{is_some}
use Rattle.ec_base.specs.declared.counter.Counter.{Counter}
use Rattle.ec_disk.specs.Disk.{View, Counts}
use Rattle.ec_disk.specs.Effects.{Counted}
use Rattle.ec_durable.specs.declared.state.Durable.{Durable}
use Rattle.ec_protocol.specs.Server.{Serving}
use Rattle.ec_protocol.specs.World.{Fate, runs, Moving, nothing, restart, restart_server}
use Rattle.ec_protocol.specs.declared.server.Served.{Served}
use Rattle.ec_server.specs.declared.server.Server.{Server}
use Rattle.ec_stands.specs.Stands.{StandsFor}
use Rattle.ec_store.specs.Store.{view_of as state_of}
use Rattle.ec_store.specs.declared.store.Store.{Store}
use Rattle.ec_world.proofs.Finish.{finished}
use Rattle.ec_clerk.specs.OfRunning.Faults.{of_step}
use Rattle.ec_marking.specs.Keeping.{Unchanged, HasStoppedIn, RunsIn}
use Rattle.ec_marking.specs.Held.{held_stands}
use Rattle.ec_world.specs.Laws.{in_step_stands}
use Rattle.ec_world.specs.Serving.{serves, CameUp, StopsUp, Finishes, ArmsBehind}
use Rattle.ec_world.specs.StepEnds.{Fated, IsLeft, under}
use Rattle.ec_world.specs.Worlds.{view_of, server_of, IsInStep}
use Rattle.ec_clerk.specs.declared.running.fault.StepFault.TheVariants as step_fault
use Rattle.ec_marking.specs.declared.keeping.Came.{Came}
use Rattle.ec_world.specs.declared.world.World.{World}

-- a server that runs isn't started again
pub restart_nothing : (w : World) → is_some w.server ≡ true → restart_server runs (view_of w).server (view_of w) ≡ nothing (view_of w)
restart_nothing w running = go w.server running
  where
    go : (o : Option Server) → is_some o ≡ true → restart_server runs (server_of (state_of w.store) o) (view_of w) ≡ nothing (view_of w)
    go None is = absurd (apart is)
      where
        apart : false ≡ true → ⊥
        apart e = cc
    go (Some v) is = refl

-- the machine's restart, over the store that the start left
restart_is : (fate : Fate) (w : World) (s : Store) → w.server ≡ None → restart_server fate (view_of w).server (view_of w) ≡ restart fate (serves None (state_of w.store) (view_of (record w { store = s })))
restart_is fate w s none =
    let d = state_of w.store in
    ap (λ (o : Option Server). restart_server fate (server_of d o) (serves (server_of d o) d (view_of w))) none

pub restart_finishes : (tells F G : Type 0) (w : World) (s : Store) (new : World) (now : View) (x : Came (Server × Served)) (a b c : Counts) → w.server ≡ None → CameUp tells (state_of w.store) (record w { store = s }) now x → StopsUp tells (state_of w.store) a.armed now x
    → ((d : Durable) (armed : Option ℕ) → CameUp tells d (record w { store = s }) now x → StopsUp tells d armed now x → Finishes tells (HasStoppedIn x) w.choice armed (view_of w).shown (λ fate. restart fate (serves None d (view_of (record w { store = s })))) (under new))
    → Counted a b F (HasStoppedIn x) → Counted b c G ⊥ → RunsIn x (state_of w.store) (state_of s) a b → ArmsBehind x (state_of s) (state_of new.store) b.armed c.armed → Fated tells (state_of w.store) (view_of w).shown a c w.choice (λ fate. restart_server fate (view_of w).server (view_of w)) (under new)
restart_finishes tells F G w s new now x a b c none came at up one two ran arms =
    let d = state_of w.store in
    finished x tells F G d (state_of s) a b c w.choice (view_of w).shown (λ fate. restart fate (serves None d (view_of (record w { store = s })))) (λ fate. restart_server fate (view_of w).server (view_of w)) (under new) (up d a.armed came at) (λ fate. restart_is fate w s none) one two ran arms

pub restart_left : (w : World) (s : Store) (image : List ℕ) → w.server ≡ None → IsLeft (state_of w.store) (restart runs (serves None (state_of w.store) (view_of (record w { store = s })))) image → IsLeft (state_of w.store) (restart_server runs (view_of w).server (view_of w)) image
restart_left w s image none h = subst (λ (m : Moving). IsLeft (state_of w.store) m image) (sym (restart_is runs w s none)) h
