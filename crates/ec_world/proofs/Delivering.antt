-- A world's steps of its server: messages that are delivered to it, and ends of sessions.
use Rattle.std.proofs.Common.{◌≡◌, ◌⊎◌, inl, inr, ⊎_elim, ℕ, Bool, true, false, List, [], ◌∷◌, ◌++◌, Option, None, Some, Result, Ok, Err, refl, sym, ap, subst, ◌∙◌}
use Rattle.std.specs.Prelude.{OnOk, IfErr}
use Rattle.ec_base.specs.Tables.{at}
use Rattle.ec_base.specs.declared.counter.Counter.{Counter}
use Rattle.ec_disk.specs.Disk.{View, Counts}
use Rattle.ec_disk.specs.Effects.{Counted}
use Rattle.ec_durable.specs.Durable.{slot}
use Rattle.ec_durable.specs.declared.state.Durable.{Durable}
use Rattle.ec_sessions.specs.Slots.{is_open}
use Rattle.ec_stands.specs.Stands.{StandsFor}
use Rattle.ec_protocol.specs.OfPool.Pools.{Pooled, with_pool}
use Rattle.ec_protocol.specs.Server.{Serving}
use Rattle.ec_protocol.specs.Server as server
use Rattle.ec_protocol.specs.declared.server.Server.{Server as State}
use Rattle.ec_protocol.specs.declared.world.Sent.{Sent}
use Rattle.ec_protocol.specs.declared.world.World.{World as Moved}
use Rattle.ec_protocol.specs.declared.world.WorldFault.{WorldFault}
use Rattle.ec_protocol.specs.declared.world.WorldFault.TheVariants as fault
use Rattle.ec_protocol.specs.World.{Fate, runs, Moving, moving, fails, nothing, served, served_record, settled, deliver, to_server, end, is_for_server}
use Rattle.ec_server.specs.Servers.{standing}
use Rattle.ec_server.specs.declared.server.Server.{Server}
use Rattle.ec_store.specs.Store.{IsHeld, view_of as state_of}
use Rattle.ec_store.specs.declared.store.Store.{Store}
use Rattle.ec_clerk.specs.OfRunning.Faults.{of_step}
use Rattle.ec_marking.specs.Keeping.{Unchanged}
use Rattle.ec_marking.specs.Held.{held_stands}
use Rattle.ec_world.specs.Laws.{in_step_stands}
use Rattle.ec_world.specs.Serving.{serves, Breaks}
use Rattle.ec_world.specs.StepEnds.{Fated, RefusesEvent, IsLeft, as_before, under}
use Rattle.ec_world.specs.Worlds.{view_of, server_of, ServerStands, IsInStep, KeepsServer}
use Rattle.ec_clerk.specs.declared.running.fault.StepFault.{StepFault}
use Rattle.ec_clerk.specs.declared.running.fault.StepFault.TheVariants as step_fault
use Rattle.ec_world.specs.declared.world.World.{World}
use Rattle.ec_marking.proofs.Runs.{run_same}
use Rattle.ec_world.proofs.Served.{deliver_server}

-- A step that has no effect: the disk isn't called.
pub runs_to_nothing : (tells : Type 0) (old new : World) (counts : Counts) (steps : Fate → Moving) → steps runs ≡ nothing (view_of old) → under new ≡ nothing (view_of old) → KeepsServer old new
    → Fated tells (state_of old.store) (view_of old).shown counts counts old.choice steps (under new)
runs_to_nothing tells old new counts steps is shows same = (runs, run_same (state_of old.store) (state_of new.store) counts (ap state_of same.store), λ told. is ∙ sym shows, λ told. tt)

-- the same, where the running server was looked at
pub runs_to_nothing_on : (tells : Type 0) (old new : World) (v : Server) (counts : Counts) (steps : Fate → Moving) → old.server ≡ Some v → steps runs ≡ nothing (view_of old) → under new ≡ nothing (view_of (record old { server = Some v })) → KeepsServer (record old { server = Some v }) new
    → Fated tells (state_of old.store) (view_of old).shown counts counts old.choice steps (under new)
runs_to_nothing_on tells old new v counts steps running is shows same = runs_to_nothing tells old new counts steps is (shows ∙ ap (λ (x : World). nothing (view_of x)) as_was) (subst (λ (x : World). KeepsServer x new) as_was same)
  where
    as_was : record old { server = Some v } ≡ old
    as_was = ap (λ (o : Option Server). record old { server = o }) (sym running)

with_server : World → Option State → Moved
with_server w s = record (view_of w) { server = s }

-- A message is taken by the running server.

-- the world behind a step of the server, which isn't shown yet
abbrev pub behind_take : World → Store → Server → Pooled → World
behind_take w store v pool = record w { store = store; server = Some v; pool = pool }

pub deliver_is : (n : ℕ) (s : Sent) (w : World) (v v2 : Server) (store : Store) (pool : Pooled) → at n w.pool.pool ≡ Some s → is_for_server s ≡ true → w.server ≡ Some v → ((u : Moved) → settled n (with_pool w.pool u) ≡ with_pool pool u) → (fate : Fate)
    → deliver fate n (view_of w) ≡ served fate (server.take s.clerk s.msg (standing (state_of w.store) v)) (serves (Some (standing (state_of w.store) v)) (state_of w.store) (view_of (behind_take w store v2 pool)))
unfolding with_server
deliver_is n s w v v2 store pool is whose running settles fate =
    let d = state_of w.store in
    let step = server.take s.clerk s.msg (standing d v) in
    let runs_is : server_of d w.server ≡ Some (standing d v) = ap (server_of d) running in
    deliver_server fate n s (Some (standing d v)) (view_of w) is whose runs_is
    ∙ ap (served fate step) (settles (view_of w) ∙ ap (λ (o : Option State). with_pool pool (with_server w o)) runs_is)

pub deliver_nothing : (n : ℕ) (s : Sent) (w : World) → at n w.pool.pool ≡ Some s → is_for_server s ≡ true → w.server ≡ None → (fate : Fate) → deliver fate n (view_of w) ≡ nothing (view_of w)
deliver_nothing n s w is whose stopped fate = deliver_server fate n s None (view_of w) is whose (ap (server_of (state_of w.store)) stopped)

-- An end of a session.

end_by : Fate → ℕ → Option State → Bool → Moved → Moving
end_by fate c None b w = nothing w
end_by fate c (Some s) b w = elim b [ true ↦ served fate (server.end c s) w | false ↦ nothing w ]

abbrev pub behind_end : World → Store → Server → World
behind_end w store v = record w { store = store; server = Some v }

pub end_is : (c : ℕ) (w : World) (v v2 : Server) (store : Store) → is_open (slot (state_of w.store) c) ≡ true → w.server ≡ Some v → (fate : Fate)
    → end fate c (view_of w).server (view_of w) ≡ served fate (server.end c (standing (state_of w.store) v)) (serves (Some (standing (state_of w.store) v)) (state_of w.store) (view_of (behind_end w store v2)))
unfolding with_server end_by
end_is c w v v2 store opened running fate =
    let d = state_of w.store in
    let runs_is : server_of d w.server ≡ Some (standing d v) = ap (server_of d) running in
    ap (λ (o : Option State). end fate c o (with_server w o)) runs_is
    ∙ ap (λ (b : Bool). end_by fate c (Some (standing d v)) b (with_server w (Some (standing d v)))) opened

pub end_stopped : (c : ℕ) (w : World) → w.server ≡ None → (fate : Fate) → end fate c (view_of w).server (view_of w) ≡ nothing (view_of w)
end_stopped c w stopped fate = ap (λ (o : Option Server). end fate c (server_of (state_of w.store) o) (view_of w)) stopped

pub end_closed : (c : ℕ) (w : World) (v : Server) → is_open (slot (state_of w.store) c) ≡ false → w.server ≡ Some v → (fate : Fate) → end fate c (view_of w).server (view_of w) ≡ nothing (view_of w)
unfolding end_by
end_closed c w v closed running fate =
    let d = state_of w.store in
    ap (λ (o : Option Server). end fate c (server_of d o) (view_of w)) running
    ∙ ap (λ (b : Bool). end_by fate c (Some (standing d v)) b (view_of w)) closed

-- A counter that is spent.

served_spends : (done : Serving) (n : Counter) (u : Moved) → done.spent ≡ Some n → (served runs done u).fault ≡ Some (fault.Spent n)
served_spends done n u is =
    let by : Option Counter → Moving = λ o. elim o [ Some n ↦ fails (fault.Spent n) u | None ↦ served_record runs done.rec done u ] in
    ap (λ (o : Option Counter). (by o).fault) is

pub spends : (tells : Type 0) (now : View) (n : Counter) (done : Serving) (m : Moving) (u : Moved) (old new : World) (v v2 : Server) → m ≡ served runs done u → Unchanged tells done n old.store new.store now
    → standing (state_of new.store) v2 ≡ standing (state_of old.store) v → old.server ≡ Some v → new ≡ record old { store = new.store; server = Some v2 } → ServerStands (state_of new.store) (Some v2)
    → RefusesEvent (fault.Spent n) m (view_of old) (view_of new) (IsInStep tells now new)
spends tells now n done m u old new v v2 is unchanged same running new_is stands =
    (ap (λ (x : Moving). x.fault) is ∙ served_spends done n u unchanged.spent, same_view, in_step)
  where
    mid : World
    mid = record old { store = new.store; server = Some v2 }

    same_view : view_of new ≡ view_of old
    same_view =
        ap view_of new_is
        ∙ ap (λ (o : Option State). record (view_of mid) { server = o }) (ap (λ (x : State). Some x) same ∙ sym (ap (server_of (state_of old.store)) running))
        ∙ ap (λ (x : Durable). record (view_of old) { durable = x }) (ap state_of unchanged.store)

    in_step : IsInStep tells now new
    in_step = subst (λ (x : World). IsInStep tells now x) (sym new_is) (record { server = stands; disk = unchanged.held })

pub is_for_sent : (n : ℕ) (pool : Pooled) (m s : Sent) → at n pool.pool ≡ Some m → Some s ≡ at n pool.pool → is_for_server m ≡ true → is_for_server s ≡ true
is_for_sent n pool m s kept seen is = ap is_for_server (same_sent s m (seen ∙ kept)) ∙ is
  where
    same_sent : (s m : Sent) → ◌≡◌ {A = Option Sent} (Some s) (Some m) → s ≡ m
    same_sent s m e = cc

pub deliver_takes : (n : ℕ) (s : Sent) (w : World) (v : Server) → at n w.pool.pool ≡ Some s → is_for_server s ≡ true → w.server ≡ Some v → (fate : Fate)
    → deliver fate n (view_of w) ≡ served fate (server.take s.clerk s.msg (standing (state_of w.store) v)) (settled n (view_of w))
deliver_takes n s w v is whose running fate = deliver_server fate n s (Some (standing (state_of w.store) v)) (view_of w) is whose (ap (server_of (state_of w.store)) running)

-- What is left at a fault.

pub nothing_left : (tells : Type 0) (now : View) (w : World) (m : Moving) (image : List ℕ) → IsInStep tells now w → tells → now.may_leave image → IsLeft (state_of w.store) m image
nothing_left tells now w m image h told left = as_before (in_step_stands tells now w h told image left)

pub spent_left : (tells : Type 0) (now : View) (n : Counter) (done : Serving) (old new : Store) (m : Moving) (image : List ℕ) → Unchanged tells done n old new now → tells → now.may_leave image → IsLeft (state_of old) m image
spent_left tells now n done old new m image h told left = as_before (subst (λ (s : Store). StandsFor image (state_of s)) h.store (held_stands now new (h.held told) image left))

pub breaks_refuse : (f : StepFault) (m : Moving) (old new : Moved) (S : Type 0) → Breaks f → RefusesEvent (of_step f) m old new S
breaks_refuse step_fault.DiskFailed m old new S b = tt
breaks_refuse step_fault.NoMemory m old new S b = tt
breaks_refuse (step_fault.Spent n) m old new S b = absurd b
breaks_refuse step_fault.NoSuchOp m old new S b = absurd b
breaks_refuse step_fault.NoSuchMsg m old new S b = absurd b
