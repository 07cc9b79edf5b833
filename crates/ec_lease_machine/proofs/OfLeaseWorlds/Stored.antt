-- The end of a run over a script with leases: the server runs, but behind a spent counter, and the volume in store has the shape that the operations leave
-- which durable lines name.
use Rattle.std.proofs.Common.{◌≡◌, ◌+◌, ◌++◌, refl, sym, ap, subst, ◌∙◌, inl, inr, ◌⊎◌, ◌≤◌, ℕ, T, Bool, true, false, not, length, List, [], ◌∷◌, Option, Some, None}
use Rattle.std.specs.Prelude.{is_some, map, Ok}
use Rattle.std.specs.List.{list_any}
use Rattle.ec_base.specs.Tables.{at, at_or, put}
use Rattle.ec_base.specs.declared.counter.Counter.{Counter}
use Rattle.ec_base.proofs.Options.{none_some}
use Rattle.ec_plain.specs.declared.call.Call.{Call}
use Rattle.ec_volume.specs.Image.{is_gone}
use Rattle.ec_volume.specs.Volume as volume
use Rattle.ec_volume.specs.Volume.{images}
use Rattle.ec_volume.specs.declared.image.Image.TheVariants.{Gone}
use Rattle.ec_history.specs.History.{Each}
use Rattle.ec_history.specs.Lines.{IsStored}
use Rattle.ec_history.specs.declared.shown.Shown.{Shown}
use Rattle.ec_history.specs.declared.shown.Shown.TheVariants as show
use Rattle.ec_durable.specs.WellFormed.{WellFormed}
use Rattle.ec_durable.specs.declared.record.Record.TheVariants as record_of
use Rattle.ec_durable.specs.declared.state.Durable.{Durable}
use Rattle.ec_protocol.specs.Clerk.{begin}
use Rattle.ec_protocol.specs.Server as server
use Rattle.ec_protocol.specs.World as world
use Rattle.ec_protocol.specs.World.{Moving, clerks, moving, open_world, restart, restart_server, runs}
use Rattle.ec_protocol.specs.Resumes.{resume, resume_on}
use Rattle.ec_protocol.specs.Drill.{Ending, Fates, Done, BadLine, TooMany, IsSpent}
use Rattle.ec_protocol.specs.declared.clerk.Clerk.{Clerk}
use Rattle.ec_protocol.specs.declared.server.Server.{Server}
use Rattle.ec_protocol.specs.declared.world.Event.TheVariants as of_world
use Rattle.ec_protocol.specs.declared.world.Noted.{Noted}
use Rattle.ec_protocol.specs.declared.world.Noted.TheVariants as noted_of
use Rattle.ec_protocol.specs.declared.world.World.{World}
use Rattle.ec_protocol.specs.declared.world.WorldFault.{WorldFault}
use Rattle.ec_protocol.specs.declared.world.WorldFault.TheVariants as world_fault
use Rattle.ec_coherence.proofs.ForServer.Tables.{same_some}
use Rattle.ec_lawful.specs.Headline.{IsGreatest, placed_on}
use Rattle.ec_lawful.proofs.ForWhole.Outs.{came-out}
use Rattle.ec_lawful.proofs.ForWhole.Pool.{sends-all}
use Rattle.ec_lawful.proofs.PlacesServe.{disk-there}
use Rattle.ec_lawful.proofs.Stored.{show-lawfully}
use Rattle.ec_lease_machine.specs.Drill.{LeaseRan, LeaseRead, bound, close, joined_lease, last_restart, lease_ending, run_from, world_happens}
use Rattle.ec_lease_machine.specs.Leases.{LeaseMoving, begin_each, begin_queued, fails, in_world, is_held, is_started, moved, note_open, noted_if_started, onward, opened_leases, shows, with_queue}
use Rattle.ec_lease_machine.specs.OfLeaseWorlds.Lines.{lease_run, unheld}
use Rattle.ec_lease_machine.specs.OfLeaseWorlds.Runs.{IsFit}
use Rattle.ec_lease_machine.specs.OfQueues.Reached.{QueuedReached}
use Rattle.ec_lease_machine.specs.declared.world.LeaseFault.{LeaseFault}
use Rattle.ec_lease_machine.specs.declared.world.LeaseFault.TheVariants as fault
use Rattle.ec_lease_machine.specs.declared.world.LeaseShown.TheVariants.{Line}
use Rattle.ec_lease_machine.specs.declared.world.LeaseWorld.{LeaseWorld}
use Rattle.ec_lease_machine.proofs.OfLeaseLaws.Steps.{begun}
use Rattle.ec_lease_machine.proofs.OfLeaseWorlds.Reaching.{note-leaves}
use Rattle.ec_lease_machine.proofs.OfLeaseWorlds.Runs.{IsUnspent, runs-reached}
use Rattle.ec_lease_machine.proofs.OfLeaseWorlds.Coming.{resume-spent}
use Rattle.ec_lease_machine.proofs.OfQueues.Worlds.{queued-stands}

-- Queued calls leave the server.

resume-server : (c l : ℕ) (cl : Call) (w : World) → (resume c l cl w).world.server ≡ w.server
resume-server c l cl w = by (at c w.clerks)
  where
    goes : (k : Clerk) (o : Option Counter) → let m = moving (world.add_call c (k.calls + 1) l cl w) in
        (elim o as (λ z. Moving) [ Some n ↦ world.fails (world_fault.Spent n) m.world | None ↦ world.come_out c (begin cl k).outs (world.with_world (λ v. record v { clerks = put c (begin cl k).clerk v.clerks }) m) ]).world.server ≡ w.server
    goes k (Some n) = refl
    goes k None = (came-out c (begin cl k).outs (world.with_world (λ v. record v { clerks = put c (begin cl k).clerk v.clerks }) (moving (world.add_call c (k.calls + 1) l cl w)))).server

    begins : (k : Clerk) (o : Option Counter) → (elim o as (λ z. Moving) [ Some n ↦ world.fails (world_fault.Spent n) w | None ↦ world.clerk_does c (begin cl k) (moving (world.add_call c (k.calls + 1) l cl w)) ]).world.server ≡ w.server
    begins k (Some n) = refl
    begins k None = goes k (begin cl k).spent

    by : (o : Option Clerk) → (resume_on c l cl o w).world.server ≡ w.server
    by None = refl
    by (Some k) = begins k (begin cl k).spent

-- steps that left this server, and have no fault but that a counter is spent
record Leaves (v : Option Server) (m : LeaseMoving) : Type 0 where
  server : m.world.world.server ≡ v
  spent : (f : LeaseFault) → m.fault ≡ Some f → (n : Counter) × (f ≡ fault.World (world_fault.Spent n))

each-leaves : (v : Option Server) (c : ℕ) (qs : List (ℕ × Call)) (m : LeaseMoving) → Leaves v m → Leaves v (begin_each c qs m)
each-leaves v c [] m l = record { server = l.server; spent = l.spent }
each-leaves v c (q ∷ qs) m l = by (is_held c m.world) (λ x y. each-leaves v c qs x y)
  where
    r : Moving
    r = resume c q.0 q.1 m.world.world

    of : (o : Option WorldFault) → r.fault ≡ o → Leaves v (onward m (elim o as (λ z. LeaseMoving) [ Some f ↦ fails (fault.World f) m.world | None ↦ shows (map Line r.shown) (in_world r.world m.world) ]))
    of (Some f) p = record { server = l.server; spent = λ g e. resume-spent c q.0 q.1 m.world.world f p (λ n is. (n, sym (same_some e) ∙ ap fault.World is)) }
    of None p = record { server = resume-server c q.0 q.1 m.world.world ∙ l.server; spent = λ g e. absurd (none_some e) }

    now : Leaves v (begun c q m)
    now = of r.fault refl

    on : (Leaves v (begun c q m) → Leaves v (begin_each c qs (begun c q m))) → (o : Option LeaseFault) → Leaves v (elim o as (λ k. LeaseMoving) [ Some e ↦ begun c q m | None ↦ begin_each c qs (begun c q m) ])
    on more (Some e) = now
    on more None = more now

    by : (z : Bool) → ((x : LeaseMoving) → Leaves v x → Leaves v (begin_each c qs x))
        → Leaves v (elim z as (λ y. LeaseMoving) [ true ↦ record m { world = with_queue c (q ∷ qs) m.world } | false ↦ elim (begun c q m).fault as (λ k. LeaseMoving) [ Some e ↦ begun c q m | None ↦ begin_each c qs (begun c q m) ] ])
    by true more = record { server = l.server; spent = l.spent }
    by false more = on (more (begun c q m)) (begun c q m).fault

queued-leaves : (v : Option Server) (cs : List ℕ) (m : LeaseMoving) → Leaves v m → Leaves v (begin_queued cs m)
queued-leaves v [] m l = l
queued-leaves v (c ∷ cs) m l = by m.fault (λ x y. queued-leaves v cs x y)
  where
    gone : LeaseMoving
    gone = begin_each c (at_or [] c m.world.queued) m

    by : (o : Option LeaseFault) → ((x : LeaseMoving) → Leaves v x → Leaves v (begin_queued cs x)) → Leaves v (elim o as (λ z. LeaseMoving) [ Some f ↦ m | None ↦ begin_queued cs gone ])
    by (Some f) more = l
    by None more = more gone (each-leaves v c (at_or [] c m.world.queued) m l)

-- and had no fault before them, if they have none
queued-fault : (cs : List ℕ) (m : LeaseMoving) → (begin_queued cs m).fault ≡ None → m.fault ≡ None
queued-fault [] m e = e
queued-fault (c ∷ cs) m e = by m.fault refl e
  where
    by : (o : Option LeaseFault) → m.fault ≡ o → (elim o as (λ z. LeaseMoving) [ Some f ↦ m | None ↦ begin_queued cs (begin_each c (at_or [] c m.world.queued) m) ]).fault ≡ None → m.fault ≡ None
    by (Some f) p e = e
    by None p e = p

-- A restart brings the server up, or spends a counter.

abbrev ComesUp : World → Moving → Type 0
ComesUp w r = ((n : Counter) × (r ≡ world.fails (world_fault.Spent n) w)) ⊎ ((r.fault ≡ None) × T (is_some r.world.server))

restart-up : (w : World) → ComesUp w (restart runs w)
restart-up w = by (server.start w.durable).spent
  where
    found : (o : Option Noted) → (world.show_noted o (moving w)).fault ≡ None
    found None = refl
    found (Some (noted_of.Durable c ns)) = refl
    found (Some (noted_of.Ended c b)) = refl

    up : T (is_some (world.restarted runs (server.start w.durable) w).world.server)
    up =
        let t = server.start w.durable in
        let shown = (world.show_line show.Started (world.show_noted w.unshown (moving w))).world in
        let x = record shown { unshown = None; records = shown.records ++ record_of.Epoch t.server.durable.epoch ∷ [] } in
        subst (λ o. T (is_some o)) (sym (sends-all t.sent (record x { server = Some t.server; durable = t.server.durable })).server) tt

    by : (o : Option Counter) → ComesUp w (elim o as (λ z. Moving) [ Some n ↦ world.fails (world_fault.Spent n) w | None ↦ world.restarted runs (server.start w.durable) w ])
    by (Some n) = inl (n, refl)
    by None = inr (found w.unshown, up)

record Restarts (m : LeaseMoving) : Type 0 where
  after : Option Server
  leaves : Leaves after m
  up : m.fault ≡ None → T (is_some after)

last-restarts : (x : LeaseWorld) → x.world.server ≡ None → Restarts (world_happens runs of_world.Restart x)
last-restarts x down = subst Restarts (ap (λ o. begin_queued clerks (noted_if_started (moved (restart_server runs o x.world) x))) (sym down)) (queued (by (restart-up x.world)))
  where
    r : Moving
    r = restart runs x.world

    queued : Restarts (noted_if_started (moved r x)) → Restarts (begin_queued clerks (noted_if_started (moved r x)))
    queued s = record { after = s.after; leaves = queued-leaves s.after clerks (noted_if_started (moved r x)) s.leaves; up = λ e. s.up (queued-fault clerks (noted_if_started (moved r x)) e) }

    noted : (o : Option Server) (y : LeaseWorld) → (note_open o y).world ≡ y.world
    noted None y = refl
    noted (Some v) y = (note-leaves 0 v.durable.sessions y).0

    -- one that came up
    y : LeaseMoving
    y = shows (map Line r.shown) (in_world r.world x)

    came : T (is_some r.world.server) → (z : Bool) → Restarts (elim z as (λ k. LeaseMoving) [ true ↦ record y { world = note_open y.world.world.server y.world } | false ↦ y ])
    came up true = record { after = r.world.server; leaves = record { server = ap (λ w. w.server) (noted y.world.world.server y.world); spent = λ f e. absurd (none_some e) }; up = λ e. up }
    came up false = record { after = r.world.server; leaves = record { server = refl; spent = λ f e. absurd (none_some e) }; up = λ e. up }

    is-moved : r.fault ≡ None → moved r x ≡ y
    is-moved none = ap (λ o. elim o as (λ z. LeaseMoving) [ Some f ↦ fails (fault.World f) x | None ↦ y ]) none

    by : ComesUp x.world r → Restarts (noted_if_started (moved r x))
    by (inl (n, is)) = subst (λ m. Restarts (noted_if_started (moved m x))) (sym is) (record {
      after = x.world.server;
      leaves = record { server = refl; spent = λ f e. (n, sym (same_some e)) };
      up = λ e. absurd (none_some (sym e));
    })
    by (inr (none, up)) = subst (λ m. Restarts (noted_if_started m)) (sym (is-moved none)) (came up (list_any is_started y.shown))

-- so it runs at the end
close-up : (r : LeaseRan) → IsUnspent (close r.ending r).ending → T (is_some (close r.ending r).world.world.server)
close-up r = by r.ending refl
  where
    m : LeaseMoving
    m = world_happens runs of_world.Restart r.world

    last : Restarts m → (o : Option LeaseFault) → m.fault ≡ o → let x = elim o as (λ y. LeaseRan) [ Some f ↦ record r { ending = lease_ending 0 0 f } | None ↦ record r { world = m.world; pieces = r.pieces ++ m.shown ∷ [] } ] in IsUnspent x.ending → T (is_some x.world.world.server)
    last z (Some f) p u = absurd (subst (λ g. IsUnspent (lease_ending 0 0 g)) ((z.leaves).spent f p).1 u)
    last z None p u = subst (λ o. T (is_some o)) (sym (z.leaves).server) (z.up p)

    stopped : (o : Option Server) → r.world.world.server ≡ o → let x = elim (elim o as (λ z. Bool) [ None ↦ true | Some s ↦ false ]) as (λ z. LeaseRan) [ true ↦ last_restart r | false ↦ r ] in IsUnspent x.ending → T (is_some x.world.world.server)
    stopped (Some s) q u = subst (λ o. T (is_some o)) (sym q) tt
    stopped None q u = last (last-restarts r.world q) m.fault refl u

    by : (e : Ending) → r.ending ≡ e → IsUnspent (close e r).ending → T (is_some (close e r).world.world.server)
    by (IsSpent n) q u = absurd (subst IsUnspent q u)
    by Done q u = stopped r.world.world.server refl u
    by (BadLine n k) q u = stopped r.world.world.server refl u
    by (TooMany n) q u = stopped r.world.world.server refl u

-- The volume in store.
module _ (d : Durable) (wf : WellFormed d) (sixteen : length d.sessions ≡ 16) (unmade : images d.volume 0 ≡ Gone) (top : ℕ) (greatest : IsGreatest (images d.volume) top) where
  abbrev Stored : List Shown → Durable → Type 0
  Stored ss end = volume.WellFormed (images end.volume) × IsStored (placed_on (images d.volume) top) ss (images end.volume)

  world-stored : (w : World) → QueuedReached d w → T (is_some w.server) → Stored w.shown w.durable
  world-stored w r up =
      let h = queued-stands d wf sixteen unmade w r in
      let g = h.0 in
      let f = h.1 in
      let all = (f.whole).all in
      let above = subst (λ o. (x : ℕ) → T (not (is_gone (o x))) → x ≤ top) (sym f.origin) greatest.least in
      let lawful = show-lawfully g all ((f.whole).shows).tells in
      let there = disk-there g top ((f.whole).shows).fresh (all.0).images.origin above (images g.durable.volume) lawful.stored in
      let same : g.durable ≡ w.durable = sym ((h.2).up (subst (λ o. T (is_some o)) (h.2).server up)) in
      subst (Stored w.shown) same (
        lawful.formed,
        subst (λ ss. IsStored (placed_on (images d.volume) top) ss (images g.durable.volume)) (sym (h.2).shown)
            (subst (λ o. IsStored (placed_on o top) g.ghost.shown (images g.durable.volume)) f.origin there),
      )

  pub runs-stored : (script : List LeaseRead) (w : World) → open_world d ≡ Ok w → (l e : ℕ) (fs : List Fates) → Each IsFit script → IsUnspent (lease_run l e script fs w).ending
      → Stored (unheld (joined_lease (lease_run l e script fs w).pieces)) (lease_run l e script fs w).world.world.durable
  runs-stored script w q l e fs fit unspent =
      let r = lease_run l e script fs w in
      let s = runs-reached d wf sixteen unmade script w q l e fs fit in
      subst (λ ss. Stored ss r.world.world.durable) s.1 (world-stored r.world.world s.0 (close-up (run_from (bound script) 1 script fs (opened_leases l e w)) unspent))
