-- Steps with leases, and what settles behind them: each of the worlds is reached, its lines are told, and what deliveries and queued calls keep holds.
use Rattle.std.proofs.Common.{◌≡◌, refl, sym, ap, subst, ◌∙◌, inl, inr, ◌⊎◌, ◌+◌, ◌-◌, ℕ, suc, zero, Bool, true, false, length, List, [], ◌∷◌, ◌++◌, Option, Some, None, append-nil, append_assoc}
use Rattle.std.specs.Prelude.{map, nat_lt, ⊤}
use Rattle.std.specs.List.{list_any}
use Rattle.ec_base.specs.Tables.{at, at_or, put}
use Rattle.ec_base.specs.declared.counter.Counter.{Counter}
use Rattle.ec_plain.specs.declared.call.Call.{Call}
use Rattle.ec_volume.specs.Volume.{images}
use Rattle.ec_volume.specs.declared.image.Image.TheVariants.{Gone}
use Rattle.ec_history.specs.Placing.{EachLine}
use Rattle.ec_history.specs.declared.shown.Shown.{Shown}
use Rattle.ec_history.specs.declared.shown.Shown.TheVariants as show
use Rattle.ec_durable.specs.WellFormed.{WellFormed}
use Rattle.ec_durable.specs.declared.state.Durable.{Durable}
use Rattle.ec_protocol.specs.Clerk.{begin}
use Rattle.ec_protocol.specs.World as world
use Rattle.ec_protocol.specs.World.{Fate, runs, Moving, clerks, happen}
use Rattle.ec_protocol.specs.declared.clerk.Clerk.{Clerk}
use Rattle.ec_protocol.specs.declared.server.Server.{Server}
use Rattle.ec_protocol.specs.declared.world.Event.{Event}
use Rattle.ec_protocol.specs.declared.world.Event.TheVariants as of_world
use Rattle.ec_protocol.specs.declared.world.World.{World}
use Rattle.ec_protocol.specs.declared.world.WorldFault.{WorldFault}
use Rattle.ec_protocol.specs.declared.world.WorldFault.TheVariants as world_fault
use Rattle.ec_protocol.specs.Drill.{Fates, this_fate, later_fates}
use Rattle.ec_coherence.proofs.ForServer.Tables.{same_some}
use Rattle.ec_lawful.specs.Calls.{IsOf}
use Rattle.ec_lawful.specs.Olds.{opened_in}
use Rattle.ec_lawful.proofs.ForWhole.Outs.{came-out}
use Rattle.ec_history.specs.OfLaws.OfPrinted.Timely.{AreTimely}
use Rattle.ec_lease_machine.specs.OfQueues.Adds.{MayBe}
use Rattle.ec_lease_machine.specs.OfQueues.Reached.{QueuedReached}
use Rattle.ec_lease_machine.proofs.OfQueues.Adds.{event-adds, resume-adds}
use Rattle.ec_protocol.specs.Resumes.{open_session, resume, resume_on}
use Rattle.ec_lease_machine.specs.Drill.{delivered, due_now, on_message, renewed, settle, unsettled, world_happens}
use Rattle.ec_lease_machine.specs.Leases.{LeaseMoving, begin_each, begin_queued, end, ends_at, event_happens, fails, grant, hand, happens, in_world, is_held, is_kept, is_started, issue, may_receive, moved, moving, note_open, noted_if_started, nothing, nth, onward, queue, receive, renew_each, shows, step, with_queue}
use Rattle.ec_lease_machine.specs.Leases as leases
use Rattle.ec_lease_machine.specs.declared.script.LeaseLine.TheVariants as lines
use Rattle.ec_lease_machine.specs.declared.world.Lease.{Lease}
use Rattle.ec_lease_machine.specs.declared.world.LeaseEvent.{LeaseEvent}
use Rattle.ec_lease_machine.specs.declared.world.LeaseEvent.TheVariants as event
use Rattle.ec_lease_machine.specs.declared.world.LeaseFault.{LeaseFault}
use Rattle.ec_lease_machine.specs.declared.world.LeaseFault.TheVariants as fault
use Rattle.ec_lease_machine.specs.declared.world.LeaseShown.{LeaseShown}
use Rattle.ec_lease_machine.specs.declared.world.LeaseShown.TheVariants.{Line, Held}
use Rattle.ec_lease_machine.specs.declared.world.LeaseWorld.{LeaseWorld}
use Rattle.ec_lease_machine.proofs.OfLeaseLaws.Steps.{begun, each-agrees, gone_on}
use Rattle.ec_lease_machine.specs.OfLeaseWorlds.Queues.{MayAsk, MayStep, queues}
use Rattle.ec_lease_machine.specs.OfLeaseWorlds.Lines.{unheld}
use Rattle.ec_lease_machine.proofs.OfLeaseWorlds.Reaching.{Begins, Both, asks, begins-all, happens-good, left-good, next, note-leaves, renew-leaves, unsettles-good}
use Rattle.ec_base.proofs.Options.{none_some, no-fault}

-- Lines without `held`.

pub unheld-append : (xs ys : List LeaseShown) → unheld (xs ++ ys) ≡ unheld xs ++ unheld ys
unheld-append [] ys = refl
unheld-append (Line s ∷ xs) ys = ap (λ z. s ∷ z) (unheld-append xs ys)
unheld-append (Held c m ∷ xs) ys = unheld-append xs ys

unheld-lines : (ss : List Shown) → unheld (map Line ss) ≡ ss
unheld-lines [] = refl
unheld-lines (s ∷ ss) = ap (λ z. s ∷ z) (unheld-lines ss)

-- What happens in a step, before queued calls begin: it's refused and changes nothing, or it adds these lines.

abbrev Happened : LeaseWorld → LeaseMoving → Type 0
Happened x n = ((f : LeaseFault) × (n ≡ fails f x)) ⊎ ((n.fault ≡ None) × (n.world.world.shown ≡ x.world.shown ++ unheld n.shown))

same-lines : (x y : LeaseWorld) → y.world ≡ x.world → y.world.shown ≡ x.world.shown ++ []
same-lines x y q = ap (λ w. w.shown) q ∙ sym (append-nil x.world.shown)

moved-happened : (x : LeaseWorld) (m : Moving) → (m.fault ≡ None → m.world.shown ≡ x.world.shown ++ m.shown) → Happened x (moved m x)
moved-happened x m l = by m.fault refl
  where
    by : (o : Option WorldFault) → m.fault ≡ o → Happened x (elim o as (λ z. LeaseMoving) [ Some e ↦ fails (fault.World e) x | None ↦ shows (map Line m.shown) (in_world m.world x) ])
    by (Some e) q = inl (fault.World e, refl)
    by None q = inr (refl, l q ∙ ap (λ ss. x.world.shown ++ ss) (sym (unheld-lines m.shown)))

abbrev Any : ℕ → ℕ → Call → Type 0
Any l c cl = ⊤

any-be : (e : Event) → MayBe Any e
any-be (of_world.Call c l cl) = tt
any-be (of_world.Push c n) = tt
any-be (of_world.Resend c) = tt
any-be (of_world.Cut c) = tt
any-be (of_world.Uncut c) = tt
any-be (of_world.Drop n) = tt
any-be (of_world.Repeat n) = tt
any-be (of_world.Deliver n) = tt
any-be (of_world.Crash c) = tt
any-be (of_world.End c) = tt
any-be of_world.Stop = tt
any-be (of_world.Arm n ch) = tt
any-be of_world.Restart = tt

world-happened : (fate : Fate) (e : Event) (x : LeaseWorld) → Happened x (leases.world_happens fate e x)
world-happened fate e x = moved-happened x (happen fate e x.world) (λ q. (event-adds Any fate e x.world (λ c n l cl p. tt) (any-be e) q).lines)

nothing-happened : (x : LeaseWorld) → Happened x (nothing x)
nothing-happened x = moved-happened x (world.nothing x.world) (λ q. refl)

either : (x : LeaseWorld) (z : Bool) (m n : LeaseMoving) → Happened x m → Happened x n → Happened x (elim z as (λ y. LeaseMoving) [ true ↦ m | false ↦ n ])
either x true m n a b = a
either x false m n a b = b

crash-happened : (fate : Fate) (c : ℕ) (x : LeaseWorld) → Happened x (leases.world_happens fate (of_world.Crash c) (with_queue c [] x))
crash-happened fate c x = by (at c x.world.clerks)
  where
    by : (o : Option Clerk) → Happened x (moved (world.crash c o x.world) (with_queue c [] x))
    by None = inr (refl, refl)
    by (Some k) = inr (refl, refl)

end-happened : (fate : Fate) (c : ℕ) (o : Option ℕ) (x : LeaseWorld) → Happened x (end fate c o x)
end-happened fate c None x = world-happened fate (of_world.End c) x
end-happened fate c (Some m) x = either x (nat_lt x.now m) (shows (Held c m ∷ []) x) (leases.world_happens fate (of_world.End c) x) (inr (refl, sym (append-nil x.world.shown))) (world-happened fate (of_world.End c) x)

restart-happened : (fate : Fate) (x : LeaseWorld) → Happened x (noted_if_started (leases.world_happens fate of_world.Restart x))
restart-happened fate x = elim (world-happened fate of_world.Restart x) [
  | inl r ↦ inl (r.0, ap noted_if_started r.1)
  | inr r ↦ by (list_any is_started m.shown) r
]
  where
    m : LeaseMoving
    m = leases.world_happens fate of_world.Restart x

    noted : (o : Option Server) → (note_open o m.world).world ≡ m.world.world
    noted None = refl
    noted (Some v) = (note-leaves 0 v.durable.sessions m.world).0

    by : (z : Bool) → (m.fault ≡ None) × (m.world.world.shown ≡ x.world.shown ++ unheld m.shown) → Happened x (elim z as (λ y. LeaseMoving) [ true ↦ record m { world = note_open m.world.world.server m.world } | false ↦ m ])
    by true r = inr (r.0, ap (λ w. w.shown) (noted m.world.world.server) ∙ r.1)
    by false r = inr r

event-happened : (fate : Fate) (e : Event) (x : LeaseWorld) → Happened x (event_happens fate e x)
event-happened fate (of_world.Call c l cl) x = either x (is_held c x) (queue c l cl x) (leases.world_happens fate (of_world.Call c l cl) x) (inr (refl, refl)) (world-happened fate (of_world.Call c l cl) x)
event-happened fate (of_world.Deliver n) x = either x (is_kept n x) (nothing x) (leases.world_happens fate (of_world.Deliver n) x) (nothing-happened x) (world-happened fate (of_world.Deliver n) x)
event-happened fate (of_world.Crash c) x = crash-happened fate c x
event-happened fate (of_world.End c) x = end-happened fate c (ends_at c (open_session c x.world) x) x
event-happened fate of_world.Restart x = restart-happened fate x
event-happened fate (of_world.Push c n) x = world-happened fate (of_world.Push c n) x
event-happened fate (of_world.Resend c) x = world-happened fate (of_world.Resend c) x
event-happened fate (of_world.Cut c) x = world-happened fate (of_world.Cut c) x
event-happened fate (of_world.Uncut c) x = world-happened fate (of_world.Uncut c) x
event-happened fate (of_world.Drop n) x = world-happened fate (of_world.Drop n) x
event-happened fate (of_world.Repeat n) x = world-happened fate (of_world.Repeat n) x
event-happened fate of_world.Stop x = world-happened fate of_world.Stop x
event-happened fate (of_world.Arm n ch) x = world-happened fate (of_world.Arm n ch) x

grant-happened : (c : ℕ) (o : Option ℕ) (x : LeaseWorld) → Happened x (grant c o x)
grant-happened c None x = nothing-happened x
grant-happened c (Some s) x = inr (refl, same-lines x (issue c s x) refl)

hand-happened : (c : ℕ) (o : Option Lease) (x : LeaseWorld) → Happened x (hand c o x)
hand-happened c None x = inl (fault.NoSuchLease, refl)
hand-happened c (Some b) x = either x (may_receive c b x) (moving (receive c b x)) (nothing x) (inr (refl, same-lines x (receive c b x) refl)) (nothing-happened x)

happened : (fate : Fate) (e : LeaseEvent) (x : LeaseWorld) → Happened x (happens fate e x)
happened fate (event.World e) x = event-happened fate e x
happened fate (event.Tick n) x = inr (refl, same-lines x (record x { now = x.now + n }) refl)
happened fate (event.Skew c s) x = inr (refl, same-lines x (record x { skews = put c s x.skews }) refl)
happened fate (event.Grant c) x = grant-happened c (open_session c x.world) x
happened fate (event.Hand c n) x = hand-happened c (nth n (at_or [] c x.issued)) x
happened fate event.Renew x = inr (refl, same-lines x (renew_each clerks x) (renew-leaves clerks x).0)

-- A queued call is refused only where a counter is spent.
pub resume-spent : {A : Type 0} (c l : ℕ) (cl : Call) (w : World) (f : WorldFault) → (resume c l cl w).fault ≡ Some f → ((n : Counter) → f ≡ world_fault.Spent n → A) → A
resume-spent {A} c l cl w f q g = by (at c w.clerks) q
  where
    goes : (k : Clerk) (o : Option Counter) → (world.clerk_does c (begin cl k) (world.moving (world.add_call c (k.calls + 1) l cl w))).fault ≡ None
        → (elim o as (λ z. Moving) [ Some n ↦ world.fails (world_fault.Spent n) w | None ↦ world.clerk_does c (begin cl k) (world.moving (world.add_call c (k.calls + 1) l cl w)) ]).fault ≡ Some f → A
    goes k (Some n) u q = g n (sym (same_some q))
    goes k None u q = absurd (none_some (sym u ∙ q))

    unspent : (k : Clerk) → (begin cl k).spent ≡ None → (world.clerk_does c (begin cl k) (world.moving (world.add_call c (k.calls + 1) l cl w))).fault ≡ None
    unspent k e =
        let m = world.moving (world.add_call c (k.calls + 1) l cl w) in
        ap (λ o. (elim o as (λ z. Moving) [ Some n ↦ world.fails (world_fault.Spent n) m.world | None ↦ world.come_out c (begin cl k).outs (world.with_world (λ v. record v { clerks = put c (begin cl k).clerk v.clerks }) m) ]).fault) e
        ∙ (came-out c (begin cl k).outs (world.with_world (λ v. record v { clerks = put c (begin cl k).clerk v.clerks }) m)).fault

    spent : (k : Clerk) (o : Option Counter) → (begin cl k).spent ≡ o
        → (elim o as (λ z. Moving) [ Some n ↦ world.fails (world_fault.Spent n) w | None ↦ world.clerk_does c (begin cl k) (world.moving (world.add_call c (k.calls + 1) l cl w)) ]).fault ≡ Some f → A
    spent k (Some n) e q = g n (sym (same_some q))
    spent k None e q = goes k None (unspent k e) q

    by : (o : Option Clerk) → (resume_on c l cl o w).fault ≡ Some f → A
    by None q = absurd (none_some q)
    by (Some k) q = spent k (begin cl k).spent refl q

-- Facts with a name for all calls.

pub of-turn : (P Q : ℕ → ℕ → Call → Type 0) → ((l c : ℕ) (cl : Call) → P l c cl → Q l c cl) → (s : Shown) → IsOf P s → IsOf Q s
of-turn P Q f (show.Waits k d dl) p = f k d dl p
of-turn P Q f (show.Answered k d dl a op) p = f k d dl p
of-turn P Q f (show.Durable d ns) p = tt
of-turn P Q f (show.Ended d ns) p = tt
of-turn P Q f (show.Unseen d) p = tt
of-turn P Q f (show.Told d ns) p = tt
of-turn P Q f (show.Crashed d) p = tt
of-turn P Q f show.Stopped p = tt
of-turn P Q f show.Started p = tt
of-turn P Q f show.Nothing p = tt
of-turn P Q f show.Unsettled p = tt
of-turn P Q f (show.Bad n k) p = tt
of-turn P Q f (show.DiskBad n) p = tt
of-turn P Q f (show.Limit n k) p = tt
of-turn P Q f (show.Spent n) p = tt

-- a fault that isn't a spent counter
abbrev pub IsOther : Option LeaseFault → Type 0
IsOther None = ⊤
IsOther (Some (fault.World (world_fault.Spent n))) = ⊥
IsOther (Some (fault.World f)) = ⊤
IsOther (Some fault.NoSuchLease) = ⊤
IsOther (Some fault.NoMemory) = ⊤

module _ (d : Durable) (wf : WellFormed d) (sixteen : length d.sessions ≡ 16) (unmade : images d.volume 0 ≡ Gone) where
  -- a world that has shown these lines, each of such a call, and of which I holds
  pub record Stands (P : ℕ → ℕ → Call → Type 0) (I : World → Type 0) (ss : List Shown) (x : LeaseWorld) : Type 0 where
    pub reached : QueuedReached d x.world
    pub timely : AreTimely [] x.world.shown
    pub lines : x.world.shown ≡ ss
    pub own : EachLine (IsOf P) x.world.shown
    pub inv : I x.world

  -- I holds behind deliveries, behind queued calls that begin, and behind lines of no call
  pub record Keeps (I : World → Type 0) : Type 0 where
    pub delivers : (fate : Fate) (n : ℕ) (w : World) → QueuedReached d w → I w → (happen fate (of_world.Deliver n) w).fault ≡ None → I (happen fate (of_world.Deliver n) w).world
    pub begins : (c l : ℕ) (cl : Call) (w : World) → I w → (resume c l cl w).fault ≡ None → I (resume c l cl w).world
    pub nothing : (w : World) → I w → I (world.nothing w).world
    pub unsettles : (w : World) → I w → I (world.show_line show.Unsettled (world.moving w)).world

  module _ (P : ℕ → ℕ → Call → Type 0) (I : World → Type 0) (keeps : Keeps I) where
    abbrev B : LeaseWorld → Type 0
    B x = Both d wf sixteen unmade P x

    stands-in : (ss : List Shown) (x : LeaseWorld) → B x → I x.world → x.world.shown ≡ ss → Stands P I ss x
    stands-in ss x b i q = record { reached = b.good.reached; timely = b.good.timely; lines = q; own = b.good.of.shown; inv = i }

    -- steps that began behind these lines
    pub record Came (ss : List Shown) (m : LeaseMoving) : Type 0 where
      pub stands : Stands P I (ss ++ unheld m.shown) m.world
      pub good : IsOther m.fault → B m.world

    -- what a step without a fault has to keep
    abbrev Behind : LeaseMoving → Type 0
    Behind m = m.fault ≡ None → I m.world.world

    fails-came : (f : LeaseFault) (x : LeaseWorld) → B x → I x.world → Came x.world.shown (fails f x)
    fails-came f x b i = record { stands = stands-in (x.world.shown ++ []) x b i (sym (append-nil x.world.shown)); good = λ u. b }

    pub moving-came : (x : LeaseWorld) → B x → I x.world → Came x.world.shown (moving x)
    moving-came x b i = record { stands = stands-in (x.world.shown ++ []) x b i (sym (append-nil x.world.shown)); good = λ u. b }

    pub fault-none : (m : LeaseMoving) → m.fault ≡ None → IsOther m.fault
    fault-none m q = subst IsOther (sym q) tt

    -- what happens in a step
    happens-came : (fate : Fate) (e : LeaseEvent) (x : LeaseWorld) → B x → I x.world → MayStep x e → MayAsk P e → Behind (happens fate e x) → Came x.world.shown (happens fate e x)
    happens-came fate e x b i may be behind = elim (happened fate e x) [
      | inl r ↦ subst (Came x.world.shown) (sym r.1) (fails-came r.0 x b i)
      | inr r ↦ (let g : B (happens fate e x).world = record {
        good = happens-good d wf sixteen unmade P fate x b.good b.leases e may be r.0;
        leases = each-agrees (opened_in d).first_boot fate x (asks d wf sixteen unmade x.world b.good.reached) b.leases e r.0;
      } in record { stands = stands-in (x.world.shown ++ unheld (happens fate e x).shown) (happens fate e x).world g (behind r.0) r.1; good = λ u. g })
    ]

    -- queued calls begin
    each-came : (c : ℕ) (qs : List (ℕ × Call)) (ss : List Shown) (m : LeaseMoving) → m.fault ≡ None → Begins d wf sixteen unmade P c qs m.world → I m.world.world → m.world.world.shown ≡ ss ++ unheld m.shown → Came ss (begin_each c qs m)
    each-came c [] ss m n a i l = let b = left-good d wf sixteen unmade P c [] m.world a in record { stands = stands-in (ss ++ unheld m.shown) (with_queue c [] m.world) b i l; good = λ u. b }
    each-came c (q ∷ qs) ss m n a i l = by (is_held c m.world) refl (λ x e k j y. each-came c qs ss x e k j y)
      where
        w : World
        w = m.world.world

        onward-lines : (f : LeaseFault) → m.world.world.shown ≡ ss ++ unheld (m.shown ++ [])
        onward-lines f = l ∙ ap (λ z. ss ++ unheld z) (sym (append-nil m.shown))

        now-lines : (resume c q.0 q.1 w).fault ≡ None → (resume c q.0 q.1 w).world.shown ≡ ss ++ unheld (m.shown ++ map Line (resume c q.0 q.1 w).shown)
        now-lines f =
            (resume-adds Any w (λ d n k dl p. tt) c q.0 q.1 tt f).lines
            ∙ ap (λ z. z ++ (resume c q.0 q.1 w).shown) l
            ∙ append_assoc ss (unheld m.shown) (resume c q.0 q.1 w).shown
            ∙ ap (λ z. ss ++ (unheld m.shown ++ z)) (sym (unheld-lines (resume c q.0 q.1 w).shown))
            ∙ ap (λ z. ss ++ z) (sym (unheld-append m.shown (map Line (resume c q.0 q.1 w).shown)))

        step-of : Option WorldFault → LeaseMoving
        step-of o = onward m (elim o as (λ z. LeaseMoving) [ Some e ↦ fails (fault.World e) m.world | None ↦ shows (map Line (resume c q.0 q.1 w).shown) (in_world (resume c q.0 q.1 w).world m.world) ])

        goes : is_held c m.world ≡ false → ((x : LeaseMoving) → x.fault ≡ None → Begins d wf sixteen unmade P c qs x.world → I x.world.world → x.world.world.shown ≡ ss ++ unheld x.shown → Came ss (begin_each c qs x))
            → (o : Option WorldFault) → (resume c q.0 q.1 w).fault ≡ o → Came ss (elim (step-of o).fault as (λ z. LeaseMoving) [ Some e ↦ step-of o | None ↦ begin_each c qs (step-of o) ])
        goes free more (Some f) e = resume-spent c q.0 q.1 w f e (λ n s. record {
          stands = record { reached = a.reached; timely = a.timely; lines = onward-lines (fault.World f); own = a.of.shown; inv = i };
          good = λ u. absurd (subst (λ g. IsOther (Some (fault.World g))) s u);
        })
        goes free more None e = more (step-of None) refl (subst (λ x. Begins d wf sixteen unmade P c qs x.world) is (next d wf sixteen unmade P c q qs m a free (ap (λ x. x.fault) is))) (keeps.begins c q.0 q.1 w i e) (now-lines e)
          where
            is : begun c q m ≡ step-of None
            is = ap step-of e

        by : (z : Bool) → is_held c m.world ≡ z
            → ((x : LeaseMoving) → x.fault ≡ None → Begins d wf sixteen unmade P c qs x.world → I x.world.world → x.world.world.shown ≡ ss ++ unheld x.shown → Came ss (begin_each c qs x))
            → Came ss (elim z as (λ y. LeaseMoving) [ true ↦ record m { world = with_queue c (q ∷ qs) m.world } | false ↦ elim (begun c q m).fault as (λ k. LeaseMoving) [ Some e ↦ begun c q m | None ↦ begin_each c qs (begun c q m) ] ])
        by true e more = let b = left-good d wf sixteen unmade P c (q ∷ qs) m.world a in record { stands = stands-in (ss ++ unheld m.shown) (with_queue c (q ∷ qs) m.world) b i l; good = λ u. b }
        by false free more = goes free more (resume c q.0 q.1 w).fault refl

    queued-came : (cs : List ℕ) (ss : List Shown) (m : LeaseMoving) → Came ss m → Came ss (begin_queued cs m)
    queued-came [] ss m k = k
    queued-came (c ∷ cs) ss m k = by m.fault refl (λ x. queued-came cs ss (gone_on c m) x)
      where
        by : (o : Option LeaseFault) → m.fault ≡ o → (Came ss (gone_on c m) → Came ss (begin_queued cs (gone_on c m))) → Came ss (elim o as (λ z. LeaseMoving) [ Some e ↦ m | None ↦ begin_queued cs (gone_on c m) ])
        by (Some f) q more = k
        by None q more = more (each-came c (queues m.world c) ss m q (begins-all d wf sixteen unmade P c m.world (k.good (fault-none m q))) (k.stands).inv (k.stands).lines)

    pub step-came : (fate : Fate) (e : LeaseEvent) (x : LeaseWorld) → B x → I x.world → MayStep x e → MayAsk P e → Behind (happens fate e x) → Came x.world.shown (step fate e x)
    step-came fate e x b i may be behind = queued-came clerks x.world.shown (happens fate e x) (happens-came fate e x b i may be behind)

    -- one step behind others
    onward-came : (ss : List Shown) (m n : LeaseMoving) → m.world.world.shown ≡ ss ++ unheld m.shown → Came m.world.world.shown n → Came ss (onward m n)
    onward-came ss m n l k = record {
      stands = record {
        reached = (k.stands).reached;
        timely = (k.stands).timely;
        lines = (k.stands).lines ∙ ap (λ z. z ++ unheld n.shown) l ∙ append_assoc ss (unheld m.shown) (unheld n.shown) ∙ ap (λ z. ss ++ z) (sym (unheld-append m.shown n.shown));
        own = (k.stands).own;
        inv = (k.stands).inv;
      };
      good = k.good;
    }

    -- a line of a script, and what settles behind it
    pub renewed-came : (ss : List Shown) (m : LeaseMoving) → Came ss m → Came ss (renewed m)
    renewed-came ss m k = by m.fault refl
      where
        by : (o : Option LeaseFault) → m.fault ≡ o → Came ss (elim o as (λ z. LeaseMoving) [ Some f ↦ m | None ↦ onward m (step runs event.Renew m.world) ])
        by (Some f) q = k
        by None q = onward-came ss m (step runs event.Renew m.world) (k.stands).lines
            (step-came runs event.Renew m.world (k.good (fault-none m q)) (k.stands).inv tt tt (λ e. subst I (sym (renew-leaves clerks m.world).0) (k.stands).inv))

    delivered-behind : (fate : Fate) (n : ℕ) (x : LeaseWorld) → QueuedReached d x.world → I x.world → Behind (happens fate (event.World (of_world.Deliver n)) x)
    delivered-behind fate n x r i = by (is_kept n x)
      where
        moves : (o : Option WorldFault) → (happen fate (of_world.Deliver n) x.world).fault ≡ o
            → Behind (elim o as (λ z. LeaseMoving) [ Some e ↦ fails (fault.World e) x | None ↦ shows (map Line (happen fate (of_world.Deliver n) x.world).shown) (in_world (happen fate (of_world.Deliver n) x.world).world x) ])
        moves (Some e) q f = no-fault f
        moves None q f = keeps.delivers fate n x.world r i q

        by : (z : Bool) → Behind (elim z as (λ y. LeaseMoving) [ true ↦ leases.nothing x | false ↦ leases.world_happens fate (of_world.Deliver n) x ])
        by true = λ f. keeps.nothing x.world i
        by false = moves (happen fate (of_world.Deliver n) x.world).fault refl

    delivered-came : (fate : Fate) (n : ℕ) (ss : List Shown) (m : LeaseMoving) → Came ss m → m.fault ≡ None → Came ss (delivered fate n m)
    delivered-came fate n ss m k q =
        renewed-came ss (onward m (world_happens fate (of_world.Deliver n) m.world))
        (onward-came ss m (world_happens fate (of_world.Deliver n) m.world) (k.stands).lines
        (step-came fate (event.World (of_world.Deliver n)) m.world (k.good (fault-none m q)) (k.stands).inv tt tt (delivered-behind fate n m.world (k.stands).reached (k.stands).inv)))

    unsettled-came : (ss : List Shown) (m : LeaseMoving) → Came ss m → m.fault ≡ None → Came ss (unsettled m)
    unsettled-came ss m k q = onward-came ss m (moved (world.show_line show.Unsettled (world.moving m.world.world)) m.world) (k.stands).lines
        (let b = unsettles-good d wf sixteen unmade P m.world (k.good (fault-none m q)) in record {
          stands = stands-in (m.world.world.shown ++ show.Unsettled ∷ []) (in_world (world.show_line show.Unsettled (world.moving m.world.world)).world m.world) b (keeps.unsettles m.world.world (k.stands).inv) refl;
          good = λ u. b;
        })

    pub settle-came : (k : ℕ) (fs : Fates) (ss : List Shown) (m : LeaseMoving) → Came ss m → Came ss (settle k fs m)
    settle-came zero fs ss m c = by m.fault refl
      where
        at-due : (o : Option ℕ) → m.fault ≡ None → Came ss (elim o as (λ z. LeaseMoving) [ None ↦ m | Some n ↦ unsettled m ])
        at-due None q = c
        at-due (Some n) q = unsettled-came ss m c q

        by : (o : Option LeaseFault) → m.fault ≡ o → Came ss (elim o as (λ z. LeaseMoving) [ Some f ↦ m | None ↦ elim (due_now m.world) as (λ z. LeaseMoving) [ None ↦ m | Some n ↦ unsettled m ] ])
        by (Some f) q = c
        by None q = at-due (due_now m.world) q
    settle-came (suc k) fs ss m c = by m.fault refl (λ n x. settle-came k (later_fates fs) ss (delivered (this_fate fs) n m) x)
      where
        at-due : ((n : ℕ) → Came ss (delivered (this_fate fs) n m) → Came ss (settle k (later_fates fs) (delivered (this_fate fs) n m))) → (o : Option ℕ) → m.fault ≡ None
            → Came ss (elim o as (λ z. LeaseMoving) [ None ↦ m | Some n ↦ settle k (later_fates fs) (delivered (this_fate fs) n m) ])
        at-due more None q = c
        at-due more (Some n) q = more n (delivered-came (this_fate fs) n ss m c q)

        by : (o : Option LeaseFault) → m.fault ≡ o → ((n : ℕ) → Came ss (delivered (this_fate fs) n m) → Came ss (settle k (later_fates fs) (delivered (this_fate fs) n m)))
            → Came ss (elim o as (λ z. LeaseMoving) [ Some f ↦ m | None ↦ elim (due_now m.world) as (λ z. LeaseMoving) [ None ↦ m | Some n ↦ settle k (later_fates fs) (delivered (this_fate fs) n m) ] ])
        by (Some f) q more = c
        by None q more = at-due more (due_now m.world) q

    pub message-came : (fate : Fate) (f : ℕ → Event) (o : Option ℕ) (x : LeaseWorld) → B x → I x.world → ((n : ℕ) → MayStep x (event.World (f n)) × MayAsk P (event.World (f n)))
        → ((n : ℕ) → Behind (happens fate (event.World (f n)) x)) → Came x.world.shown (on_message fate f o x)
    message-came fate f None x b i may behind = fails-came (fault.World world_fault.NoSuchMsg) x b i
    message-came fate f (Some n) x b i may behind = step-came fate (event.World (f n)) x b i (may n).0 (may n).1 (behind n)
