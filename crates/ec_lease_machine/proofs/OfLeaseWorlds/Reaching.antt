-- The worlds that steps with leases reach are worlds that the machine without leases reaches where calls wait before they begin.
use Rattle.std.proofs.Common.{◌≡◌, refl, sym, ap, subst, ◌∙◌, inl, inr, arith, ◌<◌, ◌+◌, ℕ, T, Bool, true, false, not, ◌==◌, ◌&&◌, ◌||◌, cond, length, List, [], ◌∷◌, ◌++◌, Option, Some, None, suc, zero, ◌≤◌, append_assoc}
use Rattle.std.specs.Prelude.{Contains, is_some, map, nat_lt, Ok, ⊤}
use Rattle.std.specs.Bool.{OnTrue}
use Rattle.std.specs.List.{filter, list_any}
use Rattle.std.proofs.lemmas.List.Elements.{Contains-push_cases}
use Rattle.std.proofs.lemmas.List.Folds.{list_any-append}
use Rattle.ec_base.specs.Tables.{at, at_or, put}
use Rattle.ec_plain.specs.declared.call.Call.{Call}
use Rattle.ec_volume.specs.Update.{member}
use Rattle.ec_volume.specs.Volume.{images}
use Rattle.ec_volume.specs.declared.image.Image.TheVariants.{Gone}
use Rattle.ec_history.specs.Placing.{Agrees, Unanswered, is_numbered}
use Rattle.ec_history.specs.declared.shown.Shown.TheVariants as show
use Rattle.ec_sessions.specs.Slots.{Slots, run}
use Rattle.ec_durable.specs.WellFormed.{WellFormed}
use Rattle.ec_durable.specs.declared.state.Durable.{Durable}
use Rattle.ec_protocol.specs.World as world
use Rattle.ec_protocol.specs.World.{Fate, runs, Moving, clerks, forget, happen, open_world}
use Rattle.ec_protocol.specs.declared.clerk.Clerk.{Clerk}
use Rattle.ec_protocol.specs.declared.server.Server.{Server}
use Rattle.ec_protocol.specs.declared.world.Event.{Event}
use Rattle.ec_protocol.specs.declared.world.Event.TheVariants as of_world
use Rattle.ec_protocol.specs.declared.world.World.{World}
use Rattle.ec_protocol.specs.declared.world.WorldFault.{WorldFault}
use Rattle.ec_lawful.proofs.OfClerkSteps.ForCalls.Begin.{fresh-lines}
use Rattle.ec_lawful.proofs.OfClerkSteps.ForCalls.CallFrames.{lines-append}
use Rattle.ec_lease_machine.specs.OfQueues.Queued.{MayResume, MayWait}
use Rattle.ec_lease_machine.specs.OfQueues.Reached.{QueuedReached}
use Rattle.ec_lease_machine.specs.OfQueues.Reached as ways
use Rattle.ec_lawful.specs.Steps.{HoldsIn as Holds, MayHappen}
use Rattle.ec_history.specs.Legal.{IsLegal}
use Rattle.ec_history.specs.declared.shown.Shown.{Shown}
use Rattle.ec_wire.specs.Messages.{same_kind}
use Rattle.ec_wire.specs.declared.msg.MsgKind.TheVariants.{Ended}
use Rattle.ec_lawful.specs.Asked.{AsksAgree}
use Rattle.ec_lawful.specs.AskedLaws.{StandsAsked}
use Rattle.ec_lawful.specs.Headline.{placed_on}
use Rattle.ec_lawful.specs.Reached.{IsInOrder}
use Rattle.ec_lawful.specs.Whole.{Whole}
use Rattle.ec_lawful.proofs.Worlds.{no-calls, no-lines}
use Rattle.ec_history.specs.OfLaws.OfPrinted.Printed.{printed}
use Rattle.ec_history.specs.OfLaws.OfPrinted.Timely.{AreTimely}
use Rattle.ec_history.proofs.OfLaws.OfPrinted.Lines.{timely-legal}
use Rattle.ec_lease_machine.specs.OfTimely.Timely.{IsTold, MayAnswer}
use Rattle.ec_lease_machine.proofs.OfTimely.Lines.{timely-append, timely-front}
use Rattle.ec_lease_machine.proofs.OfTimely.Steps.{event-timed, resume-timed}
use Rattle.ec_lawful.specs.Olds.{opened_in}
use Rattle.ec_lease_machine.specs.OfQueues.Adds.{AddsCalls, MayBe}
use Rattle.ec_lawful.specs.Calls.{AreOf, IsOf}
use Rattle.ec_history.specs.Placing.{EachLine}
use Rattle.ec_coherence.specs.Steps.{call_of}
use Rattle.ec_lease_machine.proofs.OfQueues.Adds.{adds-of, event-adds, line-adds, nothing-adds, quiet-adds, resume-adds, wait-adds}
use Rattle.ec_lease_machine.proofs.OfQueues.Worlds.{queued-hold, queued-in-order}
use Rattle.ec_protocol.specs.OfPool.Goings.{is_kept_from}
use Rattle.ec_protocol.specs.Resumes.{open_in, open_session, resume, session, wait}
use Rattle.ec_lease_machine.specs.Leases.{held, LeaseMoving, begin_each, begin_queued, end, ends_at, event_happens, fails, grant, hand, happens, has_run_out, in_world, is_held, is_kept, is_started, issue, lease, may_receive, moment_in, moved, moving, note, note_open, note_slot, note_slots, noted_if_started, nothing, nth, opened_leases, queue, receive, renew_each, renew_in, shows, step, with_queue, world_happens}
use Rattle.ec_lease_machine.specs.declared.world.Lease.{Lease}
use Rattle.ec_lease_machine.specs.declared.world.LeaseEvent.{LeaseEvent}
use Rattle.ec_lease_machine.specs.declared.world.LeaseEvent.TheVariants as event
use Rattle.ec_lease_machine.specs.declared.world.LeaseFault.{LeaseFault}
use Rattle.ec_lease_machine.specs.declared.world.LeaseFault.TheVariants as fault
use Rattle.ec_lease_machine.specs.declared.world.LeaseShown.TheVariants.{Line, Held}
use Rattle.ec_lease_machine.specs.declared.world.LeaseWorld.{LeaseWorld}
use Rattle.ec_lease_machine.specs.OfLeaseLaws.Agrees.{LeasesAgree}
use Rattle.ec_lease_machine.specs.OfLeaseWorlds.Printed.{IsLeased}
use Rattle.ec_lease_machine.specs.OfLeaseWorlds.Queues.{CallsAreApart, LeaseReached, LeasesReach, MayAsk, MayStep, QueuesAgree, queues, opens, steps, forgets, unsettles}
use Rattle.ec_lease_machine.proofs.OfLeaseWorlds.Queues.{Apart, at-put-queue, at-without-queue, but, event-apart, head-apart, head-in, head-may, in-rest, new-apart, queue-grows, queues-on, queues-same, rest-agrees, true-false, unused}
use Rattle.ec_lease_machine.proofs.OfLeaseLaws.EventSlots.{resume-stays}
use Rattle.ec_lease_machine.proofs.OfLeaseLaws.Steps.{begun, each-agrees, gone_on, opening-agrees, quiet-agrees}
use Rattle.ec_lease_machine.proofs.OfLeaseLaws.Unheld.{unheld-told}
use Rattle.ec_protocol.specs.Clerk.{is_session}
use Rattle.ec_base.proofs.Numbers.{same-self as same, equal}
use Rattle.ec_base.proofs.Options.{none_some, no-fault}

-- what is noted leaves the world and the queues
pub note-leaves : (c : ℕ) (slots : Slots) (y : LeaseWorld) → ((note_slots c slots y).world ≡ y.world) × ((note_slots c slots y).queued ≡ y.queued)
note-leaves c [] y = (refl, refl)
note-leaves c (o ∷ slots) y = let r = note-leaves (c + 1) slots (note_slot c o y) in let s = one (open_in o) in (r.0 ∙ s.0, r.1 ∙ s.1)
  where
    one : (o : Option ℕ) → ((elim o as (λ z. LeaseWorld) [ None ↦ y | Some s ↦ note c (lease s y) y ]).world ≡ y.world) × ((elim o as (λ z. LeaseWorld) [ None ↦ y | Some s ↦ note c (lease s y) y ]).queued ≡ y.queued)
    one None = (refl, refl)
    one (Some s) = (refl, refl)

-- renewing leaves the world and the queues
pub renew-leaves : (cs : List ℕ) (y : LeaseWorld) → ((renew_each cs y).world ≡ y.world) × ((renew_each cs y).queued ≡ y.queued)
renew-leaves [] y = (refl, refl)
renew-leaves (c ∷ cs) y = let r = renew-leaves cs (renew_in c (session c y.world) y) in let s = one (session c y.world) in (r.0 ∙ s.0, r.1 ∙ s.1)
  where
    test : (s : ℕ) (z : Bool) → ((elim z as (λ k. LeaseWorld) [ true ↦ receive c (lease s y) (issue c s y) | false ↦ y ]).world ≡ y.world) × ((elim z as (λ k. LeaseWorld) [ true ↦ receive c (lease s y) (issue c s y) | false ↦ y ]).queued ≡ y.queued)
    test s true = (refl, refl)
    test s false = (refl, refl)

    one : (o : Option ℕ) → ((renew_in c o y).world ≡ y.world) × ((renew_in c o y).queued ≡ y.queued)
    one None = (refl, refl)
    one (Some s) = test s ((not (member c y.world.cut) && is_session s (open_session c y.world)) && may_receive c (lease s y) y)

-- Clerks that are held.

pub in-run : (first n c : ℕ) → first ≤ c → c < first + n → member c (run first n) ≡ true
in-run first zero c l m = absurd (omega (arith, l, m))
in-run first (suc n) c l m = by (c == first) refl (λ a b. in-run (first + 1) n c a b)
  where
    above : (c first : ℕ) → first ≤ c → (c == first) ≡ false → first + 1 ≤ c
    above c first l e = grind (arith, l, e)

    below : (c first n : ℕ) → c < first + suc n → c < (first + 1) + n
    below c first n m = omega (arith, m)

    by : (z : Bool) → (c == first) ≡ z → (first + 1 ≤ c → c < (first + 1) + n → member c (run (first + 1) n) ≡ true) → (z || member c (run (first + 1) n)) ≡ true
    by true e more = refl
    by false e more = more (above c first l e) (below c first n m)

-- one of these isn't among those that pass the test, so it doesn't pass it
not-part : (p : ℕ → Bool) (c : ℕ) (xs : List ℕ) → member c xs ≡ true → member c (filter p xs) ≡ false → p c ≡ false
not-part p c [] m n = true-false (sym m)
not-part p c (x ∷ xs) m n = by (c == x) refl (p x) refl m n (not-part p c xs)
  where
    by : (z : Bool) → (c == x) ≡ z → (y : Bool) → p x ≡ y → (z || member c xs) ≡ true → member c (cond y (x ∷ filter p xs) (filter p xs)) ≡ false
        → (member c xs ≡ true → member c (filter p xs) ≡ false → p c ≡ false) → p c ≡ false
    by true e false q i n more = ap p (equal c x e) ∙ q
    by true e true q i n more = true-false (sym (ap (λ b. b || member c (filter p xs)) e) ∙ n)
    by false e false q i n more = more i n
    by false e true q i n more = more i (sym (ap (λ b. b || member c (filter p xs)) e) ∙ n)

module _ (d : Durable) (wf : WellFormed d) (sixteen : length d.sessions ≡ 16) (unmade : images d.volume 0 ≡ Gone) where
  holds : (w : World) → QueuedReached d w → Holds (λ g. Whole g × AsksAgree (opened_in d).first_boot g) w
  holds = queued-hold d wf sixteen unmade

  whole : (w : World) → QueuedReached d w → Holds Whole w
  whole w r = let h = holds w r in (h.0, h.1.0, h.2)

  pub asks : (w : World) → QueuedReached d w → Holds (StandsAsked (opened_in d).first_boot) w
  asks w r = let h = holds w r in (h.0, (h.1.0.all, h.1.1), h.2)

  -- A clerk that isn't held has nothing untold, if it's in a session.
  told-in : (x : LeaseWorld) → QueuedReached d x.world → LeasesAgree x → (c : ℕ) → is_held c x ≡ false → IsTold c x.world
  told-in x r l c f s q = let h = holds x.world r in unheld-told h.0 h.1.0.all h.1.0.doubts x h.2 l c s q f

  -- one that is in a session is one of the sixteen
  in-sixteen : (w : World) → QueuedReached d w → (c s : ℕ) → session c w ≡ Some s → member c clerks ≡ true
  in-sixteen w r c s q = by (at c w.clerks) refl q
    where
      h : Holds (λ g. Whole g × AsksAgree (opened_in d).first_boot g) w
      h = holds w r

      runs-so : (k : Clerk) → at c w.clerks ≡ Some k → c < 16
      runs-so k p = go ((h.0).running c) refl (sym (h.2.clerks c) ∙ p)
        where
          go : (o : Option ℕ) → (h.0).running c ≡ o → elim o as (λ z. Option Clerk) [ None ↦ None | Some b ↦ (h.0).clerks c b ] ≡ Some k → c < 16
          go None e p = absurd (none_some p)
          go (Some b) e p = ((h.1.0.all).0.sessions.starts c b k p).3

      by : (o : Option Clerk) → at c w.clerks ≡ o → elim o as (λ z. Option ℕ) [ None ↦ None | Some k ↦ k.session ] ≡ Some s → member c clerks ≡ true
      by None p e = absurd (none_some e)
      by (Some k) p e = in-run 0 16 c (omega arith) (runs-so k p)

  -- a message that isn't kept from held clerks is an Ended, or goes to one that isn't held
  may-deliver : (x : LeaseWorld) → QueuedReached d x.world → LeasesAgree x → (n : ℕ) → is_kept n x ≡ false → MayAnswer x.world (of_world.Deliver n)
  may-deliver x r l n f c k q other s i = told-in x r l c (not-part (λ e. is_held e x) c clerks (in-sixteen x.world r c s i) unkept) s i
    where
      both : (a b : Bool) → T a → (a && b) ≡ false → b ≡ false
      both true b t e = e
      both false b t e = absurd t

      unkept : member c (held x) ≡ false
      unkept = both (not (same_kind k Ended)) (member c (held x)) other (sym (ap (is_kept_from (held x)) q) ∙ f)

-- The walk over a step: all calls of the world, and all that are queued, are of these.
module _ (d : Durable) (wf : WellFormed d) (sixteen : length d.sessions ≡ 16) (unmade : images d.volume 0 ≡ Gone) (P : ℕ → ℕ → Call → Type 0) where
  -- each queued call is
  abbrev pub AreMine : (ℕ → List (ℕ × Call)) → Type 0
  AreMine queue = (c l : ℕ) (cl : Call) → Contains (queue c) (l, cl) → P l c cl

  -- the inner world is reached, queued calls may begin, and each answer is timely
  pub record Good (x : LeaseWorld) : Type 0 where
    pub reached : QueuedReached d x.world
    pub queued : QueuesAgree (queues x) x.world
    pub timely : AreTimely [] x.world.shown
    pub of : AreOf P x.world
    pub mine : AreMine (queues x)

  -- and its leases agree with its sessions
  pub record Both (x : LeaseWorld) : Type 0 where
    pub good : Good x
    pub leases : LeasesAgree x

  same-mine : (f h : ℕ → List (ℕ × Call)) → ((c : ℕ) → h c ≡ f c) → AreMine f → AreMine h
  same-mine f h q m c l cl i = m c l cl (subst (λ xs. Contains xs (l, cl)) (q c) i)

  -- what isn't of the world or of the queues changes
  same-good : (x y : LeaseWorld) → y.world ≡ x.world → y.queued ≡ x.queued → Good x → Good y
  same-good x y w q a = record {
    reached = subst (QueuedReached d) (sym w) a.reached;
    queued = subst (QueuesAgree (queues y)) (sym w) (queues-same (queues x) (queues y) x.world (λ c. ap (at_or [] c) q) a.queued);
    timely = subst (λ v. AreTimely [] v.shown) (sym w) a.timely;
    of = subst (AreOf P) (sym w) a.of;
    mine = same-mine (queues x) (queues y) (λ c. ap (at_or [] c) q) a.mine;
  }

  -- a step of the world
  moved-good : (x : LeaseWorld) (m : Moving) → Good x → (m.fault ≡ None → QueuedReached d m.world) → (m.fault ≡ None → (c l : ℕ) (cl : Call) → Contains (queues x c) (l, cl) → AddsCalls (Apart l) x.world m)
      → (m.fault ≡ None → AreTimely [] m.world.shown) → (m.fault ≡ None → AddsCalls P x.world m) → (moved m x).fault ≡ None → Good (moved m x).world
  moved-good x m a r t i j f = by m.fault refl f
    where
      by : (o : Option WorldFault) → m.fault ≡ o → (elim o as (λ z. LeaseMoving) [ Some e ↦ fails (fault.World e) x | None ↦ shows (map Line m.shown) (in_world m.world x) ]).fault ≡ None
          → Good (elim o as (λ z. LeaseMoving) [ Some e ↦ fails (fault.World e) x | None ↦ shows (map Line m.shown) (in_world m.world x) ]).world
      by (Some e) q f = no-fault f
      by None q f = record { reached = r q; queued = queues-on (queues x) x.world m (t q) a.queued; timely = i q; of = adds-of P x.world m a.of (j q); mine = a.mine }

  -- the calls under way have other lines than the queued ones
  others : (x : LeaseWorld) → Good x → (c l : ℕ) (cl : Call) → Contains (queues x c) (l, cl) → MayResume x.world c l cl
  others x a c l cl i = a.queued.may c l cl i

  event-good : (fate : Fate) (e : Event) (x : LeaseWorld) → Good x → MayHappen x.world e → MayAnswer x.world e → MayBe P e → (world_happens fate e x).fault ≡ None → Good (world_happens fate e x).world
  event-good fate e x a may answer be f = moved-good x (happen fate e x.world) a (λ q. ways.happens x.world a.reached fate e may q)
      (λ q c l cl i. (let m = others x a c l cl i in event-adds (Apart l) fate e x.world (unused x.world c l cl m) (event-apart x.world c l cl m e may) q))
      (λ q. (let h = whole d wf sixteen unmade x.world a.reached in event-timed x.world h.0 h.1 h.2 a.timely fate e answer)) (λ q. event-adds P fate e x.world a.of.calls be q) f

  -- Nothing happens, as where a running server is started again, or a stopped one stops.
  nothing-good : (x : LeaseWorld) → Good x → Good (nothing x).world
  nothing-good x a = moved-good x (world.nothing x.world) a (λ q. by x.world.server refl) (λ q c l cl i. nothing-adds (Apart l) x.world (unused x.world c l cl (others x a c l cl i)))
      (λ q. timely-append [] x.world.shown (show.Nothing ∷ []) a.timely (tt, tt)) (λ q. nothing-adds P x.world a.of.calls) refl
    where
      by : (o : Option Server) → x.world.server ≡ o → QueuedReached d (world.nothing x.world).world
      by (Some v) p =
          let is : happen runs of_world.Restart x.world ≡ world.nothing x.world = ap (λ o. world.restart_server runs o x.world) p in
          subst (λ m. QueuedReached d m.world) is (ways.happens x.world a.reached runs of_world.Restart tt (ap (λ m. m.fault) is))
      by None p =
          let is : happen runs of_world.Stop x.world ≡ world.nothing x.world = ap (λ o. world.stop_server o x.world) p in
          subst (λ m. QueuedReached d m.world) is (ways.happens x.world a.reached runs of_world.Stop tt (ap (λ m. m.fault) is))

  -- A call is queued.

  held-runs : (c : ℕ) (x : LeaseWorld) → is_held c x ≡ true → T (is_some (at c x.world.clerks))
  held-runs c x h = by (at c x.world.clerks) h
    where
      by : (o : Option Clerk) → elim (elim o as (λ z. Option ℕ) [ None ↦ None | Some k ↦ k.session ]) as (λ z. Bool) [ None ↦ false | Some s ↦ has_run_out c (moment_in s (at c x.leases)) x ] ≡ true → T (is_some o)
      by None h = true-false (sym h)
      by (Some k) h = tt

  waits-may : (w : World) (c l : ℕ) (cl : Call) → MayWait w c l cl → MayResume (wait c l cl w).world c l cl
  waits-may w c l cl may =
      let ls = fresh-lines l c cl w.shown may.new.unshown in
      record {
        shown = list_any-append (is_numbered l) w.shown (show.Waits l c cl ∷ []) ∙ last (list_any (is_numbered l) w.shown);
        own = lines-append (Agrees l c cl) w.shown (show.Waits l c cl ∷ []) ls.0 (own (l == l), tt);
        unanswered = lines-append (Unanswered l) w.shown (show.Waits l c cl ∷ []) ls.1 (tt, tt);
        unused = λ e n k dl q. less k l (may.new.unused e n k dl q);
        bounded = may.bounded;
      }
    where
      last : (z : Bool) → (z || ((l == l) || false)) ≡ true
      last true = refl
      last false = ap (λ y. y || false) (same l)

      own : (z : Bool) → OnTrue z ((c ≡ c) × (cl ≡ cl))
      own true = (refl, refl)
      own false = tt

      less : (k l : ℕ) → k < l → (k == l) ≡ false
      less k l p = grind (arith, p)

  queue-good : (c l : ℕ) (cl : Call) (x : LeaseWorld) → Good x → is_held c x ≡ true → MayHappen x.world (of_world.Call c l cl) → P l c cl → Good (queue c l cl x).world
  queue-good c l cl x a h may be = record {
    reached = ways.waits x.world a.reached c l cl can;
    queued = queues-same (but c (queues x c ++ (l, cl) ∷ []) (queues x)) (λ e. at_or [] e (put c (queues x c ++ (l, cl) ∷ []) x.queued)) (wait c l cl x.world).world (λ e. at-put-queue c e (queues x c ++ (l, cl) ∷ []) x.queued)
        (queue-grows (queues x) (wait c l cl x.world).world c (l, cl) (waits-may x.world c l cl can) (λ e k dl i. new-apart x.world e k dl (others x a e k dl i) l may.0)
        (queues-on (queues x) x.world (wait c l cl x.world) (λ e k dl i. wait-adds (Apart k) x.world (unused x.world e k dl (others x a e k dl i)) c l cl (new-apart x.world e k dl (others x a e k dl i) l may.0)) a.queued));
    timely = timely-append [] x.world.shown (show.Waits l c cl ∷ []) a.timely (tt, tt);
    of = adds-of P x.world (wait c l cl x.world) a.of (wait-adds P x.world a.of.calls c l cl be);
    mine = same-mine (but c (queues x c ++ (l, cl) ∷ []) (queues x)) (λ e. at_or [] e (put c (queues x c ++ (l, cl) ∷ []) x.queued)) (λ e. at-put-queue c e (queues x c ++ (l, cl) ∷ []) x.queued) (λ e k dl i. added e k dl (e == c) refl i);
  }
    where
      added : (e k : ℕ) (dl : Call) (z : Bool) → (e == c) ≡ z → Contains (cond z (queues x c ++ (l, cl) ∷ []) (queues x e)) (k, dl) → P k e dl
      added e k dl false q i = a.mine e k dl i
      added e k dl true q i = elim (Contains-push_cases (queues x c) (l, cl) (k, dl) i) [
        | inl old ↦ subst (λ y. P k y dl) (sym (equal e c q)) (a.mine c k dl old)
        | inr now ↦ subst (λ y. P k y dl) (sym (equal e c q)) (subst (λ y. P y.0 c y.1) now be)
      ]

      can : MayWait x.world c l cl
      can = record { runs = held-runs c x h; new = may.0; bounded = may.2 }

  -- Queued calls begin.

  pub record Begins (c : ℕ) (qs : List (ℕ × Call)) (x : LeaseWorld) : Type 0 where
    pub reached : QueuedReached d x.world
    pub queued : QueuesAgree (but c qs (queues x)) x.world
    pub timely : AreTimely [] x.world.shown
    pub of : AreOf P x.world
    pub mine : AreMine (but c qs (queues x))
    pub leases : LeasesAgree x

  same-leases : (c : ℕ) (qs : List (ℕ × Call)) (x : LeaseWorld) → LeasesAgree x → LeasesAgree (with_queue c qs x)
  same-leases c [] x a = record { new = a.new; received = a.received; noted = a.noted; past = a.past }
  same-leases c (q ∷ qs) x a = record { new = a.new; received = a.received; noted = a.noted; past = a.past }

  pub left-good : (c : ℕ) (qs : List (ℕ × Call)) (x : LeaseWorld) → Begins c qs x → Both (with_queue c qs x)
  left-good c [] x a = record {
    good = record { reached = a.reached; queued = queues-same (but c [] (queues x)) (queues (with_queue c [] x)) x.world (λ e. at-without-queue c e x.queued) a.queued; timely = a.timely; of = a.of; mine = same-mine (but c [] (queues x)) (queues (with_queue c [] x)) (λ e. at-without-queue c e x.queued) a.mine };
    leases = same-leases c [] x a.leases;
  }
  left-good c (q ∷ qs) x a = record {
    good = record { reached = a.reached; queued = queues-same (but c (q ∷ qs) (queues x)) (queues (with_queue c (q ∷ qs) x)) x.world (λ e. at-put-queue c e (q ∷ qs) x.queued) a.queued; timely = a.timely; of = a.of; mine = same-mine (but c (q ∷ qs) (queues x)) (queues (with_queue c (q ∷ qs) x)) (λ e. at-put-queue c e (q ∷ qs) x.queued) a.mine };
    leases = same-leases c (q ∷ qs) x a.leases;
  }

  -- one of them has begun
  pub next : (c : ℕ) (q : ℕ × Call) (qs : List (ℕ × Call)) (m : LeaseMoving) → Begins c (q ∷ qs) m.world → is_held c m.world ≡ false → (begun c q m).fault ≡ None → Begins c qs (begun c q m).world
  next c q qs m a free f = go (resume c q.0 q.1 m.world.world).fault refl f
    where
      go : (o : Option WorldFault) → (resume c q.0 q.1 m.world.world).fault ≡ o
          → (elim o as (λ z. LeaseMoving) [ Some e ↦ fails (fault.World e) m.world | None ↦ shows (map Line (resume c q.0 q.1 m.world.world).shown) (in_world (resume c q.0 q.1 m.world.world).world m.world) ]).fault ≡ None
          → Begins c qs (elim o as (λ z. LeaseMoving) [ Some e ↦ fails (fault.World e) m.world | None ↦ shows (map Line (resume c q.0 q.1 m.world.world).shown) (in_world (resume c q.0 q.1 m.world.world).world m.world) ]).world
      go (Some e) p f = no-fault f
      go None p f = record {
        timely = (let h = whole d wf sixteen unmade m.world.world a.reached in resume-timed m.world.world h.0 h.1 h.2 a.timely c q.0 q.1 (head-may (queues m.world) m.world.world c q qs a.queued).bounded (told-in d wf sixteen unmade m.world a.reached a.leases c free));
        leases = quiet-agrees m.world (resume c q.0 q.1 m.world.world).world (resume-stays m.world.world c q.0 q.1 p) a.leases;
        of = adds-of P m.world.world (resume c q.0 q.1 m.world.world) a.of (resume-adds P m.world.world a.of.calls c q.0 q.1 (a.mine c q.0 q.1 (head-in (queues m.world) m.world.world c q qs a.queued)) p);
        mine = λ e l cl i. a.mine e l cl (in-rest (queues m.world) m.world.world c q qs a.queued e (l, cl) i);
        reached = ways.resumes m.world.world a.reached c q.0 q.1 (head-may (queues m.world) m.world.world c q qs a.queued) p;
        queued = queues-on (but c qs (queues m.world)) m.world.world (resume c q.0 q.1 m.world.world) (λ e l cl i. (let k = (rest-agrees (queues m.world) m.world.world c q qs a.queued).may e l cl i in
            resume-adds (Apart l) m.world.world (unused m.world.world e l cl k) c q.0 q.1 (head-apart (queues m.world) m.world.world c q qs a.queued e l cl i) p))
            (rest-agrees (queues m.world) m.world.world c q qs a.queued);
      }

  begin-good : (c : ℕ) (qs : List (ℕ × Call)) (m : LeaseMoving) → Begins c qs m.world → (begin_each c qs m).fault ≡ None → Both (begin_each c qs m).world
  begin-good c [] m a f = left-good c [] m.world a
  begin-good c (q ∷ qs) m a f = by (is_held c m.world) refl (λ x e. begin-good c qs (begun c q m) x e) f
    where
      goes : is_held c m.world ≡ false → (Begins c qs (begun c q m).world → (begin_each c qs (begun c q m)).fault ≡ None → Both (begin_each c qs (begun c q m)).world)
          → (o : Option LeaseFault) → (begun c q m).fault ≡ o → (elim o as (λ z. LeaseMoving) [ Some e ↦ begun c q m | None ↦ begin_each c qs (begun c q m) ]).fault ≡ None
          → Both (elim o as (λ z. LeaseMoving) [ Some e ↦ begun c q m | None ↦ begin_each c qs (begun c q m) ]).world
      goes free more (Some e) p f = no-fault (sym p ∙ f)
      goes free more None p f = more (next c q qs m a free p) f

      by : (z : Bool) → is_held c m.world ≡ z → (Begins c qs (begun c q m).world → (begin_each c qs (begun c q m)).fault ≡ None → Both (begin_each c qs (begun c q m)).world)
          → (elim z as (λ y. LeaseMoving) [ true ↦ record m { world = with_queue c (q ∷ qs) m.world } | false ↦ elim (begun c q m).fault as (λ k. LeaseMoving) [ Some e ↦ begun c q m | None ↦ begin_each c qs (begun c q m) ] ]).fault ≡ None
          → Both (elim z as (λ y. LeaseMoving) [ true ↦ record m { world = with_queue c (q ∷ qs) m.world } | false ↦ elim (begun c q m).fault as (λ k. LeaseMoving) [ Some e ↦ begun c q m | None ↦ begin_each c qs (begun c q m) ] ]).world
      by true e more f = left-good c (q ∷ qs) m.world a
      by false free more f = goes free more (begun c q m).fault refl f

  pub begins-all : (c : ℕ) (x : LeaseWorld) → Both x → Begins c (queues x c) x
  begins-all c x b =
      let a = b.good in
      record { reached = a.reached; queued = queues-same (queues x) (but c (queues x c) (queues x)) x.world (λ e. its e (e == c) refl) a.queued; timely = a.timely; of = a.of; mine = same-mine (queues x) (but c (queues x c) (queues x)) (λ e. its e (e == c) refl) a.mine; leases = b.leases }
    where
      its : (e : ℕ) (z : Bool) → (e == c) ≡ z → cond (e == c) (queues x c) (queues x e) ≡ queues x e
      its e true q = ap (λ z. cond z (queues x c) (queues x e)) q ∙ ap (queues x) (sym (equal e c q))
      its e false q = ap (λ z. cond z (queues x c) (queues x e)) q

  queued-good : (cs : List ℕ) (m : LeaseMoving) → (m.fault ≡ None → Both m.world) → (begin_queued cs m).fault ≡ None → Both (begin_queued cs m).world
  queued-good [] m a f = a f
  queued-good (c ∷ cs) m a f = by m.fault refl (λ x e. queued-good cs (gone_on c m) x e) f
    where
      by : (o : Option LeaseFault) → m.fault ≡ o → (((gone_on c m).fault ≡ None → Both (gone_on c m).world) → (begin_queued cs (gone_on c m)).fault ≡ None → Both (begin_queued cs (gone_on c m)).world)
          → (elim o as (λ z. LeaseMoving) [ Some e ↦ m | None ↦ begin_queued cs (gone_on c m) ]).fault ≡ None → Both (elim o as (λ z. LeaseMoving) [ Some e ↦ m | None ↦ begin_queued cs (gone_on c m) ]).world
      by (Some e) q more f = no-fault (sym q ∙ f)
      by None q more f = more (λ e. begin-good c (queues m.world c) m (begins-all c m.world (a q)) e) f

  -- Each event.

  module _ (fate : Fate) (x : LeaseWorld) (a : Good x) (leases : LeasesAgree x) where
    choose : (z : Bool) (m n : LeaseMoving) → (z ≡ true → Good m.world) → (z ≡ false → n.fault ≡ None → Good n.world) → (elim z as (λ y. LeaseMoving) [ true ↦ m | false ↦ n ]).fault ≡ None → Good (elim z as (λ y. LeaseMoving) [ true ↦ m | false ↦ n ]).world
    choose true m n b k f = b refl
    choose false m n b k f = k refl f

    end-good : (c : ℕ) (o : Option ℕ) → (end fate c o x).fault ≡ None → Good (end fate c o x).world
    end-good c None f = event-good fate (of_world.End c) x a tt tt tt f
    end-good c (Some m) f = choose (nat_lt x.now m) (shows (Held c m ∷ []) x) (world_happens fate (of_world.End c) x) (λ q. a) (λ q. event-good fate (of_world.End c) x a tt tt tt) f

    restart-good : (noted_if_started (world_happens fate of_world.Restart x)).fault ≡ None → Good (noted_if_started (world_happens fate of_world.Restart x)).world
    restart-good f = by (list_any is_started m.shown) f
      where
        m : LeaseMoving
        m = world_happens fate of_world.Restart x

        noted : (o : Option Server) → Good m.world → Good (note_open o m.world)
        noted None b = b
        noted (Some v) b = let r = note-leaves 0 v.durable.sessions m.world in same-good m.world (note_slots 0 v.durable.sessions m.world) r.0 r.1 b

        by : (z : Bool) → (elim z as (λ y. LeaseMoving) [ true ↦ record m { world = note_open m.world.world.server m.world } | false ↦ m ]).fault ≡ None
            → Good (elim z as (λ y. LeaseMoving) [ true ↦ record m { world = note_open m.world.world.server m.world } | false ↦ m ]).world
        by true f = noted m.world.world.server (event-good fate of_world.Restart x a tt tt tt f)
        by false f = event-good fate of_world.Restart x a tt tt tt f

    -- the queue of a clerk that crashes vanishes
    emptied : (c : ℕ) → Good (with_queue c [] x)
    emptied c = record {
      reached = a.reached;
      queued = queues-same (but c [] (queues x)) (queues (with_queue c [] x)) x.world (λ e. at-without-queue c e x.queued) (record { may = λ e l cl i. kept e l cl (e == c) i; apart = λ e. apart e (e == c) });
      timely = a.timely;
      of = a.of;
      mine = same-mine (but c [] (queues x)) (queues (with_queue c [] x)) (λ e. at-without-queue c e x.queued) (λ e l cl i. left e l cl (e == c) i);
    }
      where
        left : (e l : ℕ) (cl : Call) (z : Bool) → Contains (cond z [] (queues x e)) (l, cl) → P l e cl
        left e l cl true i = none i.1
          where
            none : {A : Type 0} {n : ℕ} → n < 0 → A
            none p = absurd (omega (arith, p))
        left e l cl false i = a.mine e l cl i

        kept : (e l : ℕ) (cl : Call) (z : Bool) → Contains (cond z [] (queues x e)) (l, cl) → MayResume x.world e l cl
        kept e l cl true i = none i.1
          where
            none : {A : Type 0} {n : ℕ} → n < 0 → A
            none p = absurd (omega (arith, p))
        kept e l cl false i = a.queued.may e l cl i

        apart : (e : ℕ) (z : Bool) → CallsAreApart (cond z [] (queues x e))
        apart e true = tt
        apart e false = a.queued.apart e

    world-good : (e : Event) → MayHappen x.world e → MayBe P e → (event_happens fate e x).fault ≡ None → Good (event_happens fate e x).world
    world-good (of_world.Call c l cl) may be f = choose (is_held c x) (queue c l cl x) (world_happens fate (of_world.Call c l cl) x) (λ h. queue-good c l cl x a h may be) (λ h. event-good fate (of_world.Call c l cl) x a may (told-in d wf sixteen unmade x a.reached leases c h, may.2) be) f
    world-good (of_world.Deliver n) may be f = choose (is_kept n x) (nothing x) (world_happens fate (of_world.Deliver n) x) (λ q. nothing-good x a) (λ q. event-good fate (of_world.Deliver n) x a tt (may-deliver d wf sixteen unmade x a.reached leases n q) tt) f
    world-good (of_world.Crash c) may be f = event-good fate (of_world.Crash c) (with_queue c [] x) (emptied c) tt tt tt f
    world-good (of_world.End c) may be f = end-good c (ends_at c (open_session c x.world) x) f
    world-good of_world.Restart may be f = restart-good f
    world-good (of_world.Push c n) may be f = event-good fate (of_world.Push c n) x a tt tt tt f
    world-good (of_world.Resend c) may be f = event-good fate (of_world.Resend c) x a tt tt tt f
    world-good (of_world.Cut c) may be f = event-good fate (of_world.Cut c) x a tt tt tt f
    world-good (of_world.Uncut c) may be f = event-good fate (of_world.Uncut c) x a tt tt tt f
    world-good (of_world.Drop n) may be f = event-good fate (of_world.Drop n) x a tt tt tt f
    world-good (of_world.Repeat n) may be f = event-good fate (of_world.Repeat n) x a tt tt tt f
    world-good of_world.Stop may be f = event-good fate of_world.Stop x a tt tt tt f
    world-good (of_world.Arm n ch) may be f = event-good fate (of_world.Arm n ch) x a tt tt tt f

    grant-good : (c : ℕ) (o : Option ℕ) → Good (grant c o x).world
    grant-good c None = nothing-good x a
    grant-good c (Some s) = same-good x (issue c s x) refl refl a

    hand-good : (c : ℕ) (o : Option Lease) → (hand c o x).fault ≡ None → Good (hand c o x).world
    hand-good c None f = no-fault f
    hand-good c (Some b) f = by (may_receive c b x)
      where
        by : (z : Bool) → Good (elim z as (λ y. LeaseMoving) [ true ↦ moving (receive c b x) | false ↦ nothing x ]).world
        by true = same-good x (receive c b x) refl refl a
        by false = nothing-good x a

    pub happens-good : (e : LeaseEvent) → MayStep x e → MayAsk P e → (happens fate e x).fault ≡ None → Good (happens fate e x).world
    happens-good (event.World e) may be f = world-good e may be f
    happens-good (event.Tick n) may be f = same-good x (record x { now = x.now + n }) refl refl a
    happens-good (event.Skew c s) may be f = same-good x (record x { skews = put c s x.skews }) refl refl a
    happens-good (event.Grant c) may be f = grant-good c (open_session c x.world)
    happens-good (event.Hand c n) may be f = hand-good c (nth n (at_or [] c x.issued)) f
    happens-good event.Renew may be f = let r = renew-leaves clerks x in same-good x (renew_each clerks x) r.0 r.1 a

    pub step-good : (e : LeaseEvent) → MayStep x e → MayAsk P e → (step fate e x).fault ≡ None → Both (step fate e x).world
    step-good e may be f = queued-good clerks (happens fate e x) (λ q. record { good = happens-good e may be q; leases = each-agrees (opened_in d).first_boot fate x (asks d wf sixteen unmade x.world a.reached) leases e q }) f

  -- Worlds that are opened, forget old messages, or show that a line didn't settle.

  pub opens-good : (l e : ℕ) (w : World) → open_world d ≡ Ok w → Good (opened_leases l e w)
  opens-good l e w q = record {
    reached = ways.opens w q;
    queued = record { may = λ c k cl i. none i.1; apart = λ c. tt };
    timely = subst (AreTimely []) (sym (no-lines d wf sixteen unmade w q)) tt;
    of = record {
      calls = λ c n l cl x. absurd (none_some (sym (ap (λ t. call_of c n t) (no-calls d wf sixteen unmade w q)) ∙ x));
      shown = subst (EachLine (IsOf P)) (sym (no-lines d wf sixteen unmade w q)) tt;
    };
    mine = λ c l cl i. none i.1;
  }
    where
      none : {A : Type 0} {n : ℕ} → n < 0 → A
      none p = absurd (omega (arith, p))

  pub forgets-good : (x : LeaseWorld) → Both x → Both (in_world (forget x.world) x)
  forgets-good x k = record {
    good = record {
      reached = ways.forgets x.world k.good.reached;
      queued = queues-on (queues x) x.world (world.moving (forget x.world)) (λ c l cl i. quiet-adds (Apart l) x.world (unused x.world c l cl (k.good.queued.may c l cl i)) (forget x.world) refl refl) k.good.queued;
      timely = k.good.timely;
      of = record { calls = k.good.of.calls; shown = k.good.of.shown };
      mine = k.good.mine;
    };
    leases = quiet-agrees x (forget x.world) refl k.leases;
  }

  pub unsettles-good : (x : LeaseWorld) → Both x → Both (in_world (world.show_line show.Unsettled (world.moving x.world)).world x)
  unsettles-good x k = record {
    good = record {
      reached = ways.unsettles x.world k.good.reached;
      queued = queues-on (queues x) x.world (world.show_line show.Unsettled (world.moving x.world))
          (λ c l cl i. line-adds (Apart l) x.world (world.moving x.world) (quiet-adds (Apart l) x.world (unused x.world c l cl (k.good.queued.may c l cl i)) x.world refl refl) show.Unsettled tt) k.good.queued;
      timely = timely-append [] x.world.shown (show.Unsettled ∷ []) k.good.timely (tt, tt);
      of = adds-of P x.world (world.show_line show.Unsettled (world.moving x.world)) k.good.of (line-adds P x.world (world.moving x.world) (quiet-adds P x.world k.good.of.calls x.world refl refl) show.Unsettled tt);
      mine = k.good.mine;
    };
    leases = quiet-agrees x (world.show_line show.Unsettled (world.moving x.world)).world refl k.leases;
  }

-- All worlds with leases.
module _ (d : Durable) (wf : WellFormed d) (sixteen : length d.sessions ≡ 16) (unmade : images d.volume 0 ≡ Gone) where
  abbrev Any : ℕ → ℕ → Call → Type 0
  Any l c cl = ⊤

  any-ask : (e : LeaseEvent) → MayAsk Any e
  any-ask (event.World (of_world.Call c l cl)) = tt
  any-ask (event.World (of_world.Push c n)) = tt
  any-ask (event.World (of_world.Resend c)) = tt
  any-ask (event.World (of_world.Cut c)) = tt
  any-ask (event.World (of_world.Uncut c)) = tt
  any-ask (event.World (of_world.Drop n)) = tt
  any-ask (event.World (of_world.Repeat n)) = tt
  any-ask (event.World (of_world.Deliver n)) = tt
  any-ask (event.World (of_world.Crash c)) = tt
  any-ask (event.World (of_world.End c)) = tt
  any-ask (event.World of_world.Stop) = tt
  any-ask (event.World (of_world.Arm n ch)) = tt
  any-ask (event.World of_world.Restart) = tt
  any-ask (event.Tick n) = tt
  any-ask (event.Skew c s) = tt
  any-ask (event.Grant c) = tt
  any-ask (event.Hand c n) = tt
  any-ask event.Renew = tt

  both : (x : LeaseWorld) → LeaseReached d x → Both d wf sixteen unmade Any x
  both _ (opens l e w q) = record { good = opens-good d wf sixteen unmade Any l e w q; leases = opening-agrees l e w }
  both _ (steps x r fate e may f) = let k = both x r in step-good d wf sixteen unmade Any fate x k.good k.leases e may (any-ask e) f
  both _ (forgets x r) = forgets-good d wf sixteen unmade Any x (both x r)
  both _ (unsettles x r) = unsettles-good d wf sixteen unmade Any x (both x r)

  pub leases-reach : (x : LeaseWorld) → LeaseReached d x → LeasesReach d x
  leases-reach x r = let k = both x r in record { reached = k.good.reached; leases = k.leases; queued = k.good.queued; timely = k.good.timely }

  -- Printed order is legal.
  pub leases-printed : (x : LeaseWorld) → LeaseReached d x → IsLeased (images d.volume) d.max_objects x.world
  leases-printed x r =
      let k = (both x r).good in
      let o = queued-in-order d wf sixteen unmade x.world k.reached in
      record { order = o; legal = λ front rest q. legal o front rest q (timely-front [] front rest (subst (AreTimely []) (sym q) k.timely)) }
    where
      legal : (o : IsInOrder (images d.volume) d.max_objects x.world) (front rest : List Shown) → front ++ rest ≡ x.world.shown → AreTimely [] front → IsLegal (placed_on (images d.volume) o.top) d.max_objects (printed front)
      legal o front rest q t = timely-legal (placed_on (images d.volume) o.top) d.max_objects front t
          (λ first more e. (o.lawful first (more ++ rest) (sym (append_assoc first more rest) ∙ ap (λ z. z ++ rest) e ∙ q)).history)
