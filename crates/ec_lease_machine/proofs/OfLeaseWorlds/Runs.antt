-- A run over a script with leases: each of its worlds is reached, and its lines are those of its pieces.
use Rattle.std.proofs.Common.{◌≡◌, refl, sym, ap, subst, ◌∙◌, inl, inr, arith, ◌<◌, ◌≤◌, ◌+◌, ◌-◌, ℕ, suc, zero, Bool, true, false, ◌==◌, ◌||◌, length, List, [], ◌∷◌, ◌++◌, Option, Some, None, append-nil, append_assoc}
use Rattle.std.specs.Prelude.{slice_get, map, nat_lt, take, Ok, ⊤}
use Rattle.std.specs.List.{list_any}
use Rattle.std.proofs.lemmas.List.{length-append}
use Rattle.ec_base.specs.Bools.{one_if}
use Rattle.ec_base.specs.Tables.{at, at_or}
use Rattle.ec_plain.specs.declared.call.Call.{Call}
use Rattle.ec_volume.specs.Volume.{images}
use Rattle.ec_volume.specs.declared.image.Image.TheVariants.{Gone}
use Rattle.ec_history.specs.History.{Each}
use Rattle.ec_history.specs.Placing.{EachLine, is_numbered}
use Rattle.ec_history.specs.declared.shown.Shown.{Shown}
use Rattle.ec_history.specs.declared.shown.Shown.TheVariants as show
use Rattle.ec_durable.specs.WellFormed.{WellFormed}
use Rattle.ec_durable.specs.declared.state.Durable.{Durable}
use Rattle.ec_protocol.specs.World as world
use Rattle.ec_protocol.specs.World.{Fate, runs, find, happen, open_world}
use Rattle.ec_protocol.specs.declared.server.Server.{Server}
use Rattle.ec_protocol.specs.declared.world.Event.{Event}
use Rattle.ec_protocol.specs.declared.world.Event.TheVariants as of_world
use Rattle.ec_protocol.specs.declared.world.World.{World}
use Rattle.ec_protocol.specs.declared.world.WorldFault.{WorldFault}
use Rattle.ec_protocol.specs.declared.world.WorldFault.TheVariants as world_fault
use Rattle.ec_protocol.specs.Drill.{Fates, this_fate, later_fates, first_fates, rest_fates, Ending, Done, BadLine, TooMany, IsSpent, max_pending}
use Rattle.ec_protocol.specs.declared.script.Line.{Line as Scripted}
use Rattle.ec_protocol.specs.declared.script.Line.TheVariants as line
use Rattle.ec_coherence.specs.Steps.{call_of}
use Rattle.ec_lawful.specs.Calls.{IsOf}
use Rattle.ec_lawful.specs.Asked.{EndsAsked, asked_by, ended_by}
use Rattle.ec_lawful.specs.Headline.{AreEndsAsked, ArePieces, FrontsAreLawful, IsPiece, Lines, Pieces, joined, may_end, placed_on}
use Rattle.ec_lawful.specs.Olds.{opened_in}
use Rattle.ec_lawful.specs.Reached.{IsInOrder}
use Rattle.ec_lawful.proofs.ForAsked.EventsAsk.{deliver-asks}
use Rattle.ec_lawful.proofs.ForAsked.Opened.{opened-asks}
use Rattle.ec_lawful.proofs.ForAsked.ServingAsks.{weaken}
use Rattle.ec_lawful.proofs.ForAsked.Shown.{asked-show}
use Rattle.ec_lawful.proofs.ForWhole.Opens.{world-stands}
use Rattle.ec_lawful.proofs.Fronts.{asked-line, fronts-more, fronts-push, joined-push}
use Rattle.ec_lawful.proofs.Lined.{calls-lined}
use Rattle.ec_lawful.proofs.Numbers.{IsKnown, Two, behind-lines, known-piece, one-lines, other-lines, own-known, pieces-push, two-lines}
use Rattle.ec_lawful.proofs.Worlds.{no-lines}
use Rattle.ec_history.specs.OfLaws.OfPrinted.Timely.{AreTimely}
use Rattle.ec_history.proofs.OfLaws.OfPrinted.Lines.{timely-legal}
use Rattle.ec_lease_machine.proofs.OfTimely.Lines.{timely-front}
use Rattle.ec_lease_machine.specs.OfQueues.Reached.{QueuedReached}
use Rattle.ec_lease_machine.proofs.OfQueues.Worlds.{queued-hold, queued-in-order}
use Rattle.ec_protocol.specs.Resumes.{open_session}
use Rattle.ec_lease_machine.specs.Drill.{LeaseRan, LeaseRead, bound, carry_out, close, drill_line, lease_ending, ends, forgotten, is_stopped, joined_lease, last_restart, line_happens, on_message, piece_before, reads, renewed, run_from, unfit, world_happens}
use Rattle.ec_lease_machine.specs.Leases.{LeaseMoving, end, ends_at, event_happens, fails, grant, hand, happens, in_world, is_held, is_kept, is_started, may_receive, moving, note_open, noted_if_started, nothing, nth, opened_leases as opened, queue, receive, shows, step, with_queue}
use Rattle.ec_lease_machine.specs.Leases as leases
use Rattle.ec_lease_machine.specs.declared.script.LeaseLine.{LeaseLine}
use Rattle.ec_lease_machine.specs.declared.script.LeaseLine.TheVariants as lines
use Rattle.ec_lease_machine.specs.declared.world.Lease.{Lease}
use Rattle.ec_lease_machine.specs.declared.world.LeaseEvent.{LeaseEvent}
use Rattle.ec_lease_machine.specs.declared.world.LeaseEvent.TheVariants as event
use Rattle.ec_lease_machine.specs.declared.world.LeaseFault.{LeaseFault}
use Rattle.ec_lease_machine.specs.declared.world.LeaseFault.TheVariants as fault
use Rattle.ec_lease_machine.specs.declared.world.LeaseShown.{LeaseShown}
use Rattle.ec_lease_machine.specs.declared.world.LeaseShown.TheVariants.{Line, Held}
use Rattle.ec_lease_machine.specs.declared.world.LeaseWorld.{LeaseWorld}
use Rattle.ec_lease_machine.proofs.OfLeaseLaws.Steps.{opening-agrees}
use Rattle.ec_lease_machine.specs.OfLeaseWorlds.Queues.{MayAsk, MayStep}
use Rattle.ec_lease_machine.specs.OfLeaseWorlds.Lines.{lease_run, unheld}
use Rattle.ec_lease_machine.specs.OfLeaseWorlds.Runs.{AreAskedBy, AreLeased, IsCallIn, IsFit, as_line}
use Rattle.ec_lease_machine.proofs.OfLeaseWorlds.Asking.{AsksAs, line-asks, nothing-asks, resume-asks, unsettled-asks, wait-asks}
use Rattle.ec_base.proofs.Options.{no-fault}
use Rattle.ec_lease_machine.proofs.OfLeaseWorlds.Coming.{Came, IsOther, Keeps, Stands, fault-none, message-came, moving-came, of-turn, renewed-came, settle-came, step-came, unheld-append}
use Rattle.ec_lease_machine.proofs.OfLeaseWorlds.Reaching.{Both, asks, forgets-good, note-leaves, opens-good}
use Rattle.ec_history.proofs.PlacingLemmas.{each-turn}

-- numbers of lines before this one
abbrev pub Below : ℕ → ℕ → ℕ → Call → Type 0
Below n l c cl = l < n

-- so a line of this number is new
pub unshown : (n : ℕ) (ss : List Shown) → EachLine (IsOf (Below n)) ss → list_any (is_numbered n) ss ≡ false
unshown n [] e = refl
unshown n (s ∷ ss) e = ap (λ z. z || list_any (is_numbered n) ss) (one s e.0) ∙ unshown n ss e.1
  where
    less : (k m : ℕ) → k < m → (k == m) ≡ false
    less k m p = grind (arith, p)

    one : (s : Shown) → IsOf (Below n) s → is_numbered n s ≡ false
    one (show.Waits k d dl) p = less k n p
    one (show.Answered k d dl a op) p = less k n p
    one (show.Durable d ns) p = refl
    one (show.Ended d ns) p = refl
    one (show.Unseen d) p = refl
    one (show.Told d ns) p = refl
    one (show.Crashed d) p = refl
    one show.Stopped p = refl
    one show.Started p = refl
    one show.Nothing p = refl
    one show.Unsettled p = refl
    one (show.Bad k m) p = refl
    one (show.DiskBad k) p = refl
    one (show.Limit k m) p = refl
    one (show.Spent k) p = refl

-- the ending isn't by one
abbrev pub IsUnspent : Ending → Type 0
IsUnspent (IsSpent n) = ⊥
IsUnspent Done = ⊤
IsUnspent (BadLine n k) = ⊤
IsUnspent (TooMany n) = ⊤

-- Lines of a script.

at-place : (before : List LeaseRead) (r : LeaseRead) (rest : List LeaseRead) → slice_get (before ++ r ∷ rest) (length before) ≡ Some r
at-place [] r rest = refl
at-place (b ∷ before) r rest = at-place before r rest

one-longer : (before : List LeaseRead) (r : LeaseRead) → length (before ++ r ∷ []) ≡ length before + 1
one-longer [] r = refl
one-longer (b ∷ before) r = ap (λ k. suc k) (one-longer before r) ∙ shifted (length before)
  where
    shifted : (k : ℕ) → suc (k + 1) ≡ suc k + 1
    shifted k = omega arith

module _ (d : Durable) (wf : WellFormed d) (sixteen : length d.sessions ≡ 16) (unmade : images d.volume 0 ≡ Gone) (script : List LeaseRead) where
  -- a call of the script, in a line before this one
  abbrev S : ℕ → ℕ → ℕ → Call → Type 0
  S n l c cl = (l < n) × IsCallIn script l c cl

  its : (n l c : ℕ) (cl : Call) → S n l c cl → IsCallIn script l c cl
  its n l c cl p = p.1

  -- What lines of a script ask for.

  abbrev first : ℕ → ℕ
  first = (opened_in d).first_boot

  abbrev Asked : (ℕ → ℕ) → World → Type 0
  Asked asked w = EndsAsked first asked w

  abbrev with_line : (ℕ → ℕ) → Scripted → ℕ → ℕ
  with_line asked l c = asked c + one_if (may_end c l)

  asked-keeps : (asked : ℕ → ℕ) → Keeps d wf sixteen unmade (Asked asked)
  asked-keeps asked = record {
    delivers = λ fate n w r i f. deliver-asks first asked fate n w (asks d wf sixteen unmade w r) i f;
    begins = resume-asks first asked;
    nothing = nothing-asks first asked;
    unsettles = unsettled-asks first asked;
  }

  module _ (fate : Fate) (asked : ℕ → ℕ) (l : Scripted) (x : LeaseWorld) (r : QueuedReached d x.world) (i : Asked asked x.world) where
    abbrev After : LeaseMoving → Type 0
    After m = m.fault ≡ None → Asked (with_line asked l) m.world.world

    still : Asked (with_line asked l) x.world
    still = weaken first asked (with_line asked l) x.world (λ c. less (asked c) (one_if (may_end c l))) i
      where
        less : (n k : ℕ) → n ≤ n + k
        less n k = omega arith

    moves : (e : Event) → AsksAs l e → (y : LeaseWorld) (o : Option WorldFault) → (happen fate e x.world).fault ≡ o
        → After (elim o as (λ z. LeaseMoving) [ Some f ↦ fails (fault.World f) y | None ↦ shows (map Line (happen fate e x.world).shown) (in_world (happen fate e x.world).world y) ])
    moves e s y (Some f) q n = no-fault n
    moves e s y None q n = line-asks first asked fate l e s x.world (asks d wf sixteen unmade x.world r) i q

    happens-after : (e : Event) → AsksAs l e → After (leases.world_happens fate e x)
    happens-after e s = moves e s x (happen fate e x.world).fault refl

    none-after : After (nothing x)
    none-after f = nothing-asks first (with_line asked l) x.world still

    one-after : (z : Bool) (m n : LeaseMoving) → After m → After n → After (elim z as (λ y. LeaseMoving) [ true ↦ m | false ↦ n ])
    one-after true m n a b = a
    one-after false m n a b = b

    end-after : (c : ℕ) → AsksAs l (of_world.End c) → (o : Option ℕ) → After (end fate c o x)
    end-after c s None = happens-after (of_world.End c) s
    end-after c s (Some m) = one-after (nat_lt x.now m) (shows (Held c m ∷ []) x) (leases.world_happens fate (of_world.End c) x) (λ f. still) (happens-after (of_world.End c) s)

    restart-after : AsksAs l of_world.Restart → After (noted_if_started (leases.world_happens fate of_world.Restart x))
    restart-after s = by (list_any is_started m.shown)
      where
        m : LeaseMoving
        m = leases.world_happens fate of_world.Restart x

        noted : (o : Option Server) → (note_open o m.world).world ≡ m.world.world
        noted None = refl
        noted (Some v) = (note-leaves 0 v.durable.sessions m.world).0

        by : (z : Bool) → After (elim z as (λ y. LeaseMoving) [ true ↦ record m { world = note_open m.world.world.server m.world } | false ↦ m ])
        by true f = subst (Asked (with_line asked l)) (sym (noted m.world.world.server)) (happens-after of_world.Restart s f)
        by false f = happens-after of_world.Restart s f

    event-after : (e : Event) → AsksAs l e → After (event_happens fate e x)
    event-after (of_world.Call c n cl) s = one-after (is_held c x) (queue c n cl x) (leases.world_happens fate (of_world.Call c n cl) x) (λ f. wait-asks first (with_line asked l) c n cl x.world still) (happens-after (of_world.Call c n cl) s)
    event-after (of_world.Deliver n) s = one-after (is_kept n x) (nothing x) (leases.world_happens fate (of_world.Deliver n) x) none-after (happens-after (of_world.Deliver n) s)
    event-after (of_world.Crash c) s = moves (of_world.Crash c) s (with_queue c [] x) (happen fate (of_world.Crash c) x.world).fault refl
    event-after (of_world.End c) s = end-after c s (ends_at c (open_session c x.world) x)
    event-after of_world.Restart s = restart-after s
    event-after (of_world.Push c n) s = happens-after (of_world.Push c n) s
    event-after (of_world.Resend c) s = happens-after (of_world.Resend c) s
    event-after (of_world.Cut c) s = happens-after (of_world.Cut c) s
    event-after (of_world.Uncut c) s = happens-after (of_world.Uncut c) s
    event-after (of_world.Drop n) s = happens-after (of_world.Drop n) s
    event-after (of_world.Repeat n) s = happens-after (of_world.Repeat n) s
    event-after of_world.Stop s = happens-after of_world.Stop s
    event-after (of_world.Arm n ch) s = happens-after (of_world.Arm n ch) s

    grant-after : (c : ℕ) (o : Option ℕ) → After (grant c o x)
    grant-after c None = none-after
    grant-after c (Some s) = λ f. still

    hand-after : (c : ℕ) (o : Option Lease) → After (hand c o x)
    hand-after c None = λ f. no-fault f
    hand-after c (Some b) = one-after (may_receive c b x) (moving (receive c b x)) (nothing x) (λ f. still) none-after

  -- Calls, each with its line.

  -- each call under way has its line
  lined : (w : World) → QueuedReached d w → (c n l : ℕ) (cl : Call) → call_of c n w.calls ≡ Some (l, cl) → list_any (is_numbered l) w.shown ≡ true
  lined w r c n l cl q =
      let h = queued-hold d wf sixteen unmade w r in
      ap (list_any (is_numbered l)) (h.2).shown ∙ calls-lined h.0 ((h.1).0).calls ((h.1).0).rest c n l cl (sym (ap (call_of c n) (h.2).calls) ∙ q)

  -- so all calls of a world, and all that are queued, are of lines that are shown
  known-both : (Q R : ℕ → ℕ → Call → Type 0) → ((l c : ℕ) (cl : Call) → Q l c cl → R l c cl) → (k : ℕ) (x : LeaseWorld) → Both d wf sixteen unmade Q x → Both d wf sixteen unmade (Two R (IsKnown x.world.shown k)) x
  known-both Q R f k x b = record {
    good = record {
      reached = b.good.reached;
      queued = b.good.queued;
      timely = b.good.timely;
      of = record {
        calls = λ e m l cl q. (f l e cl (b.good.of.calls e m l cl q), inr (lined x.world b.good.reached e m l cl q));
        shown = two-lines R (IsKnown x.world.shown k) x.world.shown (each-turn (IsOf Q) (IsOf R) (of-turn Q R f) x.world.shown b.good.of.shown) (own-known x.world.shown k x.world.shown (λ l e. e));
      };
      mine = λ e l cl i. (f l e cl (b.good.mine e l cl i), inr (b.good.queued.may e l cl i).shown);
    };
    leases = b.leases;
  }

  first-both : (Q R : ℕ → ℕ → Call → Type 0) (x : LeaseWorld) → Both d wf sixteen unmade (Two Q R) x → Both d wf sixteen unmade Q x
  first-both Q R x b = record {
    good = record {
      reached = b.good.reached;
      queued = b.good.queued;
      timely = b.good.timely;
      of = record { calls = λ e m l cl q. (b.good.of.calls e m l cl q).0; shown = one-lines Q R x.world.shown b.good.of.shown };
      mine = λ e l cl i. (b.good.mine e l cl i).0;
    };
    leases = b.leases;
  }

  -- lines shown behind these are a piece of this number
  piece-of : (Q : ℕ → ℕ → Call → Type 0) (k : ℕ) (past piece ss : List Shown) → EachLine (IsOf (Two Q (IsKnown past k))) ss → ss ≡ past ++ piece → IsPiece k past piece
  piece-of Q k past piece ss own lines = subst (λ y. IsPiece k y piece) (append-nil past)
      (known-piece k past [] piece (behind-lines (IsOf (IsKnown past k)) past piece (subst (EachLine (IsOf (IsKnown past k))) lines (other-lines Q (IsKnown past k) ss own))))

  abbrev Mine : ℕ → List Shown → ℕ → ℕ → Call → Type 0
  Mine n past = Two (S (n + 1)) (IsKnown past n)

  -- a line may be carried out whose number is that of the next one
  line-came : (fate : Fate) (n : ℕ) (l : LeaseLine) (col : ℕ) → 1 ≤ n → slice_get script (n - 1) ≡ Some (reads l col) → (x : LeaseWorld) → Both d wf sixteen unmade (S n) x → (asked : ℕ → ℕ) → Asked asked x.world → ((k : ℕ) → IsFit (reads l k))
      → Came d wf sixteen unmade (Mine n x.world.shown) (Asked (with_line asked (as_line (reads l col)))) (asked-keeps (with_line asked (as_line (reads l col)))) x.world.shown (line_happens fate n l x)
  line-came fate n l col one here x b asked i fit = at-line l fit here
    where
      wider : (k m : ℕ) → k < m → k < m + 1
      wider k m p = omega (arith, p)

      -- all numbers are below the next one
      c : Both d wf sixteen unmade (Mine n x.world.shown) x
      c = known-both (S n) (S (n + 1)) (λ k e cl p. (wider k n p.0, p.1)) n x b

      next-one : (m : ℕ) → m < m + 1
      next-one m = omega arith

      I : Scripted → World → Type 0
      I s = Asked (with_line asked s)

      Comes : Scripted → LeaseMoving → Type 0
      Comes s m = Came d wf sixteen unmade (Mine n x.world.shown) (I s) (asked-keeps (with_line asked s)) x.world.shown m

      stays : (s : Scripted) → I s x.world
      stays s = still fate asked s x b.good.reached i

      does : (s : Scripted) (e : Event) → AsksAs s e → MayStep x (event.World e) → MayAsk (Mine n x.world.shown) (event.World e) → Comes s (world_happens fate e x)
      does s e same may be = step-came d wf sixteen unmade (Mine n x.world.shown) (I s) (asked-keeps (with_line asked s)) fate (event.World e) x c (stays s) may be (event-after fate asked s x b.good.reached i e same)

      message : (s : Scripted) (f : ℕ → Event) → ((m : ℕ) → AsksAs s (f m)) → ((m : ℕ) → MayStep x (event.World (f m)) × MayAsk (Mine n x.world.shown) (event.World (f m))) → (o : Option ℕ) → Comes s (on_message fate f o x)
      message s f same may o = message-came d wf sixteen unmade (Mine n x.world.shown) (I s) (asked-keeps (with_line asked s)) fate f o x c (stays s) may (λ m. event-after fate asked s x b.good.reached i (f m) (same m))

      at-drill : (s : Scripted) → ((k : ℕ) → IsFit (reads (lines.Drill s) k)) → slice_get script (n - 1) ≡ Some (reads (lines.Drill s) col) → Comes s (drill_line fate n s x)
      at-drill line.Comment fit at = moving-came d wf sixteen unmade (Mine n x.world.shown) (I line.Comment) (asked-keeps (with_line asked line.Comment)) x c (stays line.Comment)
      at-drill (line.Call e cl) fit at = does (line.Call e cl) (of_world.Call e n cl) (λ k. refl)
          (record { unshown = unshown n x.world.shown (each-turn (IsOf (S n)) (IsOf (Below n)) (of-turn (S n) (Below n) (λ k o dl p. p.0)) x.world.shown b.good.of.shown); unused = λ o m k dl q. (b.good.of.calls o m k dl q).0 }, (fit 0).0, (fit 0).1)
          ((next-one n, (one, col, at)), inl refl)
      at-drill (line.Push e m) fit at = does (line.Push e m) (of_world.Push e m) (λ k. refl) tt tt
      at-drill (line.Cut e) fit at = does (line.Cut e) (of_world.Cut e) (λ k. refl) tt tt
      at-drill (line.Uncut e) fit at = does (line.Uncut e) (of_world.Uncut e) (λ k. refl) tt tt
      at-drill (line.Drop e k m) fit at = message (line.Drop e k m) of_world.Drop (λ j k. refl) (λ j. (tt, tt)) (find e k m x.world)
      at-drill (line.Repeat e k m) fit at = message (line.Repeat e k m) of_world.Repeat (λ j k. refl) (λ j. (tt, tt)) (find e k m x.world)
      at-drill (line.Deliver e k m) fit at = message (line.Deliver e k m) of_world.Deliver (λ j k. refl) (λ j. (tt, tt)) (find e k m x.world)
      at-drill (line.Resend e) fit at = does (line.Resend e) (of_world.Resend e) (λ k. refl) tt tt
      at-drill (line.Crash e) fit at = does (line.Crash e) (of_world.Crash e) (λ k. refl) tt tt
      at-drill (line.End e) fit at = does (line.End e) (of_world.End e) (λ k. refl) tt tt
      at-drill line.Stop fit at = does line.Stop of_world.Stop (λ k. refl) tt tt
      at-drill (line.Arm m ch) fit at = does (line.Arm m ch) (of_world.Arm m ch) (λ k. refl) tt tt
      at-drill line.Restart fit at = does line.Restart of_world.Restart (λ k. refl) tt tt

      clock : (e : LeaseEvent) → MayStep x e → MayAsk (Mine n x.world.shown) e → After fate asked line.Comment x b.good.reached i (happens fate e x) → Comes line.Comment (step fate e x)
      clock e may be after = step-came d wf sixteen unmade (Mine n x.world.shown) (I line.Comment) (asked-keeps (with_line asked line.Comment)) fate e x c (stays line.Comment) may be after

      at-line : (s : LeaseLine) → ((k : ℕ) → IsFit (reads s k)) → slice_get script (n - 1) ≡ Some (reads s col) → Comes (as_line (reads s col)) (line_happens fate n s x)
      at-line (lines.Drill s) fit at = at-drill s fit at
      at-line (lines.Tick k) fit at = clock (event.Tick k) tt tt (λ f. stays line.Comment)
      at-line (lines.Skew e s) fit at = clock (event.Skew e s) tt tt (λ f. stays line.Comment)
      at-line (lines.Grant e) fit at = clock (event.Grant e) tt tt (grant-after fate asked line.Comment x b.good.reached i e (open_session e x.world))
      at-line (lines.Hand e k) fit at = clock (event.Hand e k) tt tt (hand-after fate asked line.Comment x b.good.reached i e (nth k (at_or [] e x.issued)))

  -- The lines of a script, from this number on.

  abbrev carried : List LeaseRead → Lines
  carried ls = map as_line ls

  -- A world behind these lines of the script, which gave these pieces.
  record Sofar (lines : Lines) (pieces : Pieces) (x : LeaseWorld) : Type 0 where
    shown : x.world.shown ≡ joined pieces
    asks : Asked (asked_by lines) x.world
    fronts : AreEndsAsked lines pieces
    numbered : ArePieces 1 [] pieces
    even : length lines ≡ length pieces

  -- one piece more
  record Pushed (lines : Lines) (pieces : Pieces) : Type 0 where
    fronts : AreEndsAsked lines pieces
    numbered : ArePieces 1 [] pieces

  pushed : (lines : Lines) (pieces : Pieces) (p : List Shown) (v : World) → AreEndsAsked lines pieces → ArePieces 1 [] pieces → length lines ≤ length pieces + 1 → Asked (asked_by lines) v → v.shown ≡ joined pieces ++ p
      → IsPiece (length pieces + 1) (joined pieces) p → Pushed lines (pieces ++ p ∷ [])
  pushed lines pieces p v a n few i q piece = record {
    fronts = fronts-push lines pieces p a few (λ c. subst (λ y. ended_by c y ≤ asked_by lines c) (q ∙ sym (joined-push pieces p)) (asked-show first (asked_by lines) v i c));
    numbered = pieces-push 1 (length pieces + 1) [] pieces p (turn (length pieces)) n piece;
  }
    where
      turn : (k : ℕ) → k + 1 ≡ 1 + k
      turn k = omega arith

  -- how a run ends that began behind these pieces: it carried out the first lines of the script
  record Ended (pieces : Pieces) (r : LeaseRan) : Type 0 where
    lines : Lines
    rest : Lines
    split : carried script ≡ lines ++ rest
    stands : Stands d wf sixteen unmade (IsCallIn script) (Asked (asked_by lines)) (joined pieces ++ unheld (joined_lease r.pieces)) r.world
    pushed : Pushed lines (pieces ++ map unheld r.pieces)
    few : length lines ≤ length (pieces ++ map unheld r.pieces)
    counted : length (pieces ++ map unheld r.pieces) ≤ length script
    good : IsUnspent r.ending → (n : ℕ) × Both d wf sixteen unmade (S n) r.world

  faulted : (n k : ℕ) (f : LeaseFault) → IsUnspent (lease_ending n k f) → IsOther (Some f)
  faulted n k (fault.World (world_fault.Spent m)) u = u
  faulted n k (fault.World world_fault.NoSuchOp) u = tt
  faulted n k (fault.World world_fault.NoSuchMsg) u = tt
  faulted n k (fault.World world_fault.DiskFailed) u = tt
  faulted n k (fault.World world_fault.NoMemory) u = tt
  faulted n k (fault.World (world_fault.BadDisk m)) u = tt
  faulted n k fault.NoSuchLease u = tt
  faulted n k fault.NoMemory u = tt

  more-than : (before : List LeaseRead) (r : LeaseRead) (ls : List LeaseRead) → script ≡ before ++ r ∷ ls → length before + 1 ≤ length script
  more-than before r ls whole = by (length ls) (ap length whole ∙ length-append before (r ∷ ls))
    where
      by : (k : ℕ) → length script ≡ length before + suc k → length before + 1 ≤ length script
      by k e = omega (arith, e)

  run-ended : (before : List LeaseRead) (done : Lines) (pieces : Pieces) (k n : ℕ) (ls : List LeaseRead) (fs : List Fates) (x : LeaseWorld) → script ≡ before ++ ls → carried script ≡ done ++ carried ls → length before ≡ length pieces → n ≡ length before + 1
      → Sofar done pieces x → Both d wf sixteen unmade (S n) x → Each IsFit ls → Ended pieces (run_from k n ls fs x)
  run-ended before done pieces k n [] fs x whole split long at s b fit = record {
    lines = done;
    rest = [];
    split = split;
    stands = record { reached = b.good.reached; timely = b.good.timely; lines = s.shown ∙ sym (append-nil (joined pieces)); own = each-turn (IsOf (S n)) (IsOf (IsCallIn script)) (of-turn (S n) (IsCallIn script) (its n)) x.world.shown b.good.of.shown; inv = s.asks };
    pushed = subst (Pushed done) (sym (append-nil pieces)) (record { fronts = s.fronts; numbered = s.numbered });
    few = subst (λ ps. length done ≤ length ps) (sym (append-nil pieces)) (same (length done) (length pieces) s.even);
    counted = subst (λ ps. length ps ≤ length script) (sym (append-nil pieces)) (same (length pieces) (length script) (sym long ∙ ap length (sym (append-nil before)) ∙ ap length (sym whole)));
    good = λ u. (n, b);
  }
    where
      same : (a b : ℕ) → a ≡ b → a ≤ b
      same a b e = omega (arith, e)
  run-ended before done pieces k n (unfit col ∷ ls) fs x whole split long at s b fit = record {
    lines = done;
    rest = carried (unfit col ∷ ls);
    split = split;
    stands = record { reached = b.good.reached; timely = b.good.timely; lines = s.shown ∙ sym (append-nil (joined pieces)); own = each-turn (IsOf (S n)) (IsOf (IsCallIn script)) (of-turn (S n) (IsCallIn script) (its n)) x.world.shown b.good.of.shown; inv = s.asks };
    pushed = pushed done pieces [] x.world s.fronts s.numbered (less (length done) (length pieces) s.even) s.asks (s.shown ∙ sym (append-nil (joined pieces))) tt;
    few = subst (λ j. length done ≤ j) (sym (length-append pieces ([] ∷ []))) (less (length done) (length pieces) s.even);
    counted = subst (λ j. j ≤ length script) (sym (length-append pieces ([] ∷ []))) (subst (λ j. j + 1 ≤ length script) long (more-than before (unfit col) ls whole));
    good = λ u. (n, b);
  }
    where
      less : (a b : ℕ) → a ≡ b → a ≤ b + 1
      less a b e = omega (arith, e)
  run-ended before done pieces k n (reads l col ∷ ls) fs x whole split long at s b fit =
      by m.fault refl (λ y z c. run-ended (before ++ reads l col ∷ []) upto now k (n + 1) ls (rest_fates fs) y (whole ∙ sym (append_assoc before (reads l col ∷ []) ls)) (split ∙ sym (append_assoc done (this ∷ []) (carried ls)))
      (one-longer before (reads l col) ∙ ap (λ j. j + 1) long ∙ sym (length-append pieces (unheld m.shown ∷ []))) (ap (λ j. j + 1) at ∙ ap (λ j. j + 1) (sym (one-longer before (reads l col)))) z c fit.1)
    where
      this : Scripted
      this = as_line (reads l col)

      upto : Lines
      upto = done ++ this ∷ []

      first-line : 1 ≤ n
      first-line = positive n (length before) at
        where
          positive : (m j : ℕ) → m ≡ j + 1 → 1 ≤ m
          positive m j e = omega (arith, e)

      here : slice_get script (n - 1) ≡ Some (reads l col)
      here = ap (λ z. slice_get z (n - 1)) whole ∙ ap (slice_get (before ++ reads l col ∷ ls)) (less n (length before) at) ∙ at-place before (reads l col) ls
        where
          less : (m j : ℕ) → m ≡ j + 1 → m - 1 ≡ j
          less m j e = omega (arith, e)

      m : LeaseMoving
      m = carry_out k (first_fates fs) n l x

      now : Pieces
      now = pieces ++ unheld m.shown ∷ []

      any-column : (j : ℕ) → IsFit (reads l j)
      any-column j = fits l fit.0
        where
          fits : (s : LeaseLine) → IsFit (reads s col) → IsFit (reads s j)
          fits (lines.Drill (line.Call c cl)) f = f
          fits (lines.Drill line.Comment) f = tt
          fits (lines.Drill (line.Push c i)) f = tt
          fits (lines.Drill (line.Cut c)) f = tt
          fits (lines.Drill (line.Uncut c)) f = tt
          fits (lines.Drill (line.Drop c i o)) f = tt
          fits (lines.Drill (line.Repeat c i o)) f = tt
          fits (lines.Drill (line.Deliver c i o)) f = tt
          fits (lines.Drill (line.Resend c)) f = tt
          fits (lines.Drill (line.Crash c)) f = tt
          fits (lines.Drill (line.End c)) f = tt
          fits (lines.Drill line.Stop) f = tt
          fits (lines.Drill (line.Arm i ch)) f = tt
          fits (lines.Drill line.Restart) f = tt
          fits (lines.Tick i) f = tt
          fits (lines.Skew c s) f = tt
          fits (lines.Grant c) f = tt
          fits (lines.Hand c i) f = tt

      I : World → Type 0
      I = Asked (with_line (asked_by done) this)

      c : Came d wf sixteen unmade (Mine n x.world.shown) I (asked-keeps (with_line (asked_by done) this)) x.world.shown m
      c = settle-came d wf sixteen unmade (Mine n x.world.shown) I (asked-keeps (with_line (asked_by done) this)) k (later_fates (first_fates fs)) x.world.shown (renewed (line_happens (this_fate (first_fates fs)) n l x))
          (renewed-came d wf sixteen unmade (Mine n x.world.shown) I (asked-keeps (with_line (asked_by done) this)) x.world.shown (line_happens (this_fate (first_fates fs)) n l x)
          (line-came (this_fate (first_fates fs)) n l col first-line here x b (asked_by done) s.asks any-column))

      asks-now : Asked (asked_by upto) m.world.world
      asks-now = weaken first (with_line (asked_by done) this) (asked_by upto) m.world.world (λ e. same (with_line (asked_by done) this e) (asked_by upto e) (asked-line e done this)) (c.stands).inv
        where
          same : (a b : ℕ) → b ≡ a → a ≤ b
          same a b p = omega (arith, p)

      lines-now : m.world.world.shown ≡ joined pieces ++ unheld m.shown
      lines-now = (c.stands).lines ∙ ap (λ z. z ++ unheld m.shown) s.shown

      few : length upto ≤ length pieces + 1
      few = less (length upto) (length done) (length pieces) (length-append done (this ∷ [])) s.even
        where
          less : (a b d : ℕ) → a ≡ b + 1 → b ≡ d → a ≤ d + 1
          less a b d e q = omega (arith, e, q)

      pushed-now : Pushed upto now
      pushed-now = pushed upto pieces (unheld m.shown) m.world.world (fronts-more done (this ∷ []) pieces s.fronts) s.numbered few asks-now lines-now
          (subst (λ j. IsPiece j (joined pieces) (unheld m.shown)) (at ∙ ap (λ j. j + 1) long) (subst (λ past. IsPiece n past (unheld m.shown)) s.shown
          (piece-of (S (n + 1)) n x.world.shown (unheld m.shown) m.world.world.shown (c.stands).own (c.stands).lines)))

      own-now : EachLine (IsOf (IsCallIn script)) m.world.world.shown
      own-now = each-turn (IsOf (Mine n x.world.shown)) (IsOf (IsCallIn script)) (of-turn (Mine n x.world.shown) (IsCallIn script) (λ e o dl p. (p.0).1)) m.world.world.shown (c.stands).own

      sofar : Sofar upto now (forgotten m.world)
      sofar = record {
        shown = lines-now ∙ sym (joined-push pieces (unheld m.shown));
        asks = record { within = asks-now.within };
        fronts = pushed-now.fronts;
        numbered = pushed-now.numbered;
        even = length-append done (this ∷ []) ∙ ap (λ j. j + 1) s.even ∙ sym (length-append pieces (unheld m.shown ∷ []));
      }

      -- the run ended in this line
      one-ended : (e : Ending) → (IsUnspent e → IsOther m.fault) → Ended pieces (ends m.world m.shown e)
      one-ended e u = record {
        lines = upto;
        rest = carried ls;
        split = split ∙ sym (append_assoc done (this ∷ []) (carried ls));
        stands = record { reached = (c.stands).reached; timely = (c.stands).timely; lines = lines-now ∙ ap (λ z. joined pieces ++ unheld z) (sym (append-nil m.shown)); own = own-now; inv = asks-now };
        pushed = pushed-now;
        few = subst (λ j. length upto ≤ j) (sym (length-append pieces (unheld m.shown ∷ []))) few;
        counted = subst (λ j. j ≤ length script) (sym (length-append pieces (unheld m.shown ∷ []))) (subst (λ j. j + 1 ≤ length script) long (more-than before (reads l col) ls whole));
        good = λ v. (n + 1, first-both (S (n + 1)) (IsKnown x.world.shown n) m.world (c.good (u v)));
      }

      -- or it went on
      More : Type 0
      More = (y : LeaseWorld) → Sofar upto now y → Both d wf sixteen unmade (S (n + 1)) y → Ended now (run_from k (n + 1) ls (rest_fates fs) y)

      on : m.fault ≡ None → More → Ended pieces (piece_before m.shown (run_from k (n + 1) ls (rest_fates fs) (forgotten m.world)))
      on q more =
          let g = forgets-good d wf sixteen unmade (S (n + 1)) m.world (first-both (S (n + 1)) (IsKnown x.world.shown n) m.world (c.good (fault-none d wf sixteen unmade (Mine n x.world.shown) I (asked-keeps (with_line (asked_by done) this)) m q))) in
          let r = more (forgotten m.world) sofar g in
          let all = run_from k (n + 1) ls (rest_fates fs) (forgotten m.world) in
          let pieces-are : now ++ map unheld all.pieces ≡ pieces ++ unheld m.shown ∷ map unheld all.pieces = append_assoc pieces (unheld m.shown ∷ []) (map unheld all.pieces) in
          record {
            lines = r.lines;
            rest = r.rest;
            split = r.split;
            stands = record {
              reached = (r.stands).reached;
              timely = (r.stands).timely;
              lines = (r.stands).lines ∙ ap (λ z. z ++ unheld (joined_lease all.pieces)) (joined-push pieces (unheld m.shown)) ∙ append_assoc (joined pieces) (unheld m.shown) (unheld (joined_lease all.pieces))
                  ∙ ap (λ z. joined pieces ++ z) (sym (unheld-append m.shown (joined_lease all.pieces)));
              own = (r.stands).own;
              inv = (r.stands).inv;
            };
            pushed = subst (Pushed r.lines) pieces-are r.pushed;
            few = subst (λ ps. length r.lines ≤ length ps) pieces-are r.few;
            counted = subst (λ ps. length ps ≤ length script) pieces-are r.counted;
            good = r.good;
          }

      checked : m.fault ≡ None → More → (z : Bool)
          → Ended pieces (elim z as (λ y. LeaseRan) [ true ↦ ends m.world m.shown (TooMany (world.pending m.world.world)) | false ↦ piece_before m.shown (run_from k (n + 1) ls (rest_fates fs) (forgotten m.world)) ])
      checked q more true = one-ended (TooMany (world.pending m.world.world)) (λ u. fault-none d wf sixteen unmade (Mine n x.world.shown) I (asked-keeps (with_line (asked_by done) this)) m q)
      checked q more false = on q more

      by : (o : Option LeaseFault) → m.fault ≡ o → More
          → Ended pieces (elim o as (λ y. LeaseRan) [
            | Some f ↦ ends m.world m.shown (lease_ending n col f)
            | None ↦ elim (nat_lt max_pending (world.pending m.world.world)) as (λ y. LeaseRan) [
              | true ↦ ends m.world m.shown (TooMany (world.pending m.world.world))
              | false ↦ piece_before m.shown (run_from k (n + 1) ls (rest_fates fs) (forgotten m.world))
            ]
          ])
      by (Some f) q more = one-ended (lease_ending n col f) (λ u. subst IsOther (sym q) (faulted n col f u))
      by None q more = checked q more (nat_lt max_pending (world.pending m.world.world))

  -- The close.
  joined-last : (ps : List (List LeaseShown)) (p : List LeaseShown) → joined_lease (ps ++ p ∷ []) ≡ joined_lease ps ++ p
  joined-last [] p = append-nil p
  joined-last (q ∷ ps) p = ap (λ z. q ++ z) (joined-last ps p) ∙ sym (append_assoc q (joined_lease ps) p)

  unheld-last : (ps : List (List LeaseShown)) (p : List LeaseShown) → map unheld (ps ++ p ∷ []) ≡ map unheld ps ++ unheld p ∷ []
  unheld-last [] p = refl
  unheld-last (q ∷ ps) p = ap (λ z. unheld q ∷ z) (unheld-last ps p)

  -- the lines of these pieces are joined
  unheld-joined : (ps : List (List LeaseShown)) → unheld (joined_lease ps) ≡ joined (map unheld ps)
  unheld-joined [] = refl
  unheld-joined (p ∷ ps) = unheld-append p (joined_lease ps) ∙ ap (λ z. unheld p ++ z) (unheld-joined ps)

  -- a whole run: no more sessions end than its lines allow for, and each call's first line stands in the piece of its line
  record Closed (r : LeaseRan) : Type 0 where
    stands : Stands d wf sixteen unmade (IsCallIn script) (λ w. ⊤) (unheld (joined_lease r.pieces)) r.world
    fronts : AreEndsAsked (carried script) (map unheld r.pieces)
    numbered : ArePieces 1 [] (map unheld r.pieces)
    counted : length (map unheld r.pieces) ≤ length script + 1

  same-closed : (r : LeaseRan) → Ended [] r → Closed r
  same-closed r k = record {
    stands = record { reached = (k.stands).reached; timely = (k.stands).timely; lines = (k.stands).lines; own = (k.stands).own; inv = tt };
    fronts = subst (λ ls. AreEndsAsked ls (map unheld r.pieces)) (sym k.split) (fronts-more k.lines k.rest (map unheld r.pieces) (k.pushed).fronts);
    numbered = (k.pushed).numbered;
    counted = less (length (map unheld r.pieces)) (length script) k.counted;
  }
    where
      less : (a b : ℕ) → a ≤ b → a ≤ b + 1
      less a b e = omega (arith, e)

  restart-closed : (r : LeaseRan) → Ended [] r → (n : ℕ) → Both d wf sixteen unmade (S n) r.world → Closed (last_restart r)
  restart-closed r k n b = by m.fault
    where
      m : LeaseMoving
      m = world_happens runs of_world.Restart r.world

      ps : Pieces
      ps = map unheld r.pieces

      number : ℕ
      number = length (map unheld r.pieces) + 1

      past : List Shown
      past = r.world.world.shown

      asked : ℕ → ℕ
      asked = with_line (asked_by k.lines) line.Restart

      known : Both d wf sixteen unmade (Two (S n) (IsKnown past number)) r.world
      known = known-both (S n) (S n) (λ l c cl p. p) number r.world b

      c : Came d wf sixteen unmade (Two (S n) (IsKnown past number)) (Asked asked) (asked-keeps asked) past m
      c = step-came d wf sixteen unmade (Two (S n) (IsKnown past number)) (Asked asked) (asked-keeps asked) runs (event.World of_world.Restart) r.world known (still runs (asked_by k.lines) line.Restart r.world b.good.reached (k.stands).inv) tt tt
          (event-after runs (asked_by k.lines) line.Restart r.world b.good.reached (k.stands).inv of_world.Restart (λ e. refl))

      asks-now : Asked (asked_by k.lines) m.world.world
      asks-now = weaken first asked (asked_by k.lines) m.world.world (λ e. none (asked_by k.lines e)) (c.stands).inv
        where
          none : (a : ℕ) → a + 0 ≤ a
          none a = omega arith

      past-is : past ≡ joined ps
      past-is = (k.stands).lines ∙ unheld-joined r.pieces

      lines-now : m.world.world.shown ≡ joined ps ++ unheld m.shown
      lines-now = (c.stands).lines ∙ ap (λ z. z ++ unheld m.shown) past-is

      more : (a b : ℕ) → a ≤ b → a ≤ b + 1
      more a b e = omega (arith, e)

      one-more : (a b : ℕ) → a ≤ b → a + 1 ≤ b + 1
      one-more a b e = omega (arith, e)

      pushed-now : Pushed k.lines (ps ++ unheld m.shown ∷ [])
      pushed-now = pushed k.lines ps (unheld m.shown) m.world.world (k.pushed).fronts (k.pushed).numbered (more (length k.lines) (length ps) k.few) asks-now lines-now
          (subst (λ y. IsPiece number y (unheld m.shown)) past-is (piece-of (S n) number past (unheld m.shown) m.world.world.shown (c.stands).own (c.stands).lines))

      all-are : map unheld (r.pieces ++ m.shown ∷ []) ≡ ps ++ unheld m.shown ∷ []
      all-are = unheld-last r.pieces m.shown

      by : (o : Option LeaseFault) → Closed (elim o as (λ y. LeaseRan) [ Some f ↦ record r { ending = lease_ending 0 0 f } | None ↦ record r { world = m.world; pieces = r.pieces ++ m.shown ∷ [] } ])
      by (Some f) = let s = same-closed r k in record { stands = s.stands; fronts = s.fronts; numbered = s.numbered; counted = s.counted }
      by None = record {
        stands = record {
          reached = (c.stands).reached;
          timely = (c.stands).timely;
          lines = (c.stands).lines ∙ ap (λ z. z ++ unheld m.shown) (k.stands).lines ∙ sym (unheld-append (joined_lease r.pieces) m.shown) ∙ ap unheld (sym (joined-last r.pieces m.shown));
          own = each-turn (IsOf (Two (S n) (IsKnown past number))) (IsOf (IsCallIn script)) (of-turn (Two (S n) (IsKnown past number)) (IsCallIn script) (λ l e cl p. (p.0).1)) m.world.world.shown (c.stands).own;
          inv = tt;
        };
        fronts = subst (λ qs. AreEndsAsked (carried script) qs) (sym all-are) (subst (λ ls. AreEndsAsked ls (ps ++ unheld m.shown ∷ [])) (sym k.split) (fronts-more k.lines k.rest (ps ++ unheld m.shown ∷ []) pushed-now.fronts));
        numbered = subst (ArePieces 1 []) (sym all-are) pushed-now.numbered;
        counted = subst (λ qs. length qs ≤ length script + 1) (sym all-are) (subst (λ j. j ≤ length script + 1) (sym (length-append ps (unheld m.shown ∷ []))) (one-more (length ps) (length script) k.counted));
      }

  close-closed : (r : LeaseRan) → Ended [] r → Closed (close r.ending r)
  close-closed r k = by r.ending k.good
    where
      up : (n : ℕ) → Both d wf sixteen unmade (S n) r.world → (z : Bool) → Closed (elim z as (λ z. LeaseRan) [ true ↦ last_restart r | false ↦ r ])
      up n b true = restart-closed r k n b
      up n b false = same-closed r k

      by : (e : Ending) → (IsUnspent e → (n : ℕ) × Both d wf sixteen unmade (S n) r.world) → Closed (close e r)
      by (IsSpent n) g = same-closed r k
      by Done g = let b = g tt in up b.0 b.1 (is_stopped r)
      by (BadLine n j) g = let b = g tt in up b.0 b.1 (is_stopped r)
      by (TooMany n) g = let b = g tt in up b.0 b.1 (is_stopped r)

  -- All runs.

  run-closed : (w : World) → open_world d ≡ Ok w → (l e : ℕ) (fs : List Fates) → Each IsFit script → Closed (lease_run l e script fs w)
  run-closed w q l e fs fit =
      let x = opened l e w in
      let b : Both d wf sixteen unmade (S 1) x = record { good = opens-good d wf sixteen unmade (S 1) l e w q; leases = opening-agrees l e w } in
      close-closed (run_from (bound script) 1 script fs x)
      (run-ended [] [] [] (bound script) 1 script fs x refl refl refl refl
      (record { shown = no-lines d wf sixteen unmade w q; asks = opened-asks w (opened_in d) (world-stands d sixteen w q) (record { idle = λ c. refl; boots = λ c. refl; pool = refl; unshown = refl; shown = refl }); fronts = λ c k le. none c k; numbered = tt; even = refl }) b fit)
    where
      none : (c k : ℕ) → ended_by c (joined (take k [])) ≤ asked_by (take k []) c
      none c zero = omega arith
      none c (suc k) = omega arith

  -- its world is one that runs reach in which calls wait before they begin, with these lines
  pub runs-reached : (w : World) → open_world d ≡ Ok w → (l e : ℕ) (fs : List Fates) → Each IsFit script
      → QueuedReached d (lease_run l e script fs w).world.world × ((lease_run l e script fs w).world.world.shown ≡ unheld (joined_lease (lease_run l e script fs w).pieces))
  runs-reached w q l e fs fit =
      let s = (run-closed w q l e fs fit).stands in
      (s.reached, s.lines)

  -- no more sessions end than its lines allow for, and each call's first line stands in the piece of its line
  pub runs-asked : (w : World) → open_world d ≡ Ok w → (l e : ℕ) (fs : List Fates) → Each IsFit script → AreAskedBy script (lease_run l e script fs w).pieces
  runs-asked w q l e fs fit = let k = run-closed w q l e fs fit in record { fronts = k.fronts; numbered = k.numbered; counted = k.counted; joined = unheld-joined (lease_run l e script fs w).pieces }

  pub runs-leased : (w : World) → open_world d ≡ Ok w → (l e : ℕ) (fs : List Fates) → Each IsFit script → AreLeased script (images d.volume) d.max_objects (unheld (joined_lease (lease_run l e script fs w).pieces))
  runs-leased w q l e fs fit =
      let s = (run-closed w q l e fs fit).stands in
      let r = lease_run l e script fs w in
      let o = queued-in-order d wf sixteen unmade r.world.world s.reached in
      told r.world.world (unheld (joined_lease r.pieces)) s.lines s.timely s.own o
    where
      told : (v : World) (ss : List Shown) → v.shown ≡ ss → AreTimely [] v.shown → EachLine (IsOf (IsCallIn script)) v.shown → IsInOrder (images d.volume) d.max_objects v → AreLeased script (images d.volume) d.max_objects ss
      told v ss q t own o = record {
        own = subst (EachLine (IsOf (IsCallIn script))) q own;
        top = o.top;
        greatest = o.greatest;
        lawful = subst (FrontsAreLawful (placed_on (images d.volume) o.top) d.max_objects) q o.lawful;
        legal = λ front rest e. timely-legal (placed_on (images d.volume) o.top) d.max_objects front (timely-front [] front rest (subst (AreTimely []) (q ∙ sym e) t))
            (λ one more z. (o.lawful one (more ++ rest) (sym (append_assoc one more rest) ∙ ap (λ y. y ++ rest) z ∙ e ∙ sym q)).history);
      }
