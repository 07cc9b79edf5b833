-- What each event of a world counts, and that no step spends a counter but those of boots, sessions, epochs and ids.
use Rattle.std.proofs.Common.{◌≡◌, refl, sym, subst, arith, ◌≤◌, ◌+◌, ◌==◌, ◌||◌, ℕ, Bool, true, false, not, cond, List, [], ◌∷◌, ◌++◌, Option, Some, None}
use Rattle.std.specs.Prelude.{filter, is_some, ⊤}
use Rattle.std.specs.List.{list_any}
use Rattle.ec_base.specs.Tables.{Table, at, put}
use Rattle.ec_base.specs.declared.counter.Counter.{Counter}
use Rattle.ec_plain.specs.declared.call.Call.{Call}
use Rattle.ec_history.specs.Placing.{watch}
use Rattle.ec_history.specs.declared.entry.Answer.{Answer}
use Rattle.ec_history.specs.declared.shown.Shown.{Shown}
use Rattle.ec_history.specs.declared.shown.Shown.TheVariants as show
use Rattle.ec_volume.specs.Update.{member}
use Rattle.ec_sessions.specs.Slots.{is_open}
use Rattle.ec_wire.specs.declared.msg.Msg.{Msg}
use Rattle.ec_durable.specs.Durable.{slot}
use Rattle.ec_durable.specs.declared.record.Record.{Record}
use Rattle.ec_durable.specs.declared.record.Record.TheVariants as record_of
use Rattle.ec_protocol.specs.Clerk.{Doing}
use Rattle.ec_protocol.specs.Clerk as clerk
use Rattle.ec_protocol.specs.Server.{Serving}
use Rattle.ec_protocol.specs.Server as server
use Rattle.ec_protocol.specs.World.{Fate, Moving, add_call, among, boot, call, call_of, call_on, clerk_does, come_out, committed, crash, cut, deliver, deliver_to, drop, end, fails, go_on, happen, is_answer_to, is_for_server, is_pending, is_running, is_undurable, kept_or, less_call, moving, noted, nothing, push, repeat, resend, restart, restart_server, restarted, runs, send, send_all, served, served_record, settled, show_answer, show_ended, show_line, show_noted, show_waits, start_and_call, stop_server, stops_with, stops_without, to_clerk, to_server, uncut, with_world}
use Rattle.ec_protocol.specs.declared.clerk.Clerk.{Clerk}
use Rattle.ec_protocol.specs.declared.clerk.Out.{Out}
use Rattle.ec_protocol.specs.declared.clerk.Out.TheVariants as out
use Rattle.ec_protocol.specs.declared.server.Server.{Server}
use Rattle.ec_protocol.specs.declared.world.Event.{Event}
use Rattle.ec_protocol.specs.declared.world.Event.TheVariants as event
use Rattle.ec_protocol.specs.declared.world.Noted.{Noted}
use Rattle.ec_protocol.specs.declared.world.Noted.TheVariants as noted_of
use Rattle.ec_protocol.specs.declared.world.Sent.{Sent}
use Rattle.ec_protocol.specs.declared.world.World.{World}
use Rattle.ec_protocol.specs.declared.world.WorldFault.{WorldFault}
use Rattle.ec_protocol.specs.declared.world.WorldFault.TheVariants as fault
use Rattle.ec_coherence.proofs.ForServer.Tables.{at-put, at-without}
use Rattle.ec_drill.specs.OfPromise.OfSpent.Spent.{MaySpend, SpendsFew}
use Rattle.ec_drill.specs.OfPromise.OfSpent.SpentDrills.{AllSpendFew, most_lines}
use Rattle.ec_drill.proofs.OfPromise.OfSpent.Few.{IsFew, IsGoingCounts, IsLow, OnSpent, counts, ends-few, more-few, most_steps}
use Rattle.ec_drill.proofs.OfPromise.OfSpent.Messages as clerks
use Rattle.ec_drill.proofs.OfPromise.OfSpent.Servers as servers

-- The nodes of a world, behind so many calls and steps.

abbrev pub OnServer : ℕ → Option Server → Type 0
OnServer steps None = ⊤
OnServer steps (Some v) = IsLow steps v

abbrev pub OnClerk : ℕ → ℕ → Option Clerk → Type 0
OnClerk calls steps None = ⊤
OnClerk calls steps (Some k) = IsFew calls steps k

pub record AreFew (calls steps : ℕ) (o : Option Server) (ks : Table Clerk) : Type 0 where
  pub server : OnServer steps o
  pub clerks : (c : ℕ) → OnClerk calls steps (at c ks)

abbrev pub IsLowWorld : ℕ → ℕ → World → Type 0
IsLowWorld calls steps w = AreFew calls steps w.server w.clerks

-- A step under way: its lines tell no other counter, and its fault none.

abbrev pub OnFault : Option WorldFault → Type 0
OnFault None = ⊤
OnFault (Some (fault.Spent n)) = MaySpend n
OnFault (Some _) = ⊤

pub record IsTold (shown : List Shown) (f : Option WorldFault) : Type 0 where
  pub lines : AllSpendFew shown
  pub fault : OnFault f

pub record IsGoing (calls steps : ℕ) (m : Moving) : Type 0 where
  pub low : IsLowWorld calls steps m.world
  pub told : IsTold m.shown m.fault

pub lines-more : (xs ys : List Shown) → AllSpendFew xs → AllSpendFew ys → AllSpendFew (xs ++ ys)
lines-more [] ys h k = k
lines-more (x ∷ xs) ys h k = (h.0, lines-more xs ys h.1 k)

-- more calls and steps
pub later : (calls more steps after : ℕ) → calls ≤ more → steps ≤ after → (w : World) → IsLowWorld calls steps w → IsLowWorld more after w
later calls more steps after c s w h = record { server = on-server w.server h.server; clerks = λ a. on-clerk (at a w.clerks) (h.clerks a) }
  where
    on-server : (o : Option Server) → OnServer steps o → OnServer after o
    on-server None l = tt
    on-server (Some v) l = omega (arith, l, s)

    on-clerk : (o : Option Clerk) → OnClerk calls steps o → OnClerk more after o
    on-clerk None f = tt
    on-clerk (Some k) f = more-few calls more steps after (counts k) c s f

pub goes-later : (calls more steps after : ℕ) → calls ≤ more → steps ≤ after → (m : Moving) → IsGoing calls steps m → IsGoing more after m
goes-later calls more steps after c s m h = record { low = later calls more steps after c s m.world h.low; told = h.told }

-- What a step tells.

shows : (s : Shown) (m : Moving) → SpendsFew s → IsTold m.shown m.fault → IsTold (show_line s m).shown (show_line s m).fault
shows s m few h = record { lines = lines-more m.shown (s ∷ []) h.lines (few, tt); fault = h.fault }

shows-ended : (c b : ℕ) (w : World) → SpendsFew (show_ended c b w)
shows-ended c b w = go (is_some (watch c w.shown).open_start || is_running c b w)
  where
    go : (z : Bool) → SpendsFew (elim z as (λ y. Shown) [ true ↦ show.Ended c (watch c w.shown).undurable | false ↦ show.Unseen c ])
    go true = tt
    go false = tt

shows-noted : (o : Option Noted) (m : Moving) → IsTold m.shown m.fault → IsTold (show_noted o m).shown (show_noted o m).fault
shows-noted None m h = h
shows-noted (Some (noted_of.Durable c ns)) m h = shows (show.Durable c ns) m tt h
shows-noted (Some (noted_of.Ended c b)) m h = shows (show_ended c b m.world) m (shows-ended c b m.world) h

restart-tells : (f : Fate) (t : Serving) (w : World) → IsTold (restarted f t w).shown (restarted f t w).fault
restart-tells runs t w = shows show.Started (show_noted w.unshown (moving w)) tt (shows-noted w.unshown (moving w) (record { lines = tt; fault = tt }))
restart-tells stops_without t w = record { lines = (tt, tt); fault = tt }
restart-tells stops_with t w = record { lines = (tt, tt); fault = tt }

-- a restart, whatever the world
pub restarts-tell : (f : Fate) (w : World) → IsTold (restart f w).shown (restart f w).fault
restarts-tell f w = go (server.start w.durable).spent (servers.starts 0 (omega arith) w.durable).spent
  where
    go : (o : Option Counter) → OnSpent o → IsTold (elim o as (λ z. Moving) [ Some n ↦ fails (fault.Spent n) w | None ↦ restarted f (server.start w.durable) w ]).shown
        (elim o as (λ z. Moving) [ Some n ↦ fails (fault.Spent n) w | None ↦ restarted f (server.start w.durable) w ]).fault
    go (Some n) may = record { lines = tt; fault = may }
    go None may = restart-tells f (server.start w.durable) w

module _ (calls steps : ℕ) where
  -- What comes out of a clerk.

  answers : (c n : ℕ) (a : Answer) (op : Option ℕ) (m : Moving) → IsGoing calls steps m → IsGoing calls steps (show_answer c n a op m)
  answers c n a op m h = go (call_of c n m.world)
    where
      go : (o : Option (ℕ × Call)) → IsGoing calls steps (elim o as (λ z. Moving) [ None ↦ m | Some l ↦ with_world (less_call c n) (show_line (show.Answered l.0 c l.1 a op) m) ])
      go None = h
      go (Some l) = record { low = h.low; told = shows (show.Answered l.0 c l.1 a op) m tt h.told }

  comes-out : (c : ℕ) (os : List Out) (m : Moving) → IsGoing calls steps m → IsGoing calls steps (come_out c os m)
  comes-out c [] m h = h
  comes-out c (out.Send x ∷ os) m h = comes-out c os (with_world (send c x) m) (record { low = h.low; told = h.told })
  comes-out c (out.Told ns ∷ os) m h = comes-out c os (show_line (show.Told c ns) m) (record { low = h.low; told = shows (show.Told c ns) m tt h.told })
  comes-out c (out.Answer n a op ∷ os) m h = comes-out c os (show_answer c n a op m) (answers c n a op m h)
  comes-out c (out.OldBoot a ∷ os) m h = comes-out c os m h

  -- one clerk goes on
  with-clerk : (c : ℕ) (k : Clerk) (w : World) → IsFew calls steps k → IsLowWorld calls steps w → AreFew calls steps w.server (put c k w.clerks)
  with-clerk c k w f h = record { server = h.server; clerks = λ a. subst (OnClerk calls steps) (sym (at-put a c k w.clerks)) (go a (a == c)) }
    where
      go : (a : ℕ) (z : Bool) → OnClerk calls steps (cond z (Some k) (at a w.clerks))
      go a true = f
      go a false = h.clerks a

  does : (c : ℕ) (d : Doing) (m : Moving) → IsGoing calls steps m → IsGoingCounts calls steps (counts d.clerk) d.spent → IsGoing calls steps (clerk_does c d m)
  does c d m h g = go d.spent g.spent
    where
      go : (o : Option Counter) → OnSpent o → IsGoing calls steps (elim o as (λ z. Moving) [ Some n ↦ fails (fault.Spent n) m.world | None ↦ come_out c d.outs (with_world (λ w. record w { clerks = put c d.clerk w.clerks }) m) ])
      go (Some n) may = record { low = h.low; told = record { lines = tt; fault = may } }
      go None may = comes-out c d.outs (with_world (λ w. record w { clerks = put c d.clerk w.clerks }) m) (record { low = with-clerk c d.clerk m.world (ends-few calls steps (counts d.clerk) d.spent g) h.low; told = h.told })

  -- The server goes on.

  sends-all : (ms : List (ℕ × Msg)) (w : World) → IsLowWorld calls steps w → IsLowWorld calls steps (send_all ms w)
  sends-all [] w h = h
  sends-all (m ∷ ms) w h = sends-all ms (send m.0 m.1 w) h

  goes-on : (t : Serving) (w : World) → IsLow steps t.server → IsLowWorld calls steps w → IsLowWorld calls steps (go_on t w)
  goes-on t w l h = sends-all t.sent (record w { server = Some t.server; durable = t.server.durable }) (record { server = l; clerks = h.clerks })

  noted-low : (o : Option Noted) (m : Moving) → IsLowWorld calls steps m.world → IsLowWorld calls steps (show_noted o m).world
  noted-low None m h = h
  noted-low (Some (noted_of.Durable c ns)) m h = h
  noted-low (Some (noted_of.Ended c b)) m h = h

  stopped : (w : World) → IsLowWorld calls steps w → AreFew calls steps None w.clerks
  stopped w h = record { server = tt; clerks = h.clerks }

  commits : (f : Fate) (r : Record) (t : Serving) (w : World) → servers.Goes steps t → IsLowWorld calls steps w → IsGoing calls steps (committed f r t w)
  commits runs r t w g h =
      let m : Moving = moving (record w { records = w.records ++ r ∷ [] }) in
      record { low = goes-on t (show_noted (noted w.durable r) m).world g.low (noted-low (noted w.durable r) m h); told = shows-noted (noted w.durable r) m (record { lines = tt; fault = tt }) }
  commits stops_without r t w g h = record { low = stopped w h; told = record { lines = (tt, tt); fault = tt } }
  commits stops_with r t w g h = record { low = stopped w h; told = record { lines = (tt, tt); fault = tt } }

  serves-record : (f : Fate) (o : Option Record) (t : Serving) (w : World) → servers.Goes steps t → IsLowWorld calls steps w → IsGoing calls steps (served_record f o t w)
  serves-record f None t w g h = record { low = goes-on t w g.low h; told = record { lines = tt; fault = tt } }
  serves-record f (Some r) t w g h = commits f r t w g h

  serves : (f : Fate) (t : Serving) (w : World) → servers.Goes steps t → IsLowWorld calls steps w → IsGoing calls steps (served f t w)
  serves f t w g h = go t.spent g.spent
    where
      go : (o : Option Counter) → OnSpent o → IsGoing calls steps (elim o as (λ z. Moving) [ Some n ↦ fails (fault.Spent n) w | None ↦ served_record f t.rec t w ])
      go (Some n) may = record { low = h; told = record { lines = tt; fault = may } }
      go None may = serves-record f t.rec t w g h

  -- A restart.

  restarted-low : (f : Fate) (t : Serving) (w : World) → IsLow steps t.server → IsLowWorld calls steps w → IsLowWorld calls steps (restarted f t w).world
  restarted-low runs t w l h =
      let m : Moving = show_noted w.unshown (moving w) in
      goes-on t (record ((show_line show.Started m).world) { unshown = None; records = (show_line show.Started m).world.records ++ record_of.Epoch t.server.durable.epoch ∷ [] }) l (noted-low w.unshown (moving w) h)
  restarted-low stops_without t w l h = h
  restarted-low stops_with t w l h = h

  pub restarts : (f : Fate) (w : World) → steps ≤ most_steps → IsLowWorld calls steps w → IsGoing calls steps (restart f w)
  restarts f w few h = record { low = go (server.start w.durable).spent; told = restarts-tell f w }
    where
      go : (o : Option Counter) → IsLowWorld calls steps (elim o as (λ z. Moving) [ Some n ↦ fails (fault.Spent n) w | None ↦ restarted f (server.start w.durable) w ]).world
      go (Some n) = h
      go None = restarted-low f (server.start w.durable) w (servers.starts steps few w.durable).low h

-- One step more.
module _ (calls steps : ℕ) (few_calls : calls ≤ most_lines) (few_steps : steps + 1 ≤ most_steps) (w : World) (h : IsLowWorld calls steps w) where
  abbrev Goes : Moving → Type 0
  Goes m = IsGoing calls (steps + 1) m

  on : IsLowWorld calls (steps + 1) w
  on = later calls calls steps (steps + 1) (omega arith) (omega arith) w h

  -- a world with the same nodes, where nothing is shown
  rests : (u : World) → u.server ≡ w.server → u.clerks ≡ w.clerks → Goes (moving u)
  rests u p q = record { low = subst (λ (o : Option Server). AreFew calls (steps + 1) o u.clerks) (sym p) (subst (AreFew calls (steps + 1) w.server) (sym q) on); told = record { lines = tt; fault = tt } }

  nothings : Goes (nothing w)
  nothings = record { low = on; told = record { lines = (tt, tt); fault = tt } }

  misses : (f : WorldFault) → OnFault (Some f) → Goes (fails f w)
  misses f free = record { low = on; told = record { lines = tt; fault = free } }

  -- Messages.

  to-clerk : (c : ℕ) (m : Msg) (o : Option Clerk) → OnClerk calls steps o → (u : World) → IsLowWorld calls (steps + 1) u → Goes (to_clerk c m o u)
  to-clerk c m None f u i = record { low = i; told = record { lines = tt; fault = tt } }
  to-clerk c m (Some k) f u i = does calls (steps + 1) c (clerk.take m k) (moving u) (record { low = i; told = record { lines = tt; fault = tt } }) (clerks.takes calls steps few_calls few_steps k f m)

  to-server : (f : Fate) (n : ℕ) (s : Sent) (o : Option Server) → OnServer steps o → Goes (to_server f n s o w)
  to-server f n s None l = nothings
  to-server f n s (Some v) l = serves calls (steps + 1) f (server.take s.clerk s.msg v) (settled n w) (servers.takes (steps + 1) few_steps s.clerk s.msg v (omega (arith, l))) on

  delivers-to : (f : Fate) (n : ℕ) (s : Sent) → Goes (deliver_to f n s w)
  delivers-to f n s = go (is_for_server s)
    where
      go : (b : Bool) → Goes (elim b as (λ z. Moving) [ true ↦ to_server f n s w.server w | false ↦ to_clerk s.clerk s.msg (at s.clerk w.clerks) (settled n w) ])
      go true = to-server f n s w.server h.server
      go false = to-clerk s.clerk s.msg (at s.clerk w.clerks) (h.clerks s.clerk) (settled n w) on

  pub delivers : (f : Fate) (n : ℕ) → Goes (deliver f n w)
  delivers f n = go (at n w.pool)
    where
      go : (o : Option Sent) → Goes (elim o as (λ z. Moving) [ None ↦ fails fault.NoSuchMsg w | Some s ↦ deliver_to f n s w ])
      go None = misses fault.NoSuchMsg tt
      go (Some s) = delivers-to f n s

  keeps-or : (n : ℕ) (m : Moving) → Goes m → Goes (kept_or n m w)
  keeps-or n m i = go (at n w.pool)
    where
      go : (o : Option Sent) → Goes (elim o as (λ z. Moving) [ None ↦ fails fault.NoSuchMsg w | Some s ↦ m ])
      go None = misses fault.NoSuchMsg tt
      go (Some s) = i

  choose : (b : Bool) (m u : Moving) → Goes m → Goes u → Goes (elim b as (λ z. Moving) [ true ↦ m | false ↦ u ])
  choose true m u i j = i
  choose false m u i j = j

  drops : (n : ℕ) → Goes (drop n w)
  drops n = keeps-or n (elim (is_pending n w) as (λ z. Moving) [ true ↦ moving (settled n w) | false ↦ nothing w ]) (choose (is_pending n w) (moving (settled n w)) (nothing w) (rests (settled n w) refl refl) nothings)

  repeats : (n : ℕ) → Goes (repeat n w)
  repeats n =
      let u : World = record w { pending = elim (is_pending n w) as (λ z. List ℕ) [ true ↦ w.pending | false ↦ among n w.pending ] } in
      keeps-or n (moving u) (rests u refl refl)

  -- Pushes and resends.

  pushes-on : (c n : ℕ) (o : Option Clerk) → OnClerk calls steps o → Goes (push c n o w)
  pushes-on c n None f = misses fault.NoSuchOp tt
  pushes-on c n (Some k) f = go (clerk.has_issued n k)
    where
      go : (b : Bool) → Goes (elim b as (λ z. Moving) [ false ↦ fails fault.NoSuchOp w | true ↦ elim (is_undurable c n w) as (λ z. Moving) [ true ↦ clerk_does c (clerk.push n k) (moving w) | false ↦ nothing w ] ])
      go false = misses fault.NoSuchOp tt
      go true = choose (is_undurable c n w) (clerk_does c (clerk.push n k) (moving w)) (nothing w) (does calls (steps + 1) c (clerk.push n k) (moving w) (rests w refl refl) (clerks.pushes calls steps few_calls few_steps k f n)) nothings

  resends-on : (c : ℕ) (o : Option Clerk) → OnClerk calls steps o → Goes (resend c o w)
  resends-on c None f = nothings
  resends-on c (Some k) f = does calls (steps + 1) c (clerk.resend k) (moving w) (rests w refl refl) (clerks.resends calls steps few_calls few_steps k f)

  -- Faults.

  crashes : (c : ℕ) (o : Option Clerk) → Goes (crash c o w)
  crashes c None = nothings
  crashes c (Some k) = record {
    low = record { server = on.server; clerks = λ a. subst (OnClerk calls (steps + 1)) (sym (at-without a c w.clerks)) (go a (a == c)) };
    told = record { lines = (tt, tt); fault = tt };
  }
    where
      go : (a : ℕ) (z : Bool) → OnClerk calls (steps + 1) (cond z None (at a w.clerks))
      go a true = tt
      go a false = on.clerks a

  ends-one : (f : Fate) (c : ℕ) (o : Option Server) → OnServer steps o → Goes (end f c o w)
  ends-one f c None l = nothings
  ends-one f c (Some v) l = choose (is_open (slot v.durable c)) (served f (server.end c v) w) (nothing w) (serves calls (steps + 1) f (server.end c v) w (servers.ends (steps + 1) few_steps c v (omega (arith, l))) on) nothings

  stops : (o : Option Server) → Goes (stop_server o w)
  stops None = nothings
  stops (Some v) = record { low = stopped calls (steps + 1) w on; told = record { lines = (tt, tt); fault = tt } }

  restarts-one : (f : Fate) (o : Option Server) → Goes (restart_server f o w)
  restarts-one f None = restarts calls (steps + 1) f w few_steps on
  restarts-one f (Some v) = nothings

  cuts : (c : ℕ) → Goes (cut c w)
  cuts c = let u : World = record w { cut = c ∷ w.cut } in choose (member c w.cut) (nothing w) (moving u) nothings (rests u refl refl)

  uncuts : (c : ℕ) → Goes (uncut c w)
  uncuts c = let u : World = record w { cut = filter (λ d. not (d == c)) w.cut } in choose (member c w.cut) (moving u) (nothing w) (rests u refl refl) nothings

-- A call.
module _ (calls steps : ℕ) (few_calls : calls + 1 ≤ most_lines) (few_steps : steps + 1 ≤ most_steps) (w : World) (h : IsLowWorld calls steps w) where
  -- it waits where it isn't answered at once
  waits-on : (c line : ℕ) (cl : Call) (n : ℕ) (outs : List Out) (u : World) → IsLowWorld (calls + 1) (steps + 1) u → IsGoing (calls + 1) (steps + 1) (show_waits c n line cl outs (moving (add_call c n line cl u)))
  waits-on c line cl n outs u i = go (list_any (is_answer_to n) outs)
    where
      go : (b : Bool) → IsGoing (calls + 1) (steps + 1) (elim b as (λ z. Moving) [ true ↦ moving (add_call c n line cl u) | false ↦ show_line (show.Waits line c cl) (moving (add_call c n line cl u)) ])
      go true = record { low = i; told = record { lines = tt; fault = tt } }
      go false = record { low = i; told = record { lines = (tt, tt); fault = tt } }

  calls-on : (c line : ℕ) (cl : Call) (before : List Out) (k : Clerk) → IsFew calls steps k → (u : World) → IsLowWorld (calls + 1) (steps + 1) u → IsGoing (calls + 1) (steps + 1) (call_on c line cl before k u)
  calls-on c line cl before k f u i = go d.spent g.spent
    where
      d : Doing
      d = clerk.begin cl k

      g : IsGoingCounts (calls + 1) (steps + 1) (counts (clerk.begin cl k).clerk) (clerk.begin cl k).spent
      g = clerks.calls-on calls steps few_calls few_steps cl k f

      first : Moving
      first = show_waits c (k.calls + 1) line cl d.outs (moving (add_call c (k.calls + 1) line cl u))

      go : (o : Option Counter) → OnSpent o → IsGoing (calls + 1) (steps + 1) (elim o as (λ z. Moving) [ Some s ↦ fails (fault.Spent s) u | None ↦ clerk_does c (record d { outs = before ++ d.outs }) first ])
      go (Some s) may = record { low = i; told = record { lines = tt; fault = may } }
      go None may = does (calls + 1) (steps + 1) c (record d { outs = before ++ d.outs }) first (waits-on c line cl (k.calls + 1) d.outs u i) g

  on-call : IsLowWorld (calls + 1) (steps + 1) w
  on-call = later calls (calls + 1) steps (steps + 1) (omega arith) (omega arith) w h

  starts-on : (c line : ℕ) (cl : Call) → IsGoing (calls + 1) (steps + 1) (start_and_call c line cl w)
  starts-on c line cl = go d.spent f.1
    where
      b : ℕ
      b = boot c w + 1

      d : Doing
      d = clerk.start c (boot c w + 1)

      f : IsFew calls steps (clerk.start c (boot c w + 1)).clerk × OnSpent (clerk.start c (boot c w + 1)).spent
      f = clerks.starts calls steps c (boot c w + 1)

      go : (o : Option Counter) → OnSpent o → IsGoing (calls + 1) (steps + 1) (elim o as (λ z. Moving) [ Some n ↦ fails (fault.Spent n) w | None ↦ call_on c line cl d.outs d.clerk (record w { boots = put c b w.boots }) ])
      go (Some n) may = record { low = on-call; told = record { lines = tt; fault = may } }
      go None may = calls-on c line cl d.outs d.clerk f.0 (record w { boots = put c b w.boots }) on-call

  calls-one : (c line : ℕ) (cl : Call) → IsGoing (calls + 1) (steps + 1) (call c line cl w)
  calls-one c line cl = go (at c w.clerks) (h.clerks c)
    where
      go : (o : Option Clerk) → OnClerk calls steps o → IsGoing (calls + 1) (steps + 1) (elim o as (λ z. Moving) [ Some k ↦ call_on c line cl [] k w | None ↦ start_and_call c line cl w ])
      go (Some k) f = calls-on c line cl [] k f w on-call
      go None f = starts-on c line cl

  few : calls ≤ most_lines
  few = omega (arith, few_calls)

  more : (m : Moving) → IsGoing calls (steps + 1) m → IsGoing (calls + 1) (steps + 1) m
  more m i = goes-later calls (calls + 1) (steps + 1) (steps + 1) (omega arith) (omega arith) m i

  pub happens : (f : Fate) (e : Event) → IsGoing (calls + 1) (steps + 1) (happen f e w)
  happens f (event.Call c line cl) = calls-one c line cl
  happens f (event.Push c n) = more _ (pushes-on calls steps few few_steps w h c n (at c w.clerks) (h.clerks c))
  happens f (event.Resend c) = more _ (resends-on calls steps few few_steps w h c (at c w.clerks) (h.clerks c))
  happens f (event.Cut c) = more _ (cuts calls steps few few_steps w h c)
  happens f (event.Uncut c) = more _ (uncuts calls steps few few_steps w h c)
  happens f (event.Drop n) = more _ (drops calls steps few few_steps w h n)
  happens f (event.Repeat n) = more _ (repeats calls steps few few_steps w h n)
  happens f (event.Deliver n) = more _ (delivers calls steps few few_steps w h f n)
  happens f (event.Crash c) = more _ (crashes calls steps few few_steps w h c (at c w.clerks))
  happens f (event.End c) = more _ (ends-one calls steps few few_steps w h f c w.server h.server)
  happens f event.Stop = more _ (stops calls steps few few_steps w h w.server)
  happens f (event.Arm n ch) = more _ (rests calls steps few few_steps w h (record w { choice = ch }) refl refl)
  happens f event.Restart = more _ (restarts-one calls steps few few_steps w h f w.server)
