-- A drill of few lines spends no counter but those of boots, sessions, epochs and ids.
use Rattle.std.proofs.Common.{arith, ◌≤◌, ◌+◌, ◌*◌, ℕ, zero, suc, Bool, true, false, length, List, [], ◌∷◌, ◌++◌, Option, Some, None}
use Rattle.std.specs.Prelude.{Err, Ok, Result, nat_lt, ⊤}
use Rattle.ec_base.specs.declared.counter.Counter.{Counter}
use Rattle.ec_history.specs.declared.shown.Shown.{Shown}
use Rattle.ec_history.specs.declared.shown.Shown.TheVariants as show
use Rattle.ec_durable.specs.declared.record.Record.{Record}
use Rattle.ec_durable.specs.declared.record.Record.TheVariants as record_of
use Rattle.ec_durable.specs.declared.state.Durable.{Durable}
use Rattle.ec_protocol.specs.Drill.{BadLine, Done, Ending, Fates, IsSpent, Ran, Read, TooMany, bound, carry_out, close, drill_in, ending_of, ends, first_fates, is_stopped, joined, last_line, last_restart, later_fates, line_happens, max_pending, on_message, onward, piece_before, reads, rest_fates, run_from, settle, this_fate, unfit}
use Rattle.ec_protocol.specs.Server as server
use Rattle.ec_protocol.specs.Server.{Serving}
use Rattle.ec_protocol.specs.World.{Fate, Moving, clerks, deliver, due, end_each, find, forget, happen, moving, new_world, open_world, pending, restart, runs, show_line}
use Rattle.ec_protocol.specs.declared.script.Line.{Line}
use Rattle.ec_protocol.specs.declared.script.Line.TheVariants as line
use Rattle.ec_protocol.specs.declared.world.Event.{Event}
use Rattle.ec_protocol.specs.declared.world.Event.TheVariants as event
use Rattle.ec_protocol.specs.declared.world.World.{World}
use Rattle.ec_protocol.specs.declared.world.WorldFault.{WorldFault}
use Rattle.ec_protocol.specs.declared.world.WorldFault.TheVariants as fault
use Rattle.ec_drill.specs.OfPromise.OfSpent.Spent.{MaySpend}
use Rattle.ec_drill.specs.OfPromise.OfSpent.SpentDrills.{AllSpendFew, DrillsSpendFew, most_lines}
use Rattle.ec_drill.proofs.OfPromise.OfSpent.Few.{IsLow, OnSpent, line_steps, most_steps}
use Rattle.ec_drill.proofs.OfPromise.OfSpent.Servers as servers
use Rattle.ec_drill.proofs.OfPromise.OfSpent.Worlds.{IsGoing, IsLowWorld, IsTold, OnFault, delivers, goes-later, happens, later, lines-more, restarts-tell}

-- A line.

onwards : (calls before after : ℕ) (m n : Moving) → before ≤ after → IsGoing calls before m → IsGoing calls after n → IsGoing calls after (onward m n)
onwards calls before after m n l h i = go n.fault (i.told).fault
  where
    go : (o : Option WorldFault) → OnFault o → IsGoing calls after (elim o as (λ z. Moving) [ Some f ↦ record m { fault = Some f } | None ↦ record { world = n.world; shown = m.shown ++ n.shown; fault = None } ])
    go (Some f) may = record { low = later calls calls before after (omega arith) l m.world h.low; told = record { lines = h.told.lines; fault = may } }
    go None may = record { low = i.low; told = record { lines = lines-more m.shown n.shown h.told.lines i.told.lines; fault = tt } }

-- so many deliveries may follow
settles : (calls : ℕ) → calls ≤ most_lines → (after : ℕ) → after ≤ most_steps → (k steps : ℕ) → steps + k ≤ after → (fates : Fates) (m : Moving) → IsGoing calls steps m → IsGoing calls after (settle k fates m)
settles calls few after most zero steps l fates m h = go (due m.world)
  where
    go : (o : Option ℕ) → IsGoing calls after (elim o as (λ z. Moving) [ None ↦ m | Some n ↦ show_line show.Unsettled m ])
    go None = goes-later calls calls steps after (omega arith) (omega (arith, l)) m h
    go (Some n) = record { low = later calls calls steps after (omega arith) (omega (arith, l)) m.world h.low; told = record { lines = lines-more m.shown (show.Unsettled ∷ []) h.told.lines (tt, tt); fault = h.told.fault } }
settles calls few after most (suc k) steps l fates m h = go (due m.world) (λ r i. settles calls few after most k (steps + 1) (omega (arith, l)) (later_fates fates) r i)
  where
    rest : (r : Moving) → IsGoing calls (steps + 1) r → IsGoing calls after (settle k (later_fates fates) r) → (o : Option WorldFault) → IsGoing calls after (elim o as (λ z. Moving) [ Some f ↦ r | None ↦ settle k (later_fates fates) r ])
    rest r i j (Some f) = goes-later calls calls (steps + 1) after (omega arith) (omega (arith, l)) r i
    rest r i j None = j

    go : (o : Option ℕ) → ((r : Moving) → IsGoing calls (steps + 1) r → IsGoing calls after (settle k (later_fates fates) r)) → IsGoing calls after (elim o as (λ z. Moving) [
      | None ↦ m
      | Some n ↦ elim (onward m (deliver (this_fate fates) n m.world)).fault as (λ z. Moving) [
        | Some f ↦ onward m (deliver (this_fate fates) n m.world)
        | None ↦ settle k (later_fates fates) (onward m (deliver (this_fate fates) n m.world))
      ]
    ])
    go None again = goes-later calls calls steps after (omega arith) (omega (arith, l)) m h
    go (Some n) again =
        let r : Moving = onward m (deliver (this_fate fates) n m.world) in
        let i : IsGoing calls (steps + 1) (onward m (deliver (this_fate fates) n m.world)) = onwards calls steps (steps + 1) m (deliver (this_fate fates) n m.world) (omega arith) h (delivers calls steps few (omega (arith, l, most)) m.world h.low (this_fate fates) n) in
        rest r i (again r i) r.fault

module _ (calls steps : ℕ) (few_calls : calls + 1 ≤ most_lines) (few_steps : steps + 1 ≤ most_steps) (w : World) (h : IsLowWorld calls steps w) where
  rests : IsGoing (calls + 1) (steps + 1) (moving w)
  rests = record { low = later calls (calls + 1) steps (steps + 1) (omega arith) (omega arith) w h; told = record { lines = tt; fault = tt } }

  one-event : (f : Fate) (e : Event) → IsGoing (calls + 1) (steps + 1) (happen f e w)
  one-event f e = happens calls steps few_calls few_steps w h f e

  on-messages : (f : Fate) (e : ℕ → Event) (o : Option ℕ) → IsGoing (calls + 1) (steps + 1) (on_message f e o w)
  on-messages f e None = record { low = rests.low; told = record { lines = tt; fault = tt } }
  on-messages f e (Some n) = one-event f (e n)

  begins : (f : Fate) (number : ℕ) (l : Line) → IsGoing (calls + 1) (steps + 1) (line_happens f number l w)
  begins f number line.Comment = rests
  begins f number (line.Call c cl) = one-event f (event.Call c number cl)
  begins f number (line.Push c n) = one-event f (event.Push c n)
  begins f number (line.Cut c) = one-event f (event.Cut c)
  begins f number (line.Uncut c) = one-event f (event.Uncut c)
  begins f number (line.Drop c k n) = on-messages f event.Drop (find c k n w)
  begins f number (line.Repeat c k n) = on-messages f event.Repeat (find c k n w)
  begins f number (line.Deliver c k n) = on-messages f event.Deliver (find c k n w)
  begins f number (line.Resend c) = one-event f (event.Resend c)
  begins f number (line.Crash c) = one-event f (event.Crash c)
  begins f number (line.End c) = one-event f (event.End c)
  begins f number line.Stop = one-event f event.Stop
  begins f number (line.Arm n ch) = one-event f (event.Arm n ch)
  begins f number line.Restart = one-event f event.Restart

  carries : (k after : ℕ) → steps + 1 + k ≤ after → after ≤ most_steps → (fates : Fates) (number : ℕ) (l : Line) → IsGoing (calls + 1) after (carry_out k fates number l w)
  carries k after within most fates number l = go m.fault
    where
      m : Moving
      m = onward (moving w) (line_happens (this_fate fates) number l w)

      i : IsGoing (calls + 1) (steps + 1) m
      i = onwards (calls + 1) (steps + 1) (steps + 1) (moving w) (line_happens (this_fate fates) number l w) (omega arith) rests (begins (this_fate fates) number l)

      go : (o : Option WorldFault) → IsGoing (calls + 1) after (elim o as (λ z. Moving) [ Some f ↦ m | None ↦ settle k (later_fates fates) m ])
      go (Some f) = goes-later (calls + 1) (calls + 1) (steps + 1) after (omega arith) (omega (arith, within)) m i
      go None = settles (calls + 1) few_calls after most k (steps + 1) within (later_fates fates) m i

-- A script.

abbrev OnEnding : Ending → Type 0
OnEnding (IsSpent n) = MaySpend n
OnEnding _ = ⊤

record IsRan (r : Ran) : Type 0 where
  pub lines : AllSpendFew (joined r.pieces)
  pub ending : OnEnding r.ending

ending-few : (number col : ℕ) (f : WorldFault) → OnFault (Some f) → OnEnding (ending_of number col f)
ending-few number col (fault.Spent n) may = may
ending-few number col (fault.BadDisk n) may = tt
ending-few number col fault.DiskFailed may = tt
ending-few number col fault.NoSuchOp may = tt
ending-few number col fault.NoSuchMsg may = tt
ending-few number col fault.NoMemory may = tt

ends-here : (w : World) (piece : List Shown) (e : Ending) → AllSpendFew piece → OnEnding e → IsRan (ends w piece e)
ends-here w piece e h may = record { lines = lines-more piece [] h tt; ending = may }

run-few : (k : ℕ) → k + 1 ≤ line_steps → (number : ℕ) (rs : List Read) (fates : List Fates) (w : World) (calls steps : ℕ) → IsLowWorld calls steps w → calls + length rs ≤ most_lines → steps + line_steps * length rs ≤ most_steps
    → IsRan (run_from k number rs fates w)
run-few k few number [] fates w calls steps h c s = record { lines = tt; ending = tt }
run-few k few number (unfit col ∷ rs) fates w calls steps h c s = ends-here w [] (BadLine number col) tt tt
run-few k few number (reads l col ∷ rs) fates w calls steps h c s = go m.fault (i.told).fault (nat_lt max_pending (pending m.world)) (λ u j. run-few k few (number + 1) rs (rest_fates fates) u (calls + 1) (steps + line_steps) j (omega (arith, c)) (omega (arith, s)))
  where
    m : Moving
    m = carry_out k (first_fates fates) number l w

    i : IsGoing (calls + 1) (steps + line_steps) (carry_out k (first_fates fates) number l w)
    i = carries calls steps (omega (arith, c)) (omega (arith, s)) w h k (steps + line_steps) (omega (arith, few)) (omega (arith, s)) (first_fates fates) number l

    go : (o : Option WorldFault) → OnFault o → (b : Bool) → ((u : World) → IsLowWorld (calls + 1) (steps + line_steps) u → IsRan (run_from k (number + 1) rs (rest_fates fates) u)) → IsRan (elim o as (λ z. Ran) [
      | Some f ↦ ends m.world m.shown (ending_of number col f)
      | None ↦ elim b as (λ z. Ran) [
        | true ↦ ends m.world m.shown (TooMany (pending m.world))
        | false ↦ piece_before m.shown (run_from k (number + 1) rs (rest_fates fates) (forget m.world))
      ]
    ])
    go (Some f) may b more = ends-here m.world m.shown (ending_of number col f) i.told.lines (ending-few number col f may)
    go None may true more = ends-here m.world m.shown (TooMany (pending m.world)) i.told.lines tt
    go None may false more =
        let next : IsRan (run_from k (number + 1) rs (rest_fates fates) (forget m.world)) = more (forget m.world) i.low in
        record { lines = lines-more m.shown (joined (run_from k (number + 1) rs (rest_fates fates) (forget m.world)).pieces) i.told.lines next.lines; ending = next.ending }

-- The end.

pub front-few : (xs ys : List Shown) → AllSpendFew (xs ++ ys) → AllSpendFew xs
front-few [] ys h = tt
front-few (x ∷ xs) ys h = (h.0, front-few xs ys h.1)

rest-few : (xs ys : List Shown) → AllSpendFew (xs ++ ys) → AllSpendFew ys
rest-few [] ys h = h
rest-few (x ∷ xs) ys h = rest-few xs ys h.1

joined-more : (pieces : List (List Shown)) (piece : List Shown) → AllSpendFew (joined pieces) → AllSpendFew piece → AllSpendFew (joined (pieces ++ piece ∷ []))
joined-more [] piece h k = lines-more piece [] k tt
joined-more (p ∷ ps) piece h k = lines-more p (joined (ps ++ piece ∷ [])) (front-few p (joined ps) h) (joined-more ps piece (rest-few p (joined ps) h) k)

restarted-few : (r : Ran) → IsRan r → IsRan (last_restart r)
restarted-few r h = go m.fault told.fault
  where
    m : Moving
    m = restart runs r.world

    told : IsTold (restart runs r.world).shown (restart runs r.world).fault
    told = restarts-tell runs r.world

    go : (o : Option WorldFault) → OnFault o → IsRan (elim o as (λ z. Ran) [ Some f ↦ record r { ending = ending_of 0 0 f } | None ↦ record r { world = m.world; pieces = r.pieces ++ m.shown ∷ [] } ])
    go (Some f) may = record { lines = h.lines; ending = ending-few 0 0 f may }
    go None may = record { lines = joined-more r.pieces m.shown h.lines told.lines; ending = h.ending }

closes-by : (r : Ran) (b : Bool) → IsRan r → IsRan (elim b as (λ z. Ran) [ true ↦ last_restart r | false ↦ r ])
closes-by r true h = restarted-few r h
closes-by r false h = h

closes : (e : Ending) (r : Ran) → IsRan r → IsRan (close e r)
closes Done r h = closes-by r (is_stopped r) h
closes (BadLine number col) r h = closes-by r (is_stopped r) h
closes (TooMany n) r h = closes-by r (is_stopped r) h
closes (IsSpent n) r h = h

last-few : (e : Ending) → OnEnding e → AllSpendFew (last_line e)
last-few Done may = tt
last-few (BadLine number col) may = (tt, tt)
last-few (TooMany n) may = (tt, tt)
last-few (IsSpent n) may = (may, tt)

-- The opening.

ends-low : (cs : List ℕ) (t : Serving) (rs : List Record) → IsLow 0 t.server → IsLow 0 ((end_each cs t rs).0).server
ends-low [] t rs l = l
ends-low (c ∷ cs) t rs l = go (server.end c t.server).rec (ends-low cs)
  where
    go : (o : Option Record) → ((u : Serving) (qs : List Record) → IsLow 0 u.server → IsLow 0 ((end_each cs u qs).0).server)
        → IsLow 0 ((elim o as (λ y. Serving × List Record) [ None ↦ end_each cs t rs | Some r ↦ end_each cs (server.end c t.server) (rs ++ r ∷ []) ]).0).server
    go None more = more t rs l
    go (Some r) more = more (server.end c t.server) (rs ++ r ∷ []) (servers.ends 0 (omega arith) c t.server l).low

-- a world that opens, or the counter that would be spent
abbrev OnOpened : Result World Counter → Type 0
OnOpened (Err n) = MaySpend n
OnOpened (Ok w) = IsLowWorld 0 0 w

opens : (d : Durable) → OnOpened (open_world d)
opens d = go (server.start d).spent (servers.starts 0 (omega arith) d).spent
  where
    t : Serving
    t = server.start d

    go : (o : Option Counter) → OnSpent o → OnOpened (elim o as (λ z. Result World Counter) [
      | Some n ↦ Err n
      | None ↦ Ok (new_world ((end_each clerks t (record_of.Epoch t.server.durable.epoch ∷ [])).0).server (end_each clerks t (record_of.Epoch t.server.durable.epoch ∷ [])).1)
    ])
    go (Some n) may = may
    go None may = record { server = ends-low clerks t (record_of.Epoch t.server.durable.epoch ∷ []) (servers.starts 0 (omega arith) d).low; clerks = λ c. tt }

pub drills-spend-few : DrillsSpendFew
drills-spend-few rs fates d few sixteen = go (open_world d) (opens d)
  where
    within : bound rs + 1 ≤ line_steps
    within = omega (arith, sixteen)

    go : (o : Result World Counter) → OnOpened o → AllSpendFew (drill_in rs fates o).0
    go (Err n) may = (may, tt)
    go (Ok w) h =
        let ran : Ran = run_from (bound rs) 1 rs fates w in
        let e : IsRan (close ran.ending ran) = closes ran.ending ran (run-few (bound rs) within 1 rs fates w 0 0 h (omega (arith, few)) (omega (arith, few))) in
        lines-more (joined (close ran.ending ran).pieces) (last_line (close ran.ending ran).ending) e.lines (last-few (close ran.ending ran).ending e.ending)
