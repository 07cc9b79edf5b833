-- No step of a line without faults shows that messages didn't settle.
use Rattle.std.proofs.Common.{◌+◌, ℕ, Bool, true, false, List, [], ◌∷◌, ◌++◌}
use Rattle.std.specs.Prelude.{Option, None, Some, is_some, ◌||◌}
use Rattle.std.specs.List.{list_any}
use Rattle.ec_base.specs.Tables.{at, put}
use Rattle.ec_base.specs.declared.counter.Counter.{Counter}
use Rattle.ec_plain.specs.declared.call.Call.{Call}
use Rattle.ec_history.specs.Placing.{EachLine, watch}
use Rattle.ec_history.specs.declared.entry.Answer.{Answer}
use Rattle.ec_history.specs.declared.shown.Shown.{Shown}
use Rattle.ec_history.specs.declared.shown.Shown.TheVariants as show
use Rattle.ec_wire.specs.declared.msg.Msg.{Msg}
use Rattle.ec_durable.specs.declared.record.Record.{Record}
use Rattle.ec_protocol.specs.Clerk as clerk
use Rattle.ec_protocol.specs.Clerk.{Doing, begin, start}
use Rattle.ec_protocol.specs.Server as server
use Rattle.ec_protocol.specs.Server.{Serving}
use Rattle.ec_protocol.specs.World.{Moving, add_call, boot, call, call_of, call_on, clerk_does, come_out, deliver, deliver_to, fails, is_answer_to, is_for_server, is_running, is_undurable, less_call, moving, noted, nothing, push, runs, send, served, served_record, settled, show_answer, show_ended, show_line, show_noted, show_waits, start_and_call, to_clerk, to_server, with_world}
use Rattle.ec_protocol.specs.declared.clerk.Clerk.{Clerk}
use Rattle.ec_protocol.specs.declared.clerk.Out.{Out}
use Rattle.ec_protocol.specs.declared.clerk.Out.TheVariants as out
use Rattle.ec_protocol.specs.declared.server.Server.{Server}
use Rattle.ec_protocol.specs.declared.world.Noted.{Noted}
use Rattle.ec_protocol.specs.declared.world.Noted.TheVariants as noted_of
use Rattle.ec_protocol.specs.declared.world.Sent.{Sent}
use Rattle.ec_protocol.specs.declared.world.World.{World}
use Rattle.ec_protocol.specs.declared.world.WorldFault.TheVariants as fault
use Rattle.ec_quiet.specs.Settling.{IsSettled}

abbrev AreSettled : List Shown → Type 0
AreSettled ss = EachLine IsSettled ss

pub both : (ss ts : List Shown) → AreSettled ss → AreSettled ts → AreSettled (ss ++ ts)
both [] ts a b = b
both (s ∷ ss) ts a b = (a.0, both ss ts a.1 b)

one-more : (ss : List Shown) (s : Shown) → AreSettled ss → IsSettled s → AreSettled (ss ++ s ∷ [])
one-more ss s a b = both ss (s ∷ []) a (b, tt)

answered : (c n : ℕ) (a : Answer) (op : Option ℕ) (m : Moving) → AreSettled m.shown → AreSettled (show_answer c n a op m).shown
answered c n a op m p = go (call_of c n m.world)
  where
    go : (o : Option (ℕ × Call)) → AreSettled (elim o as (λ z. Moving) [ None ↦ m | Some l ↦ with_world (less_call c n) (show_line (show.Answered l.0 c l.1 a op) m) ]).shown
    go None = p
    go (Some l) = one-more m.shown (show.Answered l.0 c l.1 a op) p tt

outs : (c : ℕ) (os : List Out) (m : Moving) → AreSettled m.shown → AreSettled (come_out c os m).shown
outs c [] m p = p
outs c (out.Send x ∷ os) m p = outs c os (with_world (send c x) m) p
outs c (out.Told ns ∷ os) m p = outs c os (show_line (show.Told c ns) m) (one-more m.shown (show.Told c ns) p tt)
outs c (out.Answer n a op ∷ os) m p = outs c os (show_answer c n a op m) (answered c n a op m p)
outs c (out.OldBoot a ∷ os) m p = outs c os m p

does : (c : ℕ) (d : Doing) (m : Moving) → AreSettled m.shown → AreSettled (clerk_does c d m).shown
does c d m p = go d.spent
  where
    go : (s : Option Counter) → AreSettled (elim s as (λ z. Moving) [ Some n ↦ fails (fault.Spent n) m.world | None ↦ come_out c d.outs (with_world (λ w. record w { clerks = put c d.clerk w.clerks }) m) ]).shown
    go (Some n) = tt
    go None = outs c d.outs (with_world (λ w. record w { clerks = put c d.clerk w.clerks }) m) p

-- Calls and pushes.

module _ (c line : ℕ) (cl : Call) (before : List Out) (k : Clerk) (w : World) where
  abbrev began : Moving
  began = moving (add_call c (k.calls + 1) line cl w)

  calls-on : AreSettled (call_on c line cl before k w).shown
  calls-on = go (begin cl k).spent
    where
      waits : (b : Bool) → AreSettled (elim b as (λ z. Moving) [ true ↦ began | false ↦ show_line (show.Waits line c cl) began ]).shown
      waits true = tt
      waits false = (tt, tt)

      go : (s : Option Counter) → AreSettled (elim s as (λ z. Moving) [ Some s ↦ fails (fault.Spent s) w | None ↦ clerk_does c (record (begin cl k) { outs = before ++ (begin cl k).outs }) (show_waits c (k.calls + 1) line cl (begin cl k).outs began) ]).shown
      go (Some s) = tt
      go None = does c (record (begin cl k) { outs = before ++ (begin cl k).outs }) (show_waits c (k.calls + 1) line cl (begin cl k).outs began) (waits (list_any (is_answer_to (k.calls + 1)) (begin cl k).outs))

module _ (c line : ℕ) (cl : Call) (w : World) where
  abbrev d : Doing
  d = start c (boot c w + 1)

  starts-on : AreSettled (start_and_call c line cl w).shown
  starts-on = go (start c (boot c w + 1)).spent
    where
      go : (s : Option Counter) → AreSettled (elim s as (λ z. Moving) [ Some n ↦ fails (fault.Spent n) w | None ↦ call_on c line cl d.outs d.clerk (record w { boots = put c (boot c w + 1) w.boots }) ]).shown
      go (Some n) = tt
      go None = calls-on c line cl d.outs d.clerk (record w { boots = put c (boot c w + 1) w.boots })

calls : (w : World) (c line : ℕ) (cl : Call) → AreSettled (call c line cl w).shown
calls w c line cl = go (at c w.clerks)
  where
    go : (o : Option Clerk) → AreSettled (elim o as (λ z. Moving) [ Some k ↦ call_on c line cl [] k w | None ↦ start_and_call c line cl w ]).shown
    go (Some k) = calls-on c line cl [] k w
    go None = starts-on c line cl w

pushes : (w : World) (c n : ℕ) (k : Clerk) → AreSettled (push c n (Some k) w).shown
pushes w c n k = go (clerk.has_issued n k) (is_undurable c n w)
  where
    go : (a b : Bool) → AreSettled (elim a as (λ z. Moving) [ false ↦ fails fault.NoSuchOp w | true ↦ elim b as (λ z. Moving) [ true ↦ clerk_does c (clerk.push n k) (moving w) | false ↦ nothing w ] ]).shown
    go false b = tt
    go true true = does c (clerk.push n k) (moving w) tt
    go true false = (tt, tt)

-- Deliveries.

ended : (c b : ℕ) (w : World) → IsSettled (show_ended c b w)
ended c b w = go (is_some (watch c w.shown).open_start || is_running c b w)
  where
    go : (z : Bool) → IsSettled (elim z as (λ z. Shown) [ true ↦ show.Ended c (watch c w.shown).undurable | false ↦ show.Unseen c ])
    go true = tt
    go false = tt

notes : (o : Option Noted) (m : Moving) → AreSettled m.shown → AreSettled (show_noted o m).shown
notes None m p = p
notes (Some (noted_of.Durable c ns)) m p = one-more m.shown (show.Durable c ns) p tt
notes (Some (noted_of.Ended c b)) m p = one-more m.shown (show_ended c b m.world) p (ended c b m.world)

records : (t : Serving) (w : World) (r : Option Record) → AreSettled (served_record runs r t w).shown
records t w None = tt
records t w (Some r) = notes (noted w.durable r) (moving (record w { records = w.records ++ r ∷ [] })) tt

serves : (t : Serving) (w : World) → AreSettled (served runs t w).shown
serves t w = go t.spent
  where
    go : (s : Option Counter) → AreSettled (elim s as (λ z. Moving) [ Some n ↦ fails (fault.Spent n) w | None ↦ served_record runs t.rec t w ]).shown
    go (Some n) = tt
    go None = records t w t.rec

to-server : (n : ℕ) (s : Sent) (w : World) (o : Option Server) → AreSettled (to_server runs n s o w).shown
to-server n s w None = (tt, tt)
to-server n s w (Some v) = serves (server.take s.clerk s.msg v) (settled n w)

to-one : (c : ℕ) (m : Msg) (w : World) (o : Option Clerk) → AreSettled (to_clerk c m o w).shown
to-one c m w None = tt
to-one c m w (Some k) = does c (clerk.take m k) (moving w) tt

deliveries : (w : World) (n : ℕ) → AreSettled (deliver runs n w).shown
deliveries w n = go (at n w.pool)
  where
    by-side : (s : Sent) (b : Bool) → AreSettled (elim b as (λ z. Moving) [ true ↦ to_server runs n s w.server w | false ↦ to_clerk s.clerk s.msg (at s.clerk w.clerks) (settled n w) ]).shown
    by-side s true = to-server n s w w.server
    by-side s false = to-one s.clerk s.msg (settled n w) (at s.clerk w.clerks)

    go : (o : Option Sent) → AreSettled (elim o as (λ z. Moving) [ None ↦ fails fault.NoSuchMsg w | Some s ↦ deliver_to runs n s w ]).shown
    go None = tt
    go (Some s) = by-side s (is_for_server s)

pub settled-lines : (w : World) → ((n : ℕ) → AreSettled (deliver runs n w).shown) × ((c line : ℕ) (cl : Call) → AreSettled (call c line cl w).shown) × ((c n : ℕ) (k : Clerk) → AreSettled (push c n (Some k) w).shown)
settled-lines w = (deliveries w, calls w, pushes w)
