-- No line of a step refuses a call, where nothing that comes out of it does.
use Rattle.std.proofs.Common.{◌≡◌, ◌+◌, ℕ, Bool, true, false, List, [], ◌∷◌, ◌++◌, refl}
use Rattle.std.specs.Prelude.{Option, None, Some, is_some, ◌||◌}
use Rattle.std.specs.List.{list_any}
use Rattle.ec_base.specs.Tables.{at, put}
use Rattle.ec_base.specs.declared.counter.Counter.{Counter}
use Rattle.ec_plain.specs.declared.call.Call.{Call}
use Rattle.ec_history.specs.History.{Each}
use Rattle.ec_history.specs.Placing.{EachLine, watch}
use Rattle.ec_history.specs.declared.entry.Answer.{Answer}
use Rattle.ec_history.specs.declared.entry.Answer.TheVariants as answer
use Rattle.ec_history.specs.declared.shown.Shown.{Shown}
use Rattle.ec_history.specs.declared.shown.Shown.TheVariants as show
use Rattle.ec_wire.specs.declared.msg.Msg.{Msg}
use Rattle.ec_durable.specs.declared.record.Record.{Record}
use Rattle.ec_protocol.specs.Clerk as clerk
use Rattle.ec_protocol.specs.Clerk.{Doing, begin, start}
use Rattle.ec_protocol.specs.Server as server
use Rattle.ec_protocol.specs.Server.{Serving}
use Rattle.ec_protocol.specs.World.{Moving, add_call, boot, call, call_of, call_on, clerk_does, come_out, deliver, deliver_to, fails, is_answer_to, is_for_server, is_running, is_undurable, less_call, moving, noted, nothing, push, runs, send, served, served_record, settled, show_answer, show_ended, show_line, show_noted, show_waits, start_and_call, to_clerk, to_server, with_world}
use Rattle.ec_protocol.specs.declared.clerk.Clerk.{Clerk}
use Rattle.ec_protocol.specs.declared.clerk.Out.{Out}
use Rattle.ec_protocol.specs.declared.clerk.Out.TheVariants as out
use Rattle.ec_protocol.specs.declared.server.Server.{Server}
use Rattle.ec_protocol.specs.declared.world.Noted.{Noted}
use Rattle.ec_protocol.specs.declared.world.Noted.TheVariants as noted_of
use Rattle.ec_protocol.specs.declared.world.Sent.{Sent}
use Rattle.ec_protocol.specs.declared.world.World.{World}
use Rattle.ec_protocol.specs.declared.world.WorldFault.TheVariants as fault
use Rattle.ec_coherence.proofs.ForServer.Lists.{each-more}
use Rattle.ec_complete.specs.SettledRuns.{HasRoom}
use Rattle.ec_complete.specs.Rooms.{HasRoomIn}

abbrev Room : List Shown → Type 0
Room ss = EachLine HasRoom ss

pub both : (ss ts : List Shown) → Room ss → Room ts → Room (ss ++ ts)
both [] ts a b = b
both (s ∷ ss) ts a b = (a.0, both ss ts a.1 b)

one-more : (ss : List Shown) (s : Shown) → Room ss → HasRoom s → Room (ss ++ s ∷ [])
one-more ss s a b = both ss (s ∷ []) a (b, tt)

has-room : (n l c : ℕ) (cl : Call) (a : Answer) (op : Option ℕ) → HasRoomIn (out.Answer n a op) → HasRoom (show.Answered l c cl a op)
has-room n l c cl (answer.Reply r) op h = tt
has-room n l c cl (answer.Lost ns) op h = tt
has-room n l c cl (answer.NoRoom live reserved) op h = absurd h

answered : (c n : ℕ) (a : Answer) (op : Option ℕ) (m : Moving) → HasRoomIn (out.Answer n a op) → Room m.shown → Room (show_answer c n a op m).shown
answered c n a op m h p = go (call_of c n m.world)
  where
    go : (o : Option (ℕ × Call)) → Room (elim o as (λ z. Moving) [ None ↦ m | Some l ↦ with_world (less_call c n) (show_line (show.Answered l.0 c l.1 a op) m) ]).shown
    go None = p
    go (Some l) = one-more m.shown (show.Answered l.0 c l.1 a op) p (has-room n l.0 c l.1 a op h)

outs : (c : ℕ) (os : List Out) (m : Moving) → Each HasRoomIn os → Room m.shown → Room (come_out c os m).shown
outs c [] m h p = p
outs c (out.Send x ∷ os) m h p = outs c os (with_world (send c x) m) h.1 p
outs c (out.Told ns ∷ os) m h p = outs c os (show_line (show.Told c ns) m) h.1 (one-more m.shown (show.Told c ns) p tt)
outs c (out.Answer n a op ∷ os) m h p = outs c os (show_answer c n a op m) h.1 (answered c n a op m h.0 p)
outs c (out.OldBoot a ∷ os) m h p = outs c os m h.1 p

does : (c : ℕ) (d : Doing) (m : Moving) → Each HasRoomIn d.outs → Room m.shown → Room (clerk_does c d m).shown
does c d m h p = go d.spent
  where
    go : (s : Option Counter) → Room (elim s as (λ z. Moving) [ Some n ↦ fails (fault.Spent n) m.world | None ↦ come_out c d.outs (with_world (λ w. record w { clerks = put c d.clerk w.clerks }) m) ]).shown
    go (Some n) = tt
    go None = outs c d.outs (with_world (λ w. record w { clerks = put c d.clerk w.clerks }) m) h p

-- Calls and pushes.

module _ (c line : ℕ) (cl : Call) (before : List Out) (k : Clerk) (w : World) (first : Each HasRoomIn before) (then : Each HasRoomIn (begin cl k).outs) where
  abbrev began : Moving
  began = moving (add_call c (k.calls + 1) line cl w)

  calls-on : Room (call_on c line cl before k w).shown
  calls-on = go (begin cl k).spent
    where
      waits : (b : Bool) → Room (elim b as (λ z. Moving) [ true ↦ began | false ↦ show_line (show.Waits line c cl) began ]).shown
      waits true = tt
      waits false = (tt, tt)

      go : (s : Option Counter) → Room (elim s as (λ z. Moving) [ Some s ↦ fails (fault.Spent s) w | None ↦ clerk_does c (record (begin cl k) { outs = before ++ (begin cl k).outs }) (show_waits c (k.calls + 1) line cl (begin cl k).outs began) ]).shown
      go (Some s) = tt
      go None =
          does c (record (begin cl k) { outs = before ++ (begin cl k).outs }) (show_waits c (k.calls + 1) line cl (begin cl k).outs began) (each-more HasRoomIn before (begin cl k).outs first then)
          (waits (list_any (is_answer_to (k.calls + 1)) (begin cl k).outs))

module _ (c line : ℕ) (cl : Call) (w : World) where
  abbrev d : Doing
  d = start c (boot c w + 1)

  starts-on : Each HasRoomIn d.outs → Each HasRoomIn (begin cl d.clerk).outs → Room (start_and_call c line cl w).shown
  starts-on first then = go (start c (boot c w + 1)).spent
    where
      go : (s : Option Counter) → Room (elim s as (λ z. Moving) [ Some n ↦ fails (fault.Spent n) w | None ↦ call_on c line cl d.outs d.clerk (record w { boots = put c (boot c w + 1) w.boots }) ]).shown
      go (Some n) = tt
      go None = calls-on c line cl d.outs d.clerk (record w { boots = put c (boot c w + 1) w.boots }) first then

  pub called : (k : Clerk) → at c w.clerks ≡ Some k → Each HasRoomIn (begin cl k).outs → Room (call c line cl w).shown
  called k e then = Rattle.std.proofs.Common.subst (λ o. Room (elim o as (λ z. Moving) [ Some k ↦ call_on c line cl [] k w | None ↦ start_and_call c line cl w ]).shown) (Rattle.std.proofs.Common.sym e) (calls-on c line cl [] k w tt then)

  pub started : at c w.clerks ≡ None → Each HasRoomIn d.outs → Each HasRoomIn (begin cl d.clerk).outs → Room (call c line cl w).shown
  started e first then = Rattle.std.proofs.Common.subst (λ o. Room (elim o as (λ z. Moving) [ Some k ↦ call_on c line cl [] k w | None ↦ start_and_call c line cl w ]).shown) (Rattle.std.proofs.Common.sym e) (starts-on first then)

pub pushed : (w : World) (c n : ℕ) (k : Clerk) → Each HasRoomIn (clerk.push n k).outs → Room (push c n (Some k) w).shown
pushed w c n k h = go (clerk.has_issued n k) (is_undurable c n w)
  where
    go : (a b : Bool) → Room (elim a as (λ z. Moving) [ false ↦ fails fault.NoSuchOp w | true ↦ elim b as (λ z. Moving) [ true ↦ clerk_does c (clerk.push n k) (moving w) | false ↦ nothing w ] ]).shown
    go false b = tt
    go true true = does c (clerk.push n k) (moving w) h tt
    go true false = (tt, tt)

-- Deliveries.

ended : (c b : ℕ) (w : World) → HasRoom (show_ended c b w)
ended c b w = go (is_some (watch c w.shown).open_start || is_running c b w)
  where
    go : (z : Bool) → HasRoom (elim z as (λ z. Shown) [ true ↦ show.Ended c (watch c w.shown).undurable | false ↦ show.Unseen c ])
    go true = tt
    go false = tt

notes : (o : Option Noted) (m : Moving) → Room m.shown → Room (show_noted o m).shown
notes None m p = p
notes (Some (noted_of.Durable c ns)) m p = one-more m.shown (show.Durable c ns) p tt
notes (Some (noted_of.Ended c b)) m p = one-more m.shown (show_ended c b m.world) p (ended c b m.world)

records : (t : Serving) (w : World) (r : Option Record) → Room (served_record runs r t w).shown
records t w None = tt
records t w (Some r) = notes (noted w.durable r) (moving (record w { records = w.records ++ r ∷ [] })) tt

serves : (t : Serving) (w : World) → Room (served runs t w).shown
serves t w = go t.spent
  where
    go : (s : Option Counter) → Room (elim s as (λ z. Moving) [ Some n ↦ fails (fault.Spent n) w | None ↦ served_record runs t.rec t w ]).shown
    go (Some n) = tt
    go None = records t w t.rec

to-server : (n : ℕ) (s : Sent) (w : World) (o : Option Server) → Room (to_server runs n s o w).shown
to-server n s w None = (tt, tt)
to-server n s w (Some v) = serves (server.take s.clerk s.msg v) (settled n w)

to-one : (c : ℕ) (m : Msg) (w : World) (o : Option Clerk) → ((k : Clerk) → o ≡ Some k → Each HasRoomIn (clerk.take m k).outs) → Room (to_clerk c m o w).shown
to-one c m w None h = tt
to-one c m w (Some k) h = does c (clerk.take m k) (moving w) (h k refl) tt

-- where the clerk's step refuses none
pub delivered : (w : World) (n : ℕ) → ((s : Sent) → at n w.pool ≡ Some s → is_for_server s ≡ false → (k : Clerk) → at s.clerk w.clerks ≡ Some k → Each HasRoomIn (clerk.take s.msg k).outs) → Room (deliver runs n w).shown
delivered w n h = go (at n w.pool) refl
  where
    by-side : (s : Sent) → at n w.pool ≡ Some s → (b : Bool) → is_for_server s ≡ b → Room (elim b as (λ z. Moving) [ true ↦ to_server runs n s w.server w | false ↦ to_clerk s.clerk s.msg (at s.clerk w.clerks) (settled n w) ]).shown
    by-side s e true f = to-server n s w w.server
    by-side s e false f = to-one s.clerk s.msg (settled n w) (at s.clerk w.clerks) (h s e f)

    go : (o : Option Sent) → at n w.pool ≡ o → Room (elim o as (λ z. Moving) [ None ↦ fails fault.NoSuchMsg w | Some s ↦ deliver_to runs n s w ]).shown
    go None e = tt
    go (Some s) e = by-side s e (is_for_server s) refl
