-- How often each clerk started: a line starts a clerk once at most, and deliveries start none.
use Rattle.std.proofs.Common.{◌≡◌, refl, sym, ap, ◌∙◌, subst, arith, ◌≤◌, ◌+◌, ℕ, Bool, true, false, ◌==◌, cond, List, [], ◌∷◌, ◌++◌}
use Rattle.std.specs.Prelude.{Option, None, Some}
use Rattle.std.specs.List.{list_any}
use Rattle.ec_base.specs.Tables.{at, at_or, or_else, put}
use Rattle.ec_base.specs.declared.counter.Counter.{Counter}
use Rattle.ec_plain.specs.declared.call.Call.{Call}
use Rattle.ec_history.specs.declared.entry.Answer.{Answer}
use Rattle.ec_history.specs.declared.shown.Shown.TheVariants as show
use Rattle.ec_wire.specs.declared.msg.Msg.{Msg}
use Rattle.ec_durable.specs.declared.record.Record.{Record}
use Rattle.ec_protocol.specs.Clerk as clerk
use Rattle.ec_protocol.specs.Clerk.{Doing, begin, start}
use Rattle.ec_protocol.specs.Drill.{line_happens}
use Rattle.ec_protocol.specs.Server as server
use Rattle.ec_protocol.specs.Server.{Serving}
use Rattle.ec_protocol.specs.World.{Moving, add_call, boot, call, call_of, call_on, clerk_does, come_out, deliver, deliver_to, fails, is_answer_to, is_for_server, is_undurable, less_call, moving, noted, nothing, push, runs, send, send_all, served, served_record, settled, show_answer, show_line, show_noted, show_waits, start_and_call, to_clerk, to_server, with_world}
use Rattle.ec_protocol.specs.declared.clerk.Clerk.{Clerk}
use Rattle.ec_protocol.specs.declared.clerk.Out.{Out}
use Rattle.ec_protocol.specs.declared.clerk.Out.TheVariants as out
use Rattle.ec_protocol.specs.declared.script.Line.{Line}
use Rattle.ec_protocol.specs.declared.script.Line.TheVariants as line
use Rattle.ec_protocol.specs.declared.server.Server.{Server}
use Rattle.ec_protocol.specs.declared.world.Noted.{Noted}
use Rattle.ec_protocol.specs.declared.world.Noted.TheVariants as noted_of
use Rattle.ec_protocol.specs.declared.world.Sent.{Sent}
use Rattle.ec_protocol.specs.declared.world.World.{World}
use Rattle.ec_protocol.specs.declared.world.WorldFault.TheVariants as fault
use Rattle.ec_coherence.proofs.ForServer.Tables.{at-put}
use Rattle.ec_complete.specs.Complete.{IsFaultless}
use Rattle.ec_base.proofs.Numbers.{equal}

-- the same starts were
abbrev Alike : World → World → Type 0
Alike w u = u.boots ≡ w.boots

-- A clerk's step.

answered : (c n : ℕ) (a : Answer) (op : Option ℕ) (m : Moving) → Alike m.world (show_answer c n a op m).world
answered c n a op m = go (call_of c n m.world)
  where
    go : (o : Option (ℕ × Call)) → Alike m.world (elim o as (λ z. Moving) [ None ↦ m | Some l ↦ with_world (less_call c n) (show_line (show.Answered l.0 c l.1 a op) m) ]).world
    go None = refl
    go (Some l) = refl

outs : (c : ℕ) (os : List Out) (m : Moving) → Alike m.world (come_out c os m).world
outs c [] m = refl
outs c (out.Send x ∷ os) m = outs c os (with_world (send c x) m)
outs c (out.Told ns ∷ os) m = outs c os (show_line (show.Told c ns) m)
outs c (out.Answer n a op ∷ os) m = outs c os (show_answer c n a op m) ∙ answered c n a op m
outs c (out.OldBoot a ∷ os) m = outs c os m

does : (c : ℕ) (d : Doing) (m : Moving) → Alike m.world (clerk_does c d m).world
does c d m = go d.spent
  where
    go : (s : Option Counter) → Alike m.world (elim s as (λ z. Moving) [ Some n ↦ fails (fault.Spent n) m.world | None ↦ come_out c d.outs (with_world (λ w. record w { clerks = put c d.clerk w.clerks }) m) ]).world
    go (Some n) = refl
    go None = outs c d.outs (with_world (λ w. record w { clerks = put c d.clerk w.clerks }) m)

calls-on : (c line : ℕ) (cl : Call) (before : List Out) (k : Clerk) (w : World) → Alike w (call_on c line cl before k w).world
calls-on c line cl before k w = go (begin cl k).spent
  where
    waits : (b : Bool) → Alike w (elim b as (λ z. Moving) [ true ↦ moving (add_call c (k.calls + 1) line cl w) | false ↦ show_line (show.Waits line c cl) (moving (add_call c (k.calls + 1) line cl w)) ]).world
    waits true = refl
    waits false = refl

    go : (s : Option Counter) → Alike w (elim s as (λ z. Moving) [ Some s ↦ fails (fault.Spent s) w | None ↦ clerk_does c (record (begin cl k) { outs = before ++ (begin cl k).outs }) (show_waits c (k.calls + 1) line cl (begin cl k).outs (moving (add_call c (k.calls + 1) line cl w))) ]).world
    go (Some s) = refl
    go None = does c (record (begin cl k) { outs = before ++ (begin cl k).outs }) (show_waits c (k.calls + 1) line cl (begin cl k).outs (moving (add_call c (k.calls + 1) line cl w)))
        ∙ waits (list_any (is_answer_to (k.calls + 1)) (begin cl k).outs)

pushes : (c n : ℕ) (o : Option Clerk) (w : World) → Alike w (push c n o w).world
pushes c n None w = refl
pushes c n (Some k) w = go (clerk.has_issued n k) (is_undurable c n w)
  where
    go : (a b : Bool) → Alike w (elim a as (λ z. Moving) [ false ↦ fails fault.NoSuchOp w | true ↦ elim b as (λ z. Moving) [ true ↦ clerk_does c (clerk.push n k) (moving w) | false ↦ nothing w ] ]).world
    go false b = refl
    go true true = does c (clerk.push n k) (moving w)
    go true false = refl

-- A line's first step.

abbrev Rises : World → World → Type 0
Rises w u = (a : ℕ) → boot a u ≤ boot a w + 1

as-many : (w u : World) → Alike w u → Rises w u
as-many w u e a = omega (arith, ap (at_or 0 a) e)

starts-once : (c a : ℕ) (w : World) → at_or 0 a (put c (boot c w + 1) w.boots) ≤ boot a w + 1
starts-once c a w = subst (λ (o : Option ℕ). or_else 0 o ≤ boot a w + 1) (sym (at-put a c (boot c w + 1) w.boots)) (go (a == c) refl)
  where
    same : (a == c) ≡ true → boot c w ≡ boot a w
    same e = ap (λ z. boot z w) (sym (equal a c e))

    go : (b : Bool) → (a == c) ≡ b → or_else 0 (cond b (Some (boot c w + 1)) (at a w.boots)) ≤ boot a w + 1
    go true e = omega (arith, same e)
    go false e = omega arith

calls : (c line : ℕ) (cl : Call) (w : World) → Rises w (call c line cl w).world
calls c line cl w = go (at c w.clerks)
  where
    from-start : (s : Option Counter) → Rises w (elim s as (λ z. Moving) [ Some n ↦ fails (fault.Spent n) w | None ↦ call_on c line cl (start c (boot c w + 1)).outs (start c (boot c w + 1)).clerk (record w { boots = put c (boot c w + 1) w.boots }) ]).world
    from-start (Some n) = as-many w w refl
    from-start None = λ a. omega (arith, starts-once c a w, ap (at_or 0 a) (calls-on c line cl (start c (boot c w + 1)).outs (start c (boot c w + 1)).clerk (record w { boots = put c (boot c w + 1) w.boots })))

    go : (o : Option Clerk) → Rises w (elim o as (λ z. Moving) [ Some k ↦ call_on c line cl [] k w | None ↦ start_and_call c line cl w ]).world
    go (Some k) = as-many w (call_on c line cl [] k w).world (calls-on c line cl [] k w)
    go None = from-start (start c (boot c w + 1)).spent

pub first-rises : (n : ℕ) (w : World) (l : Line) → IsFaultless l → Rises w (line_happens runs n l w).world
first-rises n w line.Comment a = as-many w w refl
first-rises n w (line.Call c cl) a = calls c n cl w
first-rises n w (line.Push c i) a = as-many w (push c i (at c w.clerks) w).world (pushes c i (at c w.clerks) w)
first-rises n w (line.Cut c) a = absurd a
first-rises n w (line.Uncut c) a = absurd a
first-rises n w (line.Drop c i j) a = absurd a
first-rises n w (line.Repeat c i j) a = absurd a
first-rises n w (line.Deliver c i j) a = absurd a
first-rises n w (line.Resend c) a = absurd a
first-rises n w (line.Crash c) a = absurd a
first-rises n w (line.End c) a = absurd a
first-rises n w line.Stop a = absurd a
first-rises n w (line.Arm i ch) a = absurd a
first-rises n w line.Restart a = absurd a

-- A delivery.

all-sent : (ss : List (ℕ × Msg)) (w : World) → Alike w (send_all ss w)
all-sent [] w = refl
all-sent (s ∷ ss) w = all-sent ss (send s.0 s.1 w)

notes : (o : Option Noted) (m : Moving) → Alike m.world (show_noted o m).world
notes None m = refl
notes (Some (noted_of.Durable c ns)) m = refl
notes (Some (noted_of.Ended c b)) m = refl

records : (t : Serving) (w : World) (r : Option Record) → Alike w (served_record runs r t w).world
records t w None = all-sent t.sent (record w { server = Some t.server; durable = t.server.durable })
records t w (Some r) =
    let m : Moving = show_noted (noted w.durable r) (moving (record w { records = w.records ++ r ∷ [] })) in
    all-sent t.sent (record (m.world) { server = Some t.server; durable = t.server.durable }) ∙ notes (noted w.durable r) (moving (record w { records = w.records ++ r ∷ [] }))

serves : (t : Serving) (w : World) → Alike w (served runs t w).world
serves t w = go t.spent
  where
    go : (s : Option Counter) → Alike w (elim s as (λ z. Moving) [ Some n ↦ fails (fault.Spent n) w | None ↦ served_record runs t.rec t w ]).world
    go (Some n) = refl
    go None = records t w t.rec

to-server-alike : (i : ℕ) (s : Sent) (o : Option Server) (w : World) → Alike w (to_server runs i s o w).world
to-server-alike i s None w = refl
to-server-alike i s (Some v) w = serves (server.take s.clerk s.msg v) (settled i w)

to-clerk-alike : (c : ℕ) (m : Msg) (o : Option Clerk) (w : World) → Alike w (to_clerk c m o w).world
to-clerk-alike c m None w = refl
to-clerk-alike c m (Some k) w = does c (clerk.take m k) (moving w)

delivers : (i : ℕ) (s : Sent) (w : World) → Alike w (deliver_to runs i s w).world
delivers i s w = go (is_for_server s)
  where
    go : (b : Bool) → Alike w (elim b as (λ z. Moving) [ true ↦ to_server runs i s w.server w | false ↦ to_clerk s.clerk s.msg (at s.clerk w.clerks) (settled i w) ]).world
    go true = to-server-alike i s w.server w
    go false = to-clerk-alike s.clerk s.msg (at s.clerk w.clerks) (settled i w)

pub delivery-alike : (i : ℕ) (w : World) → (deliver runs i w).world.boots ≡ w.boots
delivery-alike i w = go (at i w.pool)
  where
    go : (o : Option Sent) → Alike w (elim o as (λ z. Moving) [ None ↦ fails fault.NoSuchMsg w | Some s ↦ deliver_to runs i s w ]).world
    go None = refl
    go (Some s) = delivers i s w
