-- The server runs and no link is cut: so it stays where calls begin, operations are pushed and messages are delivered, while the disk runs.
use Rattle.std.proofs.Common.{◌≡◌, refl, sym, subst, ◌∙◌, arith, ℕ, T, Bool, true, false, ◌+◌, List, [], ◌∷◌, ◌++◌, Option, Some, None}
use Rattle.std.specs.Prelude.{is_some, Result, Ok, Err}
use Rattle.std.specs.List.{list_any}
use Rattle.ec_base.specs.Tables.{at, put}
use Rattle.ec_base.specs.declared.counter.Counter.{Counter}
use Rattle.ec_plain.specs.declared.call.Call.{Call}
use Rattle.ec_history.specs.declared.shown.Shown.TheVariants as show
use Rattle.ec_wire.specs.declared.msg.Msg.{Msg}
use Rattle.ec_durable.specs.declared.record.Record.{Record}
use Rattle.ec_durable.specs.declared.record.Record.TheVariants as record_of
use Rattle.ec_durable.specs.declared.state.Durable.{Durable}
use Rattle.ec_protocol.specs.Clerk.{Doing, begin, has_issued, push, start, take as take_message}
use Rattle.ec_protocol.specs.Server.{Serving}
use Rattle.ec_protocol.specs.Server as server
use Rattle.ec_protocol.specs.World as world
use Rattle.ec_protocol.specs.World.{runs, Moving, call_of, is_answer_to, moving, open_world}
use Rattle.ec_protocol.specs.declared.clerk.Clerk.{Clerk}
use Rattle.ec_protocol.specs.declared.clerk.Out.{Out}
use Rattle.ec_protocol.specs.declared.clerk.Out.TheVariants as out
use Rattle.ec_protocol.specs.declared.server.Server.{Server}
use Rattle.ec_protocol.specs.declared.world.Noted.{Noted}
use Rattle.ec_protocol.specs.declared.world.Noted.TheVariants as noted_of
use Rattle.ec_protocol.specs.declared.world.Sent.{Sent}
use Rattle.ec_protocol.specs.declared.world.World.{World}
use Rattle.ec_protocol.specs.declared.world.WorldFault.TheVariants as fault

pub record IsLinked (w : World) : Type 0 where
  pub up : T (is_some w.server)
  pub uncut : w.cut ≡ []

same-linked : (w v : World) → v.server ≡ w.server → v.cut ≡ w.cut → IsLinked w → IsLinked v
same-linked w v q r l = record { up = subst (λ o. T (is_some o)) (sym q) l.up; uncut = r ∙ l.uncut }

-- A clerk's step.

come-linked : (c : ℕ) (os : List Out) (m : Moving) → IsLinked m.world → IsLinked (world.come_out c os m).world
come-linked c [] m l = l
come-linked c (out.Send x ∷ os) m l = let n = world.with_world (world.send c x) m in come-linked c os n (same-linked m.world n.world refl refl l)
come-linked c (out.Told ns ∷ os) m l = let n = world.show_line (show.Told c ns) m in come-linked c os n (same-linked m.world n.world refl refl l)
come-linked c (out.OldBoot a ∷ os) m l = come-linked c os m l
come-linked c (out.Answer n a op ∷ os) m l = come-linked c os (world.show_answer c n a op m) (by (call_of c n m.world))
  where
    shown : ℕ × Call → Moving
    shown k = world.with_world (world.less_call c n) (world.show_line (show.Answered k.0 c k.1 a op) m)

    by : (o : Option (ℕ × Call)) → IsLinked (elim o as (λ z. Moving) [ None ↦ m | Some k ↦ shown k ]).world
    by None = l
    by (Some k) = same-linked m.world (shown k).world refl refl l

does-linked : (c : ℕ) (d : Doing) (m : Moving) → IsLinked m.world → IsLinked (world.clerk_does c d m).world
does-linked c d m l = by d.spent
  where
    n : Moving
    n = world.with_world (λ w. record w { clerks = put c d.clerk w.clerks }) m

    by : (o : Option Counter) → IsLinked (elim o as (λ z. Moving) [ Some s ↦ world.fails (fault.Spent s) m.world | None ↦ world.come_out c d.outs n ]).world
    by (Some s) = l
    by None = come-linked c d.outs n (same-linked m.world n.world refl refl l)

-- Calls and pushes.

waits-linked : (c l : ℕ) (cl : Call) (m : Moving) (z : Bool) → IsLinked m.world → IsLinked (elim z as (λ y. Moving) [ true ↦ m | false ↦ world.show_line (show.Waits l c cl) m ]).world
waits-linked c l cl m true k = k
waits-linked c l cl m false k = same-linked m.world (world.show_line (show.Waits l c cl) m).world refl refl k

call-on-linked : (c l : ℕ) (cl : Call) (before : List Out) (k : Clerk) (w : World) → IsLinked w → IsLinked (world.call_on c l cl before k w).world
call-on-linked c l cl before k w i = by (begin cl k).spent
  where
    v : World
    v = world.add_call c (k.calls + 1) l cl w

    m : Moving
    m = world.show_waits c (k.calls + 1) l cl (begin cl k).outs (moving v)

    d : Doing
    d = record (begin cl k) { outs = before ++ (begin cl k).outs }

    waits : IsLinked m.world
    waits = waits-linked c l cl (moving v) (list_any (is_answer_to (k.calls + 1)) (begin cl k).outs) (same-linked w v refl refl i)

    by : (o : Option Counter) → IsLinked (elim o as (λ z. Moving) [ Some s ↦ world.fails (fault.Spent s) w | None ↦ world.clerk_does c d m ]).world
    by (Some s) = i
    by None = does-linked c d m waits

pub call-linked : (c l : ℕ) (cl : Call) (w : World) → IsLinked w → IsLinked (world.call c l cl w).world
call-linked c l cl w i = by (at c w.clerks)
  where
    v : World
    v = record w { boots = put c (world.boot c w + 1) w.boots }

    d : Doing
    d = start c (world.boot c w + 1)

    starts : (o : Option Counter) → IsLinked (elim o as (λ z. Moving) [ Some n ↦ world.fails (fault.Spent n) w | None ↦ world.call_on c l cl d.outs d.clerk v ]).world
    starts (Some n) = i
    starts None = call-on-linked c l cl d.outs d.clerk v (same-linked w v refl refl i)

    by : (o : Option Clerk) → IsLinked (elim o as (λ z. Moving) [ Some k ↦ world.call_on c l cl [] k w | None ↦ world.start_and_call c l cl w ]).world
    by (Some k) = call-on-linked c l cl [] k w i
    by None = starts d.spent

nothing-linked : (w : World) → IsLinked w → IsLinked (world.nothing w).world
nothing-linked w i = same-linked w (world.nothing w).world refl refl i

pub push-linked : (c n : ℕ) (o : Option Clerk) (w : World) → IsLinked w → IsLinked (world.push c n o w).world
push-linked c n None w i = i
push-linked c n (Some k) w i = by (has_issued n k)
  where
    may : (z : Bool) → IsLinked (elim z as (λ y. Moving) [ true ↦ world.clerk_does c (push n k) (moving w) | false ↦ world.nothing w ]).world
    may true = does-linked c (push n k) (moving w) i
    may false = nothing-linked w i

    by : (z : Bool) → IsLinked (elim z as (λ y. Moving) [ false ↦ world.fails fault.NoSuchOp w | true ↦ elim (world.is_undurable c n w) as (λ y. Moving) [ true ↦ world.clerk_does c (push n k) (moving w) | false ↦ world.nothing w ] ]).world
    by false = i
    by true = may (world.is_undurable c n w)

-- Messages.

sends-linked : (ss : List (ℕ × Msg)) (w : World) → IsLinked w → IsLinked (world.send_all ss w)
sends-linked [] w i = i
sends-linked (s ∷ ss) w i = sends-linked ss (world.send s.0 s.1 w) (same-linked w (world.send s.0 s.1 w) refl refl i)

goes-linked : (t : Serving) (w : World) → w.cut ≡ [] → IsLinked (world.go_on t w)
goes-linked t w q = sends-linked t.sent (record w { server = Some t.server; durable = t.server.durable }) (record { up = tt; uncut = q })

noted-uncut : (o : Option Noted) (m : Moving) → (world.show_noted o m).world.cut ≡ m.world.cut
noted-uncut None m = refl
noted-uncut (Some (noted_of.Durable c ns)) m = refl
noted-uncut (Some (noted_of.Ended c b)) m = refl

served-linked : (t : Serving) (w : World) → IsLinked w → IsLinked (world.served runs t w).world
served-linked t w i = by t.spent
  where
    shown : Record → Moving
    shown r = world.show_noted (world.noted w.durable r) (moving (record w { records = w.records ++ r ∷ [] }))

    recorded : (o : Option Record) → IsLinked (world.served_record runs o t w).world
    recorded None = goes-linked t w i.uncut
    recorded (Some r) = goes-linked t (shown r).world (noted-uncut (world.noted w.durable r) (moving (record w { records = w.records ++ r ∷ [] })) ∙ i.uncut)

    by : (o : Option Counter) → IsLinked (elim o as (λ z. Moving) [ Some n ↦ world.fails (fault.Spent n) w | None ↦ world.served_record runs t.rec t w ]).world
    by (Some n) = i
    by None = recorded t.rec

pub deliver-linked : (n : ℕ) (w : World) → IsLinked w → IsLinked (world.deliver runs n w).world
deliver-linked n w i = by (at n w.pool)
  where
    v : World
    v = world.settled n w

    settled : IsLinked v
    settled = same-linked w v refl refl i

    to-server : (s : Sent) (o : Option Server) → IsLinked (world.to_server runs n s o w).world
    to-server s None = nothing-linked w i
    to-server s (Some u) = served-linked (server.take s.clerk s.msg u) v settled

    to-clerk : (s : Sent) (o : Option Clerk) → IsLinked (world.to_clerk s.clerk s.msg o v).world
    to-clerk s None = settled
    to-clerk s (Some k) = does-linked s.clerk (take_message s.msg k) (moving v) settled

    to : (s : Sent) (z : Bool) → IsLinked (elim z as (λ y. Moving) [ true ↦ world.to_server runs n s w.server w | false ↦ world.to_clerk s.clerk s.msg (at s.clerk w.clerks) v ]).world
    to s true = to-server s w.server
    to s false = to-clerk s (at s.clerk w.clerks)

    by : (o : Option Sent) → IsLinked (elim o as (λ z. Moving) [ None ↦ world.fails fault.NoSuchMsg w | Some s ↦ world.deliver_to runs n s w ]).world
    by None = i
    by (Some s) = to s (world.is_for_server s)

-- A world that is opened.
pub opened-linked : (d : Durable) (w : World) → open_world d ≡ Ok w → IsLinked w
opened-linked d w q = by (server.start d).spent q
  where
    t : Serving
    t = server.start d

    ended : Serving × List Record
    ended = world.end_each world.clerks t (record_of.Epoch t.server.durable.epoch ∷ [])

    new : World
    new = world.new_world (ended.0).server ended.1

    alike : (a b : World) → ◌≡◌ {A = Result World Counter} (Ok a) (Ok b) → a ≡ b
    alike a b p = cc

    apart : (n : Counter) → ◌≡◌ {A = Result World Counter} (Err n) (Ok w) → ⊥
    apart n p = grind (arith, p)

    by : (o : Option Counter) → elim o as (λ z. Result World Counter) [ Some n ↦ Err n | None ↦ Ok new ] ≡ Ok w → IsLinked w
    by (Some n) e = absurd (apart n e)
    by None e = subst IsLinked (alike new w e) (record { up = tt; uncut = refl })
