-- Messages that were sent and aren't pending any more were delivered: a delivery delivers one.
use Rattle.std.proofs.Common.{◌≡◌, refl, sym, ap, ◌∙◌, subst, arith, ◌+◌, ℕ, Bool, true, false, List, [], ◌∷◌, ◌++◌, length, length-append}
use Rattle.std.specs.Prelude.{Option, None, Some}
use Rattle.std.specs.List.{list_any}
use Rattle.ec_base.specs.Tables.{at, put}
use Rattle.ec_base.specs.declared.counter.Counter.{Counter}
use Rattle.ec_plain.specs.declared.call.Call.{Call}
use Rattle.ec_history.specs.declared.entry.Answer.{Answer}
use Rattle.ec_history.specs.declared.shown.Shown.TheVariants as show
use Rattle.ec_wire.specs.declared.msg.Msg.{Msg}
use Rattle.ec_durable.specs.declared.record.Record.{Record}
use Rattle.ec_protocol.specs.Clerk as clerk
use Rattle.ec_protocol.specs.Clerk.{Doing, begin, start}
use Rattle.ec_protocol.specs.Server as server
use Rattle.ec_protocol.specs.Server.{Serving}
use Rattle.ec_protocol.specs.World.{Moving, add_call, boot, call, call_of, call_on, clerk_does, come_out, deliver, deliver_to, due, fails, go_on, is_answer_to, is_for_server, is_undurable, less_call, moving, noted, nothing, push, runs, send, send_all, served, served_record, settled, show_answer, show_line, show_noted, show_waits, start_and_call, to_clerk, to_server, with_world}
use Rattle.ec_protocol.specs.declared.clerk.Clerk.{Clerk}
use Rattle.ec_protocol.specs.declared.clerk.Out.{Out}
use Rattle.ec_protocol.specs.declared.clerk.Out.TheVariants as out
use Rattle.ec_protocol.specs.declared.world.Noted.{Noted}
use Rattle.ec_protocol.specs.declared.world.Noted.TheVariants as noted_of
use Rattle.ec_protocol.specs.declared.world.Sent.{Sent}
use Rattle.ec_protocol.specs.declared.world.World.{World}
use Rattle.ec_protocol.specs.declared.world.WorldFault.TheVariants as fault
use Rattle.ec_quiet.specs.Scenes.{IsScene, Mail, Scene}
use Rattle.ec_quiet.proofs.Sending.{IsFirst, first-leaves}
use Rattle.ec_quiet.proofs.Delivering as delivering
use Rattle.ec_quiet.specs.SettlingCounts.{Counts}
use Rattle.ec_quiet.proofs.Mail.{pending-is}

-- the step m from the world a sends as many messages as become pending
abbrev Steady : World → World → Type 0
Steady a u = u.sent + length a.pending ≡ a.sent + length u.pending

on-from : (a u z : World) → Steady a u → Steady u z → Steady a z
on-from a u z p q = omega (arith, p, q)

one-sent : (c : ℕ) (m : Msg) (w : World) → Steady w (send c m w)
one-sent c m w = omega (arith, length-append w.pending ((w.sent + 1) ∷ []))

all-sent : (ss : Mail) (w : World) → Steady w (send_all ss w)
all-sent [] w = refl
all-sent (s ∷ ss) w = on-from w (send s.0 s.1 w) (send_all ss (send s.0 s.1 w)) (one-sent s.0 s.1 w) (all-sent ss (send s.0 s.1 w))

answered : (c n : ℕ) (a : Answer) (op : Option ℕ) (m : Moving) → Steady m.world (show_answer c n a op m).world
answered c n a op m = go (call_of c n m.world)
  where
    go : (o : Option (ℕ × Call)) → Steady m.world (elim o as (λ z. Moving) [ None ↦ m | Some l ↦ with_world (less_call c n) (show_line (show.Answered l.0 c l.1 a op) m) ]).world
    go None = refl
    go (Some l) = refl

outs : (c : ℕ) (os : List Out) (m : Moving) → Steady m.world (come_out c os m).world
outs c [] m = refl
outs c (out.Send x ∷ os) m = on-from m.world (send c x m.world) (come_out c os (with_world (send c x) m)).world (one-sent c x m.world) (outs c os (with_world (send c x) m))
outs c (out.Told ns ∷ os) m = outs c os (show_line (show.Told c ns) m)
outs c (out.Answer n a op ∷ os) m = on-from m.world (show_answer c n a op m).world (come_out c os (show_answer c n a op m)).world (answered c n a op m) (outs c os (show_answer c n a op m))
outs c (out.OldBoot a ∷ os) m = outs c os m

-- A clerk's step, refused or not.

does : (c : ℕ) (d : Doing) (m : Moving) → Steady m.world (clerk_does c d m).world
does c d m = go d.spent
  where
    go : (s : Option Counter) → Steady m.world (elim s as (λ z. Moving) [ Some n ↦ fails (fault.Spent n) m.world | None ↦ come_out c d.outs (with_world (λ w. record w { clerks = put c d.clerk w.clerks }) m) ]).world
    go (Some n) = refl
    go None = outs c d.outs (with_world (λ w. record w { clerks = put c d.clerk w.clerks }) m)

calls-on : (c line : ℕ) (cl : Call) (before : List Out) (k : Clerk) (w : World) → Steady w (call_on c line cl before k w).world
calls-on c line cl before k w = go (begin cl k).spent
  where
    waits : (b : Bool) → Steady w (elim b as (λ z. Moving) [ true ↦ moving (add_call c (k.calls + 1) line cl w) | false ↦ show_line (show.Waits line c cl) (moving (add_call c (k.calls + 1) line cl w)) ]).world
    waits true = refl
    waits false = refl

    go : (s : Option Counter) → Steady w (elim s as (λ z. Moving) [ Some s ↦ fails (fault.Spent s) w | None ↦ clerk_does c (record (begin cl k) { outs = before ++ (begin cl k).outs }) (show_waits c (k.calls + 1) line cl (begin cl k).outs (moving (add_call c (k.calls + 1) line cl w))) ]).world
    go (Some s) = refl
    go None = on-from w (show_waits c (k.calls + 1) line cl (begin cl k).outs (moving (add_call c (k.calls + 1) line cl w))).world (clerk_does c (record (begin cl k) { outs = before ++ (begin cl k).outs }) (show_waits c (k.calls + 1) line cl (begin cl k).outs (moving (add_call c (k.calls + 1) line cl w)))).world
        (waits (list_any (is_answer_to (k.calls + 1)) (begin cl k).outs))
        (does c (record (begin cl k) { outs = before ++ (begin cl k).outs }) (show_waits c (k.calls + 1) line cl (begin cl k).outs (moving (add_call c (k.calls + 1) line cl w))))

module _ (c line : ℕ) (cl : Call) (w : World) where
  abbrev d : Doing
  d = start c (boot c w + 1)

  starts-on : Steady w (start_and_call c line cl w).world
  starts-on = go (start c (boot c w + 1)).spent
    where
      go : (s : Option Counter) → Steady w (elim s as (λ z. Moving) [ Some n ↦ fails (fault.Spent n) w | None ↦ call_on c line cl d.outs d.clerk (record w { boots = put c (boot c w + 1) w.boots }) ]).world
      go (Some n) = refl
      go None = calls-on c line cl d.outs d.clerk (record w { boots = put c (boot c w + 1) w.boots })

counts : (a u : World) → Steady a u → Counts 0 a u
counts a u s = omega (arith, s)

pub calls : (w : World) (c line : ℕ) (cl : Call) → Counts 0 w (call c line cl w).world
calls w c line cl = go (at c w.clerks)
  where
    go : (o : Option Clerk) → Counts 0 w (elim o as (λ z. Moving) [ Some k ↦ call_on c line cl [] k w | None ↦ start_and_call c line cl w ]).world
    go (Some k) = counts w (call_on c line cl [] k w).world (calls-on c line cl [] k w)
    go None = counts w (start_and_call c line cl w).world (starts-on c line cl w)

pub pushes : (w : World) (c n : ℕ) (k : Clerk) → Counts 0 w (push c n (Some k) w).world
pushes w c n k = go (clerk.has_issued n k) (is_undurable c n w)
  where
    go : (a b : Bool) → Counts 0 w (elim a as (λ z. Moving) [ false ↦ fails fault.NoSuchOp w | true ↦ elim b as (λ z. Moving) [ true ↦ clerk_does c (clerk.push n k) (moving w) | false ↦ nothing w ] ]).world
    go false b = counts w w refl
    go true true = counts w (clerk_does c (clerk.push n k) (moving w)).world (does c (clerk.push n k) (moving w))
    go true false = counts w w refl

-- The server's step.

notes : (o : Option Noted) (m : Moving) → Steady m.world (show_noted o m).world
notes None m = refl
notes (Some (noted_of.Durable c ns)) m = refl
notes (Some (noted_of.Ended c b)) m = refl

records : (t : Serving) (w : World) (r : Option Record) → Steady w (served_record runs r t w).world
records t w None = all-sent t.sent (record w { server = Some t.server; durable = t.server.durable })
records t w (Some r) =
    let m : Moving = show_noted (noted w.durable r) (moving (record w { records = w.records ++ r ∷ [] })) in
    on-from w m.world (go_on t m.world) (notes (noted w.durable r) (moving (record w { records = w.records ++ r ∷ [] }))) (all-sent t.sent (record (m.world) { server = Some t.server; durable = t.server.durable }))

serves : (t : Serving) (w : World) → Steady w (served runs t w).world
serves t w = go t.spent
  where
    go : (s : Option Counter) → Steady w (elim s as (λ z. Moving) [ Some n ↦ fails (fault.Spent n) w | None ↦ served_record runs t.rec t w ]).world
    go (Some n) = refl
    go None = records t w t.rec

-- One delivery.

module _ (w : World) (sc : Scene) (i : IsScene w sc) (c : ℕ) (m : Msg) (rest : Mail) (head : sc.mail ≡ (c, m) ∷ rest) where
  abbrev first : IsFirst w c m rest
  first = delivering.first w sc i c m rest head

  abbrev n : ℕ
  n = first.number

  abbrev s : Sent
  s = first.sent

  abbrev left : World
  left = settled n w

  delivers : deliver runs n w ≡ deliver_to runs n s w
  delivers = ap (λ o. elim o as (λ z. Moving) [ None ↦ fails fault.NoSuchMsg w | Some s ↦ deliver_to runs n s w ]) first.there

  to-server : Steady left (to_server runs n s w.server w).world
  to-server = subst (λ o. Steady left (to_server runs n s o w).world) (sym i.server) (serves (server.take s.clerk s.msg sc.server) left)

  to-one : (o : Option Clerk) → Steady left (to_clerk s.clerk s.msg o left).world
  to-one None = refl
  to-one (Some k) = does s.clerk (clerk.take s.msg k) (moving left)

  by-side : (b : Bool) → Steady left (elim b as (λ z. Moving) [ true ↦ to_server runs n s w.server w | false ↦ to_clerk s.clerk s.msg (at s.clerk w.clerks) left ]).world
  by-side true = to-server
  by-side false = to-one (at s.clerk w.clerks)

  steady : Steady left (deliver runs n w).world
  steady = subst (λ m. Steady left m.world) (sym delivers) (by-side (is_for_server s))

  one-less : length w.pending ≡ length left.pending + 1
  one-less = omega (arith, pending-is w sc i, ap length head, pending-is left (record sc { mail = rest }) (first-leaves w sc i c m rest first))

  pub delivered-one : (k : ℕ) → due w ≡ Some k → Counts 1 w (deliver runs k w).world
  delivered-one k e = subst (λ z. Counts 1 w (deliver runs z w).world) (same n k (sym (delivering.due-is w sc i c m rest head) ∙ e)) (omega (arith, steady, one-less))
    where
      same : (a b : ℕ) → ◌≡◌ {A = Option ℕ} (Some a) (Some b) → a ≡ b
      same a b p = cc
