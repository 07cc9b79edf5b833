-- In a world the clerks count no more than what was sent.
use Rattle.std.proofs.Common.{◌≡◌, refl, sym, ap, subst, ◌∙◌, arith, ◌≤◌, ◌+◌, ℕ, Bool, true, false, ◌==◌, cond, List, [], ◌∷◌, ◌++◌, Option, Some, None}
use Rattle.ec_base.specs.Tables.{at, put}
use Rattle.ec_base.specs.declared.counter.Counter.{Counter}
use Rattle.ec_history.specs.declared.entry.Answer.{Answer}
use Rattle.ec_history.specs.declared.shown.Shown.TheVariants as show
use Rattle.ec_plain.specs.declared.call.Call.{Call}
use Rattle.ec_wire.specs.declared.msg.Msg.{Msg}
use Rattle.ec_durable.specs.declared.record.Record.{Record}
use Rattle.ec_protocol.specs.Clerk as clerk
use Rattle.ec_protocol.specs.Clerk.{Doing}
use Rattle.ec_protocol.specs.Server as server
use Rattle.ec_protocol.specs.Server.{Serving}
use Rattle.ec_protocol.specs.World.{Moving, call_of, clerk_does, come_out, deliver, deliver_to, fails, go_on, is_for_server, less_call, moving, noted, nothing, runs, send, send_all, served_record, settled, show_answer, show_line, show_noted, to_clerk, to_server, with_world}
use Rattle.ec_protocol.specs.declared.clerk.Clerk.{Clerk}
use Rattle.ec_protocol.specs.declared.clerk.Out.{Out}
use Rattle.ec_protocol.specs.declared.clerk.Out.TheVariants as out
use Rattle.ec_protocol.specs.declared.server.Server.{Server}
use Rattle.ec_protocol.specs.declared.world.Noted.{Noted}
use Rattle.ec_protocol.specs.declared.world.Noted.TheVariants as noted_of
use Rattle.ec_protocol.specs.declared.world.Sent.{Sent}
use Rattle.ec_protocol.specs.declared.world.World.{World}
use Rattle.ec_protocol.specs.declared.world.WorldFault.TheVariants as fault
use Rattle.ec_coherence.proofs.ForServer.Tables.{at-put, same_some}
use Rattle.ec_complete.specs.OfAgreedLines.Counting.{AreCounted, IsCounted, sent_in}
use Rattle.ec_complete.proofs.OfAgreedLines.Steps.{messages-count}

-- more was sent
pub more-sent : (calls a b : ℕ) (k : Clerk) → a ≤ b → IsCounted calls a k → IsCounted calls b k
more-sent calls a b k l h = record { made = h.made; ops = h.ops; undurable = h.undurable; ids = h.ids; batch = h.batch; sends = omega (arith, h.sends, l) }

-- What comes out is sent.
record Comes (n : ℕ) (w u : World) : Type 0 where
  clerks : u.clerks ≡ w.clerks
  sent : u.sent ≡ w.sent + n

comes-self : (w : World) → Comes 0 w w
comes-self w = record { clerks = refl; sent = omega arith }

answer-comes : (c n : ℕ) (a : Answer) (op : Option ℕ) (m : Moving) → Comes 0 m.world (show_answer c n a op m).world
answer-comes c n a op m = go (call_of c n m.world)
  where
    go : (o : Option (ℕ × Call)) → Comes 0 m.world (elim o as (λ z. Moving) [ None ↦ m | Some l ↦ with_world (less_call c n) (show_line (show.Answered l.0 c l.1 a op) m) ]).world
    go None = comes-self m.world
    go (Some l) = record { clerks = refl; sent = omega arith }

comes-out : (c : ℕ) (os : List Out) (m : Moving) → Comes (sent_in os) m.world (come_out c os m).world
comes-out c [] m = comes-self m.world
comes-out c (out.Send x ∷ os) m = let r = comes-out c os (with_world (send c x) m) in record { clerks = r.clerks; sent = omega (arith, r.sent) }
comes-out c (out.Told ns ∷ os) m = let r = comes-out c os (show_line (show.Told c ns) m) in record { clerks = r.clerks; sent = r.sent }
comes-out c (out.Answer n a op ∷ os) m =
    let r = comes-out c os (show_answer c n a op m) in
    let b = answer-comes c n a op m in
    record { clerks = r.clerks ∙ b.clerks; sent = omega (arith, r.sent, b.sent) }
comes-out c (out.OldBoot a ∷ os) m = comes-out c os m

module _ (calls : ℕ) (w : World) (counted : AreCounted calls w) where
  -- where the clerks stay, and messages are only sent
  abbrev Stays : World → Type 0
  Stays u = (u.clerks ≡ w.clerks) × (w.sent ≤ u.sent)

  kept : (u : World) → Stays u → AreCounted calls u
  kept u s c k e = more-sent calls w.sent u.sent k s.1 (counted c k (ap (at c) (sym s.0) ∙ e))

  -- A clerk takes the message.
  does : (c : ℕ) (m : Msg) (k : Clerk) → at c w.clerks ≡ Some k → (u : World) → u.clerks ≡ w.clerks → u.sent ≡ w.sent → AreCounted calls (clerk_does c (clerk.take m k) (moving u)).world
  does c m k there u same none = go (clerk.take m k).spent
    where
      d : Doing
      d = clerk.take m k

      first : Moving
      first = with_world (λ w. record w { clerks = put c d.clerk w.clerks }) (moving u)

      r : Comes (sent_in d.outs) first.world (come_out c d.outs first).world
      r = comes-out c d.outs first

      now : IsCounted calls (w.sent + sent_in d.outs) d.clerk
      now = messages-count calls w.sent m k (counted c k there)

      each : (a : ℕ) (b : Clerk) (z : Bool) → (a == c) ≡ z → cond z (Some d.clerk) (at a w.clerks) ≡ Some b → IsCounted calls (w.sent + sent_in d.outs) b
      each a b true e q = subst (IsCounted calls (w.sent + sent_in d.outs)) (same_some q) now
      each a b false e q = more-sent calls w.sent (w.sent + sent_in d.outs) b (omega arith) (counted a b q)

      total : (come_out c d.outs first).world.sent ≡ w.sent + sent_in d.outs
      total = r.sent ∙ ap (λ z. z + sent_in d.outs) none

      go : (o : Option Counter) → AreCounted calls (elim o as (λ z. Moving) [ Some n ↦ fails (fault.Spent n) u | None ↦ come_out c d.outs first ]).world
      go (Some n) = kept u (same, omega (arith, none))
      go None = λ a b q. subst (λ s. IsCounted calls s b) (sym total)
          (each a b (a == c) refl (ap (cond (a == c) (Some d.clerk)) (ap (at a) (sym same)) ∙ sym (at-put a c d.clerk u.clerks) ∙ ap (at a) (sym r.clerks) ∙ q))

  clerk-counts : (c : ℕ) (m : Msg) (o : Option Clerk) → at c w.clerks ≡ o → (u : World) → u.clerks ≡ w.clerks → u.sent ≡ w.sent → AreCounted calls (to_clerk c m o u).world
  clerk-counts c m None e u same none = kept u (same, omega (arith, none))
  clerk-counts c m (Some k) e u same none = does c m k e u same none

  -- The server takes it.

  sends-all : (ms : List (ℕ × Msg)) (u : World) → ((send_all ms u).clerks ≡ u.clerks) × (u.sent ≤ (send_all ms u).sent)
  sends-all [] u = (refl, omega arith)
  sends-all (m ∷ ms) u = let r = sends-all ms (send m.0 m.1 u) in (r.0, omega (arith, r.1))

  noted-same : (o : Option Noted) (m : Moving) → ((show_noted o m).world.clerks ≡ m.world.clerks) × ((show_noted o m).world.sent ≡ m.world.sent)
  noted-same None m = (refl, refl)
  noted-same (Some (noted_of.Durable c ns)) m = (refl, refl)
  noted-same (Some (noted_of.Ended c b)) m = (refl, refl)

  goes : (t : Serving) (u : World) → Stays u → Stays (go_on t u)
  goes t u s = let r = sends-all t.sent (record u { server = Some t.server; durable = t.server.durable }) in (r.0 ∙ s.0, omega (arith, r.1, s.1))

  record-stays : (o : Option Record) (t : Serving) (u : World) → Stays u → Stays (served_record runs o t u).world
  record-stays None t u s = goes t u s
  record-stays (Some r) t u s =
      let n = noted-same (noted u.durable r) (moving (record u { records = u.records ++ r ∷ [] })) in
      goes t (show_noted (noted u.durable r) (moving (record u { records = u.records ++ r ∷ [] }))).world (n.0 ∙ s.0, omega (arith, n.1, s.1))

  server-counts : (i : ℕ) (x : Sent) (o : Option Server) → AreCounted calls (to_server runs i x o w).world
  server-counts i x None = kept (nothing w).world (refl, omega arith)
  server-counts i x (Some v) = go t.spent
    where
      t : Serving
      t = server.take x.clerk x.msg v

      go : (o : Option Counter) → AreCounted calls (elim o as (λ z. Moving) [ Some k ↦ fails (fault.Spent k) (settled i w) | None ↦ served_record runs t.rec t (settled i w) ]).world
      go (Some k) = kept (settled i w) (refl, omega arith)
      go None = kept (served_record runs t.rec t (settled i w)).world (record-stays t.rec t (settled i w) (refl, omega arith))

  delivery-counts : (i : ℕ) (x : Sent) → AreCounted calls (deliver_to runs i x w).world
  delivery-counts i x = go (is_for_server x)
    where
      go : (b : Bool) → AreCounted calls (elim b as (λ z. Moving) [ true ↦ to_server runs i x w.server w | false ↦ to_clerk x.clerk x.msg (at x.clerk w.clerks) (settled i w) ]).world
      go true = server-counts i x w.server
      go false = clerk-counts x.clerk x.msg (at x.clerk w.clerks) refl (settled i w) refl refl

pub deliveries-count : (calls : ℕ) (w : World) (i : ℕ) → AreCounted calls w → AreCounted calls (deliver runs i w).world
deliveries-count calls w i counted = go (at i w.pool)
  where
    go : (o : Option Sent) → AreCounted calls (elim o as (λ z. Moving) [ None ↦ fails fault.NoSuchMsg w | Some x ↦ deliver_to runs i x w ]).world
    go None = kept calls w counted w (refl, omega arith)
    go (Some x) = delivery-counts calls w counted i x
