-- In a world the counters rise with the messages that are sent.
use Rattle.std.proofs.Common.{◌≡◌, refl, sym, ap, ◌∙◌, arith, ◌≤◌, ◌+◌, ℕ, Bool, true, false, List, [], ◌∷◌, ◌++◌, length, Option, Some, None}
use Rattle.ec_base.specs.Tables.{at, put}
use Rattle.ec_base.specs.declared.counter.Counter.{Counter}
use Rattle.ec_history.specs.declared.entry.Answer.{Answer}
use Rattle.ec_history.specs.declared.shown.Shown.TheVariants as show
use Rattle.ec_plain.specs.declared.call.Call.{Call}
use Rattle.ec_wire.specs.declared.msg.Msg.{Msg}
use Rattle.ec_durable.specs.declared.record.Record.{Record}
use Rattle.ec_protocol.specs.Clerk.{Doing}
use Rattle.ec_protocol.specs.Clerk as clerk
use Rattle.ec_protocol.specs.Server.{Serving}
use Rattle.ec_protocol.specs.Server as server
use Rattle.ec_protocol.specs.World.{Moving, call_of, clerk_does, come_out, deliver, deliver_to, fails, go_on, is_for_server, less_call, moving, noted, runs, send, send_all, served_record, settled, show_answer, show_line, show_noted, to_clerk, to_server, with_world}
use Rattle.ec_protocol.specs.declared.clerk.Clerk.{Clerk}
use Rattle.ec_protocol.specs.declared.clerk.Out.{Out}
use Rattle.ec_protocol.specs.declared.clerk.Out.TheVariants as out
use Rattle.ec_protocol.specs.declared.server.Server.{Server}
use Rattle.ec_protocol.specs.declared.world.Noted.{Noted}
use Rattle.ec_protocol.specs.declared.world.Noted.TheVariants as noted_of
use Rattle.ec_protocol.specs.declared.world.Sent.{Sent}
use Rattle.ec_protocol.specs.declared.world.World.{World}
use Rattle.ec_protocol.specs.declared.world.WorldFault.TheVariants as fault
use Rattle.ec_machine_laws.specs.Counts.{AreCounted}
use Rattle.ec_machine_laws.proofs.Taken.{counters-rise}

-- What a step leaves where it isn't the server's: it runs as it did, and messages are only sent.
record Keeps (w u : World) : Type 0 where
  server : u.server ≡ w.server
  sent : w.sent ≤ u.sent

keeps-self : (w : World) → Keeps w w
keeps-self w = record { server = refl; sent = omega arith }

keeps-on : (w u v : World) → Keeps w u → Keeps u v → Keeps w v
keeps-on w u v a b = record { server = b.server ∙ a.server; sent = omega (arith, a.sent, b.sent) }

-- A clerk's step.

answer-keeps : (c n : ℕ) (a : Answer) (op : Option ℕ) (m : Moving) → Keeps m.world (show_answer c n a op m).world
answer-keeps c n a op m = go (call_of c n m.world)
  where
    go : (o : Option (ℕ × Call)) → Keeps m.world (elim o as (λ z. Moving) [ None ↦ m | Some l ↦ with_world (less_call c n) (show_line (show.Answered l.0 c l.1 a op) m) ]).world
    go None = keeps-self m.world
    go (Some l) = record { server = refl; sent = omega arith }

out-keeps : (c : ℕ) (os : List Out) (m : Moving) → Keeps m.world (come_out c os m).world
out-keeps c [] m = keeps-self m.world
out-keeps c (out.Send x ∷ os) m =
    keeps-on m.world (send c x m.world) (come_out c (out.Send x ∷ os) m).world (record { server = refl; sent = omega arith }) (out-keeps c os (with_world (send c x) m))
out-keeps c (out.Told ns ∷ os) m =
    keeps-on m.world (show_line (show.Told c ns) m).world (come_out c (out.Told ns ∷ os) m).world (record { server = refl; sent = omega arith }) (out-keeps c os (show_line (show.Told c ns) m))
out-keeps c (out.Answer n a op ∷ os) m =
    keeps-on m.world (show_answer c n a op m).world (come_out c (out.Answer n a op ∷ os) m).world (answer-keeps c n a op m) (out-keeps c os (show_answer c n a op m))
out-keeps c (out.OldBoot a ∷ os) m = out-keeps c os m

does-keeps : (c : ℕ) (d : Doing) (m : Moving) → Keeps m.world (clerk_does c d m).world
does-keeps c d m = go d.spent
  where
    go : (o : Option Counter) → Keeps m.world (elim o as (λ z. Moving) [ Some n ↦ fails (fault.Spent n) m.world | None ↦ come_out c d.outs (with_world (λ w. record w { clerks = put c d.clerk w.clerks }) m) ]).world
    go (Some n) = keeps-self m.world
    go None =
        keeps-on m.world (record (m.world) { clerks = put c d.clerk m.world.clerks }) (come_out c d.outs (with_world (λ w. record w { clerks = put c d.clerk w.clerks }) m)).world (record { server = refl; sent = omega arith })
        (out-keeps c d.outs (with_world (λ w. record w { clerks = put c d.clerk w.clerks }) m))

clerk-keeps : (c : ℕ) (m : Msg) (o : Option Clerk) (w : World) → Keeps w (to_clerk c m o w).world
clerk-keeps c m None w = keeps-self w
clerk-keeps c m (Some k) w = does-keeps c (clerk.take m k) (moving w)

-- The server's step.

sends-all : (ms : List (ℕ × Msg)) (w : World) → ((send_all ms w).server ≡ w.server) × ((send_all ms w).sent ≡ w.sent + length ms)
sends-all [] w = (refl, omega arith)
sends-all (m ∷ ms) w = let r = sends-all ms (send m.0 m.1 w) in (r.0, omega (arith, r.1))

-- the server became this, and so many messages were sent
record Serves (t : Serving) (w u : World) : Type 0 where
  server : u.server ≡ Some t.server
  sent : u.sent ≡ w.sent + length t.sent

goes : (t : Serving) (w u : World) → u.sent ≡ w.sent → Serves t w (go_on t u)
goes t w u e = let r = sends-all t.sent (record u { server = Some t.server; durable = t.server.durable }) in record { server = r.0; sent = omega (arith, r.1, e) }

noted-sent : (o : Option Noted) (m : Moving) → (show_noted o m).world.sent ≡ m.world.sent
noted-sent None m = refl
noted-sent (Some (noted_of.Durable c ns)) m = refl
noted-sent (Some (noted_of.Ended c b)) m = refl

record-serves : (o : Option Record) (t : Serving) (w : World) → Serves t w (served_record runs o t w).world
record-serves None t w = goes t w w refl
record-serves (Some r) t w =
    goes t w (show_noted (noted w.durable r) (moving (record w { records = w.records ++ r ∷ [] }))).world (noted-sent (noted w.durable r) (moving (record w { records = w.records ++ r ∷ [] })))

-- A delivery.

abbrev Goes : ℕ → ℕ → World → World → Type 0
Goes n s w u = AreCounted n s u × (w.sent ≤ u.sent)

same-some : {A : Type 0} (x y : A) → ◌≡◌ {A = Option A} (Some x) (Some y) → x ≡ y
same-some x y e = cc

module _ (n s : ℕ) (w : World) (counted : AreCounted n s w) where
  kept : (u : World) → Keeps w u → Goes n s w u
  kept u k = ((λ v e. let a = counted v (sym k.server ∙ e) in (omega (arith, a.0, k.sent), omega (arith, a.1, k.sent))), k.sent)

  stepped : (v : Server) → w.server ≡ Some v → (c : ℕ) (m : Msg) (u : World) → Serves (server.take c m v) w u → Goes n s w u
  stepped v up c m u k =
      let a = counted v up in
      let r = counters-rise c m v in (
        (λ x e.
            let same : (server.take c m v).server ≡ x = same-some (server.take c m v).server x (sym k.server ∙ e) in
            (omega (arith, a.0, r.0, k.sent, ap (λ z. z.number) same), omega (arith, a.1, r.1, k.sent, ap (λ z. z.durable.next_session) same))),
        omega (arith, k.sent),
      )

  server-counts : (i : ℕ) (x : Sent) (o : Option Server) → w.server ≡ o → Goes n s w (to_server runs i x o w).world
  server-counts i x None e = kept w (keeps-self w)
  server-counts i x (Some v) e = go (server.take x.clerk x.msg v).spent
    where
      t : Serving
      t = server.take x.clerk x.msg v

      go : (o : Option Counter) → Goes n s w (elim o as (λ z. Moving) [ Some k ↦ fails (fault.Spent k) (settled i w) | None ↦ served_record runs t.rec t (settled i w) ]).world
      go (Some k) = kept (settled i w) (record { server = refl; sent = omega arith })
      go None = let r = record-serves t.rec t (settled i w) in stepped v e x.clerk x.msg (served_record runs t.rec t (settled i w)).world (record { server = r.server; sent = r.sent })

  delivery-counts : (i : ℕ) (x : Sent) → Goes n s w (deliver_to runs i x w).world
  delivery-counts i x = go (is_for_server x)
    where
      go : (b : Bool) → Goes n s w (elim b as (λ z. Moving) [ true ↦ to_server runs i x w.server w | false ↦ to_clerk x.clerk x.msg (at x.clerk w.clerks) (settled i w) ]).world
      go true = server-counts i x w.server refl
      go false = kept (to_clerk x.clerk x.msg (at x.clerk w.clerks) (settled i w)).world (keeps-on w (settled i w) _ (record { server = refl; sent = omega arith }) (clerk-keeps x.clerk x.msg (at x.clerk w.clerks) (settled i w)))

pub deliveries-count : (n s : ℕ) (w : World) (i : ℕ) → AreCounted n s w → AreCounted n s (deliver runs i w).world × (w.sent ≤ (deliver runs i w).world.sent)
deliveries-count n s w i counted = go (at i w.pool)
  where
    go : (o : Option Sent) → Goes n s w (elim o as (λ z. Moving) [ None ↦ fails fault.NoSuchMsg w | Some x ↦ deliver_to runs i x w ]).world
    go None = kept n s w counted w (keeps-self w)
    go (Some x) = delivery-counts n s w counted i x
