-- Which lines a delivery shows of durable operations.
use Rattle.std.proofs.Common.{◌≡◌, refl, sym, ap, ◌∙◌, ℕ, Bool, true, false, List, [], ◌∷◌, ◌++◌, Option, Some, None}
use Rattle.ec_base.specs.Tables.{at, keys, put}
use Rattle.ec_base.specs.declared.counter.Counter.{Counter}
use Rattle.ec_history.specs.History.{Each}
use Rattle.ec_history.specs.declared.entry.Answer.{Answer}
use Rattle.ec_history.specs.declared.shown.Shown.{Shown}
use Rattle.ec_history.specs.declared.shown.Shown.TheVariants as show
use Rattle.ec_history.specs.Placing.{watch}
use Rattle.ec_order.specs.Order.{Issued}
use Rattle.ec_plain.specs.declared.call.Call.{Call}
use Rattle.ec_sessions.specs.Slots.{is_open}
use Rattle.ec_wire.specs.declared.msg.Msg.{Msg}
use Rattle.ec_durable.specs.Durable.{slot}
use Rattle.ec_durable.specs.declared.record.Record.{Record}
use Rattle.ec_durable.specs.declared.record.Record.TheVariants as record_of
use Rattle.ec_durable.specs.declared.state.Durable.{Durable}
use Rattle.ec_protocol.specs.Clerk.{Doing}
use Rattle.ec_protocol.specs.Clerk as clerk
use Rattle.ec_protocol.specs.Server.{Serving}
use Rattle.ec_protocol.specs.Server as server
use Rattle.ec_protocol.specs.World.{Moving, call_of, come_out, deliver, deliver_to, fails, is_for_server, less_call, moving, noted, runs, send, served_record, session_boot, settled, show_answer, show_ended, show_line, show_noted, to_clerk, to_server, with_world}
use Rattle.ec_protocol.specs.declared.clerk.Clerk.{Clerk}
use Rattle.ec_protocol.specs.declared.clerk.Out.{Out}
use Rattle.ec_protocol.specs.declared.clerk.Out.TheVariants as out
use Rattle.ec_protocol.specs.declared.server.Server.{Server}
use Rattle.ec_protocol.specs.declared.world.Noted.{Noted}
use Rattle.ec_protocol.specs.declared.world.Noted.TheVariants as noted_of
use Rattle.ec_protocol.specs.declared.world.Sent.{Sent}
use Rattle.ec_protocol.specs.declared.world.World.{World}
use Rattle.ec_protocol.specs.declared.world.WorldFault.TheVariants as fault
use Rattle.ec_machine_laws.specs.Counts.{IsFlushed}
use Rattle.ec_machine_laws.proofs.Taken.{batches-flushed}

each-more : (P : Shown → Type 0) (xs : List Shown) (x : Shown) → Each P xs → P x → Each P (xs ++ x ∷ [])
each-more P [] x e p = (p, tt)
each-more P (y ∷ xs) x e p = (e.0, each-more P xs x e.1 p)

-- A record whose line tells durable operations is a batch of just these.

record IsBatch (c : ℕ) (ns : List ℕ) (r : Record) : Type 0 where
  session : ℕ
  number : ℕ
  ops : Issued
  is : r ≡ record_of.Batch c session number ops
  names : ns ≡ keys ops

not-ended : {A : Type 0} (b : Bool) (c k d : ℕ) (ns : List ℕ) → elim b as (λ z. Option Noted) [ true ↦ Some (noted_of.Ended c k) | false ↦ None ] ≡ Some (noted_of.Durable d ns) → A
not-ended {A} true c k d ns e = absurd (apart e)
  where
    apart : ◌≡◌ {A = Option Noted} (Some (noted_of.Ended c k)) (Some (noted_of.Durable d ns)) → ⊥
    apart e = cc
not-ended {A} false c k d ns e = absurd (apart e)
  where
    apart : ◌≡◌ {A = Option Noted} None (Some (noted_of.Durable d ns)) → ⊥
    apart e = cc

none-noted : {A : Type 0} (d : ℕ) (ns : List ℕ) → ◌≡◌ {A = Option Noted} None (Some (noted_of.Durable d ns)) → A
none-noted {A} d ns e = absurd (apart e)
  where
    apart : ◌≡◌ {A = Option Noted} None (Some (noted_of.Durable d ns)) → ⊥
    apart e = cc

batch-noted : (d : Durable) (r : Record) (c : ℕ) (ns : List ℕ) → noted d r ≡ Some (noted_of.Durable c ns) → IsBatch c ns r
batch-noted d (record_of.Batch a s b ops) c ns e =
    let clerks : a ≡ c = cc in
    let names : keys ops ≡ ns = cc in
    record { session = s; number = b; ops = ops; is = ap (λ z. record_of.Batch z s b ops) clerks; names = sym names }
batch-noted d (record_of.Open a age s) c ns e = not-ended (is_open (slot d a)) a (session_boot (slot d a)) c ns e
batch-noted d (record_of.End a s) c ns e = not-ended (is_open (slot d a)) a (session_boot (slot d a)) c ns e
batch-noted d (record_of.Ids a s got x) c ns e = none-noted c ns e
batch-noted d (record_of.Epoch k) c ns e = none-noted c ns e

module _ (w : World) (i : ℕ) where
  abbrev P : Shown → Type 0
  P = IsFlushed w i

  -- A clerk's step tells no operation durable.

  answer-shows : (c n : ℕ) (a : Answer) (op : Option ℕ) (m : Moving) → Each P m.shown → Each P (show_answer c n a op m).shown
  answer-shows c n a op m e = go (call_of c n m.world)
    where
      go : (o : Option (ℕ × Call)) → Each P (elim o as (λ z. Moving) [ None ↦ m | Some l ↦ with_world (less_call c n) (show_line (show.Answered l.0 c l.1 a op) m) ]).shown
      go None = e
      go (Some l) = each-more P m.shown (show.Answered l.0 c l.1 a op) e tt

  outs-show : (c : ℕ) (os : List Out) (m : Moving) → Each P m.shown → Each P (come_out c os m).shown
  outs-show c [] m e = e
  outs-show c (out.Send x ∷ os) m e = outs-show c os (with_world (send c x) m) e
  outs-show c (out.Told ns ∷ os) m e = outs-show c os (show_line (show.Told c ns) m) (each-more P m.shown (show.Told c ns) e tt)
  outs-show c (out.Answer n a op ∷ os) m e = outs-show c os (show_answer c n a op m) (answer-shows c n a op m e)
  outs-show c (out.OldBoot a ∷ os) m e = outs-show c os m e

  clerk-shows : (c : ℕ) (m : Msg) (o : Option Clerk) (u : World) → Each P (to_clerk c m o u).shown
  clerk-shows c m None u = tt
  clerk-shows c m (Some k) u = go (clerk.take m k).spent
    where
      d : Doing
      d = clerk.take m k

      go : (o : Option Counter) → Each P (elim o as (λ z. Moving) [ Some n ↦ fails (fault.Spent n) u | None ↦ come_out c d.outs (with_world (λ w. record w { clerks = put c d.clerk w.clerks }) (moving u)) ]).shown
      go (Some n) = tt
      go None = outs-show c d.outs (with_world (λ w. record w { clerks = put c d.clerk w.clerks }) (moving u)) tt

  -- The server's record.

  ended-shows : (c b : ℕ) (u : World) → P (show_ended c b u)
  ended-shows c b u = go _
    where
      go : (t : Bool) → P (elim t as (λ z. Shown) [ true ↦ show.Ended c (watch c u.shown).undurable | false ↦ show.Unseen c ])
      go true = tt
      go false = tt

  noted-shows : (o : Option Noted) (m : Moving) → Each P m.shown → ((c : ℕ) (ns : List ℕ) → o ≡ Some (noted_of.Durable c ns) → P (show.Durable c ns)) → Each P (show_noted o m).shown
  noted-shows None m e f = e
  noted-shows (Some (noted_of.Durable c ns)) m e f = each-more P m.shown (show.Durable c ns) e (f c ns refl)
  noted-shows (Some (noted_of.Ended c b)) m e f = each-more P m.shown (show_ended c b m.world) e (ended-shows c b m.world)

  server-shows : (x : Sent) (o : Option Server) → at i w.pool ≡ Some x → Each P (to_server runs i x o w).shown
  server-shows x None here = (tt, tt)
  server-shows x (Some v) here = go (server.take x.clerk x.msg v).spent
    where
      t : Serving
      t = server.take x.clerk x.msg v

      durable : (r : Record) → t.rec ≡ Some r → (c : ℕ) (ns : List ℕ) → noted w.durable r ≡ Some (noted_of.Durable c ns) → P (show.Durable c ns)
      durable r q c ns e =
          let b = batch-noted w.durable r c ns e in
          let f = batches-flushed x.clerk x.msg v c b.session b.number b.ops (q ∙ ap (λ z. Some z) b.is) in
          (x, b.session, b.number, f.1, b.ops, here, f.0, f.2, b.names)

      by-record : (o : Option Record) → t.rec ≡ o → Each P (served_record runs o t (settled i w)).shown
      by-record None q = tt
      by-record (Some r) q = noted-shows (noted w.durable r) (moving (record (settled i w) { records = w.records ++ r ∷ [] })) tt (durable r q)

      go : (o : Option Counter) → Each P (elim o as (λ z. Moving) [ Some k ↦ fails (fault.Spent k) (settled i w) | None ↦ served_record runs t.rec t (settled i w) ]).shown
      go (Some k) = tt
      go None = by-record t.rec refl

  delivery-shows : (x : Sent) → at i w.pool ≡ Some x → Each P (deliver_to runs i x w).shown
  delivery-shows x here = go (is_for_server x)
    where
      go : (b : Bool) → Each P (elim b as (λ z. Moving) [ true ↦ to_server runs i x w.server w | false ↦ to_clerk x.clerk x.msg (at x.clerk w.clerks) (settled i w) ]).shown
      go true = server-shows x w.server here
      go false = clerk-shows x.clerk x.msg (at x.clerk w.clerks) (settled i w)

pub lines-flushed : (w : World) (i : ℕ) → Each (IsFlushed w i) (deliver runs i w).shown
lines-flushed w i = go (at i w.pool) refl
  where
    go : (o : Option Sent) → at i w.pool ≡ o → Each (IsFlushed w i) (elim o as (λ z. Moving) [ None ↦ fails fault.NoSuchMsg w | Some x ↦ deliver_to runs i x w ]).shown
    go None e = tt
    go (Some x) e = delivery-shows w i x e
