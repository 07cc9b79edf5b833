-- Parts of a server's step: counters rise with messages, and records are committed.
use Rattle.std.proofs.Common.{◌≡◌, refl, sym, ap, subst, ◌∙◌, arith, ◌≤◌, ◌+◌, ℕ, Bool, true, false, [], ◌∷◌, length, Option, Some, None, Ok, length-append}
use Rattle.std.specs.Prelude.{Result, Err}
use Rattle.std.proofs.lemmas.Bool.{true≢false}
use Rattle.ec_base.specs.declared.counter.Counter.{Counter}
use Rattle.ec_base.specs.declared.counter.Counter.TheVariants as counter
use Rattle.ec_order.specs.Order.{Issued}
use Rattle.ec_sessions.specs.Slots.{ended}
use Rattle.ec_sessions.specs.declared.slot.Slot.{Slot}
use Rattle.ec_wire.specs.declared.msg.Msg.{Msg}
use Rattle.ec_durable.specs.Durable.{is_session, slot, step, with_slot}
use Rattle.ec_durable.specs.declared.record.Record.{Record}
use Rattle.ec_durable.specs.declared.record.Record.TheVariants.{Batch, End}
use Rattle.ec_durable.specs.declared.record.RecordFault.{RecordFault}
use Rattle.ec_durable.specs.declared.record.RecordFault.TheVariants.{NoSession}
use Rattle.ec_durable.specs.declared.state.Durable.{Durable}
use Rattle.ec_durable.proofs.Batches.{not_Ok, same_Ok}
use Rattle.ec_protocol.specs.Server.{Serving, tell, with_server, spend, commit, next_number, is_last_number}
use Rattle.ec_protocol.specs.declared.server.Server.{Server}
use Rattle.ec_machine_laws.proofs.Recording.{batch-session}

-- The step goes on from t to u: the counters rise by no more than the messages, and what R says of the record stays.
pub record Rises (R : Option Record → Type 0) (t u : Serving) : Type 0 where
  pub number : u.server.number + length t.sent ≤ t.server.number + length u.sent
  pub session : u.server.durable.next_session + length t.sent ≤ t.server.durable.next_session + length u.sent
  pub committed : R t.rec → R u.rec

module _ (R : Option Record → Type 0) where
  pub rises-self : (t : Serving) → Rises R t t
  rises-self t = record { number = omega arith; session = omega arith; committed = λ r. r }

  pub rises-on : (t u w : Serving) → Rises R t u → Rises R u w → Rises R t w
  rises-on t u w a b = record { number = omega (arith, a.number, b.number); session = omega (arith, a.session, b.session); committed = λ r. b.committed (a.committed r) }

  -- a message more
  pub rises-told : (t : Serving) (c : ℕ) (m : Msg) → Rises R t (tell c m t)
  rises-told t c m = record { number = omega (arith, length-append t.sent ((c, m) ∷ [])); session = omega (arith, length-append t.sent ((c, m) ∷ [])); committed = λ r. r }

  -- a server with the same counters
  pub rises-with : (t : Serving) (v : Server) → v.number ≡ t.server.number → v.durable.next_session ≡ t.server.durable.next_session → Rises R t (record t { server = v })
  rises-with t v p q = record { number = omega (arith, p); session = omega (arith, q); committed = λ r. r }

  pub rises-spent : (t : Serving) (n : Counter) → Rises R t (spend n t)
  rises-spent t n = record { number = omega arith; session = omega arith; committed = λ r. r }

  -- a new number, which a message tells
  pub rises-numbered : (t : Serving) (f : Serving → Serving) → ((u : Serving) → (f u).server.number ≡ u.server.number) → ((u : Serving) → (f u).server.durable.next_session ≡ u.server.durable.next_session)
      → ((u : Serving) → length (f u).sent ≡ length u.sent + 1) → ((u : Serving) → (f u).rec ≡ u.rec) → Rises R t (f (next_number t))
  rises-numbered t f number session sent rec = go (is_last_number t)
    where
      by : (u : Serving) → u.server.number ≤ t.server.number + 1 → u.server.durable.next_session ≡ t.server.durable.next_session → u.sent ≡ t.sent → u.rec ≡ t.rec → Rises R t (f u)
      by u a b c d = record {
        number = omega (arith, number u, sent u, a, ap length c);
        session = omega (arith, session u, sent u, b, ap length c);
        committed = λ r. subst R (sym (rec u ∙ d)) r;
      }

      go : (b : Bool) → Rises R t (f (elim b as (λ z. Serving) [ true ↦ spend counter.Number t | false ↦ with_server (λ s. record s { number = s.number + 1 }) t ]))
      go true = by (spend counter.Number t) (omega arith) refl refl refl
      go false = by (with_server (λ s. record s { number = s.number + 1 }) t) (omega arith) refl refl refl

  -- a record that leaves the next session, or is answered by a message
  pub rises-committed : (r : Record) (f g : Serving → Serving) (t : Serving)
      → ((d : Durable) → step r t.server.durable ≡ Ok d → Rises R t (f (record t { server = record (t.server) { durable = d }; rec = Some r }))) → Rises R t (g t) → Rises R t (commit r f g t)
  rises-committed r f g t ok err = go (step r t.server.durable) refl
    where
      go : (o : Result Durable RecordFault) → step r t.server.durable ≡ o
          → Rises R t (elim o as (λ z. Serving) [ Ok d ↦ f (record t { server = record (t.server) { durable = d }; rec = Some r }) | Err fault ↦ g t ])
      go (Ok d) e = ok d e
      go (Err fault) e = err

-- Records that leave the next session.

closed : (t : Bool) (f : RecordFault) (r : Result Durable RecordFault) (e : Durable) → t ≡ false → elim t as (λ z. Result Durable RecordFault) [ false ↦ Err f | true ↦ r ] ≡ Ok e → ⊥
closed false f r e p h = absurd (not_Ok h)
closed true f r e p h = absurd (true≢false p)

pub batch-same : (c s b : ℕ) (ops : Issued) (d e : Durable) → step (Batch c s b ops) d ≡ Ok e → e.next_session ≡ d.next_session
batch-same c s b ops d e ok = go (slot d c) refl
  where
    go : (o : Option Slot) → slot d c ≡ o → e.next_session ≡ d.next_session
    go (Some sl) q = batch-session c s b ops d e sl q ok
    go None q = absurd (closed (is_session s (slot d c)) NoSession _ e (ap (is_session s) q) ok)

pub end-same : (c s : ℕ) (d e : Durable) → step (End c s) d ≡ Ok e → e.next_session ≡ d.next_session
end-same c s d e ok = go (is_session s (slot d c)) ok
  where
    go : (t : Bool) → elim t as (λ z. Result Durable RecordFault) [ false ↦ Err NoSession | true ↦ Ok (with_slot c (ended (slot d c)) d) ] ≡ Ok e → e.next_session ≡ d.next_session
    go true h = ap (λ z. z.next_session) (sym (same_Ok h))
    go false h = absurd (not_Ok h)
