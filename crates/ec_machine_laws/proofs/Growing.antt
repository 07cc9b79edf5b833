-- How a clerk's counters grow in a step: by the messages that it sends and the calls that it answers.
use Rattle.std.proofs.Common.{◌≡◌, refl, ◌∙◌, arith, ◌≤◌, ◌<◌, ◌+◌, ℕ, Bool, true, false, not, ◌&&◌, List, [], ◌∷◌, ◌++◌, length}
use Rattle.std.specs.Prelude.{Option, None, Some, nat_le, is_none, take as front}
use Rattle.std.specs.List.{list_any}
use Rattle.ec_base.specs.Limits.{last_counter}
use Rattle.ec_base.specs.Tables.{Table, at, first as first_of, keys, or_else}
use Rattle.ec_base.specs.declared.counter.Counter.TheVariants as counter
use Rattle.ec_base.specs.declared.ids.Hold.{Hold}
use Rattle.ec_base.specs.declared.ids.Hold.TheVariants.{Free}
use Rattle.ec_order.specs.Order.{Issued}
use Rattle.ec_sessions.specs.Limits.{max_batch_ops}
use Rattle.ec_wire.specs.declared.msg.Msg.TheVariants.{Back, Flush, Room, Want}
use Rattle.ec_cache.specs.Cache as cache
use Rattle.ec_cache.specs.declared.state.Held.{Held}
use Rattle.ec_log.specs.Log as log
use Rattle.ec_log.specs.declared.state.Asked.{Asked}
use Rattle.ec_log.specs.declared.state.Asked.TheVariants.{Object, Op}
use Rattle.ec_log.specs.declared.state.LogState.{LogState}
use Rattle.ec_log.specs.declared.state.Pick.{Pick}
use Rattle.ec_log.specs.declared.state.Pick.TheVariants as pick_of
use Rattle.ec_protocol.specs.Clerk.{Doing, answer_recalls, ask_anew, ask_for, ask_pushes, ask_room, evict, evict_unpinned, give_back, has_session, is_ready, is_settled, is_wanted, keep_push, keep_recall, left_of, may_want, on_objects, send_backs, send_batch, send_picked, send_room, send, send_want, spend, try_pushes, try_recalls, want, wanted, with_cache, with_clerk, with_log}
use Rattle.ec_protocol.specs.declared.clerk.Clerk.{Clerk}
use Rattle.ec_protocol.specs.declared.clerk.Out.{Out}
use Rattle.ec_protocol.specs.declared.clerk.Out.TheVariants as out
use Rattle.ec_protocol.specs.declared.clerk.Recalled.{Recalled}
use Rattle.ec_machine_laws.specs.Unspent.{sent}
use Rattle.ec_base.proofs.Numbers.{above-limit, at-limit}

-- the counters are below their limits
pub record IsFine (k : Clerk) : Type 0 where
  pub asks : k.asks < last_counter
  pub ops : k.log.next ≤ last_counter
  pub batches : k.log.next_batch ≤ last_counter

-- Between two moments of a step: no number is taken back, each one that is taken goes out with a message, and none is spent where all end below their limits.
pub record Grows (d e : Doing) : Type 0 where
  pub asks : d.clerk.asks ≤ e.clerk.asks
  pub ops : d.clerk.log.next ≤ e.clerk.log.next
  pub batches : d.clerk.log.next_batch ≤ e.clerk.log.next_batch
  pub sends : e.clerk.asks + e.clerk.log.next_batch + sent d.outs ≤ d.clerk.asks + d.clerk.log.next_batch + sent e.outs
  pub unspent : IsFine e.clerk → d.spent ≡ None → e.spent ≡ None

pub grows-on : (d e f : Doing) → Grows d e → Grows e f → Grows d f
grows-on d e f a b = record {
  asks = omega (arith, a.asks, b.asks);
  ops = omega (arith, a.ops, b.ops);
  batches = omega (arith, a.batches, b.batches);
  sends = omega (arith, a.sends, b.sends);
  unspent = λ l s. b.unspent l (a.unspent (record { asks = omega (arith, l.asks, b.asks); ops = omega (arith, l.ops, b.ops); batches = omega (arith, l.batches, b.batches) }) s);
}

-- And the same calls wait, none of which was answered with an operation.
pub record Same (d e : Doing) : Type 0 where
  pub grows : Grows d e
  pub waits : e.clerk.waiting ≡ d.clerk.waiting
  pub next : e.clerk.log.next ≡ d.clerk.log.next

pub same-on : (d e f : Doing) → Same d e → Same e f → Same d f
same-on d e f a b = record { grows = grows-on d e f a.grows b.grows; waits = b.waits ∙ a.waits; next = b.next ∙ a.next }

-- no counter is used
pub alike : (d e : Doing) → e.clerk.asks ≡ d.clerk.asks → e.clerk.log.next ≡ d.clerk.log.next → e.clerk.log.next_batch ≡ d.clerk.log.next_batch → e.spent ≡ d.spent → sent d.outs ≤ sent e.outs → Grows d e
alike d e a n b s o = record { asks = omega (arith, a); ops = omega (arith, n); batches = omega (arith, b); sends = omega (arith, a, b, o); unspent = λ l z. s ∙ z }

pub as-sent : (os ps : List Out) → sent (os ++ ps) ≡ sent os + sent ps
as-sent [] ps = omega arith
as-sent (out.Send m ∷ os) ps = omega (arith, as-sent os ps)
as-sent (out.Told ns ∷ os) ps = as-sent os ps
as-sent (out.Answer n a op ∷ os) ps = as-sent os ps
as-sent (out.OldBoot a ∷ os) ps = as-sent os ps

pub still : (d : Doing) → Same d d
still d = record { grows = alike d d refl refl refl refl (omega arith); waits = refl; next = refl }

-- Batches.

module _ (d : Doing) where
  abbrev l : LogState
  l = d.clerk.log

  abbrev went : List ℕ → Doing
  went ns = send_batch l.next_batch (with_log (log.after_pick (pick_of.Batch l.next_batch ns)) d)

  -- a new batch has the next number
  batched : (ns : List ℕ) → Same d (send_picked (pick_of.Batch l.next_batch ns) d)
  batched ns = go (log.batches_are_spent l) refl
    where
      more : sent (went ns).outs ≡ sent d.outs + 1
      more = as-sent d.outs (out.Send (Flush (or_else 0 d.clerk.session) d.clerk.epoch l.next_batch (log.batch l.next_batch (log.after_pick (pick_of.Batch l.next_batch ns) l))) ∷ [])

      go : (z : Bool) → log.batches_are_spent l ≡ z → Same d (elim z as (λ z. Doing) [ true ↦ spend counter.Batch d | false ↦ went ns ])
      go true e = record {
        grows = record { asks = omega arith; ops = omega arith; batches = omega arith; sends = omega arith; unspent = λ f s. absurd (omega (arith, f.batches, above-limit last_counter l.next_batch e)) };
        waits = refl;
        next = refl;
      }
      go false e = record {
        grows = record { asks = omega arith; ops = omega arith; batches = omega arith; sends = omega (arith, more); unspent = λ f s. s };
        waits = refl;
        next = refl;
      }

  from : (ops : Issued) → Same d (send_picked (log.pick_from ops l) d)
  from [] = still d
  from (op ∷ ops) = go (first_of (log.has_one_of (keys (op ∷ ops))) l.batches) (log.in_window l l.batches)
    where
      go : (o : Option (ℕ × List ℕ)) (w : Bool) → Same d (send_picked (elim o as (λ z. Pick) [
        | Some b ↦ pick_of.Behind b.0
        | None ↦ elim w as (λ z. Pick) [ true ↦ pick_of.Batch l.next_batch (keys (front max_batch_ops (op ∷ ops))) | false ↦ pick_of.Window (log.least l.batches) ]
      ]) d)
      go (Some b) w = still d
      go None true = batched (keys (front max_batch_ops (op ∷ ops)))
      go None false = still d

  pub asked : (a : Asked) → Same d (ask_for a d)
  asked a = from (log.closure_of a l)

-- a step that uses no counter, sends no less, and leaves the calls
pub plain : (d e : Doing) → e.clerk.asks ≡ d.clerk.asks → e.clerk.log.next ≡ d.clerk.log.next → e.clerk.log.next_batch ≡ d.clerk.log.next_batch → e.spent ≡ d.spent → sent d.outs ≤ sent e.outs → e.clerk.waiting ≡ d.clerk.waiting → Same d e
plain d e a n b s o w = record { grows = alike d e a n b s o; waits = w; next = n }

pub emitted : (d : Doing) (o : Out) → sent d.outs ≤ sent (d.outs ++ o ∷ [])
emitted d o = omega (arith, as-sent d.outs (o ∷ []))

-- Recalls and pushes.

gives-back : (r : Recalled) (d : Doing) → Same d (give_back r d)
gives-back r d = plain d (give_back r d) refl refl refl refl (omega (arith, as-sent d.outs ((out.Send (Back (or_else 0 d.clerk.session) d.clerk.epoch r.obj r.number (left_of r (at r.obj d.clerk.cache.held)))) ∷ []))) refl

recalled-one : (r : Recalled) (d : Doing) → Same d (elim (is_ready r d.clerk) as (λ z. Doing) [ true ↦ give_back r d | false ↦ keep_recall r (ask_for (Object r.obj) d) ])
recalled-one r d = go (is_ready r d.clerk)
  where
    go : (z : Bool) → Same d (elim z as (λ z. Doing) [ true ↦ give_back r d | false ↦ keep_recall r (ask_for (Object r.obj) d) ])
    go true = gives-back r d
    go false = same-on d (ask_for (Object r.obj) d) (keep_recall r (ask_for (Object r.obj) d)) (asked d (Object r.obj)) (plain (ask_for (Object r.obj) d) _ refl refl refl refl (omega arith) refl)

recalled : (rs : List Recalled) (d : Doing) → Same d (try_recalls rs d)
recalled [] d = still d
recalled (r ∷ rs) d =
    let e : Doing = elim (is_ready r d.clerk) as (λ z. Doing) [ true ↦ give_back r d | false ↦ keep_recall r (ask_for (Object r.obj) d) ] in
    same-on d e (try_recalls rs e) (recalled-one r d) (recalled rs e)

answers-recalls : (d : Doing) → Same d (answer_recalls d)
answers-recalls d = let e : Doing = with_clerk (λ k. record k { recalls = [] }) d in same-on d e (answer_recalls d) (plain d e refl refl refl refl (omega arith) refl) (recalled d.clerk.recalls e)

pushed-one : (n : ℕ) (d : Doing) → Same d (elim (is_settled (Op n) d.clerk) as (λ z. Doing) [ true ↦ d | false ↦ ask_for (Op n) (keep_push n d) ])
pushed-one n d = go (is_settled (Op n) d.clerk)
  where
    go : (z : Bool) → Same d (elim z as (λ z. Doing) [ true ↦ d | false ↦ ask_for (Op n) (keep_push n d) ])
    go true = still d
    go false = same-on d (keep_push n d) (ask_for (Op n) (keep_push n d)) (plain d (keep_push n d) refl refl refl refl (omega arith) refl) (asked (keep_push n d) (Op n))

pushed : (ns : List ℕ) (d : Doing) → Same d (try_pushes ns d)
pushed [] d = still d
pushed (n ∷ ns) d =
    let e : Doing = elim (is_settled (Op n) d.clerk) as (λ z. Doing) [ true ↦ d | false ↦ ask_for (Op n) (keep_push n d) ] in
    same-on d e (try_pushes ns e) (pushed-one n d) (pushed ns e)

asks-pushes : (d : Doing) → Same d (ask_pushes d)
asks-pushes d = let e : Doing = with_clerk (λ k. record k { pushes = [] }) d in same-on d e (ask_pushes d) (plain d e refl refl refl refl (omega arith) refl) (pushed d.clerk.pushes e)

pub prepares : (d : Doing) → Same d (elim (has_session d.clerk) as (λ z. Doing) [ true ↦ ask_pushes (answer_recalls d) | false ↦ d ])
prepares d = go (has_session d.clerk)
  where
    go : (z : Bool) → Same d (elim z as (λ z. Doing) [ true ↦ ask_pushes (answer_recalls d) | false ↦ d ])
    go true = same-on d (answer_recalls d) (ask_pushes (answer_recalls d)) (answers-recalls d) (asks-pushes (answer_recalls d))
    go false = still d

-- Wants and ids.

pub wants : (x : ℕ) (h : Hold) (d : Doing) → Same d (want x h d)
wants x h d = go (may_want x h d.clerk && not (list_any (is_wanted (wanted x h d.clerk)) d.clerk.wanted))
  where
    go : (z : Bool) → Same d (elim z as (λ z. Doing) [ true ↦ send_want x h d | false ↦ d ])
    go true = plain d (send_want x h d) refl refl refl refl (omega (arith, as-sent d.outs ((out.Send (Want (or_else 0 d.clerk.session) d.clerk.epoch x h (wanted x h d.clerk).last)) ∷ []))) refl
    go false = still d

abbrev room-sent : Doing → Doing
room-sent d = send_room (d.clerk.asks + 1) (with_clerk (λ k. record k { asking = Some (k.asks + 1); asks = k.asks + 1 }) d)

asks-anew : (d : Doing) → Same d (ask_anew d)
asks-anew d = go (nat_le last_counter d.clerk.asks) refl
  where
    more : sent (room-sent d).outs ≡ sent d.outs + 1
    more = as-sent d.outs (out.Send (Room (or_else 0 d.clerk.session) d.clerk.epoch d.clerk.got (d.clerk.asks + 1)) ∷ [])

    go : (z : Bool) → nat_le last_counter d.clerk.asks ≡ z → Same d (elim z as (λ z. Doing) [ true ↦ spend counter.Ask d | false ↦ room-sent d ])
    go true e = record {
      grows = record { asks = omega arith; ops = omega arith; batches = omega arith; sends = omega arith; unspent = λ f s. absurd (omega (arith, f.asks, at-limit last_counter d.clerk.asks e)) };
      waits = refl;
      next = refl;
    }
    go false e = record {
      grows = record { asks = omega arith; ops = omega arith; batches = omega arith; sends = omega (arith, more); unspent = λ f s. s };
      waits = refl;
      next = refl;
    }

pub asks-room : (d : Doing) → Same d (ask_room d)
asks-room d = go (has_session d.clerk && is_none d.clerk.asking)
  where
    go : (z : Bool) → Same d (elim z as (λ z. Doing) [ true ↦ ask_anew d | false ↦ d ])
    go true = asks-anew d
    go false = still d

-- Tokens that are too many go back.

backs : (es : Table Held) (d : Doing) → Same d (send_backs es d)
backs [] d = still d
backs (e ∷ es) d =
    let next : Doing = send (Back (or_else 0 d.clerk.session) d.clerk.epoch e.0 (e.1).number Free) d in
    same-on d next (send_backs es next) (plain d next refl refl refl refl (omega (arith, as-sent d.outs ((out.Send (Back (or_else 0 d.clerk.session) d.clerk.epoch e.0 (e.1).number Free)) ∷ []))) refl) (backs es next)

module _ (d : Doing) where
  abbrev pinned : List ℕ
  pinned = on_objects d.clerk.log.undurable

  abbrev fewer : Doing
  fewer = with_cache (cache.evict pinned) d

  pub evicts : Same d (evict d)
  evicts = go (nat_le (length d.clerk.cache.held) d.clerk.cache.capacity)
    where
      go : (z : Bool) → Same d (elim z as (λ z. Doing) [ true ↦ d | false ↦ evict_unpinned pinned d ])
      go true = still d
      go false = same-on d fewer (evict_unpinned pinned d) (plain d fewer refl refl refl refl (omega arith) refl) (backs (cache.evicted pinned d.clerk.cache) fewer)
