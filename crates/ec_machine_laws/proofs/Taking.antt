-- A clerk's step with a message, or with a call, spends no counter.
use Rattle.std.proofs.Common.{◌≡◌, refl, arith, ◌≤◌, ◌+◌, ℕ, Bool, true, false, not, ◌&&◌, List, [], ◌∷◌, length, length-append}
use Rattle.std.specs.Prelude.{Option, None, Some, ◌==◌, nat_le, nat_lt, is_none}
use Rattle.ec_base.specs.Limits.{last_counter}
use Rattle.ec_base.specs.declared.counter.Counter.TheVariants as counter
use Rattle.ec_base.specs.declared.ids.Age.{Age}
use Rattle.ec_base.specs.declared.ids.Hold.{Hold}
use Rattle.ec_history.specs.declared.entry.Answer.TheVariants as answer
use Rattle.ec_plain.specs.declared.call.Call.{Call}
use Rattle.ec_sessions.specs.Limits.{last_grants}
use Rattle.ec_wire.specs.declared.msg.Msg.{Msg}
use Rattle.ec_wire.specs.declared.msg.Msg.TheVariants.{Hello, Want, Back, Flush, Room, Claim, Bye, Opened, Grant, Recall, Kept, Ids, NoRoom, Ended, Restarted, OldBoot}
use Rattle.ec_cache.specs.Cache as cache
use Rattle.ec_log.specs.Log as log
use Rattle.ec_protocol.specs.Clerk.{Doing, add_call, add_ids, begin, doing, emit, epoch, has_session, idless, in_session, is_session, keep_call, keep_recall, mark_recall, refuse_make, refuse_makes, same_age, send, settle, spend, take, take_ids, take_no_room, take_old_boot, take_opened, take_recall, taken, verdict, with_cache, with_clerk, with_log}
use Rattle.ec_protocol.specs.declared.clerk.Clerk.{Clerk}
use Rattle.ec_protocol.specs.declared.clerk.Out.TheVariants as out
use Rattle.ec_protocol.specs.declared.clerk.Waiting.{Waiting}
use Rattle.ec_machine_laws.specs.Unspent.{IsLow, MayGet}
use Rattle.ec_machine_laws.proofs.Growing.{Grows, alike, as-sent, grows-on, plain, still}
use Rattle.ec_machine_laws.proofs.Trying.{Steps, as-step, settles, steps-on}

module _ (k : Clerk) where
  abbrev d : Doing
  d = doing k

  inside : (s e : ℕ) (f : Doing → Doing) → Steps d (f d) → Steps d (in_session s e f d)
  inside s e f a = go (is_session s k.session && (e == epoch d))
    where
      go : (b : Bool) → Steps d (elim b as (λ z. Doing) [ true ↦ f d | false ↦ d ])
      go true = a
      go false = as-step d d (still d)

  opens : (age : Age) (s e : ℕ) → Steps d (take_opened age s e d)
  opens age s e = go (not (has_session k) && same_age age k.age)
    where
      go : (b : Bool) → Steps d (elim b as (λ z. Doing) [ true ↦ send (Claim s e []) (with_clerk (λ k. record k { session = Some s; epoch = e }) d) | false ↦ d ])
      go true = as-step d _ (plain d _ refl refl refl refl (omega arith) refl)
      go false = as-step d d (still d)

  recalls : (x n : ℕ) (to : Hold) → Steps d (take_recall x n to d)
  recalls x n to = go (nat_lt n (cache.last x k.cache))
    where
      go : (b : Bool) → Steps d (elim b as (λ z. Doing) [ true ↦ d | false ↦ keep_recall (record { obj = x; number = n; to = to }) (with_cache (mark_recall x to) d) ])
      go true = as-step d d (still d)
      go false = as-step d _ (plain d _ refl refl refl refl (omega arith) refl)

  keeps : (s b : ℕ) → Steps d (elim (is_session s k.session) as (λ z. Doing) [ true ↦ with_log (log.kept b) d | false ↦ d ])
  keeps s b = go (is_session s k.session)
    where
      go : (z : Bool) → Steps d (elim z as (λ z. Doing) [ true ↦ with_log (log.kept b) d | false ↦ d ])
      go true = as-step d _ (plain d _ refl refl refl refl (omega arith) refl)
      go false = as-step d d (still d)

  gives : (got n first : ℕ) → nat_le last_grants got ≡ false → Steps d (take_ids got n first d)
  gives got n first few = go (got == k.got)
    where
      counted : (z : Bool) → z ≡ false → Steps d (elim z as (λ z. Doing) [ true ↦ spend counter.Id d | false ↦ with_clerk (add_ids n first) d ])
      counted true e = absurd (grind (arith, e))
      counted false e = as-step d _ (plain d _ refl refl refl refl (omega arith) refl)

      go : (b : Bool) → Steps d (elim b as (λ z. Doing) [ false ↦ d | true ↦ elim (nat_le last_grants got) as (λ z. Doing) [ true ↦ spend counter.Id d | false ↦ with_clerk (add_ids n first) d ] ])
      go true = counted (nat_le last_grants got) few
      go false = as-step d d (still d)

  olds : (asked greatest : Age) → Steps d (take_old_boot asked greatest d)
  olds asked greatest = go (same_age asked k.age)
    where
      go : (b : Bool) → Steps d (elim b as (λ z. Doing) [ true ↦ emit (out.OldBoot greatest) d | false ↦ d ])
      go true = as-step d _ (plain d _ refl refl refl refl (omega arith) refl)
      go false = as-step d d (still d)

-- Calls that are refused wait no longer.

record Refuses (ws : List Waiting) (d e : Doing) : Type 0 where
  grows : Grows d e
  next : e.clerk.log.next ≡ d.clerk.log.next
  fewer : length e.clerk.waiting ≤ length d.clerk.waiting + length ws

refuses : (live reserved : ℕ) (ws : List Waiting) (d : Doing) → Refuses ws d (refuse_makes live reserved ws d)
refuses live reserved [] d = record { grows = alike d d refl refl refl refl (omega arith); next = refl; fewer = omega arith }
refuses live reserved (w ∷ ws) d = go (idless (verdict w.call d.clerk)) (refuses live reserved ws)
  where
    go : (o : Option (List ℕ)) → ((e : Doing) → Refuses ws e (refuse_makes live reserved ws e)) → Refuses (w ∷ ws) d (refuse_makes live reserved ws (elim o as (λ z. Doing) [ Some xs ↦ refuse_make live reserved w.no xs d | None ↦ keep_call w d ]))
    go (Some xs) on =
        let e : Doing = refuse_make live reserved w.no xs d in
        let r = on e in
        record { grows = grows-on d e _ (alike d e refl refl refl refl (omega (arith, as-sent d.outs ((out.Answer w.no (answer.NoRoom live reserved) None) ∷ [])))) r.grows; next = r.next; fewer = omega (arith, r.fewer) }
    go None on =
        let e : Doing = keep_call w d in
        let r = on e in
        record { grows = grows-on d e _ (alike d e refl refl refl refl (omega arith)) r.grows; next = r.next; fewer = omega (arith, r.fewer, length-append d.clerk.waiting (w ∷ [])) }

abbrev emptied : Clerk → Doing
emptied k = with_clerk (λ k. record k { asking = None; waiting = [] }) (doing k)

none-room : (k : Clerk) (ask live reserved : ℕ) → Steps (doing k) (take_no_room ask live reserved (doing k))
none-room k ask live reserved = go (is_session ask k.asking)
  where
    go : (b : Bool) → Steps (doing k) (elim b as (λ z. Doing) [ true ↦ refuse_makes live reserved k.waiting (emptied k) | false ↦ doing k ])
    go true =
        let r = refuses live reserved k.waiting (emptied k) in
        record { grows = grows-on (doing k) (emptied k) _ (alike (doing k) (emptied k) refl refl refl refl (omega arith)) r.grows; calls = omega (arith, r.next, r.fewer) }
    go false = as-step (doing k) (doing k) (still (doing k))

takes-it : (m : Msg) (k : Clerk) → MayGet m → Steps (doing k) (taken m (doing k))
takes-it (Opened age s e) k may = opens k age s e
takes-it (Grant s e x n h i) k may = inside k s e (with_cache (cache.take x h n i)) (as-step (doing k) _ (plain (doing k) _ refl refl refl refl (omega arith) refl))
takes-it (Recall s e x n to) k may = inside k s e (take_recall x n to) (recalls k x n to)
takes-it (Kept s e b) k may = keeps k s b
takes-it (Ids s e g n first) k may = inside k s e (take_ids g n first) (gives k g n first may)
takes-it (NoRoom s e ask live reserved) k may = none-room k ask live reserved
takes-it (Ended s low mask) k may = absurd may
takes-it (Restarted s e) k may = absurd may
takes-it (OldBoot asked greatest) k may = olds k asked greatest
takes-it (Hello from age) k may = as-step (doing k) (doing k) (still (doing k))
takes-it (Want s e x h last) k may = as-step (doing k) (doing k) (still (doing k))
takes-it (Back s e x n h) k may = as-step (doing k) (doing k) (still (doing k))
takes-it (Flush s e b ops) k may = as-step (doing k) (doing k) (still (doing k))
takes-it (Room s e g ask) k may = as-step (doing k) (doing k) (still (doing k))
takes-it (Claim s e list) k may = as-step (doing k) (doing k) (still (doing k))
takes-it (Bye s e) k may = as-step (doing k) (doing k) (still (doing k))

-- the step ends below the limits
ends : (n : ℕ) (k : Clerk) (d e : Doing) → d.spent ≡ None → d.outs ≡ [] → d.clerk.asks ≡ k.asks → d.clerk.log.next_batch ≡ k.log.next_batch → d.clerk.log.next + length d.clerk.waiting ≡ k.log.next + length k.waiting + n → Steps d e → IsLow n k e → e.spent ≡ None
ends n k d e none outs asks batches calls s low = s.grows.unspent (record {
  asks = omega (arith, s.grows.sends, asks, batches, low.messages);
  ops = omega (arith, s.calls, calls, low.calls);
  batches = omega (arith, s.grows.sends, asks, batches, low.messages);
}) none

pub takes : (m : Msg) (k : Clerk) → MayGet m → IsLow 0 k (take m k) → (take m k).spent ≡ None
takes m k may low =
    ends 0 k (doing k) (take m k) refl refl refl refl (omega arith) (steps-on (doing k) (taken m (doing k)) (take m k) (takes-it m k may) (settles (taken m (doing k)))) low

pub begins : (cl : Call) (k : Clerk) → nat_le last_counter k.calls ≡ false → IsLow 1 k (begin cl k) → (begin cl k).spent ≡ None
begins cl k counted low = go (nat_le last_counter k.calls) counted low
  where
    go : (b : Bool) → b ≡ false → IsLow 1 k (elim b as (λ z. Doing) [ true ↦ spend counter.CallNo (doing k) | false ↦ settle (doing (add_call cl k)) ])
        → (elim b as (λ z. Doing) [ true ↦ spend counter.CallNo (doing k) | false ↦ settle (doing (add_call cl k)) ]).spent ≡ None
    go true e l = absurd (grind (arith, e))
    go false e l = ends 1 k (doing (add_call cl k)) (settle (doing (add_call cl k))) refl refl refl refl (omega (arith, length-append k.waiting ((record { no = k.calls + 1; call = cl; begun = Rattle.std.specs.Prelude.◌-◌ k.log.next 1 }) ∷ []))) (settles (doing (add_call cl k))) l
