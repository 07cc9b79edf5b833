-- A clerk's steps: what each message, call, push and resend counts.
use Rattle.std.proofs.Common.{◌≡◌, refl, ap, arith, ◌≤◌, ◌+◌, ℕ, Bool, true, false, not, ◌==◌, ◌&&◌, length-append, List, [], ◌∷◌, ◌++◌, Option, Some, None}
use Rattle.std.specs.Prelude.{◌-◌, is_some, nat_le, nat_lt}
use Rattle.std.specs.List.{list_any}
use Rattle.ec_base.specs.Limits.{last_counter}
use Rattle.ec_base.specs.Tables.{keys, without}
use Rattle.ec_base.specs.declared.counter.Counter.TheVariants as counter
use Rattle.ec_base.specs.declared.ids.Age.{Age}
use Rattle.ec_base.specs.declared.ids.Hold.{Hold}
use Rattle.ec_plain.specs.declared.call.Call.{Call}
use Rattle.ec_sessions.specs.Limits.{last_grants, last_round}
use Rattle.ec_sessions.specs.declared.window.Window.{Window}
use Rattle.ec_wire.specs.declared.msg.Msg.{Msg}
use Rattle.ec_wire.specs.declared.msg.Msg.TheVariants as msg
use Rattle.ec_cache.specs.Cache as cache
use Rattle.ec_log.specs.Log as log
use Rattle.ec_protocol.specs.Clerk.{Doing, add_call, add_ids, begin, claim, doing, emit, enter_epoch, has_session, hello, idless, in_session, is_need, is_session, keep_call, keep_push, keep_recall, lose, mark_recall, may_want, needs, new_clerk, or_hello, push, refuse_make, refuse_makes, resend, resend_batches, resend_needs, resend_room, same_age, send, send_batch, send_outstanding, send_want, settle, spend, start, take, take_ended, take_ids, take_no_room, take_opened, take_recall, take_restarted, taken, verdict, with_cache, with_clerk, with_log}
use Rattle.ec_protocol.specs.declared.clerk.Clerk.{Clerk}
use Rattle.ec_protocol.specs.declared.clerk.Out.TheVariants as out
use Rattle.ec_protocol.specs.declared.clerk.Waiting.{Waiting}
use Rattle.ec_drill.specs.OfPromise.OfSpent.SpentDrills.{most_lines}
use Rattle.ec_drill.proofs.OfPromise.OfSpent.Few.{IsFew, IsGoingCounts, OnSpent, counts, most_steps, opened}
use Rattle.ec_drill.proofs.OfPromise.OfSpent.Windows.{kept, least-within, new-window}
use Rattle.ec_drill.proofs.OfPromise.OfSpent.Clerks as clerks
use Rattle.ec_base.proofs.Numbers.{at-limit}

-- one step more than these
module _ (calls steps : ℕ) (few_calls : calls ≤ most_lines) (few_steps : steps + 1 ≤ most_steps) where
  abbrev Goes : Doing → Type 0
  Goes d = IsGoingCounts calls (steps + 1) (counts d.clerk) d.spent

  choose : (z : Bool) (d e : Doing) → Goes d → Goes e → Goes (elim z as (λ y. Doing) [ true ↦ d | false ↦ e ])
  choose true d e h i = h
  choose false d e h i = i

  settles : (d : Doing) → Goes d → Goes (settle d)
  settles d h = clerks.settles calls (steps + 1) few_calls few_steps d h

  -- What is outstanding.

  needs-again : (done ps : List (ℕ × Hold)) (d : Doing) → Goes d → Goes (resend_needs done ps d)
  needs-again done [] d h = h
  needs-again done (p ∷ ps) d h = needs-again (p ∷ done) ps _ (choose (may_want p.0 p.1 d.clerk && not (list_any (is_need p.0 p.1) done)) (send_want p.0 p.1 d) d h h)

  room-again : (o : Option ℕ) (d : Doing) → Goes d → Goes (resend_room o d)
  room-again None d h = h
  room-again (Some n) d h = h

  batches-again : (bs : List ℕ) (d : Doing) → Goes d → Goes (resend_batches bs d)
  batches-again [] d h = h
  batches-again (b ∷ bs) d h = batches-again bs (send_batch b d) h

  outstanding : (d : Doing) → Goes d → Goes (send_outstanding d)
  outstanding d h =
      let e : Doing = resend_needs [] (needs d.clerk.waiting d.clerk) d in
      batches-again (keys e.clerk.log.batches) (resend_room e.clerk.asking e) (room-again e.clerk.asking e (needs-again [] (needs d.clerk.waiting d.clerk) d h))

  -- The calls that are refused leave the list.
  refuses : (live reserved : ℕ) (ws : List Waiting) (d : Doing) → IsGoingCounts calls (steps + 1) (counts (record (d.clerk) { waiting = d.clerk.waiting ++ ws })) d.spent → Goes (refuse_makes live reserved ws d)
  refuses live reserved [] d h = record { made = h.made; ops = omega (arith, h.ops, length-append d.clerk.waiting []); asks = h.asks; low = h.low; window = h.window; rounds = h.rounds; spent = h.spent }
  refuses live reserved (w ∷ ws) d h = go (refuses live reserved ws) (idless (verdict w.call d.clerk))
    where
      go : ((e : Doing) → IsGoingCounts calls (steps + 1) (counts (record (e.clerk) { waiting = e.clerk.waiting ++ ws })) e.spent → Goes (refuse_makes live reserved ws e)) → (o : Option (List ℕ))
          → Goes (refuse_makes live reserved ws (elim o as (λ y. Doing) [ Some xs ↦ refuse_make live reserved w.no xs d | None ↦ keep_call w d ]))
      go r (Some xs) = r (refuse_make live reserved w.no xs d) (record {
        made = h.made;
        ops = omega (arith, h.ops, length-append d.clerk.waiting (w ∷ ws), length-append d.clerk.waiting ws);
        asks = h.asks;
        low = h.low;
        window = h.window;
        rounds = h.rounds;
        spent = h.spent;
      })
      go r None = r (keep_call w d) (record {
        made = h.made;
        ops = omega (arith, h.ops, length-append d.clerk.waiting (w ∷ ws), length-append (d.clerk.waiting ++ w ∷ []) ws, length-append d.clerk.waiting (w ∷ []));
        asks = h.asks;
        low = h.low;
        window = h.window;
        rounds = h.rounds;
        spent = h.spent;
      })

  -- The step begins with this clerk.
  module _ (k : Clerk) (f : IsFew calls steps k) where
    begun : Goes (doing k)
    begun = record {
      made = f.made;
      ops = f.ops;
      asks = omega (arith, f.asks);
      low = omega (arith, f.batch, least-within k.log.next_batch k.log.batches f.window);
      window = f.window;
      rounds = omega (arith, f.rounds);
      spent = tt;
    }

    within : (s e : ℕ) (g : Doing → Doing) → Goes (g (doing k)) → Goes (in_session s e g (doing k))
    within s e g h = choose (is_session s k.session && (e == k.epoch)) (g (doing k)) (doing k) h begun

    takes-opened : (age : Age) (s e : ℕ) → Goes (take_opened age s e (doing k))
    takes-opened age s e =
        choose (not (has_session k) && same_age age k.age) (send (msg.Claim s e []) (with_clerk (λ z. record z { session = Some s; epoch = e }) (doing k))) (doing k)
        (record { made = f.made; ops = f.ops; asks = begun.asks; low = begun.low; window = f.window; rounds = omega (arith, f.rounds); spent = tt }) begun

    takes-recall : (x n : ℕ) (to : Hold) → Goes (take_recall x n to (doing k))
    takes-recall x n to = choose (nat_lt n (cache.last x k.cache)) (doing k) (keep_recall (record { obj = x; number = n; to = to }) (with_cache (mark_recall x to) (doing k))) begun begun

    keeps-batch : (b : ℕ) → Goes (with_log (log.kept b) (doing k))
    keeps-batch b =
        let w = kept k.log.next_batch b k.log.batches f.window in
        record { made = f.made; ops = f.ops; asks = begun.asks; low = omega (arith, f.batch, least-within k.log.next_batch (without b k.log.batches) w); window = w; rounds = begun.rounds; spent = tt }

    takes-ids : (got n first : ℕ) → Goes (take_ids got n first (doing k))
    takes-ids got n first = go (got == k.got) (nat_le last_grants got)
      where
        go : (x y : Bool) → Goes (elim x as (λ o. Doing) [ false ↦ doing k | true ↦ elim y as (λ o. Doing) [ true ↦ spend counter.Id (doing k) | false ↦ with_clerk (add_ids n first) (doing k) ] ])
        go false y = begun
        go true true = record { made = f.made; ops = f.ops; asks = begun.asks; low = begun.low; window = f.window; rounds = begun.rounds; spent = tt }
        go true false = record { made = f.made; ops = f.ops; asks = omega (arith, f.asks); low = begun.low; window = f.window; rounds = begun.rounds; spent = tt }

    takes-no-room : (ask live reserved : ℕ) → Goes (take_no_room ask live reserved (doing k))
    takes-no-room ask live reserved =
        choose (is_session ask k.asking) (refuse_makes live reserved k.waiting (with_clerk (λ z. record z { asking = None; waiting = [] }) (doing k))) (doing k)
        (refuses live reserved k.waiting (with_clerk (λ z. record z { asking = None; waiting = [] }) (doing k)) (record { made = f.made; ops = f.ops; asks = omega (arith, f.asks); low = begun.low; window = f.window; rounds = begun.rounds; spent = tt })) begun

    -- a session that was open is over
    ended : (w : Window) → opened k.session ≡ 1 → Goes (take_ended w (doing k))
    ended w one = go (nat_le last_round k.age.round) refl
      where
        go : (z : Bool) → nat_le last_round k.age.round ≡ z → Goes (elim z as (λ y. Doing) [ true ↦ spend counter.Round (doing k) | false ↦ hello (emit (out.Told (keys (log.lost w k.log))) (with_clerk (lose (log.lost w k.log)) (doing k))) ])
        go true e = absurd (omega (arith, at-limit last_round k.age.round e, f.rounds, one, few_steps))
        go false e = record {
          made = f.made;
          ops = f.ops;
          asks = omega (arith, f.asks);
          low = omega arith;
          window = new-window;
          rounds = omega (arith, f.rounds, one);
          spent = tt;
        }

    takes-ended : (s : ℕ) (w : Window) → Goes (or_hello s (take_ended w) (doing k))
    takes-ended s w = go k.session refl
      where
        go : (o : Option ℕ) → k.session ≡ o → Goes (elim (is_some o) as (λ y. Doing) [ false ↦ hello (doing k) | true ↦ elim (is_session s o) as (λ y. Doing) [ true ↦ take_ended w (doing k) | false ↦ doing k ] ])
        go None e = begun
        go (Some t) e = choose (s == t) (take_ended w (doing k)) (doing k) (ended w (ap opened e)) begun

    entered : (e : ℕ) → Goes (take_restarted e (doing k))
    entered e =
        let g : Doing = elim (nat_lt k.epoch e) as (λ y. Doing) [ true ↦ with_clerk (enter_epoch e) (doing k) | false ↦ doing k ] in
        choose (nat_lt e k.epoch) (doing k) (send_outstanding (claim g)) begun (outstanding (claim g) (choose (nat_lt k.epoch e) (with_clerk (enter_epoch e) (doing k)) (doing k) begun begun))

    takes-restarted : (s e : ℕ) → Goes (or_hello s (take_restarted e) (doing k))
    takes-restarted s e = go (has_session k)
      where
        go : (z : Bool) → Goes (elim z as (λ y. Doing) [ false ↦ hello (doing k) | true ↦ elim (is_session s k.session) as (λ y. Doing) [ true ↦ take_restarted e (doing k) | false ↦ doing k ] ])
        go false = begun
        go true = choose (is_session s k.session) (take_restarted e (doing k)) (doing k) (entered e) begun

    takes-one : (m : Msg) → Goes (taken m (doing k))
    takes-one (msg.Opened age s e) = takes-opened age s e
    takes-one (msg.Grant s e x n h i) = within s e (with_cache (cache.take x h n i)) begun
    takes-one (msg.Recall s e x n to) = within s e (take_recall x n to) (takes-recall x n to)
    takes-one (msg.Kept s e b) = choose (is_session s k.session) (with_log (log.kept b) (doing k)) (doing k) (keeps-batch b) begun
    takes-one (msg.Ids s e got n first) = within s e (take_ids got n first) (takes-ids got n first)
    takes-one (msg.NoRoom s e ask live reserved) = takes-no-room ask live reserved
    takes-one (msg.Ended s low mask) = takes-ended s (record { low = low; mask = mask })
    takes-one (msg.Restarted s e) = takes-restarted s e
    takes-one (msg.OldBoot asked greatest) = choose (same_age asked k.age) (emit (out.OldBoot greatest) (doing k)) (doing k) begun begun
    takes-one (msg.Hello i x) = begun
    takes-one (msg.Want s e x h n) = begun
    takes-one (msg.Back s e x n h) = begun
    takes-one (msg.Flush s e b ops) = begun
    takes-one (msg.Room s e got ask) = begun
    takes-one (msg.Claim s e l) = begun
    takes-one (msg.Bye s e) = begun

    pub takes : (m : Msg) → Goes (take m k)
    takes m = settles (taken m (doing k)) (takes-one m)

    pub pushes : (n : ℕ) → Goes (push n k)
    pushes n = settles (elim (nat_le k.log.first n) as (λ z. Doing) [ true ↦ keep_push n (doing k) | false ↦ doing k ]) (choose (nat_le k.log.first n) (keep_push n (doing k)) (doing k) begun begun)

    pub resends : Goes (resend k)
    resends = choose (has_session k) (send_outstanding (claim (doing k))) (hello (doing k)) (outstanding (claim (doing k)) begun) begun

-- A call begins.
pub calls-on : (calls steps : ℕ) → calls + 1 ≤ most_lines → steps + 1 ≤ most_steps → (cl : Call) (k : Clerk) → IsFew calls steps k → IsGoingCounts (calls + 1) (steps + 1) (counts (begin cl k).clerk) (begin cl k).spent
calls-on calls steps few_calls few_steps cl k f = go (nat_le last_counter k.calls) refl
  where
    go : (z : Bool) → nat_le last_counter k.calls ≡ z
        → IsGoingCounts (calls + 1) (steps + 1) (counts (elim z as (λ y. Doing) [ true ↦ spend counter.CallNo (doing k) | false ↦ settle (doing (add_call cl k)) ]).clerk) (elim z as (λ y. Doing) [ true ↦ spend counter.CallNo (doing k) | false ↦ settle (doing (add_call cl k)) ]).spent
    go true e = absurd (omega (arith, at-limit last_counter k.calls e, f.made, few_calls))
    go false e = clerks.settles (calls + 1) (steps + 1) few_calls few_steps (doing (add_call cl k)) (record {
      made = omega (arith, f.made);
      ops = omega (arith, f.ops, length-append k.waiting (record { no = k.calls + 1; call = cl; begun = k.log.next - 1 } ∷ []));
      asks = omega (arith, f.asks);
      low = omega (arith, f.batch, least-within k.log.next_batch k.log.batches f.window);
      window = f.window;
      rounds = omega (arith, f.rounds);
      spent = tt;
    })

-- A start.
pub starts : (calls steps c boot : ℕ) → IsFew calls steps (start c boot).clerk × OnSpent (start c boot).spent
starts calls steps c boot = go (nat_lt last_counter boot)
  where
    new : IsFew calls steps (new_clerk c boot)
    new = record { made = omega arith; ops = omega arith; asks = omega arith; batch = omega arith; window = new-window; rounds = omega arith }

    go : (z : Bool) → IsFew calls steps (elim z as (λ y. Doing) [ true ↦ spend counter.Boot (doing (new_clerk c boot)) | false ↦ hello (doing (new_clerk c boot)) ]).clerk × OnSpent (elim z as (λ y. Doing) [ true ↦ spend counter.Boot (doing (new_clerk c boot)) | false ↦ hello (doing (new_clerk c boot)) ]).spent
    go true = (new, tt)
    go false = (new, tt)
