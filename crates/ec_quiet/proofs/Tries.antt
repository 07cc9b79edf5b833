-- What a try of a call leaves of the cache: the same tokens.
use Rattle.std.proofs.Common.{◌≡◌, ◌∙◌, arith, ◌≤◌, ℕ, Bool, true, false, ◌&&◌, not, List, length}
use Rattle.std.specs.Prelude.{Option, None, Some, nat_le, is_none}
use Rattle.std.specs.List.{list_any}
use Rattle.ec_base.specs.declared.counter.Counter.TheVariants as counter
use Rattle.ec_base.specs.declared.ids.Hold.{Hold}
use Rattle.ec_base.specs.Limits.{last_counter}
use Rattle.ec_volume.specs.Update.{operands}
use Rattle.ec_volume.specs.declared.update.Update.{Update}
use Rattle.ec_history.specs.declared.entry.Answer.TheVariants as answer
use Rattle.ec_plain.specs.declared.call.Outcome.{Outcome}
use Rattle.ec_cache.specs.Cache as cache
use Rattle.ec_cache.specs.declared.state.CacheState.{CacheState}
use Rattle.ec_log.specs.Log as log
use Rattle.ec_log.specs.declared.state.Asked.{Asked}
use Rattle.ec_log.specs.declared.state.Asked.TheVariants.{All}
use Rattle.ec_log.specs.declared.state.Pick.{Pick}
use Rattle.ec_log.specs.declared.state.Pick.TheVariants as pick_of
use Rattle.ec_cache.specs.declared.resolve.verdict.Verdict.{Verdict}
use Rattle.ec_cache.specs.declared.resolve.verdict.Verdict.TheVariants.{Need, NeedIds, Lost, Done}
use Rattle.ec_protocol.specs.Clerk as clerk
use Rattle.ec_protocol.specs.Clerk.{Doing, Tried, Waits, Answered, answer_with, ask_for, await, awaited, doing, is_owing, is_wanted, issue, may_want, max_tokens, send_picked, send_want, settle_outcome, suits, try, try_verdict, verdict, wanted, with_clerk, with_update}
use Rattle.ec_protocol.specs.declared.clerk.Clerk.{Clerk}
use Rattle.ec_protocol.specs.declared.clerk.Waiting.{Waiting}
use Rattle.ec_quiet.specs.Evictions.{Evicts, Uses}
use Rattle.ec_quiet.specs.Tries.{batch_sent, left_by, room_asked}
use Rattle.ec_quiet.proofs.Used.{all-used-uses, change-uses, roomy, uses-none, uses-on}

module _ (w : Waiting) (d : Doing) where
  abbrev k : CacheState
  k = d.clerk.cache

  abbrev Keeps : Doing → Type 0
  Keeps e = Uses k e.clerk.cache

  wants : (x : ℕ) (h : Hold) → Keeps (clerk.want x h d)
  wants x h = go (may_want x h d.clerk && not (list_any (is_wanted (wanted x h d.clerk)) d.clerk.wanted))
    where
      go : (b : Bool) → Keeps (elim b as (λ z. Doing) [ true ↦ send_want x h d | false ↦ d ])
      go true = uses-none k
      go false = uses-none k

  rooms : Keeps (clerk.ask_room d)
  rooms = go (clerk.has_session d.clerk && is_none d.clerk.asking) (nat_le last_counter d.clerk.asks)
    where
      go : (a b : Bool) → Keeps (elim a as (λ z. Doing) [ true ↦ elim b as (λ z. Doing) [ true ↦ clerk.spend counter.Ask d | false ↦ room_asked d ] | false ↦ d ])
      go true true = uses-none k
      go true false = uses-none k
      go false b = uses-none k

  asks : (a : Asked) → Keeps (ask_for a d)
  asks a = go (log.pick a d.clerk.log)
    where
      batches : (b : ℕ) (ns : List ℕ) (z : Bool) → Keeps (elim z as (λ z. Doing) [ true ↦ clerk.spend counter.Batch d | false ↦ batch_sent b ns d ])
      batches b ns true = uses-none k
      batches b ns false = uses-none k

      go : (p : Pick) → Keeps (send_picked p d)
      go (pick_of.Batch b ns) = batches b ns (log.batches_are_spent d.clerk.log)
      go pick_of.Settled = uses-none k
      go (pick_of.Behind b) = uses-none k
      go (pick_of.Window b) = uses-none k

  awaits : (o : Outcome) (a : Option Asked) → Keeps (left_by (await w o a d))
  awaits o None = all-used-uses o.touched k
  awaits o (Some a) = go (is_owing w.begun (log.first a d.clerk.log))
    where
      go : (b : Bool) → Keeps (left_by (elim b as (λ z. Tried) [ true ↦ Waits (ask_for a d) | false ↦ answer_with w (answer.Reply o.reply) None o.touched d ]))
      go true = asks a
      go false = all-used-uses o.touched k

  issues : (o : Outcome) (u : Update) → Keeps (left_by (clerk.issue_if_room w o u d))
  issues o u = go (suits u d.clerk.cache) (log.is_full d.clerk.log) (log.ops_are_spent d.clerk.log)
    where
      go : (a b c : Bool)
          → Keeps (left_by (elim a as (λ z. Tried) [
            | false ↦ Waits d
            | true ↦ elim b as (λ z. Tried) [
              | true ↦ Waits (ask_for All d)
              | false ↦ elim c as (λ z. Tried) [ true ↦ Waits (clerk.spend counter.Op d) | false ↦ answer_with w (answer.Reply o.reply) (Some d.clerk.log.next) o.touched (with_clerk (with_update u) d) ]
            ]
          ]))
      go true false false = uses-on k (cache.change u (operands u) k) _ (change-uses u (operands u) k) (all-used-uses o.touched (cache.change u (operands u) k))
      go true false true = uses-none k
      go true true c = asks All
      go false b c = uses-none k

  settles : (o : Outcome) (u : Option Update) → Keeps (left_by (settle_outcome w o u d))
  settles o None = awaits o (awaited w.call o)
  settles o (Some u) = issues o u

  pub tried-uses : Keeps (left_by (try w d))
  tried-uses = by (verdict w.call d.clerk)
    where
      by : (v : Verdict) → Keeps (left_by (try_verdict w v d))
      by (Need x h) = wants x h
      by (NeedIds xs) = rooms
      by (Lost ns xs) = all-used-uses xs k
      by (Done o) = settles o o.update

-- Where there are no more tokens than the clerk keeps, none goes back.
pub roomy-try : (n : ℕ) (w : Waiting) (k : Clerk) → k.cache.capacity ≡ max_tokens → length k.cache.held ≤ max_tokens → Evicts n (left_by (try w (doing k)))
roomy-try n w k c l = let u = tried-uses w (doing k) in roomy n (left_by (try w (doing k))) (u.0.capacity ∙ c) (omega (arith, l, u.1))
