-- What a try of a call leaves of the log.
use Rattle.std.proofs.Common.{◌≡◌, refl, sym, ap, ◌∙◌, arith, ℕ, Bool, true, false, ◌&&◌, not, List, [], ◌∷◌, ◌⊎◌, inl, inr, length}
use Rattle.std.specs.Prelude.{Option, None, Some, is_none, nat_le}
use Rattle.std.specs.List.{list_any}
use Rattle.ec_base.specs.declared.counter.Counter.TheVariants as counter
use Rattle.ec_base.specs.declared.ids.Hold.{Hold}
use Rattle.ec_base.specs.Limits.{last_counter}
use Rattle.ec_cache.specs.declared.state.Held.{Held}
use Rattle.ec_cache.specs.Cache as cache
use Rattle.ec_volume.specs.declared.update.Update.{Update}
use Rattle.ec_history.specs.declared.entry.Answer.TheVariants as answer
use Rattle.ec_plain.specs.declared.call.Outcome.{Outcome}
use Rattle.ec_log.specs.Log as log
use Rattle.ec_log.specs.declared.state.Asked.{Asked}
use Rattle.ec_log.specs.declared.state.Asked.TheVariants.{All}
use Rattle.ec_cache.specs.declared.resolve.verdict.Verdict.{Verdict}
use Rattle.ec_cache.specs.declared.resolve.verdict.Verdict.TheVariants.{Need, NeedIds, Lost, Done}
use Rattle.ec_protocol.specs.Clerk as clerk
use Rattle.ec_protocol.specs.Clerk.{Doing, Tried, Waits, answer_with, ask_for, await, awaited, evict, evict_unpinned, is_owing, is_wanted, may_want, on_objects, send_backs, send_want, settle_outcome, suits, try, try_verdict, verdict, wanted, with_cache, with_clerk, with_update}
use Rattle.ec_protocol.specs.declared.clerk.Waiting.{Waiting}
use Rattle.ec_quiet.specs.Works.{Calls, asked, asked_in}
use Rattle.ec_quiet.specs.Tries.{left_by, room_asked}

-- Tokens that go back leave the log.

backs-log : (es : List (ℕ × Held)) (d : Doing) → (send_backs es d).clerk.log ≡ d.clerk.log
backs-log [] d = refl
backs-log (e ∷ es) d = backs-log es _

pub evict-log : (d : Doing) → (evict d).clerk.log ≡ d.clerk.log
evict-log d = go (nat_le (length d.clerk.cache.held) d.clerk.cache.capacity)
  where
    go : (z : Bool) → (elim z as (λ z. Doing) [ true ↦ d | false ↦ evict_unpinned (on_objects d.clerk.log.undurable) d ]).clerk.log ≡ d.clerk.log
    go true = refl
    go false = backs-log (cache.evicted (on_objects d.clerk.log.undurable) d.clerk.cache) (with_cache (cache.evict (on_objects d.clerk.log.undurable)) d)

-- A try begins no batch, or one of what its call waits for; where it has an update to issue, the log isn't full.
module _ (w : Waiting) (d : Doing) (room : (o : Outcome) (u : Update) → verdict w.call d.clerk ≡ Done o → o.update ≡ Some u → suits u d.clerk.cache ≡ true → log.is_full d.clerk.log ≡ false) where
  abbrev pub Stays : Tried → Type 0
  Stays t = (left_by t).clerk.log.batches ≡ d.clerk.log.batches

  abbrev pub Picks : Tried → Type 0
  Picks t = (a : Asked) × (asked (Calls w.call) d.clerk ≡ Some a) × ((left_by t).clerk.log ≡ (ask_for a d).clerk.log)

  wants : (x : ℕ) (h : Hold) → Stays (Waits (clerk.want x h d))
  wants x h = go (may_want x h d.clerk && not (list_any (is_wanted (wanted x h d.clerk)) d.clerk.wanted))
    where
      go : (b : Bool) → Stays (Waits (elim b as (λ z. Doing) [ true ↦ send_want x h d | false ↦ d ]))
      go true = refl
      go false = refl

  rooms : Stays (Waits (clerk.ask_room d))
  rooms = go (clerk.has_session d.clerk && is_none d.clerk.asking) (nat_le last_counter d.clerk.asks)
    where
      go : (a b : Bool) → Stays (Waits (elim a as (λ z. Doing) [ true ↦ elim b as (λ z. Doing) [ true ↦ clerk.spend counter.Ask d | false ↦ room_asked d ] | false ↦ d ]))
      go true true = refl
      go true false = refl
      go false b = refl

  module _ (o : Outcome) (done : verdict w.call d.clerk ≡ Done o) where
    awaits : (a : Option Asked) → awaited w.call o ≡ a → Stays (await w o a d) ⊎ Picks (await w o a d)
    awaits None is = inl refl
    awaits (Some a) is = go (is_owing w.begun (log.first a d.clerk.log))
      where
        go : (b : Bool) → Stays (elim b as (λ z. Tried) [ true ↦ Waits (ask_for a d) | false ↦ answer_with w (answer.Reply o.reply) None o.touched d ])
            ⊎ Picks (elim b as (λ z. Tried) [ true ↦ Waits (ask_for a d) | false ↦ answer_with w (answer.Reply o.reply) None o.touched d ])
        go true = inr (a, ap (asked_in w.call) done ∙ is, refl)
        go false = inl refl

    issues : (u : Update) → o.update ≡ Some u → Stays (clerk.issue_if_room w o u d)
    issues u is = go (suits u d.clerk.cache) refl (log.is_full d.clerk.log) refl (log.ops_are_spent d.clerk.log)
      where
        go : (a : Bool) → suits u d.clerk.cache ≡ a → (b : Bool) → log.is_full d.clerk.log ≡ b → (s : Bool)
            → Stays (elim a as (λ z. Tried) [
              | false ↦ Waits d
              | true ↦ elim b as (λ z. Tried) [
                | true ↦ Waits (ask_for All d)
                | false ↦ elim s as (λ z. Tried) [ true ↦ Waits (clerk.spend counter.Op d) | false ↦ answer_with w (answer.Reply o.reply) (Some d.clerk.log.next) o.touched (with_clerk (with_update u) d) ]
              ]
            ])
        go false e b f s = refl
        go true e true f s = absurd (apart (sym f ∙ room o u done is e))
          where
            apart : true ≡ false → ⊥
            apart p = grind (arith, p)
        go true e false f true = refl
        go true e false f false = refl

    settles : (u : Option Update) → o.update ≡ u → Stays (settle_outcome w o u d) ⊎ Picks (settle_outcome w o u d)
    settles None is = awaits (awaited w.call o) refl
    settles (Some u) is = inl (issues u is)

  pub tried : Stays (try w d) ⊎ Picks (try w d)
  tried = by (verdict w.call d.clerk) refl
    where
      by : (y : Verdict) → verdict w.call d.clerk ≡ y → Stays (try_verdict w y d) ⊎ Picks (try_verdict w y d)
      by (Need x h) e = inl (wants x h)
      by (NeedIds xs) e = inl rooms
      by (Lost ns xs) e = inl refl
      by (Done o) e = settles o e o.update refl
