-- A call that is tried leaves the list of waiting calls as it is.
use Rattle.std.proofs.Common.{◌≡◌, ℕ, Bool, true, false, not, ◌&&◌, ◌+◌, List, ◌∷◌, ◌++◌}
use Rattle.std.specs.Prelude.{◌^◌, Option, None, Some, nat_le, is_none}
use Rattle.std.specs.List.{list_any}
use Rattle.ec_base.specs.declared.counter.Counter.TheVariants as counter
use Rattle.ec_base.specs.declared.ids.Hold.{Hold}
use Rattle.ec_volume.specs.declared.update.Update.{Update}
use Rattle.ec_plain.specs.declared.call.Outcome.{Outcome}
use Rattle.ec_history.specs.declared.entry.Answer.TheVariants as answer
use Rattle.ec_log.specs.Log as log
use Rattle.ec_log.specs.declared.state.Asked.{Asked}
use Rattle.ec_log.specs.declared.state.Asked.TheVariants.{All}
use Rattle.ec_log.specs.declared.state.Pick.{Pick}
use Rattle.ec_log.specs.declared.state.Pick.TheVariants as pick_of
use Rattle.ec_cache.specs.declared.resolve.verdict.Verdict.{Verdict}
use Rattle.ec_cache.specs.declared.resolve.verdict.Verdict.TheVariants.{Need, Lost, NeedIds, Done}
use Rattle.ec_protocol.specs.declared.clerk.Waiting.{Waiting}
use Rattle.ec_protocol.specs.Clerk.{Doing, spend, with_clerk, with_log, with_update, send_batch, send_picked, ask_for, may_want, wanted, is_wanted, send_want, want, has_session, send_room, ask_anew, ask_room, Tried, Waits, Answered, answer_with, awaited, await, is_owing, suits, issue, settle_outcome, try_verdict, try, verdict}
use Rattle.ec_coherence.proofs.ForClerk.Settling.{Keeping}
use Rattle.ec_coherence.proofs.ForClerk.Try.{OnTried}

module _ (ws : List Waiting) where
  abbrev Same : Doing → Type 0
  Same e = e.clerk.waiting ≡ ws

  same-picked : (p : Pick) (e : Doing) → Same e → Same (send_picked p e)
  same-picked (pick_of.Batch b ns) e h = go (log.batches_are_spent e.clerk.log)
    where
      go : (z : Bool) → Same (elim z as (λ y. Doing) [ true ↦ spend counter.Batch e | false ↦ send_batch b (with_log (log.after_pick (pick_of.Batch b ns)) e) ])
      go true = h
      go false = h
  same-picked _ e h = h

  same-ask : (a : Asked) (e : Doing) → Same e → Same (ask_for a e)
  same-ask a e h = same-picked (log.pick a e.clerk.log) e h

  same-want : (x : ℕ) (m : Hold) (e : Doing) → Same e → Same (want x m e)
  same-want x m e h = go (may_want x m e.clerk && not (list_any (is_wanted (wanted x m e.clerk)) e.clerk.wanted))
    where
      go : (z : Bool) → Same (elim z as (λ y. Doing) [ true ↦ send_want x m e | false ↦ e ])
      go true = h
      go false = h

  same-room : (e : Doing) → Same e → Same (ask_room e)
  same-room e h = go (has_session e.clerk && is_none e.clerk.asking)
    where
      anew : (z : Bool) → Same (elim z as (λ y. Doing) [
        | true ↦ spend counter.Ask e
        | false ↦ send_room (e.clerk.asks + 1) (with_clerk (λ k. record k { asking = Some (k.asks + 1); asks = k.asks + 1 }) e)
      ])
      anew true = h
      anew false = h

      go : (z : Bool) → Same (elim z as (λ y. Doing) [ true ↦ ask_anew e | false ↦ e ])
      go true = anew (nat_le (2 ^ 62) e.clerk.asks)
      go false = h

  same-await : (p : Waiting) (o : Outcome) (a : Option Asked) (e : Doing) → Same e → OnTried Same (await p o a e)
  same-await p o None e h = h
  same-await p o (Some a) e h = go (is_owing p.begun (log.first a e.clerk.log))
    where
      go : (z : Bool) → OnTried Same (elim z as (λ y. Tried) [ true ↦ Waits (ask_for a e) | false ↦ answer_with p (answer.Reply o.reply) None o.touched e ])
      go true = same-ask a e h
      go false = h

  same-issue : (p : Waiting) (o : Outcome) (u : Update) (e : Doing) → Same e → OnTried Same (issue p o u e)
  same-issue p o u e h = go (log.ops_are_spent e.clerk.log)
    where
      go : (z : Bool) → OnTried Same (elim z as (λ y. Tried) [ true ↦ Waits (spend counter.Op e) | false ↦ answer_with p (answer.Reply o.reply) (Some e.clerk.log.next) o.touched (with_clerk (with_update u) e) ])
      go true = h
      go false = h

  same-outcome : (p : Waiting) (o : Outcome) (u : Option Update) (e : Doing) → Same e → OnTried Same (settle_outcome p o u e)
  same-outcome p o None e h = same-await p o (awaited p.call o) e h
  same-outcome p o (Some u) e h = go (suits u e.clerk.cache) (log.is_full e.clerk.log)
    where
      go : (a b : Bool) → OnTried Same (elim a as (λ z. Tried) [ false ↦ Waits e | true ↦ elim b as (λ z. Tried) [ true ↦ Waits (ask_for All e) | false ↦ issue p o u e ] ])
      go false b = h
      go true true = same-ask All e h
      go true false = same-issue p o u e h

  pub same-verdict : (p : Waiting) (v : Verdict) (e : Doing) → Same e → OnTried Same (try_verdict p v e)
  same-verdict p (Need x m) e h = same-want x m e h
  same-verdict p (NeedIds xs) e h = same-room e h
  same-verdict p (Lost ns xs) e h = h
  same-verdict p (Done o) e h = same-outcome p o o.update e h

-- of a call that is tried: what is kept of the step is kept with the list
pub keeping : (P : Doing → Type 0) → ((ws : List Waiting) (e : Doing) → P e → P (with_clerk (λ k. record k { waiting = ws }) e)) → (before : List Waiting) (p : Waiting) (ws : List Waiting) (e : Doing)
    → e.clerk.waiting ≡ before ++ p ∷ ws → OnTried P (try p e) → Keeping P before p ws (try p e)
keeping P sets before p ws e q h = go (try p e) h (same-verdict (before ++ p ∷ ws) p (verdict p.call e.clerk) e q)
  where
    go : (t : Tried) → OnTried P t → OnTried (λ f. f.clerk.waiting ≡ before ++ p ∷ ws) t → Keeping P before p ws t
    go (Waits f) h i = (h, i)
    go (Answered f) h i = sets (before ++ ws) f h
