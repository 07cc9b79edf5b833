-- A step that has met a spent counter keeps the first one to its end.
use Rattle.std.proofs.Common.{◌≡◌, ap, ℕ, suc, zero, Bool, true, false, List, [], ◌∷◌, ◌++◌, ◌+◌, Option, None, Some}
use Rattle.std.specs.Prelude.{nat_le, is_none, not, ◌&&◌, length}
use Rattle.std.specs.List.{list_any}
use Rattle.ec_base.specs.Limits.{last_counter}
use Rattle.ec_base.specs.declared.counter.Counter.{Counter}
use Rattle.ec_base.specs.declared.counter.Counter.TheVariants as counter
use Rattle.ec_base.specs.declared.ids.Hold.{Hold}
use Rattle.ec_volume.specs.declared.update.Update.{Update}
use Rattle.ec_plain.specs.declared.call.Outcome.{Outcome}
use Rattle.ec_history.specs.declared.entry.Answer.TheVariants as answer
use Rattle.ec_cache.specs.Cache as cached
use Rattle.ec_cache.specs.declared.state.Held.{Held}
use Rattle.ec_log.specs.Log as logs
use Rattle.ec_log.specs.declared.state.Asked.{Asked}
use Rattle.ec_log.specs.declared.state.Asked.TheVariants.{Object, Op, All}
use Rattle.ec_log.specs.declared.state.Pick.{Pick}
use Rattle.ec_log.specs.declared.state.Pick.TheVariants as pick_of
use Rattle.ec_cache.specs.declared.resolve.verdict.Verdict.{Verdict}
use Rattle.ec_cache.specs.declared.resolve.verdict.Verdict.TheVariants.{Need, Lost, NeedIds, Done}
use Rattle.ec_protocol.specs.Server.{first_spent}
use Rattle.ec_protocol.specs.declared.clerk.Waiting.{Waiting}
use Rattle.ec_protocol.specs.declared.clerk.Recalled.{Recalled}
use Rattle.ec_protocol.specs.Clerk.{Doing, Tried, Waits, Answered}
use Rattle.ec_protocol.specs.Clerk as clerk

abbrev spent_of : Tried → Option Counter
spent_of (Waits d) = d.spent
spent_of (Answered d) = d.spent

module _ (c : Counter) where
  abbrev IsKept : Doing → Type 0
  IsKept d = d.spent ≡ Some c

  either : (b : Bool) (x y : Doing) → IsKept x → IsKept y → IsKept (elim b as (λ z. Doing) [ true ↦ x | false ↦ y ])
  either true x y p q = p
  either false x y p q = q

  either_tried : (b : Bool) (x y : Tried) → spent_of x ≡ Some c → spent_of y ≡ Some c → spent_of (elim b as (λ z. Tried) [ true ↦ x | false ↦ y ]) ≡ Some c
  either_tried true x y p q = p
  either_tried false x y p q = q

  spends : (n : Counter) (d : Doing) → IsKept d → IsKept (clerk.spend n d)
  spends n d e = ap (λ s. first_spent s n) e

  -- Recalls and pushes.

  picks : (p : Pick) (d : Doing) → IsKept d → IsKept (clerk.send_picked p d)
  picks (pick_of.Batch b ns) d e = either (logs.batches_are_spent d.clerk.log) (clerk.spend counter.Batch d) (clerk.send_batch b (clerk.with_log (logs.after_pick (pick_of.Batch b ns)) d)) (spends counter.Batch d e) e
  picks pick_of.Settled d e = e
  picks (pick_of.Behind b) d e = e
  picks (pick_of.Window b) d e = e

  asks : (a : Asked) (d : Doing) → IsKept d → IsKept (clerk.ask_for a d)
  asks a d e = picks (logs.pick a d.clerk.log) d e

  recalls : (rs : List Recalled) (d : Doing) → IsKept d → IsKept (clerk.try_recalls rs d)
  recalls [] d e = e
  recalls (r ∷ rs) d e =
      let kept = clerk.keep_recall r (clerk.ask_for (Object r.obj) d) in
      recalls rs (elim (clerk.is_ready r d.clerk) as (λ z. Doing) [ true ↦ clerk.give_back r d | false ↦ kept ]) (either (clerk.is_ready r d.clerk) (clerk.give_back r d) kept e (asks (Object r.obj) d e))

  pushes : (ns : List ℕ) (d : Doing) → IsKept d → IsKept (clerk.try_pushes ns d)
  pushes [] d e = e
  pushes (n ∷ ns) d e =
      let asked = clerk.ask_for (Op n) (clerk.keep_push n d) in
      pushes ns (elim (clerk.is_settled (Op n) d.clerk) as (λ z. Doing) [ true ↦ d | false ↦ asked ]) (either (clerk.is_settled (Op n) d.clerk) d asked e (asks (Op n) (clerk.keep_push n d) e))

  answers_recalls : (d : Doing) → IsKept d → IsKept (clerk.answer_recalls d)
  answers_recalls d e = recalls d.clerk.recalls (clerk.with_clerk (λ k. record k { recalls = [] }) d) e

  asks_pushes : (d : Doing) → IsKept d → IsKept (clerk.ask_pushes d)
  asks_pushes d e = pushes d.clerk.pushes (clerk.with_clerk (λ k. record k { pushes = [] }) d) e

  -- Waiting calls.

  wants : (x : ℕ) (h : Hold) (d : Doing) → IsKept d → IsKept (clerk.want x h d)
  wants x h d e = either (clerk.may_want x h d.clerk && not (list_any (clerk.is_wanted (clerk.wanted x h d.clerk)) d.clerk.wanted)) (clerk.send_want x h d) d e e

  asks_anew : (d : Doing) → IsKept d → IsKept (clerk.ask_anew d)
  asks_anew d e =
      let sent = clerk.send_room (d.clerk.asks + 1) (clerk.with_clerk (λ k. record k { asking = Some (k.asks + 1); asks = k.asks + 1 }) d) in
      either (nat_le last_counter d.clerk.asks) (clerk.spend counter.Ask d) sent (spends counter.Ask d e) e

  asks_room : (d : Doing) → IsKept d → IsKept (clerk.ask_room d)
  asks_room d e = either (clerk.has_session d.clerk && is_none d.clerk.asking) (clerk.ask_anew d) d (asks_anew d e) e

  awaits : (w : Waiting) (o : Outcome) (a : Option Asked) (d : Doing) → IsKept d → spent_of (clerk.await w o a d) ≡ Some c
  awaits w o None d e = e
  awaits w o (Some a) d e = either_tried (clerk.is_owing w.begun (logs.first a d.clerk.log)) (Waits (clerk.ask_for a d)) (clerk.answer_with w (answer.Reply o.reply) None o.touched d) (asks a d e) e

  issues : (w : Waiting) (o : Outcome) (u : Update) (d : Doing) → IsKept d → spent_of (clerk.issue w o u d) ≡ Some c
  issues w o u d e =
      either_tried (logs.ops_are_spent d.clerk.log) (Waits (clerk.spend counter.Op d)) (clerk.answer_with w (answer.Reply o.reply) (Some d.clerk.log.next) o.touched (clerk.with_clerk (clerk.with_update u) d)) (spends counter.Op d e) e

  issues_if_room : (w : Waiting) (o : Outcome) (u : Update) (d : Doing) → IsKept d → spent_of (clerk.issue_if_room w o u d) ≡ Some c
  issues_if_room w o u d e =
      let full = elim (logs.is_full d.clerk.log) as (λ z. Tried) [ true ↦ Waits (clerk.ask_for All d) | false ↦ clerk.issue w o u d ] in
      either_tried (clerk.suits u d.clerk.cache) full (Waits d) (either_tried (logs.is_full d.clerk.log) (Waits (clerk.ask_for All d)) (clerk.issue w o u d) (asks All d e) (issues w o u d e)) e

  settles_outcome : (w : Waiting) (o : Outcome) (u : Option Update) (d : Doing) → IsKept d → spent_of (clerk.settle_outcome w o u d) ≡ Some c
  settles_outcome w o None d e = awaits w o (clerk.awaited w.call o) d e
  settles_outcome w o (Some u) d e = issues_if_room w o u d e

  tries_verdict : (w : Waiting) (v : Verdict) (d : Doing) → IsKept d → spent_of (clerk.try_verdict w v d) ≡ Some c
  tries_verdict w (Need x h) d e = wants x h d e
  tries_verdict w (Lost ns xs) d e = e
  tries_verdict w (NeedIds xs) d e = asks_room d e
  tries_verdict w (Done o) d e = settles_outcome w o o.update d e

  tries_each : (before ws : List Waiting) (d : Doing) → IsKept d → spent_of (clerk.try_each before ws d) ≡ Some c
  tries_each before [] d e = e
  tries_each before (w ∷ ws) d e = go (clerk.try w d) (tries_verdict w (clerk.verdict w.call d.clerk) d e) (tries_each (before ++ w ∷ []) ws)
    where
      go : (t : Tried) → spent_of t ≡ Some c → ((x : Doing) → IsKept x → spent_of (clerk.try_each (before ++ w ∷ []) ws x) ≡ Some c)
          → spent_of (elim t as (λ z. Tried) [ Waits x ↦ clerk.try_each (before ++ w ∷ []) ws x | Answered x ↦ Answered (clerk.with_clerk (λ k. record k { waiting = before ++ ws }) x) ]) ≡ Some c
      go (Waits x) p r = r x p
      go (Answered x) p r = p

  tries_rounds : (n : ℕ) (d : Doing) → IsKept d → IsKept (clerk.try_rounds n d)
  tries_rounds zero d e = e
  tries_rounds (suc n) d e = go (clerk.try_each [] d.clerk.waiting d) (tries_each [] d.clerk.waiting d e) (tries_rounds n)
    where
      go : (t : Tried) → spent_of t ≡ Some c → ((x : Doing) → IsKept x → IsKept (clerk.try_rounds n x)) → IsKept (elim t as (λ z. Doing) [ Waits x ↦ x | Answered x ↦ clerk.try_rounds n x ])
      go (Waits x) p r = p
      go (Answered x) p r = r x p

  -- What goes back, and the whole end of a step.

  sends_back : (es : List (ℕ × Held)) (d : Doing) → IsKept d → IsKept (clerk.send_backs es d)
  sends_back [] d e = e
  sends_back (x ∷ es) d e = sends_back es (clerk.send_backs (x ∷ []) d) e

  evicts : (d : Doing) → IsKept d → IsKept (clerk.evict d)
  evicts d e =
      let pinned = clerk.on_objects d.clerk.log.undurable in
      either (nat_le (length d.clerk.cache.held) d.clerk.cache.capacity) d (clerk.evict_unpinned pinned d) e (sends_back (cached.evicted pinned d.clerk.cache) (clerk.with_cache (cached.evict pinned) d) e)

  pub settles : (d : Doing) → d.spent ≡ Some c → (clerk.settle d).spent ≡ Some c
  settles d e =
      let served = clerk.ask_pushes (clerk.answer_recalls d) in
      let begun = elim (clerk.has_session d.clerk) as (λ z. Doing) [ true ↦ served | false ↦ d ] in
      evicts (clerk.try_all begun) (tries_rounds (suc (length begun.clerk.waiting)) begun (either (clerk.has_session d.clerk) served d (asks_pushes (clerk.answer_recalls d) (answers_recalls d e)) e))
