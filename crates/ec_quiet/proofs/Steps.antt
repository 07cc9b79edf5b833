-- A step with one waiting call.
use Rattle.std.proofs.Common.{◌≡◌, refl, sym, ap, ◌∙◌, arith, ◌≤◌, ℕ, Bool, true, false, List, [], ◌∷◌, length, suc}
use Rattle.std.specs.Prelude.{nat_le}
use Rattle.ec_base.specs.declared.counter.Counter.TheVariants as counter
use Rattle.ec_log.specs.Log as log
use Rattle.ec_log.specs.declared.state.Asked.TheVariants.{Object, Op}
use Rattle.ec_log.specs.declared.state.Pick.{Pick}
use Rattle.ec_log.specs.declared.state.Pick.TheVariants as pick_of
use Rattle.ec_protocol.specs.Clerk as clerk
use Rattle.ec_protocol.specs.Clerk.{ask_for, give_back, is_ready, is_settled, keep_push, keep_recall, send_picked, Doing, Tried, Waits, Answered, answer_recalls, ask_pushes, evict, evict_unpinned, has_session, on_objects, settle, try, try_all, try_each, try_pushes, try_recalls, try_rounds, with_clerk}
use Rattle.ec_protocol.specs.declared.clerk.Recalled.{Recalled}
use Rattle.ec_protocol.specs.declared.clerk.Waiting.{Waiting}
use Rattle.ec_quiet.specs.Tries.{batch_sent, left_by, push_tried, recall_tried, without_pushes, without_recalls}

-- with nothing recalled and nothing pushed

with-recalls : List Recalled → Doing → Doing
with-recalls rs d = with_clerk (λ k. record k { recalls = rs }) d

module _ (d : Doing) where
  unrecalled : d.clerk.recalls ≡ [] → answer_recalls d ≡ d
  unrecalled e = ap (λ rs. try_recalls rs (with_clerk (λ k. record k { recalls = [] }) d)) e ∙ ap (λ rs. with_clerk (λ k. record k { recalls = rs }) d) (sym e)

  unpushed : d.clerk.pushes ≡ [] → ask_pushes d ≡ d
  unpushed e = ap (λ ns. try_pushes ns (with_clerk (λ k. record k { pushes = [] }) d)) e ∙ ap (λ ns. with_clerk (λ k. record k { pushes = ns }) d) (sym e)

  pub prepared : d.clerk.recalls ≡ [] → d.clerk.pushes ≡ [] → settle d ≡ evict (try_all d)
  prepared r p = ap (λ e. evict (try_all e)) (go (has_session d.clerk))
    where
      go : (b : Bool) → elim b as (λ b. Doing) [ true ↦ ask_pushes (answer_recalls d) | false ↦ d ] ≡ d
      go true = ap ask_pushes (unrecalled r) ∙ unpushed p
      go false = refl

  pub tries-none : d.clerk.waiting ≡ [] → try_all d ≡ d
  tries-none e = ap (λ ws. try_rounds (suc (length ws)) d) e ∙ ap (λ ws. elim (try_each [] ws d) [ Waits f ↦ f | Answered f ↦ try_rounds 0 f ]) e

  pub tries-one : (w : Waiting) → d.clerk.waiting ≡ w ∷ [] → try_all d ≡ left_by (try w d)
  tries-one w e = ap (λ ws. try_rounds (suc (length ws)) d) e ∙ ap (λ ws. elim (try_each [] ws d) [ Waits f ↦ f | Answered f ↦ try_rounds 1 f ]) e ∙ go (try w d)
    where
      go : (t : Tried) → elim (elim t as (λ z. Tried) [ Waits f ↦ try_each (w ∷ []) [] f | Answered f ↦ Answered (with_clerk (λ k. record k { waiting = [] }) f) ]) as (λ z. Doing) [ Waits f ↦ f | Answered f ↦ try_rounds 1 f ] ≡ left_by t
      go (Waits f) = refl
      go (Answered f) = refl

  pub few-stay : length d.clerk.cache.held ≤ d.clerk.cache.capacity → evict d ≡ d
  few-stay l = go (nat_le (length d.clerk.cache.held) d.clerk.cache.capacity) (grind (arith, l))
    where
      go : (b : Bool) → b ≡ true → elim b as (λ b. Doing) [ true ↦ d | false ↦ evict_unpinned (on_objects d.clerk.log.undurable) d ] ≡ d
      go true e = refl
      go false e = absurd (grind (arith, e))

-- with one recall, or one push

-- a pick that is sent changes neither the waiting calls nor the pushes
module _ (e : Doing) where
  picked-waits : (p : Pick) → (send_picked p e).clerk.waiting ≡ e.clerk.waiting
  picked-waits pick_of.Settled = refl
  picked-waits (pick_of.Behind b) = refl
  picked-waits (pick_of.Window b) = refl
  picked-waits (pick_of.Batch b ns) = spent (log.batches_are_spent e.clerk.log)
    where
      spent : (z : Bool) → (elim z as (λ z. Doing) [ true ↦ clerk.spend counter.Batch e | false ↦ batch_sent b ns e ]).clerk.waiting ≡ e.clerk.waiting
      spent true = refl
      spent false = refl

  picked-pushes : (p : Pick) → (send_picked p e).clerk.pushes ≡ e.clerk.pushes
  picked-pushes pick_of.Settled = refl
  picked-pushes (pick_of.Behind b) = refl
  picked-pushes (pick_of.Window b) = refl
  picked-pushes (pick_of.Batch b ns) = spent (log.batches_are_spent e.clerk.log)
    where
      spent : (z : Bool) → (elim z as (λ z. Doing) [ true ↦ clerk.spend counter.Batch e | false ↦ batch_sent b ns e ]).clerk.pushes ≡ e.clerk.pushes
      spent true = refl
      spent false = refl

  recall-waits : (r : Recalled) → (recall_tried r e).clerk.waiting ≡ e.clerk.waiting
  recall-waits r = go (is_ready r e.clerk)
    where
      go : (z : Bool) → (elim z as (λ z. Doing) [ true ↦ give_back r e | false ↦ keep_recall r (ask_for (Object r.obj) e) ]).clerk.waiting ≡ e.clerk.waiting
      go true = refl
      go false = picked-waits (log.pick (Object r.obj) e.clerk.log)

  recall-pushes : (r : Recalled) → (recall_tried r e).clerk.pushes ≡ e.clerk.pushes
  recall-pushes r = go (is_ready r e.clerk)
    where
      go : (z : Bool) → (elim z as (λ z. Doing) [ true ↦ give_back r e | false ↦ keep_recall r (ask_for (Object r.obj) e) ]).clerk.pushes ≡ e.clerk.pushes
      go true = refl
      go false = picked-pushes (log.pick (Object r.obj) e.clerk.log)

push-waits : (e : Doing) (n : ℕ) → (push_tried n e).clerk.waiting ≡ e.clerk.waiting
push-waits e n = go (is_settled (Op n) e.clerk)
  where
    go : (z : Bool) → (elim z as (λ z. Doing) [ true ↦ e | false ↦ ask_for (Op n) (keep_push n e) ]).clerk.waiting ≡ e.clerk.waiting
    go true = refl
    go false = picked-waits (keep_push n e) (log.pick (Op n) e.clerk.log)

module _ (d : Doing) (session : has_session d.clerk ≡ true) (waiting : d.clerk.waiting ≡ []) where
  inside : settle d ≡ evict (try_all (ask_pushes (answer_recalls d)))
  inside = ap (λ b. evict (try_all (elim b as (λ z. Doing) [ true ↦ ask_pushes (answer_recalls d) | false ↦ d ]))) session

  pub recall-alone : (r : Recalled) → d.clerk.recalls ≡ r ∷ [] → d.clerk.pushes ≡ [] → settle d ≡ evict (recall_tried r (without_recalls d))
  recall-alone r e p =
      let f : Doing = recall_tried r (without_recalls d) in
      let answered : answer_recalls d ≡ f = ap (λ rs. try_recalls rs (without_recalls d)) e in
      inside ∙ ap (λ g. evict (try_all (ask_pushes g))) answered ∙ ap (λ g. evict (try_all g)) (unpushed f (recall-pushes (without_recalls d) r ∙ p)) ∙ ap evict (tries-none f (recall-waits (without_recalls d) r ∙ waiting))

  pub push-alone : (n : ℕ) → d.clerk.recalls ≡ [] → d.clerk.pushes ≡ n ∷ [] → settle d ≡ evict (push_tried n (without_pushes d))
  push-alone n e p =
      let f : Doing = push_tried n (without_pushes d) in
      let asked : ask_pushes d ≡ f = ap (λ ns. try_pushes ns (without_pushes d)) p in
      inside ∙ ap (λ g. evict (try_all (ask_pushes g))) (unrecalled d e) ∙ ap (λ g. evict (try_all g)) asked ∙ ap evict (tries-none f (push-waits (without_pushes d) n ∙ waiting))
