-- Whole steps of a clerk whose batches are what a line asks for.
use Rattle.std.proofs.Common.{◌≡◌, sym, ap, ◌∙◌, subst, ℕ, Bool, true, false, [], ◌∷◌, ◌⊎◌, inl, inr}
use Rattle.std.specs.Prelude.{Some}
use Rattle.ec_volume.specs.Volume.{Images}
use Rattle.ec_volume.specs.declared.update.Update.{Update}
use Rattle.ec_plain.specs.declared.call.Outcome.{Outcome}
use Rattle.ec_log.specs.Log as log
use Rattle.ec_log.specs.declared.state.Asked.{Asked}
use Rattle.ec_log.specs.declared.state.Asked.TheVariants.{Object, Op}
use Rattle.ec_log.specs.declared.state.LogState.{LogState}
use Rattle.ec_cache.specs.declared.resolve.verdict.Verdict.TheVariants.{Done}
use Rattle.ec_protocol.specs.Clerk.{Doing, ask_for, evict, give_back, has_session, is_ready, is_settled, keep_push, keep_recall, settle, suits, try, verdict}
use Rattle.ec_protocol.specs.declared.clerk.Recalled.{Recalled}
use Rattle.ec_protocol.specs.declared.clerk.Waiting.{Waiting}
use Rattle.ec_quiet.specs.Works.{Calls, Work, asked}
use Rattle.ec_quiet.specs.Tries.{left_by, push_tried, recall_tried, without_pushes, without_recalls}
use Rattle.ec_quiet.proofs.Steps.{prepared, push-alone, recall-alone, tries-none, tries-one}
use Rattle.ec_quiet.specs.OfDeliveries.PhasesBehind.{AsksOf, BatchesAreAsked}
use Rattle.ec_quiet.proofs.OfDeliveries.ForWriteBehind.Picked.{asked-fine, none-fine}
use Rattle.ec_quiet.proofs.OfDeliveries.ForWriteBehind.Tried.{Picks, Stays, evict-log, tried}

module _ (v : Images) (j : Work) (c : ℕ) (d : Doing) where
  abbrev Fine : LogState → Type 0
  Fine l = BatchesAreAsked v j c l

  -- behind what the step did, tokens go back
  settled : (e : Doing) → settle d ≡ evict e → Fine e.clerk.log → Fine (settle d).clerk.log
  settled e s f = subst Fine (sym (ap (λ z. z.clerk.log) s ∙ evict-log e)) f

  -- Nothing waits.
  pub nothing-steps : d.clerk.recalls ≡ [] → d.clerk.pushes ≡ [] → d.clerk.waiting ≡ [] → Fine d.clerk.log → Fine (settle d).clerk.log
  nothing-steps r p w f = settled d (prepared d r p ∙ ap evict (tries-none d w)) f

  -- One call waits, and no batch is under way.
  module _ (w : Waiting) (r : d.clerk.recalls ≡ []) (p : d.clerk.pushes ≡ []) (waits : d.clerk.waiting ≡ w ∷ []) (none : d.clerk.log.batches ≡ [])
      (room : (o : Outcome) (u : Update) → verdict w.call d.clerk ≡ Done o → o.update ≡ Some u → suits u d.clerk.cache ≡ true → log.is_full d.clerk.log ≡ false) where
    pub call-picks : ((a : Asked) → asked (Calls w.call) d.clerk ≡ Some a → Fine (ask_for a d).clerk.log) → Fine (settle d).clerk.log
    call-picks picked = settled (left_by (try w d)) (prepared d r p ∙ ap evict (tries-one d w waits)) (go (tried w d room))
      where
        go : Stays w d room (try w d) ⊎ Picks w d room (try w d) → Fine (left_by (try w d)).clerk.log
        go (inl same) = none-fine v j c (left_by (try w d)).clerk.log (same ∙ none)
        go (inr (a, is, same)) = subst Fine (sym same) (picked a is)

    pub call-steps : ((a : Asked) → asked (Calls w.call) d.clerk ≡ Some a → AsksOf v j c a) → Fine (settle d).clerk.log
    call-steps asks = call-picks (λ a is. asked-fine v j c a (asks a is) d (none-fine v j c d.clerk.log none))

  -- A recall alone, or a push alone.
  module _ (session : has_session d.clerk ≡ true) (waits : d.clerk.waiting ≡ []) where
    pub recall-steps : (r : Recalled) → d.clerk.recalls ≡ r ∷ [] → d.clerk.pushes ≡ [] → AsksOf v j c (Object r.obj) → Fine d.clerk.log → Fine (settle d).clerk.log
    recall-steps r e p asks f = settled (recall_tried r (without_recalls d)) (recall-alone d session waits r e p) (go (is_ready r (without_recalls d).clerk))
      where
        go : (z : Bool) → Fine (elim z as (λ z. Doing) [ true ↦ give_back r (without_recalls d) | false ↦ keep_recall r (ask_for (Object r.obj) (without_recalls d)) ]).clerk.log
        go true = f
        go false = asked-fine v j c (Object r.obj) asks (without_recalls d) f

    pub push-steps : (n : ℕ) → d.clerk.recalls ≡ [] → d.clerk.pushes ≡ n ∷ [] → AsksOf v j c (Op n) → Fine d.clerk.log → Fine (settle d).clerk.log
    push-steps n r e asks f = settled (push_tried n (without_pushes d)) (push-alone d session waits n r e) (go (is_settled (Op n) (without_pushes d).clerk))
      where
        go : (z : Bool) → Fine (elim z as (λ z. Doing) [ true ↦ without_pushes d | false ↦ ask_for (Op n) (keep_push n (without_pushes d)) ]).clerk.log
        go true = f
        go false = asked-fine v j c (Op n) asks (keep_push n (without_pushes d)) f
