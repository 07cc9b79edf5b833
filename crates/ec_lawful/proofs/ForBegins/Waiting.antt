-- A waiting call is tried and waits on: all facts stand, with the same ghosts.
use Rattle.std.proofs.Common.{◌≡◌, refl, sym, ap, subst, inl, inr, ◌⊎◌, ℕ, Bool, true, false, not, ◌&&◌, T, List}
use Rattle.std.specs.Prelude.{Option, None, Some, filter, is_none, is_some}
use Rattle.std.specs.List.{list_any}
use Rattle.ec_base.specs.Holds.{is_below}
use Rattle.ec_base.specs.Tables.{keys}
use Rattle.ec_base.specs.declared.counter.Counter.{Counter}
use Rattle.ec_base.specs.declared.counter.Counter.TheVariants as counter
use Rattle.ec_base.specs.declared.ids.Hold.{Hold}
use Rattle.ec_volume.specs.Update.{member}
use Rattle.ec_volume.specs.declared.update.Update.{Update}
use Rattle.ec_plain.specs.declared.call.Outcome.{Outcome}
use Rattle.ec_history.specs.History.{Each}
use Rattle.ec_history.specs.declared.entry.Answer.TheVariants as answer
use Rattle.ec_order.specs.Order.{closure}
use Rattle.ec_wire.specs.Messages.{is_held_mode}
use Rattle.ec_cache.specs.Cache.{mode}
use Rattle.ec_log.specs.Log as log
use Rattle.ec_log.specs.declared.state.Asked.{Asked}
use Rattle.ec_log.specs.declared.state.Asked.TheVariants as asked
use Rattle.ec_log.specs.declared.state.Pick.TheVariants as pick_of
use Rattle.ec_cache.specs.declared.resolve.verdict.Verdict.{Verdict}
use Rattle.ec_cache.specs.declared.resolve.verdict.Verdict.TheVariants.{Need, Lost, NeedIds, Done}
use Rattle.ec_protocol.specs.Server.{first_spent}
use Rattle.ec_protocol.specs.Clerk.{Doing, Tried, Waits, answer_with, ask_anew, ask_for, ask_room, await, awaited, is_owing, is_wanted, issue, need_of, send_picked, send_want, settle_outcome, spend, suits, try, try_verdict, under_recall, verdict, want, wanted, with_clerk, with_update}
use Rattle.ec_protocol.specs.declared.clerk.Waiting.{Waiting}
use Rattle.ec_coherence.specs.System.{System, Ghost}
use Rattle.ec_coherence.specs.Steps.{doing_in}
use Rattle.ec_coherence.specs.Tokens.{Names, view}
use Rattle.ec_lawful.specs.OfClerkSteps.CallLaws as calls
use Rattle.ec_lawful.proofs.OfClerkSteps.ForCalls.Still.{still-ask, still-room, still-want}
use Rattle.ec_lawful.proofs.OfClerkSteps.ForCalls.Turns.{still-turn}
use Rattle.ec_lawful.specs.OfClerkSteps.Frames.{IsCalm}
use Rattle.ec_lawful.proofs.OfClerkSteps.ForJoins.Calm.{are-calm}
use Rattle.ec_lawful.proofs.OfClerkSteps.ForJoins.Going.{calm-keeps}
use Rattle.ec_lawful.specs.OfClerkSteps.DoingLaws.{IsInHand}
use Rattle.ec_lawful.proofs.OfClerkSteps.ForDoings.Hand.{asks, rooms, wants}
use Rattle.ec_lawful.proofs.OfClerkSteps.ForDoings.Moving as moving
use Rattle.ec_lawful.proofs.OfClerkSteps.ForDoings.Naming.{needs-named}
use Rattle.ec_lawful.proofs.OfClerkSteps.ForDoings.Order.{ids-are-out}
use Rattle.ec_lawful.specs.OfClerkSteps.Moves.{IsStill}
use Rattle.ec_lawful.proofs.OfClerkSteps.ForNames.Stilling.{are-still}
use Rattle.ec_lawful.proofs.OfClerkSteps.ForDoings.FreesStored.{stills-keep}
use Rattle.ec_lawful.specs.OfClerkSteps.Trying.{IsTrying}
use Rattle.ec_lawful.specs.OfClerkSteps.ZeroLaws.{SameParts}
use Rattle.ec_lawful.proofs.OfClerkSteps.ForNames.Parts.{have-no-zero}
use Rattle.ec_lawful.specs.SettleLaws.{WaitsOn}
use Rattle.ec_lawful.proofs.ForBegins.Carrying.{goes-on, in-hand, no-zero}
use Rattle.ec_lawful.proofs.ForBegins.Readying.{nothing}

-- a counter is spent now
is-spent : (o : Option Counter) (n : Counter) → T (is_some (first_spent o n))
is-spent None n = tt
is-spent (Some m) n = tt

module _ (g : System) (c b : ℕ) (d : Doing) (γ : Ghost) (t : IsTrying g c b d γ) where
  abbrev On : Doing → Type 0
  On e = T (is_some e.spent) ⊎ (IsTrying g c b e γ × (e.clerk.waiting ≡ d.clerk.waiting))

  itself : On d
  itself = inr (t, refl)

  -- in a session, where the step is in hand behind it
  on : (s : ℕ) → d.clerk.session ≡ Some s → (e : Doing) → IsInHand g c b s e γ → calls.IsStill d e → SameParts d e → IsStill d.clerk e.clerk → IsCalm d e → On e
  on s session e hand still parts ids calm = inr (
    goes-on g c b s d e γ t hand still.quiet (have-no-zero.same d e parts (no-zero g c b d γ t)) (stills-keep g c b d γ t.frees e γ refl refl refl refl refl (inl ids)) (calm-keeps g c b d e γ calm t.cuts) (still-turn g c b d e γ still t.turn),
    (still.quiet).waiting,
  )

  -- an object is wanted
  wants-on : (w : Waiting) (x : ℕ) (h : Hold) → verdict w.call d.clerk ≡ Need x h → On (want x h d)
  wants-on w x h q = by d.clerk.session refl
    where
      by : (o : Option ℕ) → d.clerk.session ≡ o → On (want x h d)
      by None p = subst On (sym (ap (λ o. elim (may o) as (λ z. Doing) [ true ↦ send_want x h d | false ↦ d ]) p)) itself
        where
          may : Option ℕ → Bool
          may o = is_some o && not (under_recall x d.clerk) && is_below (mode x d.clerk.cache) h && not (list_any (is_wanted (wanted x h d.clerk)) d.clerk.wanted)
      by (Some s) p =
          let hand = in-hand g c b s d γ t p in
          let need : Each (λ q. T (is_held_mode q.1) × Names (view (doing_in c b d γ g)) q.0) (need_of (Need x h)) =
          subst (λ v. Each (λ q. T (is_held_mode q.1) × Names (view (doing_in c b d γ g)) q.0) (need_of v)) q
          (needs-named (doing_in c b d γ g) hand.names ((moving.all g c b s d γ hand.under_way).0).images s d.clerk (moving.there g c b s d γ hand.under_way) w.call) in
          on s p (want x h d) (wants g c b s d γ hand x h need.0.0 need.0.1) (still-want x h d).0 (have-no-zero.wants x h d) (are-still.want x h d) (are-calm.wants x h d)

  -- ids are asked for
  rooms-on : (w : Waiting) (xs : List ℕ) → verdict w.call d.clerk ≡ NeedIds xs → On (ask_room d)
  rooms-on w xs q = by d.clerk.session refl
    where
      by : (o : Option ℕ) → d.clerk.session ≡ o → On (ask_room d)
      by None p = subst On (sym (ap (λ o. elim (is_some o && is_none d.clerk.asking) as (λ z. Doing) [ true ↦ ask_anew d | false ↦ d ]) p)) itself
      by (Some s) p = on s p (ask_room d) (rooms g c b s d γ (in-hand g c b s d γ t p) (ids-are-out w.call d.clerk xs q)) (still-room d).0 (have-no-zero.rooms d) (are-still.ask_room d) (are-calm.rooms d)

  -- a closure is asked for: without a session there is none
  asks-on : (a : Asked) → On (ask_for a d)
  asks-on a = by d.clerk.session refl
    where
      by : (o : Option ℕ) → d.clerk.session ≡ o → On (ask_for a d)
      by None p =
          let settled : log.pick a d.clerk.log ≡ pick_of.Settled = ap (λ us. log.pick_from (closure (λ n. member n (keys (filter (log.is_asked a) us))) us) d.clerk.log) (nothing g c b d γ t p).undurable in
          subst On (sym (ap (λ q. send_picked q d) settled)) itself
      by (Some s) p = on s p (ask_for a d) (asks g c b s d γ (in-hand g c b s d γ t p) a) (still-ask a d).0 (have-no-zero.asks a d) (are-still.ask_for a d) (are-calm.asks a d)

  awaits-on : (w : Waiting) (o : Outcome) (a : Option Asked) → WaitsOn g c b d γ (await w o a d)
  awaits-on w o None = tt
  awaits-on w o (Some a) = go (is_owing w.begun (log.first a d.clerk.log))
    where
      go : (z : Bool) → WaitsOn g c b d γ (elim z as (λ y. Tried) [ true ↦ Waits (ask_for a d) | false ↦ answer_with w (answer.Reply o.reply) None o.touched d ])
      go true = asks-on a
      go false = tt

  issues-on : (w : Waiting) (o : Outcome) (u : Update) → WaitsOn g c b d γ (issue w o u d)
  issues-on w o u = go (log.ops_are_spent d.clerk.log)
    where
      go : (z : Bool) → WaitsOn g c b d γ (elim z as (λ y. Tried) [ true ↦ Waits (spend counter.Op d) | false ↦ answer_with w (answer.Reply o.reply) (Some d.clerk.log.next) o.touched (with_clerk (with_update u) d) ])
      go true = inl (is-spent d.spent counter.Op)
      go false = tt

  outcomes-on : (w : Waiting) (o : Outcome) (u : Option Update) → WaitsOn g c b d γ (settle_outcome w o u d)
  outcomes-on w o None = awaits-on w o (awaited w.call o)
  outcomes-on w o (Some u) = go (suits u d.clerk.cache) (log.is_full d.clerk.log)
    where
      go : (y z : Bool) → WaitsOn g c b d γ (elim y as (λ x. Tried) [ false ↦ Waits d | true ↦ elim z as (λ x. Tried) [ true ↦ Waits (ask_for asked.All d) | false ↦ issue w o u d ] ])
      go false z = itself
      go true true = asks-on asked.All
      go true false = issues-on w o u

  pub waits-stand : (w : Waiting) → WaitsOn g c b d γ (try w d)
  waits-stand w = go (verdict w.call d.clerk) refl
    where
      go : (v : Verdict) → verdict w.call d.clerk ≡ v → WaitsOn g c b d γ (try_verdict w v d)
      go (Need x h) q = wants-on w x h q
      go (NeedIds xs) q = rooms-on w xs q
      go (Lost ns xs) q = tt
      go (Done o) q = outcomes-on w o o.update
