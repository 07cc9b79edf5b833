-- A call that is tried waits on or is answered: the step stands behind it, with what lines show.
use Rattle.std.proofs.Common.{◌≡◌, refl, sym, ap, subst, ◌∙◌, inl, inr, ◌⊎◌, ℕ, Bool, true, false, not, T, List, [], ◌∷◌, ◌++◌, Option, Some, None}
use Rattle.std.specs.Prelude.{is_some, ⊤}
use Rattle.ec_base.specs.declared.counter.Counter.TheVariants as counter
use Rattle.ec_volume.specs.declared.update.Update.{Update}
use Rattle.ec_plain.specs.declared.call.Outcome.{Outcome}
use Rattle.ec_history.specs.History.{Each}
use Rattle.ec_history.specs.declared.entry.Answer.{Answer}
use Rattle.ec_history.specs.declared.entry.Answer.TheVariants as answer
use Rattle.ec_log.specs.Log.{first, is_full, ops_are_spent}
use Rattle.ec_log.specs.declared.state.Asked.{Asked}
use Rattle.ec_log.specs.declared.state.Asked.TheVariants.{All}
use Rattle.ec_cache.specs.declared.resolve.verdict.Verdict.{Verdict}
use Rattle.ec_cache.specs.declared.resolve.verdict.Verdict.TheVariants.{Need, Lost, NeedIds, Done}
use Rattle.ec_protocol.specs.Clerk.{Doing, Tried, Waits, Answered, answer_with, ask_for, await, awaited, is_owing, issue_if_room, settle_outcome, spend, suits, try, try_verdict, verdict, with_clerk, with_update}
use Rattle.ec_protocol.specs.declared.clerk.Clerk.{Clerk}
use Rattle.ec_protocol.specs.declared.clerk.Out.TheVariants as out
use Rattle.ec_protocol.specs.declared.clerk.Waiting.{Waiting}
use Rattle.ec_coherence.specs.System.{System, Ghost}
use Rattle.ec_coherence.specs.Steps.{doing_in}
use Rattle.ec_coherence.proofs.ForServer.Tables.{same_some}
use Rattle.ec_lawful.specs.OfClerkSteps.CallLaws.{is_answer}
use Rattle.ec_lawful.specs.OfClerkSteps.Waits.{HasLine, does_wait}
use Rattle.ec_lawful.proofs.OfClerkSteps.ForCalls.Still.{tries-answer}
use Rattle.ec_coherence.specs.Answers.{Gives}
use Rattle.ec_lawful.specs.OfClerkSteps.Answering.{Suits, answered_clerk, done_clerk}
use Rattle.ec_lawful.specs.OfClerkSteps.AnswerLaws.{IsTried}
use Rattle.ec_lawful.specs.OfClerkSteps.Trying.{IsTrying}
use Rattle.ec_lawful.proofs.OfClerkSteps.Single as single
use Rattle.ec_lawful.proofs.OfClerkSteps.Singles.{tries-on}
use Rattle.ec_lawful.specs.OfClerkSteps.Moves.{IsStill}
use Rattle.ec_lawful.proofs.OfClerkSteps.ForNames.Stilling.{are-still}
use Rattle.ec_lawful.specs.Whole.{ShowsAll}
use Rattle.ec_lawful.proofs.ForBegins.Carrying.{same-shows}
use Rattle.ec_lawful.proofs.Answering.{Comes, all-in, comes-so}

-- A call that waits on leaves the clerk's session and its ids.

module _ (w : Waiting) (d : Doing) where
  abbrev Stays : Tried → Type 0
  Stays (Waits e) = IsStill d.clerk e.clerk
  Stays (Answered e) = ⊤

  still-await : (o : Outcome) (a : Option Asked) → Stays (await w o a d)
  still-await o None = tt
  still-await o (Some a) = go (is_owing w.begun (first a d.clerk.log))
    where
      go : (z : Bool) → Stays (elim z as (λ y. Tried) [ true ↦ Waits (ask_for a d) | false ↦ answer_with w (answer.Reply o.reply) None o.touched d ])
      go true = are-still.ask_for a d
      go false = tt

  still-issue : (o : Outcome) (u : Update) → Stays (issue_if_room w o u d)
  still-issue o u = go (suits u d.clerk.cache) (is_full d.clerk.log) (ops_are_spent d.clerk.log)
    where
      go : (x y z : Bool) → Stays (elim x as (λ a. Tried) [
        | false ↦ Waits d
        | true ↦ elim y as (λ a. Tried) [
          | true ↦ Waits (ask_for All d)
          | false ↦ elim z as (λ a. Tried) [
            | true ↦ Waits (spend counter.Op d)
            | false ↦ answer_with w (answer.Reply o.reply) (Some d.clerk.log.next) o.touched (with_clerk (with_update u) d)
          ]
        ]
      ])
      go false y z = (refl, refl, refl)
      go true true z = are-still.ask_for All d
      go true false true = (refl, refl, refl)
      go true false false = tt

  still-outcome : (o : Outcome) (u : Option Update) → Stays (settle_outcome w o u d)
  still-outcome o None = still-await o (awaited w.call o)
  still-outcome o (Some u) = still-issue o u

  still-verdict : (v : Verdict) → Stays (try_verdict w v d)
  still-verdict (Need x h) = are-still.want x h d
  still-verdict (NeedIds xs) = are-still.ask_room d
  still-verdict (Lost ns xs) = tt
  still-verdict (Done o) = still-outcome o o.update

-- The step behind a try.

module _ (g : System) (c b : ℕ) (d : Doing) (γ : Ghost) (t : IsTrying g c b d γ) (s : ShowsAll (doing_in c b d γ g)) (before rest : List Waiting) (w : Waiting) (split : d.clerk.waiting ≡ before ++ w ∷ rest) where
  abbrev left : Clerk
  left = record (d.clerk) { waiting = before ++ rest }

  -- without the call that was answered
  abbrev pub leaves : Doing → Doing
  leaves e = with_clerk (λ k. record k { waiting = before ++ rest }) e

  abbrev pub ShownTried : Tried → Type 0
  ShownTried (Waits e) = T (is_some e.spent) ⊎ (IsTrying g c b e γ × ShowsAll (doing_in c b e γ g))
  ShownTried (Answered e) = (δ : Ghost) × IsTrying g c b (leaves e) δ × ShowsAll (doing_in c b (leaves e) δ g) × Each (HasLine (doing_in c b (leaves e) δ g) c) (before ++ rest)

  abbrev Leaves : Tried → Type 0
  Leaves (Waits e) = ⊤
  Leaves (Answered e) = ShownTried (Answered e)

  module _ (n : does_wait w d.clerk ≡ false) where
    comes : (v : Verdict) → verdict w.call d.clerk ≡ v → (a : Answer) (op : Option ℕ) → Gives g.durable.max_objects left v a op (answered_clerk v left).owed → Suits v left → Comes g c b d w a op (answered_clerk v left)
    comes v q a op gives suit =
        subst (λ z. Comes g c b d w a op (answered_clerk z left)) q
        (comes-so g c b d γ t s before rest w split a op (subst (λ z. Gives g.durable.max_objects left z a op (answered_clerk z left).owed) (sym q) gives) (subst (λ z. Suits z left) (sym q) suit)
        (single.lines-left g c b d γ t before rest w split n) (λ o e. n))

    by-done : (o : Outcome) → verdict w.call d.clerk ≡ Done o → (u : Option Update) → o.update ≡ u → (op : Option ℕ) → op ≡ elim u as (λ z. Option ℕ) [ None ↦ None | Some y ↦ Some d.clerk.log.next ] → ((y : Update) → u ≡ Some y → T (suits y d.clerk.cache))
        → (done_clerk o u left).owed ≡ d.clerk.owed → Comes g c b d w (answer.Reply o.reply) op (done_clerk o u left)
    by-done o q u p op r suit kept =
        subst (λ z. Comes g c b d w (answer.Reply o.reply) op (done_clerk o z left)) p
        (comes (Done o) q (answer.Reply o.reply) op (refl, r ∙ ap (λ z. elim z as (λ v. Option ℕ) [ None ↦ None | Some y ↦ Some d.clerk.log.next ]) (sym p), ap (λ z. (done_clerk o z left).owed) p ∙ kept) (λ y e. suit y (sym p ∙ e)))

    answered : (a : Answer) (op : Option ℕ) (k : Clerk) → Comes g c b d w a op (record k { waiting = before ++ rest }) → Leaves (Answered (record d { clerk = k; outs = d.outs ++ out.Answer w.no a op ∷ [] }))
    answered a op k come = (come.0, come.1, come.3, come.2)

  known : (x : Bool) → true ≡ not x → x ≡ false
  known false e = refl
  known true e = cc

  on-await : (o : Outcome) → verdict w.call d.clerk ≡ Done o → o.update ≡ None → (a : Option Asked) → (n : is_answer (await w o a d) ≡ true → does_wait w d.clerk ≡ false) → Leaves (await w o a d)
  on-await o q p None n = answered (n refl) (answer.Reply o.reply) None (done_clerk o None d.clerk) (by-done (n refl) o q None p None refl (λ y e. cc) refl)
  on-await o q p (Some a) n = go (is_owing w.begun (first a d.clerk.log)) n
    where
      go : (z : Bool) → let r = elim z as (λ y. Tried) [ true ↦ Waits (ask_for a d) | false ↦ answer_with w (answer.Reply o.reply) None o.touched d ] in (is_answer r ≡ true → does_wait w d.clerk ≡ false) → Leaves r
      go true n = tt
      go false n = answered (n refl) (answer.Reply o.reply) None (done_clerk o None d.clerk) (by-done (n refl) o q None p None refl (λ y e. cc) refl)

  on-issue : (o : Outcome) → verdict w.call d.clerk ≡ Done o → (u : Update) → o.update ≡ Some u → (is_answer (issue_if_room w o u d) ≡ true → does_wait w d.clerk ≡ false) → Leaves (issue_if_room w o u d)
  on-issue o q u p n = go (suits u d.clerk.cache) refl (is_full d.clerk.log) (ops_are_spent d.clerk.log) n
    where
      go : (x : Bool) → suits u d.clerk.cache ≡ x → (y z : Bool) → let r = elim x as (λ a. Tried) [
        | false ↦ Waits d
        | true ↦ elim y as (λ a. Tried) [
          | true ↦ Waits (ask_for All d)
          | false ↦ elim z as (λ a. Tried) [
            | true ↦ Waits (spend counter.Op d)
            | false ↦ answer_with w (answer.Reply o.reply) (Some d.clerk.log.next) o.touched (with_clerk (with_update u) d)
          ]
        ]
      ] in (is_answer r ≡ true → does_wait w d.clerk ≡ false) → Leaves r
      go false f y z n = tt
      go true f true z n = tt
      go true f false true n = tt
      go true f false false n = answered (n refl) (answer.Reply o.reply) (Some d.clerk.log.next) (done_clerk o (Some u) d.clerk)
          (by-done (n refl) o q (Some u) p (Some d.clerk.log.next) refl (λ y e. subst (λ z. T (suits z d.clerk.cache)) (same_some e) (subst T (sym f) tt)) refl)

  on-outcome : (o : Outcome) → verdict w.call d.clerk ≡ Done o → (u : Option Update) → o.update ≡ u → (is_answer (settle_outcome w o u d) ≡ true → does_wait w d.clerk ≡ false) → Leaves (settle_outcome w o u d)
  on-outcome o q None p n = on-await o q p (awaited w.call o) n
  on-outcome o q (Some u) p n = on-issue o q u p n

  on-verdict : (v : Verdict) → verdict w.call d.clerk ≡ v → (is_answer (try_verdict w v d) ≡ true → does_wait w d.clerk ≡ false) → Leaves (try_verdict w v d)
  on-verdict (Need x h) q n = tt
  on-verdict (NeedIds xs) q n = tt
  on-verdict (Lost ns xs) q n = answered (n refl) (answer.Lost ns) None (answered_clerk (Lost ns xs) d.clerk) (comes (n refl) (Lost ns xs) q (answer.Lost ns) None (refl, refl, refl) tt)
  on-verdict (Done o) q n = on-outcome o q o.update refl n

  pub tried : ShownTried (try w d)
  tried = go (try w d) (tries-on g c b d γ t before rest w split) (still-verdict w d (verdict w.call d.clerk)) (on-verdict (verdict w.call d.clerk) refl (λ e. known (does_wait w d.clerk) (sym e ∙ (tries-answer w d).0)))
    where
      go : (r : Tried) → IsTried g c b d γ before w rest r → Stays w d r → Leaves r → ShownTried r
      go (Waits e) x i f = elim x [ inl y ↦ inl y | inr y ↦ inr (y.0, same-shows g c b d e γ t (all-in g c b e γ y.0) i s) ]
      go (Answered e) x i f = f
