-- Tries of calls, where the step stands behind each answer.
use Rattle.std.proofs.Common.{◌≡◌, refl, sym, ap, subst, ◌∙◌, inl, inr, ◌⊎◌, ℕ, Bool, true, false, not, T, List, [], ◌∷◌, ◌++◌, Option, Some, None}
use Rattle.std.specs.Prelude.{⊤}
use Rattle.ec_base.specs.declared.counter.Counter.TheVariants as counter
use Rattle.ec_volume.specs.declared.update.Update.{Update}
use Rattle.ec_plain.specs.declared.call.Outcome.{Outcome}
use Rattle.ec_history.specs.History.{Each}
use Rattle.ec_history.specs.declared.entry.Answer.{Answer}
use Rattle.ec_history.specs.declared.entry.Answer.TheVariants as answer
use Rattle.ec_log.specs.Log.{is_full, ops_are_spent, first}
use Rattle.ec_log.specs.declared.state.Asked.{Asked}
use Rattle.ec_log.specs.declared.state.Asked.TheVariants.{All}
use Rattle.ec_cache.specs.declared.resolve.verdict.Verdict.{Verdict}
use Rattle.ec_cache.specs.declared.resolve.verdict.Verdict.TheVariants.{Need, Lost, NeedIds, Done}
use Rattle.ec_protocol.specs.Clerk.{Doing, Tried, Waits, Answered, answer_with, ask_for, await, awaited, is_owing, issue_if_room, settle_outcome, spend, suits, try, try_all, try_verdict, verdict, with_clerk, with_update}
use Rattle.ec_protocol.specs.declared.clerk.Clerk.{Clerk}
use Rattle.ec_protocol.specs.declared.clerk.Out.TheVariants as out
use Rattle.ec_protocol.specs.declared.clerk.Waiting.{Waiting}
use Rattle.ec_coherence.specs.System.{System, Ghost}
use Rattle.ec_coherence.specs.Steps.{doing_in}
use Rattle.ec_coherence.proofs.ForClerk.Settling.{Keeping, all-keeps}
use Rattle.ec_coherence.proofs.ForServer.Tables.{same_some}
use Rattle.ec_coherence.proofs.ForClerk.Try.{OnTried}
use Rattle.ec_coherence.proofs.ForClerk.TriedList.{same-verdict}
use Rattle.ec_lawful.specs.OfClerkSteps.CallLaws.{Passes, is_answer}
use Rattle.ec_lawful.specs.OfClerkSteps.Waits.{HasLine, does_wait}
use Rattle.ec_lawful.proofs.OfClerkSteps.ForCalls.Still.{tries-answer}
use Rattle.ec_lawful.proofs.OfClerkSteps.ForDoings.Spent.{spent-stays, IsSpent, again}
use Rattle.ec_coherence.specs.Answers.{Gives, op_given}
use Rattle.ec_lawful.specs.OfClerkSteps.Answering.{Suits, answered_clerk, done_clerk}
use Rattle.ec_lawful.specs.OfClerkSteps.AnswerLaws.{AllTriesStand, IsTried, TriesStand}
use Rattle.ec_lawful.specs.OfClerkSteps.Trying.{AnswersWith, IsTrying}
use Rattle.ec_lawful.proofs.OfClerkSteps.Single as single
use Rattle.ec_lawful.proofs.OfClerkSteps.Stays.{StaysOn, stays-on}

-- The step, behind an answer that leaves the clerk so.
abbrev pub Comes : (g : System) (c b : ℕ) (d : Doing) (γ : Ghost) → ℕ → Waiting → Answer → Option ℕ → Clerk → Type 0
Comes g c b d γ l w a op now = (δ : Ghost) × AnswersWith g c b d γ l w.call a op δ × IsTrying g c b (record d { clerk = now; outs = d.outs ++ out.Answer w.no a op ∷ [] }) δ
    × Each (HasLine (doing_in c b (record d { clerk = now; outs = d.outs ++ out.Answer w.no a op ∷ [] }) δ g) c) now.waiting

-- Behind each answer that its verdict gives it stands.
abbrev pub SinglesStand : Type 0
SinglesStand = (g : System) (c b : ℕ) (d : Doing) (γ : Ghost) (t : IsTrying g c b d γ) (before rest : List Waiting) (w : Waiting) (split : d.clerk.waiting ≡ before ++ w ∷ rest) (a : Answer) (op : Option ℕ)
    → let left : Clerk = record (d.clerk) { waiting = before ++ rest } in Gives g.durable.max_objects left (verdict w.call left) a op (answered_clerk (verdict w.call left) left).owed → Suits (verdict w.call left) left
    → Each (HasLine (doing_in c b d γ g) c) (before ++ rest) → Passes d.clerk w → Comes g c b d γ (single.l g c b d γ t before rest w split) w a op (answered_clerk (verdict w.call left) left)

pub op-same : (c b p : ℕ) (k : Clerk) (ws : List Waiting) (v : Verdict) → op_given c b p (record k { waiting = ws }) v ≡ op_given c b p k v
op-same c b p k ws (Need x h) = refl
op-same c b p k ws (Lost ns xs) = refl
op-same c b p k ws (NeedIds xs) = refl
op-same c b p k ws (Done o) = refl

module _ (singles : SinglesStand) where
  module _ (g : System) (c b : ℕ) (d : Doing) (γ : Ghost) (t : IsTrying g c b d γ) (before rest : List Waiting) (w : Waiting) (split : d.clerk.waiting ≡ before ++ w ∷ rest) where
    abbrev left : Clerk
    left = record (d.clerk) { waiting = before ++ rest }

    abbrev l : ℕ
    l = single.l g c b d γ t before rest w split

    -- an answer that leaves the list
    abbrev Leaves : Tried → Type 0
    Leaves (Waits e) = ⊤
    Leaves (Answered e) = IsTried g c b d γ before w rest (Answered e)

    module _ (n : does_wait w d.clerk ≡ false) where
      comes : (v : Verdict) → verdict w.call d.clerk ≡ v → (a : Answer) (op : Option ℕ) → Gives g.durable.max_objects left v a op (answered_clerk v left).owed → Suits v left → Comes g c b d γ l w a op (answered_clerk v left)
      comes v q a op gives suit =
          subst (λ z. Comes g c b d γ l w a op (answered_clerk z left)) q
          (singles g c b d γ t before rest w split a op (subst (λ z. Gives g.durable.max_objects left z a op (answered_clerk z left).owed) (sym q) gives) (subst (λ z. Suits z left) (sym q) suit)
          (single.lines-left g c b d γ t before rest w split n) (λ o e. n))

      by-done : (o : Outcome) → verdict w.call d.clerk ≡ Done o → (u : Option Update) → o.update ≡ u → (op : Option ℕ) → op ≡ elim u as (λ z. Option ℕ) [ None ↦ None | Some y ↦ Some d.clerk.log.next ] → ((y : Update) → u ≡ Some y → T (suits y d.clerk.cache))
          → (done_clerk o u left).owed ≡ d.clerk.owed → Comes g c b d γ l w (answer.Reply o.reply) op (done_clerk o u left)
      by-done o q u p op r suit kept =
          subst (λ z. Comes g c b d γ l w (answer.Reply o.reply) op (done_clerk o z left)) p
          (comes (Done o) q (answer.Reply o.reply) op (refl, r ∙ ap (λ z. elim z as (λ v. Option ℕ) [ None ↦ None | Some y ↦ Some d.clerk.log.next ]) (sym p), ap (λ z. (done_clerk o z left).owed) p ∙ kept) (λ y e. suit y (sym p ∙ e)))

      answered : (a : Answer) (op : Option ℕ) (k : Clerk) → Comes g c b d γ l w a op (record k { waiting = before ++ rest }) → Leaves (Answered (record d { clerk = k; outs = d.outs ++ out.Answer w.no a op ∷ [] }))
      answered a op k come = (l, a, op, come.0, single.line g c b d γ t before rest w split, come.1, come.2, come.3)

    known : (x : Bool) → true ≡ not x → x ≡ false
    known false e = refl
    known true e = cc

    on-await : (o : Outcome) → verdict w.call d.clerk ≡ Done o → o.update ≡ None → (a : Option Asked) → (n : is_answer (await w o a d) ≡ true → does_wait w d.clerk ≡ false) → Leaves (await w o a d)
    on-await o q p None n = answered (n refl) (answer.Reply o.reply) None (done_clerk o None d.clerk) (by-done (n refl) o q None p None refl (λ y e. cc) refl)
    on-await o q p (Some a) n = go (is_owing w.begun (first a d.clerk.log)) n
      where
        go : (z : Bool) → let r = elim z as (λ y. Tried) [ true ↦ Waits (ask_for a d) | false ↦ answer_with w (answer.Reply o.reply) None o.touched d ] in (is_answer r ≡ true → does_wait w d.clerk ≡ false) → Leaves r
        go true n = tt
        go false n = answered (n refl) (answer.Reply o.reply) None (done_clerk o None d.clerk) (by-done (n refl) o q None p None refl (λ y e. cc) refl)

    on-issue : (o : Outcome) → verdict w.call d.clerk ≡ Done o → (u : Update) → o.update ≡ Some u → (is_answer (issue_if_room w o u d) ≡ true → does_wait w d.clerk ≡ false) → Leaves (issue_if_room w o u d)
    on-issue o q u p n = go (suits u d.clerk.cache) refl (is_full d.clerk.log) (ops_are_spent d.clerk.log) n
      where
        go : (x : Bool) → suits u d.clerk.cache ≡ x → (y z : Bool) → let r = elim x as (λ a. Tried) [
          | false ↦ Waits d
          | true ↦ elim y as (λ a. Tried) [
            | true ↦ Waits (ask_for All d)
            | false ↦ elim z as (λ a. Tried) [
              | true ↦ Waits (spend counter.Op d)
              | false ↦ answer_with w (answer.Reply o.reply) (Some d.clerk.log.next) o.touched (with_clerk (with_update u) d)
            ]
          ]
        ] in (is_answer r ≡ true → does_wait w d.clerk ≡ false) → Leaves r
        go false f y z n = tt
        go true f true z n = tt
        go true f false true n = tt
        go true f false false n = answered (n refl) (answer.Reply o.reply) (Some d.clerk.log.next) (done_clerk o (Some u) d.clerk)
            (by-done (n refl) o q (Some u) p (Some d.clerk.log.next) refl (λ y e. subst (λ z. T (suits z d.clerk.cache)) (same_some e) (subst T (sym f) tt)) refl)

    on-outcome : (o : Outcome) → verdict w.call d.clerk ≡ Done o → (u : Option Update) → o.update ≡ u → (is_answer (settle_outcome w o u d) ≡ true → does_wait w d.clerk ≡ false) → Leaves (settle_outcome w o u d)
    on-outcome o q None p n = on-await o q p (awaited w.call o) n
    on-outcome o q (Some u) p n = on-issue o q u p n

    on-verdict : (v : Verdict) → verdict w.call d.clerk ≡ v → (is_answer (try_verdict w v d) ≡ true → does_wait w d.clerk ≡ false) → Leaves (try_verdict w v d)
    on-verdict (Need x h) q n = tt
    on-verdict (NeedIds xs) q n = tt
    on-verdict (Lost ns xs) q n = answered (n refl) (answer.Lost ns) None (answered_clerk (Lost ns xs) d.clerk) (comes (n refl) (Lost ns xs) q (answer.Lost ns) None (refl, refl, refl) tt)
    on-verdict (Done o) q n = on-outcome o q o.update refl n

    pub tried : IsTried g c b d γ before w rest (try w d)
    tried = go (try w d) (stays-on g c b d γ t w) (on-verdict (verdict w.call d.clerk) refl (λ e. known (does_wait w d.clerk) (sym e ∙ (tries-answer w d).0)))
      where
        go : (r : Tried) → StaysOn g c b d γ t r → Leaves r → IsTried g c b d γ before w rest r
        go (Waits e) s f = elim s [ inl x ↦ inl x | inr x ↦ inr (x.0, x.1 ∙ split) ]
        go (Answered e) s f = f

  pub tries-stand : TriesStand
  tries-stand g c b d γ t before rest w split = tried g c b d γ t before rest w split

-- A spent counter stays so.

spent-await : (p : Waiting) (o : Outcome) (a : Option Asked) (e : Doing) → IsSpent e → OnTried IsSpent (await p o a e)
spent-await p o None e h = h
spent-await p o (Some a) e h = go (is_owing p.begun (first a e.clerk.log))
  where
    go : (z : Bool) → OnTried IsSpent (elim z as (λ y. Tried) [ true ↦ Waits (ask_for a e) | false ↦ answer_with p (answer.Reply o.reply) None o.touched e ])
    go true = spent-stays.ask_for a e h
    go false = h

spent-outcome : (p : Waiting) (o : Outcome) (u : Option Update) (e : Doing) → IsSpent e → OnTried IsSpent (settle_outcome p o u e)
spent-outcome p o None e h = spent-await p o (awaited p.call o) e h
spent-outcome p o (Some u) e h = go (suits u e.clerk.cache) (is_full e.clerk.log) (ops_are_spent e.clerk.log)
  where
    go : (x y z : Bool) → OnTried IsSpent (elim x as (λ a. Tried) [
      | false ↦ Waits e
      | true ↦ elim y as (λ a. Tried) [
        | true ↦ Waits (ask_for All e)
        | false ↦ elim z as (λ a. Tried) [
          | true ↦ Waits (spend counter.Op e)
          | false ↦ answer_with p (answer.Reply o.reply) (Some e.clerk.log.next) o.touched (with_clerk (with_update u) e)
        ]
      ]
    ])
    go false y z = h
    go true true z = spent-stays.ask_for All e h
    go true false true = again counter.Op e
    go true false false = h

pub spent-verdict : (p : Waiting) (v : Verdict) (e : Doing) → IsSpent e → OnTried IsSpent (try_verdict p v e)
spent-verdict p (Need x m) e h = spent-stays.want x m e h
spent-verdict p (NeedIds xs) e h = spent-stays.ask_room e h
spent-verdict p (Lost ns xs) e h = h
spent-verdict p (Done o) e h = spent-outcome p o o.update e h

-- All of them.

module _ (tries : TriesStand) (g : System) (c b : ℕ) where
  abbrev Holds : Doing → Type 0
  Holds e = IsSpent e ⊎ ((δ : Ghost) × IsTrying g c b e δ)

  one-keeps : (before : List Waiting) (p : Waiting) (ws : List Waiting) (e : Doing) → Holds e → e.clerk.waiting ≡ before ++ p ∷ ws → Keeping Holds before p ws (try p e)
  one-keeps before p ws e h q = elim h [
    | inl x ↦ by-spent (try p e) (spent-verdict p (verdict p.call e.clerk) e x) stays
    | inr t ↦ by-try t.0 (try p e) (tries g c b e t.0 t.1 before ws p q) stays
  ]
    where
      stays : OnTried (λ f. f.clerk.waiting ≡ before ++ p ∷ ws) (try p e)
      stays = same-verdict (before ++ p ∷ ws) p (verdict p.call e.clerk) e q

      by-spent : (r : Tried) → OnTried IsSpent r → OnTried (λ f. f.clerk.waiting ≡ before ++ p ∷ ws) r → Keeping Holds before p ws r
      by-spent (Waits f) x i = (inl x, i)
      by-spent (Answered f) x i = inl x

      by-try : (δ : Ghost) (r : Tried) → IsTried g c b e δ before p ws r → OnTried (λ f. f.clerk.waiting ≡ before ++ p ∷ ws) r → Keeping Holds before p ws r
      by-try δ (Waits f) x i = elim x [ inl y ↦ (inl y, i) | inr y ↦ (inr (δ, y.0), i) ]
      by-try δ (Answered f) x i = inr (x.3, x.6)

  pub all-keep : (d : Doing) (γ : Ghost) → IsTrying g c b d γ → Holds (try_all d)
  all-keep d γ t = all-keeps Holds one-keeps d (inr (γ, t))

pub all-tries-stand : TriesStand → AllTriesStand
all-tries-stand tries g c b d γ t = all-keep tries g c b d γ t
