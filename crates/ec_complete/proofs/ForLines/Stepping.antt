-- A clerk's step in which no call is answered leaves what is kept.
use Rattle.std.proofs.Common.{◌≡◌, refl, sym, ap, subst, ◌∙◌, inl, inr, ◌⊎◌, ℕ, Bool, true, false, not, ◌&&◌, T, List, [], ◌∷◌, ◌++◌, Option, Some, None}
use Rattle.std.specs.Prelude.{is_some, nat_le, Contains, ⊤}
use Rattle.ec_base.specs.declared.counter.Counter.TheVariants as counter
use Rattle.ec_sessions.specs.Limits.{last_round}
use Rattle.ec_wire.specs.declared.msg.Msg.{Msg}
use Rattle.ec_wire.specs.declared.msg.Msg.TheVariants as msg
use Rattle.ec_plain.specs.declared.call.Outcome.{Outcome}
use Rattle.ec_volume.specs.declared.update.Update.{Update}
use Rattle.ec_history.specs.declared.entry.Answer.TheVariants as answer
use Rattle.ec_log.specs.Log.{first, is_full, ops_are_spent}
use Rattle.ec_log.specs.Log as log
use Rattle.ec_log.specs.declared.state.Asked.{Asked}
use Rattle.ec_log.specs.declared.state.Asked.TheVariants.{All, Op}
use Rattle.ec_log.specs.declared.state.Pick.{Pick}
use Rattle.ec_log.specs.declared.state.Pick.TheVariants as pick_of
use Rattle.ec_cache.specs.declared.resolve.verdict.Verdict.{Verdict}
use Rattle.ec_cache.specs.declared.resolve.verdict.Verdict.TheVariants.{Need, Lost, NeedIds, Done}
use Rattle.ec_sessions.specs.declared.window.Window.{Window}
use Rattle.ec_cache.specs.declared.state.Held.{Held}
use Rattle.ec_cache.specs.Cache as cache
use Rattle.ec_protocol.specs.Clerk.{Doing, Tried, Waits, Answered, answer_recalls, answer_with, ask_for, ask_pushes, await, awaited, doing, epoch, evict, evict_unpinned, has_session, hello, idless, is_owing, is_session, is_settled, issue_if_room, keep_push, lose, on_objects, refuse_makes, send, send_backs, send_batch, send_picked, session, settle, settle_outcome, spend, suits, take, taken, try, try_all, try_pushes, try_recalls, try_verdict, verdict, with_clerk, with_log, with_update}
use Rattle.ec_protocol.specs.declared.clerk.Clerk.{Clerk}
use Rattle.ec_protocol.specs.declared.clerk.Out.TheVariants as out
use Rattle.ec_protocol.specs.declared.clerk.Waiting.{Waiting}
use Rattle.ec_coherence.specs.System.{System, Ghost}
use Rattle.ec_coherence.specs.Steps.{doing_in, out_lines, sends}
use Rattle.ec_coherence.proofs.ForServer.Lists.{each-more}
use Rattle.ec_lawful.specs.OfClerkSteps.CallLaws.{IsStillIf, prepared}
use Rattle.ec_lawful.proofs.OfClerkSteps.ForCalls.Quiet.{quiet-lines}
use Rattle.ec_lawful.proofs.OfClerkSteps.ForCalls.Quiets.{quiet-evict, quiet-prepared, quiet-taken}
use Rattle.ec_lawful.proofs.OfClerkSteps.ForCalls.Resting.{settles-rest, tries-rest}
use Rattle.ec_lawful.proofs.OfClerkSteps.ForCalls.Still.{tries-answer}
use Rattle.ec_lawful.proofs.OfClerkSteps.ForDoings.Spent.{spent-stays}
use Rattle.ec_lawful.specs.OfClerkSteps.Moves.{IsStill}
use Rattle.ec_lawful.proofs.OfClerkSteps.ForNames.Stilling.{are-still}
use Rattle.ec_lawful.specs.OfClerkSteps.Fulls.{IsFullAt}
use Rattle.ec_lawful.proofs.OfClerkSteps.ForNames.Sent.{own-full, take-own}
use Rattle.ec_lawful.specs.OfClerkSteps.Frees.{FullsAgree}
use Rattle.ec_lawful.specs.OfClerkSteps.JoinLaws.{ghosts_joined}
use Rattle.ec_lawful.specs.Whole.{Whole}
use Rattle.ec_lawful.specs.SettleLaws.{IsLined}
use Rattle.ec_lawful.proofs.ForBegins.Beginning.{begins}
use Rattle.ec_lawful.proofs.ForBegins.Carrying.{same-shows}
use Rattle.ec_lawful.proofs.ForBegins.Ending.{steps-end}
use Rattle.ec_lawful.proofs.ForBegins.Readying.{evicts-lined, nothing, prepares}
use Rattle.ec_lawful.proofs.ForBegins.Resending.{beside-whole}
use Rattle.ec_lawful.specs.Rooms.{unasked}
use Rattle.ec_lawful.specs.Taking.{AnswersNone}
use Rattle.ec_lawful.proofs.Clerks.{clerks-keep-all}
use Rattle.ec_lawful.proofs.Forgets.{forgets}
use Rattle.ec_lawful.proofs.Taken.{messages-stand}
use Rattle.ec_lawful.proofs.Tried.{ShownTried, tried}
use Rattle.ec_lawful.specs.Steps.{StepIsDone}
use Rattle.ec_quiet.specs.Tries.{left_by}
use Rattle.ec_quiet.proofs.Steps.{tries-none, tries-one}

-- The clerk by itself.

-- a step without a waiting call leaves none
pub idle-empty : (d : Doing) → d.clerk.waiting ≡ [] → (settle d).clerk.waiting ≡ []
idle-empty d e =
    let none : (prepared d).clerk.waiting ≡ [] = (quiet-prepared d).waiting ∙ e in
    ap (λ z. (evict z).clerk.waiting) (tries-none (prepared d) none) ∙ (quiet-evict (prepared d)).waiting ∙ none

-- a message leaves the waiting calls, where it doesn't refuse ids that were asked for
pub waits-on : (m : Msg) (k : Clerk) → AnswersNone k m → (taken m (doing k)).clerk.waiting ≡ k.waiting
waits-on (msg.NoRoom s e ask live reserved) k a = (quiet-taken (msg.NoRoom s e ask live reserved) (doing k) (subst (λ b. T (not b)) (sym a) tt)).waiting
waits-on (msg.Ended s low mask) k a = go (has_session k) (is_session s k.session) (nat_le last_round k.age.round)
  where
    w : Window
    w = record { low = low; mask = mask }

    go : (x y z : Bool) → (elim x as (λ o. Doing) [
      | false ↦ hello (doing k)
      | true ↦ elim y as (λ o. Doing) [
        | true ↦ elim z as (λ o. Doing) [
          | true ↦ spend counter.Round (doing k)
          | false ↦ hello (Rattle.ec_protocol.specs.Clerk.emit (out.Told (Rattle.ec_base.specs.Tables.keys (log.lost w k.log))) (with_clerk (lose (log.lost w k.log)) (doing k)))
        ]
        | false ↦ doing k
      ]
    ]).clerk.waiting ≡ k.waiting
    go false y z = refl
    go true false z = refl
    go true true true = refl
    go true true false = refl
waits-on (msg.Opened age s e) k a = (quiet-taken (msg.Opened age s e) (doing k) tt).waiting
waits-on (msg.Grant s e x n h i) k a = (quiet-taken (msg.Grant s e x n h i) (doing k) tt).waiting
waits-on (msg.Recall s e x n h) k a = (quiet-taken (msg.Recall s e x n h) (doing k) tt).waiting
waits-on (msg.Kept s e b) k a = (quiet-taken (msg.Kept s e b) (doing k) tt).waiting
waits-on (msg.Ids s e got n x) k a = (quiet-taken (msg.Ids s e got n x) (doing k) tt).waiting
waits-on (msg.Restarted s e) k a = (quiet-taken (msg.Restarted s e) (doing k) tt).waiting
waits-on (msg.OldBoot x y) k a = (quiet-taken (msg.OldBoot x y) (doing k) tt).waiting
waits-on (msg.Hello i x) k a = refl
waits-on (msg.Want s e x h n) k a = refl
waits-on (msg.Back s e x n h) k a = refl
waits-on (msg.Flush s e b ops) k a = refl
waits-on (msg.Room s e got ask) k a = refl
waits-on (msg.Claim s e l) k a = refl
waits-on (msg.Bye s e) k a = refl

-- what a message makes of the ghosts leaves what is kept
pub joined-kept : (c : ℕ) (m : Msg) (d : Doing) (γ : Ghost) → (ghosts_joined c m d γ).kept ≡ γ.kept
joined-kept c (msg.Opened age s e) d γ = go (not (has_session d.clerk) && Rattle.ec_protocol.specs.Clerk.same_age age d.clerk.age)
  where
    go : (b : Bool) → (elim b as (λ z. Ghost) [ true ↦ Rattle.ec_coherence.specs.Clerks.take_session s γ | false ↦ γ ]).kept ≡ γ.kept
    go true = refl
    go false = refl
joined-kept c (msg.Ended s low mask) d γ = go (is_session s d.clerk.session)
  where
    go : (b : Bool) → (elim b as (λ z. Ghost) [ true ↦ Rattle.ec_lawful.specs.OfClerkSteps.JoinLaws.tell_loss c (Rattle.ec_base.specs.Tables.keys (log.lost (record { low = low; mask = mask }) d.clerk.log)) γ | false ↦ γ ]).kept ≡ γ.kept
    go true = refl
    go false = refl
joined-kept c (msg.Grant s e x n h i) d γ = refl
joined-kept c (msg.Recall s e x n h) d γ = refl
joined-kept c (msg.Kept s e b) d γ = refl
joined-kept c (msg.Ids s e got n x) d γ = refl
joined-kept c (msg.NoRoom s e ask live reserved) d γ = refl
joined-kept c (msg.Restarted s e) d γ = refl
joined-kept c (msg.OldBoot x y) d γ = refl
joined-kept c (msg.Hello i x) d γ = refl
joined-kept c (msg.Want s e x h n) d γ = refl
joined-kept c (msg.Back s e x n h) d γ = refl
joined-kept c (msg.Flush s e b ops) d γ = refl
joined-kept c (msg.Room s e got ask) d γ = refl
joined-kept c (msg.Claim s e l) d γ = refl
joined-kept c (msg.Bye s e) d γ = refl

-- The step of a message.

module _ (g : System) (whole : Whole g) (c b : ℕ) (k : Clerk) (runs : g.running c ≡ Some b) (there : g.clerks c b ≡ Some k) (m : Msg) (sent : Contains g.pool (c, m)) where
  abbrev pub Steps : Ghost → Type 0
  Steps γ = (γ.shown ≡ g.ghost.shown ++ out_lines c (take m k).outs g.calls) × Whole (doing_in c b (take m k) γ g)

  -- The step is refused, or it leaves what is kept; or nothing waits behind it.
  abbrev pub Leaves : Type 0
  Leaves = T (is_some (take m k).spent) ⊎ ((γ : Ghost) × Steps γ × (γ.kept ≡ g.ghost.kept))

  abbrev pub LeavesOrAnswers : Type 0
  LeavesOrAnswers = T (is_some (take m k).spent) ⊎ ((γ : Ghost) × Steps γ × ((γ.kept ≡ g.ghost.kept) ⊎ ((take m k).clerk.waiting ≡ [])))

  abbrev d : Doing
  d = taken m (doing k)

  full : (γ : Ghost) → FullsAgree (doing_in c b (take m k) γ g)
  full γ = each-more (λ x. IsFullAt g.durable.max_objects x.1) g.pool (sends c (take m k).outs) whole.fulls (own-full c g.durable.max_objects (take m k).outs (take-own m k))

  ends-so : (γ : Ghost) → IsLined g c b d γ → IsLined g c b (try_all (prepared d)) γ → Steps γ
  ends-so γ l t =
      let none = settles-rest d (λ n. (nothing g c b d γ l.trying n).recalls) in
      let rest = tries-rest (prepared d) none in (
        ((((evicts-lined g c b (try_all (prepared d)) γ t).trying).stands).0).shown,
        steps-end g c b γ (beside-whole g whole c) (try_all (prepared d)) t rest.1 rest.0 (full γ),
      )

  pub idle-steps : (γ : Ghost) → IsLined g c b d γ → d.clerk.waiting ≡ [] → Steps γ
  idle-steps γ l none = ends-so γ l (subst (λ e. IsLined g c b e γ) (sym (tries-none (prepared d) ((quiet-prepared d).waiting ∙ none))) (prepares g c b d γ l))

  -- a call that waits is tried
  pub one-steps : (w : Waiting) → d.clerk.waiting ≡ w ∷ [] → (γ : Ghost) → IsLined g c b d γ → (T (is_some (take m k).spent) ⊎ Steps γ) ⊎ ((take m k).clerk.waiting ≡ [])
  one-steps w q γ l = go (try w (prepared d)) refl (tried g c b (prepared d) γ ready.trying ready.shows [] [] w split) (tries-answer w (prepared d)).1
    where
      ready : IsLined g c b (prepared d) γ
      ready = prepares g c b d γ l

      split : (prepared d).clerk.waiting ≡ w ∷ []
      split = (quiet-prepared d).waiting ∙ q

      is : (r : Tried) → try w (prepared d) ≡ r → try_all (prepared d) ≡ left_by r
      is r e = tries-one (prepared d) w split ∙ ap left_by e

      go : (r : Tried) → try w (prepared d) ≡ r → ShownTried g c b (prepared d) γ ready.trying ready.shows [] [] w split r → IsStillIf (prepared d) r → (T (is_some (take m k).spent) ⊎ Steps γ) ⊎ ((take m k).clerk.waiting ≡ [])
      go (Waits e) f s i = inl (elim s [
        | inl x ↦ inl (subst (λ z. T (is_some (evict z).spent)) (sym (is (Waits e) f)) (spent-stays.evict e x))
        | inr t ↦ inr (ends-so γ l (subst (λ z. IsLined g c b z γ) (sym (is (Waits e) f)) (record { trying = t.0; lines = quiet-lines g c b (prepared d) e γ (i.0).quiet ready.lines; shows = t.1 })))
      ])
      go (Answered e) f s i = inr (ap (λ z. (evict z).clerk.waiting) (is (Answered e) f) ∙ (quiet-evict (left_by (Answered e))).waiting)

  -- whatever it does
  pub answers-steps : (take m k).clerk.waiting ≡ [] → LeavesOrAnswers
  answers-steps none = by (clerks-keep-all.messages g c b k whole runs there m sent)
    where
      by : StepIsDone Whole g c b (take m k) → LeavesOrAnswers
      by (inl s) = inl s
      by (inr (γ, shown, w)) = inr (γ, (shown, w), inr none)

  abbrev joins : Ghost
  joins = ghosts_joined c m (doing k) g.ghost

  -- a message that answers no call, to a clerk without one
  pub idle-leaves : AnswersNone k m → k.waiting ≡ [] → Leaves
  idle-leaves a none = elim (messages-stand g whole c b k runs there m sent a) [
    | inl x ↦ inl (spent-stays.settle d x)
    | inr l ↦ inr (joins, idle-steps joins l (waits-on m k a ∙ none), joined-kept c m (doing k) g.ghost)
  ]

  lined-leaves : (w : Waiting) → d.clerk.waiting ≡ w ∷ [] → (γ : Ghost) → γ.kept ≡ g.ghost.kept → IsLined g c b d γ → LeavesOrAnswers
  lined-leaves w q γ same l = by (one-steps w q γ l)
    where
      by : (T (is_some (take m k).spent) ⊎ Steps γ) ⊎ ((take m k).clerk.waiting ≡ []) → LeavesOrAnswers
      by (inl (inl s)) = inl s
      by (inl (inr t)) = inr (γ, t, inl same)
      by (inr none) = answers-steps none

  -- and to one with a call
  pub one-leaves : AnswersNone k m → (w : Waiting) → k.waiting ≡ w ∷ [] → LeavesOrAnswers
  one-leaves a w q = elim (messages-stand g whole c b k runs there m sent a) [
    | inl x ↦ inl (spent-stays.settle d x)
    | inr l ↦ lined-leaves w (waits-on m k a ∙ q) joins (joined-kept c m (doing k) g.ghost) l
  ]

  -- A refusal of the ids that it asked for, of a clerk in a session.
  pub room-leaves : (s : ℕ) → k.session ≡ Some s → (w : Waiting) → k.waiting ≡ w ∷ [] → (t e ask live reserved : ℕ) → m ≡ msg.NoRoom t e ask live reserved → is_session ask k.asking ≡ true → LeavesOrAnswers
  room-leaves s inside w q t e ask live reserved is asked = by (idless (verdict w.call left)) refl
    where
      left : Clerk
      left = record k { asking = None; waiting = [] }

      refused : d ≡ refuse_makes live reserved (w ∷ []) (record { clerk = left; outs = []; spent = None })
      refused = ap (λ z. taken z (doing k)) is ∙ ap (λ z. elim z as (λ o. Doing) [ true ↦ refuse_makes live reserved k.waiting (with_clerk (λ k. record k { asking = None; waiting = [] }) (doing k)) | false ↦ doing k ]) asked
          ∙ ap (λ z. refuse_makes live reserved z (record { clerk = left; outs = []; spent = None })) q

      chosen : (o : Option (List ℕ)) → Doing
      chosen o = elim o as (λ z. Doing) [
        | Some xs ↦ Rattle.ec_protocol.specs.Clerk.refuse_make live reserved w.no xs (record { clerk = left; outs = []; spent = None })
        | None ↦ Rattle.ec_protocol.specs.Clerk.keep_call w (record { clerk = left; outs = []; spent = None })
      ]

      by : (o : Option (List ℕ)) → idless (verdict w.call left) ≡ o → LeavesOrAnswers
      by (Some xs) f = answers-steps (idle-empty d (ap (λ z. z.clerk.waiting) (refused ∙ ap chosen f)))
      by None f =
          let same : d ≡ unasked (doing k) = refused ∙ ap chosen f ∙ ap (λ ws. record { clerk = record k { asking = None; waiting = ws }; outs = []; spent = None }) (sym q) in
          let l : IsLined g c b (doing k) g.ghost = begins g whole c b k runs there in
          let r = forgets g c b s (doing k) g.ghost l.trying inside l.lines in
          let st = (r.0).stands in
          let lined : IsLined g c b (unasked (doing k)) g.ghost = record { trying = r.0; lines = r.1; shows = same-shows g c b (doing k) (unasked (doing k)) g.ghost l.trying ((st.0).invariant, st.1, st.2, st.3) (refl, refl, refl) l.shows } in
          lined-leaves w (ap (λ z. z.clerk.waiting) same ∙ q) g.ghost refl (subst (λ z. IsLined g c b z g.ghost) (sym same) lined)

-- What else a step leaves.

-- a call that waits on leaves the session and the ids
module _ (w : Waiting) (d : Doing) where
  abbrev StaysIf : Tried → Type 0
  StaysIf (Waits e) = IsStill d.clerk e.clerk
  StaysIf (Answered e) = ⊤

  still-await : (o : Outcome) (a : Option Asked) → StaysIf (await w o a d)
  still-await o None = tt
  still-await o (Some a) = go (is_owing w.begun (first a d.clerk.log))
    where
      go : (z : Bool) → StaysIf (elim z as (λ y. Tried) [ true ↦ Waits (ask_for a d) | false ↦ answer_with w (answer.Reply o.reply) None o.touched d ])
      go true = are-still.ask_for a d
      go false = tt

  still-issue : (o : Outcome) (u : Update) → StaysIf (issue_if_room w o u d)
  still-issue o u = go (suits u d.clerk.cache) (is_full d.clerk.log) (ops_are_spent d.clerk.log)
    where
      go : (x y z : Bool) → StaysIf (elim x as (λ a. Tried) [
        | false ↦ Waits d
        | true ↦ elim y as (λ a. Tried) [
          | true ↦ Waits (ask_for All d)
          | false ↦ elim z as (λ a. Tried) [
            | true ↦ Waits (spend counter.Op d)
            | false ↦ answer_with w (answer.Reply o.reply) (Some d.clerk.log.next) o.touched (with_clerk (with_update u) d)
          ]
        ]
      ])
      go false y z = (refl, refl, refl)
      go true true z = are-still.ask_for All d
      go true false true = (refl, refl, refl)
      go true false false = tt

  still-outcome : (o : Outcome) (u : Option Update) → StaysIf (settle_outcome w o u d)
  still-outcome o None = still-await o (awaited w.call o)
  still-outcome o (Some u) = still-issue o u

  still-verdict : (v : Verdict) → StaysIf (try_verdict w v d)
  still-verdict (Need x h) = are-still.want x h d
  still-verdict (NeedIds xs) = are-still.ask_room d
  still-verdict (Lost ns xs) = tt
  still-verdict (Done o) = still-outcome o o.update

still-on : (k m n : Clerk) → IsStill k m → IsStill m n → IsStill k n
still-on k m n a b = (b.0 ∙ a.0, b.1 ∙ a.1, b.2 ∙ a.2)

still-prepared : (d : Doing) → IsStill d.clerk (prepared d).clerk
still-prepared d = go (has_session d.clerk)
  where
    go : (z : Bool) → IsStill d.clerk (elim z as (λ y. Doing) [ true ↦ ask_pushes (answer_recalls d) | false ↦ d ]).clerk
    go true = still-on d.clerk (answer_recalls d).clerk (ask_pushes (answer_recalls d)).clerk (are-still.recalls d) (are-still.pushes (answer_recalls d))
    go false = (refl, refl, refl)

-- a whole step, where its call waits on
pub settle-still : (w : Waiting) (d : Doing) → d.clerk.waiting ≡ w ∷ [] → IsStill d.clerk (settle d).clerk ⊎ ((settle d).clerk.waiting ≡ [])
settle-still w d q = go (try w (prepared d)) refl (still-verdict w (prepared d) (verdict w.call (prepared d).clerk))
  where
    split : (prepared d).clerk.waiting ≡ w ∷ []
    split = (quiet-prepared d).waiting ∙ q

    go : (r : Tried) → try w (prepared d) ≡ r → StaysIf w (prepared d) r → IsStill d.clerk (settle d).clerk ⊎ ((settle d).clerk.waiting ≡ [])
    go (Waits e) f s =
        inl (subst (λ z. IsStill d.clerk (evict z).clerk) (sym (tries-one (prepared d) w split ∙ ap left_by f))
        (still-on d.clerk (prepared d).clerk (evict e).clerk (still-prepared d) (still-on (prepared d).clerk e.clerk (evict e).clerk s (are-still.evict e))))
    go (Answered e) f s = inr (ap (λ z. (evict z).clerk.waiting) (tries-one (prepared d) w split ∙ ap left_by f) ∙ (quiet-evict (left_by (Answered e))).waiting)

-- What was wanted, and the last numbers, where nothing waits and nothing is recalled.

abbrev WantsSame : Clerk → Doing → Type 0
WantsSame k e = (e.clerk.wanted ≡ k.wanted) × (e.clerk.cache.lasts ≡ k.cache.lasts)

module _ (k : Clerk) where
  picks-same : (p : Pick) (e : Doing) → WantsSame k e → WantsSame k (send_picked p e)
  picks-same (pick_of.Batch b ns) e h = go (log.batches_are_spent e.clerk.log)
    where
      go : (z : Bool) → WantsSame k (elim z as (λ y. Doing) [ true ↦ spend counter.Batch e | false ↦ send_batch b (with_log (log.after_pick (pick_of.Batch b ns)) e) ])
      go true = h
      go false = h
  picks-same pick_of.Settled e h = h
  picks-same (pick_of.Behind b) e h = h
  picks-same (pick_of.Window b) e h = h

  pushes-same : (ns : List ℕ) (e : Doing) → WantsSame k e → WantsSame k (try_pushes ns e)
  pushes-same [] e h = h
  pushes-same (n ∷ ns) e h = pushes-same ns _ (go (is_settled (Op n) e.clerk))
    where
      go : (z : Bool) → WantsSame k (elim z as (λ y. Doing) [ true ↦ e | false ↦ ask_for (Op n) (keep_push n e) ])
      go true = h
      go false = picks-same (log.pick (Op n) e.clerk.log) (keep_push n e) h

  backs-same : (es : List (ℕ × Held)) (e : Doing) → WantsSame k e → WantsSame k (send_backs es e)
  backs-same [] e h = h
  backs-same (p ∷ es) e h = backs-same es (send (msg.Back (session e) (epoch e) p.0 (p.1).number Rattle.ec_base.specs.declared.ids.Hold.TheVariants.Free) e) h

  evict-same : (e : Doing) → WantsSame k e → WantsSame k (evict e)
  evict-same e h = go (nat_le (Rattle.std.specs.Prelude.length e.clerk.cache.held) e.clerk.cache.capacity)
    where
      go : (z : Bool) → WantsSame k (elim z as (λ y. Doing) [ true ↦ e | false ↦ evict_unpinned (on_objects e.clerk.log.undurable) e ])
      go true = h
      go false = backs-same (cache.evicted (on_objects e.clerk.log.undurable) e.clerk.cache) (Rattle.ec_protocol.specs.Clerk.with_cache (cache.evict (on_objects e.clerk.log.undurable)) e) h

pub idle-same : (d : Doing) → d.clerk.recalls ≡ [] → d.clerk.waiting ≡ [] → WantsSame d.clerk (settle d)
idle-same d r e = subst (λ z. WantsSame d.clerk (evict z)) (sym (tries-none (prepared d) ((quiet-prepared d).waiting ∙ e))) (evict-same d.clerk (prepared d) ready)
  where
    unrecalled : answer_recalls d ≡ with_clerk (λ k. record k { recalls = [] }) d
    unrecalled = ap (λ rs. try_recalls rs (with_clerk (λ k. record k { recalls = [] }) d)) r

    ready : WantsSame d.clerk (prepared d)
    ready = go (has_session d.clerk)
      where
        go : (z : Bool) → WantsSame d.clerk (elim z as (λ y. Doing) [ true ↦ ask_pushes (answer_recalls d) | false ↦ d ])
        go true = subst (λ z. WantsSame d.clerk (ask_pushes z)) (sym unrecalled) (pushes-same d.clerk d.clerk.pushes (with_clerk (λ k. record k { recalls = []; pushes = [] }) d) (refl, refl))
        go false = (refl, refl)
