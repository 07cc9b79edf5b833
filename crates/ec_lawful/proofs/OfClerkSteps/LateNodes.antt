-- Tokens, logs and images behind an answer of a clerk whose session has ended.
use Rattle.std.proofs.Common.{◌≡◌, refl, sym, ap, subst, ◌∙◌, inl, inr, ◌⊎◌, ◌+◌, ℕ, Bool, true, false, ◌==◌, cond, T, List, [], ◌∷◌, ◌++◌, Option, Some, None, append-nil, length}
use Rattle.ec_base.specs.Tables.{Table, at}
use Rattle.ec_base.specs.declared.ids.Age.{Age}
use Rattle.ec_volume.specs.Update.{effect, has_operand}
use Rattle.ec_volume.specs.Volume.{after}
use Rattle.ec_volume.specs.declared.image.Image.{Image}
use Rattle.ec_volume.specs.declared.update.Update.{Update}
use Rattle.ec_plain.specs.declared.call.Call.{Call}
use Rattle.ec_plain.specs.declared.call.Outcome.{Outcome}
use Rattle.ec_history.specs.History.{History, Op, updates}
use Rattle.ec_history.specs.declared.entry.Answer.{Answer}
use Rattle.ec_history.specs.declared.shown.Shown.{Shown}
use Rattle.ec_cache.specs.OfReport.Report.{Owed, clear}
use Rattle.ec_cache.specs.declared.resolve.verdict.Verdict.{Verdict}
use Rattle.ec_cache.specs.declared.resolve.verdict.Verdict.TheVariants.{Need, Lost, NeedIds, Done}
use Rattle.ec_protocol.specs.Clerk.{doing, suits, verdict, with_update}
use Rattle.ec_protocol.specs.declared.clerk.Clerk.{Clerk}
use Rattle.ec_coherence.specs.System.{System, Ghost, at_session, clerk_in, seen, seen_ops, with_start}
use Rattle.ec_coherence.specs.Tokens.{IsWrite, TokensAgree, side, side_in, view}
use Rattle.ec_coherence.specs.Log.{LogsAgree}
use Rattle.ec_coherence.specs.Images.{ImagesAgree}
use Rattle.ec_coherence.specs.Steps.{doing_in}
use Rattle.ec_coherence.specs.ChangeLaws.{Calls, IsInIt, with_answer}
use Rattle.ec_coherence.proofs.ForClerk.Acting.{IsIn}
use Rattle.ec_coherence.proofs.ForClerk.Answer.{goes-answer, goes-update, goes-used}
use Rattle.ec_coherence.proofs.ForClerk.CacheChange.{behind-changed, behind-writes}
use Rattle.ec_coherence.proofs.ForBatches.ClerkIn.{not-in-it, now-in}
use Rattle.ec_coherence.proofs.ForBatches.CutOff as off
use Rattle.ec_coherence.proofs.ForClerk.Goes.{Goes}
use Rattle.ec_coherence.proofs.ForBatches.Issued.{image-one}
use Rattle.ec_coherence.proofs.ForClerk.OnSystem.{begins, ends}
use Rattle.ec_coherence.proofs.ForServer.Tables.{differs}
use Rattle.ec_coherence.specs.CommitLaws.{AllAgree}
use Rattle.ec_coherence.proofs.Doings.{begins-stand}
use Rattle.ec_coherence.specs.Answers.{Gives, op_given}
use Rattle.ec_lawful.specs.OfClerkSteps.Answering.{Suits, answered_clerk, answering, done_clerk}
use Rattle.ec_lawful.proofs.OfClerkSteps.NodesAnswered as changing
use Rattle.ec_lawful.proofs.OfClerkSteps.NodesAnswered.{NodesAgree}
use Rattle.ec_lawful.proofs.OfClerkSteps.Framed.{images-told, logs-told}
use Rattle.ec_lawful.proofs.OfClerkSteps.LateSeen.{late-seen-agrees}
use Rattle.ec_lawful.proofs.OfClerkSteps.Live.{owns, stands}
use Rattle.ec_lawful.proofs.OfClerkSteps.Turned.{writes-all}
use Rattle.ec_base.proofs.Bools.{left as and_first}
use Rattle.ec_base.proofs.Numbers.{equal}
use Rattle.ec_base.proofs.Lists.{map-more}

module _ (g : System) (all : AllAgree g) (c s : ℕ) (age : Age) (k : Clerk) (in-it : IsInIt g c s age k) (r : g.running c ≡ Some age.boot) (ks : List Op) (fz : g.ghost.frozen s ≡ Some ks) (n : ℕ) (a : Answer) (op : Option ℕ)
    (sh : List Shown) (hi : History) (fr : Table ℕ) (calls : Calls) where
  abbrev b : ℕ
  b = age.boot

  -- the clerk is this one now, and it saw these operations
  abbrev pub behind : Clerk → List Op → System
  behind now os = record g { clerks = with_start c b now g.clerks; calls = calls; pool = g.pool ++ []; ghost = record (g.ghost) { frozen = at_session s (Some os) g.ghost.frozen; shown = sh; history = hi; fresh = fr } }

  is-owner : g.ghost.owner s ≡ Some (c, age)
  is-owner = owns g all c s age k in-it

  at-start : g.clerks c b ≡ Some k
  at-start = stands g all c s age k in-it

  -- it saw what it saw
  pub same-frozen : at_session s (Some ks) g.ghost.frozen ≡ g.ghost.frozen
  same-frozen = λ j t. point (t == s) t refl j
    where
      point : (y : Bool) → (t : ℕ) → (t == s) ≡ y → elim y as (λ z. Option (List Op)) [ true ↦ Some ks | false ↦ g.ghost.frozen t ] ≡ g.ghost.frozen t
      point true t q = sym fz ∙ ap g.ghost.frozen (sym (equal t s q))
      point false t q = refl

  -- Without an operation.
  used-nodes : (q : Owed) (xs : List ℕ) → NodesAgree (behind (record k { owed = q; cache = Rattle.ec_cache.specs.Cache.all_used xs k.cache }) (ks ++ []))
  used-nodes q xs =
      let now : Clerk = record k { owed = q; cache = Rattle.ec_cache.specs.Cache.all_used xs k.cache } in
      subst (λ os. NodesAgree (behind now os)) (sym (append-nil ks))
      (subst (λ z. NodesAgree (record g { clerks = with_start c b now g.clerks; calls = calls; pool = g.pool ++ []; ghost = record (g.ghost) { frozen = z; shown = sh; history = hi; fresh = fr } })) (sym same-frozen)
      (subst (λ z. NodesAgree (record g { clerks = with_start c b now g.clerks; calls = calls; pool = g.pool ++ []; ghost = record (g.ghost) { kept = z; shown = sh; history = hi; fresh = fr } })) (append-nil g.ghost.kept)
      (changing.used-nodes g all c s age k in-it r n a op sh hi fr calls q xs)))

  -- With one.
  module _ (u : Update) (xs : List ℕ) (place : ℕ) (fits : T (suits u k.cache)) (writes : (x : ℕ) → T (has_operand x u) → IsWrite (at x k.cache.held)) where
    abbrev o : Op
    o = record { clerk = c; boot = b; number = k.log.next; place = place; update = u }

    abbrev now : Clerk
    now = with_answer u xs k

    is-in : IsIn g g.ghost c b s k
    is-in = record {
      session = in-it.session;
      age = age;
      owner = is-owner;
      boot = refl;
      before = λ t e. ap (Rattle.ec_coherence.specs.System.if_in t) at-start ∙ not-in-it c b s k in-it.session t (differs t s e);
    }

    began : TokensAgree (view (doing_in c b (doing k) g.ghost g))
    began = (((begins-stand g all c b k r at-start).0).invariant).tokens

    -- the step, where it sees what it saw
    abbrev unseen : System
    unseen = doing_in c b (answering now n a op) g.ghost g

    unseen-tokens : TokensAgree (view unseen)
    unseen-tokens =
        let w = view (record g { ghost = g.ghost }) in
        let g0 : Goes w c s (doing k) (doing k) = begins g c b s (doing k) g.ghost is-in began in
        let e1 = record (doing k) { clerk = with_update u k } in
        let g1 : Goes w c s (doing k) e1 = goes-update w c s (doing k) (doing k) g0 u in
        let e2 = record e1 { clerk = now } in
        let g2 : Goes w c s (doing k) e2 = goes-used w c s (doing k) e1 g1 xs in
        ends g c b s (doing k) g.ghost is-in (answering now n a op) (goes-answer w c s (doing k) e2 g2 n a op)

    abbrev new-seen : ℕ → ℕ → Image
    new-seen = λ t x. seen (behind now (ks ++ o ∷ [])) t x

    changes : (t x : ℕ) → (new-seen t x ≡ seen unseen t x) ⊎ ((t ≡ s) × IsWrite (at x now.cache.held))
    changes t x = go (t == s) refl
      where
        by : (z : Bool) → has_operand x u ≡ z → (t ≡ s) → (after g.origin (updates (ks ++ o ∷ [])) x ≡ after g.origin (updates ks) x) ⊎ ((t ≡ s) × IsWrite (at x now.cache.held))
        by true q e = inr (e, behind-writes u xs k.cache (and_first _ _ fits) x (writes x (subst T (sym q) tt)))
        by false q e = inl (ap (λ us. after g.origin us x) (map-more (λ j. j.update) ks (o ∷ [])) ∙ image-one x (g.origin x) (updates ks) u ∙ ap (λ z. cond z (effect u x (after g.origin (updates ks) x)) (after g.origin (updates ks) x)) q)

        go : (y : Bool) → (t == s) ≡ y → (after g.origin (updates (seen_ops (elim y as (λ z. Option (List Op)) [ true ↦ Some (ks ++ o ∷ []) | false ↦ g.ghost.frozen t ]) g.ghost.kept)) x ≡ after g.origin (updates (seen_ops (g.ghost.frozen t) g.ghost.kept)) x)
            ⊎ ((t ≡ s) × IsWrite (at x now.cache.held))
        go false e = inl refl
        go true e = subst (λ z. (after g.origin (updates (ks ++ o ∷ [])) x ≡ after g.origin (updates (seen_ops z g.ghost.kept)) x) ⊎ ((t ≡ s) × IsWrite (at x now.cache.held))) (sym (ap g.ghost.frozen (equal t s e) ∙ fz)) (by (has_operand x u) refl (equal t s e))

    issued-tokens : TokensAgree (view (behind now (ks ++ o ∷ [])))
    issued-tokens = late-seen-agrees (view unseen) s (side now) new-seen unseen-tokens (ap side_in (now-in g.ghost.owner g.clerks c s age k now is-owner at-start in-it.session in-it.session)) changes

    abbrev untold : System
    untold = off.h g (all.0).logs (all.0).images c s age k is-owner at-start in-it.session ks fz u now.cache now.ids place calls (behind-changed u xs k.cache (and_first _ _ fits))

    issued-nodes : NodesAgree (behind now (ks ++ o ∷ []))
    issued-nodes = (
      issued-tokens,
      subst (λ p. LogsAgree (record (behind now (ks ++ o ∷ [])) { pool = p })) (sym (append-nil g.pool)) (logs-told untold sh hi fr
          (off.cut-logs g (all.0).logs (all.0).images c s age k is-owner at-start in-it.session ks fz u now.cache now.ids place calls (behind-changed u xs k.cache (and_first _ _ fits)))),
      subst (λ p. ImagesAgree (record (behind now (ks ++ o ∷ [])) { pool = p })) (sym (append-nil g.pool)) (images-told untold sh hi fr
          (off.cut-images g (all.0).logs (all.0).images c s age k is-owner at-start in-it.session ks fz u now.cache now.ids place calls (behind-changed u xs k.cache (and_first _ _ fits)))),
    )

  -- By its verdict.
  module _ (cl : Call) (gives : Gives g.durable.max_objects k (verdict cl k) a op (answered_clerk (verdict cl k) k).owed) (suit : Suits (verdict cl k) k) where
    abbrev p : ℕ
    p = length g.ghost.shown + 1

    done-nodes : (w : Outcome) → verdict cl k ≡ Done w → Suits (Done w) k → (u : Option Update) → w.update ≡ u
        → NodesAgree (behind (done_clerk w u k) (ks ++ elim u as (λ z. List Op) [ None ↦ [] | Some x ↦ record { clerk = c; boot = b; number = k.log.next; place = p; update = x } ∷ [] ]))
    done-nodes w e f None q = used-nodes k.owed w.touched
    done-nodes w e f (Some u) q = issued-nodes u w.touched p (f u q) (writes-all cl k w e u q)

    nodes-by : (x : Verdict) → verdict cl k ≡ x → Gives g.durable.max_objects k x a op (answered_clerk x k).owed → Suits x k → NodesAgree (behind (answered_clerk x k) (ks ++ op_given c b p k x))
    nodes-by (Need x y) e f i = absurd f
    nodes-by (Lost ns xs) e f i = used-nodes (clear xs k.owed) xs
    nodes-by (NeedIds xs) e f i = used-nodes k.owed xs
    nodes-by (Done w) e f i = done-nodes w e i w.update refl

    pub late-nodes : NodesAgree (behind (answered_clerk (verdict cl k) k) (ks ++ op_given c b p k (verdict cl k)))
    late-nodes = nodes-by (verdict cl k) refl gives suit
