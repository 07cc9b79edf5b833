-- A whole step that settles, from what is to be proved of the tries.
use Rattle.std.proofs.Common.{◌≡◌, inl, inr, ℕ, Bool, true, false}
use Rattle.std.specs.Prelude.{Some, nat_le}
use Rattle.ec_history.specs.History.{Each}
use Rattle.ec_wire.specs.declared.msg.Msg.{Msg}
use Rattle.ec_protocol.specs.Clerk.{Doing, doing, evict, keep_push, push, settle, take, taken, try_all}
use Rattle.ec_protocol.specs.declared.clerk.Clerk.{Clerk}
use Rattle.ec_coherence.specs.System.{System, Ghost}
use Rattle.ec_coherence.specs.Steps.{doing_in, sends}
use Rattle.ec_lawful.specs.OfClerkSteps.CallLaws.{prepared}
use Rattle.ec_lawful.specs.OfClerkSteps.Waits.{HasLine, NoneReady}
use Rattle.ec_lawful.proofs.OfClerkSteps.ForCalls.Resting.{settles-rest, tries-rest}
use Rattle.ec_lawful.proofs.OfClerkSteps.ForDoings.Spent.{spent-stays}
use Rattle.ec_lawful.specs.OfClerkSteps.Frees.{FullsAgree}
use Rattle.ec_lawful.specs.OfClerkSteps.Trying.{IsTrying}
use Rattle.ec_coherence.proofs.ForServer.Lists.{each-more}
use Rattle.ec_lawful.specs.OfClerkSteps.Fulls.{AreFullAt, IsFullAt}
use Rattle.ec_lawful.proofs.OfClerkSteps.ForNames.Sent.{own-full, push-own, take-own}
use Rattle.ec_lawful.specs.Steps.{StepIsDone}
use Rattle.ec_lawful.specs.Whole.{ShowsAll, Whole}
use Rattle.ec_lawful.specs.SettleLaws.{Beside, IsLined, TriesAll}
use Rattle.ec_lawful.proofs.ForBegins.Beginning.{begins, begins-pushed}
use Rattle.ec_lawful.proofs.ForBegins.Ending.{steps-end}
use Rattle.ec_lawful.proofs.ForBegins.Readying.{evicts-lined, nothing, prepares, prepares-call, prepares-shows}
use Rattle.ec_lawful.proofs.ForBegins.Resending.{beside-whole}

module _ (g : System) (c b : ℕ) (tries : TriesAll g c b) (beside : Beside g c) where
  -- behind what comes before the tries
  finishes : (d : Doing) (γ : Ghost) → IsTrying g c b d γ → NoneReady d.clerk → ShowsAll (doing_in c b d γ g)
      → ((δ : Ghost) → IsTrying g c b (try_all d) δ → (Each (HasLine (doing_in c b d γ g) c) d.clerk.waiting → Each (HasLine (doing_in c b (try_all d) δ g) c) (try_all d).clerk.waiting) → Each (HasLine (doing_in c b (try_all d) δ g) c) (try_all d).clerk.waiting)
      → ((δ : Ghost) → FullsAgree (doing_in c b (evict (try_all d)) δ g)) → StepIsDone Whole g c b (evict (try_all d))
  finishes d γ t none shows lines fulls = elim (tries d γ t shows) [
    | inl s ↦ inl (spent-stays.evict (try_all d) s)
    | inr q ↦
        let rest = tries-rest d none in
        let l : IsLined g c b (try_all d) q.0 = record { trying = q.1; lines = lines q.0 q.1 q.3; shows = q.2 } in
        inr (q.0, ((((evicts-lined g c b (try_all d) q.0 l).trying).stands).0).shown, steps-end g c b q.0 beside (try_all d) l rest.1 rest.0 (fulls q.0))
  ]

  -- a step in which no call began
  pub settles : (d : Doing) (γ : Ghost) → IsLined g c b d γ → ((δ : Ghost) → FullsAgree (doing_in c b (settle d) δ g)) → StepIsDone Whole g c b (settle d)
  settles d γ l fulls =
      let p = prepares g c b d γ l in
      finishes (prepared d) γ p.trying (settles-rest d (λ none. (nothing g c b d γ l.trying none).recalls)) p.shows (λ δ t f. f p.lines) fulls

  -- one in which a call began, where at its end each has its line
  pub settles-call : (d : Doing) (γ : Ghost) → IsTrying g c b d γ → NoneReady d.clerk → ShowsAll (doing_in c b d γ g)
      → ((δ : Ghost) → IsTrying g c b (try_all (prepared d)) δ → Each (HasLine (doing_in c b (try_all (prepared d)) δ g) c) (try_all (prepared d)).clerk.waiting) → ((δ : Ghost) → FullsAgree (doing_in c b (settle d) δ g)) → StepIsDone Whole g c b (settle d)
  settles-call d γ t none shows lines fulls =
      let p = prepares-call g c b d γ t none in
      finishes (prepared d) γ p.0 p.1 (prepares-shows g c b d γ t shows) (λ δ u f. lines δ u) fulls

-- Whole steps of a clerk in a state of which all facts hold.

module _ (g : System) (whole : Whole g) (c b : ℕ) (k : Clerk) (runs : g.running c ≡ Some b) (there : g.clerks c b ≡ Some k) (tries : TriesAll g c b) where
  -- nothing that it sends refuses room
  own-fulls : (e : Doing) (δ : Ghost) → AreFullAt g.durable.max_objects (sends c e.outs) → FullsAgree (doing_in c b e δ g)
  own-fulls e δ own = each-more (λ m. IsFullAt g.durable.max_objects m.1) g.pool (sends c e.outs) whole.fulls own

  -- an operation is pushed
  pub pushes : (n : ℕ) → StepIsDone Whole g c b (push n k)
  pushes n = settles g c b tries (beside-whole g whole c) (elim (nat_le k.log.first n) as (λ z. Doing) [ true ↦ keep_push n (doing k) | false ↦ doing k ]) g.ghost (go (nat_le k.log.first n)) (λ δ. own-fulls (push n k) δ (own-full c g.durable.max_objects (push n k).outs (push-own n k)))
    where
      go : (z : Bool) → IsLined g c b (elim z as (λ z. Doing) [ true ↦ keep_push n (doing k) | false ↦ doing k ]) g.ghost
      go true = begins-pushed g whole c b k runs there n
      go false = begins g whole c b k runs there

  -- a message is taken, behind which the step stands
  pub takes : (m : Msg) (γ : Ghost) → IsLined g c b (taken m (doing k)) γ → StepIsDone Whole g c b (take m k)
  takes m γ l = settles g c b tries (beside-whole g whole c) (taken m (doing k)) γ l (λ δ. own-fulls (take m k) δ (own-full c g.durable.max_objects (take m k).outs (take-own m k)))
