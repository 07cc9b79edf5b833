-- A clerk sends again what is outstanding, or greets: all facts stand behind the whole step.
use Rattle.std.proofs.Common.{◌≡◌, refl, sym, ap, subst, inl, inr, ℕ, true, false, not, T}
use Rattle.std.specs.Prelude.{Option, None, Some, is_some}
use Rattle.ec_history.specs.History.{Each}
use Rattle.ec_protocol.specs.Clerk.{Doing, claim, doing, hello, is_ready, resend, send_outstanding}
use Rattle.ec_protocol.specs.declared.clerk.Clerk.{Clerk}
use Rattle.ec_coherence.specs.System.{System}
use Rattle.ec_coherence.specs.Steps.{doing_in}
use Rattle.ec_coherence.proofs.ForServer.Lists.{each-turn}
use Rattle.ec_lawful.specs.OfClerkSteps.CallLaws as calls
use Rattle.ec_lawful.specs.OfClerkSteps.CallLaws.{IsQuiet}
use Rattle.ec_lawful.specs.OfClerkSteps.DoingLaws.{IsInHand}
use Rattle.ec_lawful.specs.OfClerkSteps.Waits.{HasLine, IsAtRest, NoneReady, does_wait}
use Rattle.ec_lawful.proofs.OfClerkSteps.ForCalls.Quiet.{quiet-calls, quiet-lines}
use Rattle.ec_lawful.proofs.OfClerkSteps.ForCalls.Quiets.{leaves-resend, quiet-hello, quiet-resend}
use Rattle.ec_lawful.proofs.OfClerkSteps.ForCalls.Still.{none-still, still-waits}
use Rattle.ec_lawful.proofs.OfClerkSteps.ForJoins.Calm.{are-calm}
use Rattle.ec_lawful.proofs.OfClerkSteps.ForJoins.Going.{calm-keeps}
use Rattle.ec_lawful.proofs.OfClerkSteps.ForJoins.Hellos.{hello-cuts, hello-stands}
use Rattle.ec_lawful.proofs.OfClerkSteps.ForDoings.Calling as calling
use Rattle.ec_lawful.proofs.OfClerkSteps.ForNames.NamesChanging.{outs-keep}
use Rattle.ec_lawful.specs.OfClerkSteps.Moves.{IsStill}
use Rattle.ec_lawful.proofs.OfClerkSteps.ForNames.Stilling.{are-still}
use Rattle.ec_lawful.proofs.OfClerkSteps.ForDoings.FreesStored.{stills-keep}
use Rattle.ec_lawful.specs.OfClerkSteps.Frees.{FullsAgree}
use Rattle.ec_lawful.specs.OfClerkSteps.Trying.{IsTrying}
use Rattle.ec_lawful.proofs.OfClerkSteps.ForNames.ZerosBehind.{steps-keep}
use Rattle.ec_lawful.proofs.OfClerkSteps.ForNames.Parts.{have-no-zero}
use Rattle.ec_lawful.specs.Steps.{StepIsDone}
use Rattle.ec_lawful.specs.Whole.{Whole}
use Rattle.ec_lawful.specs.SettleLaws.{Beside, IsLined}
use Rattle.ec_lawful.proofs.ForBegins.Beginning.{begins}
use Rattle.ec_lawful.proofs.ForBegins.Carrying.{no-zero, same-shows, still-lined}
use Rattle.ec_lawful.proofs.ForBegins.Ending.{ends-whole}

-- what another start had it has
pub beside-whole : (g : System) → Whole g → (c : ℕ) → Beside g c
beside-whole g whole c = record { orderly = whole.orderly; counts = whole.counts; doubts = whole.doubts; others = λ f a k d runs there. whole.rest f a k runs there }

module _ (g : System) (whole : Whole g) (c b : ℕ) (k : Clerk) (runs : g.running c ≡ Some b) (there : g.clerks c b ≡ Some k) where
  first : IsLined g c b (doing k) g.ghost
  first = begins g whole c b k runs there

  t : IsTrying g c b (doing k) g.ghost
  t = first.trying

  -- in a session

  abbrev e : Doing
  e = send_outstanding (claim (doing k))

  e-still : IsStill k e.clerk
  e-still = let i = are-still.outstanding (claim (doing k)) in i

  same-resend : (s : ℕ) → k.session ≡ Some s → resend k ≡ e
  same-resend s p = ap (λ o. elim (is_some o) as (λ z. Doing) [ true ↦ e | false ↦ hello (doing k) ]) p

  inside : (s : ℕ) → k.session ≡ Some s → IsLined g c b (resend k) g.ghost
  inside s p = subst (λ d. IsLined g c b d g.ghost) (sym (same-resend s p)) (still-lined g c b s (doing k) e g.ghost t
      (subst (λ d. IsInHand g c b s d g.ghost) (same-resend s p) (calling.all-again g whole.all whole.orderly whole.names c b s k runs there p))
      (subst (λ d. IsQuiet (doing k) d) (same-resend s p) (quiet-resend k))
      (have-no-zero.same (doing k) e (have-no-zero.then (doing k) (claim (doing k)) e (have-no-zero.claims (doing k)) (have-no-zero.outstanding (claim (doing k)))) (no-zero g c b (doing k) g.ghost t))
      (stills-keep g c b (doing k) g.ghost t.frees e g.ghost refl refl refl refl refl (inl e-still))
      (calm-keeps g c b (doing k) e g.ghost (are-calm.then (doing k) (claim (doing k)) e (are-calm.claims (doing k)) (are-calm.outstanding (claim (doing k)))) t.cuts) first.lines first.shows e-still)

  -- without one

  abbrev h : Doing
  h = hello (doing k)

  greets : k.session ≡ None → IsLined g c b h g.ghost
  greets none =
      let q = quiet-hello (doing k) in
      let lines : Each (HasLine (doing_in c b h g.ghost g) c) k.waiting = quiet-lines g c b (doing k) h g.ghost q first.lines in
      record {
        trying = record {
          stands = hello-stands g c b (doing k) g.ghost t.stands;
          place = inl none;
          calls = quiet-calls g c b (doing k) h g.ghost q t.calls;
          turn = inl lines;
          orderly = t.orderly;
          names = outs-keep g c b (doing k) g.ghost t.names h.outs g.ghost.shown g.ghost.history;
          zeros = steps-keep g c b (doing k) h g.ghost g.ghost (record { origin = refl; kept = refl; frozen = refl; next_id = refl; grants = refl; first = refl }) (no-zero g c b (doing k) g.ghost t) t.zeros;
          frees = stills-keep g c b (doing k) g.ghost t.frees h g.ghost refl refl refl refl refl (inl (refl, refl, refl));
          cuts = hello-cuts g c b (doing k) g.ghost t.stands t.cuts;
        };
        lines = lines;
        shows = (let st = hello-stands g c b (doing k) g.ghost t.stands in same-shows g c b (doing k) h g.ghost t ((st.0).invariant, st.1, st.2, st.3) (refl, refl, refl) first.shows);
      }

  outside : k.session ≡ None → IsLined g c b (resend k) g.ghost
  outside none = subst (λ d. IsLined g c b d g.ghost) (sym (ap (λ o. elim (is_some o) as (λ z. Doing) [ true ↦ e | false ↦ h ]) none)) (greets none)

  resent : IsLined g c b (resend k) g.ghost
  resent = by k.session refl
    where
      by : (o : Option ℕ) → k.session ≡ o → IsLined g c b (resend k) g.ghost
      by None p = outside p
      by (Some s) p = inside s p

  at-rest : IsAtRest g c k
  at-rest = whole.rest c b k runs there

  still : calls.IsStill (doing k) (resend k)
  still = (leaves-resend k).0

  still-wait : Each (λ w. T (does_wait w (resend k).clerk)) (resend k).clerk.waiting
  still-wait = subst (Each (λ w. T (does_wait w (resend k).clerk))) (sym (still.quiet).waiting) (each-turn (λ w. T (does_wait w k) × HasLine g c w) (λ w. T (does_wait w (resend k).clerk)) k.waiting (λ w q. subst T (sym (still-waits (doing k) (resend k) still w)) q.0) at-rest.calls)

  none-ready : NoneReady (resend k).clerk
  none-ready = subst (Each (λ r. T (not (is_ready r (resend k).clerk)))) (sym (leaves-resend k).1) (none-still (doing k) (resend k) still k.recalls at-rest.recalls)

  pub resends-keep : FullsAgree (doing_in c b (resend k) g.ghost g) → StepIsDone Whole g c b (resend k)
  resends-keep fulls = inr (g.ghost, (((resent.trying).stands).0).shown, ends-whole g c b g.ghost (beside-whole g whole c) (resend k) resent none-ready still-wait fulls)
