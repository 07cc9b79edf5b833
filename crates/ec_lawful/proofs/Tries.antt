-- What lines show goes on with tries and answers.
use Rattle.std.proofs.Common.{◌≡◌, subst, inl, inr, ◌⊎◌, ℕ, T, List, ◌∷◌, ◌++◌}
use Rattle.std.specs.Prelude.{is_some}
use Rattle.ec_history.specs.History.{Each}
use Rattle.ec_protocol.specs.Clerk.{Doing, Tried, Waits, Answered, try, try_all, verdict}
use Rattle.ec_protocol.specs.declared.clerk.Waiting.{Waiting}
use Rattle.ec_coherence.specs.System.{System, Ghost}
use Rattle.ec_coherence.specs.Steps.{doing_in}
use Rattle.ec_coherence.proofs.ForClerk.Settling.{Keeping, all-keeps}
use Rattle.ec_coherence.proofs.ForClerk.Try.{OnTried}
use Rattle.ec_coherence.proofs.ForClerk.TriedList.{same-verdict}
use Rattle.ec_lawful.specs.OfClerkSteps.CallLaws.{IsStillIf}
use Rattle.ec_lawful.specs.OfClerkSteps.Waits.{HasLine}
use Rattle.ec_lawful.proofs.OfClerkSteps.ForCalls.Quiet.{quiet-lines}
use Rattle.ec_lawful.proofs.OfClerkSteps.ForCalls.Still.{tries-answer}
use Rattle.ec_lawful.specs.OfClerkSteps.Trying.{IsTrying}
use Rattle.ec_lawful.proofs.OfClerkSteps.Given.{spent-verdict}
use Rattle.ec_lawful.proofs.OfClerkSteps.Single.{each-mid}
use Rattle.ec_lawful.specs.Whole.{ShowsAll}
use Rattle.ec_lawful.specs.SettleLaws.{TriesAll}
use Rattle.ec_lawful.specs.Rooms.{OneAnswers}
use Rattle.ec_lawful.specs.Tries.{ShowsOne}
use Rattle.ec_lawful.proofs.Answering.{comes-so}
use Rattle.ec_lawful.proofs.Tried.{ShownTried, tried}

-- the step, where calls had these lines when the tries began
module _ (g : System) (c b : ℕ) (L : Type 0) where
  abbrev Lined : Doing → Ghost → Type 0
  Lined e δ = Each (HasLine (doing_in c b e δ g) c) e.clerk.waiting

  abbrev Goes : Doing → Type 0
  Goes e = T (is_some e.spent) ⊎ ((δ : Ghost) × IsTrying g c b e δ × ShowsAll (doing_in c b e δ g) × (L → Lined e δ))

  one-goes : (before : List Waiting) (p : Waiting) (ws : List Waiting) (e : Doing) → Goes e → e.clerk.waiting ≡ before ++ p ∷ ws → Keeping Goes before p ws (try p e)
  one-goes before p ws e h q = elim h [
    | inl x ↦ by-spent (try p e) (spent-verdict p (verdict p.call e.clerk) e x) stays
    | inr t ↦ by-try t.0 t.1 t.2 t.3 (try p e) (tried g c b e t.0 t.1 t.2 before ws p q) (tries-answer p e).1 stays
  ]
    where
      stays : OnTried (λ f. f.clerk.waiting ≡ before ++ p ∷ ws) (try p e)
      stays = same-verdict (before ++ p ∷ ws) p (verdict p.call e.clerk) e q

      by-spent : (r : Tried) → OnTried (λ f. T (is_some f.spent)) r → OnTried (λ f. f.clerk.waiting ≡ before ++ p ∷ ws) r → Keeping Goes before p ws r
      by-spent (Waits f) x i = (inl x, i)
      by-spent (Answered f) x i = inl x

      by-try : (γ : Ghost) (t : IsTrying g c b e γ) (s : ShowsAll (doing_in c b e γ g)) → (L → Lined e γ) → (r : Tried) → ShownTried g c b e γ t s before ws p q r → IsStillIf e r → OnTried (λ f. f.clerk.waiting ≡ before ++ p ∷ ws) r → Keeping Goes before p ws r
      by-try γ t s lines (Waits f) x i k = elim x [
        | inl y ↦ (inl y, k)
        | inr y ↦ (inr (γ, y.0, y.1, (λ l. quiet-lines g c b e f γ (i.0).quiet (lines l))), k)
      ]
      by-try γ t s lines (Answered f) x i k = inr (x.0, x.1, x.2, (λ l. x.3))

  all-go : (e : Doing) → Goes e → Goes (try_all e)
  all-go e h = all-keeps Goes one-goes e h

pub tries-show : (g : System) (c b : ℕ) → TriesAll g c b
tries-show g c b d γ t s = all-go g c b (Each (HasLine (doing_in c b d γ g) c) d.clerk.waiting) d (inr (γ, t, s, (λ l. l)))

pub answers-show : (g : System) (c b : ℕ) → OneAnswers g c b (ShowsOne g c b)
answers-show g c b d γ i before rest w split a op gives suit passes =
    let x = comes-so g c b d γ i.trying i.also before rest w split a op gives suit (each-mid (HasLine (doing_in c b d γ g) c) before rest w (subst (Each (HasLine (doing_in c b d γ g) c)) split i.lines)).1 passes in
    (x.0, record { trying = x.1; lines = x.2; also = x.3 })
