-- Where nobody runs and no call is under way.
use Rattle.std.proofs.Common.{◌≡◌, sym, ap, ◌∙◌, ℕ, [], None}
use Rattle.ec_coherence.specs.System.{System}
use Rattle.ec_coherence.specs.Steps.{call_of}
use Rattle.ec_lawful.specs.OfClerkSteps.Calls.{CallsAgree}
use Rattle.ec_lawful.specs.OfClerkSteps.Waits.{AreAtRest}
use Rattle.ec_base.proofs.Options.{none_some}

module _ (g : System) (still : (c : ℕ) → g.running c ≡ None) (none : g.calls ≡ []) where
  pub opening-calls : CallsAgree g
  opening-calls = record {
    starts = λ c b k run there. absurd (none_some (sym (still c) ∙ run));
    calls = λ c n l cl x. absurd (none_some (sym (ap (call_of c n) none) ∙ x));
    lines = λ c d n m l cl dl x y. absurd (none_some (sym (ap (call_of c n) none) ∙ x));
  }

  pub opening-rest : AreAtRest g
  opening-rest c b k run there = absurd (none_some (sym (still c) ∙ run))
