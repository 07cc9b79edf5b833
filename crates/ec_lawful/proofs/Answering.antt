-- Behind an answer of a step under way lines show what they should.
use Rattle.std.proofs.Common.{◌≡◌, refl, ℕ, List, [], ◌∷◌, ◌++◌, Option}
use Rattle.ec_history.specs.History.{Each}
use Rattle.ec_history.specs.declared.entry.Answer.{Answer}
use Rattle.ec_protocol.specs.Clerk.{Doing, verdict}
use Rattle.ec_protocol.specs.declared.clerk.Clerk.{Clerk}
use Rattle.ec_protocol.specs.declared.clerk.Out.TheVariants as out
use Rattle.ec_protocol.specs.declared.clerk.Waiting.{Waiting}
use Rattle.ec_coherence.specs.System.{System, Ghost}
use Rattle.ec_coherence.specs.Steps.{doing_in}
use Rattle.ec_coherence.specs.CommitLaws.{AllAgree}
use Rattle.ec_lawful.specs.OfClerkSteps.CallLaws.{Passes}
use Rattle.ec_lawful.specs.OfClerkSteps.Waits.{HasLine}
use Rattle.ec_coherence.specs.Answers.{Gives}
use Rattle.ec_lawful.specs.OfClerkSteps.Answering.{Suits, answered_clerk}
use Rattle.ec_lawful.specs.OfClerkSteps.Trying.{IsTrying}
use Rattle.ec_lawful.proofs.OfClerkSteps.Single as single
use Rattle.ec_lawful.proofs.OfClerkSteps.Singles.{singles}
use Rattle.ec_lawful.proofs.ForAsked.FreshAnswering.{answer-fresh-step}
use Rattle.ec_lawful.specs.Whole.{ShowsAll}
use Rattle.ec_lawful.proofs.Telling.{answer-step-tells}

pub all-in : (g : System) (c b : ℕ) (d : Doing) (γ : Ghost) → IsTrying g c b d γ → AllAgree (doing_in c b d γ g)
all-in g c b d γ t = (((t.stands).0).invariant, (t.stands).1, (t.stands).2, (t.stands).3)

-- The step stands behind an answer that leaves the clerk so, with its lines, and with what they show.
abbrev pub Comes : (g : System) (c b : ℕ) (d : Doing) → Waiting → Answer → Option ℕ → Clerk → Type 0
Comes g c b d w a op now =
    let e : Doing = record d { clerk = now; outs = d.outs ++ out.Answer w.no a op ∷ [] } in
    (δ : Ghost) × IsTrying g c b e δ × Each (HasLine (doing_in c b e δ g) c) now.waiting × ShowsAll (doing_in c b e δ g)

pub comes-so : (g : System) (c b : ℕ) (d : Doing) (γ : Ghost) (t : IsTrying g c b d γ) → ShowsAll (doing_in c b d γ g) → (before rest : List Waiting) (w : Waiting) (split : d.clerk.waiting ≡ before ++ w ∷ rest) (a : Answer) (op : Option ℕ)
    → let left : Clerk = record (d.clerk) { waiting = before ++ rest } in Gives g.durable.max_objects left (verdict w.call left) a op (answered_clerk (verdict w.call left) left).owed → Suits (verdict w.call left) left
    → Each (HasLine (doing_in c b d γ g) c) (before ++ rest) → Passes d.clerk w → Comes g c b d w a op (answered_clerk (verdict w.call left) left)
comes-so g c b d γ t s before rest w split a op gives suit lines passes =
    let left : Clerk = record (d.clerk) { waiting = before ++ rest } in
    let now : Clerk = answered_clerk (verdict w.call left) left in
    let e : Doing = record d { clerk = now; outs = d.outs ++ out.Answer w.no a op ∷ [] } in
    let x = singles g c b d γ t before rest w split a op gives suit lines passes in
    let l = single.l g c b d γ t before rest w split in (
      x.0,
      x.2,
      x.3,
      record {
        tells = answer-step-tells g c b d e γ x.0 l w.call a op (all-in g c b d γ t) (all-in g c b e x.0 x.2) x.1 s.tells;
        fresh = answer-fresh-step g c b d γ t (before ++ rest) w.call a op now.owed gives suit e refl l x.0 x.1 x.2 s.fresh;
      },
    )
