-- A clerk takes a refusal of room that answers its asking: calls that need ids are answered, and the others go on waiting.
use Rattle.std.proofs.Common.{◌≡◌, refl, sym, ap, subst, ◌∙◌, ◌+◌, ℕ, Bool, true, false, T, List, [], ◌∷◌, ◌++◌, Option, Some, None, append_assoc, append-nil}
use Rattle.std.specs.Prelude.{Contains, nat_lt}
use Rattle.ec_history.specs.History.{Each}
use Rattle.ec_history.specs.declared.entry.Answer.{Answer}
use Rattle.ec_history.specs.declared.entry.Answer.TheVariants as answer
use Rattle.ec_cache.specs.declared.resolve.verdict.Verdict.{Verdict}
use Rattle.ec_cache.specs.declared.resolve.verdict.Verdict.TheVariants.{Need, Lost, NeedIds, Done}
use Rattle.ec_cache.specs.OfReport.Report.{Owed}
use Rattle.ec_wire.specs.declared.msg.Msg.TheVariants.{NoRoom}
use Rattle.ec_protocol.specs.Clerk.{Doing, idless, is_session, keep_call, refuse_make, refuse_makes, take_no_room, taken, verdict, with_clerk}
use Rattle.ec_protocol.specs.declared.clerk.Clerk.{Clerk}
use Rattle.ec_protocol.specs.declared.clerk.Out.TheVariants as out
use Rattle.ec_protocol.specs.declared.clerk.Waiting.{Waiting}
use Rattle.ec_coherence.specs.System.{System, Ghost}
use Rattle.ec_coherence.specs.Steps.{doing_in}
use Rattle.ec_lawful.specs.OfClerkSteps.CallLaws.{Passes}
use Rattle.ec_lawful.specs.OfClerkSteps.Waits.{HasLine}
use Rattle.ec_coherence.specs.Answers.{Gives}
use Rattle.ec_lawful.specs.OfClerkSteps.Answering.{Suits, answered_clerk}
use Rattle.ec_lawful.specs.OfClerkSteps.Frees.{FullsAgree, IsFull}
use Rattle.ec_lawful.specs.OfClerkSteps.Trying.{IsTrying}
use Rattle.ec_lawful.specs.Rooms.{IsCarried, OneAnswers, answered_by, left_with, unasked}
use Rattle.ec_lawful.proofs.Forgets.{forgets}

-- these calls wait behind the others
abbrev pub with_rest : List Waiting → Doing → Doing
with_rest ws d = with_clerk (λ k. record k { waiting = k.waiting ++ ws }) d

module _ (g : System) (c b : ℕ) (Q : Doing → Ghost → Type 0) (one : OneAnswers g c b Q) (live reserved : ℕ) (full : T (nat_lt g.durable.max_objects (live + reserved + 16))) where
  abbrev S : Doing → Ghost → Type 0
  S = IsCarried g c b Q

  module _ (w : Waiting) (ws : List Waiting) (more : (d : Doing) (γ : Ghost) → S (with_rest ws d) γ → (δ : Ghost) × S (with_rest [] (refuse_makes live reserved ws d)) δ) (d : Doing) (γ : Ghost) (s : S (with_rest (w ∷ ws) d) γ) where
    abbrev next : Verdict → Doing
    next v = elim (idless v) as (λ z. Doing) [ Some xs ↦ refuse_make live reserved w.no xs d | None ↦ keep_call w d ]

    abbrev Goal : Doing → Type 0
    Goal e = (δ : Ghost) × S (with_rest [] (refuse_makes live reserved ws e)) δ

    keeps : Goal (keep_call w d)
    keeps = more (keep_call w d) γ (subst (λ z. S (record d { clerk = record (d.clerk) { waiting = z } }) γ) (sym (append_assoc d.clerk.waiting (w ∷ []) ws)) s)

    abbrev vs : Verdict
    vs = verdict w.call d.clerk

    refuses-it : (xs : List ℕ) → vs ≡ NeedIds xs → Goal (refuse_make live reserved w.no xs d)
    refuses-it xs q =
        let e = with_rest (w ∷ ws) d in
        let left : Clerk = left_with (d.clerk.waiting ++ ws) e in
        let a : Answer = answer.NoRoom live reserved in
        let gives : Gives g.durable.max_objects left vs a None (answered_clerk vs left).owed = subst (λ v. Gives g.durable.max_objects left v a None (answered_clerk v left).owed) (sym q) (live, reserved, refl, full, refl, refl) in
        let suit : Suits vs left = subst (λ v. Suits v left) (sym q) tt in
        let r = one e γ s d.clerk.waiting ws w refl a None gives suit (λ o p. absurd (apart o (sym q ∙ p))) in
        more (refuse_make live reserved w.no xs d) r.0 (subst (λ v. S (record e { clerk = answered_clerk v left; outs = d.outs ++ out.Answer w.no a None ∷ [] }) r.0) q r.1)
      where
        apart : (o : _) → NeedIds xs ≡ Done o → ⊥
        apart o e = cc

    by-verdict : (v : Verdict) → vs ≡ v → Goal (next v)
    by-verdict (Need x h) q = keeps
    by-verdict (Lost ns xs) q = keeps
    by-verdict (NeedIds xs) q = refuses-it xs q
    by-verdict (Done o) q = keeps

    pub goes : Goal (next vs)
    goes = by-verdict vs refl

  pub refuses : (ws : List Waiting) (d : Doing) (γ : Ghost) → S (with_rest ws d) γ → (δ : Ghost) × S (with_rest [] (refuse_makes live reserved ws d)) δ
  refuses [] d γ s = (γ, s)
  refuses (w ∷ ws) d γ s = goes w ws (refuses ws) d γ s

  module _ (d : Doing) (γ : Ghost) (s : S d γ) (u : ℕ) (within : d.clerk.session ≡ Some u) (same : Q d γ → Q (unasked d) γ) (ask : ℕ) where
    bare : Doing
    bare = with_clerk (λ k. record k { asking = None; waiting = [] }) d

    whole : (e : Doing) (δ : Ghost) → S (with_rest [] e) δ → S e δ
    whole e δ = subst (λ z. S (record e { clerk = record (e.clerk) { waiting = z } }) δ) (append-nil e.clerk.waiting)

    refused : (δ : Ghost) × S (refuse_makes live reserved d.clerk.waiting (with_clerk (λ k. record k { asking = None; waiting = [] }) d)) δ
    refused =
        let f = forgets g c b u d γ s.trying within s.lines in
        let r = refuses d.clerk.waiting (with_clerk (λ k. record k { asking = None; waiting = [] }) d) γ (record { trying = f.0; lines = f.1; also = same s.also }) in
        (r.0, whole (refuse_makes live reserved d.clerk.waiting (with_clerk (λ k. record k { asking = None; waiting = [] }) d)) r.0 r.1)

    -- also one that answers no asking
    pub no-room : (δ : Ghost) × S (take_no_room ask live reserved d) δ
    no-room = by (is_session ask d.clerk.asking)
      where
        by : (z : Bool) → (δ : Ghost) × S (elim z as (λ y. Doing) [ true ↦ refuse_makes live reserved d.clerk.waiting (with_clerk (λ k. record k { asking = None; waiting = [] }) d) | false ↦ d ]) δ
        by true = refused
        by false = (γ, s)
