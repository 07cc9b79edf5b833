-- The facts on fresh ids behind an answer of a clerk in a step under way.
use Rattle.std.proofs.Common.{◌≡◌, refl, sym, ap, subst, ◌∙◌, inl, inr, ◌⊎◌, ◌≤◌, ◌+◌, ℕ, true, T, List, [], ◌∷◌, ◌++◌, length, Option, None, Some}
use Rattle.std.specs.Prelude.{drop, is_some}
use Rattle.ec_base.specs.Tables.{put}
use Rattle.ec_volume.specs.Update.{member}
use Rattle.ec_volume.specs.declared.image.Image.TheVariants.{Gone}
use Rattle.ec_plain.specs.declared.call.Call.{Call}
use Rattle.ec_history.specs.declared.entry.Answer.{Answer}
use Rattle.ec_history.specs.declared.shown.Shown.TheVariants.{Answered}
use Rattle.ec_cache.specs.OfReport.Report.{Owed}
use Rattle.ec_cache.specs.declared.resolve.verdict.Verdict.{Verdict}
use Rattle.ec_protocol.specs.Clerk.{Doing, first_id, verdict}
use Rattle.ec_protocol.specs.declared.clerk.Clerk.{Clerk}
use Rattle.ec_protocol.specs.declared.clerk.Waiting.{Waiting}
use Rattle.ec_coherence.specs.System.{System, Ghost}
use Rattle.ec_coherence.specs.Steps.{doing_in}
use Rattle.ec_coherence.proofs.ForBatches.ClerkIn.{start-same}
use Rattle.ec_coherence.proofs.ForServer.Tables.{same_some}
use Rattle.ec_coherence.specs.CommitLaws.{AllAgree}
use Rattle.ec_coherence.specs.Answers.{Gives, fresh_of}
use Rattle.ec_lawful.specs.OfClerkSteps.Answering.{Suits, answered_clerk}
use Rattle.ec_lawful.specs.OfClerkSteps.Trying.{AnswersWith, IsTrying}
use Rattle.ec_lawful.proofs.OfClerkSteps.Clerked.{IsKept, answered-kept}
use Rattle.ec_lawful.proofs.OfClerkSteps.Turned.{same-session}
use Rattle.ec_lawful.specs.Creates.{creates}
use Rattle.ec_lawful.specs.Fresh.{FreshAgrees, Taken}
use Rattle.ec_lawful.specs.FreshLaws.{HasOld}
use Rattle.ec_lawful.proofs.ForAsked.FreshAnswered.{answers-fresh, stored-above}
use Rattle.ec_lawful.proofs.ForWhole.Goes.{in-it}
use Rattle.ec_lawful.proofs.ForAsked.Makes.{spends}
use Rattle.ec_lawful.proofs.ForWhole.FreshSteps.{hidden-was, taken-was, twice}
use Rattle.ec_base.proofs.Options.{none_some}
use Rattle.ec_lawful.proofs.OfClerkSteps.Issue.{first-gone, first-in}

-- What the ghosts are behind an answer.
module _ (g : System) (c b : ℕ) (d : Doing) (γ : Ghost) (l : ℕ) (cl : Call) (a : Answer) (op : Option ℕ) (δ : Ghost) where
  shown-is : AnswersWith g c b d γ l cl a op δ → δ.shown ≡ γ.shown ++ Answered l c cl a op ∷ []
  shown-is (inl q) = ap (λ x. x.shown) q
  shown-is (inr q) = ap (λ x. x.shown) q.4

  fresh-is : AnswersWith g c b d γ l cl a op δ → δ.fresh ≡ put (length γ.shown + 1) (fresh_of d.clerk) γ.fresh
  fresh-is (inl q) = ap (λ x. x.fresh) q
  fresh-is (inr q) = ap (λ x. x.fresh) q.4

  grants-is : AnswersWith g c b d γ l cl a op δ → δ.grants ≡ γ.grants
  grants-is (inl q) = ap (λ x. x.grants) q
  grants-is (inr q) = ap (λ x. x.grants) q.4

  first-is : AnswersWith g c b d γ l cl a op δ → δ.first ≡ γ.first
  first-is (inl q) = ap (λ x. x.first) q
  first-is (inr q) = ap (λ x. x.first) q.4

-- the verdict doesn't read which other calls wait
module _ (g : System) (c b : ℕ) (d : Doing) (γ : Ghost) (t : IsTrying g c b d γ) (ws : List Waiting) (cl : Call) where
  abbrev here : System
  here = doing_in c b d γ g

  abbrev k : Clerk
  k = d.clerk

  abbrev left : Clerk
  left = record k { waiting = ws }

  abbrev v : Verdict
  v = verdict cl left

  abbrev now : Clerk
  now = answered_clerk v left

  abbrev x : ℕ
  x = fresh_of k

  all : AllAgree here
  all = (((t.stands).0).invariant, (t.stands).1, (t.stands).2, (t.stands).3)

  at-start : here.clerks c b ≡ Some k
  at-start = start-same c b k g.clerks

  -- the id that it has, or none
  own : (x ≡ 0) ⊎ Taken here c b x
  own = by k.session refl
    where
      of-first : (s : ℕ) → k.session ≡ Some s → (o : Option ℕ) → first_id k.ids ≡ o → (x ≡ 0) ⊎ Taken here c b x
      of-first s p None q = inl (ap (λ z. Rattle.ec_coherence.specs.Answers.id_of z) q)
      of-first s p (Some y) q = inr (s, k, record { stands = at-start; session = p }, subst (λ z. T (member z k.ids)) (sym (ap (λ z. Rattle.ec_coherence.specs.Answers.id_of z) q)) (first-in y k.ids q))

      by : (o : Option ℕ) → k.session ≡ o → (x ≡ 0) ⊎ Taken here c b x
      by None p = inl (ap (λ z. Rattle.ec_coherence.specs.Answers.id_of (first_id z)) (((all.0).sessions.without c b k at-start p).ids))
      by (Some s) p = of-first s p (first_id k.ids) refl

  gone : g.origin x ≡ Gone
  gone = elim own [
    | inl z ↦ ap g.origin z ∙ (t.zeros).origin
    | inr i ↦ (((t.frees).unused i.0 x i.1 (in-it here all c b i.0 i.1 i.2) (inl i.3))).1
  ]

  module _ (a : Answer) (op : Option ℕ) (rest : Owed) (gives : Gives g.durable.max_objects left v a op rest) (suit : Suits v left) (e : Doing) (is : e.clerk ≡ now) (l : ℕ) (δ : Ghost) (how : AnswersWith g c b d γ l cl a op δ) (t2 : IsTrying g c b e δ) where
    abbrev behind : System
    behind = doing_in c b e δ g

    after : AllAgree behind
    after = (((t2.stands).0).invariant, (t2.stands).1, (t2.stands).2, (t2.stands).3)

    kept : IsKept left now
    kept = answered-kept left v suit

    same-in : now.session ≡ k.session
    same-in = same-session left v

    old : HasOld here c b e.clerk
    old = inl (k, at-start, (ap (λ z. z.session) is ∙ same-in, ap (λ z. z.got) is ∙ kept.got), λ y m. kept.fewer y (subst (λ z. T (member y z.ids)) is m))

    spent : creates cl ≡ true → T (is_some op) → (1 ≤ x) × (Taken behind c b x → ⊥)
    spent cr some = (stored-above here all t.zeros c b x (inl mine), not-left)
      where
        s : Rattle.ec_lawful.proofs.ForAsked.Makes.IsSpent left now
        s = spends left cl cr g.durable.max_objects v refl a op rest gives some

        x-is : x ≡ s.id
        x-is = ap (λ z. Rattle.ec_coherence.specs.Answers.id_of z) s.first

        mine : Taken here c b x
        mine = by k.session refl
          where
            by : (o : Option ℕ) → k.session ≡ o → Taken here c b x
            by None p = absurd (none_some (sym (ap first_id (((all.0).sessions.without c b k at-start p).ids)) ∙ s.first))
            by (Some u) p = (u, k, record { stands = at-start; session = p }, subst (λ z. T (member z k.ids)) (sym x-is) (first-in s.id k.ids s.first))

        not-left : Taken behind c b x → ⊥
        not-left (u, m, i, j) =
            let its : e.clerk ≡ m = same_some (sym (start-same c b e.clerk g.clerks) ∙ i.stands) in
            let session : k.session ≡ Some u = sym same-in ∙ ap (λ z. z.session) (sym is ∙ its) ∙ i.session in
            first-gone s.id k.ids s.first ((t.frees).once u k (in-it here all c b u k (record { stands = at-start; session = session })))
            (subst (λ z. T (member z (drop 1 k.ids))) x-is (subst (λ z. T (member x z)) (ap (λ z. z.ids) (sym its ∙ is) ∙ s.left) j))

    pub answer-fresh-step : FreshAgrees here → FreshAgrees behind
    answer-fresh-step fa = answers-fresh here behind c b l cl a op x all after t.names t.zeros (record {
      origin = refl;
      first_boot = refl;
      next = refl;
      shown = shown-is g c b d γ l cl a op δ how;
      fresh = fresh-is g c b d γ l cl a op δ how;
      own = elim own [ inl z ↦ inl z | inr i ↦ inr (((t.stands).0).runs, i) ];
      gone = gone;
      spent = spent;
      taken = λ f m y i. taken-was c b e.clerk here behind (twice g c b d e γ δ e.clerk) (grants-is g c b d γ l cl a op δ how) (first-is g c b d γ l cl a op δ how) old f m y i;
      hidden = λ f m y i. hidden-was c b e.clerk here behind (twice g c b d e γ δ e.clerk) (grants-is g c b d γ l cl a op δ how) (first-is g c b d γ l cl a op δ how) old f m y i;
    }) fa
