-- An answer of a clerk in its open session, in a step under way.
use Rattle.std.proofs.Common.{◌≡◌, ◌≢◌, refl, sym, ap, subst, ◌∙◌, inl, inr, ◌⊎◌, ◌+◌, ℕ, not, T, List, [], ◌∷◌, ◌++◌, length, Option, Some, None}
use Rattle.std.proofs.lemmas.Bool.{cases_eq}
use Rattle.ec_base.specs.Tables.{put}
use Rattle.ec_base.specs.declared.ids.Age.{Age}
use Rattle.ec_volume.specs.Update.{has_operand, member, operands}
use Rattle.ec_history.specs.History.{Each, Op}
use Rattle.ec_history.specs.Placing.{MayFollow, place}
use Rattle.ec_history.specs.declared.entry.Answer.{Answer}
use Rattle.ec_history.specs.declared.shown.Shown.TheVariants.{Answered}
use Rattle.ec_protocol.specs.Clerk.{Doing, verdict}
use Rattle.ec_protocol.specs.declared.clerk.Clerk.{Clerk}
use Rattle.ec_protocol.specs.declared.clerk.Waiting.{Waiting}
use Rattle.ec_coherence.specs.System.{System, Ghost, clerk_in, is_open, seen_ops}
use Rattle.ec_coherence.specs.Tokens.{Names, is_hidden, view}
use Rattle.ec_coherence.specs.Steps.{doing_in, less_call}
use Rattle.ec_coherence.specs.ChangeLaws.{IsInIt, with_clerk}
use Rattle.ec_coherence.proofs.ForBatches.ClerkIn.{now-in, start-same}
use Rattle.ec_coherence.proofs.ForServer.Tables.{same_some}
use Rattle.ec_coherence.specs.CommitLaws.{AllAgree}
use Rattle.ec_coherence.proofs.Rests.{rests-stand}
use Rattle.ec_lawful.specs.OfClerkSteps.CallLaws.{Passes}
use Rattle.ec_lawful.specs.OfClerkSteps.Waits.{HasLine}
use Rattle.ec_lawful.proofs.OfClerkSteps.ForCalls.Follows.{follows}
use Rattle.ec_lawful.proofs.OfClerkSteps.ForCalls.Settled.{settled}
use Rattle.ec_lawful.specs.OfClerkSteps.Names.{AreOnNamed, NamesAgree}
use Rattle.ec_lawful.specs.OfClerkSteps.Cuts.{CutsAgree}
use Rattle.ec_lawful.proofs.OfClerkSteps.ForJoins.Going.{plain-keeps}
use Rattle.ec_coherence.specs.Answers.{Gives, answered_ghost, fresh_of, op_given}
use Rattle.ec_lawful.specs.OfClerkSteps.Answering.{Suits}
use Rattle.ec_lawful.specs.OfClerkSteps.Frees.{FreesAgree}
use Rattle.ec_lawful.specs.OfClerkSteps.Trying.{IsTrying}
use Rattle.ec_lawful.specs.OfClerkSteps.Zeros.{LeaveOut, ZerosAgree}
use Rattle.ec_lawful.proofs.OfClerkSteps.Framed as framed
use Rattle.ec_lawful.proofs.OfClerkSteps.Issue.{op-named, others-left, own-left}
use Rattle.ec_lawful.proofs.OfClerkSteps.Live as live
use Rattle.ec_lawful.proofs.OfClerkSteps.One.{live-answers}
use Rattle.ec_lawful.proofs.OfClerkSteps.Single as single
use Rattle.ec_lawful.proofs.OfClerkSteps.Single.{IsIssued, gives-same, issued-or}
use Rattle.ec_lawful.proofs.OfClerkSteps.SameStores.{SameStore, frees-stay, names-stay, session-store}
use Rattle.ec_lawful.proofs.OfClerkSteps.Target as target
use Rattle.ec_lawful.proofs.OfClerkSteps.Turned.{same-age, same-session}
use Rattle.ec_base.proofs.Options.{none_some}
use Rattle.ec_history.proofs.HistoryLemmas.{each-more as each-append}

module _ (g : System) (c s : ℕ) (age : Age) (d : Doing) (γ : Ghost) (t : IsTrying g c age.boot d γ) (owns : γ.owner s ≡ Some (c, age)) (in_it : d.clerk.session ≡ Some s) (before rest : List Waiting) (w : Waiting) (split : d.clerk.waiting ≡ before ++ w ∷ rest)
    (a : Answer) (op : Option ℕ) (gives : Gives g.durable.max_objects (single.left g c age.boot d γ t before rest w split) (single.v g c age.boot d γ t before rest w split) a op (single.now g c age.boot d γ t before rest w split).owed)
    (suit : Suits (single.v g c age.boot d γ t before rest w split) (single.left g c age.boot d γ t before rest w split)) (lines : Each (HasLine (doing_in c age.boot d γ g) c) (before ++ rest)) (passes : Passes d.clerk w) where
  abbrev b : ℕ
  b = age.boot

  abbrev here : System
  here = single.here g c b d γ t before rest w split

  abbrev left : Clerk
  left = single.left g c b d γ t before rest w split

  abbrev now : Clerk
  now = single.now g c b d γ t before rest w split

  abbrev l : ℕ
  l = single.l g c b d γ t before rest w split

  all : AllAgree here
  all = single.all g c b d γ t before rest w split

  at-start : here.clerks c b ≡ Some d.clerk
  at-start = single.at-start g c b d γ t before rest w split

  running : here.running c ≡ Some b
  running = single.running g c b d γ t before rest w split

  in-it : IsInIt here c s age d.clerk
  in-it = record { start = record { owns = owns; stands = at-start }; session = in_it }

  abbrev p : ℕ
  p = length γ.shown + 1

  abbrev os : List Op
  os = op_given c b p left (verdict w.call left)

  abbrev δ : Ghost
  δ = answered_ghost c l w.call a op (fresh_of left) os γ

  abbrev behind : System
  behind = single.behind g c b d γ t before rest w split a op gives suit lines δ

  -- Names, what is in store, and cut-off starts.

  kept : Rattle.ec_lawful.proofs.OfClerkSteps.Clerked.IsKept left now
  kept = single.kept g c b d γ t before rest w split a op gives suit lines δ

  store : SameStore here behind
  store = session-store here c s age d.clerk now owns at-start in_it (same-session left (verdict w.call left) ∙ in_it) kept.got kept.fewer kept.once (less_call c w.no here.calls) here.pool (γ.kept ++ os) γ.frozen
      (γ.shown ++ Answered l c w.call a op ∷ []) (place (γ.shown ++ Answered l c w.call a op ∷ [])) (put p (fresh_of left) γ.fresh)

  ops-named : AreOnNamed here os
  ops-named = elim (issued-or left c b p (verdict w.call left) suit) [
    | inl n ↦ subst (AreOnNamed here) (sym n.0) tt
    | inr i ↦ subst (AreOnNamed here) (sym i.op) (op-named here all c s age d.clerk in-it t.frees w.call i.outcome i.done i.update i.updates i.fits, tt)
  ]

  names-now : NamesAgree behind
  names-now = names-stay here behind store t.names (each-append (λ o. Each (Names (view here)) (operands o.update)) γ.kept os (t.names).kept ops-named) (t.names).frozen

  module _ (its-open : T (is_open here s)) where
    there-now : clerk_in behind s ≡ Some now
    there-now = now-in γ.owner here.clerks c s age d.clerk now owns at-start in_it (same-session left (verdict w.call left) ∙ in_it)

    ops-left : (u x : ℕ) (m : Clerk) → clerk_in behind u ≡ Some m → T (member x m.ids) ⊎ T (is_hidden (view here) u x) → γ.frozen u ≡ None → LeaveOut x os
    ops-left u x m q i f = elim (issued-or left c b p (verdict w.call left) suit) [
      | inl n ↦ subst (LeaveOut x) (sym n.0) tt
      | inr z ↦ subst (LeaveOut x) (sym z.op) (by z (cases_eq u s), tt)
    ]
      where
        by : (z : IsIssued left now c b p (verdict w.call left) os) → (u ≡ s) ⊎ (u ≢ s) → T (not (has_operand x z.update))
        by z (inl e) =
            let is : now ≡ m = same_some (sym there-now ∙ ap (clerk_in behind) (sym e) ∙ q) in
            own-left here all c s age d.clerk in-it t.frees w.call z.outcome z.done z.update z.updates z.fits x (elim i [
              | inl y ↦ inl (subst (λ v. T (member x v)) (ap (λ v. v.ids) (sym is) ∙ z.left) y)
              | inr y ↦ inr (subst (λ v. T (is_hidden (view here) v x)) e y)
            ])
        by z (inr n) =
            let was = store.ids u m q in
            others-left here all c s age d.clerk in-it t.frees w.call z.outcome z.done z.update z.updates z.fits its-open u x was.0 (λ e. absurd (n (sym e))) was.1 f (elim i [ inl y ↦ inl (was.2 x y) | inr y ↦ inr y ])

    frees-now : FreesAgree behind
    frees-now = frees-stay here behind store t.frees (λ u x m q i f. go u x m q i (γ.frozen u) refl f)
      where
        go : (u x : ℕ) (m : Clerk) → clerk_in behind u ≡ Some m → T (member x m.ids) ⊎ T (is_hidden (view here) u x) → (z : Option (List Op)) → γ.frozen u ≡ z → LeaveOut x (seen_ops z γ.kept) → LeaveOut x (seen_ops z (γ.kept ++ os))
        go u x m q i (Some ks) e f = f
        go u x m q i None e f = each-append (λ o. T (not (has_operand x o.update))) γ.kept os f (ops-left u x m q i e)

    cuts-now : CutsAgree behind
    cuts-now = plain-keeps here behind c b d.clerk now l w.call a op (record {
      runs = running;
      stands = at-start;
      age = same-age left (verdict w.call left);
      slots = λ f. refl;
      running = refl;
      clerks = refl;
      owner = refl;
      is_durable = refl;
      shown = refl;
    }) refl (inl (live.live here all c s age d.clerk in-it t.zeros its-open).uncut) t.cuts

    -- All facts.

    abbrev here2 : System
    here2 = with_clerk here c b left here.calls []

    all2 : AllAgree here2
    all2 = rests-stand here all c s age d.clerk left in-it (record { id = refl; age = refl; session = refl; owed = refl; next = refl }) refl refl refl here.calls [] tt tt tt

    zeros2 : ZerosAgree here2
    zeros2 = framed.zeros-stay here c b d.clerk left at-start refl refl refl here.calls γ.kept γ.frozen γ.shown γ.history γ.fresh (t.zeros).kept (t.zeros).frozen (λ z. record { ids = z.ids; undurable = z.undurable; owed = z.owed }) t.zeros

    line-follows : MayFollow γ.shown (Answered l c w.call a op)
    line-follows = follows here all t.calls c b w.no l w.call d.clerk running at-start (single.line g c b d γ t before rest w split) a op (λ n. absurd (none_some (sym n ∙ in_it)))

    one : AllAgree behind × ZerosAgree behind
    one =
        let f = live-answers here2 all2 zeros2 c s age left (record { start = record { owns = owns; stands = start-same c b left here.clerks }; session = in_it }) running its-open w.no l w.call a op gives suit line-follows
        (settled here all.0 all.3 t.calls c b d.clerk w l (single.waits-at g c b d γ t before rest w split) (live.live here all c s age d.clerk in-it t.zeros its-open) (live.sees here all c s age d.clerk in-it t.zeros its-open) passes
        g.durable.max_objects a op now.owed (gives-same g.durable.max_objects d.clerk (before ++ rest) (verdict w.call left) a op now.owed gives)) in
        let path = target.plain-is g c b d γ w.no l w.call a op now δ (single.line g c b d γ t before rest w split) left in
        (subst AllAgree path f.0, subst ZerosAgree path f.1)

    pub living : IsTrying g c b (single.next g c b d γ t before rest w split a op gives suit lines δ) δ
    living = single.tries-on g c b d γ t before rest w split a op gives suit lines δ refl refl one.0 one.1 frees-now names-now cuts-now
