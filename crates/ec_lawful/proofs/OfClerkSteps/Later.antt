-- An answer of a clerk whose session has ended, in a step under way.
use Rattle.std.proofs.Common.{◌≡◌, refl, sym, ap, subst, ◌∙◌, inl, inr, ◌⊎◌, ◌+◌, ℕ, Bool, true, false, not, ◌==◌, ◌&&◌, T, List, [], ◌∷◌, ◌++◌, length, Option, Some, None, append-nil}
use Rattle.std.specs.List.{filter}
use Rattle.ec_base.specs.declared.ids.Age.{Age}
use Rattle.ec_volume.specs.Update.{has_operand, listed, member, operands}
use Rattle.ec_volume.specs.Volume.{after}
use Rattle.ec_volume.specs.declared.update.Update.{Update}
use Rattle.ec_history.specs.History.{Each, Op, numbers, updates}
use Rattle.ec_history.specs.Placing.{MayFollow}
use Rattle.ec_history.specs.declared.entry.Answer.{Answer}
use Rattle.ec_history.specs.declared.shown.Shown.TheVariants.{Answered}
use Rattle.ec_cache.specs.OfResolve.Agreement.{Shows}
use Rattle.ec_cache.specs.declared.resolve.verdict.Verdict.{Verdict}
use Rattle.ec_cache.specs.declared.resolve.verdict.Verdict.TheVariants.{Need, Lost, NeedIds, Done}
use Rattle.ec_protocol.specs.Clerk.{Doing, first_id, verdict}
use Rattle.ec_protocol.specs.declared.clerk.Clerk.{Clerk}
use Rattle.ec_protocol.specs.declared.clerk.Waiting.{Waiting}
use Rattle.ec_coherence.specs.System.{System, Ghost, at_session, clerk_in, is_of, seen_ops}
use Rattle.ec_coherence.specs.Tokens.{Names, is_hidden, view}
use Rattle.ec_coherence.specs.Steps.{doing_in, less_call}
use Rattle.ec_coherence.specs.Events.{cut_in}
use Rattle.ec_coherence.specs.ChangeLaws.{IsInIt, with_clerk}
use Rattle.ec_coherence.proofs.ForBatches.ClerkIn.{now-in, start-same}
use Rattle.ec_coherence.proofs.ForServer.Tables.{same_some}
use Rattle.ec_coherence.specs.CommitLaws.{AllAgree}
use Rattle.ec_coherence.proofs.Rests.{rests-stand}
use Rattle.ec_lawful.specs.OfClerkSteps.CallLaws.{Passes}
use Rattle.ec_lawful.specs.OfClerkSteps.Waits.{HasLine}
use Rattle.ec_lawful.proofs.OfClerkSteps.ForCalls.Follows.{follows}
use Rattle.ec_lawful.proofs.OfClerkSteps.ForCalls.Settled.{late-settled}
use Rattle.ec_lawful.specs.OfClerkSteps.Names.{AreOnNamed, NamesAgree}
use Rattle.ec_lawful.specs.OfClerkSteps.Cuts.{CutsAgree, CutKnows}
use Rattle.ec_lawful.specs.OfClerkSteps.Frames.{AnswersAs}
use Rattle.ec_lawful.proofs.OfClerkSteps.ForJoins.Going.{late-keeps, plain-keeps}
use Rattle.ec_coherence.specs.Answers.{Gives, fresh_of, op_given, seen_by}
use Rattle.ec_coherence.proofs.ForCommits.Answering.{fresh-gone}
use Rattle.ec_coherence.proofs.ForCommits.Judged.{shows-all}
use Rattle.ec_lawful.specs.OfClerkSteps.Answering.{Suits, answered_clerk, done_clerk}
use Rattle.ec_lawful.specs.OfClerkSteps.Frees.{FreesAgree}
use Rattle.ec_lawful.specs.OfClerkSteps.Trying.{IsTrying, late_ghost}
use Rattle.ec_lawful.specs.OfClerkSteps.Zeros.{LeaveOut, ZerosAgree}
use Rattle.ec_lawful.proofs.OfClerkSteps.Framed as framed
use Rattle.ec_lawful.proofs.OfClerkSteps.Issue.{op-named, own-left}
use Rattle.ec_lawful.proofs.OfClerkSteps.LateFits as fits
use Rattle.ec_lawful.proofs.OfClerkSteps.LateNodes.{same-frozen}
use Rattle.ec_lawful.proofs.OfClerkSteps.LateOne as one
use Rattle.ec_lawful.proofs.OfClerkSteps.Single as single
use Rattle.ec_lawful.proofs.OfClerkSteps.Single.{IsIssued, gives-same, issued-or}
use Rattle.ec_lawful.proofs.OfClerkSteps.SameStores.{SameStore, frees-stay, names-stay, session-store}
use Rattle.ec_lawful.proofs.OfClerkSteps.Target as target
use Rattle.ec_lawful.proofs.OfClerkSteps.Turned.{named-is, same-age, same-session}
use Rattle.ec_base.proofs.Options.{none_some}
use Rattle.ec_base.proofs.Numbers.{equal}
use Rattle.ec_history.proofs.HistoryLemmas.{each-more as each-append}

-- Other waiting calls change nothing of what an answer does.

module _ (k : Clerk) (ws : List Waiting) where
  pub owed-same : (v : Verdict) → (answered_clerk v (record k { waiting = ws })).owed ≡ (answered_clerk v k).owed
  owed-same (Need x h) = refl
  owed-same (Lost ns xs) = refl
  owed-same (NeedIds xs) = refl
  owed-same (Done o) = go o.update
    where
      go : (u : Option Update) → (done_clerk o u (record k { waiting = ws })).owed ≡ (done_clerk o u k).owed
      go None = refl
      go (Some u) = refl

  pub suits-same : (v : Verdict) → Suits v (record k { waiting = ws }) → Suits v k
  suits-same (Need x h) f = tt
  suits-same (Lost ns xs) f = tt
  suits-same (NeedIds xs) f = tt
  suits-same (Done o) f = λ u q. f u q

  pub waiting-last : (v : Verdict) → ◌≡◌ {A = Clerk} (record (answered_clerk v k) { waiting = ws }) (answered_clerk v (record k { waiting = ws }))
  waiting-last (Need x h) = refl
  waiting-last (Lost ns xs) = refl
  waiting-last (NeedIds xs) = refl
  waiting-last (Done o) = go o.update
    where
      go : (u : Option Update) → ◌≡◌ {A = Clerk} (record (done_clerk o u k) { waiting = ws }) (done_clerk o u (record k { waiting = ws }))
      go None = refl
      go (Some u) = refl

-- no number, no operation
no-listed : (op : Option ℕ) → listed op ≡ [] → op ≡ None
no-listed None e = refl
no-listed (Some n) e = absurd (apart e)
  where
    apart : n ∷ [] ≡ [] → ⊥
    apart e = cc

module _ (g : System) (c s : ℕ) (age : Age) (d : Doing) (γ : Ghost) (t : IsTrying g c age.boot d γ) (owns : γ.owner s ≡ Some (c, age)) (in_it : d.clerk.session ≡ Some s) (ks : List Op) (fz : γ.frozen s ≡ Some ks) (before rest : List Waiting) (w : Waiting) (split : d.clerk.waiting ≡ before ++ w ∷ rest)
    (a : Answer) (op : Option ℕ) (gives : Gives g.durable.max_objects (single.left g c age.boot d γ t before rest w split) (single.v g c age.boot d γ t before rest w split) a op (single.now g c age.boot d γ t before rest w split).owed)
    (suit : Suits (single.v g c age.boot d γ t before rest w split) (single.left g c age.boot d γ t before rest w split)) (lines : Each (HasLine (doing_in c age.boot d γ g) c) (before ++ rest)) (passes : Passes d.clerk w) where
  abbrev b : ℕ
  b = age.boot

  abbrev here : System
  here = single.here g c b d γ t before rest w split

  abbrev left : Clerk
  left = single.left g c b d γ t before rest w split

  abbrev now : Clerk
  now = single.now g c b d γ t before rest w split

  abbrev l : ℕ
  l = single.l g c b d γ t before rest w split

  abbrev v : Verdict
  v = verdict w.call d.clerk

  abbrev k : Clerk
  k = d.clerk

  all : AllAgree here
  all = single.all g c b d γ t before rest w split

  at-start : here.clerks c b ≡ Some k
  at-start = single.at-start g c b d γ t before rest w split

  running : here.running c ≡ Some b
  running = single.running g c b d γ t before rest w split

  in-it : IsInIt here c s age k
  in-it = record { start = record { owns = owns; stands = at-start }; session = in_it }

  abbrev most : ℕ
  most = g.durable.max_objects

  abbrev p : ℕ
  p = length γ.shown + 1

  abbrev os : List Op
  os = op_given c b p k v

  its-gives : Gives most k v a op (answered_clerk v k).owed
  its-gives = subst (Gives most k v a op) (owed-same k (before ++ rest) v) (gives-same most k (before ++ rest) v a op now.owed gives)

  its-suit : Suits v k
  its-suit = suits-same k (before ++ rest) v suit

  abbrev pub δ : Ghost
  δ = late_ghost s c ks l w.call a op (fresh_of k) os γ

  abbrev behind : System
  behind = single.behind g c b d γ t before rest w split a op gives suit lines δ

  line-follows : MayFollow γ.shown (Answered l c w.call a op)
  line-follows = follows here all t.calls c b w.no l w.call k running at-start (single.line g c b d γ t before rest w split) a op (λ n. absurd (none_some (sym n ∙ in_it)))

  -- What it lost, and that the answer covers nothing of it.

  own-is : γ.owner s ≡ Some (c, k.age)
  own-is = fits.own here all t.zeros t.frees c s age k in-it running ks fz l w.call a op its-gives line-follows

  cut-knows : CutKnows here c s k ks
  cut-knows = t.cuts c b s k ks running at-start own-is fz

  lost-is : (one.cut here all t.zeros t.frees c s age k in-it running ks fz w.no l w.call a op its-gives its-suit line-follows).lost ≡ numbers (filter (λ o. is_of (γ.owner s) o && not (γ.is_durable o)) ks)
  lost-is = same_some (sym (one.cut here all t.zeros t.frees c s age k in-it running ks fz w.no l w.call a op its-gives its-suit line-follows).untold ∙ cut-knows.untold)

  saw : Shows k.cache (first_id k.ids) (after g.origin (updates ks))
  saw =
      let f = fits.sees here all t.zeros t.frees c s age k in-it running ks fz l w.call a op its-gives line-follows in
      subst (Shows k.cache (first_id k.ids)) (ap (λ z. after g.origin (updates (seen_ops z γ.kept))) (ap (cut_in here) in_it ∙ fz)) (shows-all k.cache (seen_by here k) f.images (first_id k.ids) (fresh-gone here k f))

  abbrev hh : System
  hh = one.h here all t.zeros t.frees c s age k in-it running ks fz w.no l w.call a op its-gives its-suit line-follows

  both : AllAgree hh × ZerosAgree hh
  both =
      let q = ((all.0).sessions).owned s (c, age) owns in
      one.late-answers here all t.zeros t.frees c s age k in-it running ks fz w.no l w.call a op its-gives its-suit line-follows
      (late-settled here all.0 all.3 t.calls c b k w l (single.waits-at g c b d γ t before rest w split) s ks own-is saw (q.2).window (cut-knows.knows q.2 q.3) (one.cut here all t.zeros t.frees c s age k in-it running ks fz w.no l w.call a op its-gives its-suit line-follows) lost-is passes most a op (answered_clerk v k).owed its-gives)
      lost-is

  -- The waiting calls leave.

  abbrev alone : Clerk
  alone = answered_clerk v k

  abbrev short : Clerk
  short = record alone { waiting = before ++ rest }

  last : short ≡ now
  last = waiting-last k (before ++ rest) v

  hh-in-it : IsInIt hh c s age alone
  hh-in-it = record { start = record { owns = owns; stands = start-same c b alone here.clerks }; session = same-session k v ∙ in_it }

  path : with_clerk hh c b short hh.calls [] ≡ behind
  path = target.plain-is g c b d γ w.no l w.call a op short δ (single.line g c b d γ t before rest w split) alone ∙ ap (λ z. target.target g c b d γ w.no l w.call a op z δ) last

  all-now : AllAgree behind
  all-now = subst AllAgree path (rests-stand hh both.0 c s age alone short hh-in-it (record { id = refl; age = refl; session = refl; owed = refl; next = refl }) refl refl refl hh.calls [] tt tt tt)

  zeros-now : ZerosAgree behind
  zeros-now = subst ZerosAgree path (framed.zeros-stay hh c b alone short (start-same c b alone here.clerks) refl refl refl hh.calls δ.kept δ.frozen δ.shown δ.history δ.fresh (both.1).kept (both.1).frozen (λ z. record { ids = z.ids; undurable = z.undurable; owed = z.owed }) both.1)

  -- Names, what is in store, and cut-off starts.

  kept : Rattle.ec_lawful.proofs.OfClerkSteps.Clerked.IsKept left now
  kept = single.kept g c b d γ t before rest w split a op gives suit lines δ

  store : SameStore here behind
  store = session-store here c s age k now owns at-start in_it (same-session left (verdict w.call left) ∙ in_it) kept.got kept.fewer kept.once (less_call c w.no here.calls) here.pool γ.kept δ.frozen δ.shown δ.history δ.fresh

  by-own : (P : Option (List Op) → ℕ → Type 0) → P (Some (ks ++ os)) s → ((u : ℕ) → P (γ.frozen u) u) → (u : ℕ) → P (δ.frozen u) u
  by-own P own other u = go (u == s) refl
    where
      go : (y : Bool) → (u == s) ≡ y → P (elim y as (λ z. Option (List Op)) [ true ↦ Some (ks ++ os) | false ↦ γ.frozen u ]) u
      go true q = subst (P (Some (ks ++ os))) (sym (equal u s q)) own
      go false q = other u

  issued : ((os ≡ []) × ((answered_clerk v k).log ≡ k.log)) ⊎ IsIssued k (answered_clerk v k) c b p v os
  issued = issued-or k c b p v its-suit

  ops-named : AreOnNamed here os
  ops-named = elim issued [
    | inl n ↦ subst (AreOnNamed here) (sym n.0) tt
    | inr i ↦ subst (AreOnNamed here) (sym i.op) (op-named here all c s age k in-it t.frees w.call i.outcome i.done i.update i.updates i.fits, tt)
  ]

  names-now : NamesAgree behind
  names-now = names-stay here behind store t.names (t.names).kept (by-own (λ z u. (is : List Op) → z ≡ Some is → AreOnNamed here is)
      (λ is q. subst (AreOnNamed here) (same_some q) (each-append (λ o. Each (Names (view here)) (operands o.update)) ks os ((t.names).frozen s ks fz) ops-named)) (λ u is q. (t.names).frozen u is q))

  there-now : clerk_in behind s ≡ Some now
  there-now = now-in γ.owner here.clerks c s age k now owns at-start in_it (same-session left (verdict w.call left) ∙ in_it)

  ops-left : (x : ℕ) → T (member x now.ids) ⊎ T (is_hidden (view here) s x) → LeaveOut x os
  ops-left x i = elim issued [
    | inl n ↦ subst (LeaveOut x) (sym n.0) tt
    | inr z ↦ subst (LeaveOut x) (sym z.op) (
      own-left here all c s age k in-it t.frees w.call z.outcome z.done z.update z.updates z.fits x (elim i [
        | inl y ↦ inl (subst (λ y. T (member x y)) (ap (λ y. y.ids) (sym last) ∙ z.left) y)
        | inr y ↦ inr y
      ]),
      tt,
    )
  ]

  frees-now : FreesAgree behind
  frees-now = frees-stay here behind store t.frees (λ u x m q i f. (by-own (λ z u. clerk_in behind u ≡ Some m → T (member x m.ids) ⊎ T (is_hidden (view here) u x) → LeaveOut x (seen_ops (γ.frozen u) γ.kept) → LeaveOut x (seen_ops z γ.kept))
      (λ q i f. each-append (λ o. T (not (has_operand x o.update))) ks os (subst (λ z. LeaveOut x (seen_ops z γ.kept)) fz f) (ops-left x (subst (λ z. T (member x z.ids) ⊎ T (is_hidden (view here) s x)) (same_some (sym q ∙ there-now)) i)))
      (λ u q i f. f) u) q i f)

  answers-as : (n : Option ℕ) → op ≡ n → AnswersAs here behind c b k now l w.call a n
  answers-as n e = record {
    runs = running;
    stands = at-start;
    age = same-age left (verdict w.call left);
    slots = λ f. refl;
    running = refl;
    clerks = refl;
    owner = refl;
    is_durable = refl;
    shown = ap (λ z. γ.shown ++ Answered l c w.call a z ∷ []) e;
  }

  cuts-now : CutsAgree behind
  cuts-now = elim issued [
    | inl n ↦
        plain-keeps here behind c b k now l w.call a op (answers-as op refl) (ap (λ z. at_session s (Some (ks ++ z)) γ.frozen) n.0 ∙ ap (λ z. at_session s (Some z) γ.frozen) (append-nil ks) ∙ same-frozen here all c s age k in-it running ks fz w.no a op γ.shown γ.history γ.fresh here.calls)
        (inr (no-listed op (sym (named-is most k a op alone.owed c b p v its-gives) ∙ ap numbers n.0), ap (λ z. z.log) (sym last) ∙ n.1)) t.cuts
    | inr z ↦ late-keeps here behind all c b s k now l w.call a p z.update ks (answers-as (Some k.log.next) (its-op z)) own-is fz (ap (λ y. y.log) (sym last) ∙ z.log) (ap (λ y. at_session s (Some (ks ++ y)) γ.frozen) z.op) t.cuts
  ]
    where
      its-op : IsIssued k (answered_clerk v k) c b p v os → op ≡ Some k.log.next
      its-op z = (subst (λ y. Gives most k y a op (answered_clerk v k).owed) z.done its-gives).1 ∙ ap (λ y. elim y as (λ o. Option ℕ) [ None ↦ None | Some u ↦ Some k.log.next ]) z.updates

  pub later : IsTrying g c b (single.next g c b d γ t before rest w split a op gives suit lines δ) δ
  later = single.tries-on g c b d γ t before rest w split a op gives suit lines δ refl refl all-now zeros-now frees-now names-now cuts-now
