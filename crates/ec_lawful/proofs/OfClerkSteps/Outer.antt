-- An answer of a clerk without a session that isn't cut off, in a step under way.
use Rattle.std.proofs.Common.{◌≡◌, refl, sym, ap, subst, ◌∙◌, inr, ◌+◌, ℕ, true, cond, T, List, [], ◌∷◌, ◌++◌, length, Option, Some, None, append-nil}
use Rattle.std.specs.Prelude.{is_some}
use Rattle.ec_volume.specs.Update.{member}
use Rattle.ec_history.specs.History.{Each, Op}
use Rattle.ec_history.specs.Placing.{MayFollow, begun, watch}
use Rattle.ec_history.specs.declared.entry.Answer.{Answer}
use Rattle.ec_history.specs.declared.shown.Shown.TheVariants.{Answered}
use Rattle.ec_history.specs.declared.watch.Watch.{Watch}
use Rattle.ec_protocol.specs.Clerk.{Doing, verdict}
use Rattle.ec_protocol.specs.declared.clerk.Clerk.{Clerk}
use Rattle.ec_protocol.specs.declared.clerk.Waiting.{Waiting}
use Rattle.ec_coherence.specs.System.{System, Ghost, clerk_in, seen_ops}
use Rattle.ec_coherence.specs.Sessions.{HasNone}
use Rattle.ec_coherence.specs.Tokens.{is_untaken, side_in}
use Rattle.ec_coherence.specs.Events.{IsUncut}
use Rattle.ec_coherence.specs.Steps.{doing_in}
use Rattle.ec_coherence.specs.ChangeLaws.{with_clerk}
use Rattle.ec_coherence.proofs.ForBatches.ClerkIn.{start-same}
use Rattle.ec_coherence.specs.CommitLaws.{AllAgree}
use Rattle.ec_coherence.specs.Watches.{WatchAgrees}
use Rattle.ec_lawful.specs.OfClerkSteps.CallLaws.{Passes}
use Rattle.ec_lawful.specs.OfClerkSteps.Waits.{HasLine}
use Rattle.ec_lawful.proofs.OfClerkSteps.ForCalls.Follows.{follows}
use Rattle.ec_lawful.proofs.OfClerkSteps.ForCalls.Settled.{settled}
use Rattle.ec_lawful.specs.OfClerkSteps.Names.{AreOnNamed, NamesAgree}
use Rattle.ec_lawful.specs.OfClerkSteps.Cuts.{CutsAgree}
use Rattle.ec_lawful.proofs.OfClerkSteps.ForJoins.Going.{plain-keeps}
use Rattle.ec_lawful.proofs.OfClerkSteps.ForJoins.OutsideChanges.{outside-all}
use Rattle.ec_coherence.specs.Answers.{Gives, IsLive, Sees, answered_ghost, fresh_of, op_given}
use Rattle.ec_lawful.specs.OfClerkSteps.Answering.{Suits}
use Rattle.ec_lawful.specs.OfClerkSteps.Frees.{FreesAgree}
use Rattle.ec_lawful.specs.OfClerkSteps.AnswerLaws.{IsBegun}
use Rattle.ec_lawful.specs.OfClerkSteps.Trying.{IsTrying}
use Rattle.ec_lawful.specs.OfClerkSteps.Zeros.{LeaveOut, ZerosAgree}
use Rattle.ec_lawful.proofs.OfClerkSteps.Alone.{shows-none}
use Rattle.ec_lawful.proofs.OfClerkSteps.Clerked.{IsKept}
use Rattle.ec_lawful.proofs.OfClerkSteps.Framed as framed
use Rattle.ec_lawful.proofs.OfClerkSteps.OutsideAnswers as outside
use Rattle.ec_lawful.proofs.OfClerkSteps.OutsideAnswers.{IsQuiet, no-number, no-ops, quiet-now}
use Rattle.ec_lawful.proofs.OfClerkSteps.Single as single
use Rattle.ec_lawful.proofs.OfClerkSteps.Single.{gives-same}
use Rattle.ec_lawful.proofs.OfClerkSteps.SameStores.{SameStore, frees-stay, names-stay}
use Rattle.ec_lawful.proofs.OfClerkSteps.Target as target
use Rattle.ec_lawful.proofs.OfClerkSteps.Turned.{same-age}
use Rattle.ec_lawful.proofs.OfClerkSteps.Without as without
use Rattle.ec_base.proofs.Options.{none_some}

module _ (g : System) (c b : ℕ) (d : Doing) (γ : Ghost) (t : IsTrying g c b d γ) (out : d.clerk.session ≡ None) (before rest : List Waiting) (w : Waiting) (split : d.clerk.waiting ≡ before ++ w ∷ rest)
    (a : Answer) (op : Option ℕ) (gives : Gives g.durable.max_objects (single.left g c b d γ t before rest w split) (single.v g c b d γ t before rest w split) a op (single.now g c b d γ t before rest w split).owed)
    (suit : Suits (single.v g c b d γ t before rest w split) (single.left g c b d γ t before rest w split)) (lines : Each (HasLine (doing_in c b d γ g) c) (before ++ rest)) (passes : Passes d.clerk w) where
  abbrev here : System
  here = single.here g c b d γ t before rest w split

  abbrev left : Clerk
  left = single.left g c b d γ t before rest w split

  abbrev now : Clerk
  now = single.now g c b d γ t before rest w split

  abbrev l : ℕ
  l = single.l g c b d γ t before rest w split

  abbrev p : ℕ
  p = length γ.shown + 1

  abbrev os : List Op
  os = op_given c b p left (verdict w.call left)

  all : AllAgree here
  all = single.all g c b d γ t before rest w split

  at-start : here.clerks c b ≡ Some d.clerk
  at-start = single.at-start g c b d γ t before rest w split

  running : here.running c ≡ Some b
  running = single.running g c b d γ t before rest w split

  abbrev here2 : System
  here2 = with_clerk here c b left here.calls []

  pub all2 : AllAgree here2
  all2 = outside-all here all c b d.clerk left at-start out (record { id = refl; age = refl; session = refl; owed = refl; next = refl }) refl refl refl refl here.calls [] tt tt tt

  pub zeros2 : ZerosAgree here2
  zeros2 = framed.zeros-stay here c b d.clerk left at-start refl refl refl here.calls γ.kept γ.frozen γ.shown γ.history γ.fresh (t.zeros).kept (t.zeros).frozen (λ z. record { ids = z.ids; undurable = z.undurable; owed = z.owed }) t.zeros

  pub none : HasNone left
  none = ((all2.0).sessions).without c b left (start-same c b left here.clerks) out

  pub quiet : IsQuiet left none out now
  quiet = quiet-now left none out w.call (verdict w.call left) refl suit

  pub nothing : os ≡ []
  nothing = no-ops left none out w.call c b p (verdict w.call left) refl suit

  pub no-op : op ≡ None
  no-op = no-number left none out g.durable.max_objects w.call a op now.owed (verdict w.call left) refl suit gives

  kept : IsKept left now
  kept = single.kept g c b d γ t before rest w split a op gives suit lines γ

  -- the lines show its start running
  begun-is : begun (watch c γ.shown) ≡ watch c γ.shown
  begun-is = go (watch c γ.shown) ((all.1 c).running ∙ ap is_some running)
    where
      go : (x : Watch) → x.running ≡ true → begun x ≡ x
      go x e = ap (λ z. cond z x (record x { starts = x.starts + 1; running = true })) e

  pub ws : IsBegun here2 c
  ws = ((λ f n. all2.1 f), subst (WatchAgrees here2 c) (sym begun-is) (all2.1 c))

  pub line-follows : MayFollow γ.shown (Answered l c w.call a op)
  line-follows = follows here all t.calls c b w.no l w.call d.clerk running at-start (single.line g c b d γ t before rest w split) a op
      (λ n. shows-none left none w.call g.durable.max_objects a op now.owed (verdict w.call left) refl suit gives)

  -- What is in store.

  module _ (δ : Ghost) (owner : δ.owner ≡ γ.owner) (grants : δ.grants ≡ γ.grants) (first : δ.first ≡ γ.first) where
    abbrev behind : System
    behind = single.behind g c b d γ t before rest w split a op gives suit lines δ

    same : (u : ℕ) → clerk_in behind u ≡ clerk_in here u
    same u = ap (λ f. Rattle.ec_coherence.specs.System.clerk_of u (f u) behind.clerks) owner ∙ outside.same-in here (all.0) c b d.clerk now at-start out quiet.outside quiet.same_log here.calls [] [] [] u

    pub outer-store : SameStore here behind
    outer-store = record {
      next_id = refl;
      origin = refl;
      hidden = λ u x. ap (λ o. is_untaken (δ.grants u) (δ.first u) (side_in o) x) (same u) ∙ ap (λ f. is_untaken (f u) (δ.first u) (side_in (clerk_in here u)) x) grants ∙ ap (λ f. is_untaken (γ.grants u) (f u) (side_in (clerk_in here u)) x) first;
      ids = λ u m q. (m, sym (same u) ∙ q, (λ x i. i), (λ z. z));
    }

  -- Where it isn't cut off.
  module _ (uncut : IsUncut here c d.clerk) where
    abbrev δ : Ghost
    δ = answered_ghost c l w.call a op (fresh_of left) os γ

    abbrev now-behind : System
    now-behind = single.behind g c b d γ t before rest w split a op gives suit lines δ

    kept-same : γ.kept ++ os ≡ γ.kept
    kept-same = ap (λ z. γ.kept ++ z) nothing ∙ append-nil γ.kept

    names-now : NamesAgree now-behind
    names-now = names-stay here now-behind (outer-store δ refl refl refl) t.names (subst (AreOnNamed here) (sym kept-same) (t.names).kept) (t.names).frozen

    frees-now : FreesAgree now-behind
    frees-now = frees-stay here now-behind (outer-store δ refl refl refl) t.frees (λ u x m q i f. subst (λ z. LeaveOut x (seen_ops (γ.frozen u) z)) (sym kept-same) f)

    cuts-now : CutsAgree now-behind
    cuts-now = plain-keeps here now-behind c b d.clerk now l w.call a op (record {
      runs = running;
      stands = at-start;
      age = same-age left (verdict w.call left);
      slots = λ f. refl;
      running = refl;
      clerks = refl;
      owner = refl;
      is_durable = refl;
      shown = refl;
    }) refl (inr (no-op, quiet.same_log)) t.cuts

    uncut2 : IsUncut here2 c left
    uncut2 u o = uncut u o

    live : IsLive here c d.clerk
    live = record { uncut = uncut; sees_all = ap (Rattle.ec_coherence.specs.Events.cut_in here) out }

    none-here : HasNone d.clerk
    none-here = ((all.0).sessions).without c b d.clerk at-start out

    sees : Sees here d.clerk
    sees = record {
      images = λ x h e. absurd (none_some (sym (outside.holds-none d.clerk none-here x) ∙ e));
      free = λ x m. absurd (subst (λ z. T (member x z)) none-here.ids m);
      no_zero = ((t.zeros).clerks c b d.clerk at-start).owed;
    }

    one : AllAgree now-behind × ZerosAgree now-behind
    one =
        let f = without.without-answers here2 (all2.0) all2.2 all2.3 zeros2 c b left ws (start-same c b left here.clerks) out w.no l w.call a op gives suit running uncut2 line-follows
        (settled here all.0 all.3 t.calls c b d.clerk w l (single.waits-at g c b d γ t before rest w split) live sees passes
        g.durable.max_objects a op now.owed (gives-same g.durable.max_objects d.clerk (before ++ rest) (verdict w.call left) a op now.owed gives)) in
        let path = target.plain-is g c b d γ w.no l w.call a op now δ (single.line g c b d γ t before rest w split) left in
        (subst AllAgree path f.0, subst ZerosAgree path f.1)

    pub outer : IsTrying g c b (single.next g c b d γ t before rest w split a op gives suit lines δ) δ
    outer = single.tries-on g c b d γ t before rest w split a op gives suit lines δ refl refl one.0 one.1 frees-now names-now cuts-now
