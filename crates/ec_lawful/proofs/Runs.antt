-- A whole run, where each step of a clerk keeps all facts.
use Rattle.std.proofs.Common.{◌≡◌, refl, sym, ap, subst, ◌∙◌, inl, inr, ◌<◌, ◌≤◌, ◌+◌, ℕ, not, T, Bool, true, false, List, [], ◌∷◌, Some, None}
use Rattle.std.specs.Prelude.{is_some, Contains}
use Rattle.std.specs.List.{list_any}
use Rattle.ec_plain.specs.BoundedCalls.{is_bounded}
use Rattle.ec_plain.specs.declared.call.Call.{Call}
use Rattle.ec_volume.specs.Image.{is_gone}
use Rattle.ec_volume.specs.Volume.{Fits, Images, WellFormed, images}
use Rattle.ec_history.specs.History.{kept, updates}
use Rattle.ec_coherence.proofs.ForCommits.Answering.{shown-updates}
use Rattle.ec_history.specs.Lines.{IsStored}
use Rattle.ec_history.specs.Placing.{EachLine, place}
use Rattle.ec_history.specs.declared.shown.Shown.{Shown}
use Rattle.ec_history.specs.declared.shown.Shown.TheVariants as show
use Rattle.ec_wire.specs.declared.msg.Msg.{Msg}
use Rattle.ec_durable.specs.declared.record.Record.{Record}
use Rattle.ec_protocol.specs.Clerk.{Doing, begin, push, resend, start, take as take_message}
use Rattle.ec_protocol.specs.Drill.{Fates, Ran, Read, bound, close, run_from}
use Rattle.ec_protocol.specs.Server.{Serving, end, take}
use Rattle.ec_protocol.specs.World.{is_answer_to, stepped}
use Rattle.ec_lawful.proofs.ForWhole.Founds.{steps-so}
use Rattle.ec_protocol.specs.declared.clerk.Clerk.{Clerk}
use Rattle.ec_protocol.specs.declared.server.Server.{Server}
use Rattle.ec_protocol.specs.declared.world.World.{World}
use Rattle.ec_coherence.specs.System.{System, base_of}
use Rattle.ec_coherence.specs.Stops.{RunsOn}
use Rattle.ec_coherence.specs.Steps.{doing_in, serving_in}
use Rattle.ec_coherence.specs.StandLaws.{crashed, lined, stopped}
use Rattle.ec_coherence.specs.CommitLaws.{AllAgree}
use Rattle.ec_lawful.specs.Doubts.{DoubtAgrees, doubted}
use Rattle.ec_lawful.proofs.ForWhole.Keeps.{doubts-hold, restarts-hold}
use Rattle.ec_lawful.specs.Headline.{InScript, joined, placed_on}
use Rattle.ec_lawful.specs.LawfulRuns.{ShowLawfully}
use Rattle.ec_lawful.proofs.Stored.{show-lawfully}
use Rattle.ec_lawful.proofs.PlacesServe.{disk-there, fronts-there, kept-there}
use Rattle.ec_lawful.specs.Calls.{IsOf}
use Rattle.ec_lawful.specs.DrillRuns.{AreFit, Closed, IsCallIn, IsUnspent}
use Rattle.ec_lawful.specs.Steps.{HoldsIn, StepIsDone, LineIsNew, IsServed, StepsKeep, clerk_begun, calling, in_call}
use Rattle.ec_lawful.specs.Ties.{called, waiting}
use Rattle.ec_lawful.specs.AskedLaws.{IsFresh, RestsKeep, RunAsks}
use Rattle.ec_lawful.proofs.DrillsAsk.{asked-drills}
use Rattle.ec_lawful.proofs.OfClerkSteps.ForJoins.Steps.{step-most}
use Rattle.ec_lawful.specs.Runs.{OfRun, RunShows}
use Rattle.ec_lawful.specs.Whole.{Whole}
use Rattle.ec_lawful.proofs.Lined.{calls-lined}
use Rattle.ec_lawful.proofs.ForWhole.Halts.{crashed-whole, doubted-whole, found-whole, nothing-whole, start-leaves, stopped-line-whole, stopped-whole, unsettled-whole, up-whole}
use Rattle.ec_lawful.proofs.ForWhole.Server.{ends-whole, most-stays, takes-whole}

-- what is kept fits the volume at the beginning
kept-fits : (g : System) → AllAgree g → Fits g.origin (updates (kept (base_of g) (place g.ghost.shown)))
kept-fits g all = subst (Fits g.origin) (sym (ap (λ h. updates (kept (base_of g) h)) ((all.0).events.placed) ∙ ap updates ((all.0).events.keeps) ∙ shown-updates g g.ghost.kept)) (all.0).images.fits

-- What is asked of each step of a clerk.
pub record ClerksKeep (F : System → Type 0) : Type 0 where
  pub messages : (g : System) (c b : ℕ) (k : Clerk) → F g → g.running c ≡ Some b → g.clerks c b ≡ Some k → (m : Msg) → Contains g.pool (c, m) → StepIsDone F g c b (take_message m k)
  pub pushes : (g : System) (c b : ℕ) (k : Clerk) → F g → g.running c ≡ Some b → g.clerks c b ≡ Some k → (n : ℕ) → StepIsDone F g c b (push n k)
  pub resends : (g : System) (c b : ℕ) (k : Clerk) → F g → g.running c ≡ Some b → g.clerks c b ≡ Some k → StepIsDone F g c b (resend k)
  pub calls : (g : System) (c b : ℕ) (k : Clerk) → F g → g.running c ≡ Some b → g.clerks c b ≡ Some k → (l : ℕ) (cl : Call) → LineIsNew g l → T (is_bounded cl) → StepIsDone F (in_call c l cl k g) c b (begin cl k)
  pub starts : (g : System) (c : ℕ) → F g → g.running c ≡ None → c < 16 → (l : ℕ) (cl : Call) → LineIsNew g l → T (is_bounded cl) → (start c (g.boots c + 1)).spent ≡ None
      → let d = start c (g.boots c + 1) in StepIsDone F (in_call c l cl d.clerk (clerk_begun c g)) c (g.boots c + 1) (calling cl d.outs d.clerk)

module _ (clerks : ClerksKeep Whole) (v : Images) (most : ℕ) where
  abbrev F : System → Type 0
  F = OfRun v most

  -- a clerk's step leaves the volume at the beginning and the greatest number of objects
  fixed : (g h : System) → h.origin ≡ g.origin → h.durable.max_objects ≡ g.durable.max_objects → F g → Whole h → F h
  fixed g h q r f w = record { whole = w; origin = q ∙ f.origin; most_is = r ∙ f.most_is }

  done-fixed : (g : System) (c b : ℕ) (d : Doing) (h : System) → h.origin ≡ g.origin → h.durable.max_objects ≡ g.durable.max_objects → F g → StepIsDone Whole h c b d → StepIsDone F h c b d
  done-fixed g c b d h q r f (inl s) = inl s
  done-fixed g c b d h q r f (inr (γ, shown, w)) = inr (γ, shown, fixed g (doing_in c b d γ h) q r f w)

  in-call-fixed : (g : System) (c l : ℕ) (cl : Call) (k : Clerk) → ((in_call c l cl k g).origin ≡ g.origin) × ((in_call c l cl k g).durable.max_objects ≡ g.durable.max_objects)
  in-call-fixed g c l cl k = go (list_any (is_answer_to (k.calls + 1)) (begin cl k).outs)
    where
      go : (z : Bool) → ((waiting c l cl z (called c (k.calls + 1) l cl g)).origin ≡ g.origin) × ((waiting c l cl z (called c (k.calls + 1) l cl g)).durable.max_objects ≡ g.durable.max_objects)
      go true = (refl, refl)
      go false = (refl, refl)

  served-fixed : (g : System) (t : Serving) → F g → IsServed Whole g t → IsServed F g t
  served-fixed g t f (inl s) = inl s
  served-fixed g t f (inr (γ, st, w)) = inr (γ, st, fixed g (serving_in t γ g) refl (most-stays g t.rec t.server.durable (st.0).committed) f w)

  stops-fixed : (g : System) (u : Server) → F g → g.server ≡ Some u → F (stopped g)
  stops-fixed g u f up = fixed g (stopped g) refl refl f (stopped-whole g f.whole u up (subst (RunsOn g) up ((f.whole).all.0).stops.runs).1)

  found-most : (h : System) → F h → h.server ≡ None → (r : Record) → h.unshown ≡ Some r → (stepped r h.durable).max_objects ≡ h.durable.max_objects
  found-most h x d r p = step-most r h.durable (stepped r h.durable) (steps-so h (x.whole).all (x.whole).doubts d r p)

  -- behind a stop with a record in doubt, and behind a restart
  rest : RestsKeep F
  rest = record {
    in_doubt = λ h x. (x.whole).doubts;
    doubts = λ h y x p s from now. fixed h (doubted h s) refl refl x (doubted-whole h x.whole y p s from now);
    lines = λ h x. fixed h (lined h show.Stopped) refl refl x (stopped-line-whole h x.whole);
    finds = λ h x d r p m now. fixed h _ refl (found-most h x d r p) x (found-whole h x.whole d r p now);
    starts = λ h x d s e now. fixed h _ refl (ap (λ y. y.max_objects) (start-leaves (record (h.durable) { epoch = e }))) x (up-whole h x.whole d s e now);
  }

  abbrev agrees : (g : System) → F g → AllAgree g × DoubtAgrees g
  agrees g f = ((f.whole).all, (f.whole).doubts)

  pub keep : StepsKeep F
  keep = record {
    agrees = λ g f. (f.whole).all;
    takes = λ g u f up c m p. served-fixed g (take c m u) f (takes-whole g u f.whole up c m p);
    ends = λ g u f up c. served-fixed g (end c u) f (ends-whole g u f.whole up c);
    stops = stops-fixed;
    doubts = λ w g f st u up t is r q n. doubts-hold F agrees stops-fixed rest.doubts w g f st u up t is r q n;
    restarts = λ w g f st down spare fate. restarts-hold F agrees rest.lines rest.finds rest.starts w g f st down spare fate;
    messages = λ g c b k f run there m p. done-fixed g c b (take_message m k) g refl refl f (clerks.messages g c b k f.whole run there m p);
    pushes = λ g c b k f run there n. done-fixed g c b (push n k) g refl refl f (clerks.pushes g c b k f.whole run there n);
    resends = λ g c b k f run there. done-fixed g c b (resend k) g refl refl f (clerks.resends g c b k f.whole run there);
    calls = λ g c b k f run there l cl new bounded. (let q = in-call-fixed g c l cl k in done-fixed g c b (begin cl k) (in_call c l cl k g) q.0 q.1 f (clerks.calls g c b k f.whole run there l cl new bounded));
    starts = λ g c f idle within l cl new bounded spare. (let d = start c (g.boots c + 1) in let q = in-call-fixed (clerk_begun c g) c l cl d.clerk in
        done-fixed g c (g.boots c + 1) (calling cl d.outs d.clerk) (in_call c l cl d.clerk (clerk_begun c g)) q.0 q.1 f (clerks.starts g c f.whole idle within l cl new bounded spare));
    crashes = λ g f c. fixed g (crashed g c) refl refl f (crashed-whole g f.whole c);
    nothing = λ g f. fixed g (lined g show.Nothing) refl refl f (nothing-whole g f.whole);
    unsettled = λ g f. fixed g (lined g show.Unsettled) refl refl f (unsettled-whole g f.whole);
  }

  -- What lines show is so with places as ids.
  places-show : (g : System) → F g → (top : ℕ) → WellFormed v → ((x : ℕ) → T (not (is_gone (v x))) → x ≤ top)
      → ShowLawfully (placed_on g.origin top) g.durable.max_objects g.ghost.shown (images g.durable.volume) × Fits g.origin (updates (kept (placed_on g.origin top) (place g.ghost.shown)))
  places-show g f top formed above =
      let fresh = (f.whole).shows.fresh in
      let good = subst WellFormed (sym f.origin) formed in
      let over = subst (λ o. (x : ℕ) → T (not (is_gone (o x))) → x ≤ top) (sym f.origin) above in
      let s = show-lawfully g (f.whole).all (f.whole).shows.tells in (
        record { fronts = fronts-there g top fresh good over g.durable.max_objects s.fronts; formed = s.formed; stored = disk-there g top fresh good over (images g.durable.volume) s.stored },
        kept-there g top fresh good over (kept-fits g (f.whole).all),
      )

  -- The end of a run.
  module _ (ls : List Read) (fs : List Fates) (w : World) (holds : HoldsIn F w) (fresh : IsFresh holds.0) (no-calls : w.calls ≡ []) (no-lines : w.shown ≡ []) (fit : AreFit ls) where
    abbrev r : Ran
    r = close (run_from (bound ls) 1 ls fs w).ending (run_from (bound ls) 1 ls fs w)

    q : RunAsks F ls r
    q = asked-drills F keep rest (λ g f. calls-lined g (f.whole).calls (f.whole).rest) ls fs w holds.0 holds.1 holds.2 fresh no-calls no-lines fit

    abbrev c : Closed F [] [] ls r
    c = q.closed

    -- with places above all ids of the volume
    pub run-shows : (top : ℕ) → WellFormed v → ((x : ℕ) → T (not (is_gone (v x))) → x ≤ top) → RunShows v top most ls r
    run-shows top formed above = go (c.sofar).holds
      where
        own : (ss : List Shown) → EachLine (IsOf (IsCallIn c.more)) ss → EachLine (InScript c.more) ss
        own [] e = tt
        own (show.Waits l d cl ∷ ss) e = ((e.0.0, e.0.2), own ss e.1)
        own (show.Answered l d cl a op ∷ ss) e = ((e.0.0, e.0.2), own ss e.1)
        own (show.Durable d ns ∷ ss) e = (tt, own ss e.1)
        own (show.Ended d ns ∷ ss) e = (tt, own ss e.1)
        own (show.Unseen d ∷ ss) e = (tt, own ss e.1)
        own (show.Told d ns ∷ ss) e = (tt, own ss e.1)
        own (show.Crashed d ∷ ss) e = (tt, own ss e.1)
        own (show.Stopped ∷ ss) e = (tt, own ss e.1)
        own (show.Started ∷ ss) e = (tt, own ss e.1)
        own (show.Nothing ∷ ss) e = (tt, own ss e.1)
        own (show.Unsettled ∷ ss) e = (tt, own ss e.1)
        own (show.Bad n k ∷ ss) e = (tt, own ss e.1)
        own (show.DiskBad n ∷ ss) e = (tt, own ss e.1)
        own (show.Limit n k ∷ ss) e = (tt, own ss e.1)
        own (show.Spent n ∷ ss) e = (tt, own ss e.1)

        go : HoldsIn F r.world → RunShows v top most ls r
        go (g, f, st) =
            let lines-are : g.ghost.shown ≡ joined r.pieces = sym st.shown ∙ (c.sofar).shown in
            let there = places-show g f top formed above in
            let shows : ShowLawfully (placed_on v top) most (joined r.pieces) (images g.durable.volume) =
            subst (λ ss. ShowLawfully (placed_on v top) most ss (images g.durable.volume)) lines-are
            (subst (λ m. ShowLawfully (placed_on v top) m g.ghost.shown (images g.durable.volume)) f.most_is
            (subst (λ o. ShowLawfully (placed_on o top) g.durable.max_objects g.ghost.shown (images g.durable.volume)) f.origin there.0)) in
            let same : IsUnspent r.ending → g.durable ≡ r.world.durable = λ u. sym (st.up (subst (λ o. T (is_some o)) st.server (c.up u))) in
            record {
              lines = c.more;
              front = c.front;
              counted = c.counted;
              own_calls = subst (EachLine (InScript c.more)) (c.sofar).shown (own r.world.shown ((c.sofar).of).shown);
              ends = q.asked;
              numbered = q.numbered;
              fronts = shows.fronts;
              fit = subst (λ ss. Fits v (updates (kept (placed_on v top) (place ss)))) lines-are (subst (λ o. Fits o (updates (kept (placed_on o top) (place g.ghost.shown)))) f.origin there.1);
              formed = λ u. subst (λ d. WellFormed (images d.volume)) (same u) shows.formed;
              stored = λ u. subst (λ d. IsStored (placed_on v top) (joined r.pieces) (images d.volume)) (same u) shows.stored;
            }
