-- Calls under way behind lines that are no calls, and behind the steps of a server.
use Rattle.std.proofs.Common.{◌≡◌, sym, ap, subst, ◌∙◌, ℕ, T, Bool, true, false, ◌||◌, List, [], ◌∷◌, ◌++◌, Option, Some, None, is_some}
use Rattle.std.specs.List.{list_any, list_all}
use Rattle.std.proofs.lemmas.List.Folds.{list_any-append}
use Rattle.ec_plain.specs.declared.call.Call.{Call}
use Rattle.ec_history.specs.History.{Each}
use Rattle.ec_history.specs.Placing.{Agrees, ArePlaceable, EachLine, Unanswered, before_line, is_numbered, last_place, place, unwatched, watch}
use Rattle.ec_history.specs.declared.shown.Shown.{Shown}
use Rattle.ec_history.specs.declared.shown.Shown.TheVariants as show
use Rattle.ec_history.proofs.OfLaws.ForPlacing.Cuts.{placeable-split}
use Rattle.ec_sessions.specs.declared.slot.Slot.{Slot}
use Rattle.ec_wire.specs.declared.msg.Msg.{Msg}
use Rattle.ec_durable.specs.Durable.{slot}
use Rattle.ec_durable.specs.declared.state.Durable.{Durable}
use Rattle.ec_durable.specs.declared.record.Record.{Record}
use Rattle.ec_durable.specs.declared.record.Record.TheVariants as record_of
use Rattle.ec_protocol.specs.Server.{Serving}
use Rattle.ec_protocol.specs.declared.clerk.Clerk.{Clerk}
use Rattle.ec_protocol.specs.declared.clerk.Waiting.{Waiting}
use Rattle.ec_protocol.specs.declared.server.Server.{Server}
use Rattle.ec_coherence.specs.System.{System, Ghost}
use Rattle.ec_coherence.specs.Events.{EventsAgree, shown_boot}
use Rattle.ec_coherence.specs.Steps.{call_of, end_lines, ended_line, record_lines, runs, serving_in}
use Rattle.ec_coherence.specs.CommitLaws.{AllAgree, StepStands}
use Rattle.ec_coherence.specs.Comes.{begun_at}
use Rattle.ec_lawful.specs.OfClerkSteps.Calls.{Began, CallsAgree, IsBefore, IsOpenCall, LosesBelow, StartCalls, is_shown, told_to}
use Rattle.ec_lawful.specs.OfClerkSteps.Waits.{AreAtRest, HasLine, does_wait}
use Rattle.ec_lawful.specs.OfClerkSteps.CallLaws.{behind_server, is_quiet}
use Rattle.ec_lawful.proofs.OfClerkSteps.ForCalls.Known.{entries-kept, first-line, knows-kept, unnumbered}
use Rattle.ec_history.proofs.OfLaws.ForPlacing.BasesAlike.{each-map}
use Rattle.ec_base.proofs.Bools.{and_parts-T as both, or_false}

-- Lists of lines.

pub lines-append : (P : Shown → Type 0) (xs ys : List Shown) → EachLine P xs → EachLine P ys → EachLine P (xs ++ ys)
lines-append P [] ys h k = k
lines-append P (x ∷ xs) ys h k = (h.0, lines-append P xs ys h.1 k)

quiet-agrees : (l c : ℕ) (cl : Call) (s : Shown) → T (is_quiet s) → Agrees l c cl s × Unanswered l s
quiet-agrees l c cl (show.Waits k d dl) q = absurd q
quiet-agrees l c cl (show.Answered k d dl a op) q = absurd q
quiet-agrees l c cl (show.Told d ns) q = absurd q
quiet-agrees l c cl (show.Crashed d) q = absurd q
quiet-agrees l c cl s q = (tt, tt)

all-agree : (l c : ℕ) (cl : Call) (ls : List Shown) → T (list_all is_quiet ls) → EachLine (Agrees l c cl) ls × EachLine (Unanswered l) ls
all-agree l c cl [] q = (tt, tt)
all-agree l c cl (s ∷ ls) q =
    let t = both (is_quiet s) (list_all is_quiet ls) q in
    let one = quiet-agrees l c cl s t.0 in
    let more = all-agree l c cl ls t.1 in
    ((one.0, more.0), (one.1, more.1))

module _ (g : System) (d : Durable) (v : Option Server) (r : Option Record) (p : List (ℕ × Msg)) (γ : Ghost) (old : EventsAgree g) (now : EventsAgree (behind_server g d v r p γ)) (ls : List Shown) (shown : γ.shown ≡ g.ghost.shown ++ ls) (quiet : T (list_all is_quiet ls)) where
  abbrev h : System
  h = behind_server g d v r p γ

  history-is : γ.history ≡ place (g.ghost.shown ++ ls)
  history-is = sym now.placed ∙ ap place shown

  placeable : ArePlaceable g.ghost.shown ls
  placeable = (placeable-split g.ghost.shown ls (subst (ArePlaceable []) shown now.placeable)).1

  shown-still : (l : ℕ) → is_shown h l ≡ is_shown g l
  shown-still l = ap (list_any (is_numbered l)) shown ∙ list_any-append (is_numbered l) g.ghost.shown ls ∙ ap (λ z. is_shown g l || z) (unnumbered l ls quiet) ∙ or_false (is_shown g l)

  began : (c b : ℕ) (k : Clerk) (w : Waiting) (l : ℕ) → Began g c b k w l → Began h c b k w l
  began c b k w l q = record {
    now = λ e. q.now (sym (shown-still l) ∙ e);
    earlier = λ e. earlier (sym (shown-still l) ∙ e);
  }
    where
      earlier : is_shown g l ≡ true → Each (IsBefore c (shown_boot g c b) (begun_at h c b l) w.begun) γ.history
      earlier f =
          let same : begun_at h c b l ≡ begun_at g c b l = ap (last_place c (shown_boot g c b) unwatched 1 0) (ap (before_line l) shown ∙ first-line l g.ghost.shown ls f) in
          subst (λ m. Each (IsBefore c (shown_boot g c b) m w.begun) γ.history) (sym same)
          (subst (Each (IsBefore c (shown_boot g c b) (begun_at g c b l) w.begun)) (sym history-is)
          (entries-kept (IsBefore c (shown_boot g c b) (begun_at g c b l) w.begun) (λ p d b ns. tt) g.ghost.shown ls quiet
          (subst (Each (IsBefore c (shown_boot g c b) (begun_at g c b l) w.begun)) (sym old.placed) (q.earlier f))))

  start : (c b : ℕ) (k : Clerk) → g.running c ≡ Some b → StartCalls g c b k → StartCalls h c b k
  start c b k run q = record {
    lined = each-map (λ w. (l : ℕ) × (call_of c w.no g.calls ≡ Some (l, w.call)) × Began g c b k w l) (λ w. (l : ℕ) × (call_of c w.no g.calls ≡ Some (l, w.call)) × Began h c b k w l) (λ w x. (x.0, x.1, began c b k w x.0 x.2)) k.waiting q.lined;
    apart = q.apart;
    numbers = q.numbers;
    own = q.own;
    begun = q.begun;
    lost = lost;
  }
    where
      lost : Each (LosesBelow c (shown_boot g c b) k.log.first) (told_to c (shown_boot g c b) (watch c γ.shown).untold γ.history)
      lost =
          subst (λ z. Each (LosesBelow c (shown_boot g c b) k.log.first) (told_to c (shown_boot g c b) (watch c z).untold γ.history)) (sym shown)
          (subst (λ z. Each (LosesBelow c (shown_boot g c b) k.log.first) (told_to c (shown_boot g c b) (watch c (g.ghost.shown ++ ls)).untold z)) (sym history-is)
          (knows-kept c (shown_boot g c b) k.log.first g.ghost.shown ls quiet placeable (old.starts c b run)
          (subst (λ z. Each (LosesBelow c (shown_boot g c b) k.log.first) (told_to c (shown_boot g c b) (watch c g.ghost.shown).untold z)) (sym old.placed) q.lost)))

  open-call : (c n l : ℕ) (cl : Call) → IsOpenCall g c n l cl → IsOpenCall h c n l cl
  open-call c n l cl q =
      let more = all-agree l c cl ls quiet in
      record {
        boot = q.boot;
        clerk = q.clerk;
        running = q.running;
        stands = q.stands;
        waits = q.waits;
        bounded = q.bounded;
        own = subst (EachLine (Agrees l c cl)) (sym shown) (lines-append (Agrees l c cl) g.ghost.shown ls q.own more.0);
        unanswered = subst (EachLine (Unanswered l)) (sym shown) (lines-append (Unanswered l) g.ghost.shown ls q.unanswered more.1);
      }

  pub calls-kept : CallsAgree g → CallsAgree h
  calls-kept q = record {
    starts = λ c b k run there. start c b k run (q.starts c b k run there);
    calls = λ c n l cl x. open-call c n l cl (q.calls c n l cl x);
    lines = q.lines;
  }

  pub rest-kept : AreAtRest g → AreAtRest h
  rest-kept q c b k run there = record {
    calls = each-map (λ w. T (does_wait w k) × HasLine g c w) (λ w. T (does_wait w k) × HasLine h c w) (λ w x. (x.0, ((x.1).0, (x.1).1, shown-still (x.1).0 ∙ (x.1).2))) k.waiting (q c b k run there).calls;
    recalls = (q c b k run there).recalls;
  }

-- The lines of a record.

ended-quiet : (g : System) (c b : ℕ) → T (is_quiet (ended_line g c b))
ended-quiet g c b = go (is_some ((watch c g.ghost.shown).open_start) || runs g c b)
  where
    go : (x : Bool) → T (is_quiet (elim x as (λ z. Shown) [ true ↦ show.Ended c ((watch c g.ghost.shown).undurable) | false ↦ show.Unseen c ]))
    go true = tt
    go false = tt

ends-quiet : (g : System) (c : ℕ) (o : Option Slot) → T (list_all is_quiet (end_lines g c o))
ends-quiet g c None = tt
ends-quiet g c (Some sl) = go sl.is_open
  where
    both-true : (x : Bool) → T x → T (list_all (λ z. z) (x ∷ []))
    both-true true t = tt
    both-true false t = absurd t

    go : (x : Bool) → T (list_all is_quiet (elim x as (λ z. List Shown) [ true ↦ ended_line g c (sl.age).boot ∷ [] | false ↦ [] ]))
    go true = both-true (is_quiet (ended_line g c (sl.age).boot)) (ended-quiet g c (sl.age).boot)
    go false = tt

pub record-quiet : (g : System) (r : Option Record) → T (list_all is_quiet (record_lines g r))
record-quiet g None = tt
record-quiet g (Some (record_of.Batch c s b ops)) = tt
record-quiet g (Some (record_of.Open c age s)) = ends-quiet g c (slot g.durable c)
record-quiet g (Some (record_of.End c s)) = ends-quiet g c (slot g.durable c)
record-quiet g (Some (record_of.Ids c s got x)) = tt
record-quiet g (Some (record_of.Epoch e)) = tt

module _ (g : System) (all : AllAgree g) (γ : Ghost) (t : Serving) (st : StepStands g t γ) where
  pub served-calls : CallsAgree g → CallsAgree (serving_in t γ g)
  served-calls = calls-kept g t.server.durable (Some t.server) g.unshown (g.pool ++ t.sent) γ (all.0).events ((st.0).invariant).events (record_lines g t.rec) (st.0).shown (record-quiet g t.rec)

  pub served-rest : AreAtRest g → AreAtRest (serving_in t γ g)
  served-rest = rest-kept g t.server.durable (Some t.server) g.unshown (g.pool ++ t.sent) γ (all.0).events ((st.0).invariant).events (record_lines g t.rec) (st.0).shown (record-quiet g t.rec)
