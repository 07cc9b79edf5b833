-- All facts behind the line of a call that waits before it begins.
use Rattle.std.proofs.Common.{◌≡◌, refl, sym, ap, subst, ◌∙◌, inl, arith, ℕ, T, Bool, true, false, ◌==◌, ◌||◌, cond, [], ◌∷◌, Some, None}
use Rattle.std.proofs.lemmas.Bool.{cond_both, or_parts}
use Rattle.std.proofs.lemmas.List.Folds.{list_any-append}
use Rattle.std.specs.Bool.{OnTrue}
use Rattle.ec_plain.specs.declared.call.Call.{Call}
use Rattle.ec_history.specs.History.{Each}
use Rattle.ec_history.specs.Placing.{Agrees, Unanswered, begun, is_numbered, last_place, unwatched, watch, watch_next}
use Rattle.ec_history.specs.declared.shown.Shown.{Shown}
use Rattle.ec_history.specs.declared.shown.Shown.TheVariants as show
use Rattle.ec_history.proofs.OfLaws.ForPlacing.More.{watch-step}
use Rattle.ec_protocol.specs.declared.clerk.Clerk.{Clerk}
use Rattle.ec_protocol.specs.declared.clerk.Waiting.{Waiting}
use Rattle.ec_coherence.specs.Comes.{begun_at}
use Rattle.ec_coherence.specs.CommitLaws.{AllAgree}
use Rattle.ec_coherence.specs.Events.{EventsAgree, shown_boot}
use Rattle.ec_coherence.specs.StandLaws.{lined}
use Rattle.ec_coherence.specs.Steps.{call_of}
use Rattle.ec_coherence.specs.System.{System}
use Rattle.ec_coherence.proofs.ForServer.Lists.{each-turn}
use Rattle.ec_lawful.specs.OfClerkSteps.CallLaws.{IsNewLine}
use Rattle.ec_lawful.specs.OfClerkSteps.Calls.{Began, CallsAgree, IsBefore, IsOpenCall, LosesBelow, StartCalls, is_shown, told_to}
use Rattle.ec_lawful.specs.OfClerkSteps.Counts.{CountsAgree}
use Rattle.ec_lawful.specs.OfClerkSteps.Waits.{AreAtRest, HasLine, does_wait}
use Rattle.ec_lawful.proofs.OfClerkSteps.ForCalls.Begin.{fresh-lines}
use Rattle.ec_lawful.proofs.OfClerkSteps.ForCalls.CallFrames.{lines-append}
use Rattle.ec_lawful.proofs.OfClerkSteps.ForJoins.CutFrames.{lines-keep-counts, same-cuts}
use Rattle.ec_lawful.proofs.OfClerkSteps.ForCalls.Known.{first-line}
use Rattle.ec_lawful.proofs.OfClerkSteps.ForCalls.Lined.{began-last}
use Rattle.ec_lawful.proofs.OfClerkSteps.ForNames.NameFrames.{names-read}
use Rattle.ec_lawful.proofs.OfClerkSteps.ForCalls.Shown.{waits-stand}
use Rattle.ec_lawful.proofs.OfClerkSteps.ForNames.ZerosBehind.{same-keeps}
use Rattle.ec_lawful.proofs.ForWhole.FreshSteps.{record-fresh}
use Rattle.ec_lawful.proofs.ForWhole.LinesTell.{line-tells}
use Rattle.ec_lawful.specs.Whole.{Whole}
use Rattle.ec_base.proofs.Options.{none_some}
use Rattle.ec_base.proofs.Numbers.{equal}
use Rattle.ec_history.proofs.OfLaws.ForPlacing.BasesAlike.{each-map}
use Rattle.ec_history.proofs.OfLaws.ForPlacing.Late.{begun-untold}

module _ (g : System) (whole : Whole g) (c b l : ℕ) (cl : Call) (run : g.running c ≡ Some b) (new : IsNewLine g l) where
  abbrev line : Shown
  line = show.Waits l c cl

  abbrev h : System
  h = lined g line

  abbrev events : EventsAgree g
  events = (whole.all.0).events

  now : AllAgree h
  now = waits-stand g whole.all c b l cl run (fresh-lines l c cl g.ghost.shown new.unshown).0

  shown-is : (j : ℕ) → is_shown h j ≡ (is_shown g j || ((l == j) || false))
  shown-is j = list_any-append (is_numbered j) g.ghost.shown (line ∷ [])

  still-shown : (j : ℕ) → is_shown g j ≡ true → is_shown h j ≡ true
  still-shown j e = shown-is j ∙ ap (λ z. z || ((l == j) || false)) e

  untold-still : (f : ℕ) → (watch f h.ghost.shown).untold ≡ (watch f g.ghost.shown).untold
  untold-still f = ap (λ z. z.untold) (watch-step f g.ghost.shown line) ∙ cond_both (f == c) (begun (watch f g.ghost.shown)) (watch f g.ghost.shown) (λ z. z.untold ≡ (watch f g.ghost.shown).untold) (λ e. begun-untold (watch f g.ghost.shown)) (λ e. refl)

  began : (f a : ℕ) (k : Clerk) → g.running f ≡ Some a → g.clerks f a ≡ Some k → (w : Waiting) (j : ℕ) → Began g f a k w j → Began h f a k w j
  began f a k r there w j q = record {
    now = λ e. q.now ((or_parts (is_shown g j) ((l == j) || false) (sym (shown-is j) ∙ e)).0);
    earlier = λ e. go (is_shown g j) refl;
  }
    where
      go : (y : Bool) → is_shown g j ≡ y → Each (IsBefore f (shown_boot g f a) (begun_at h f a j) w.begun) g.ghost.history
      go true e =
          let one : begun_at h f a j ≡ begun_at g f a j = ap (last_place f (shown_boot g f a) unwatched 1 0) (first-line j g.ghost.shown (line ∷ []) e) in
          subst (λ m. Each (IsBefore f (shown_boot g f a) m w.begun) g.ghost.history) (sym one) (q.earlier e)
      go false e = began-last g events f a k r there w.begun (q.now e) (begun_at h f a j)

  start : (f a : ℕ) (k : Clerk) → g.running f ≡ Some a → g.clerks f a ≡ Some k → StartCalls g f a k → StartCalls h f a k
  start f a k r there s = record {
    lined = each-map (λ w. (j : ℕ) × (call_of f w.no g.calls ≡ Some (j, w.call)) × Began g f a k w j) (λ w. (j : ℕ) × (call_of f w.no h.calls ≡ Some (j, w.call)) × Began h f a k w j) (λ w y. (y.0, y.1, began f a k r there w y.0 y.2)) k.waiting s.lined;
    apart = s.apart;
    numbers = s.numbers;
    own = s.own;
    begun = s.begun;
    lost = subst (λ o. Each (LosesBelow f (shown_boot g f a) k.log.first) (told_to f (shown_boot g f a) o g.ghost.history)) (sym (untold-still f)) s.lost;
  }

  -- no call under way has the line
  agrees : (f m j : ℕ) (dl : Call) → call_of f m g.calls ≡ Some (j, dl) → Agrees j f dl line
  agrees f m j dl y = go (l == j) refl
    where
      go : (z : Bool) → (l == j) ≡ z → OnTrue z ((c ≡ f) × (cl ≡ dl))
      go false e = tt
      go true e = absurd (apart (sym (ap (λ z. j == z) (equal l j e) ∙ same j) ∙ new.unused f m j dl y))
        where
          same : (n : ℕ) → (n == n) ≡ true
          same n = grind arith

          apart : true ≡ false → ⊥
          apart e = cc

  open-call : (f m j : ℕ) (dl : Call) → call_of f m g.calls ≡ Some (j, dl) → IsOpenCall g f m j dl → IsOpenCall h f m j dl
  open-call f m j dl y o = record {
    boot = o.boot;
    clerk = o.clerk;
    running = o.running;
    stands = o.stands;
    waits = o.waits;
    bounded = o.bounded;
    own = lines-append (Agrees j f dl) g.ghost.shown (line ∷ []) o.own (agrees f m j dl y, tt);
    unanswered = lines-append (Unanswered j) g.ghost.shown (line ∷ []) o.unanswered (tt, tt);
  }

  calls : CallsAgree h
  calls = let q = whole.calls in record {
    starts = λ f a k r there. start f a k r there (q.starts f a k r there);
    calls = λ f m j dl y. open-call f m j dl y (q.calls f m j dl y);
    lines = q.lines;
  }

  rest : AreAtRest h
  rest f a k r p = let q = whole.rest f a k r p in record {
    calls = each-turn (λ w. T (does_wait w k) × HasLine g f w) (λ w. T (does_wait w k) × HasLine h f w) k.waiting (λ w x. (x.0, (x.1.0, x.1.1, still-shown x.1.0 x.1.2))) q.calls;
    recalls = q.recalls;
  }

  -- the line of a running clerk leaves the counts
  counts : CountsAgree h
  counts = lines-keep-counts g whole.counts line (λ f down. ap (λ w. w.starts) (watch-step f g.ghost.shown line ∙ go f down (f == c) refl))
    where
      go : (f : ℕ) → g.running f ≡ None → (z : Bool) → (f == c) ≡ z → watch_next f (watch f g.ghost.shown) line ≡ watch f g.ghost.shown
      go f down true e = absurd (none_some (sym down ∙ ap g.running (equal f c e) ∙ run))
      go f down false e = ap (λ z. cond z (begun (watch f g.ghost.shown)) (watch f g.ghost.shown)) e

  pub waits-whole : Whole h
  waits-whole = record {
    all = now;
    calls = calls;
    rest = rest;
    orderly = record { each = whole.orderly.each };
    names = names-read g h whole.names refl refl (omega arith) refl refl refl refl refl;
    zeros = same-keeps g h record { origin = refl; kept = refl; frozen = refl; next_id = refl; grants = refl; first = refl } refl whole.zeros;
    frees = record { unused = whole.frees.unused; once = whole.frees.once };
    cuts = same-cuts g h record { slots = λ f. refl; running = refl; clerks = refl; owner = refl; frozen = refl; is_durable = refl; untold = untold-still } whole.cuts;
    counts = counts;
    fulls = whole.fulls;
    doubts = whole.doubts;
    shows = record {
      tells = line-tells g h whole.all now line (record { origin = refl; most = refl; shown = refl; fresh = λ p le. refl }) whole.shows.tells;
      fresh = record-fresh g h whole.all now whole.names (line ∷ []) (record { quiet = tt; origin = refl; first_boot = refl; next = omega arith; shown = refl; fresh = refl }) refl (λ s. inl (refl, refl)) whole.shows.fresh;
    };
  }
