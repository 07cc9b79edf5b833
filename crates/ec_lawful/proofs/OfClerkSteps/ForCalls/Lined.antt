-- The line of a call that waits is shown.
use Rattle.std.proofs.Common.{◌≡◌, refl, sym, ap, subst, ◌∙◌, arith, ◌+◌, ℕ, Bool, true, false, ◌==◌, ◌||◌, List, [], ◌∷◌, ◌++◌, Some}
use Rattle.std.specs.Bool.{OnTrue}
use Rattle.std.proofs.lemmas.Bool.{cond_both, or_parts}
use Rattle.std.proofs.lemmas.List.Folds.{list_any-append}
use Rattle.ec_plain.specs.declared.call.Call.{Call}
use Rattle.ec_history.specs.History.{Each}
use Rattle.ec_history.specs.Placing.{Agrees, Unanswered, begun, is_numbered, last_place, unwatched, watch}
use Rattle.ec_history.specs.declared.shown.Shown.{Shown}
use Rattle.ec_history.specs.declared.shown.Shown.TheVariants as show
use Rattle.ec_history.proofs.OfLaws.ForPlacing.More.{watch-step}
use Rattle.ec_history.proofs.OfLaws.ForPlacing.Numbers.{count, each-append}
use Rattle.ec_protocol.specs.declared.clerk.Clerk.{Clerk}
use Rattle.ec_protocol.specs.declared.clerk.Waiting.{Waiting}
use Rattle.ec_coherence.specs.System.{System, base_of}
use Rattle.ec_coherence.specs.Events.{EventsAgree, shown_boot}
use Rattle.ec_coherence.specs.Steps.{call_of}
use Rattle.ec_coherence.proofs.ForServer.Tables.{same_some}
use Rattle.ec_coherence.specs.StandLaws.{lined}
use Rattle.ec_coherence.specs.Comes.{begun_at}
use Rattle.ec_lawful.specs.OfClerkSteps.Calls.{Began, CallsAgree, IsBefore, IsOpenCall, LosesBelow, StartCalls, is_shown, told_to}
use Rattle.ec_lawful.specs.OfClerkSteps.Waits.{HasLine}
use Rattle.ec_lawful.proofs.OfClerkSteps.ForCalls.CallFrames.{lines-append}
use Rattle.ec_lawful.proofs.OfClerkSteps.ForCalls.Issued.{before-all}
use Rattle.ec_lawful.proofs.OfClerkSteps.ForCalls.Known.{first-line}
use Rattle.ec_base.proofs.Numbers.{same-self as same, equal}
use Rattle.ec_history.proofs.OfLaws.ForPlacing.BasesAlike.{each-map}
use Rattle.ec_history.proofs.OfLaws.ForPlacing.Late.{begun-untold}

-- A call whose line wasn't shown began behind all operations of its start.
pub began-last : (g : System) → EventsAgree g → (c b : ℕ) (k : Clerk) → g.running c ≡ Some b → g.clerks c b ≡ Some k → (before : ℕ) → before + 1 ≡ k.log.next → (place : ℕ) → Each (IsBefore c (shown_boot g c b) place before) g.ghost.history
began-last g events c b k run there before last place =
    subst (λ m. Each (IsBefore c (shown_boot g c b) place m) g.ghost.history) (one (count c (shown_boot g c b) g.ghost.history) (events.counts c b k run there)) (before-all (base_of g) g.durable.max_objects c (shown_boot g c b) place g.ghost.history events.legal)
  where
    one : (m : ℕ) → m + 1 ≡ k.log.next → m ≡ before
    one m e = omega (arith, e, last)

module _ (g : System) (events : EventsAgree g) (c n l : ℕ) (cl : Call) (x : call_of c n g.calls ≡ Some (l, cl)) where
  abbrev h : System
  h = lined g (show.Waits l c cl)

  abbrev line : Shown
  line = show.Waits l c cl

  shown-is : (j : ℕ) → is_shown h j ≡ (is_shown g j || ((l == j) || false))
  shown-is j = list_any-append (is_numbered j) g.ghost.shown (line ∷ [])

  still-shown : (j : ℕ) → is_shown g j ≡ true → is_shown h j ≡ true
  still-shown j e = shown-is j ∙ ap (λ z. z || ((l == j) || false)) e

  pub untold-still : (f : ℕ) → (watch f h.ghost.shown).untold ≡ (watch f g.ghost.shown).untold
  untold-still f = ap (λ z. z.untold) (watch-step f g.ghost.shown line) ∙ cond_both (f == c) (begun (watch f g.ghost.shown)) (watch f g.ghost.shown) (λ z. z.untold ≡ (watch f g.ghost.shown).untold) (λ e. begun-untold (watch f g.ghost.shown)) (λ e. refl)

  began : (f a : ℕ) (k : Clerk) → g.running f ≡ Some a → g.clerks f a ≡ Some k → (w : Waiting) (j : ℕ) → Began g f a k w j → Began h f a k w j
  began f a k run there w j q = record {
    now = λ e. q.now ((or_parts (is_shown g j) ((l == j) || false) (sym (shown-is j) ∙ e)).0);
    earlier = λ e. go (is_shown g j) refl;
  }
    where
      go : (y : Bool) → is_shown g j ≡ y → Each (IsBefore f (shown_boot g f a) (begun_at h f a j) w.begun) g.ghost.history
      go true e =
          let one : begun_at h f a j ≡ begun_at g f a j = ap (last_place f (shown_boot g f a) unwatched 1 0) (first-line j g.ghost.shown (line ∷ []) e) in
          subst (λ m. Each (IsBefore f (shown_boot g f a) m w.begun) g.ghost.history) (sym one) (q.earlier e)
      go false e = began-last g events f a k run there w.begun (q.now e) (begun_at h f a j)

  module _ (q : CallsAgree g) where
    start : (f a : ℕ) (k : Clerk) → g.running f ≡ Some a → g.clerks f a ≡ Some k → StartCalls g f a k → StartCalls h f a k
    start f a k run there s = record {
      lined = each-map (λ w. (j : ℕ) × (call_of f w.no g.calls ≡ Some (j, w.call)) × Began g f a k w j) (λ w. (j : ℕ) × (call_of f w.no h.calls ≡ Some (j, w.call)) × Began h f a k w j) (λ w y. (y.0, y.1, began f a k run there w y.0 y.2)) k.waiting s.lined;
      apart = s.apart;
      numbers = s.numbers;
      own = s.own;
      begun = s.begun;
      lost = subst (λ o. Each (LosesBelow f (shown_boot g f a) k.log.first) (told_to f (shown_boot g f a) o g.ghost.history)) (sym (untold-still f)) s.lost;
    }

    agrees : (f m j : ℕ) (dl : Call) → call_of f m g.calls ≡ Some (j, dl) → Agrees j f dl line
    agrees f m j dl y = go (l == j) refl
      where
        go : (z : Bool) → (l == j) ≡ z → OnTrue z ((c ≡ f) × (cl ≡ dl))
        go false e = tt
        go true e =
            let t = q.lines c f n m l cl dl x (y ∙ ap (λ z. Some (z, dl)) (sym (equal l j e))) in
            (t.0, ap (λ z. z.1) (same_some (sym x ∙ ap (λ z. call_of z n g.calls) t.0 ∙ ap (λ z. call_of f z g.calls) t.1 ∙ y)))

    open-call : (f m j : ℕ) (dl : Call) → call_of f m g.calls ≡ Some (j, dl) → IsOpenCall g f m j dl → IsOpenCall h f m j dl
    open-call f m j dl y o = record {
      boot = o.boot;
      clerk = o.clerk;
      running = o.running;
      stands = o.stands;
      waits = o.waits;
      bounded = o.bounded;
      own = lines-append (Agrees j f dl) g.ghost.shown (line ∷ []) o.own (agrees f m j dl y, tt);
      unanswered = lines-append (Unanswered j) g.ghost.shown (line ∷ []) o.unanswered (tt, tt);
    }

    pub lined-calls : CallsAgree h
    lined-calls = record {
      starts = λ f a k run there. start f a k run there (q.starts f a k run there);
      calls = λ f m j dl y. open-call f m j dl y (q.calls f m j dl y);
      lines = q.lines;
    }

  pub lined-all : (k : Clerk) (earlier : List Waiting) (w : Waiting) → k.waiting ≡ earlier ++ w ∷ [] → w.no ≡ n → w.call ≡ cl → Each (HasLine g c) earlier → Each (HasLine h c) k.waiting
  lined-all k earlier w e same_no same_call r =
      subst (Each (HasLine h c)) (sym e) (each-append (HasLine h c) earlier (w ∷ []) (each-map (HasLine g c) (HasLine h c) (λ v y. (y.0, y.1, still-shown y.0 y.2)) earlier r) (own, tt))
    where
      or_true : (z : Bool) → (z || true) ≡ true
      or_true true = refl
      or_true false = refl

      own : HasLine h c w
      own = (l, ap (λ z. call_of c z g.calls) same_no ∙ x ∙ ap (λ z. Some (l, z)) (sym same_call), shown-is l ∙ ap (λ z. is_shown g l || (z || false)) (same l) ∙ or_true (is_shown g l))
