-- A call of a running clerk begins: all facts stand behind the whole step.
use Rattle.std.proofs.Common.{◌≡◌, refl, sym, ap, subst, ◌∙◌, inl, inr, ◌⊎◌, arith, ◌+◌, ℕ, Bool, true, false, ◌||◌, ◌&&◌, ◌==◌, cond, T, List, [], ◌∷◌, ◌++◌, Some, None, append-nil}
use Rattle.std.specs.Prelude.{is_some, nat_le}
use Rattle.std.specs.List.{list_any}
use Rattle.std.proofs.lemmas.List.Folds.{list_any-append}
use Rattle.ec_base.specs.Limits.{last_counter}
use Rattle.ec_base.specs.declared.counter.Counter.TheVariants as counter
use Rattle.ec_plain.specs.BoundedCalls.{is_bounded}
use Rattle.ec_plain.specs.declared.call.Call.{Call}
use Rattle.ec_history.specs.History.{Each}
use Rattle.ec_history.specs.Placing.{is_numbered, watch, watch_next}
use Rattle.ec_history.specs.Placing.{begun as begun-watch}
use Rattle.ec_history.specs.declared.watch.Watch.{Watch}
use Rattle.ec_history.specs.declared.shown.Shown.{Shown}
use Rattle.ec_history.specs.declared.shown.Shown.TheVariants as show
use Rattle.ec_history.proofs.OfLaws.ForPlacing.More.{watch-step}
use Rattle.ec_protocol.specs.Clerk.{Doing, add_call, begin, doing, evict, settle, spend, try_all}
use Rattle.ec_protocol.specs.World.{is_answer_to}
use Rattle.ec_protocol.specs.declared.clerk.Clerk.{Clerk}
use Rattle.ec_protocol.specs.declared.clerk.Waiting.{Waiting}
use Rattle.ec_coherence.specs.System.{System, Ghost, with_start}
use Rattle.ec_coherence.specs.Steps.{call_of, calls_after, doing_in, sends}
use Rattle.ec_coherence.proofs.ForServer.Lists.{each-more, each-turn}
use Rattle.ec_coherence.proofs.ForServer.Tables.{same_some}
use Rattle.ec_coherence.specs.CommitLaws.{AllAgree}
use Rattle.ec_coherence.specs.StandLaws.{lined}
use Rattle.ec_lawful.specs.OfClerkSteps.Calls.{has_number, is_shown}
use Rattle.ec_lawful.specs.OfClerkSteps.CallLaws.{prepared}
use Rattle.ec_lawful.specs.OfClerkSteps.Waits.{HasLine, IsAtRest, NoneReady, does_wait}
use Rattle.ec_lawful.proofs.OfClerkSteps.ForCalls.Begin.{call-put}
use Rattle.ec_lawful.proofs.OfClerkSteps.ForCalls.Quiets.{quiet-evict}
use Rattle.ec_lawful.specs.OfClerkSteps.Counts.{CountsAgree}
use Rattle.ec_lawful.proofs.OfClerkSteps.ForJoins.CutFrames.{lines-keep-counts}
use Rattle.ec_lawful.proofs.ForWhole.From.{doubts-stay}
use Rattle.ec_lawful.specs.OfClerkSteps.Orderly.{IsOrderly}
use Rattle.ec_lawful.proofs.OfClerkSteps.ForNames.NamesChanging.{clerks-keep}
use Rattle.ec_lawful.proofs.OfClerkSteps.ForDoings.FreesStored.{stills-keep}
use Rattle.ec_lawful.proofs.ForWhole.FreshSteps.{start-fresh}
use Rattle.ec_lawful.specs.FreshIds.{AreQuiet}
use Rattle.ec_lawful.specs.Fresh.{FreshAgrees}
use Rattle.ec_lawful.proofs.ForWhole.LinesTell.{line-tells}
use Rattle.ec_lawful.specs.OfClerkSteps.Frees.{FullsAgree}
use Rattle.ec_lawful.specs.OfClerkSteps.Trying.{IsTrying}
use Rattle.ec_lawful.specs.OfClerkSteps.Zeros.{HasNoZero, ZerosAgree}
use Rattle.ec_lawful.specs.OfClerkSteps.Fulls.{IsFullAt}
use Rattle.ec_lawful.proofs.OfClerkSteps.ForNames.ZerosBehind.{steps-keep}
use Rattle.ec_lawful.proofs.OfClerkSteps.ForNames.Sent.{own-full, settle-own}
use Rattle.ec_lawful.specs.BeginLaws.{HasBegun}
use Rattle.ec_lawful.proofs.ForBegins.Called.{begun-cuts, has-begun}
use Rattle.ec_lawful.specs.Steps.{StepIsDone as IsDone, LineIsNew, in_call}
use Rattle.ec_lawful.specs.Ties.{called, waiting}
use Rattle.ec_lawful.specs.Whole.{ShowsAll, Whole}
use Rattle.ec_lawful.specs.SettleLaws.{Beside, IsLined, TriesAll}
use Rattle.ec_lawful.proofs.ForBegins.Beginning.{begins}
use Rattle.ec_lawful.proofs.ForBegins.Carrying.{no-zero}
use Rattle.ec_lawful.proofs.Settling.{settles-call}
use Rattle.ec_lawful.proofs.LinesLeft.{answered-gone, lines-at-end}
use Rattle.ec_base.proofs.Numbers.{same-self as same, equal}
use Rattle.ec_base.proofs.Options.{none_some}

-- the second where the test fails
cond-false : (z : Bool) (x y : Watch) → z ≡ false → Rattle.std.specs.Prelude.if◌then◌else◌ z x y ≡ y
cond-false true x y e = absurd (cc)
cond-false false x y e = refl

-- the one of this number
pub with-number : (P : Waiting → Type 0) (n : ℕ) (ws : List Waiting) → T (has_number n ws) → Each P ws → (w : Waiting) × ((w.no == n) ≡ true) × P w
with-number P n [] i h = absurd i
with-number P n (w ∷ ws) i h = by (w.no == n) refl i (λ j. with-number P n ws j h.1)
  where
    by : (z : Bool) → (w.no == n) ≡ z → T (z || has_number n ws) → (T (has_number n ws) → (w : Waiting) × ((w.no == n) ≡ true) × P w) → (w : Waiting) × ((w.no == n) ≡ true) × P w
    by true e i more = (w, e, h.0)
    by false e i more = more i

-- Beside a call that begins.
module _ (g : System) (whole : Whole g) (c l : ℕ) (cl : Call) where
  pub shown-by : (j : ℕ) → is_shown g j ≡ true → is_shown (lined g (show.Waits l c cl)) j ≡ true
  shown-by j p = list_any-append (is_numbered j) g.ghost.shown (show.Waits l c cl ∷ []) ∙ ap (λ z. z || list_any (is_numbered j) (show.Waits l c cl ∷ [])) p

  -- the line of a running clerk leaves the counts
  counted : (b : ℕ) → g.running c ≡ Some b → CountsAgree (lined g (show.Waits l c cl))
  counted b runs = lines-keep-counts g whole.counts (show.Waits l c cl) (λ f down. ap (λ w. w.starts) (watch-step f g.ghost.shown (show.Waits l c cl) ∙ go f down (f == c) refl))
    where
      go : (f : ℕ) → g.running f ≡ None → (z : Bool) → (f == c) ≡ z → watch_next f (watch f g.ghost.shown) (show.Waits l c cl) ≡ watch f g.ghost.shown
      go f down true e = absurd (none_some (sym down ∙ ap g.running (equal f c e) ∙ runs))
      go f down false e = cond-false (f == c) (begun-watch (watch f g.ghost.shown)) (watch f g.ghost.shown) e

  module _ (n b : ℕ) (runs : g.running c ≡ Some b) where
    abbrev h : Bool → System
    h z = waiting c l cl z (called c n l cl g)

    other-call : (f m : ℕ) → (f == c) ≡ false → call_of f m (called c n l cl g).calls ≡ call_of f m g.calls
    other-call f m e = call-put c n f m (l, cl) g.calls ∙ ap (λ z. cond (z && (m == n)) (Some (l, cl)) (call_of f m g.calls)) e

    others : (z : Bool) (f a : ℕ) (k : Clerk) → (f == c) ≡ false → IsAtRest g f k → IsAtRest (h z) f k
    others true f a k e q = record { calls = each-turn (λ w. T (does_wait w k) × HasLine g f w) (λ w. T (does_wait w k) × HasLine (h true) f w) k.waiting (λ w x. (x.0, (x.1.0, other-call f w.no e ∙ x.1.1, x.1.2))) q.calls; recalls = q.recalls }
    others false f a k e q =
        record { calls = each-turn (λ w. T (does_wait w k) × HasLine g f w) (λ w. T (does_wait w k) × HasLine (h false) f w) k.waiting (λ w x. (x.0, (x.1.0, other-call f w.no e ∙ x.1.1, shown-by x.1.0 x.1.2))) q.calls; recalls = q.recalls }

    beside : (z : Bool) → Beside (h z) c
    beside true = record {
      orderly = record { each = λ f a k p. (whole.orderly).each f a k p };
      counts = record { counted = (whole.counts).counted; above = (whole.counts).above };
      doubts = doubts-stay g (h true) refl (λ m q. q) whole.doubts;
      others = λ f a k e r p. others true f a k e (whole.rest f a k r p);
    }
    beside false = record {
      orderly = record { each = λ f a k p. (whole.orderly).each f a k p };
      counts = (let q = counted b runs in record { counted = q.counted; above = q.above });
      doubts = doubts-stay g (h false) refl (λ m q. q) whole.doubts;
      others = λ f a k e r p. others false f a k e (whole.rest f a k r p);
    }

module _ (g : System) (whole : Whole g) (c b : ℕ) (k : Clerk) (runs : g.running c ≡ Some b) (there : g.clerks c b ≡ Some k) (tries : (h : System) → TriesAll h c b) (l : ℕ) (cl : Call) (new : LineIsNew g l) (bounded : T (is_bounded cl)) where
  abbrev n : ℕ
  n = k.calls + 1

  abbrev d : Doing
  d = doing (add_call cl k)

  abbrev H : Bool → System
  H z = waiting c l cl z (called c n l cl g)

  first : IsLined g c b (doing k) g.ghost
  first = begins g whole c b k runs there

  t : IsTrying g c b (doing k) g.ghost
  t = first.trying

  begun : (z : Bool) → HasBegun (H z) c b d (H z).ghost
  begun = has-begun g whole.all whole.calls whole.rest c b k runs there l cl new bounded

  orderly : IsOrderly d.clerk
  orderly = let o = t.orderly in record { keyed = o.keyed; recalls = o.recalls; asking = o.asking; log = o.log; sound = o.sound; batches = o.batches }

  zero : HasNoZero d.clerk
  zero = let z = no-zero g c b (doing k) g.ghost t in record { ids = z.ids; undurable = z.undurable; owed = z.owed }

  zeros-at : (γ : Ghost) → γ.kept ≡ g.ghost.kept → γ.frozen ≡ g.ghost.frozen → γ.grants ≡ g.ghost.grants → γ.first ≡ g.ghost.first → ZerosAgree (doing_in c b d γ g)
  zeros-at γ p q r s = steps-keep g c b (doing k) d g.ghost γ (record { origin = refl; kept = p; frozen = q; next_id = refl; grants = r; first = s }) zero t.zeros

  trying : (z : Bool) → IsTrying (H z) c b d (H z).ghost
  trying true =
      let x = begun true in
      let z = zeros-at g.ghost refl refl refl refl in
      let f = stills-keep g c b (doing k) g.ghost t.frees d g.ghost refl refl refl refl refl (inl (refl, refl, refl)) in
      record {
        stands = x.stands;
        place = x.place;
        calls = x.calls;
        turn = x.turn;
        orderly = orderly;
        names = clerks-keep g whole.names c b d.clerk (inl (k, there, refl, refl, λ y m. m)) g.running g.boots (H true).calls (g.pool ++ []) g.ghost refl refl refl (whole.names).kept (whole.names).frozen;
        zeros = record { origin = z.origin; kept = z.kept; frozen = z.frozen; next = z.next; first = z.first; clerks = z.clerks };
        frees = record { unused = f.unused; once = f.once };
        cuts = begun-cuts g whole.all whole.calls whole.rest c b k runs there l cl new bounded true whole.cuts;
      }
  trying false =
      let x = begun false in
      let γ = (H false).ghost in
      let z = zeros-at γ refl refl refl refl in
      let f = stills-keep g c b (doing k) g.ghost t.frees d γ refl refl refl refl refl (inl (refl, refl, refl)) in
      record {
        stands = x.stands;
        place = x.place;
        calls = x.calls;
        turn = x.turn;
        orderly = orderly;
        names = clerks-keep g whole.names c b d.clerk (inl (k, there, refl, refl, λ y m. m)) g.running g.boots (H false).calls (g.pool ++ []) γ refl refl refl (whole.names).kept (whole.names).frozen;
        zeros = record { origin = z.origin; kept = z.kept; frozen = z.frozen; next = z.next; first = z.first; clerks = z.clerks };
        frees = record { unused = f.unused; once = f.once };
        cuts = begun-cuts g whole.all whole.calls whole.rest c b k runs there l cl new bounded false whole.cuts;
      }

  all-of : (z : Bool) → AllAgree (doing_in c b d (H z).ghost (H z))
  all-of z = let s = (begun z).stands in ((s.0).invariant, s.1, s.2, s.3)

  -- the call's line is no answer, and nothing is given
  fresh-so : (h : System) → AllAgree h → (ls : List Shown) → AreQuiet ls → h.origin ≡ g.origin → h.first_boot ≡ g.first_boot → h.durable.next_id ≡ g.durable.next_id → h.ghost.shown ≡ g.ghost.shown ++ ls → h.ghost.fresh ≡ g.ghost.fresh → h.clerks ≡ with_start c b d.clerk g.clerks
      → h.ghost.grants ≡ g.ghost.grants → h.ghost.first ≡ g.ghost.first → FreshAgrees h
  fresh-so h now ls quiet origin first_boot next shown fresh clerks grants first = start-fresh g h whole.all now whole.names ls (record { quiet = quiet; origin = origin; first_boot = first_boot; next = omega (arith, next); shown = shown; fresh = fresh }) c b d.clerk clerks grants first
      (inl (k, there, (refl, refl), λ x m. m)) (whole.shows).fresh

  shows : (z : Bool) → ShowsAll (doing_in c b d (H z).ghost (H z))
  shows true = record {
    tells = record { told = (whole.shows).tells.told; fronts = (whole.shows).tells.fronts };
    fresh = fresh-so (doing_in c b d (H true).ghost (H true)) (all-of true) [] tt refl refl refl (sym (append-nil g.ghost.shown)) refl refl refl refl;
  }
  shows false = record {
    tells = line-tells g (doing_in c b d (H false).ghost (H false)) whole.all (all-of false) (show.Waits l c cl) (record { origin = refl; most = refl; shown = refl; fresh = λ p le. refl }) (whole.shows).tells;
    fresh = fresh-so (doing_in c b d (H false).ghost (H false)) (all-of false) (show.Waits l c cl ∷ []) tt refl refl refl refl refl refl refl refl;
  }

  -- its calls under way have their lines, but for the new one
  old-lines : (m j : ℕ) (cj : Call) → call_of c m g.calls ≡ Some (j, cj) → is_shown g j ≡ true
  old-lines m j cj e =
      let o = (whole.calls).calls c m j cj e in
      let same_boot : o.boot ≡ b = same_some (sym o.running ∙ runs) in
      let same_clerk : o.clerk ≡ k = same_some (sym o.stands ∙ ap (g.clerks c) same_boot ∙ there) in
      let r = with-number (λ w. T (does_wait w k) × HasLine g c w) m k.waiting (subst (λ x. T (has_number m x.waiting)) same_clerk o.waits) (whole.rest c b k runs there).calls in
      let line = r.2.1 in
      subst (λ x. is_shown g x ≡ true) (ap (λ x. x.0) (same_some (sym line.1 ∙ ap (λ x. call_of c x g.calls) (equal (r.0).no m r.1) ∙ e))) line.2

  known : (z : Bool) (e : Doing) → list_any (is_answer_to n) (evict e).outs ≡ z → (m j : ℕ) (cj : Call) → call_of c m (H z).calls ≡ Some (j, cj) → (is_shown (H z) j ≡ true) ⊎ (call_of c m (calls_after c e.outs (H z).calls) ≡ None)
  known true e a m j cj p = by (m == n) refl (sym (call-put c n c m (l, cl) g.calls ∙ ap (λ z. cond (z && (m == n)) (Some (l, cl)) (call_of c m g.calls)) (same c)) ∙ p)
    where
      by : (y : Bool) → (m == n) ≡ y → cond y (Some (l, cl)) (call_of c m g.calls) ≡ Some (j, cj) → (is_shown (H true) j ≡ true) ⊎ (call_of c m (calls_after c e.outs (H true).calls) ≡ None)
      by true f q = inr (ap (λ x. call_of c x (calls_after c e.outs (H true).calls)) (equal m n f) ∙ ap (call_of c n) (sym ((quiet-evict e).outs c (H true).calls)) ∙ answered-gone c n (evict e).outs (H true).calls a)
      by false f q = inl (old-lines m j cj q)
  known false e a m j cj p = by (m == n) refl (sym (call-put c n c m (l, cl) g.calls ∙ ap (λ z. cond (z && (m == n)) (Some (l, cl)) (call_of c m g.calls)) (same c)) ∙ p)
    where
      by : (y : Bool) → (m == n) ≡ y → cond y (Some (l, cl)) (call_of c m g.calls) ≡ Some (j, cj) → (is_shown (H false) j ≡ true) ⊎ (call_of c m (calls_after c e.outs (H false).calls) ≡ None)
      by true f q = inl (subst (λ x. is_shown (H false) x ≡ true) (ap (λ x. x.0) (same_some q)) own)
        where
          own : is_shown (H false) l ≡ true
          own = list_any-append (is_numbered l) g.ghost.shown (show.Waits l c cl ∷ []) ∙ last (list_any (is_numbered l) g.ghost.shown)
            where
              last : (y : Bool) → (y || ((l == l) || false)) ≡ true
              last true = refl
              last false = ap (λ z. z || false) (same l)
      by false f q = inl (shown-by g whole c l cl j (old-lines m j cj q))

  fulls : (z : Bool) (δ : Ghost) → FullsAgree (doing_in c b (settle d) δ (H z))
  fulls true δ = each-more (λ m. IsFullAt g.durable.max_objects m.1) g.pool (sends c (settle d).outs) whole.fulls (own-full c g.durable.max_objects (settle d).outs (settle-own d tt))
  fulls false δ = each-more (λ m. IsFullAt g.durable.max_objects m.1) g.pool (sends c (settle d).outs) whole.fulls (own-full c g.durable.max_objects (settle d).outs (settle-own d tt))

  none : NoneReady d.clerk
  none = (whole.rest c b k runs there).recalls

  settled : (z : Bool) → list_any (is_answer_to n) (settle d).outs ≡ z → IsDone Whole (H z) c b (settle d)
  settled z a = settles-call (H z) c b (tries (H z)) (beside g whole c l cl n b runs z) d (H z).ghost (trying z) none (shows z)
      (λ δ u. lines-at-end (H z) c b (try_all (prepared d)) δ u (known z (try_all (prepared d)) a)) (fulls z)

  pub calls-whole : IsDone Whole (in_call c l cl k g) c b (begin cl k)
  calls-whole = by (nat_le last_counter k.calls) refl
    where
      by : (y : Bool) → nat_le last_counter k.calls ≡ y → IsDone Whole (in_call c l cl k g) c b (begin cl k)
      by true q = inl (subst (λ y. T (is_some (elim y as (λ x. Doing) [ true ↦ spend counter.CallNo (doing k) | false ↦ settle d ]).spent)) (sym q) tt)
      by false q = go (begin cl k) (ap (λ y. elim y as (λ x. Doing) [ true ↦ spend counter.CallNo (doing k) | false ↦ settle d ]) q)
        where
          go : (e : Doing) → e ≡ settle d → IsDone Whole (waiting c l cl (list_any (is_answer_to n) e.outs) (called c n l cl g)) c b e
          go e p = subst (λ x. IsDone Whole (waiting c l cl (list_any (is_answer_to n) x.outs) (called c n l cl g)) c b x) (sym p) (settled (list_any (is_answer_to n) (settle d).outs) refl)
