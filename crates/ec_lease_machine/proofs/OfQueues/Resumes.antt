-- A call of a running clerk begins whose line was shown before: all facts stand behind the whole step.
use Rattle.std.proofs.Common.{◌≡◌, refl, sym, ap, subst, ◌∙◌, inl, ◌⊎◌, arith, ◌+◌, ℕ, Bool, true, false, ◌||◌, ◌&&◌, ◌==◌, cond, T, List, [], ◌∷◌, ◌++◌, Some, None, append-nil}
use Rattle.std.specs.Prelude.{is_some, nat_le}
use Rattle.ec_base.specs.Limits.{last_counter}
use Rattle.ec_base.specs.declared.counter.Counter.TheVariants as counter
use Rattle.ec_plain.specs.BoundedCalls.{is_bounded}
use Rattle.ec_plain.specs.declared.call.Call.{Call}
use Rattle.ec_history.specs.History.{Each}
use Rattle.ec_protocol.specs.Clerk.{Doing, add_call, begin, doing, settle, spend, try_all}
use Rattle.ec_protocol.specs.declared.clerk.Clerk.{Clerk}
use Rattle.ec_protocol.specs.declared.clerk.Waiting.{Waiting}
use Rattle.ec_coherence.specs.System.{System, Ghost}
use Rattle.ec_coherence.specs.Steps.{call_of, calls_after, doing_in, sends}
use Rattle.ec_coherence.proofs.ForServer.Lists.{each-more, each-turn}
use Rattle.ec_coherence.proofs.ForServer.Tables.{same_some}
use Rattle.ec_coherence.specs.CommitLaws.{AllAgree}
use Rattle.ec_lawful.specs.OfClerkSteps.Calls.{has_number, is_shown}
use Rattle.ec_lawful.specs.OfClerkSteps.CallLaws.{prepared}
use Rattle.ec_lawful.specs.OfClerkSteps.Frees.{FullsAgree}
use Rattle.ec_lawful.specs.OfClerkSteps.Fulls.{IsFullAt}
use Rattle.ec_lawful.specs.OfClerkSteps.Orderly.{IsOrderly}
use Rattle.ec_lawful.specs.OfClerkSteps.Trying.{IsTrying}
use Rattle.ec_lawful.specs.OfClerkSteps.Waits.{HasLine, IsAtRest, NoneReady, does_wait}
use Rattle.ec_lawful.specs.OfClerkSteps.Zeros.{HasNoZero, ZerosAgree}
use Rattle.ec_lawful.proofs.OfClerkSteps.ForCalls.Begin.{call-put}
use Rattle.ec_lawful.proofs.OfClerkSteps.ForDoings.FreesStored.{stills-keep}
use Rattle.ec_lawful.proofs.OfClerkSteps.ForNames.NamesChanging.{clerks-keep}
use Rattle.ec_lawful.proofs.OfClerkSteps.ForNames.Sent.{own-full, settle-own}
use Rattle.ec_lawful.proofs.OfClerkSteps.ForNames.ZerosBehind.{steps-keep}
use Rattle.ec_lawful.specs.BeginLaws.{HasBegun}
use Rattle.ec_lawful.specs.Fresh.{FreshAgrees}
use Rattle.ec_lawful.specs.SettleLaws.{Beside, IsLined, TriesAll}
use Rattle.ec_lawful.specs.Steps.{StepIsDone as IsDone}
use Rattle.ec_lawful.specs.Ties.{called}
use Rattle.ec_lawful.specs.Whole.{ShowsAll, Whole}
use Rattle.ec_lawful.proofs.CallsBegin.{with-number}
use Rattle.ec_lawful.proofs.ForBegins.Beginning.{begins}
use Rattle.ec_lawful.proofs.ForBegins.Carrying.{no-zero}
use Rattle.ec_lawful.proofs.ForWhole.FreshSteps.{start-fresh}
use Rattle.ec_lawful.proofs.ForWhole.From.{doubts-stay}
use Rattle.ec_lawful.proofs.LinesLeft.{lines-at-end}
use Rattle.ec_lawful.proofs.Settling.{settles-call}
use Rattle.ec_lease_machine.specs.OfQueues.Queued.{MayBegin}
use Rattle.ec_lease_machine.proofs.OfQueues.Resumed.{has-resumed, resumed-cuts}
use Rattle.ec_base.proofs.Numbers.{same-self as same, equal}

-- Beside a call that begins.
module _ (g : System) (whole : Whole g) (c n l : ℕ) (cl : Call) where
  abbrev h : System
  h = called c n l cl g

  other-call : (f m : ℕ) → (f == c) ≡ false → call_of f m h.calls ≡ call_of f m g.calls
  other-call f m e = call-put c n f m (l, cl) g.calls ∙ ap (λ z. cond (z && (m == n)) (Some (l, cl)) (call_of f m g.calls)) e

  others : (f a : ℕ) (k : Clerk) → (f == c) ≡ false → IsAtRest g f k → IsAtRest h f k
  others f a k e q = record { calls = each-turn (λ w. T (does_wait w k) × HasLine g f w) (λ w. T (does_wait w k) × HasLine h f w) k.waiting (λ w x. (x.0, (x.1.0, other-call f w.no e ∙ x.1.1, x.1.2))) q.calls; recalls = q.recalls }

  beside : Beside h c
  beside = record {
    orderly = record { each = λ f a k p. (whole.orderly).each f a k p };
    counts = record { counted = (whole.counts).counted; above = (whole.counts).above };
    doubts = doubts-stay g h refl (λ m q. q) whole.doubts;
    others = λ f a k e r p. others f a k e (whole.rest f a k r p);
  }

module _ (g : System) (whole : Whole g) (c b : ℕ) (k : Clerk) (runs : g.running c ≡ Some b) (there : g.clerks c b ≡ Some k) (tries : (h : System) → TriesAll h c b) (l : ℕ) (cl : Call) (may : MayBegin g c l cl) (shown : is_shown g l ≡ true) (bounded : T (is_bounded cl)) where
  abbrev n : ℕ
  n = k.calls + 1

  abbrev d : Doing
  d = doing (add_call cl k)

  abbrev H : System
  H = called c n l cl g

  first : IsLined g c b (doing k) g.ghost
  first = begins g whole c b k runs there

  t : IsTrying g c b (doing k) g.ghost
  t = first.trying

  begun : HasBegun H c b d g.ghost
  begun = has-resumed g whole.all whole.calls whole.rest c b k runs there l cl may bounded

  orderly : IsOrderly d.clerk
  orderly = let o = t.orderly in record { keyed = o.keyed; recalls = o.recalls; asking = o.asking; log = o.log; sound = o.sound; batches = o.batches }

  zero : HasNoZero d.clerk
  zero = let z = no-zero g c b (doing k) g.ghost t in record { ids = z.ids; undurable = z.undurable; owed = z.owed }

  zeros-at : ZerosAgree (doing_in c b d g.ghost g)
  zeros-at = steps-keep g c b (doing k) d g.ghost g.ghost (record { origin = refl; kept = refl; frozen = refl; next_id = refl; grants = refl; first = refl }) zero t.zeros

  trying : IsTrying H c b d g.ghost
  trying =
      let x = begun in
      let z = zeros-at in
      let f = stills-keep g c b (doing k) g.ghost t.frees d g.ghost refl refl refl refl refl (inl (refl, refl, refl)) in
      record {
        stands = x.stands;
        place = x.place;
        calls = x.calls;
        turn = x.turn;
        orderly = orderly;
        names = clerks-keep g whole.names c b d.clerk (inl (k, there, refl, refl, λ y m. m)) g.running g.boots H.calls (g.pool ++ []) g.ghost refl refl refl (whole.names).kept (whole.names).frozen;
        zeros = record { origin = z.origin; kept = z.kept; frozen = z.frozen; next = z.next; first = z.first; clerks = z.clerks };
        frees = record { unused = f.unused; once = f.once };
        cuts = resumed-cuts g whole.all whole.calls whole.rest c b k runs there l cl may bounded whole.cuts;
      }

  all-of : AllAgree (doing_in c b d g.ghost H)
  all-of = let s = begun.stands in ((s.0).invariant, s.1, s.2, s.3)

  -- no line is shown, and nothing is given
  fresh-so : FreshAgrees (doing_in c b d g.ghost H)
  fresh-so = start-fresh g (doing_in c b d g.ghost H) whole.all all-of whole.names [] (record { quiet = tt; origin = refl; first_boot = refl; next = omega arith; shown = sym (append-nil g.ghost.shown); fresh = refl }) c b d.clerk refl refl refl
      (inl (k, there, (refl, refl), λ x m. m)) (whole.shows).fresh

  shows : ShowsAll (doing_in c b d g.ghost H)
  shows = record {
    tells = record { told = (whole.shows).tells.told; fronts = (whole.shows).tells.fronts };
    fresh = fresh-so;
  }

  -- its calls under way have their lines, and so has the new one
  old-lines : (m j : ℕ) (cj : Call) → call_of c m g.calls ≡ Some (j, cj) → is_shown g j ≡ true
  old-lines m j cj e =
      let o = (whole.calls).calls c m j cj e in
      let same_boot : o.boot ≡ b = same_some (sym o.running ∙ runs) in
      let same_clerk : o.clerk ≡ k = same_some (sym o.stands ∙ ap (g.clerks c) same_boot ∙ there) in
      let r = with-number (λ w. T (does_wait w k) × HasLine g c w) m k.waiting (subst (λ x. T (has_number m x.waiting)) same_clerk o.waits) (whole.rest c b k runs there).calls in
      let line = r.2.1 in
      subst (λ x. is_shown g x ≡ true) (ap (λ x. x.0) (same_some (sym line.1 ∙ ap (λ x. call_of c x g.calls) (equal (r.0).no m r.1) ∙ e))) line.2

  known : (e : Doing) (m j : ℕ) (cj : Call) → call_of c m H.calls ≡ Some (j, cj) → (is_shown H j ≡ true) ⊎ (call_of c m (calls_after c e.outs H.calls) ≡ None)
  known e m j cj p = by (m == n) refl (sym (call-put c n c m (l, cl) g.calls ∙ ap (λ z. cond (z && (m == n)) (Some (l, cl)) (call_of c m g.calls)) (same c)) ∙ p)
    where
      by : (y : Bool) → (m == n) ≡ y → cond y (Some (l, cl)) (call_of c m g.calls) ≡ Some (j, cj) → (is_shown H j ≡ true) ⊎ (call_of c m (calls_after c e.outs H.calls) ≡ None)
      by true f q = inl (subst (λ x. is_shown H x ≡ true) (ap (λ x. x.0) (same_some q)) shown)
      by false f q = inl (old-lines m j cj q)

  fulls : (δ : Ghost) → FullsAgree (doing_in c b (settle d) δ H)
  fulls δ = each-more (λ m. IsFullAt g.durable.max_objects m.1) g.pool (sends c (settle d).outs) whole.fulls (own-full c g.durable.max_objects (settle d).outs (settle-own d tt))

  none : NoneReady d.clerk
  none = (whole.rest c b k runs there).recalls

  settled : IsDone Whole H c b (settle d)
  settled = settles-call H c b (tries H) (beside g whole c n l cl) d g.ghost trying none shows
      (λ δ u. lines-at-end H c b (try_all (prepared d)) δ u (known (try_all (prepared d)))) fulls

  pub resumes-whole : IsDone Whole H c b (begin cl k)
  resumes-whole = by (nat_le last_counter k.calls) refl
    where
      by : (y : Bool) → nat_le last_counter k.calls ≡ y → IsDone Whole H c b (begin cl k)
      by true q = inl (subst (λ y. T (is_some (elim y as (λ x. Doing) [ true ↦ spend counter.CallNo (doing k) | false ↦ settle d ]).spent)) (sym q) tt)
      by false q = subst (IsDone Whole H c b) (sym (ap (λ y. elim y as (λ x. Doing) [ true ↦ spend counter.CallNo (doing k) | false ↦ settle d ]) q)) settled
