-- The first call of a clerk's next start has begun, and its line shows that it waits.
use Rattle.std.proofs.Common.{◌≡◌, refl, sym, ap, subst, ◌∙◌, inl, ◌<◌, ◌+◌, ◌-◌, ℕ, T, true, false, List, [], ◌∷◌, ◌++◌, Option, Some, None, append-nil}
use Rattle.ec_plain.specs.BoundedCalls.{is_bounded}
use Rattle.ec_plain.specs.declared.call.Call.{Call}
use Rattle.std.specs.Prelude.{length}
use Rattle.std.specs.List.{filter}
use Rattle.ec_history.specs.History.{Op, owed}
use Rattle.ec_history.specs.Legal.{is_op_of}
use Rattle.ec_history.specs.Placing.{watch}
use Rattle.ec_history.specs.declared.shown.Shown.TheVariants as show
use Rattle.ec_wire.specs.declared.msg.Msg.{Msg}
use Rattle.ec_wire.specs.declared.msg.Msg.TheVariants.{Hello}
use Rattle.ec_protocol.specs.Clerk.{add_call, doing, new_clerk}
use Rattle.ec_protocol.specs.declared.clerk.Clerk.{Clerk}
use Rattle.ec_protocol.specs.declared.clerk.Waiting.{Waiting}
use Rattle.ec_coherence.specs.System.{System, at_session, base_of, with_start}
use Rattle.ec_coherence.specs.Events.{CutAgrees, EventsAgree, shown_boot}
use Rattle.ec_coherence.specs.ChangeLaws.{Calls, with_clerk}
use Rattle.ec_coherence.specs.Steps.{call_of, doing_in}
use Rattle.ec_coherence.proofs.ForBatches.ClerkIn.{start-same}
use Rattle.ec_coherence.specs.CommitLaws.{AllAgree}
use Rattle.ec_coherence.specs.StandLaws.{ClerkStands, SessionGoesOn, lined}
use Rattle.ec_lawful.specs.OfClerkSteps.Counts.{CountsAgree}
use Rattle.ec_lawful.specs.OfClerkSteps.Cuts.{CutsAgree}
use Rattle.ec_lawful.specs.OfClerkSteps.JoinLaws.{started}
use Rattle.ec_lawful.proofs.OfClerkSteps.ForJoins.Begins.{fresh-stands, start-stands}
use Rattle.ec_lawful.proofs.OfClerkSteps.ForJoins.OutsideChanges.{outside-all, outside-cuts}
use Rattle.ec_lawful.specs.Steps.{LineIsNew}
use Rattle.ec_lawful.specs.OfClerkSteps.Calls.{CallsAgree}
use Rattle.ec_lawful.specs.OfClerkSteps.CallLaws.{IsNewLine}
use Rattle.ec_lawful.proofs.OfClerkSteps.ForCalls.Begin.{begun-call, begun-calls, fresh-lines}
use Rattle.ec_lawful.proofs.OfClerkSteps.ForCalls.Lined.{lined-all, lined-calls}
use Rattle.ec_lawful.proofs.OfClerkSteps.ForCalls.Quiet.{split-start}
use Rattle.ec_lawful.proofs.OfClerkSteps.ForCalls.Told.{up-calls}
use Rattle.ec_lawful.specs.BeginLaws.{HasBegun, first_call}
use Rattle.ec_lawful.proofs.ForBegins.Called.{new-line}
use Rattle.ec_base.proofs.Numbers.{same-self as same}

-- The facts on the history don't read a clerk's waiting calls.
module _ (g : System) (old : EventsAgree g) (c b : ℕ) (k : Clerk) (there : g.clerks c b ≡ Some k) (cl : Call) (calls : Calls) where
  abbrev now : Clerk
  now = add_call cl k

  abbrev h : System
  h = with_clerk g c b now calls []

  cut : (f a s : ℕ) (m n : Clerk) (ks : List Op) → n.owed ≡ m.owed → CutAgrees g f a s m ks → CutAgrees h f a s n ks
  cut f a s m n ks e q = record { before = q.before; at = q.at; lost = q.lost; behind = q.behind; was = q.was; keeps = q.keeps; alone = q.alone; untold = q.untold; owes = q.owes ∙ sym e; frozen = q.frozen; later = q.later }

  pub events-begun : EventsAgree h
  events-begun = record {
    placeable = old.placeable;
    placed = old.placed;
    starts = old.starts;
    untold = λ f a m r p u. split-start c b f a m now g.clerks (λ x y z. g.running x ≡ Some y → ((s : ℕ) → g.ghost.owner s ≡ Some (x, z.age) → g.ghost.frozen s ≡ None) → (watch x g.ghost.shown).untold ≡ None) p (λ i v. old.untold c b k i there v) (λ d i j v. old.untold f a m j i v) r u;
    keeps = old.keeps;
    legal = old.legal;
    owes = λ f a m r p u. split-start c b f a m now g.clerks (λ x y z. g.running x ≡ Some y → ((s : ℕ) → g.ghost.owner s ≡ Some (x, z.age) → g.ghost.frozen s ≡ None) → owed (base_of g) g.ghost.history x (shown_boot g x y) ≡ z.owed) p (λ i v. old.owes c b k i there v) (λ d i j v. old.owes f a m j i v) r u;
    counts = λ f a m r p. split-start c b f a m now g.clerks (λ x y z. g.running x ≡ Some y → length (filter (is_op_of x (shown_boot g x y)) g.ghost.history) + 1 ≡ z.log.next) p (λ i. old.counts c b k i there) (λ d i j. old.counts f a m j i) r;
    covered = old.covered;
    untouched = old.untouched;
    cuts = λ f a s m ks r p o fz. split-start c b f a m now g.clerks (λ x y z. g.running x ≡ Some y → g.ghost.owner s ≡ Some (x, z.age) → CutAgrees h x y s z ks) p (λ i u. cut c b s k now ks refl (old.cuts c b s k ks i there u fz)) (λ d i j u. cut f a s m m ks refl (old.cuts f a s m ks j i u fz)) r o;
  }

module _ (g : System) (all : AllAgree g) (q : CallsAgree g) (counts : CountsAgree g) (c : ℕ) (small : c < 16) (down : g.running c ≡ None) (l : ℕ) (cl : Call) (new : LineIsNew g l) (bounded : T (is_bounded cl)) where
  abbrev b : ℕ
  b = g.boots c + 1

  abbrev first : Clerk
  first = new_clerk c b

  abbrev begins : Clerk
  begins = add_call cl first

  abbrev calls : Calls
  calls = first_call c l cl g

  abbrev pool : List (ℕ × Msg)
  pool = g.pool ++ (c, Hello c (record { boot = b; round = 0 })) ∷ []

  abbrev v : Waiting
  v = record { no = 1; call = cl; begun = first.log.next - 1 }

  up-events : EventsAgree (started g c g.calls)
  up-events = ((fresh-stands g all counts c small down g.calls).invariant).events

  own-runs : at_session c (Some b) g.running c ≡ Some b
  own-runs = ap (λ z. elim z as (λ y. Option ℕ) [ true ↦ Some b | false ↦ g.running c ]) (same c)

  up-agrees : CallsAgree (started g c g.calls)
  up-agrees = up-calls g c b first (at_session c b g.boots) pool down up-events refl refl refl q

  up-new : IsNewLine (started g c g.calls) l
  up-new = let n = new-line g l new in record { unshown = n.unshown; unused = n.unused }

  -- the start with its call, before its line
  abbrev pub fresh : System
  fresh = with_clerk (started g c calls) c b begins calls []

  pub fresh-events : EventsAgree fresh
  fresh-events = events-begun (started g c calls) ((fresh-stands g all counts c small down calls).invariant).events c b first (start-same c b first g.clerks) cl calls

  pub fresh-calls : CallsAgree fresh
  fresh-calls = subst (λ p. CallsAgree (record (started g c calls) { clerks = with_start c b begins (with_start c b first g.clerks); pool = p })) (sym (append-nil pool))
      (begun-calls (started g c g.calls) up-events c b l cl first own-runs (start-same c b first g.clerks) up-new bounded up-agrees)

  pub own-call : call_of c 1 calls ≡ Some (l, cl)
  own-call = begun-call (started g c g.calls) up-events c b l cl first own-runs (start-same c b first g.clerks) up-new bounded up-agrees

  goes : SessionGoesOn first begins
  goes = record { id = refl; age = refl; session = refl; owed = refl; next = refl }

  abbrev shown : System
  shown = lined (started g c calls) (show.Waits l c cl)

  at-start : AllAgree shown × CountsAgree shown × (CutsAgree g → CutsAgree shown)
  at-start = start-stands g all counts c small down calls l cl (fresh-lines l c cl g.ghost.shown new.unshown).0

  its-all : AllAgree (with_clerk shown c b begins calls [])
  its-all = outside-all shown at-start.0 c b first begins (start-same c b first g.clerks) refl goes refl refl refl refl calls [] tt tt tt

  stands : ClerkStands shown c b (doing begins) shown.ghost
  stands = (record { runs = own-runs; shown = sym (append-nil shown.ghost.shown); invariant = its-all.0 }, its-all.1, its-all.2, its-all.3)

  pub first-begun : HasBegun shown c b (doing begins) shown.ghost
  first-begun = record {
    stands = stands;
    place = inl refl;
    calls = lined-calls fresh fresh-events c 1 l cl own-call fresh-calls;
    turn = inl (lined-all fresh fresh-events c 1 l cl own-call begins [] v refl refl refl tt);
  }

  pub first-counts : CountsAgree shown
  first-counts = at-start.1

  pub first-cuts : CutsAgree g → CutsAgree (doing_in c b (doing begins) shown.ghost shown)
  first-cuts x = outside-cuts shown at-start.0 c b first begins (start-same c b first g.clerks) refl goes refl refl refl refl calls [] tt tt tt (at-start.2 x)
