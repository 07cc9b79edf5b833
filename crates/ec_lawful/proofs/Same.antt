-- A step under way goes on with all facts: where its clerk changes nothing, and where it takes a session.
use Rattle.std.proofs.Common.{◌≡◌, refl, sym, ap, subst, ◌∙◌, inl, arith, ℕ, true, false, not, ◌==◌, ◌&&◌, T, [], Some, None, append-nil}
use Rattle.std.specs.Prelude.{Contains}
use Rattle.ec_base.specs.declared.ids.Age.{Age}
use Rattle.ec_history.specs.History.{Each}
use Rattle.ec_wire.specs.declared.msg.Msg.TheVariants.{Claim, Opened}
use Rattle.ec_protocol.specs.Clerk.{Doing, doing, emit, has_session, hello, same_age, send, with_clerk}
use Rattle.ec_protocol.specs.declared.clerk.Clerk.{Clerk}
use Rattle.ec_protocol.specs.declared.clerk.Out.TheVariants as out
use Rattle.ec_coherence.specs.System.{System, Ghost}
use Rattle.ec_coherence.specs.Clerks.{take_session}
use Rattle.ec_coherence.specs.Steps.{call_of, doing_in}
use Rattle.ec_coherence.proofs.ForBatches.ClerkIn.{start-same}
use Rattle.ec_coherence.specs.CommitLaws.{AllAgree}
use Rattle.ec_coherence.specs.StandLaws.{ClerkStands}
use Rattle.ec_lawful.specs.OfClerkSteps.Calls.{Began, CallsAgree, IsOpenCall, StartCalls}
use Rattle.ec_lawful.specs.OfClerkSteps.Waits.{HasLine}
use Rattle.ec_lawful.specs.OfClerkSteps.CallLaws.{IsQuiet}
use Rattle.ec_lawful.proofs.OfClerkSteps.ForCalls.Quiet.{quiet-calls, quiet-lines}
use Rattle.ec_lawful.specs.OfClerkSteps.Names.{NamesAgree}
use Rattle.ec_lawful.specs.OfClerkSteps.Orderly.{IsOrderly}
use Rattle.ec_lawful.proofs.OfClerkSteps.ForNames.NameFrames.{names-read}
use Rattle.ec_lawful.proofs.OfClerkSteps.ForNames.NamesChanging.{opened-keeps}
use Rattle.ec_lawful.specs.OfClerkSteps.Frees.{FreesAgree}
use Rattle.ec_lawful.specs.OfClerkSteps.Zeros.{HasNoZero, ZerosAgree}
use Rattle.ec_lawful.specs.OfClerkSteps.Trying.{IsTrying}
use Rattle.ec_lawful.proofs.OfClerkSteps.ForNames.ZerosBehind.{steps-keep}
use Rattle.ec_lawful.proofs.OfClerkSteps.ForDoings.FreesStored.{opened-keeps-frees, stills-keep}
use Rattle.ec_lawful.specs.OfClerkSteps.JoinLaws.{IsGoing}
use Rattle.ec_lawful.proofs.OfClerkSteps.ForJoins.Joined as joins
use Rattle.ec_lawful.proofs.OfClerkSteps.ForJoins.Wholes as wholes
use Rattle.ec_lawful.specs.Fresh.{FreshAgrees}
use Rattle.ec_lawful.proofs.ForBegins.Ids.{opened-old}
use Rattle.ec_lawful.proofs.ForWhole.FreshSteps.{start-fresh, twice}
use Rattle.ec_lawful.specs.Whole.{ShowsAll, Whole}
use Rattle.ec_lawful.proofs.Telling.{quiet-step-tells}
use Rattle.ec_lawful.specs.SettleLaws.{IsLined}
use Rattle.ec_lawful.proofs.ForBegins.Beginning.{begins}
use Rattle.ec_lawful.proofs.ForBegins.Carrying.{same-shows}
use Rattle.ec_base.proofs.Numbers.{same-self as same}
use Rattle.ec_history.proofs.OfLaws.ForPlacing.BasesAlike.{each-map}

same-ages : (a b : Age) → a ≡ b → same_age a b ≡ true
same-ages a b e = ap (λ z. same_age z b) e ∙ ap (λ z. z && (b.round == b.round)) (same b.boot) ∙ same b.round

-- All together.
pub lined-so : (g : System) (c b : ℕ) (k : Clerk) (e : Doing) (δ : Ghost) → IsGoing g c b k e δ → CallsAgree (doing_in c b e δ g) → Each (HasLine (doing_in c b e δ g) c) e.clerk.waiting
    → IsOrderly e.clerk → NamesAgree (doing_in c b e δ g) → ZerosAgree (doing_in c b e δ g) → FreesAgree (doing_in c b e δ g) → ShowsAll (doing_in c b e δ g) → IsLined g c b e δ
lined-so g c b k e δ z calls lines orderly names zeros frees shows = record {
  trying = record {
    stands = z.stands;
    place = z.place;
    calls = calls;
    turn = inl lines;
    orderly = orderly;
    names = names;
    zeros = zeros;
    frees = frees;
    cuts = z.cuts;
  };
  lines = lines;
  shows = shows;
}

-- Calls don't read which sessions were taken.
module _ (g : System) (c b : ℕ) (e : Doing) (γ : Ghost) (s : ℕ) where
  abbrev was : System
  was = doing_in c b e γ g

  abbrev now : System
  now = doing_in c b e (take_session s γ) g

  start : (f a : ℕ) (k : Clerk) → StartCalls was f a k → StartCalls now f a k
  start f a k q = record {
    lined = each-map (λ w. (l : ℕ) × (call_of f w.no was.calls ≡ Some (l, w.call)) × Began was f a k w l) (λ w. (l : ℕ) × (call_of f w.no now.calls ≡ Some (l, w.call)) × Began now f a k w l)
        (λ w x. (x.0, x.1, record { now = (x.2).now; earlier = (x.2).earlier })) k.waiting q.lined;
    apart = q.apart;
    numbers = q.numbers;
    own = q.own;
    begun = q.begun;
    lost = q.lost;
  }

  open-call : (f n l : ℕ) (cl : Rattle.ec_plain.specs.declared.call.Call.Call) → IsOpenCall was f n l cl → IsOpenCall now f n l cl
  open-call f n l cl q = record { boot = q.boot; clerk = q.clerk; running = q.running; stands = q.stands; waits = q.waits; bounded = q.bounded; own = q.own; unanswered = q.unanswered }

  pub taken-calls : CallsAgree was → CallsAgree now
  taken-calls q = record { starts = λ f a k r p. start f a k (q.starts f a k r p); calls = λ f n l cl x. open-call f n l cl (q.calls f n l cl x); lines = q.lines }

module _ (g : System) (whole : Whole g) (c b : ℕ) (k : Clerk) (runs : g.running c ≡ Some b) (at-start : g.clerks c b ≡ Some k) where
  abbrev d : Doing
  d = doing k

  abbrev γ : Ghost
  γ = g.ghost

  pub first : IsLined g c b d γ
  first = begins g whole c b k runs at-start

  t : IsTrying g c b d γ
  t = first.trying

  there : (doing_in c b d γ g).clerks c b ≡ Some k
  there = start-same c b k g.clerks

  pub no-zero : HasNoZero k
  no-zero = (t.zeros).clerks c b k there

  all-of : {e : Doing} {δ : Ghost} → ClerkStands g c b e δ → AllAgree (doing_in c b e δ g)
  all-of st = ((st.0).invariant, st.1, st.2, st.3)

  all-here : AllAgree (doing_in c b d γ g)
  all-here = ((t.stands.0).invariant, t.stands.1, t.stands.2, t.stands.3)

  -- It greets.

  hello-quiet : IsQuiet d (hello d)
  hello-quiet = record { waiting = refl; calls = refl; next = refl; first = refl; own = λ n x. x; outs = λ c calls. refl }

  greeted : IsGoing g c b k (hello d) γ
  greeted = wholes.greeted g whole.all whole.cuts c b k runs at-start

  pub greets : IsLined g c b (hello d) γ
  greets = lined-so g c b k (hello d) γ greeted (quiet-calls g c b d (hello d) γ hello-quiet t.calls) (quiet-lines g c b d (hello d) γ hello-quiet first.lines) t.orderly
      (names-read (doing_in c b d γ g) (doing_in c b (hello d) γ g) t.names refl refl (grind arith) refl refl refl refl refl)
      (steps-keep g c b d (hello d) γ γ (record { origin = refl; kept = refl; frozen = refl; next_id = refl; grants = refl; first = refl }) no-zero t.zeros)
      (stills-keep g c b d γ t.frees (hello d) γ refl refl refl refl refl (inl (refl, refl, refl))) (same-shows g c b d (hello d) γ t (all-of greeted.stands) (refl, refl, refl) first.shows)

  -- It shows that its boot is old.

  module _ (a : Age) where
    abbrev old : Doing
    old = emit (out.OldBoot a) d

    old-quiet : IsQuiet d old
    old-quiet = record { waiting = refl; calls = refl; next = refl; first = refl; own = λ n x. x; outs = λ c calls. refl }

    olds : IsGoing g c b k old γ
    olds = wholes.shows-old g whole.all whole.cuts c b k runs at-start a

    pub shows-old : IsLined g c b old γ
    shows-old = lined-so g c b k old γ olds (quiet-calls g c b d old γ old-quiet t.calls) (quiet-lines g c b d old γ old-quiet first.lines) t.orderly
        (names-read (doing_in c b d γ g) (doing_in c b old γ g) t.names refl refl (grind arith) refl refl refl refl refl)
        (steps-keep g c b d old γ γ (record { origin = refl; kept = refl; frozen = refl; next_id = refl; grants = refl; first = refl }) no-zero t.zeros)
        (stills-keep g c b d γ t.frees old γ refl refl refl refl refl (inl (refl, refl, refl))) (same-shows g c b d old γ t (all-of olds.stands) (refl, refl, refl) first.shows)

  -- It takes a session.

  module _ (without : k.session ≡ None) (age : Age) (s e : ℕ) (sent : Contains g.pool (c, Opened age s e)) (own : age ≡ k.age) where
    abbrev takes : Doing
    takes = send (Claim s e []) (with_clerk (λ k. record k { session = Some s; epoch = e }) d)

    owns : g.ghost.owner s ≡ Some (c, k.age)
    owns = wholes.of-sessions g whole.all whole.cuts c b k runs at-start (Opened age s e) sent ∙ ap (λ a. Some (c, a)) own

    untaken : T (not (g.ghost.taken s))
    untaken = joins.untaken g whole.all c b k runs at-start without s e owns

    test : (not (has_session k) && same_age age k.age) ≡ true
    test = ap (λ o. not (Rattle.std.specs.Prelude.is_some o) && same_age age k.age) without ∙ same-ages age k.age own

    quiet : IsQuiet d takes
    quiet = record { waiting = refl; calls = refl; next = refl; first = refl; own = λ n x. x; outs = λ c calls. refl }

    orderly : IsOrderly takes.clerk
    orderly = record { keyed = (t.orderly).keyed; recalls = (t.orderly).recalls; asking = (t.orderly).asking; log = (t.orderly).log; sound = (t.orderly).sound; batches = (t.orderly).batches }

    opened : IsGoing g c b k takes (take_session s γ)
    opened = wholes.opens g whole.all whole.cuts c b k runs at-start without age s e sent own

    -- it has none in store
    fresh-now : FreshAgrees (doing_in c b takes (take_session s γ) g)
    fresh-now = start-fresh (doing_in c b d γ g) (doing_in c b takes (take_session s γ) g) all-here (all-of opened.stands) t.names [] (record { quiet = tt; origin = refl; first_boot = refl; next = grind arith; shown = sym (append-nil γ.shown); fresh = refl }) c b takes.clerk
        (twice g c b d takes γ (take_session s γ) takes.clerk) refl refl (opened-old g c b d γ all-here without s e untaken) first.shows.fresh

    pub opens : IsLined g c b takes (take_session s γ)
    opens = lined-so g c b k takes (take_session s γ) opened (taken-calls g c b takes γ s (quiet-calls g c b d takes γ quiet t.calls))
        (quiet-lines g c b d takes γ quiet first.lines) orderly
        (subst (λ z. NamesAgree (doing_in c b (elim z as (λ y. Doing) [ true ↦ takes | false ↦ d ]) (take_session s γ) g)) test (opened-keeps g c b d γ t.names all-here without age s e untaken))
        (steps-keep g c b d takes γ (take_session s γ) (record { origin = refl; kept = refl; frozen = refl; next_id = refl; grants = refl; first = refl }) (record { ids = no-zero.ids; undurable = no-zero.undurable; owed = no-zero.owed }) t.zeros)
        (subst (λ z. FreesAgree (doing_in c b (elim z as (λ y. Doing) [ true ↦ takes | false ↦ d ]) (take_session s γ) g)) test (opened-keeps-frees g c b d γ t.frees all-here without age s e untaken))
        (record { tells = quiet-step-tells g c b d takes γ (take_session s γ) refl refl first.shows.tells; fresh = fresh-now })
