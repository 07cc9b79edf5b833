-- What the next link makes of a server's links.
use Rattle.std.proofs.Common.{◌≡◌, ◌⊎◌, ◌+◌, ◌<◌, ◌≤◌, ℕ, true, false, List, length, Err, refl, sym, ap, ◌∙◌, subst, inl, inr, ⊎_elim, [], append-nil, arith}
use Rattle.std.specs.declared.snapshot.Snapshot.{Snapshot}
use mathlib.Core.List.{IsPrefix}
use Rattle.ec_link.specs.Nets.{Ended}
use Rattle.ec_link.specs.NetAnswers.{faulted}
use Rattle.ec_link.specs.declared.net.NetFault.{NetFault}
use Rattle.ec_link.specs.declared.net.NetFault.TheVariants as fault
use Rattle.ec_lock.specs.PassViews.{front, numbers}
use Rattle.ec_lock.specs.Steps.{Member, of}
use Rattle.ec_lock.specs.declared.types.Pass.{Pass}
use Rattle.ec_servernode.specs.declared.state.Node.{Node}
use Rattle.ec_servernode.specs.declared.step.Step.{Step}
use Rattle.ec_servernode.specs.Run.{number_of}
use Rattle.ec_servernode.proofs.Lists.{prefix_self}
use Rattle.ec_serve.specs.declared.threads.connections.Tally.{Tally}
use Rattle.ec_serve.specs.OfThreads.Moments.{Back}
use Rattle.ec_serve.specs.OfThreads.ServingMoments.{Moment, moment, GoesOn}
use Rattle.ec_serve.specs.OfThreads.Tallies.{KnowsMore, Looks, Begins}
use Rattle.ec_serve.specs.OfThreads.Goings.{goes_still, goes_onward}

pub one_le : 1 ≤ 1
one_le = omega arith

pub faults_one : (A : Type 0) (a b : ℕ) (x : NetFault) → x ≡ fault.Failed → a + faulted {A = A} (Err x) ≤ b → a + 1 ≤ b
faults_one A a b x is le = subst (λ y. a + faulted {A = A} (Err y) ≤ b) is le

pub no_fault : (a b n : ℕ) → a + n ≤ b → a ≤ b
no_fault a b n le = omega (arith, le)

one_fault : (a b n : ℕ) → a + n ≤ b → 1 ≤ n → a < b
one_fault a b n le some = omega (arith, le, some)

-- a pass knows what it knows
pub knows_same : {K : Type 0} (pass : Pass (Node K) Step) → KnowsMore pass pass
knows_same pass = (refl, prefix_self (front pass), λ n m. refl)

module _ {N L : Type 0} (faults_of bad_of : N → ℕ) (ended_of : N → List Ended) (back_of : Snapshot L → Back) where
  -- the net may have failed so often, and no link came back
  pub goes_on : {K : Type 0} (net later : N) (t u : Tally L) (pass next : Pass (Node K) Step) (n : ℕ) → faults_of net + n ≤ faults_of later → bad_of later ≡ bad_of net → ended_of later ≡ ended_of net
      → u.left + length u.begun.items ≡ t.left + length t.begun.items → u.back ≡ t.back → (u.failed ≡ true → (t.failed ≡ true) ⊎ (1 ≤ n)) → (u.wants ≡ false → t.wants ≡ false) → KnowsMore pass next
      → GoesOn faults_of bad_of ended_of back_of (moment net t pass) (moment later u next)
  goes_on net later t u pass next n faults bad ended number back fails rich knows =
      goes_still faults_of bad_of ended_of back_of (moment net t pass) (moment later u next)
      (no_fault (faults_of net) (faults_of later) n faults) number (λ e. ⊎_elim (λ (was : t.failed ≡ true). inl was) (λ (some : 1 ≤ n). inr (one_fault (faults_of net) (faults_of later) n faults some)) (fails e))
      (ap (λ b. b.items) back) rich ended bad (λ k m. subst (Member k) (sym knows.0) m) knows.1 knows.2

  -- a link came, or none
  pub goes_begun : {K : Type 0} (net later : N) (t u : Tally L) (pass next : Pass (Node K) Step) (came : ℕ) → faults_of net + 0 ≤ faults_of later → bad_of later ≡ bad_of net → ended_of later ≡ ended_of net
      → Begins came t u → KnowsMore pass next → GoesOn faults_of bad_of ended_of back_of (moment net t pass) (moment later u next)
  goes_begun net later t u pass next came faults bad ended begun knows = goes_on net later t u pass next 0 faults bad ended begun.0 begun.2 (λ e. inl (sym begun.3 ∙ e)) begun.4 knows

  -- it was looked whether a further link is to come
  pub goes_looked : {K : Type 0} (net : N) (t u : Tally L) (pass : Pass (Node K) Step) → Looks t u → GoesOn faults_of bad_of ended_of back_of (moment net t pass) (moment net u pass)
  goes_looked net t u pass look =
      goes_still faults_of bad_of ended_of back_of (moment net t pass) (moment net u pass)
      (omega arith) (ap (λ n. n + length u.begun.items) look.0 ∙ ap (λ b. t.left + length b.items) look.1) (λ e. inl (sym look.3 ∙ e)) (ap (λ b. b.items) look.2) look.4 refl refl (λ n m. m) ([], append-nil (front pass)) (λ n m. refl)

  -- the server's own pass knows more, and may have taken in that of the warden
  pub goes_joined : {K : Type 0} (net : N) (t : Tally L) (pass next : Pass (Node K) Step) → ((n : ℕ) → Member n (numbers pass) → Member n (numbers next)) → IsPrefix (front pass) (front next)
      → ((n : ℕ) → Member n (numbers pass) → of number_of n (front pass) ≡ of number_of n (front next)) → GoesOn faults_of bad_of ended_of back_of (moment net t pass) (moment net t next)
  goes_joined net t pass next kept later same =
      goes_still faults_of bad_of ended_of back_of (moment net t pass) (moment net t next) (omega arith) refl (λ e. inl e) refl (λ e. e) refl refl kept later same

  -- the warden was started behind other moments
  pub goes_watched : {K : Type 0} (a : Moment N L) (net : N) (t u : Tally L) (pass next : Pass (Node K) Step) → GoesOn faults_of bad_of ended_of back_of a (moment net t pass) → u ≡ t → KnowsMore pass next
      → GoesOn faults_of bad_of ended_of back_of a (moment net u next)
  goes_watched a net t u pass next before same knows =
      subst (λ x. GoesOn faults_of bad_of ended_of back_of a (moment net x next)) (sym same)
      (goes_onward faults_of bad_of ended_of back_of a (moment net t pass) (moment net t next) before
      (goes_joined net t pass next (λ n m. subst (Member n) (sym knows.0) m) knows.1 knows.2))
